-- What is called, and the arguments of a call.
use Rattle.std.specs.Prelude.{◌≡◌, true, List, [], ◌∷◌}
use Rattle.c_typing.specs.Types.{CType, is_function}
use Rattle.c_typing.specs.Judgements as rules
use Rattle.c_type_ids.specs.Ids.{Known}
use Rattle.c_values.specs.declared.typings.Typing.{Typing}
use Rattle.c_values.specs.Typings.{Is}

-- each is the expression of the rules at its place
abbrev pub AreTypings : Known → List Typing → List rules.Typing → Type 0
AreTypings k [] [] = Unit {0}
AreTypings k (t ∷ ts) (x ∷ xs) = Is k t x × AreTypings k ts xs
AreTypings k ts xs = ⊥

-- the name of a function has the type of one
abbrev pub IsCallable : rules.Form → CType → Type 0
IsCallable (rules.callee c) t = is_function t ≡ true
IsCallable f t = Unit {0}
