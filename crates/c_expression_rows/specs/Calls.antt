-- What is found of a call.
use Rattle.std.specs.Prelude.{◌≡◌, ◌≢◌, ℕ, false, List, [], ◌∷◌, Option, Some, length, map}
use Rattle.c_syntax.specs.declared.syntax.SynNode.{SynNode}
use Rattle.c_typing.specs.Types.{CType, CTypes, function, is_function, listed}
use Rattle.c_typing.specs.Places.{other_kids}
use Rattle.c_typing.specs.Judgements as rules
use Rattle.c_typing.specs.Judgements.{Callee, Judgement, all_of, callee, faults_in, typing_at, waits}
use Rattle.c_type_ids.specs.Ids.{Known}
use Rattle.c_values.specs.declared.typings.Typing.{Typing}
use Rattle.c_values.specs.Typings.{Is}
use Rattle.c_answers.specs.Answers.{IsFirst}
use Rattle.c_answers.specs.declared.refusal.Refusal.TheVariants as refusal
use Rattle.c_calls.specs.Arguments.{IsCallable}
use Rattle.c_meanings.specs.Meanings.{judged_at, judged_to, kid_in, node_in}
use Rattle.c_expression_rows.specs.declared.callees.Called.{Called}
use Rattle.c_expression_rows.specs.declared.callees.Called.TheVariants as called

-- the arguments, where each has a meaning
abbrev pub arguments_of : List SynNode → ℕ → Option (List rules.Typing)
arguments_of table n = all_of (map (typing_at (judged_to table n)) (other_kids (node_in table n)))

-- these are the expressions of the first of these nodes, one each
abbrev pub AreOf : Known → List Judgement → List Typing → List ℕ → Type 0
AreOf k js [] ns = Unit {0}
AreOf k js (t ∷ ts) [] = ⊥
AreOf k js (t ∷ ts) (n ∷ ns) = ((y : rules.Typing) → typing_at js n ≡ Some y → Is k t y) × AreOf k js ts ns

-- of an expression that is called with so many arguments
abbrev pub IsCalled : Called → rules.Typing → ℕ → Type 0
IsCalled called.Waits f arguments = (c : Callee) × (f.form ≡ callee c) × (is_function f.type ≡ false)
IsCalled called.NoFunction f arguments = (c : Callee) → f.form ≢ callee c
IsCalled called.WrongNumber f arguments = (c : Callee) × (r : CType) × (ts : CTypes) × (f.form ≡ callee c) × (f.type ≡ function r ts) × (length (listed ts) ≢ arguments)
IsCalled called.Fits f arguments = (c : Callee) × (r : CType) × (ts : CTypes) × (f.form ≡ callee c) × (f.type ≡ function r ts) × (length (listed ts) ≡ arguments)

-- of the call at a node
abbrev pub IsCalledAt : Called → List SynNode → ℕ → Type 0
IsCalledAt called.Waits table n = judged_at table n ≡ waits
IsCalledAt called.NoFunction table n = IsFirst (refusal.Broken 16 n) (faults_in (judged_at table n))
IsCalledAt called.WrongNumber table n = IsFirst (refusal.Broken 15 n) (faults_in (judged_at table n))
IsCalledAt called.Fits table n =
    (f : rules.Typing) × (xs : List rules.Typing) × (typing_at (judged_to table n) (kid_in table n 0) ≡ Some f) × (arguments_of table n ≡ Some xs) × IsCallable f.form f.type
