-- The parameters of a function, and one argument.
use Rattle.std.proofs.Common.{◌≡◌, ◌≢◌, ℕ, zero, suc, Bool, not, List, [], ◌∷◌, length, drop, get_or, refl, sym, ap, ◌∙◌, subst}
use Rattle.c_types.specs.declared.kind.TypeId.{TypeId}
use Rattle.c_typing.specs.Types.{CType, CTypes, function, listed, no_types, a_type}
use Rattle.c_typing.specs.Judgements.{Typing}
use Rattle.c_typing.specs.Conversions.{is_null, is_assignable_by}
use Rattle.c_typing.specs.Rules.{broken_if, bad_conversion}
use Rattle.c_type_ids.specs.declared.kinds.Kind.{Kind}
use Rattle.c_type_ids.specs.declared.kinds.Kind.TheVariants as kind
use Rattle.c_type_ids.specs.Ids.{Known, Names, NamesAll, Shows}

pub as_many : (k : Known) (ids : List TypeId) (ts : CTypes) → NamesAll k ids ts → length ids ≡ length (listed ts)
as_many k [] no_types h = refl
as_many k [] (a_type t ts) h = absurd h
as_many k (id ∷ ids) no_types h = absurd h
as_many k (id ∷ ids) (a_type t ts) h = ap suc (as_many k ids ts h.1)

pub named_at : (k : Known) (ids : List TypeId) (ts : CTypes) (i : ℕ) (d : TypeId) (t : CType) (rest : List CType) → NamesAll k ids ts → drop i (listed ts) ≡ t ∷ rest
    → Names k (get_or ids i d) t
named_at k [] no_types zero d t rest h e = absurd (cc e)
named_at k [] no_types (suc i) d t rest h e = absurd (cc e)
named_at k [] (a_type u ts) i d t rest h e = absurd h
named_at k (id ∷ ids) no_types i d t rest h e = absurd h
named_at k (id ∷ ids) (a_type u ts) zero d t rest h e = let same : u ≡ t = cc e in subst (Names k id) same h.0
named_at k (id ∷ ids) (a_type u ts) (suc i) d t rest h e = named_at k ids ts i d t rest h.1 e

-- what the type of a function is shown as
pub shows_function : (k : Known) (K : Kind) (r : CType) (ts : CTypes) → Shows k K (function r ts) → ((gives : TypeId) → K ≢ kind.Function gives) → ⊥
shows_function k (kind.Function gives) r ts h none = none gives refl
shows_function k K r ts h none = absurd h

-- ---- the conversion of an argument

pub conversion : (t : CType) (y : Typing) (n : ℕ) (allowed null : Bool) → allowed ≡ is_assignable_by t y.type null → null ≡ is_null y.constant
    → bad_conversion t y n ≡ broken_if (not allowed) 14 n
conversion t y n allowed null is same = ap (λ b. broken_if (not b) 14 n) (sym (is ∙ ap (λ b. is_assignable_by t y.type b) same))
