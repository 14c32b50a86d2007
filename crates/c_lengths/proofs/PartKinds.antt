-- Parts of declarators by their kinds and by what they mean.
use Rattle.std.proofs.Common.{◌≡◌, ℕ, true, false, List, [], ◌∷◌, Some, None, refl, sym, ap, true≢false}
use Rattle.std.specs.Prelude.{get_or}
use Rattle.c_syntax.specs.declared.kind.SynKind.{SynKind}
use Rattle.c_syntax.specs.declared.kind.SynKind.TheVariants as kind
use Rattle.c_typing.specs.Places.{is_declarator}
use Rattle.c_typing.specs.Judgements.{Judgement, Meaning, PlacedStep, breaks_rules, means, steps, steps_of, waits}
use Rattle.c_typing.specs.Shapes as category
use Rattle.c_typing.specs.Shapes.{Category, no_category, category_by, in_parentheses, kids_fit}
use Rattle.c_typing.proofs.ProgressForms.{is_part}
use Rattle.c_typing.proofs.ProgressKinds as of
use Rattle.c_typing.proofs.ProgressPlaces.{some_same}
use Rattle.c_typing.proofs.ProgressBuilt.{is_leaf}

no : {A : Type 0} → false ≡ true → A
no e = absurd (true≢false (sym e))

gone : {A : Type 0} {x : A} → None ≡ Some x → ⊥
gone e = cc e

-- the part inside of a part
pub inner_part : (k : SynKind) (text : List ℕ) (cs : List Category) → is_declarator k ≡ true → is_leaf k ≡ false → kids_fit k text cs ≡ true → is_part (category_by k text cs) ≡ true → is_part (get_or cs 0 no_category) ≡ true
unfolding category_by
inner_part kind.Pointer text cs d l f p = of.of_pointer text cs f
inner_part kind.ArrayOf text cs d l f p = (of.of_array text cs f).0
inner_part kind.Takes text cs d l f p = (of.of_takes text cs f).0
inner_part kind.Paren text cs d l f p = by cs p
  where
    by : (cs : List Category) → is_part (in_parentheses cs) ≡ true → is_part (get_or cs 0 no_category) ≡ true
    by (category.declarator ∷ cs) p = refl
    by (category.abstract_declarator ∷ cs) p = refl
    by (category.no_name ∷ cs) p = refl
    by (category.expression l ∷ cs) p = no p
    by (_ ∷ cs) p = no p
    by [] p = no p
inner_part kind.Ident text cs d l f p = absurd (true≢false l)
inner_part kind.NoName text cs d l f p = absurd (true≢false l)
inner_part _ text cs d l f p = no d

pub steps_mean : (j : Judgement) (ss : List PlacedStep) → steps_of j ≡ Some ss → j ≡ means (steps ss)
steps_mean (means m) ss e = by m e
  where
    by : (m : Meaning) → steps_of (means m) ≡ Some ss → means m ≡ means (steps ss)
    by (steps xs) e = ap (λ ys. means (steps ys)) (some_same e)
    by _ e = absurd (gone e)
steps_mean (breaks_rules f fs) ss e = absurd (gone e)
steps_mean waits ss e = absurd (gone e)
