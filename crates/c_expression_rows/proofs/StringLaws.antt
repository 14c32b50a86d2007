-- What string literals mean.
use Rattle.std.proofs.Common.{◌≡◌, ◌<◌, ◌+◌, ℕ, Bool, true, false, List, length, refl, sym, ap, ◌∙◌, subst}
use Rattle.std.specs.Prelude.{Ok, if◌then◌else◌}
use Rattle.c_syntax.specs.declared.kind.SynKind.TheVariants as kind
use Rattle.c_syntax.specs.declared.syntax.SynNode.{SynNode}
use Rattle.c_typing.specs.Judgements as rules
use Rattle.c_typing.specs.Judgements.{Judgement, means, verdict}
use Rattle.c_typing.specs.Rules.{size_fault}
use Rattle.c_typing.specs.Expressions.{expression, literal}
use Rattle.c_typing.specs.Initializers.{fills, string, target}
use Rattle.c_typing.specs.Typing.{judged_by}
use Rattle.c_names.specs.Denoted.{places_in}
use Rattle.c_judgements.specs.declared.judged.Judged.TheVariants as judged
use Rattle.c_meanings.specs.declared.meanings.Meanings.{Meanings}
use Rattle.c_meanings.specs.Meanings.{IsAnswered, IsReady, IsRow, judged_at, judged_to, node_in}
use Rattle.c_meanings.proofs.MeaningLaws.{plain_row}

module _ (table : List SynNode) (n : ℕ) (is : (node_in table n).label.kind ≡ kind.Str) (own : (node_in table n).id ≡ n) where
  -- the bytes of the string
  abbrev bytes : List ℕ
  bytes = (node_in table n).label.bytes

  abbrev object : ℕ → Judgement
  object i = verdict (size_fault (length bytes + 1) i) (expression (literal (places_in table) (judged_to table n) bytes))

  abbrev by_test : Bool → ℕ → Judgement
  by_test b i = if b then means rules.fills_array else object i

  string_is : judged_at table n ≡ by_test (fills (target (places_in table) (judged_to table n) n)) n
  unfolding judged_at judged_by string
  string_is = ap (judged_by (places_in table) (judged_to table n) (node_in table n)) is ∙ ap (λ i. by_test (fills (target (places_in table) (judged_to table n) i)) i) own

  module _ (b : Bool) (told : b ≡ fills (target (places_in table) (judged_to table n) n)) where
    pub object_is : b ≡ false → judged_at table n ≡ object n
    object_is e = string_is ∙ ap (λ b. by_test b n) (sym told ∙ e)

    pub filling_row : (m : Meanings) → IsReady table n 0 m → n < length table → b ≡ true → IsRow table n m m (Ok judged.FillsArray)
    filling_row m r within e =
        plain_row table n 0 m (Ok judged.FillsArray) r within refl
        (subst (IsAnswered m.types (Ok judged.FillsArray)) (sym (string_is ∙ ap (λ b. by_test b n) (sym told ∙ e))) (refl, tt, refl))
