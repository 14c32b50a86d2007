-- What a block means by its parts.
use Rattle.std.proofs.Common.{◌≡◌, ℕ, true, false, List, [], ◌∷◌, Option, Some, None, length, map, refl, sym, ap, ◌∙◌}
use Rattle.std.specs.Prelude.{IfOk, Ok, Err, Result, flat_map, is_some}
use Rattle.std.proofs.lemmas.Bool.{false≢true}
use Rattle.std.proofs.lemmas.List.{length-map}
use Rattle.c_syntax.specs.declared.kind.SynKind.TheVariants as kind
use Rattle.c_syntax.specs.declared.syntax.SynId.{SynId}
use Rattle.c_syntax.specs.declared.syntax.SynNode.{SynNode}
use Rattle.c_types.specs.declared.tree.Stmt.{Stmt}
use Rattle.c_typing.specs.Places.{numbers}
use Rattle.c_typing.specs.Judgements.{all_of, code_at, given, means, performs, waits}
use Rattle.c_typing.specs.Statements.{block_node, block_of, does}
use Rattle.c_typing.specs.Typing.{judged_by}
use Rattle.c_names.specs.Denoted.{places_in}
use Rattle.c_meanings.specs.Meanings.{judged_at, judged_to, node_in}
use Rattle.c_statement_rows.proofs.PartLaws.{run_of, run_whole}

-- so many numbers as ids
pub as_many : (ids : List SynId) (ks : List ℕ) → numbers ids ≡ ks → length ids ≡ length ks
as_many ids ks e = sym (length-map ids (λ (id : SynId). id.number)) ∙ ap length e

-- one block of them all
pub block_made : {E : Type 0} → (found : Result (List Stmt) E) (s : Stmt) (whole : List Stmt) (f : ℕ → Option (List Stmt)) (xs : List ℕ) → IfOk found (λ ss. ss ≡ s ∷ []) → s ≡ block_of whole → whole ≡ run_of f xs
    → IfOk found (λ ss. (parts : List (List Stmt)) → all_of (map f xs) ≡ Some parts → ss ≡ block_of (flat_map (λ ps. ps) parts) ∷ [])
block_made (Ok ss) s whole f xs e own run = λ parts all. e ∙ ap (λ t. t ∷ []) (own ∙ ap block_of (run ∙ run_whole f xs parts all))
block_made (Err e) s whole f xs h own run = tt

module _ (table : List SynNode) (n : ℕ) (is : (node_in table n).label.kind ≡ kind.Block) where
  abbrev codes : Option (List (List Stmt))
  codes = all_of (map (code_at (judged_to table n)) (node_in table n).kids)

  block_is : judged_at table n ≡ given codes (λ parts. means (does (block_of (flat_map (λ ss. ss) parts))))
  unfolding judged_at judged_by block_node
  block_is = ap (judged_by (places_in table) (judged_to table n) (node_in table n)) is

  pub block_waits : is_some codes ≡ false → judged_at table n ≡ waits
  block_waits e = block_is ∙ by codes e
    where
      by : (o : Option (List (List Stmt))) → is_some o ≡ false → given o (λ parts. means (does (block_of (flat_map (λ ss. ss) parts)))) ≡ waits
      by None e = refl
      by (Some parts) e = absurd (false≢true (sym e))

  pub block_means : (parts : List (List Stmt)) → codes ≡ Some parts → judged_at table n ≡ means (performs (block_of (flat_map (λ ss. ss) parts) ∷ []))
  block_means parts e = block_is ∙ ap (λ o. given o (λ parts. means (does (block_of (flat_map (λ ss. ss) parts))))) e

  pub known_parts : is_some codes ≡ true → (parts : List (List Stmt)) × (codes ≡ Some parts)
  known_parts e = by codes e
    where
      by : (o : Option (List (List Stmt))) → is_some o ≡ true → (parts : List (List Stmt)) × (o ≡ Some parts)
      by (Some parts) e = (parts, refl)
      by None e = absurd (false≢true e)

  pub with_parts : {E : Type 0} → (found : Result (List Stmt) E) (parts : List (List Stmt)) → codes ≡ Some parts
      → IfOk found (λ ss. (parts : List (List Stmt)) → codes ≡ Some parts → ss ≡ block_of (flat_map (λ ps. ps) parts) ∷ [])
      → IfOk found (λ ss. ss ≡ block_of (flat_map (λ ps. ps) parts) ∷ [])
  with_parts (Ok ss) parts e h = h parts e
  with_parts (Err x) parts e h = tt
