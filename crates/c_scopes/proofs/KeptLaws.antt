-- A log is kept by each step, and by taking the newest step back.
use Rattle.std.proofs.Common.{◌≡◌, ℕ, ◌<◌, ◌≤◌, Bool, true, false, List, [], ◌∷◌, length, if◌then◌else◌, unwrap_or, Bor, Some, refl, sym, ◌∙◌, arith}
use Rattle.std.specs.Str.{bytes_eq}
use Rattle.std.proofs.lemmas.Map.Text.{hash_map_updates_str}
use Rattle.std.proofs.lemmas.Slice.Eq.{bytes_eq-Decides}
use Rattle.indexmap.specs.IndexMap.{IndexMap, UpdatesBy, get_by}
use Rattle.c_grammar.specs.Scopes.{Names, add, entry}
use Rattle.c_scopes.specs.declared.scopes.Addition.{Addition}
use Rattle.c_scopes.specs.declared.scopes.Latest.{Latest}
use Rattle.c_scopes.specs.declared.scopes.Step.{Step}
use Rattle.c_scopes.specs.declared.scopes.Step.TheVariants.{Opened, Added}
use Rattle.c_scopes.specs.ScopeLog.{IsKept, declared_again, latest_in, names_of, recorded, undeclared}
use Rattle.c_scopes.proofs.LatestLaws.{latest_in-add, latest_in-add_other}

pub length-add : (names : Names) (name : List ℕ) (is_typedef : Bool) → 0 < length names → length (add names (entry name is_typedef)) ≡ length names
length-add [] name is_typedef some = absurd (omega arith)
length-add (scope ∷ outer) name is_typedef some = refl

pub length-names_of : (log : List Step) → length (names_of log) ≤ length log
length-names_of [] = omega arith
length-names_of (Opened ∷ older) = omega (arith, length-names_of older)
length-names_of (Added a ∷ older) = by (names_of older) (length-names_of older)
  where
    by : (names : Names) → length names ≤ length older → length (add names (entry a.declared.name.now a.declared.is_typedef)) ≤ length (Added a ∷ older)
    by [] short = omega arith
    by (scope ∷ outer) short = omega arith

-- a map with another record at a name
pub recorded-updated : {S : Type 0} (name : List ℕ) (old new : IndexMap (Bor (List ℕ)) Latest S) (latest : Latest)
    → UpdatesBy (λ x y. bytes_eq x.now y.now) (λ key. bytes_eq name key.now) old new (Some latest)
    → (other : List ℕ) → recorded new other ≡ (if bytes_eq name other then latest else recorded old other)
recorded-updated name old new latest updates other = rw (hash_map_updates_str name old new (Some latest) updates other) (by (bytes_eq name other))
  where
    by : (b : Bool) → unwrap_or (if b then Some latest else get_by (λ key. bytes_eq other key.now) old) undeclared ≡ (if b then latest else recorded old other)
    by true = refl
    by false = refl

module _ {S : Type 0} (log : List Step) (latest : IndexMap (Bor (List ℕ)) Latest S) (depth : ℕ) where
  module _ (a : Addition) (after : IndexMap (Bor (List ℕ)) Latest S) where
    pub added-kept : IsKept log latest depth → 0 < length (names_of log) → a.before ≡ recorded latest a.declared.name.now
        → ((other : List ℕ) → recorded after other ≡ (if bytes_eq a.declared.name.now other then declared_again a.before depth a.declared.is_typedef else recorded latest other))
        → IsKept (Added a ∷ log) after depth
    added-kept kept some before updated = record {
      undoable = (before ∙ kept.says a.declared.name.now, some, kept.undoable);
      says = λ other. updated other ∙ by other (bytes_eq a.declared.name.now other) refl;
      counts = kept.counts ∙ sym (length-add (names_of log) a.declared.name.now a.declared.is_typedef some);
    }
      where
        by : (other : List ℕ) (b : Bool) → bytes_eq a.declared.name.now other ≡ b
            → (if b then declared_again a.before depth a.declared.is_typedef else recorded latest other) ≡ latest_in (names_of (Added a ∷ log)) other
        by other true same =
            rw (← (bytes_eq-Decides a.declared.name.now other).0 same, latest_in-add a.declared.name.now a.declared.is_typedef (names_of log) some, ← kept.says a.declared.name.now, ← before, ← kept.counts) refl
        by other false different = kept.says other ∙ sym (latest_in-add_other a.declared.name.now a.declared.is_typedef (names_of log) other different)

    -- a name that was declared last is in the map
    pub added-recorded : IsKept (Added a ∷ log) latest depth → 0 < (recorded latest a.declared.name.now).depth
    added-recorded kept = rw (kept.says a.declared.name.now, latest_in-add a.declared.name.now a.declared.is_typedef (names_of log) kept.undoable.1) kept.undoable.1

    pub undone-kept : IsKept (Added a ∷ log) latest depth
        → ((other : List ℕ) → recorded after other ≡ (if bytes_eq a.declared.name.now other then a.before else recorded latest other))
        → IsKept log after depth
    undone-kept kept updated = record {
      undoable = kept.undoable.2;
      says = λ other. updated other ∙ by other (bytes_eq a.declared.name.now other) refl;
      counts = kept.counts ∙ length-add (names_of log) a.declared.name.now a.declared.is_typedef kept.undoable.1;
    }
      where
        by : (other : List ℕ) (b : Bool) → bytes_eq a.declared.name.now other ≡ b
            → (if b then a.before else recorded latest other) ≡ latest_in (names_of log) other
        by other true same = rw (← (bytes_eq-Decides a.declared.name.now other).0 same) kept.undoable.0
        by other false different = kept.says other ∙ latest_in-add_other a.declared.name.now a.declared.is_typedef (names_of log) other different
