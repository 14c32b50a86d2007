-- What the scopes say of a name, before and behind a declaration.
use Rattle.std.proofs.Common.{◌≡◌, ℕ, ◌+◌, ◌<◌, ◌≤◌, Bool, true, false, ◌&&◌, ◌||◌, List, [], ◌∷◌, ◌++◌, length, if◌then◌else◌, refl, sym, ap, ◌∙◌, true≢false, arith}
use Rattle.std.specs.Str.{bytes_eq}
use Rattle.std.proofs.lemmas.List.Folds.{list_any-append}
use Rattle.std.proofs.lemmas.Slice.Eq.{bytes_eq-Decides}
use Rattle.std.proofs.lemmas.Grind.{common_steps}
use Rattle.c_grammar.specs.Scopes.{Entry, Names, add, declares, declares_typedef, entry, is_typedef_name}
use Rattle.c_scopes.specs.ScopeLog.{declared_again, latest_in}

pub is_typedef-latest_in : (names : Names) (name : List ℕ) → (latest_in names name).is_typedef ≡ is_typedef_name names name
is_typedef-latest_in [] name = refl
is_typedef-latest_in (scope ∷ outer) name = by (declares name scope) refl (is_typedef-latest_in outer name)
  where
    by : (b : Bool) → declares name scope ≡ b → (latest_in outer name).is_typedef ≡ is_typedef_name outer name
        → (latest_in (scope ∷ outer) name).is_typedef ≡ is_typedef_name (scope ∷ outer) name
    by true e further = rw e refl
    by false e further = rw e further

pub depth-latest_in : (names : Names) (name : List ℕ) → (latest_in names name).depth ≤ length names
depth-latest_in [] name = omega arith
depth-latest_in (scope ∷ outer) name = by (declares name scope) refl (depth-latest_in outer name)
  where
    by : (b : Bool) → declares name scope ≡ b → (latest_in outer name).depth ≤ length outer
        → (latest_in (scope ∷ outer) name).depth ≤ length (scope ∷ outer)
    by true e further = rw e (omega arith)
    by false e further = rw e (omega (arith, further))

-- a scope that does not declare a name has no typedef of it
pub declares_typedef-undeclared : (scope : List Entry) (name : List ℕ) → declares name scope ≡ false → declares_typedef name scope ≡ false
declares_typedef-undeclared [] name e = refl
declares_typedef-undeclared (x ∷ scope) name e = by (bytes_eq x.name name) x.is_typedef refl (declares_typedef-undeclared scope name)
  where
    by : (b t : Bool) → bytes_eq x.name name ≡ b → (declares name scope ≡ false → declares_typedef name scope ≡ false)
        → (t && bytes_eq x.name name || declares_typedef name scope) ≡ false
    by true t same further = absurd (true≢false (sym (ap (λ b. b || declares name scope) same) ∙ e))
    by false true other further = rw other (further (sym (ap (λ b. b || declares name scope) other) ∙ e))
    by false false other further = further (sym (ap (λ b. b || declares name scope) other) ∙ e)

module _ (name : List ℕ) (is_typedef : Bool) where
  -- what a scope says of a name, behind one more declaration
  declares-add : (scope : List Entry) (other : List ℕ) → declares other (scope ++ entry name is_typedef) ≡ (declares other scope || bytes_eq name other)
  declares-add scope other = grind (arith, common_steps, list_any-append (λ e. bytes_eq e.name other) scope (entry name is_typedef))

  declares_typedef-add : (scope : List Entry) (other : List ℕ)
      → declares_typedef other (scope ++ entry name is_typedef) ≡ (declares_typedef other scope || (is_typedef && bytes_eq name other))
  declares_typedef-add scope other =
      grind (arith, common_steps, list_any-append (λ e. e.is_typedef && bytes_eq e.name other) scope (entry name is_typedef))

  -- other names stay as they were
  pub latest_in-add_other : (names : Names) (other : List ℕ) → bytes_eq name other ≡ false
      → latest_in (add names (entry name is_typedef)) other ≡ latest_in names other
  latest_in-add_other [] other e = refl
  latest_in-add_other (scope ∷ outer) other e = rw (declares-add scope other, declares_typedef-add scope other, e) (grind (arith, common_steps))

  -- the name has one more declaration
  pub latest_in-add : (names : Names) → 0 < length names
      → latest_in (add names (entry name is_typedef)) name ≡ declared_again (latest_in names name) (length names) is_typedef
  latest_in-add [] some = absurd (omega arith)
  latest_in-add (scope ∷ outer) some =
      rw (declares-add scope name, declares_typedef-add scope name, (bytes_eq-Decides name name).1 refl)
      (by (declares name scope) refl (declares_typedef-undeclared scope name) (depth-latest_in outer name))
    where
      by : (b : Bool) → declares name scope ≡ b → (declares name scope ≡ false → declares_typedef name scope ≡ false) → (latest_in outer name).depth ≤ length outer
          → (if declares name scope || true then record { depth = length outer + 1; is_typedef = declares_typedef name scope || (is_typedef && true) } else latest_in outer name)
          ≡ declared_again (latest_in (scope ∷ outer) name) (length (scope ∷ outer)) is_typedef
      by true e none low = rw e (grind (arith, common_steps))
      by false e none low = rw (e, none e) (grind (arith, common_steps))
