-- Steps of the readings of types and declarators: what reads within the next lower budget, nodes without a token of their
-- own, and rows.
use Rattle.std.proofs.Common.{◌≡◌, ℕ, zero, suc, ◌<◌, ◌≤◌, ◌⊎◌, inl, inr, true, false, List, ◌∷◌, length, refl, ap, ◌∙◌, subst, arith}
use Rattle.std.specs.Prelude.{max, if◌then◌else◌}
use Rattle.c_lexer.specs.declared.token.Punct.TheVariants.{Comma, RightBrace}
use Rattle.c_lexer.specs.declared.token.Token.{Token}
use Rattle.c_syntax.specs.Trees.{Tree, Forest, ◌then◌, one, height, forest_height}
use Rattle.c_grammar.specs.Vocabulary.{Place, mark}
use Rattle.c_grammar.specs.Scopes.{Names, after}
use Rattle.c_grammar.specs.Answers.{Answer, found, and_then, fit, ahead, ahead_by}
use Rattle.c_grammar.specs.Reading.{Goal, Rows, Reader, no_reader, level, read, goal_in, rows_in, lower, begins_with_mark, listed, listed_in_braces, below}
use Rattle.c_grammar.proofs.Budgets.{IsDeep, Leads, Finds, leads_from, leads_height, leads_here, leads_up, leads_then, then_deep, within, beyond, Chain}
use Rattle.c_grammar.proofs.Found.Claims.{Counted}

-- ---- what reads within the next lower budget

read_level : (e : ℕ) → read e ≡ level e (below e)
unfolding read
read_level zero = refl
read_level (suc e) = refl

pub read_goal : (e : ℕ) (goal : Goal) (names : Names) (ts : List Token) → (read e).tree_of goal names ts ≡ goal_in e (below e) goal names ts
unfolding level
read_goal e goal names ts = ap (λ r. r.tree_of goal names ts) (read_level e)

pub read_row : (e : ℕ) (row : Rows) (names : Names) (ts : List Token) → (read e).trees_of row names ts ≡ rows_in e (below e) row names ts
unfolding level
read_row e row names ts = ap (λ r. r.trees_of row names ts) (read_level e)

pub goal_leads : {next : Answer Tree} {h : ℕ} (e : ℕ) (goal : Goal) (names : Names) (ts : List Token)
    → Leads (goal_in e (below e) goal names ts) e h next → Leads ((read e).tree_of goal names ts) e h next
goal_leads {next} {h} e goal names ts r = leads_from _ _ e h next (read_goal e goal names ts) r

pub row_leads : {next : Answer Forest} {h : ℕ} (e : ℕ) (row : Rows) (names : Names) (ts : List Token)
    → Leads (rows_in e (below e) row names ts) e h next → Leads ((read e).trees_of row names ts) e h next
row_leads {next} {h} e row names ts r = leads_from _ _ e h next (read_row e row names ts) r

-- ---- one more token

order : (m n : ℕ) → (m ≤ n) ⊎ (n < m)
order m n = grind arith

module _ {T : Type 0} where
  -- a budget that the height needs anyway
  pub fit_leads : (needed d h : ℕ) (rest : List Token) (answer next : Answer T) → needed ≤ h → Leads answer d h next → Leads (fit needed d rest answer) d h next
  fit_leads needed d h rest answer next le r = record {
    low = λ fits. within needed d rest answer (omega (arith, le, fits)) ∙ r.low fits;
    high = λ lt. at lt (order needed d);
  }
    where
      at : d < h → (needed ≤ d) ⊎ (d < needed) → IsDeep (fit needed d rest answer)
      at lt (inl fits) = let inner = r.high lt in record { behind = inner.behind; too_deep = within needed d rest answer fits ∙ inner.too_deep }
      at lt (inr over) = record { behind = rest; too_deep = beyond needed d rest answer over }

  -- a leaf
  pub leaf_leads : (d : ℕ) (rest : List Token) (next : Answer T) → Leads (fit 1 d rest next) d 1 next
  leaf_leads d rest next = record {
    low = λ fits. within 1 d rest next fits;
    high = λ lt. record { behind = rest; too_deep = beyond 1 d rest next lt };
  }

-- ---- a node without a token of its own

module _ {T U : Type 0} (own : ℕ → Answer T) (nested : Reader → Answer T) (go : Reader → T → List Token → Answer U) (h k : ℕ) (t : T) (b : List Token) (next : Answer U) where
  pub lower_leads : 1 ≤ h → ((e : ℕ) → Finds (own e) e h t b) → ((e : ℕ) → nested (read e) ≡ own e) → ((e : ℕ) → Leads (go (read e) t b) e k next)
      → (d : ℕ) → Leads (and_then (lower d (own d) (nested (below d))) (go (below d))) d (suc (max h k)) next
  unfolding lower
  lower_leads some finds same kids zero = record {
    low = λ le. absurd (omega (arith, le));
    high = λ lt. then_deep (own zero) (go no_reader) ((finds zero).high some);
  }
  lower_leads some finds same kids (suc e) =
      leads_up _ e (max h k) next (leads_then (nested (read e)) (go (read e)) e h k t b next (leads_from _ _ e h (found t b) (same e) (finds e)) (kids e))

-- ---- chains

module _ (d : ℕ) (start : Answer Tree) (tail : ℕ → Tree → List Token → Answer Tree) where
  pub chain_begins : (h : ℕ) (x : Tree) (ts : List Token) → Leads start d h (tail d x ts) → Chain d start tail h x ts
  chain_begins h x ts r = record { low = λ le. (d, omega arith, r.low le); high = λ lt. r.high lt }

  pub chain_height : (h k : ℕ) (x : Tree) (ts : List Token) → h ≡ k → Chain d start tail h x ts → Chain d start tail k x ts
  chain_height h k x ts e c = subst (λ n. Chain d start tail n x ts) e c

-- ---- rows

pub some_height : (t : Tree) (ts : Forest) → 1 ≤ forest_height (t then ts)
some_height t ts = omega arith

-- rows of one item after another
module _ (d : ℕ) (r : Reader) (item : Names → List Token → Answer Tree) where
  module _ (next : Names → Tree → Names) where
    pub listed_last : (names : Names) (a b : List Token) (t : Tree) → Finds (item names a) d (height t) t b → begins_with_mark Comma b ≡ false
        → Counted (λ k. listed d r item next k names a) a d (one t) b
    unfolding listed
    listed_last names a b t f e zero lt = absurd (omega (arith, lt))
    listed_last names a b t f e (suc k) lt = leads_height _ d (max (height t) 0) _ _ (omega arith) (leads_then (item names a) _ d (height t) 0 t b _ f (rw e (leads_here _ d)))

    pub listed_more : (names : Names) (a b : List Token) (at : Place) (t : Tree) (ts : Forest) (c : List Token)
        → Finds (item names a) d (height t) t (mark Comma at ∷ b) → length b < length a
        → Counted (λ k. listed d r item next k (next names t) b) b d ts c
        → Counted (λ k. listed d r item next k names a) a d (t then ts) c
    unfolding listed ahead ahead_by
    listed_more names a b at t ts c f less more zero lt = absurd (omega (arith, lt))
    listed_more names a b at t ts c f less more (suc k) lt = leads_height _ d (max (height t) (max (forest_height ts) 0)) _ _ (omega arith) (
        leads_then (item names a) _ d (height t) (max (forest_height ts) 0) t (mark Comma at ∷ b) _ f (
        leads_then (listed d r item next k (next names t) b) _ d (forest_height ts) 0 ts c _ (more k (omega (arith, lt, less))) (leads_here _ d)))

  pub braces_last : (names : Names) (a b : List Token) (t : Tree) → Finds (item names a) d (height t) t b → begins_with_mark Comma b ≡ false
      → Counted (λ k. listed_in_braces d r item k names a) a d (one t) b
  unfolding listed_in_braces
  braces_last names a b t f e zero lt = absurd (omega (arith, lt))
  braces_last names a b t f e (suc k) lt = leads_height _ d (max (height t) 0) _ _ (omega arith) (leads_then (item names a) _ d (height t) 0 t b _ f (rw e (leads_here _ d)))

  pub braces_comma : (names : Names) (a b : List Token) (at : Place) (t : Tree) → Finds (item names a) d (height t) t (mark Comma at ∷ b)
      → begins_with_mark RightBrace b ≡ true
      → Counted (λ k. listed_in_braces d r item k names a) a d (one t) b
  unfolding listed_in_braces ahead ahead_by
  braces_comma names a b at t f e zero lt = absurd (omega (arith, lt))
  braces_comma names a b at t f e (suc k) lt = leads_height _ d (max (height t) 0) _ _ (omega arith) (
      leads_then (item names a) _ d (height t) 0 t (mark Comma at ∷ b) _ f (rw e (leads_here _ d)))

  pub braces_more : (names : Names) (a b : List Token) (at : Place) (t : Tree) (ts : Forest) (c : List Token)
      → Finds (item names a) d (height t) t (mark Comma at ∷ b) → length b < length a
      → begins_with_mark RightBrace b ≡ false
      → Counted (λ k. listed_in_braces d r item k (after names t) b) b d ts c
      → Counted (λ k. listed_in_braces d r item k names a) a d (t then ts) c
  unfolding listed_in_braces ahead ahead_by
  braces_more names a b at t ts c f less e more zero lt = absurd (omega (arith, lt))
  braces_more names a b at t ts c f less e more (suc k) lt = leads_height _ d (max (height t) (max (forest_height ts) 0)) _ _ (omega arith) (
      leads_then (item names a) _ d (height t) (max (forest_height ts) 0) t (mark Comma at ∷ b) _ f (rw e (
      leads_then (listed_in_braces d r item k (after names t) b) _ d (forest_height ts) 0 ts c _ (more k (omega (arith, lt, less))) (leads_here _ d))))
