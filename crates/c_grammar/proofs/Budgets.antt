-- Readings within a budget: what has the height h leads on where h is within it, and is too deep where it is not.
use Rattle.std.proofs.Common.{◌≡◌, ℕ, zero, suc, ◌+◌, ◌<◌, ◌≤◌, ◌⊎◌, inl, inr, true, false, List, refl, sym, ap, ◌∙◌, subst, arith}
use Rattle.std.proofs.lemmas.Bool.Decides.{nat_tests}
use Rattle.std.specs.Prelude.{max, nat_lt, if◌then◌else◌}
use Rattle.c_lexer.specs.declared.token.Token.{Token}
use Rattle.c_syntax.specs.Trees.{Tree, ◌then◌}
use Rattle.c_grammar.specs.Answers.{Answer, found, deep, and_then, fit}
use Rattle.c_grammar.specs.Reading.{Reader, no_reader, read, below}

pub record IsDeep {T : Type 0} (answer : Answer T) : Type 0 where
  pub behind : List Token
  pub too_deep : answer ≡ deep behind

-- where the height h is within the budget d, the answer is the next one, and else it is too deep
pub record Leads {T : Type 0} (answer : Answer T) (d h : ℕ) (next : Answer T) : Type 0 where
  pub low : h ≤ d → answer ≡ next
  pub high : d < h → IsDeep answer

-- a tree of this height is found, with this rest
abbrev pub Finds : {T : Type 0} → Answer T → ℕ → ℕ → T → List Token → Type 0
Finds answer d h t b = Leads answer d h (found t b)

pub order : (m n : ℕ) → (m ≤ n) ⊎ (n < m)
order zero n = inl (omega arith)
order (suc m) zero = inr (omega arith)
order (suc m) (suc n) = split (order m n)
  where
    split : (m ≤ n) ⊎ (n < m) → (suc m ≤ suc n) ⊎ (suc n < suc m)
    split (inl h) = inl (omega (arith, h))
    split (inr h) = inr (omega (arith, h))

module _ {T : Type 0} where
  pub leads_from : (answer other : Answer T) (d h : ℕ) (next : Answer T) → answer ≡ other → Leads other d h next → Leads answer d h next
  leads_from answer other d h next e r = subst (λ a. Leads a d h next) (sym e) r

  pub leads_height : (answer : Answer T) (d h k : ℕ) (next : Answer T) → h ≡ k → Leads answer d h next → Leads answer d k next
  leads_height answer d h k next e r = subst (λ n. Leads answer d n next) e r

  -- nothing more is read
  pub leads_here : (answer : Answer T) (d : ℕ) → Leads answer d 0 answer
  leads_here answer d = record { low = λ le. refl; high = λ lt. absurd (omega (arith, lt)) }

  -- one budget and one height more
  pub leads_up : (answer : Answer T) (e h : ℕ) (next : Answer T) → Leads answer e h next → Leads answer (suc e) (suc h) next
  leads_up answer e h next r = record { low = λ le. r.low (omega (arith, le)); high = λ lt. r.high (omega (arith, lt)) }

  pub within : (needed d : ℕ) (rest : List Token) (answer : Answer T) → needed ≤ d → fit needed d rest answer ≡ answer
  unfolding fit
  within needed d rest answer le = let no_less : nat_lt d needed ≡ false = grind (arith, nat_tests) in ap (λ b. if b then deep rest else answer) no_less

  pub beyond : (needed d : ℕ) (rest : List Token) (answer : Answer T) → d < needed → fit needed d rest answer ≡ deep rest
  unfolding fit
  beyond needed d rest answer lt = let less : nat_lt d needed ≡ true = grind (arith, nat_tests) in ap (λ b. if b then deep rest else answer) less

  -- one more look at the budget, behind a later token, where the height needs it anyway
  pub leads_fit : (needed d e h : ℕ) (rest : List Token) (answer next : Answer T) → suc e ≡ d → needed ≤ suc h
      → Leads answer e h next
      → Leads (fit needed d rest answer) e h next
  leads_fit needed d e h rest answer next near some r = at (order needed d)
    where
      at : (needed ≤ d) ⊎ (d < needed) → Leads (fit needed d rest answer) e h next
      at (inl le) = leads_from _ _ e h next (within needed d rest answer le) r
      at (inr over) = record {
        low = λ le. absurd (omega (arith, le, over, some, near));
        high = λ lt. record { behind = rest; too_deep = beyond needed d rest answer over };
      }

  -- the same within another look
  pub leads_fit_within : (first needed d h : ℕ) (a rest : List Token) (answer next : Answer T) → needed ≤ h
      → Leads (fit first d a answer) d h next
      → Leads (fit first d a (fit needed d rest answer)) d h next
  leads_fit_within first needed d h a rest answer next le r = at (order needed d)
    where
      deep_there : d < needed → (first ≤ d) ⊎ (d < first) → IsDeep (fit first d a (fit needed d rest answer))
      deep_there over (inl le) = record { behind = rest; too_deep = within first d a (fit needed d rest answer) le ∙ beyond needed d rest answer over }
      deep_there over (inr lt) = record { behind = a; too_deep = beyond first d a (fit needed d rest answer) lt }

      at : (needed ≤ d) ⊎ (d < needed) → Leads (fit first d a (fit needed d rest answer)) d h next
      at (inl fits) = leads_from _ _ d h next (ap (λ x. fit first d a x) (within needed d rest answer fits)) r
      at (inr over) = record { low = λ low. absurd (omega (arith, le, low, over)); high = λ lt. deep_there over (order first d) }

module _ {T U : Type 0} (x : Answer T) (go : T → List Token → Answer U) where
  pub then_found : (t : T) (c : List Token) → x ≡ found t c → and_then x go ≡ go t c
  unfolding and_then
  then_found t c e = ap (λ a. and_then a go) e

  pub then_deep : IsDeep x → IsDeep (and_then x go)
  unfolding and_then
  then_deep h = record { behind = h.behind; too_deep = ap (λ a. and_then a go) h.too_deep }

  -- one reading and then another within the same budget
  pub leads_then : (d h k : ℕ) (t : T) (c : List Token) (next : Answer U) → Finds x d h t c → Leads (go t c) d k next → Leads (and_then x go) d (max h k) next
  leads_then d h k t c next f r = record {
    low = λ le. then_found t c (f.low (omega (arith, le))) ∙ r.low (omega (arith, le));
    high = λ lt. late lt (order h d);
  }
    where
      late : d < max h k → (h ≤ d) ⊎ (d < h) → IsDeep (and_then x go)
      late lt (inl le) =
          let rest = r.high (omega (arith, lt, le)) in
          record { behind = rest.behind; too_deep = then_found t c (f.low le) ∙ rest.too_deep }
      late lt (inr over) = then_deep (f.high over)

-- a node with a token of its own in front
module _ {T : Type 0} (needed h : ℕ) (rest : List Token) (parts : Reader → Answer T) (next : Answer T) (some : 1 ≤ needed) (least : needed ≤ suc h) where
  pub node_leads : ((e : ℕ) → Leads (parts (read e)) e h next) → (d : ℕ) → Leads (fit needed d rest (parts (below d))) d (suc h) next
  node_leads kids zero = record {
    low = λ le. absurd (omega (arith, le));
    high = λ lt. record { behind = rest; too_deep = beyond needed zero rest (parts no_reader) (omega (arith, some)) };
  }
  node_leads kids (suc e) = at (order needed (suc e))
    where
      at : (needed ≤ suc e) ⊎ (suc e < needed) → Leads (fit needed (suc e) rest (parts (read e))) (suc e) (suc h) next
      at (inl le) = leads_from _ _ (suc e) (suc h) next (within needed (suc e) rest (parts (read e)) le) (leads_up (parts (read e)) e h next (kids e))
      at (inr over) = record {
        low = λ le. absurd (omega (arith, le, over, least));
        high = λ lt. record { behind = rest; too_deep = beyond needed (suc e) rest (parts (read e)) over };
      }

-- ---- chains that grow to the left

module _ (d : ℕ) (start : Answer Tree) (tail : ℕ → Tree → List Token → Answer Tree) where
  -- the chain has got as far as x, of height h, and goes on at ts
  pub record Chain (h : ℕ) (x : Tree) (ts : List Token) : Type 0 where
    pub low : h ≤ d → (k : ℕ) × (d ≤ k + h) × (start ≡ tail k x ts)
    pub high : d < h → IsDeep start

  -- it ends here
  pub chain_ends : (h : ℕ) (x : Tree) (b : List Token) → Chain h x b → ((k : ℕ) → tail k x b ≡ found x b) → Finds start d h x b
  chain_ends h x b c stop = record {
    low = λ le. let at = c.low le in at.2 ∙ stop at.0;
    high = c.high;
  }

  -- one link more: behind x the tail reads what has the height k in all, and goes on with y
  pub chain_goes_on : (h k : ℕ) (x y : Tree) (ts c rest : List Token) (parts : (Tree → List Token → Answer Tree) → Reader → Answer Tree)
      → Chain h x ts
      → ((go : Tree → List Token → Answer Tree) (e : ℕ) → suc e ≡ d → Leads (parts go (read e)) e k (go y c))
      → ((n : ℕ) → (go : Tree → List Token → Answer Tree) × (tail n x ts ≡ fit (suc h) d rest (parts go (below d))) × ((m : ℕ) → n ≡ suc m → go y c ≡ tail m y c))
      → Chain (suc (max h k)) y c
  chain_goes_on h k x y ts c rest parts chain kids step = record {
    low = λ le. on le d refl;
    high = λ lt. over lt (order h d) d refl;
  }
    where
      -- the link is read where the budget is e + 1
      link : (e : ℕ) → suc e ≡ d → h ≤ e → (n : ℕ) → tail n x ts ≡ parts (step n).0 (read e)
      link e same le n =
          (step n).1
          ∙ ap (λ b. fit (suc h) d rest (parts (step n).0 b)) (ap below (sym same))
          ∙ within (suc h) d rest (parts (step n).0 (read e)) (omega (arith, le, same))

      more : (e : ℕ) → suc e ≡ d → suc (max h k) ≤ d → (n : ℕ) → d ≤ n + h → start ≡ tail n x ts → (m : ℕ) × (d ≤ m + suc (max h k)) × (start ≡ tail m y c)
      more e same le zero far begun = absurd (omega (arith, le, same, far))
      more e same le (suc m) far begun = (
        m,
        omega (arith, far),
        begun ∙ link e same (omega (arith, le, same)) (suc m) ∙ (kids (step (suc m)).0 e same).low (omega (arith, le, same)) ∙ (step (suc m)).2 m refl,
      )

      on : suc (max h k) ≤ d → (n : ℕ) → n ≡ d → (m : ℕ) × (d ≤ m + suc (max h k)) × (start ≡ tail m y c)
      on le zero e = absurd (omega (arith, le, e))
      on le (suc e) same = let at = chain.low (omega (arith, le)) in more e same le at.0 at.1 at.2

      too_late : (e : ℕ) → suc e ≡ d → h ≤ e → d < suc (max h k) → (n : ℕ) → start ≡ tail n x ts → IsDeep start
      too_late e same le lt n begun =
          let last = (kids (step n).0 e same).high (omega (arith, lt, same, le)) in
          record { behind = last.behind; too_deep = begun ∙ link e same le n ∙ last.too_deep }

      at_once : d < suc h → (n : ℕ) → start ≡ tail n x ts → IsDeep start
      at_once lt n begun = record { behind = rest; too_deep = begun ∙ (step n).1 ∙ beyond (suc h) d rest (parts (step n).0 (below d)) lt }

      over : d < suc (max h k) → (h ≤ d) ⊎ (d < h) → (n : ℕ) → n ≡ d → IsDeep start
      over lt (inr far) n e = chain.high far
      over lt (inl le) zero e = let at = chain.low le in at_once (omega (arith, le, e)) at.0 at.2
      over lt (inl le) (suc e) same = let at = chain.low le in late e same (order h e) at.0 at.2
        where
          late : (e : ℕ) → suc e ≡ d → (h ≤ e) ⊎ (e < h) → (n : ℕ) → start ≡ tail n x ts → IsDeep start
          late e same (inl near) n begun = too_late e same near lt n begun
          late e same (inr far) n begun = at_once (omega (arith, far, same)) n begun
