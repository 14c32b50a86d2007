-- The nodes of a block that act, in the order of their chain.
use Rattle.std.proofs.Common.{◌≡◌, refl, sym, ap, ◌∙◌, ℕ, zero, suc, ◌==◌, Bool, true, false, true≢false, List, [], ◌∷◌, length, Option, Some, None}
use Rattle.std.specs.Prelude.{◌&&◌, not, slice_get, if◌then◌else◌}
use Rattle.std.proofs.lemmas.List.Quantifiers.{position-Some}
use Rattle.std.proofs.lemmas.Option.{slice_get-get_or}
use Rattle.firm_rules.specs.declared.node.NodeOp.TheVariants.{Start}
use Rattle.firm_rules.specs.Graphs.{FirmNode, Firm}
use Rattle.firm_rules.specs.Lookups.{if_there, node_at}
use Rattle.firm_rules.specs.Rules.{first_node, acts_in, takes_from, chain_from, chain}

pub both_true : (a b : Bool) → a && b ≡ true → (a ≡ true) × (b ≡ true)
both_true true true e = (refl, refl)
both_true true false e = absurd (true≢false (sym e))
both_true false b e = absurd (true≢false (sym e))

-- a node that is there and passes a test
pub record Passes (g : Firm) (test : FirmNode → Bool) (n : ℕ) : Type 0 where
  pub node : FirmNode
  pub is : node_at g n ≡ Some node
  pub passed : test node ≡ true

there_is : (g : Firm) (test : FirmNode → Bool) (n : ℕ) (node : FirmNode) → slice_get g.nodes n ≡ Some node → (node.there && test node) ≡ true → Passes g test n
there_is g test n node at e =
    let parts = both_true node.there (test node) e in
    record {
      node = node;
      is = ap if_there at ∙ ap (λ b. if b then Some node else None) parts.0;
      passed = parts.1;
    }

pub first_passes : (g : Firm) (test : FirmNode → Bool) (n : ℕ) → first_node g test ≡ Some n → Passes g test n
first_passes g test n e =
    let d : FirmNode = record { op = Start; block = 0; operands = []; there = false; current = 0 } in
    let parts = position-Some (λ node. node.there && test node) g.nodes n d e in
    there_is g test n _ (slice_get-get_or g.nodes n d parts.0) parts.1

module _ (g : Firm) (b : ℕ) where
  -- the node stands in the block and acts
  abbrev pub Acts : ℕ → Type 0
  Acts n = acts_in b (node_at g n) ≡ true

  abbrev pub AllAct : List ℕ → Type 0
  AllAct [] = Unit {0}
  AllAct (n ∷ ns) = Acts n × AllAct ns

  -- the node takes what the other gives
  pub record Takes (n giver : ℕ) : Type 0 where
    pub node : FirmNode
    pub is : node_at g n ≡ Some node
    pub takes : takes_from g (λ m. m == giver) node.operands ≡ true

  -- each takes what the one before gives
  abbrev pub Linked : ℕ → List ℕ → Type 0
  Linked n [] = Unit {0}
  Linked n (m ∷ ms) = Takes m n × Linked m ms

  abbrev pub AllLinked : List ℕ → Type 0
  AllLinked [] = Unit {0}
  AllLinked (n ∷ ns) = Linked n ns

  abbrev next_of : ℕ → FirmNode → Bool
  next_of n node = acts_in b (Some node) && takes_from g (λ m. m == n) node.operands

  acts_by : (test : FirmNode → Bool) (n : ℕ) → Passes g (λ node. acts_in b (Some node) && test node) n → Acts n
  acts_by test n passes = ap (acts_in b) passes.is ∙ (both_true (acts_in b (Some passes.node)) (test passes.node) passes.passed).0

  takes_by : (n m : ℕ) → Passes g (next_of n) m → Takes m n
  takes_by n m passes = record {
    node = passes.node;
    is = passes.is;
    takes = (both_true (acts_in b (Some passes.node)) (takes_from g (λ x. x == n) passes.node.operands) passes.passed).1;
  }

  -- what is next, if there is anything, acts
  abbrev NextActs : Option ℕ → Type 0
  NextActs next = (n : ℕ) → next ≡ Some n → Acts n

  chain_from_acts : (limit : ℕ) (next : Option ℕ) → NextActs next → AllAct (chain_from g b limit next)
  chain_from_acts zero next acts = tt
  chain_from_acts (suc limit) None acts = tt
  chain_from_acts (suc limit) (Some n) acts = (
    acts n refl,
    chain_from_acts limit (first_node g (next_of n))
        (λ m e. acts_by (λ node. takes_from g (λ x. x == n) node.operands) m (first_passes g (next_of n) m e)),
  )

  pub chain_acts : AllAct (chain g b)
  chain_acts =
      chain_from_acts (length g.nodes) (first_node g opens)
      (λ m e. acts_by (λ node. takes_from g (λ x. not (acts_in b (node_at g x))) node.operands) m (first_passes g opens m e))
    where
      opens : FirmNode → Bool
      opens node = acts_in b (Some node) && takes_from g (λ x. not (acts_in b (node_at g x))) node.operands

  linked_from : (limit n : ℕ) (next : Option ℕ) → ((m : ℕ) → next ≡ Some m → Takes m n) → Linked n (chain_from g b limit next)
  linked_from zero n next takes = tt
  linked_from (suc limit) n None takes = tt
  linked_from (suc limit) n (Some m) takes =
      (takes m refl, linked_from limit m (first_node g (next_of m)) (λ k e. takes_by m k (first_passes g (next_of m) k e)))

  all_linked_from : (limit : ℕ) (next : Option ℕ) → AllLinked (chain_from g b limit next)
  all_linked_from zero next = tt
  all_linked_from (suc limit) None = tt
  all_linked_from (suc limit) (Some n) = linked_from limit n (first_node g (next_of n)) (λ k e. takes_by n k (first_passes g (next_of n) k e))

  pub chain_linked : AllLinked (chain g b)
  chain_linked = all_linked_from (length g.nodes) _
