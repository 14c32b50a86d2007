-- What the nodes of memory that are alone say of chains and of Phis.
use Rattle.std.proofs.Common.{◌≡◌, ◌==◌, ◌&&◌, ℕ, Bool, true, false, true≢false, not, List, length, get_or, refl, sym, ap, ◌∙◌, subst, arith, if◌then◌else◌, Option, Some, None}
use Rattle.std.specs.Prelude.{slice_get, IfSome}
use Rattle.std.proofs.lemmas.Bool.{eq-eqb, eqb-true, and_parts, and_from}
use Rattle.firm_rules.specs.declared.node.NodeId.{NodeId}
use Rattle.firm_rules.specs.Graphs.{FirmNode, Firm, acts}
use Rattle.firm_rules.specs.Lookups.{node_at}
use Rattle.firm_rules.specs.Rules.{IsWhole, acts_in, first_node, chain, is_memory_phi, memory_phi}
use Rattle.firm_tables.specs.Nodes.{node_of}
use Rattle.firm_nodes.specs.Calls.{IsNode}
use Rattle.firm_verify.specs.declared.memory.Sort.{Sort}
use Rattle.firm_verify.specs.declared.memory.Sort.TheVariants.{Begins, Follows, MemoryPhi}
use Rattle.firm_verify.specs.Broken.{Rule1, Rule3, IsBroken, memory}
use Rattle.firm_verify.specs.Memory.{key, is_within, taken_by, HasKey, AreOwners, IsRival, BreaksMemory}
use Rattle.firm_verify.proofs.GraphLaws.{node_read, node_seen, node_stands}
use Rattle.firm_verify.proofs.ChainLaws.{Acts, taken, acts_some, all_in_chain, first_only, Passes, NoRivals, no_rivals, first_passes, begins, begins_first, chain_begins, chain_head, acting, by_passes}

pub record ActsThere (g : Firm) (b n : ℕ) : Type 0 where
  pub node : IsNode g n
  pub block : (node_of g.nodes n).block ≡ b
  pub does : acts (node_of g.nodes n).op ≡ true

pub acts_there : (g : Firm) (b n : ℕ) → Acts g b n → ActsThere g b n
acts_there g b n a =
    let found = acts_some b (node_at g n) a in
    let read = node_read g n found.0 found.1.0 in
    record {
      node = read.0;
      block = ap (λ (x : FirmNode). x.block) read.1 ∙ found.1.1.0;
      does = ap (λ (x : FirmNode). acts x.op) read.1 ∙ found.1.1.1;
    }

is_false : (t : Bool) → (t ≡ true → ⊥) → not t ≡ true
is_false true d = absurd (d refl)
is_false false d = refl

begins_key : (g : Firm) (b n : ℕ) → Acts g b n → (Acts g b (taken g b n) → ⊥) → HasKey g Begins n b
begins_key g b n a head =
    let at = acts_there g b n a in
    let test = and_from (acts (node_of g.nodes n).op) (not (is_within g (node_of g.nodes n))) at.does
    (is_false (is_within g (node_of g.nodes n)) (λ e. head (subst (λ k. acts_in k (node_at g (taken g b n)) ≡ true) at.block e))) in
    (at.node, ap (λ t. if t then Some (node_of g.nodes n).block else None) test ∙ ap Some at.block)

pub follows_key : (g : Firm) (b n : ℕ) → Acts g b n → Acts g b (taken g b n) → HasKey g Follows n (taken g b n)
follows_key g b n a within =
    let at = acts_there g b n a in
    let test = and_from (acts (node_of g.nodes n).op) (is_within g (node_of g.nodes n)) at.does (subst (λ k. acts_in k (node_at g (taken g b n)) ≡ true) (sym at.block) within) in
    (at.node, ap (λ t. if t then Some (taken_by g (node_of g.nodes n)) else None) test)

-- ---- and back

key_if : (t : Bool) (v k : ℕ) → (if t then Some v else None) ≡ Some k → (t ≡ true) × (v ≡ k)
key_if true v k e = (refl, ap (λ o. elim o [ Some x ↦ x | None ↦ v ]) e)
key_if false v k e = absurd (none_some k e)
  where
    none_some : (n : ℕ) → None ≡ Some n → ⊥
    none_some n e = cc

not_true : (t : Bool) → not t ≡ true → t ≡ true → ⊥
not_true true n e = true≢false (sym n)
not_true false n e = true≢false (sym e)

pub there_acts : (g : Firm) (n : ℕ) → IsNode g n → acts (node_of g.nodes n).op ≡ true → Acts g (node_of g.nodes n).block n
there_acts g n node a =
    ap (acts_in (node_of g.nodes n).block) (node_seen g n node)
    ∙ and_from ((node_of g.nodes n).block == (node_of g.nodes n).block) (acts (node_of g.nodes n).op) (eq-eqb (node_of g.nodes n).block (node_of g.nodes n).block refl) a

pub key_begins : (g : Firm) (b n : ℕ) → HasKey g Begins n b → ((node_of g.nodes n).block ≡ b) × (Acts g b n × (Acts g b (taken g b n) → ⊥))
key_begins g b n has =
    let node = node_of g.nodes n in
    let found = key_if (acts node.op && not (is_within g node)) node.block b has.1 in
    let both = and_parts (acts node.op) (not (is_within g node)) found.0 in (
      found.1,
      (
        subst (λ k. Acts g k n) found.1 (there_acts g n has.0 both.0),
        λ a. not_true (is_within g node) both.1 (subst (λ k. acts_in k (node_at g (taken g b n)) ≡ true) (sym found.1) a),
      ),
    )

pub key_follows : (g : Firm) (n k : ℕ) → HasKey g Follows n k → Acts g (node_of g.nodes n).block n × (Acts g (node_of g.nodes n).block k × (taken g (node_of g.nodes n).block n ≡ k))
key_follows g n k has =
    let node = node_of g.nodes n in
    let found = key_if (acts node.op && is_within g node) (taken_by g node) k has.1 in
    let both = and_parts (acts node.op) (is_within g node) found.0 in
    (there_acts g n has.0 both.0, (subst (Acts g node.block) found.1 both.1, found.1))

pub key_phi : (g : Firm) (b n : ℕ) → HasKey g MemoryPhi n b → ((node_of g.nodes n).block ≡ b) × (is_memory_phi (node_of g.nodes n).op ≡ true)
key_phi g b n has =
    let found = key_if (is_memory_phi (node_of g.nodes n).op) (node_of g.nodes n).block b has.1 in
    (found.1, found.0)

-- the block of a node that acts
pub acts_block : (g : Firm) (a b n : ℕ) → Acts g a n → Acts g b n → a ≡ b
acts_block g a b n x y = sym (acts_there g a n x).block ∙ (acts_there g b n y).block

-- ---- without rivals

some_same : (x y : ℕ) → Some x ≡ Some y → x ≡ y
some_same x y e = cc

none_some : (n : ℕ) → None ≡ Some n → ⊥
none_some n e = cc

alone : (g : Firm) (sort : Sort) (owners : List (Option ℕ)) → AreOwners g sort owners → (n m k : ℕ) → HasKey g sort n k → HasKey g sort m k → n ≡ m
alone g sort owners o n m k hn hm = some_same n m (sym (o.own n k hn) ∙ o.own m k hm)

pub no_rivals_in : (g : Firm) (firsts nexts : List (Option ℕ)) (b : ℕ) → AreOwners g Begins firsts → AreOwners g Follows nexts → NoRivals g b
no_rivals_in g firsts nexts b begin follow = record {
  one_begins = λ x y ax ay hx hy. alone g Begins firsts begin x y b (begins_key g b x ax hx) (begins_key g b y ay hy);
  one_follows = λ x y ax ay within same.
      alone g Follows nexts follow x y (taken g b x) (follows_key g b x ax within)
      (subst (HasKey g Follows y) (sym same) (follows_key g b y ay (subst (Acts g b) same within)));
}

-- the chain of each block has each of its nodes that act
pub chains_fit : (g : Firm) (firsts nexts : List (Option ℕ)) → Rule1 g → Rule3 g → AreOwners g Begins firsts → AreOwners g Follows nexts
    → (b n : ℕ) → acts_in b (node_at g n) ≡ true → (index : ℕ) × (slice_get (chain g b) index ≡ Some n)
chains_fit g firsts nexts one three begin follow b n a = all_in_chain g b one three (no_rivals_in g firsts nexts b begin follow) n a

phi_key : (g : Firm) (n : ℕ) (node : FirmNode) → node_at g n ≡ Some node → is_memory_phi node.op ≡ true → HasKey g MemoryPhi n node.block
phi_key g n node is phi =
    let read = node_read g n node is in
    (read.0, ap (λ (x : FirmNode). key g MemoryPhi x) read.1 ∙ ap (λ t. if t then Some node.block else None) phi)

passes_phi : (g : Firm) (b m : ℕ) → Passes g (λ x. (x.block == b) && is_memory_phi x.op) m → HasKey g MemoryPhi m b
passes_phi g b m p =
    let parts = and_parts (p.node.block == b) (is_memory_phi p.node.op) p.passed in
    subst (HasKey g MemoryPhi m) (eqb-true p.node.block b parts.0) (phi_key g m p.node p.is parts.1)

-- and the Phi of memory of each block is its only one
pub phis_fit : (g : Firm) (phis : List (Option ℕ)) → AreOwners g MemoryPhi phis → (b n : ℕ) (node : FirmNode) → node_at g n ≡ Some node → node.block ≡ b → is_memory_phi node.op ≡ true
    → memory_phi g b ≡ Some n
phis_fit g phis o b n node is block phi =
    first_only g (λ x. (x.block == b) && is_memory_phi x.op) n
    (record { node = node; is = is; passed = and_from (node.block == b) (is_memory_phi node.op) (eq-eqb node.block b block) phi })
    (λ m p. alone g MemoryPhi phis o m n b (passes_phi g b m p) (subst (HasKey g MemoryPhi n) block (phi_key g n node is phi)))

-- ---- what the owners tell

by_option : (x y : Option ℕ) → ((n : ℕ) → y ≡ Some n → x ≡ Some n) → ((n : ℕ) → x ≡ Some n → y ≡ Some n) → x ≡ y
by_option x (Some n) back forth = back n refl
by_option None None back forth = refl
by_option (Some n) None back forth = absurd (none_some n (forth n refl))

pub first_is : (g : Firm) (firsts nexts : List (Option ℕ)) → Rule1 g → AreOwners g Begins firsts → AreOwners g Follows nexts → (b : ℕ) → slice_get (chain g b) 0 ≡ get_or firsts b None
first_is g firsts nexts one begin follow b = by_option (slice_get (chain g b) 0) (get_or firsts b None)
    (λ n e.
    let found = key_begins g b n (begin.have n b e) in
    chain_begins g b one (omega (arith, (acting g b one n found.1.0).below)) ∙ begins_first g b one (no_rivals_in g firsts nexts b begin follow) n found.1.0 found.1.1)
    (λ n e.
    let head = first_passes g (begins g b) n (chain_head g b (length g.nodes) (first_node g (begins g b)) n e) in
    let step = by_passes g b one n (λ m. not (acts_in b (node_at g m))) head in
    begin.own n b (begins_key g b n step.0 (not_true (acts_in b (node_at g (taken g b n))) step.1)))

pub phi_is : (g : Firm) (phis : List (Option ℕ)) → AreOwners g MemoryPhi phis → (b : ℕ) → memory_phi g b ≡ get_or phis b None
phi_is g phis o b = by_option (memory_phi g b) (get_or phis b None)
    (λ n e.
    let has = o.have n b e in
    let found = key_phi g b n has in
    phis_fit g phis o b n (node_of g.nodes n) (node_seen g n has.0) found.0 found.1)
    (λ n e. o.own n b (passes_phi g b n (first_passes g (λ x. (x.block == b) && is_memory_phi x.op) n e)))

-- ---- with rivals

pub rival_breaks : (g : Firm) (sort : Sort) (n : ℕ) → Rule1 g → IsRival g sort n → BreaksMemory g n
rival_breaks g Begins n one r = (
  r.own.0,
  λ fits.
      let own = key_begins g r.key_is n r.own in
      let others = key_begins g r.key_is r.other r.others in
      r.differs (sym ((no_rivals g r.key_is one (subst (λ b. (x : ℕ) → Acts g b x → (index : ℕ) × (slice_get (chain g b) index ≡ Some x)) own.0 fits.one_chain)).one_begins
      n r.other own.1.0 others.1.0 own.1.1 others.1.1)),
)
rival_breaks g Follows n one r = (
  r.own.0,
  λ fits.
      let own = key_follows g n r.key_is r.own in
      let others = key_follows g r.other r.key_is r.others in
      let b = (node_of g.nodes n).block in
      let same : (node_of g.nodes r.other).block ≡ b = acts_block g (node_of g.nodes r.other).block b r.key_is others.1.0 own.1.0 in
      r.differs (sym ((no_rivals g b one fits.one_chain).one_follows n r.other own.0 (subst (λ k. Acts g k r.other) same others.0)
      (subst (Acts g b) (sym own.1.1) own.1.0) (own.1.1 ∙ sym others.1.1))),
)
rival_breaks g MemoryPhi n one r = (
  r.own.0,
  λ fits.
      let own = key_phi g r.key_is n r.own in
      let others = key_phi g r.key_is r.other r.others in
      r.differs (sym (some_same n r.other
      (sym (fits.one_phi n (node_of g.nodes n) (node_seen g n r.own.0) refl own.1)
      ∙ fits.one_phi r.other (node_of g.nodes r.other) (node_seen g r.other r.others.0) (others.0 ∙ sym own.0) others.1))),
)

pub some_breaks : (g : Firm) (sort : Sort) (found : Option NodeId) → Rule1 g → IfSome found (λ node. IsRival g sort node.number) → IfSome found (λ node. BreaksMemory g node.number)
some_breaks g sort (Some node) one r = rival_breaks g sort node.number one r
some_breaks g sort None one r = tt

pub memory_broken : (g : Firm) (n b : ℕ) → IsWhole g → BreaksMemory g n → b ≡ (node_of g.nodes n).block → IsBroken g 4 None b
memory_broken g n b whole (node, bad) e = subst (IsBroken g 4 None) (sym e) (memory (node_stands g n whole node) bad)
