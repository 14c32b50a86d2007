-- What memory comes to each block along walks.
use Rattle.std.proofs.Common.{◌≡◌, ◌≢◌, ◌==◌, ℕ, suc, ◌+◌, ◌<◌, ◌≤◌, Bool, true, false, true≢false, List, [], ◌∷◌, length, get_or, refl, sym, ap, ◌∙◌, subst, arith, if◌then◌else◌, Option, Some, None, inl, inr}
use Rattle.std.specs.Prelude.{slice_get, unwrap_or}
use Rattle.std.proofs.lemmas.Bool.{cases_eq, eqb-true, eq-eqb, ne_eqb}
use Rattle.std.proofs.lemmas.Option.{slice_get-get_or}
use Rattle.firm_uses.specs.Counts.{times}
use Rattle.firm_uses.proofs.CountLaws.{one, one_other, times_found}
use Rattle.ssa_core.specs.Walks.{Walk, end, IsWalk}
use Rattle.firm_rules.specs.declared.node.BlockId.{BlockId}
use Rattle.firm_rules.specs.Graphs.{Firm}
use Rattle.firm_rules.specs.Lookups.{preds_of, first_of, shape}
use Rattle.firm_rules.specs.Rules.{IsWhole, memory_into, memory_after, memory_phi, chain, last_of}
use Rattle.firm_nodes.specs.Kept.{block_numbers}
use Rattle.firm_nodes.proofs.OrderLaws.{block_at, blocks_long}
use Rattle.firm_verify.specs.declared.coming.Coming.{Coming}
use Rattle.firm_verify.specs.declared.coming.Coming.TheVariants.{Nothing, One, Many}
use Rattle.firm_verify.specs.declared.chains.Chains.{Chains}
use Rattle.firm_verify.specs.Broken.{AtBlocks}
use Rattle.firm_verify.specs.Memory.{AreChains, Brings, Leaves, Told, Covers, Within, through, joined, room, coming_at, leaving, brought, Receives, AreSeen, IsClosedAt, rooms, AreComing}
use Rattle.firm_verify.proofs.CountsLaws.{got}
use Rattle.firm_verify.proofs.GraphLaws.{each_more, at_blocks}
use Rattle.firm_verify.proofs.WalkLaws.{is_block_end}

-- ---- a node takes the place of what comes

pub told_through : (P Q : ℕ → Type 0) (node : Option ℕ) (c : Coming) → ((m : ℕ) → P m → Q (unwrap_or node m)) → Told P c → Told Q (through node c)
told_through P Q last Nothing f t = tt
told_through P Q (Some n) (One m) f t = f m t
told_through P Q (Some n) Many f t = f t.first t.is_first
told_through P Q None (One m) f t = f m t
told_through P Q None Many f t = record { first = t.first; second = t.second; differs = t.differs; is_first = f t.first t.is_first; is_second = f t.second t.is_second }

pub covers_through : (node : Option ℕ) (c : Coming) (m : ℕ) → Covers c m → Covers (through node c) (unwrap_or node m)
covers_through last Nothing m h = absurd h
covers_through (Some n) (One k) m h = refl
covers_through (Some n) Many m h = refl
covers_through None (One k) m h = h
covers_through None Many m h = tt

-- ---- both of two

pub joined_told : (P : ℕ → Type 0) (a c : Coming) → Told P a → Told P c → Told P (joined a c)
joined_told P Nothing c ta tc = tc
joined_told P Many c ta tc = ta
joined_told P (One m) Nothing ta tc = ta
joined_told P (One m) Many ta tc = tc
joined_told P (One m) (One k) ta tc = elim (cases_eq m k) [
  | inl same ↦ subst (λ t. Told P (if t then One m else Many)) (sym (eq-eqb m k same)) ta
  | inr ne ↦ subst (λ t. Told P (if t then One m else Many)) (sym (ne_eqb m k ne)) (record { first = m; second = k; differs = ne; is_first = ta; is_second = tc })
]

pub joined_left : (a c : Coming) (m : ℕ) → Covers a m → Covers (joined a c) m
joined_left Nothing c m h = absurd h
joined_left Many c m h = tt
joined_left (One n) Nothing m h = h
joined_left (One n) Many m h = tt
joined_left (One n) (One k) m h = by (n == k)
  where
    by : (t : Bool) → Covers (if t then One n else Many) m
    by true = h
    by false = tt

pub joined_right : (a c : Coming) (m : ℕ) → Covers c m → Covers (joined a c) m
joined_right Nothing c m h = h
joined_right Many c m h = tt
joined_right (One n) Nothing m h = absurd h
joined_right (One n) Many m h = tt
joined_right (One n) (One k) m h = by (n == k) refl
  where
    by : (t : Bool) → (n == k) ≡ t → Covers (if t then One n else Many) m
    by true e = eqb-true n k e ∙ h
    by false e = tt

-- ---- what comes over an edge

pub leaves_of : (g : Firm) (chains : Chains) (b m : ℕ) → AreChains g chains → Brings g b m → Leaves g b (unwrap_or (get_or chains.lasts.items b None) m)
leaves_of g chains b m are brings = record {
  walk = brings.walk;
  comes = brings.comes;
  is = ap (λ k. last_of (memory_into g brings.walk) (chain g k)) brings.comes.1 ∙ ap (λ k. last_of k (chain g b)) brings.is ∙ are.last_is b m;
}

pub brings_of : (g : Firm) (chains : Chains) (from b at m : ℕ) → AreChains g chains → slice_get (preds_of g b) at ≡ Some from → Leaves g from m → Brings g b (unwrap_or (get_or chains.phis.items b None) m)
unfolding memory_into
brings_of g chains from b at m are edge leaves = record {
  walk = record { into = b; place = at } ∷ leaves.walk;
  comes = ((edge ∙ ap Some (sym leaves.comes.1), leaves.comes.0), refl);
  is = ap (unwrap_or (memory_phi g b)) leaves.is ∙ ap (λ o. unwrap_or o m) (are.phi_is b);
}

pub brought_told : (g : Firm) (chains : Chains) (coming : List Coming) (from b at : ℕ) → AreChains g chains → AreSeen g coming → slice_get (preds_of g b) at ≡ Some from
    → Told (Brings g b) (brought chains coming from b)
brought_told g chains coming from b at are seen edge =
    told_through (Leaves g from) (Brings g b) (get_or chains.phis.items b None) (leaving chains coming from) (λ m l. brings_of g chains from b at m are edge l)
    (told_through (Brings g from) (Leaves g from) (get_or chains.lasts.items from None) (coming_at coming from) (λ m l. leaves_of g chains from m are l) (seen.seen from))

-- ---- what comes to a block

abbrev pub IsFound : Firm → Chains → List Coming → ℕ → List ℕ → ℕ → Coming → Type 0
IsFound g chains coming b preds at found =
    Told (Brings g b) found × (Within (coming_at coming b) found × ((i : ℕ) → i < at → Within (brought chains coming (get_or preds i 0) b) found))

pub found_none : (g : Firm) (chains : Chains) (coming : List Coming) (b : ℕ) (preds : List ℕ) (found : Coming) → AreSeen g coming → found ≡ coming_at coming b → IsFound g chains coming b preds 0 found
found_none g chains coming b preds found seen e =
    subst (IsFound g chains coming b preds 0) (sym e) (seen.seen b, (λ m h. h, λ i h. absurd (omega (arith, h))))

pub found_turn : (g : Firm) (chains : Chains) (coming : List Coming) (b : ℕ) (preds : List ℕ) (at : ℕ) (found one after : Coming) → AreChains g chains → AreSeen g coming → preds ≡ preds_of g b → at < length preds
    → one ≡ brought chains coming (get_or preds at 0) b → after ≡ joined found one → IsFound g chains coming b preds at found → IsFound g chains coming b preds (at + 1) after
found_turn g chains coming b preds at found one after are seen ep h eo ea inv =
    subst (IsFound g chains coming b preds (at + 1)) (sym ea) (
      joined_told (Brings g b) found one inv.0 (subst (Told (Brings g b)) (sym eo)
          (brought_told g chains coming (get_or preds at 0) b at are seen (ap (λ l. slice_get l at) (sym ep) ∙ slice_get-get_or preds at 0 h))),
      (
        λ m c. joined_left found one m (inv.1.0 m c),
        each_more (λ i. Within (brought chains coming (get_or preds i 0) b) (joined found one)) at (λ i lt m c. joined_left found one m (inv.1.1 i lt m c))
            (λ m c. joined_right found one m (subst (λ x. Covers x m) (sym eo) c)),
      ),
    )

-- ---- room

pub no_room : (a c : Coming) → Within a c → room a ≤ room c → c ≡ a
no_room Nothing Nothing w h = refl
no_room Nothing (One k) w h = absurd (omega (arith, h))
no_room Nothing Many w h = absurd (omega (arith, h))
no_room (One m) Nothing w h = absurd (w m refl)
no_room (One m) (One k) w h = ap One (w m refl)
no_room (One m) Many w h = absurd (omega (arith, h))
no_room Many Nothing w h = absurd (w 0 tt)
no_room Many (One k) w h = absurd (omega (arith, w (suc k) tt))
no_room Many Many w h = refl

rooms_le : (before after : List Coming) (blocks : List ℕ) → ((b : ℕ) → room (coming_at after b) ≤ room (coming_at before b)) → rooms after blocks ≤ rooms before blocks
rooms_le before after [] each = omega arith
rooms_le before after (b ∷ blocks) each = omega (arith, each b, rooms_le before after blocks each)

rooms_less : (before after : List Coming) (blocks : List ℕ) (b : ℕ) → 0 < times b blocks → ((c : ℕ) → room (coming_at after c) ≤ room (coming_at before c)) → room (coming_at after b) < room (coming_at before b)
    → rooms after blocks < rooms before blocks
rooms_less before after [] b h each less = absurd (omega (arith, h))
rooms_less before after (x ∷ blocks) b h each less = elim (cases_eq x b) [
  | inl same ↦ omega (arith, rooms_le before after blocks each, subst (λ k. room (coming_at after k) < room (coming_at before k)) (sym same) less)
  | inr ne ↦ omega (arith, each x, rooms_less before after blocks b (omega (arith, h, one_other b x ne)) each less)
]

-- ---- one look at each block

abbrev pub IsLooked : Firm → Chains → List Coming → List Coming → List BlockId → ℕ → Bool → Type 0
IsLooked g chains before coming ids at more =
    AreSeen g coming × ((rooms coming g.order + (if more then 1 else 0) ≤ rooms before g.order)
    × (more ≡ false → (i : ℕ) → i < at → IsClosedAt g chains coming (get_or (block_numbers ids) i 0)))

pub moved : (g : Firm) (chains : Chains) (before coming after : List Coming) (ids : List BlockId) (at : ℕ) (more now : Bool) → after ≡ coming → now ≡ more → IsLooked g chains before coming ids at more
    → IsLooked g chains before after ids at now
moved g chains before coming after ids at more now ec em looked =
    subst (λ l. IsLooked g chains before l ids at now) (sym ec) (subst (λ t. IsLooked g chains before coming ids at t) (sym em) looked)

pub looked_none : (g : Firm) (chains : Chains) (coming : List Coming) (ids : List BlockId) → AreSeen g coming → IsLooked g chains coming coming ids 0 false
looked_none g chains coming ids seen = (seen, (omega arith, λ e i h. absurd (omega (arith, h))))

pub looked_same : (g : Firm) (chains : Chains) (before coming : List Coming) (ids : List BlockId) (at : ℕ) (d : BlockId) (more : Bool) (found : Coming) → at < length ids
    → room (coming_at coming (get_or ids at d).number) ≤ room found → Within (coming_at coming (get_or ids at d).number) found
    → Receives chains coming (get_or ids at d).number (preds_of g (get_or ids at d).number) found
    → IsLooked g chains before coming ids at more → IsLooked g chains before coming ids (at + 1) more
looked_same g chains before coming ids at d more found h le within received inv = (
  inv.0,
  (
    inv.1.0,
    λ e. each_more (λ i. IsClosedAt g chains coming (get_or (block_numbers ids) i 0)) at (inv.1.1 e)
        (subst (IsClosedAt g chains coming) (sym (block_at ids at d h))
        (subst (Receives chains coming (get_or ids at d).number (preds_of g (get_or ids at d).number)) (no_room (coming_at coming (get_or ids at d).number) found within le) received)),
  ),
)

pub looked_more : (g : Firm) (chains : Chains) (before coming after : List Coming) (ids : List BlockId) (at : ℕ) (d : BlockId) (more : Bool) (found : Coming) → block_numbers ids ≡ g.order → at < length ids
    → room found < room (coming_at coming (get_or ids at d).number) → Told (Brings g (get_or ids at d).number) found → Within (coming_at coming (get_or ids at d).number) found
    → coming_at after (get_or ids at d).number ≡ found → ((other : ℕ) → other ≢ (get_or ids at d).number → coming_at after other ≡ coming_at coming other)
    → IsLooked g chains before coming ids at more → IsLooked g chains before after ids (at + 1) true
looked_more g chains before coming after ids at d more found e h less told within this others inv = (
  record {
    seen = λ c. elim (cases_eq c b) [
      | inl same ↦ subst (λ k. Told (Brings g k) (coming_at after k)) (sym same) (subst (Told (Brings g b)) (sym this) told)
      | inr ne ↦ subst (Told (Brings g c)) (sym (others c ne)) (inv.0.seen c)
    ];
    begun = elim (cases_eq (first_of g.order) b) [
      | inl same ↦ subst (λ x. Covers x (memory_into g [])) (sym (ap (coming_at after) same ∙ this)) (within (memory_into g []) (subst (λ k. Covers (coming_at coming k) (memory_into g [])) same inv.0.begun))
      | inr ne ↦ subst (λ x. Covers x (memory_into g [])) (sym (others (first_of g.order) ne)) inv.0.begun
    ];
  },
  (
    omega (arith, inv.1.0, small more, rooms_less coming after g.order b listed each (omega (arith, less, ap room this))),
    λ is. absurd (true≢false is),
  ),
)
  where
    b : ℕ
    b = (get_or ids at d).number

    small : (t : Bool) → 0 ≤ (if t then 1 else 0)
    small t = omega arith

    each : (c : ℕ) → room (coming_at after c) ≤ room (coming_at coming c)
    each c = elim (cases_eq c b) [
      | inl same ↦ subst (λ k. room (coming_at after k) ≤ room (coming_at coming k)) (sym same) (omega (arith, less, ap room this))
      | inr ne ↦ omega (arith, ap room (others c ne))
    ]

    listed : 0 < times b g.order
    listed = subst (λ l. 0 < times b l) e (times_found b (block_numbers ids) at 0 (omega (arith, h, blocks_long ids)) (block_at ids at d h))

pub looked_all : (g : Firm) (chains : Chains) (before coming : List Coming) (ids : List BlockId) (at : ℕ) (more : Bool) → block_numbers ids ≡ g.order → length ids ≤ at
    → IsLooked g chains before coming ids at more → more ≡ false → AtBlocks g (IsClosedAt g chains coming)
looked_all g chains before coming ids at more e h inv is = at_blocks g (IsClosedAt g chains coming) ids e (λ i lt. inv.1.1 is i (omega (arith, lt, h)))

-- ---- all that comes

pub seen_first : (g : Firm) (chains : Chains) (ids : List BlockId) (d : BlockId) (empty coming : List Coming) → AreChains g chains → block_numbers ids ≡ g.order → 0 < length ids → empty ≡ []
    → coming_at coming (get_or ids 0 d).number ≡ One chains.start → ((other : ℕ) → other ≢ (get_or ids 0 d).number → coming_at coming other ≡ coming_at empty other) → AreSeen g coming
seen_first g chains ids d empty coming are e h none this others = record {
  seen = λ c. elim (cases_eq c (get_or ids 0 d).number) [
    | inl same ↦ subst (Told (Brings g c)) (sym (ap (coming_at coming) same ∙ this)) (record { walk = []; comes = (tt, sym (same ∙ first_is)); is = are.start_is })
    | inr ne ↦ subst (Told (Brings g c)) (sym (others c ne ∙ ap (λ l. coming_at l c) none)) tt
  ];
  begun = subst (λ x. Covers x (memory_into g [])) (sym (ap (coming_at coming) (sym first_is) ∙ this)) (sym are.start_is);
}
  where
    zeroth : (l : List ℕ) → get_or l 0 0 ≡ first_of l
    zeroth [] = refl
    zeroth (x ∷ l) = refl

    first_is : (get_or ids 0 d).number ≡ first_of g.order
    first_is = sym (block_at ids 0 d h) ∙ zeroth (block_numbers ids) ∙ ap first_of e

covers_by : (g : Firm) (chains : Chains) (coming : List Coming) → IsWhole g → 0 < length g.order → AreChains g chains → AreSeen g coming → AtBlocks g (IsClosedAt g chains coming)
    → (w : Walk) → IsWalk (shape g) w → Covers (coming_at coming (end (shape g) w)) (memory_into g w)
unfolding memory_into
covers_by g chains coming whole some are seen closed [] is = seen.begun
covers_by g chains coming whole some are seen closed (e ∷ w) is =
    let from = end (shape g) w in
    let before = covers_by g chains coming whole some are seen closed w is.1 in
    let out : Covers (leaving chains coming from) (memory_after g w) =
    subst (Covers (leaving chains coming from)) (sym (are.last_is from (memory_into g w))) (covers_through (get_or chains.lasts.items from None) (coming_at coming from) (memory_into g w) before) in
    let into : Covers (brought chains coming from e.into) (unwrap_or (memory_phi g e.into) (memory_after g w)) =
    subst (λ o. Covers (brought chains coming from e.into) (unwrap_or o (memory_after g w))) (sym (are.phi_is e.into))
    (covers_through (get_or chains.phis.items e.into None) (leaving chains coming from) (memory_after g w) out) in
    let at = got (preds_of g e.into) e.place from is.0 in
    closed e.into (is_block_end g (e ∷ w) whole some is) e.place at.0 (unwrap_or (memory_phi g e.into) (memory_after g w))
    (subst (λ k. Covers (brought chains coming k e.into) (unwrap_or (memory_phi g e.into) (memory_after g w))) (sym at.1) into)

pub are_coming : (g : Firm) (chains : Chains) (coming : List Coming) → IsWhole g → 0 < length g.order → AreChains g chains → AreSeen g coming → AtBlocks g (IsClosedAt g chains coming) → AreComing g coming
are_coming g chains coming whole some are seen closed = record {
  seen = seen.seen;
  all = λ b m brings. subst (Covers (coming_at coming b)) brings.is
      (subst (λ k. Covers (coming_at coming k) (memory_into g brings.walk)) brings.comes.1 (covers_by g chains coming whole some are seen closed brings.walk brings.comes.0));
}
