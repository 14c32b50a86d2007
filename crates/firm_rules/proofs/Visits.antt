-- At each point that a call comes to, a node has the word that what it means on the walk had at its visit.
use Rattle.std.proofs.Common.{◌≡◌, refl, sym, ap, ◌∙◌, subst, ℕ, ◌<◌, ◌==◌, arith, Bool, true, false, true≢false, List, [], ◌∷◌, length, Option, Some, None}
use Rattle.std.specs.Prelude.{slice_get, map, option_map, ◌&&◌}
use Rattle.std.proofs.lemmas.Option.{slice_get-map}
use Rattle.ssa_core.specs.Shapes.{ValueKind, phi, other}
use Rattle.ssa_core.specs.Walks.{Edge, Walk, end, Origin, nowhere, from, met, operand_at, along}
use Rattle.firm_rules.specs.declared.node.NodeId.{NodeId}
use Rattle.firm_rules.specs.declared.node.Mode.{Mode}
use Rattle.firm_rules.specs.declared.node.NodeOp.TheVariants.{Phi, Unknown}
use Rattle.firm_rules.specs.Graphs.{FirmNode, Firm}
use Rattle.firm_rules.specs.Lookups.{node_at, node_id, kind_by, shape}
use Rattle.firm_rules.specs.Rules.{is_phi}
use Rattle.firm_rules.specs.Frames.{Frame, word_at, word_of, word_entered}
use Rattle.firm_rules.specs.Visits.{History, with_visit, word_on}
use Rattle.firm_rules.proofs.Steps.{Test, alike, apart, test}
use Rattle.firm_rules.proofs.Along.{MeansNothing, along_nothing, along_other, along_phi_first, along_phi, along_elsewhere, along_not_first, Within, along_within}
use Rattle.firm_rules.proofs.Nodes.{kind_at, block_at, kind_nothing, Class, not_there, unknown_node, away, phi_of_block, own, class_of, word_nothing, word_away, word_phi, word_unknown}

-- ---- histories

visit_now : (h : History) (walk : Walk) (now : ℕ → ℕ) (n : ℕ) → with_visit h walk now (length walk) n ≡ now n
visit_now h walk now n = by (test (length walk) (length walk))
  where
    by : Test (length walk) (length walk) → with_visit h walk now (length walk) n ≡ now n
    by (alike _ t) = ap (λ x. (elim x as (λ _. ℕ → ℕ) [ true ↦ now | false ↦ h (length walk) ]) n) t
    by (apart d _) = absurd (d refl)

-- what came to be before the last visit has the word that it had
visit_earlier : (h : History) (walk : Walk) (now : ℕ → ℕ) (k : ℕ) (o : Origin NodeId) → k < length walk → Within k o → word_on (with_visit h walk now) o ≡ word_on h o
visit_earlier h walk now k nowhere less within = refl
visit_earlier h walk now k (from v visit) less within = by (test (length visit) (length walk))
  where
    by : Test (length visit) (length walk) → with_visit h walk now (length visit) v.number ≡ h (length visit) v.number
    by (alike same _) = absurd (omega (arith, less, within, same))
    by (apart _ t) = ap (λ x. (elim x as (λ _. ℕ → ℕ) [ true ↦ now | false ↦ h (length visit) ]) v.number) t

-- the same where it means nothing
data Earlier (walk : Walk) (o : Origin NodeId) : Type 0 where
  never : o ≡ nowhere → Earlier walk o
  before : (k : ℕ) → k < length walk → Within k o → Earlier walk o

earlier_same : (h : History) (walk : Walk) (now : ℕ → ℕ) (o : Origin NodeId) → Earlier walk o → word_on (with_visit h walk now) o ≡ word_on h o
earlier_same h walk now o (never e) = ap (word_on (with_visit h walk now)) e ∙ sym (ap (word_on h) e)
earlier_same h walk now o (before k less within) = visit_earlier h walk now k o less within

module _ (g : Firm) where
  -- the node came to be at the last visit of the walk
  pub record IsOwn (b n : ℕ) : Type 0 where
    pub kind : (shape g).kind (node_id n) ≡ other
    pub at : (shape g).block (node_id n) ≡ b

  nothing_is_not_other : (kind : ValueKind NodeId) → MeansNothing (shape g) kind → kind ≡ other → ⊥
  nothing_is_not_other kind nothing e = differ (sym (ap (λ k. met k (node_id 0) [] (λ _. nowhere)) e) ∙ nothing (node_id 0) [] (λ _. nowhere))
    where
      is_from : Origin NodeId → Bool
      is_from nowhere = false
      is_from (from v visit) = true

      differ : from (node_id 0) [] ≡ nowhere → ⊥
      differ same = true≢false (ap is_from same)

  -- ---- what holds of the words at a point

  abbrev pub Means : Walk → Frame → History → Type 0
  Means walk f h = (n : ℕ) → (IsOwn (end (shape g) walk) n → ⊥) → f.words n ≡ word_on h (along (shape g) walk (node_id n))

  pub unknown_kind : (n : ℕ) (node : FirmNode) → node_at g n ≡ Some node → node.op ≡ Unknown
      → MeansNothing (shape g) ((shape g).kind (node_id n))
  unknown_kind n node e o =
      subst (MeansNothing (shape g)) (sym (kind_at g n node e ∙ ap (λ x. kind_by x node.operands) o)) (λ v visit next. refl)

  means_nothing : (walk : Walk) (f : Frame) (h : History) (n : ℕ) → Means walk f h → MeansNothing (shape g) ((shape g).kind (node_id n)) → f.words n ≡ 0
  means_nothing walk f h n means nothing =
      means n (λ is. nothing_is_not_other ((shape g).kind (node_id n)) nothing is.kind)
      ∙ ap (word_on h) (along_nothing (shape g) walk (node_id n) nothing)

  pub phi_kind : (n : ℕ) (node : FirmNode) (mode : Mode) → node_at g n ≡ Some node → node.op ≡ Phi mode → (shape g).kind (node_id n) ≡ phi (map node_id node.operands)
  phi_kind n node mode e o = kind_at g n node e ∙ ap (λ x. kind_by x node.operands) o

  phi_is_not_other : (n : ℕ) (operands : List NodeId) → (shape g).kind (node_id n) ≡ phi operands → (shape g).kind (node_id n) ≡ other → ⊥
  phi_is_not_other n operands one two = true≢false (ap is_phi_kind (sym one ∙ two))
    where
      is_phi_kind : ValueKind NodeId → Bool
      is_phi_kind (phi xs) = true
      is_phi_kind kind = false

  phi_earlier : (walk : Walk) (n : ℕ) (operands : List NodeId) → (shape g).kind (node_id n) ≡ phi operands → (shape g).block (node_id n) ≡ end (shape g) walk
      → Earlier walk (along (shape g) walk (node_id n))
  phi_earlier [] n operands kind at = never (along_phi_first (shape g) (node_id n) operands kind)
  phi_earlier (e ∷ w) n operands kind at =
      subst (Earlier (e ∷ w)) (sym (along_phi (shape g) e w (node_id n) operands kind at)) (by (slice_get operands e.place))
    where
      by : (found : Option NodeId) → Earlier (e ∷ w) (operand_at found (along (shape g) w))
      by (Some v) = before (length w) (omega arith) (along_within (shape g) w v)
      by None = never refl

  away_earlier : (walk : Walk) (n : ℕ) → ((shape g).block (node_id n) ≡ end (shape g) walk → ⊥) → Earlier walk (along (shape g) walk (node_id n))
  away_earlier [] n d = never (along_not_first (shape g) (node_id n) d)
  away_earlier (e ∷ w) n d =
      subst (Earlier (e ∷ w)) (sym (along_elsewhere (shape g) e w (node_id n) d)) (before (length w) (omega arith) (along_within (shape g) w (node_id n)))

  module _ (base : ℕ) (walk : Walk) (f : Frame) (h : History) where
    abbrev pub now : ℕ → ℕ
    now n = word_at base g (end (shape g) walk) f n

    abbrev pub history : History
    history = with_visit h walk now

    -- so each node has the word of what it means
    pub agrees : Means walk f h → (n : ℕ) → now n ≡ word_on history (along (shape g) walk (node_id n))
    agrees means n = by (class_of g (end (shape g) walk) n)
      where
        kept : Earlier walk (along (shape g) walk (node_id n)) → (IsOwn (end (shape g) walk) n → ⊥) → f.words n ≡ word_on history (along (shape g) walk (node_id n))
        kept earlier not_own = means n not_own ∙ sym (earlier_same h walk now (along (shape g) walk (node_id n)) earlier)

        nothing_at : MeansNothing (shape g) ((shape g).kind (node_id n)) → 0 ≡ word_on history (along (shape g) walk (node_id n))
        nothing_at nothing = sym (ap (word_on history) (along_nothing (shape g) walk (node_id n) nothing))

        by : Class g (end (shape g) walk) n → now n ≡ word_on history (along (shape g) walk (node_id n))
        by (not_there e) =
            word_nothing base g (end (shape g) walk) f n e ∙ means_nothing walk f h n means (kind_nothing g n e) ∙ nothing_at (kind_nothing g n e)
        by (unknown_node node e o) =
            word_unknown base g (end (shape g) walk) f n node e o (means_nothing walk f h n means (unknown_kind n node e o))
            ∙ nothing_at (unknown_kind n node e o)
        by (away node e d) =
            word_away base g (end (shape g) walk) f n node e d
            ∙ kept (away_earlier walk n (λ at. d (sym (block_at g n node e) ∙ at))) (λ is. d (sym (block_at g n node e) ∙ is.at))
        by (phi_of_block node mode e at o) =
            word_phi base g (end (shape g) walk) f n node mode e o
            ∙ kept (phi_earlier walk n (map node_id node.operands) (phi_kind n node mode e o) (block_at g n node e ∙ at))
            (λ is. phi_is_not_other n (map node_id node.operands) (phi_kind n node mode e o) is.kind)
        by (own node e at o) =
            sym (ap (word_on history) (along_other (shape g) walk (node_id n) (kind_at g n node e ∙ o) (block_at g n node e ∙ at)) ∙ visit_now h walk now n)

    -- ---- where the next block is entered

    pub entered_at : Means walk f h → (to place n : ℕ) → (IsOwn to n → ⊥)
        → word_entered to place now (node_at g n) n ≡ word_on history (along (shape g) (record { into = to; place = place } ∷ walk) (node_id n))
    entered_at means to place n not_own = by (class_of g to n)
      where
        e_next : Edge
        e_next = record { into = to; place = place }

        nothing_now : MeansNothing (shape g) ((shape g).kind (node_id n)) → now n ≡ word_on history (along (shape g) (e_next ∷ walk) (node_id n))
        nothing_now nothing =
            agrees means n ∙ ap (word_on history) (along_nothing (shape g) walk (node_id n) nothing ∙ sym (along_nothing (shape g) (e_next ∷ walk) (node_id n) nothing))

        operand : (found : Option ℕ) → word_of now found ≡ word_on history (operand_at (option_map node_id found) (along (shape g) walk))
        operand (Some x) = agrees means x
        operand None = refl

        by : Class g to n → word_entered to place now (node_at g n) n ≡ word_on history (along (shape g) (e_next ∷ walk) (node_id n))
        by (not_there e) = ap (λ found. word_entered to place now found n) e ∙ nothing_now (kind_nothing g n e)
        by (unknown_node node e o) =
            ap (λ found. word_entered to place now found n) e
            ∙ ap (λ x. elim (is_phi x && (node.block == to)) [ true ↦ word_of now (slice_get node.operands place) | false ↦ now n ]) o
            ∙ nothing_now (unknown_kind n node e o)
        by (away node e d) =
            ap (λ found. word_entered to place now found n) e ∙ here (test node.block to)
            ∙ agrees means n ∙ ap (word_on history) (sym (along_elsewhere (shape g) e_next walk (node_id n) (λ at. d (sym (block_at g n node e) ∙ at))))
          where
            stays : (p : Bool) → elim (p && false) [ true ↦ word_of now (slice_get node.operands place) | false ↦ now n ] ≡ now n
            stays true = refl
            stays false = refl

            here : Test node.block to → elim (is_phi node.op && (node.block == to)) [ true ↦ word_of now (slice_get node.operands place) | false ↦ now n ] ≡ now n
            here (alike at _) = absurd (d at)
            here (apart _ t) =
                ap (λ x. elim (is_phi node.op && x) [ true ↦ word_of now (slice_get node.operands place) | false ↦ now n ]) t ∙ stays (is_phi node.op)
        by (phi_of_block node mode e at o) =
            ap (λ found. word_entered to place now found n) e
            ∙ ap (λ x. elim (is_phi x && (node.block == to)) [ true ↦ word_of now (slice_get node.operands place) | false ↦ now n ]) o
            ∙ here (test node.block to)
            ∙ operand (slice_get node.operands place)
            ∙ ap (λ found. word_on history (operand_at found (along (shape g) walk))) (sym (slice_get-map node_id node.operands place))
            ∙ ap (word_on history) (sym (along_phi (shape g) e_next walk (node_id n) (map node_id node.operands) (phi_kind n node mode e o) (block_at g n node e ∙ at)))
          where
            here : Test node.block to → elim (node.block == to) [ true ↦ word_of now (slice_get node.operands place) | false ↦ now n ] ≡ word_of now (slice_get node.operands place)
            here (alike _ t) = ap (λ x. elim x [ true ↦ word_of now (slice_get node.operands place) | false ↦ now n ]) t
            here (apart d _) = absurd (d at)
        by (own node e at o) = absurd (not_own (record { kind = kind_at g n node e ∙ o; at = block_at g n node e ∙ at }))
