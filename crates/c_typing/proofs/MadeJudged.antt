-- Each judgement is made from those before it, and what that gives: an induction over the nodes.
use Rattle.std.proofs.Common.{◌≡◌, ◌⊎◌, inl, inr, ℕ, zero, suc, ◌+◌, ◌<◌, List, [], ◌∷◌, ◌++◌, length, Option, Some, None, refl, sym, ap, ◌∙◌, subst, arith, append_assoc, append-nil, length-append}
use Rattle.std.specs.Prelude.{slice_get}
use Rattle.c_typing.specs.Places.{Node}
use Rattle.c_typing.specs.Names.{Places}
use Rattle.c_typing.specs.Judgements.{Fault, Meaning, Judgement, means, breaks_rules, waits, verdict, besides, given, judgement_at, faults_in, faults_of}
use Rattle.c_typing.specs.Typing.{judged_by, judged_from, judgements_at}

-- ---- what holds of a judgement's meaning, where it has one

abbrev pub Yields : (Meaning → Type 0) → Judgement → Type 0
Yields P (means m) = P m
Yields P j = Unit {0}

pub yields_verdict : (P : Meaning → Type 0) (fs : List Fault) (m : Meaning) → P m → Yields P (verdict fs m)
yields_verdict P [] m h = h
yields_verdict P (f ∷ fs) m h = tt

pub yields_besides : (P : Meaning → Type 0) (fs : List Fault) (j : Judgement) → Yields P j → Yields P (besides fs j)
yields_besides P [] j h = h
yields_besides P (f ∷ fs) (breaks_rules g gs) h = tt
yields_besides P (f ∷ fs) (means m) h = tt
yields_besides P (f ∷ fs) waits h = tt

pub yields_given : {A : Type 0} (P : Meaning → Type 0) (o : Option A) (f : A → Judgement) → ((a : A) → o ≡ Some a → Yields P (f a)) → Yields P (given o f)
yields_given P None f h = tt
yields_given P (Some a) f h = h a refl

pub yielded : (P : Meaning → Type 0) (j : Judgement) (m : Meaning) → j ≡ means m → Yields P j → P m
yielded P j m e h = subst (λ i. Yields P i) e h

-- ---- one node

longer : (js : List Judgement) (j : Judgement) (k : ℕ) (m : Meaning) → judgement_at (js ++ j ∷ []) k ≡ means m
    → (judgement_at js k ≡ means m) ⊎ ((k ≡ length js) × (j ≡ means m))
longer [] j zero m e = inr (refl, e)
longer [] j (suc k) m e = absurd (cc e)
longer (x ∷ js) j zero m e = inl e
longer (x ∷ js) j (suc k) m e = by (longer js j k m e)
  where
    by : (judgement_at js k ≡ means m) ⊎ ((k ≡ length js) × (j ≡ means m)) → (judgement_at (x ∷ js) (suc k) ≡ means m) ⊎ ((suc k ≡ suc (length js)) × (j ≡ means m))
    by (inl h) = inl h
    by (inr h) = inr (ap suc h.0, h.1)

-- the judgements before a node, its own, and those behind it
pub record Stands (p : Places) (n : ℕ) (node : Node) : Type 0 where
  pub front : List Judgement
  pub back : List Judgement
  pub long : length front ≡ n
  pub are : judgements_at p ≡ front ++ (judged_by p front node node.label.kind ∷ back)

module _ (p : Places) where
  extended : (js : List Judgement) (ns : List Node) → (more : List Judgement) × (judged_from p js ns ≡ js ++ more)
  unfolding judged_from
  extended js [] = ([], sym (append-nil js))
  extended js (node ∷ rest) =
      let j = judged_by p js node node.label.kind in
      let h = extended (js ++ j ∷ []) rest in
      (j ∷ h.0, h.1 ∙ append_assoc js (j ∷ []) h.0)

  stand_from : (js : List Judgement) (ns : List Node) (i : ℕ) (node : Node) → slice_get ns i ≡ Some node
      → (front : List Judgement) × (back : List Judgement) × (length front ≡ length js + i) × (judged_from p js ns ≡ front ++ (judged_by p front node node.label.kind ∷ back))
  unfolding judged_from
  stand_from js [] i node e = absurd (cc e)
  stand_from js (x ∷ ns) zero node e =
      let same : x ≡ node = cc e in
      subst (λ y. (front : List Judgement) × (back : List Judgement) × (length front ≡ length js + 0) × (judged_from p js (x ∷ ns) ≡ front ++ (judged_by p front y y.label.kind ∷ back))) same
      (let h = extended (js ++ judged_by p js x x.label.kind ∷ []) ns in
      (js, h.0, omega arith, h.1 ∙ append_assoc js (judged_by p js x x.label.kind ∷ []) h.0))
  stand_from js (x ∷ ns) (suc i) node e =
      let h = stand_from (js ++ judged_by p js x x.label.kind ∷ []) ns i node e in
      let long = length-append js (judged_by p js x x.label.kind ∷ []) in
      let here = h.2 in
      (h.0, h.1, omega (arith, long, here), h.3)

  pub stands : (n : ℕ) (node : Node) → slice_get p.nodes n ≡ Some node → Stands p n node
  stands n node e = let h = stand_from [] p.nodes n node e in
      record { front = h.0; back = h.1; long = h.2 ∙ omega arith; are = h.3 }

-- ---- all nodes

-- these are the first judgements
abbrev pub IsFront : Places → List Judgement → Type 0
IsFront p js = (more : List Judgement) × (judgements_at p ≡ js ++ more)

module _ (p : Places) (G : ℕ → Meaning → Type 0) where
  abbrev pub Known : List Judgement → Type 0
  Known js = (k : ℕ) (m : Meaning) → judgement_at js k ≡ means m → G k m

  abbrev pub Step : Type 0
  Step = (js : List Judgement) (node : Node) → slice_get p.nodes (length js) ≡ Some node → IsFront p js → Known js → Yields (G (length js)) (judged_by p js node node.label.kind)

  known_longer : (js : List Judgement) (j : Judgement) → Known js → Yields (G (length js)) j → Known (js ++ j ∷ [])
  known_longer js j known own k m e = by (longer js j k m e)
    where
      by : (judgement_at js k ≡ means m) ⊎ ((k ≡ length js) × (j ≡ means m)) → G k m
      by (inl h) = known k m h
      by (inr h) = subst (λ i. G i m) (sym h.0) (yielded (G (length js)) j m h.1 own)

  known_from : Step → (js : List Judgement) (ns : List Node) → ((i : ℕ) (node : Node) → slice_get ns i ≡ Some node → slice_get p.nodes (length js + i) ≡ Some node)
      → judgements_at p ≡ judged_from p js ns → Known js → Known (judged_from p js ns)
  unfolding judged_from
  known_from step js [] at whole known = known
  known_from step js (node ∷ rest) at whole known =
      let j = judged_by p js node node.label.kind in
      let more = extended p js (node ∷ rest) in
      let first : slice_get p.nodes (length js) ≡ Some node = subst (λ i. slice_get p.nodes i ≡ Some node) (omega arith) (at 0 node refl) in
      let long : length (js ++ j ∷ []) ≡ length js + 1 = length-append js (j ∷ []) in
      known_from step (js ++ j ∷ []) rest
      (λ i n e. subst (λ k. slice_get p.nodes k ≡ Some n) (omega (arith, long)) (at (suc i) n e))
      whole (known_longer js j known (step js node first (more.0, whole ∙ more.1) known))

  pub all_known : Step → Known (judgements_at p)
  all_known step = known_from step [] p.nodes (λ i node e. subst (λ k. slice_get p.nodes k ≡ Some node) (omega arith) e) refl (λ k m e. absurd (cc e))

-- ---- no faults

no_faults_in : (front : List Judgement) (j : Judgement) (back : List Judgement) → faults_of (front ++ (j ∷ back)) ≡ [] → faults_in j ≡ []
no_faults_in [] (means m) back e = refl
no_faults_in [] waits back e = refl
no_faults_in [] (breaks_rules f fs) back e = absurd (cc e)
no_faults_in (means m ∷ front) j back e = no_faults_in front j back e
no_faults_in (waits ∷ front) j back e = no_faults_in front j back e
no_faults_in (breaks_rules f fs ∷ front) j back e = absurd (cc e)

pub no_fault_of : (p : Places) (n : ℕ) (node : Node) (s : Stands p n node) → faults_of (judgements_at p) ≡ [] → faults_in (judged_by p s.front node node.label.kind) ≡ []
no_fault_of p n node s e = no_faults_in s.front (judged_by p s.front node node.label.kind) s.back (ap faults_of (sym s.are) ∙ e)

-- ---- fronts

pub front_at : (js more : List Judgement) (k : ℕ) → k < length js → judgement_at (js ++ more) k ≡ judgement_at js k
front_at [] more k lt = absurd (omega (arith, lt))
front_at (j ∷ js) more zero lt = refl
front_at (j ∷ js) more (suc k) lt = front_at js more k (omega (arith, lt))

pub meant_later : (js more : List Judgement) (k : ℕ) (m : Meaning) → judgement_at js k ≡ means m → judgement_at (js ++ more) k ≡ means m
meant_later [] more k m e = absurd (cc e)
meant_later (j ∷ js) more zero m e = e
meant_later (j ∷ js) more (suc k) m e = meant_later js more k m e
