-- The cells of a declarator with its initializer stand apart within its type.
use Rattle.std.proofs.Common.{◌≡◌, ◌⊎◌, inl, inr, ℕ, true, false, List, [], ◌∷◌, Option, Some, None, refl, sym, ap, ◌∙◌, subst, arith}
use Rattle.std.specs.Prelude.{slice_get, take, if◌then◌else◌}
use Rattle.c_lexer.specs.declared.token.Token.{Token}
use Rattle.c_syntax.specs.declared.kind.SynKind.TheVariants as kind
use Rattle.c_syntax.specs.Trees.{Tree}
use Rattle.c_grammar.specs.Derivation.{IsTreeOf}
use Rattle.c_typing.specs.Types.{CType, size_of}
use Rattle.c_typing.specs.Places.{Node, nodes, node_at, kind_at, parent_of, kid, has_kid}
use Rattle.c_typing.specs.Names.{Name, places, name_of, is_static}
use Rattle.c_typing.specs.Judgements.{Fault, Meaning, initialized, Judgement, means, verdict, judgement_at, type_at, layouts}
use Rattle.c_typing.specs.Rules.{bad_initializer}
use Rattle.c_typing.specs.Initializers.{Part, part_for, completed, given_count, target, target_by, target_within, is_object, bare_code, initialized_object, init_by, init_declarator}
use Rattle.c_typing.specs.ShapesOfNodes.{category_at}
use Rattle.c_typing.specs.Typing.{judged_by, judgements_at, faults}
use Rattle.c_typing.proofs.MadeJudged.{Yields, yields_given, yielded}
use Rattle.c_typing.proofs.MadeForms.{yields_if_so}
use Rattle.c_typing.proofs.MadeTexts.{front_none}
use Rattle.c_typing.proofs.ProgressBase.{judged_at, earlier_at}
use Rattle.c_typing.proofs.ProgressAll.{found_at}
use Rattle.c_typing.proofs.ProgressKids.{Kid, kid_of}
use Rattle.c_typing.proofs.ProgressStep.{has_at}
use Rattle.c_typing.proofs.ProgressPlaces.{AreLinked, are_linked, some_same}
use Rattle.c_typing.proofs.ProgressInitial.{of_parent, init_target}
use Rattle.c_typing.proofs.ProgressTargets.{typed_later, layouts_front}
use Rattle.c_typing.proofs.ProgressSpecials.{ArePlaced, long}
use Rattle.c_typing.proofs.MadeCells.{Stand}
use Rattle.c_typing.proofs.MadeCellsParts.{BracesStand, stand_for}
use Rattle.c_typing.proofs.MadeCellsNested.{all_done, done_for}
use Rattle.c_typing.proofs.MadeCellsMembers.{structs_laid}
use Rattle.c_typing.proofs.MadeCellsTargets.{type_meant, declared_hold, target_hold}
use Rattle.c_typing.proofs.MadeCellsStructs.{take_all}
use Rattle.c_typing.proofs.MadeCellsLater.{hold_later, any_more}

verdict_kept : (P : Meaning → Type 0) (fs : List Fault) (m : Meaning) → (fs ≡ [] → P m) → Yields P (verdict fs m)
verdict_kept P [] m h = h refl
verdict_kept P (f ∷ fs) m h = tt

module _ (tokens : List Token) (t : Tree) (derived : IsTreeOf tokens t) (quiet : faults t ≡ []) where
  l : AreLinked (category_at t) (nodes t)
  l = are_linked tokens t derived

  placed : ArePlaced (places t)
  placed = record { names = refl; functions = refl }

  module _ (n : ℕ) (node : Node) (at : slice_get (nodes t) n ≡ Some node) (is : node.label.kind ≡ kind.InitDecl) where
    abbrev Before : List Judgement
    Before = take n (judgements_at (places t))

    -- no cells, or an initializer with its cells within the type, whatever structs follow
    abbrev Kept : Meaning → Type 0
    Kept (initialized u ss cs) = (cs ≡ []) ⊎ ((has_kid node 1 ≡ true) × Stand 0 (size_of (layouts (judgements_at (places t))) u) cs)
    Kept m = Unit {0}

    -- what the braces initialize is what is declared
    same_type : (j : ℕ) (u w : CType) (q : Kid (nodes t) n j) → type_at (take n (judgements_at (places t))) (kid node 0) ≡ Some u → target (places t) (take j (judgements_at (places t))) j ≡ Some w → w ≡ u
    same_type j u w q typed own =
        let p = places t in
        let d = long (category_at t) p l placed n node at in
        let early = take j (judgements_at p) in
        let above = target_within p early d.0 (parent_of p.nodes j).id in
        let outer : parent_of p.nodes j ≡ node = ap (λ (x : Node). node_at p.nodes x.parent) (found_at p.nodes j q.node q.at) ∙ (ap (λ i. node_at p.nodes i) q.below ∙ found_at p.nodes n node at) in
        let by_outer = sym (of_parent p early d.0 j d.1) ∙ own in
        let by_init : target_by p early (parent_of p.nodes j) j above kind.InitDecl ≡ Some w = ap (λ k. target_by p early (parent_of p.nodes j) j above k) (sym (ap (λ (x : Node). x.label.kind) outer ∙ is)) ∙ by_outer in
        let mine : type_at early (kid node 0) ≡ Some w = ap (λ (x : Node). type_at early (kid x 0)) (sym outer) ∙ init_target p early (parent_of p.nodes j) j above w by_init in
        let less = q.less in
        some_same (sym (typed_later (judgements_at p) j n (kid node 0) w (omega (arith, less)) mine) ∙ typed)

    braces_stand : (u : CType) → has_kid node 1 ≡ true → type_at (take n (judgements_at (places t))) (kid node 0) ≡ Some u → kind_at (nodes t) (kid node 1) ≡ kind.Braces
        → BracesStand (places t) (take n (judgements_at (places t))) u (node_at (nodes t) (kid node 1)).id
    braces_stand u has typed braces k cs e =
        let q = kid_of (nodes t) node.first n node.kids 1 (kid node 1) (l.shapes.tiled n node at).kids (has_at node.kids 1 has) in
        let less = q.less in
        let found = found_at (nodes t) (kid node 1) q.node q.at in
        let id : (node_at (nodes t) (kid node 1)).id ≡ kid node 1 = ap (λ (x : Node). x.id) found ∙ (l.shapes.tiled (kid node 1) q.node q.at).numbered in
        let judged = sym (earlier_at (judgements_at (places t)) n (kid node 1) less) ∙ (ap (λ x. judgement_at (take n (judgements_at (places t))) x) (sym id) ∙ e) in
        let done = all_done tokens t derived (structs_laid tokens t derived) (target_hold tokens t derived quiet) (kid node 1) q.node q.at (sym (ap (λ (x : Node). x.label.kind) found) ∙ braces) k cs judged in
        done_for tokens t derived (structs_laid tokens t derived) (target_hold tokens t derived quiet) n (kid node 1) u k cs (omega (arith, less)) done (λ w own. same_type (kid node 1) u w q typed own)

    object_there : (o : Option Name) (e : Name) → o ≡ Some e → is_object e.entity ≡ true → (elim o as (λ x. Option Name) [ None ↦ None | Some a ↦ if is_object a.entity then Some a else None ]) ≡ Some e
    object_there None e h g = absurd (cc h)
    object_there (Some a) e h g = let same : a ≡ e = cc h in ap (λ b. if b then Some a else None) (ap (λ (x : Name). is_object x.entity) same ∙ g) ∙ ap Some same

    size_later : (u : CType) (e : Name) (c : Option ℕ) → type_at (take n (judgements_at (places t))) (kid node 0) ≡ Some u → name_of (places t) (node_at (nodes t) (kid node 0)).first ≡ Some e → is_object e.entity ≡ true
        → size_of (layouts (judgements_at (places t))) (completed u c) ≡ size_of (layouts (take n (judgements_at (places t)))) (completed u c)
    size_later u e c typed named object =
        let h = type_meant (judgements_at (places t)) n (kid node 0) u typed in
        let lt = h.0 in
        let early = declared_hold tokens t derived quiet n node e u at is (object_there (name_of (places t) (node_at (nodes t) (kid node 0)).first) e named object) h.1 in
        let hold = hold_later (judgements_at (places t)) (kid node 0) n u (omega (arith, lt)) early in
        let r = take_all (judgements_at (places t)) n in
        ap (λ ls. size_of ls (completed u c)) (ap layouts r.1 ∙ layouts_front (take n (judgements_at (places t))) r.0) ∙ any_more (layouts (take n (judgements_at (places t)))) (layouts r.0) u c hold

    object_row : (u : CType) (e : Name) (q : Part) → name_of (places t) (node_at (nodes t) (kid node 0)).first ≡ Some e → is_object e.entity ≡ true → has_kid node 1 ≡ true → type_at (take n (judgements_at (places t))) (kid node 0) ≡ Some u → part_for (places t) (take n (judgements_at (places t))) (is_static e.entity) false u (kid node 1) ≡ Some q
        → Yields Kept (initialized_object (places t) (take n (judgements_at (places t))) (kid node 1) e u q)
    unfolding initialized_object
    object_row u e q named object has typed there = verdict_kept Kept _ (initialized _ _ q.cells) (λ none. inr (has, subst (λ s. Stand 0 s q.cells) (sym (size_later u e (given_count (places t) (take n (judgements_at (places t))) (node_at (nodes t) (kid node 1)) (kind_at (nodes t) (kid node 1))) typed named object)) (stand_for (places t) (take n (judgements_at (places t))) (is_static e.entity) false u (kid node 1) q (λ braces. braces_stand u has typed braces) there (front_none q.faults _ none))))

    by_row : (u : CType) (e : Name) → name_of (places t) (node_at (nodes t) (kid node 0)).first ≡ Some e → type_at (take n (judgements_at (places t))) (kid node 0) ≡ Some u → Yields Kept (init_by (places t) (take n (judgements_at (places t))) node u e)
    unfolding init_by
    by_row u e named typed = yields_if_so Kept (has_kid node 1) _ (means (initialized u (bare_code (places t) e e.entity) []))
        (λ has. yields_if_so Kept (is_object e.entity) _ (verdict (bad_initializer true (kid node 1)) (initialized u [] []))
        (λ object. yields_given Kept (part_for (places t) (take n (judgements_at (places t))) (is_static e.entity) false u (kid node 1)) (initialized_object (places t) (take n (judgements_at (places t))) (kid node 1) e u) (λ q there. object_row u e q named object has typed there))
        (λ other. tt)) (λ none. inl refl)

    init_row : Yields Kept (init_declarator (places t) (take n (judgements_at (places t))) node)
    unfolding init_declarator
    init_row = yields_given Kept (type_at (take n (judgements_at (places t))) (kid node 0)) _ (λ u typed. yields_given Kept (name_of (places t) (node_at (nodes t) (kid node 0)).first) (init_by (places t) (take n (judgements_at (places t))) node u) (λ e named. by_row u e named typed))

    pub kept : (m : Meaning) → judgement_at (judgements_at (places t)) n ≡ means m → Kept m
    unfolding judged_by
    kept m e = yielded Kept (judgement_at (judgements_at (places t)) n) m e
        (subst (λ j. Yields Kept j) (sym (judged_at (places t) (nodes t) n node at)) (subst (λ k. Yields Kept (judged_by (places t) (take n (judgements_at (places t))) node k)) (sym is) init_row))
