-- Typedef names have types with their lengths, and static objects have types with sizes.
use Rattle.std.proofs.Common.{◌≡◌, ℕ, zero, suc, true, false, not, ◌&&◌, List, [], ◌∷◌, length, map, Some, refl, sym, ap, ◌∙◌, subst, arith, true≢false, ◌⊎◌, inl, inr}
use Rattle.std.specs.Prelude.{slice_get, get_or, unwrap_or, take}
use Rattle.c_lexer.specs.declared.token.Token.{Token}
use Rattle.c_syntax.specs.declared.kind.SynKind.{SynKind}
use Rattle.c_syntax.specs.declared.kind.SynKind.TheVariants as kind
use Rattle.c_syntax.specs.Trees.{Tree}
use Rattle.c_grammar.specs.Derivation.{IsTreeOf}
use Rattle.c_types.specs.declared.tree.Stmt.{Stmt}
use Rattle.c_types.specs.declared.tree.Cell.{Cell}
use Rattle.c_typing.specs.Types.{CType}
use Rattle.c_typing.specs.Places.{Node, nodes, node_at, kind_at, kid, has_kid, is_declarator, is_init}
use Rattle.c_typing.specs.Names.{Name, Places, places, name_of}
use Rattle.c_typing.specs.Judgements.{Judgement, means, breaks_rules, waits, Meaning, initialized, declares, judgement_at, type_at, type_of}
use Rattle.c_typing.specs.Initializers.{is_object, init_declarator}
use Rattle.c_typing.specs.Typing.{judged_by, judgements_at, faults}
use Rattle.c_typing.specs.Shapes as category
use Rattle.c_typing.specs.Shapes.{Category, no_category, category_by, kids_fit, at_most_one, is_initializer}
use Rattle.c_typing.specs.ShapesOfNodes.{category_at}
use Rattle.c_typing.specs.Meant.{has_form}
use Rattle.c_typing.proofs.ProgressBase.{judged_at, earlier_at}
use Rattle.c_typing.proofs.ProgressForms.{fits, split, is_part}
use Rattle.c_typing.proofs.ProgressKinds as of
use Rattle.c_typing.proofs.ProgressAll.{no_fault, all_meant, found_at}
use Rattle.c_typing.proofs.ProgressPlaces.{Linked, AreLinked, are_linked, parent_above, get_or_at, some_same}
use Rattle.c_typing.proofs.ProgressInside.{kind_declares}
use Rattle.c_typing.proofs.ProgressInitials.{specials}
use Rattle.c_typing.proofs.ProgressDeclared.{IsDeclaredName}
use Rattle.c_typing.proofs.ProgressNumbers.{InList}
use Rattle.c_typing.proofs.ProgressObjects.{declares_type, named}
use Rattle.c_typing.proofs.ProgressBuilt.{Made, is_given}
use Rattle.c_typing.proofs.ProgressParts.{made_at}
use Rattle.c_typing.proofs.ProgressCompleted.{Completes, init_made}

no : {A : Type 0} → false ≡ true → A
no e = absurd (true≢false (sym e))

-- what a declarator with an initializer means
record MeansInitialized (j : Judgement) : Type 0 where
  type : CType
  code : List Stmt
  cells : List Cell
  is : j ≡ means (initialized type code cells)

means_initialized : (outer own : SynKind) (j : Judgement) → fits outer own category.init_declarator j ≡ true → MeansInitialized j
means_initialized outer own (means m) f = by m (split f).0
  where
    by : (m : Meaning) → has_form category.init_declarator own (not (is_declarator outer)) m ≡ true → MeansInitialized (means m)
    by (initialized t ss cs) e = record { type = t; code = ss; cells = cs; is = refl }
    by _ e = no e
means_initialized outer own (breaks_rules f fs) e = no e
means_initialized outer own waits e = no e

-- the declarator is the first kid
initial_later : (cs : List Category) (j : ℕ) → at_most_one is_initializer cs ≡ true → of.is_declarator_only (get_or cs j no_category) ≡ false
unfolding category.is_within
initial_later [] j e = refl
initial_later (category.braces ∷ []) zero e = refl
initial_later (category.expression l ∷ []) zero e = refl
initial_later (_ ∷ []) zero e = no e
initial_later (c ∷ []) (suc j) e = refl
initial_later (c ∷ d ∷ cs) j e = no e

module _ (tokens : List Token) (t : Tree) (derived : IsTreeOf tokens t) (quiet : faults t ≡ []) where
  l : AreLinked (category_at t) (nodes t)
  l = are_linked tokens t derived

  -- a name that is declared with an initializer or without one: its declarator, and what the whole means
  pub record Declared (e : Name) : Type 0 where
    pub owner : Node
    pub at : slice_get (nodes t) e.owner ≡ Some owner
    pub first : kid owner 0 ≡ e.behind
    pub type : CType
    pub declares : judgement_at (judgements_at (places t)) e.behind ≡ means (declares type)
    pub made : Made (places t) (take e.behind (judgements_at (places t))) (node_at (nodes t) e.behind) type
    pub whole : CType
    pub code : List Stmt
    pub cells : List Cell
    pub means_whole : judgement_at (judgements_at (places t)) e.owner ≡ means (initialized whole code cells)
    pub how : ((has_kid owner 1 ≡ false) × (whole ≡ type)) ⊎ ((is_object e.entity ≡ true) × Completes (places t) (take e.owner (judgements_at (places t))) e type whole)
    pub given : is_given (places t) e.node ≡ has_kid owner 1

  first_index : (ks : List ℕ) (i d : ℕ) → slice_get ks i ≡ Some d → category_at t d ≡ category.declarator → at_most_one is_initializer (of.rest (map (category_at t) ks)) ≡ true → unwrap_or (slice_get ks 0) 0 ≡ d
  first_index [] i d at c f = absurd (cc at)
  first_index (k ∷ ks) zero d at c f = some_same at
  first_index (k ∷ ks) (suc i) d at c f =
      absurd (true≢false (sym (ap of.is_declarator_only (get_or_at (category_at t) (nodes t) l ks i d at ∙ c)) ∙ initial_later (map (category_at t) ks) i f))

  pub declared : (e : Name) → InList (places t).names e → (de : IsDeclaredName (category_at t) (nodes t) e) → (node_at (nodes t) e.owner).label.kind ≡ kind.InitDecl → Declared e
  unfolding judged_by category_by
  declared e m de init = by (l.linked e.behind de.whole.node de.whole.at)
    where
      p : Places
      p = places t

      js : List Judgement
      js = judgements_at (places t)

      w : Node
      w = de.whole.node

      by : (suc e.behind ≡ length (nodes t)) ⊎ Linked (nodes t) e.behind de.whole.node → Declared e
      by (inl last) = no (sym (ap is_part (l.root e.behind w de.whole.at last)) ∙ ap is_part de.whole.is)
      by (inr q) =
          let o = q.parent in
          let at : slice_get (nodes t) e.owner ≡ Some o = ap (λ k. slice_get (nodes t) k) de.owner ∙ q.at in
          let same : o.label.kind ≡ kind.InitDecl = ap (λ (x : Node). x.label.kind) (sym (found_at (nodes t) e.owner o at)) ∙ init in
          let quietly = all_meant (category_at t) p l.shapes (no_fault t quiet).by_node (specials (category_at t) p l (record { names = refl; functions = refl })) in
          let meant = quietly e.behind w de.whole.at in
          let outer = kind_at (nodes t) w.parent in
          let d = declares_type outer w.label.kind (judgement_at js e.behind) de.whole.whole (ap (λ c. fits outer w.label.kind c (judgement_at js e.behind)) (sym de.whole.is) ∙ meant) in
          let shape = l.shapes.shaped e.behind w de.whole.at in
          let declares = kind_declares w.label.kind w.label.text (map (category_at t) w.kids) (ap of.is_declarator_only (sym shape.category ∙ de.whole.is)) in
          let made = made_at tokens t derived quiet e.behind w de.whole.at declares d.type d.is in
          let outer_owner = kind_at (nodes t) o.parent in
          let owner_shape = l.shapes.shaped e.owner o at in
          let owner_category : category_at t e.owner ≡ category.init_declarator = owner_shape.category ∙ ap (λ k. category_by k o.label.text (map (category_at t) o.kids)) same in
          let i = means_initialized outer_owner o.label.kind (judgement_at js e.owner) (ap (λ c. fits outer_owner o.label.kind c (judgement_at js e.owner)) (sym owner_category) ∙ quietly e.owner o at) in
          let own = judged_at p (nodes t) e.owner o at in
          let is : init_declarator p (take e.owner js) o ≡ means (initialized i.type i.code i.cells) = ap (λ k. judged_by p (take e.owner js) o k) (sym same) ∙ (sym own ∙ i.is) in
          let im = init_made p (take e.owner js) o i.type i.code i.cells is in
          let fit = (of.of_initializer o.label.text (map (category_at t) o.kids) (ap (λ k. kids_fit k o.label.text (map (category_at t) o.kids)) (sym same) ∙ owner_shape.kids)).1 in
          let first : kid o 0 ≡ e.behind = first_index o.kids q.index e.behind q.among de.whole.is fit in
          let less = (parent_above (category_at t) (nodes t) l e.behind w de.whole.at q).0 in
          let owns = de.owner in
          let typed : type_at (take e.owner js) (kid o 0) ≡ Some d.type =
          ap (λ k. type_at (take e.owner js) k) first ∙ (ap type_of (earlier_at js e.owner e.behind (omega (arith, less, owns))) ∙ ap type_of d.is) in
          let type_equal : im.type ≡ d.type = some_same (sym im.typed ∙ typed) in
          let name : name_of p (node_at p.nodes (kid o 0)).first ≡ Some e =
          ap (λ k. name_of p (node_at p.nodes k).first) first ∙ (ap (λ (x : Node). name_of p x.first) (found_at (nodes t) e.behind w de.whole.at) ∙ (ap (λ k. name_of p k) de.first ∙ named tokens t derived quiet e m)) in
          let name_equal : im.name ≡ e = some_same (sym im.named ∙ name) in
          record {
            owner = o;
            at = at;
            first = first;
            type = d.type;
            declares = d.is;
            made = subst (λ (x : Node). Made p (take e.behind js) x d.type) (sym (found_at (nodes t) e.behind w de.whole.at)) made;
            whole = i.type;
            code = i.code;
            cells = i.cells;
            means_whole = i.is;
            how = subst (λ (v : CType). ((has_kid o 1 ≡ false) × (i.type ≡ v)) ⊎ ((is_object e.entity ≡ true) × Completes p (take e.owner js) e v i.type)) type_equal
                (subst (λ (x : Name). ((has_kid o 1 ≡ false) × (i.type ≡ im.type)) ⊎ ((is_object x.entity ≡ true) × Completes p (take e.owner js) x im.type i.type)) name_equal im.how);
            given = ap (λ (x : Node). is_init (node_at p.nodes x.parent).label.kind && has_kid (node_at p.nodes x.parent) 1) de.declarator
                ∙ (ap (λ (x : Node). is_init x.label.kind && has_kid x 1) (found_at (nodes t) w.parent o q.at) ∙ ap (λ k. is_init k && has_kid o 1) same);
          }
