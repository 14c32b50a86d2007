-- Each member of a struct has a size, so all structs are laid out within themselves.
use Rattle.std.proofs.Common.{◌≡◌, inl, inr, ℕ, suc, ◌≤◌, Bool, true, false, ◌||◌, not, List, [], ◌∷◌, length, map, Option, Some, None, refl, sym, ap, ◌∙◌, subst, arith, true≢false}
use Rattle.std.specs.Prelude.{slice_get, take, drop, flat_map, option_map}
use Rattle.std.specs.List.{AllByRecursion, list_all}
use Rattle.c_lexer.specs.declared.token.Token.{Token}
use Rattle.c_syntax.specs.declared.kind.SynKind.{SynKind}
use Rattle.c_syntax.specs.declared.kind.SynKind.TheVariants as kind
use Rattle.c_syntax.specs.Trees.{Tree}
use Rattle.c_grammar.specs.Derivation.{IsTreeOf}
use Rattle.c_typing.specs.Types.{CType, Field, Layout, has_size}
use Rattle.c_typing.specs.Places.{Node, nodes, node_at, parent_of, has_kid, other_kids, is_declarator, text_at}
use Rattle.c_typing.specs.Names.{Places, places, name_of, tag_of}
use Rattle.c_typing.specs.Judgements.{Meaning, a_struct, members, a_type, Judgement, means, all_of, judgement_at, type_at, type_of, layouts}
use Rattle.c_typing.specs.Rules.{broken_if, incomplete_type}
use Rattle.c_typing.specs.Declarators.{whole_by, members_of, layout, struct_specifier, struct_body, member, member_at, tag_names}
use Rattle.c_typing.specs.Shapes as category
use Rattle.c_typing.specs.Shapes.{Category, kids_fit, is_member}
use Rattle.c_typing.specs.ShapesOfNodes.{category_at}
use Rattle.c_typing.specs.Typing.{judged_by, judgements_at}
use Rattle.c_typing.proofs.MadeJudged.{Yields, yields_verdict, yields_besides, yields_given, IsFront, all_known, front_at}
use Rattle.c_typing.proofs.MadeNodes.{In}
use Rattle.c_typing.proofs.MadeForms.{is_active, is_passive_kind, yields_if, passive_row, braces_row}
use Rattle.c_typing.proofs.MadeAnything.{any_row}
use Rattle.c_typing.proofs.MadeOthers.{is_statement_kind, statement_row, function_row}
use Rattle.c_typing.proofs.MadeStatements.{is_expression_kind}
use Rattle.c_typing.proofs.MadeParts.{all_parts, all_joined}
use Rattle.c_typing.proofs.MadeSizes.{IsAligned}
use Rattle.c_typing.proofs.MadeDeclarators.{typed_at}
use Rattle.c_typing.proofs.MadeFunctionNames.{Anything, no_chains}
use Rattle.c_typing.proofs.ProgressBase.{judged_at, earlier_at, take_front}
use Rattle.c_typing.proofs.ProgressAll.{found_at}
use Rattle.c_typing.proofs.ProgressKids.{kid_of}
use Rattle.c_typing.proofs.ProgressKinds as of
use Rattle.c_typing.proofs.ProgressStep.{at_all}
use Rattle.c_typing.proofs.ProgressPlaces.{AreLinked, are_linked}
use Rattle.c_typing.proofs.ProgressInside.{kind_declares}
use Rattle.c_typing.proofs.MadeCellsTypes.{FieldsStand, AllLaid}
use Rattle.c_typing.proofs.MadeCellsLater.{sized_later}
use Rattle.c_typing.proofs.MadeCellsNested.{given_means}
use Rattle.c_typing.proofs.MadeCellsStructs.{Sized, laid_stand, member_kind, always_laid, aligned_front}

no : {A : Type 0} → false ≡ true → A
no e = absurd (true≢false (sym e))

pub index_of : (ks : List ℕ) (k : ℕ) → In k ks → (i : ℕ) × (slice_get ks i ≡ Some k)
index_of [] k h = absurd h
index_of (x ∷ ks) k (inl same) = (0, ap Some same)
index_of (x ∷ ks) k (inr h) = let r = index_of ks k h in (suc r.0, r.1)

behind_first : (ks : List ℕ) (i k : ℕ) → slice_get (drop 1 ks) i ≡ Some k → slice_get ks (suc i) ≡ Some k
behind_first [] i k e = absurd (cc e)
behind_first (x ∷ ks) i k e = e

rest_all : (cat : ℕ → Category) (test : Category → Bool) (ks : List ℕ) → list_all test (of.rest (map cat ks)) ≡ true → list_all test (map cat (drop 1 ks)) ≡ true
rest_all cat test [] e = refl
rest_all cat test (k ∷ ks) e = e

only_declarator : (c : Category) → category.is_declarator c ≡ true → of.is_declarator_only c ≡ true
only_declarator category.declarator e = refl
only_declarator _ e = no e

has_or : (b : Bool) (n : ℕ) → broken_if (not b) 5 n ≡ [] → b ≡ true
has_or true n e = refl
has_or false n e = absurd (cc e)

-- the judgements before a node are the first ones of all
pub front_is : (p : Places) (js : List Judgement) (n : ℕ) → IsFront p js → length js ≡ n → take n (judgements_at p) ≡ js
front_is p js n front long = ap (λ k. take k (judgements_at p)) (sym long) ∙ (ap (λ ks. take (length js) ks) front.1 ∙ take_front js front.0)

same_members : {xs ys : List Field} → means (members xs) ≡ means (members ys) → xs ≡ ys
same_members e = cc e

members_mean : (j : Judgement) (fs : List Field) → members_of j ≡ Some fs → j ≡ means (members fs)
members_mean (means (members gs)) fs e = let same : gs ≡ fs = cc e in ap (λ x. means (members x)) same
members_mean _ fs e = absurd (cc e)

field_typed : (o : Option CType) (text : List ℕ) (f : Field) → option_map (λ (u : CType). record { name = text; type = u; offset = 0 }) o ≡ Some f → o ≡ Some f.type
field_typed None text f e = absurd (cc e)
field_typed (Some u) text f e = let same : record { name = text; type = u; offset = 0 } ≡ f = cc e in ap (λ (x : Field). Some x.type) same

module _ (tokens : List Token) (t : Tree) (derived : IsTreeOf tokens t) where
  l : AreLinked (category_at t) (nodes t)
  l = are_linked tokens t derived

  -- what a declarator of a member declares has a size
  member_sized : (d : ℕ) (m : Node) (u : CType) → slice_get (nodes t) d ≡ Some m → is_declarator m.label.kind ≡ true → (parent_of (nodes t) m.id).label.kind ≡ kind.Member → type_of (judgement_at (judgements_at (places t)) d) ≡ Some u
      → has_size (layouts (take d (judgements_at (places t)))) u ≡ true
  member_sized d m u at declares outer typed =
      let w = typed_at tokens t derived (Anything tokens t derived) (no_chains tokens t derived) d u m at declares typed in
      let kept : incomplete_type (layouts w.js) u m.id ≡ [] = subst (λ k. whole_by (places t) w.js m u (name_of (places t) m.first) k ≡ []) outer w.kept in
      ap (λ js. has_size (layouts js) u) (front_is (places t) w.js d w.front w.long) ∙ has_or (has_size (layouts w.js) u) m.id kept

  -- a declarator among the kids of a member
  declared_sized : (j d i : ℕ) (m : Node) (f : Field) (b : ℕ) → slice_get (nodes t) j ≡ Some m → m.label.kind ≡ kind.Member → j ≤ b → slice_get (other_kids m) i ≡ Some d → member_at (places t) (take j (judgements_at (places t))) d ≡ Some f
      → Sized (layouts (take b (judgements_at (places t)))) f
  declared_sized j d i m f b at is le there e =
      let cat = category_at t in
      let q = kid_of (nodes t) m.first j m.kids (suc i) d (l.shapes.tiled j m at).kids (behind_first m.kids i d there) in
      let fit = of.of_member m.label.text (map cat m.kids) (ap (λ k. kids_fit k m.label.text (map cat m.kids)) (sym is) ∙ (l.shapes.shaped j m at).kids) in
      let c = at_all cat category.is_declarator (other_kids m) i d (rest_all cat category.is_declarator m.kids fit) there in
      let shape = l.shapes.shaped d q.node q.at in
      let declares = kind_declares q.node.label.kind q.node.label.text (map cat q.node.kids) (ap of.is_declarator_only (sym shape.category) ∙ only_declarator (category_at t d) c) in
      let id = (l.shapes.tiled d q.node q.at).numbered in
      let outer : (parent_of (nodes t) q.node.id).label.kind ≡ kind.Member =
      ap (λ i. (parent_of (nodes t) i).label.kind) id ∙ (ap (λ (x : Node). (node_at (nodes t) x.parent).label.kind) (found_at (nodes t) d q.node q.at)
      ∙ (ap (λ i. (node_at (nodes t) i).label.kind) q.below ∙ (ap (λ (x : Node). x.label.kind) (found_at (nodes t) j m at) ∙ is))) in
      let less = q.less in
      let typed = field_typed (type_at (take j (judgements_at (places t))) d) (text_at (nodes t) (node_at (nodes t) d).first) f e in
      let late : type_of (judgement_at (judgements_at (places t)) d) ≡ Some f.type = ap type_of (sym (earlier_at (judgements_at (places t)) j d less)) ∙ typed in
      sized_later (judgements_at (places t)) d b f.type (omega (arith, less, le)) (member_sized d q.node f.type q.at declares outer late)

  members_sized : (j : ℕ) (m : Node) (fs : List Field) (b : ℕ) → slice_get (nodes t) j ≡ Some m → m.label.kind ≡ kind.Member → judgement_at (judgements_at (places t)) j ≡ means (members fs) → j ≤ b
      → AllByRecursion (Sized (layouts (take b (judgements_at (places t))))) fs
  unfolding judged_by member
  members_sized j m fs b at is e le =
      let own : member (places t) (take j (judgements_at (places t))) m ≡ means (members fs) = ap (λ k. judged_by (places t) (take j (judgements_at (places t))) m k) (sym is) ∙ (sym (judged_at (places t) (nodes t) j m at) ∙ e) in
      let r = given_means (all_of (map (member_at (places t) (take j (judgements_at (places t)))) (other_kids m))) _ (members fs) own in
      let all = all_parts (member_at (places t) (take j (judgements_at (places t)))) (Sized (layouts (take b (judgements_at (places t))))) (other_kids m) r.0
      (λ d f among g. let i = index_of (other_kids m) d among in declared_sized j d i.0 m f b at is le i.1 g) r.1 in
      subst (λ xs. AllByRecursion (Sized (layouts (take b (judgements_at (places t))))) xs) (same_members r.2) all

  -- ---- structs

  abbrev Laid : ℕ → Meaning → Type 0
  Laid n (a_struct x) = FieldsStand (layouts (take n (judgements_at (places t)))) 0 x.fields x.measure.size
  Laid n m = Unit {0}

  free : (n : ℕ) (m : Meaning) → is_active m ≡ false → Laid n m
  free n (a_struct x) e = absurd (true≢false e)
  free n _ e = tt

  module _ (js : List Judgement) (node : Node) (there : slice_get (nodes t) (length js) ≡ Some node) (front : IsFront (places t) js) where
    before_is : take (length js) (judgements_at (places t)) ≡ js
    before_is = front_is (places t) js (length js) front refl

    kid_sized : (c : ℕ) (fs : List Field) → node.label.kind ≡ kind.StructSpec → In c node.kids → members_of (judgement_at js c) ≡ Some fs → AllByRecursion (Sized (layouts js)) fs
    kid_sized c fs is among e =
        let cat = category_at t in
        let i = index_of node.kids c among in
        let q = kid_of (nodes t) node.first (length js) node.kids i.0 c (l.shapes.tiled (length js) node there).kids i.1 in
        let fit = of.of_struct node.label.text (map cat node.kids) (ap (λ k. kids_fit k node.label.text (map cat node.kids)) (sym is) ∙ (l.shapes.shaped (length js) node there).kids) in
        let c_is = at_all cat is_member node.kids i.0 c fit i.1 in
        let shape = l.shapes.shaped c q.node q.at in
        let member_is = member_kind q.node.label.kind q.node.label.text (map cat q.node.kids) (ap is_member (sym shape.category) ∙ c_is) in
        let less = q.less in
        let judged : judgement_at (judgements_at (places t)) c ≡ means (members fs) = ap (λ ks. judgement_at ks c) front.1 ∙ (front_at js front.0 c less ∙ members_mean (judgement_at js c) fs e) in
        subst (λ ks. AllByRecursion (Sized (layouts ks)) fs) before_is (members_sized c q.node fs (length js) q.at member_is judged (omega (arith, less)))

    body_row : node.label.kind ≡ kind.StructSpec → Yields (Laid (length js)) (struct_body (places t) js node)
    unfolding struct_body
    body_row is = yields_besides (Laid (length js)) _ _ (yields_given (Laid (length js)) (all_of (map (λ n. members_of (judgement_at js n)) node.kids)) _ (λ fields g.
        yields_verdict (Laid (length js)) _ (a_struct (layout (layouts js) (tag_names node (tag_of (places t) node.id)) (flat_map (λ fs. fs) fields)))
        (subst (λ ks. FieldsStand (layouts ks) 0 (layout (layouts js) (tag_names node (tag_of (places t) node.id)) (flat_map (λ fs. fs) fields)).fields (layout (layouts js) (tag_names node (tag_of (places t) node.id)) (flat_map (λ fs. fs) fields)).measure.size) (sym before_is)
        (laid_stand (layouts js) (tag_names node (tag_of (places t) node.id)) (flat_map (λ fs. fs) fields) (subst (λ ks. AllByRecursion (λ (x : Layout). IsAligned x.measure) (layouts ks)) before_is (aligned_front (places t) (length js)))
        (all_joined (Sized (layouts js)) fields (all_parts (λ n. members_of (judgement_at js n)) (λ fs. AllByRecursion (Sized (layouts js)) fs) node.kids fields (λ c fs among e. kid_sized c fs is among e) g))))))

    spec_row : node.label.kind ≡ kind.StructSpec → Yields (Laid (length js)) (struct_specifier (places t) js node)
    unfolding struct_specifier
    spec_row is = yields_if (Laid (length js)) (has_kid node 0) (struct_body (places t) js node) _ (body_row is) (yields_verdict (Laid (length js)) _ (a_type _) tt)

    other_row : (k : SynKind) → node.label.kind ≡ k → (b : Bool) → is_expression_kind k ≡ b → (c : Bool) → is_statement_kind k ≡ c → b || (c || is_passive_kind k) ≡ true → Yields (Laid (length js)) (judged_by (places t) js node k)
    other_row k is true e c f g = any_row (Laid (length js)) (free (length js)) (λ ss. tt) (λ x h. tt) (places t) js node k is e
    other_row k is false e true f g = statement_row (Laid (length js)) (λ ss. tt) (λ u ss cs. tt) (λ w. tt) (places t) js node (λ q. function_row (Laid (length js)) (λ h. tt) (places t) js node) k is f
    other_row k is false e false f g = passive_row (Laid (length js)) (free (length js)) (λ ss. tt) (places t) js node k g

    row : (k : SynKind) → node.label.kind ≡ k → Yields (Laid (length js)) (judged_by (places t) js node k)
    unfolding judged_by
    row kind.StructSpec is = spec_row is
    row kind.Braces is = braces_row (Laid (length js)) (λ n cs. tt) (places t) js node
    row k is = other_row k is (is_expression_kind k) refl (is_statement_kind k) refl refl

  -- at each time
  pub structs_laid : (b : ℕ) → AllLaid (layouts (take b (judgements_at (places t))))
  structs_laid = always_laid (places t) (λ n x e. all_known (places t) Laid (λ js node there front known. row js node there front node.label.kind refl) n (a_struct x) e)
