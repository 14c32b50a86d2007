-- Each struct that is complete has a size above 0, and so have its members.
use Rattle.std.proofs.Common.{◌≡◌, ℕ, zero, suc, ◌<◌, ◌≤◌, Bool, true, false, ◌||◌, List, [], ◌∷◌, length, map, Some, refl, sym, ap, ◌∙◌, arith, true≢false, unwrap_or}
use Rattle.std.specs.Prelude.{slice_get, flat_map}
use Rattle.std.specs.List.{AllByRecursion, list_all}
use Rattle.c_lexer.specs.declared.token.Token.{Token}
use Rattle.c_syntax.specs.declared.kind.SynKind.{SynKind}
use Rattle.c_syntax.specs.declared.kind.SynKind.TheVariants as kind
use Rattle.c_syntax.specs.Trees.{Tree}
use Rattle.c_grammar.specs.Derivation.{IsTreeOf}
use Rattle.c_types.specs.InOrder.{offsets}
use Rattle.c_typing.specs.Types.{CType, Field, Layout, has_size, measure, no_measure}
use Rattle.c_typing.specs.Places.{Node, nodes, node_at, parent_of, other_kids, has_kid}
use Rattle.c_typing.specs.Names.{Places, places, name_of}
use Rattle.c_typing.specs.Judgements.{Meaning, a_struct, members, Judgement, means, judgement_at, type_at, type_of, layouts, all_of}
use Rattle.c_typing.specs.Rules.{incomplete_type}
use Rattle.c_typing.specs.Declarators.{whole_by, member_at, member, members_of, layout, struct_body, struct_specifier}
use Rattle.c_typing.specs.Shapes as category
use Rattle.c_typing.specs.Shapes.{Category, category_by, kids_fit}
use Rattle.c_typing.specs.ShapesOfNodes.{category_at}
use Rattle.c_typing.specs.Typing.{judged_by, judgements_at, faults}
use Rattle.c_typing.proofs.ProgressForms.{is_part}
use Rattle.c_typing.proofs.ProgressKinds as of
use Rattle.c_typing.proofs.ProgressPlaces.{AreLinked, are_linked}
use Rattle.c_typing.proofs.MadeJudged.{Yields, yields_verdict, yields_besides, yields_given, IsFront, Known, all_known, meant_later}
use Rattle.c_typing.proofs.MadeNodes.{In}
use Rattle.c_typing.proofs.MadeForms.{is_active, is_passive_kind, yields_if_so, passive_row, braces_row}
use Rattle.c_typing.proofs.MadeParts.{in_others, all_parts, all_joined}
use Rattle.c_typing.proofs.MadePlaced.{numbered, node_there, kid_found}
use Rattle.c_typing.proofs.MadeAnything.{any_row}
use Rattle.c_typing.proofs.MadeOthers.{is_statement_kind, statement_row, function_row}
use Rattle.c_typing.proofs.MadeStatements.{is_expression_kind}
use Rattle.c_typing.proofs.MadeDeclarators.{all_long, long-map}
use Rattle.c_typing.proofs.MadeSizes.{IsAligned, AllAligned, layouts_all, members_aligned, struct_aligned}
use Rattle.c_typing.proofs.MadeCopiedSizes.{AllSolid, size_above, struct_solid}
use Rattle.c_typing.proofs.MadeCopiedTypes.{whole_typed, type_full}
use Rattle.c_typing.proofs.MadeCopiedMembers.{Sized, sized_from, sized_on, IsMember, is_member_kind, Filled, member_typed, members_meant, size_there, all_in, member_kind, part_among, rest_of, some_others, laid_all, first_filled, some_kids, all_first, all_second}

-- ---- complete structs

pub record IsStruct (p : Places) (n : ℕ) (l : Layout) : Type 0 where
  pub aligned : IsAligned l.measure
  pub solid : 0 < l.measure.size
  pub sized : AllByRecursion (λ (f : Field). Sized p n f.type) l.fields

module _ (tokens : List Token) (t : Tree) (derived : IsTreeOf tokens t) (quiet : faults t ≡ []) where
  l : AreLinked (category_at t) (nodes t)
  l = are_linked tokens t derived

  abbrev pub Holds : ℕ → Meaning → Type 0
  Holds n (a_struct l) = IsStruct (places t) n l
  Holds n (members fs) = (node : Node) → slice_get (nodes t) n ≡ Some node → node.label.kind ≡ kind.Member → Filled fs × AllByRecursion (λ (f : Field). IsMember (places t) n f) fs
  Holds n m = Unit {0}

  module _ (js : List Judgement) (node : Node) (there : slice_get (nodes t) (length js) ≡ Some node) (front : IsFront (places t) js) (known : Known (places t) Holds js) where
    later_type : (k : ℕ) (u : CType) → type_at js k ≡ Some u → type_of (judgement_at (judgements_at (places t)) k) ≡ Some u
    later_type k u e = by (judgement_at js k) refl e
      where
        by : (j : Judgement) → judgement_at js k ≡ j → type_of j ≡ Some u → type_of (judgement_at (judgements_at (places t)) k) ≡ Some u
        by (means m) g h = ap type_of (ap (λ q. judgement_at q k) front.1 ∙ meant_later js front.0 k m g) ∙ h
        by _ g h = absurd (cc h)

    own_id : node.id ≡ length js
    own_id = numbered tokens t derived (length js) node there

    declarator_of : node.label.kind ≡ kind.Member → (d : ℕ) → In d (other_kids node) → is_part (category_at t d) ≡ true
    declarator_of is d h =
        let shape = l.shapes.shaped (length js) node there in
        let fit = of.of_member node.label.text (map (category_at t) node.kids) (ap (λ k. kids_fit k node.label.text (map (category_at t) node.kids)) (sym is) ∙ shape.kids) in
        part_among (category_at t) (other_kids node) d (ap (λ cs. list_all category.is_declarator cs) (sym (rest_of (category_at t) node.kids)) ∙ fit) h

    member_good : node.label.kind ≡ kind.Member → (d : ℕ) (f : Field) → In d (other_kids node) → member_at (places t) js d ≡ Some f → IsMember (places t) (length js) f
    member_good is d f h e =
        let low = kid_found tokens t derived (length js) node d there (in_others node d h) in
        let typed = later_type d f.type (member_typed (type_at js d) _ f e) in
        let part = declarator_of is d h in
        let w = whole_typed tokens t derived quiet d low.node low.there part f.type typed in
        let parent : parent_of (nodes t) low.node.id ≡ node =
        ap (λ i. node_at (nodes t) (node_at (nodes t) i).parent) (numbered tokens t derived d low.node low.there)
        ∙ (ap (λ (m : Node). node_at (nodes t) m.parent) (node_there tokens t derived d low.node low.there) ∙ (ap (λ i. node_at (nodes t) i) (low.below ∙ own_id) ∙ node_there tokens t derived (length js) node there)) in
        let kept : incomplete_type (layouts w.js) f.type low.node.id ≡ [] =
        ap (λ k. whole_by (places t) w.js low.node f.type (name_of (places t) low.node.first) k) (sym (ap (λ (m : Node). m.label.kind) parent ∙ is)) ∙ w.kept in
        let before = low.before in
        let own = own_id in
        record {
          full = type_full tokens t derived quiet d low.node low.there part f.type typed;
          sized = sized_on (places t) d (length js) f.type (omega (arith, before, own)) (sized_from (places t) w.js d f.type w.front w.long (size_there (has_size (layouts w.js) f.type) low.node.id kept));
        }

    members_end : node.label.kind ≡ kind.Member → (fs : List Field) → all_of (map (member_at (places t) js) (other_kids node)) ≡ Some fs → Filled fs × AllByRecursion (λ (f : Field). IsMember (places t) (length js) f) fs
    members_end is fs e =
        let shape = l.shapes.shaped (length js) node there in
        let some = some_others node.label.text (category_at t) node.kids (ap (λ k. kids_fit k node.label.text (map (category_at t) node.kids)) (sym is) ∙ shape.kids) in
        let long = all_long (map (member_at (places t) js) (other_kids node)) fs e ∙ long-map (member_at (places t) js) (other_kids node) in
        (omega (arith, some, long), all_parts (member_at (places t) js) (λ (f : Field). IsMember (places t) (length js) f) (other_kids node) fs (λ d f h g. member_good is d f h g) e)

    member_row : node.label.kind ≡ kind.Member → Yields (Holds (length js)) (member (places t) js node)
    unfolding member
    member_row is = yields_given (Holds (length js)) (all_of (map (member_at (places t) js) (other_kids node))) (λ fs. means (members fs)) (λ fs e other at k. members_end is fs e)

    -- what the members of a struct, in parts, are
    abbrev PartGood : List Field → Type 0
    PartGood fs = Filled fs × AllByRecursion (λ (f : Field). IsMember (places t) (length js) f) fs

    raised : (k : ℕ) → k ≤ length js → (fs : List Field) → AllByRecursion (λ (f : Field). IsMember (places t) k f) fs → AllByRecursion (λ (f : Field). IsMember (places t) (length js) f) fs
    raised k le [] h = tt
    raised k le (f ∷ fs) h = (record { full = (h.0).full; sized = sized_on (places t) k (length js) f.type le (h.0).sized }, raised k le fs h.1)

    part_good : node.label.kind ≡ kind.StructSpec → (k : ℕ) (fs : List Field) → In k node.kids → members_of (judgement_at js k) ≡ Some fs → PartGood fs
    part_good is k fs h e =
        let low = kid_found tokens t derived (length js) node k there h in
        let before = low.before in
        let own = own_id in
        let shape = l.shapes.shaped (length js) node there in
        let fit = of.of_struct node.label.text (map (category_at t) node.kids) (ap (λ q. kids_fit q node.label.text (map (category_at t) node.kids)) (sym is) ∙ shape.kids) in
        let own_shape = l.shapes.shaped k low.node low.there in
        let named = member_kind low.node.label.kind low.node.label.text (map (category_at t) low.node.kids) (ap category.is_member (sym own_shape.category) ∙ all_in (category_at t) category.is_member node.kids k fit h) in
        let g = known k (members fs) (members_meant (judgement_at js k) fs e) low.node low.there named in
        (g.0, raised k (omega (arith, before, own)) fs g.1)

    all_solid : AllSolid (layouts js)
    all_solid = layouts_all (λ (x : Layout). 0 < x.measure.size) js (λ k x h. (known k (a_struct x) h).solid)

    all_aligned : AllAligned (layouts js)
    all_aligned = layouts_all (λ (x : Layout). IsAligned x.measure) js (λ k x h. (known k (a_struct x) h).aligned)

    layout_end : (k : ℕ) (fs : List Field) → Filled fs → AllByRecursion (λ (f : Field). IsMember (places t) (length js) f) fs → IsStruct (places t) (length js) (layout (layouts js) k fs)
    layout_end k [] some h = absurd (omega (arith, some))
    layout_end k (f ∷ fs) some h =
        let a = members_aligned (layouts js) (f ∷ fs) all_aligned in
        let own = size_above (layouts js) f.type all_solid (h.0).full ((h.0).sized js front (omega arith)) in
        record {
          aligned = struct_aligned (map (λ (x : Field). unwrap_or (measure (layouts js) x.type) no_measure) (f ∷ fs)) a;
          solid = struct_solid (unwrap_or (measure (layouts js) f.type) no_measure) (map (λ (x : Field). unwrap_or (measure (layouts js) x.type) no_measure) fs) own a;
          sized = laid_all (places t) (length js) (f ∷ fs) (offsets (map (λ (x : Field). unwrap_or (measure (layouts js) x.type) no_measure) (f ∷ fs))) h;
        }

    struct_end : node.label.kind ≡ kind.StructSpec → has_kid node 0 ≡ true → (k : ℕ) (parts : List (List Field)) → all_of (map (λ n. members_of (judgement_at js n)) node.kids) ≡ Some parts → IsStruct (places t) (length js) (layout (layouts js) k (flat_map (λ fs. fs) parts))
    struct_end is has k parts e =
        let good = all_parts (λ n. members_of (judgement_at js n)) (λ fs. PartGood fs) node.kids parts (λ n fs h g. part_good is n fs h g) e in
        let long = all_long (map (λ n. members_of (judgement_at js n)) node.kids) parts e ∙ long-map (λ n. members_of (judgement_at js n)) node.kids in
        let some = some_kids node.kids has in
        layout_end k (flat_map (λ fs. fs) parts)
        (first_filled parts (omega (arith, some, long)) (all_first (λ fs. Filled fs) (λ fs. AllByRecursion (λ (f : Field). IsMember (places t) (length js) f) fs) parts good))
        (all_joined (λ (f : Field). IsMember (places t) (length js) f) parts (all_second (λ fs. Filled fs) (λ fs. AllByRecursion (λ (f : Field). IsMember (places t) (length js) f) fs) parts good))

    struct_row : node.label.kind ≡ kind.StructSpec → Yields (Holds (length js)) (struct_specifier (places t) js node)
    unfolding struct_specifier struct_body
    struct_row is = yields_if_so (Holds (length js)) (has_kid node 0) _ _
        (λ has. yields_besides (Holds (length js)) _ _ (yields_given (Holds (length js)) (all_of (map (λ n. members_of (judgement_at js n)) node.kids)) _ (λ parts e. yields_verdict (Holds (length js)) _ (a_struct (layout (layouts js) _ (flat_map (λ fs. fs) parts))) (struct_end is has _ parts e))))
        (λ bare. yields_verdict (Holds (length js)) _ _ tt)

    free : (node.label.kind ≡ kind.Member → ⊥) → (m : Meaning) → is_active m ≡ false → Holds (length js) m
    free no_member (a_struct l) e = absurd (true≢false e)
    free no_member (members fs) e = λ other at is. let same : Some node ≡ Some other = sym there ∙ at in let equal : node ≡ other = cc same in absurd (no_member (ap (λ (m : Node). m.label.kind) equal ∙ is))
    free no_member _ e = tt

    no_member : (k : SynKind) → is_member_kind k ≡ false → node.label.kind ≡ k → node.label.kind ≡ kind.Member → ⊥
    no_member k e is other = true≢false (sym (ap is_member_kind (sym is ∙ other)) ∙ e)

    other_row : (k : SynKind) → node.label.kind ≡ k → is_member_kind k ≡ false → (b : Bool) → is_expression_kind k ≡ b → (c : Bool) → is_statement_kind k ≡ c → b || (c || is_passive_kind k) ≡ true → Yields (Holds (length js)) (judged_by (places t) js node k)
    other_row k is e true f c g h = any_row (Holds (length js)) (free (no_member k e is)) (λ ss. tt) (λ x n. tt) (places t) js node k is f
    other_row k is e false f true g h = statement_row (Holds (length js)) (λ ss. tt) (λ u ss cs. tt) (λ w. tt) (places t) js node (λ q. function_row (Holds (length js)) (λ h2. tt) (places t) js node) k is g
    other_row k is e false f false g h = passive_row (Holds (length js)) (free (no_member k e is)) (λ ss. tt) (places t) js node k h

    row : (k : SynKind) → node.label.kind ≡ k → Yields (Holds (length js)) (judged_by (places t) js node k)
    unfolding judged_by
    row kind.StructSpec is = struct_row is
    row kind.Member is = member_row is
    row kind.Braces is = braces_row (Holds (length js)) (λ n cs. tt) (places t) js node
    row k is = other_row k is refl (is_expression_kind k) refl (is_statement_kind k) refl refl

  all_structs : (n : ℕ) (x : Layout) → judgement_at (judgements_at (places t)) n ≡ means (a_struct x) → IsStruct (places t) n x
  all_structs n x e = all_known (places t) Holds (λ js node there front known. row js node there front known node.label.kind refl) n (a_struct x) e

  front_structs : (js : List Judgement) → IsFront (places t) js → (n : ℕ) (x : Layout) → judgement_at js n ≡ means (a_struct x) → IsStruct (places t) n x
  front_structs js front n x e = all_structs n x (ap (λ q. judgement_at q n) front.1 ∙ meant_later js front.0 n (a_struct x) e)

  pub structs_solid : (js : List Judgement) → IsFront (places t) js → AllSolid (layouts js)
  structs_solid js front = layouts_all (λ (x : Layout). 0 < x.measure.size) js (λ n x e. (front_structs js front n x e).solid)

  pub structs_aligned : (js : List Judgement) → IsFront (places t) js → AllAligned (layouts js)
  structs_aligned js front = layouts_all (λ (x : Layout). IsAligned x.measure) js (λ n x e. (front_structs js front n x e).aligned)

  -- the members of all structs that are complete have sizes
  pub members_sized : (js : List Judgement) → IsFront (places t) js → AllByRecursion (λ (x : Layout). AllByRecursion (λ (f : Field). has_size (layouts js) f.type ≡ true) x.fields) (layouts js)
  members_sized js front = layouts_all (λ (x : Layout). AllByRecursion (λ (f : Field). has_size (layouts js) f.type ≡ true) x.fields) js (λ n x e. each n x.fields (below js n (a_struct x) e) (front_structs js front n x e).sized)
    where
      each : (n : ℕ) (fs : List Field) → n ≤ length js → AllByRecursion (λ (f : Field). Sized (places t) n f.type) fs → AllByRecursion (λ (f : Field). has_size (layouts js) f.type ≡ true) fs
      each n [] le h = tt
      each n (f ∷ fs) le h = (h.0 js front le, each n fs le h.1)

      below : (ks : List Judgement) (n : ℕ) (m : Meaning) → judgement_at ks n ≡ means m → n ≤ length ks
      below [] n m e = absurd (cc e)
      below (k ∷ ks) zero m e = omega arith
      below (k ∷ ks) (suc n) m e = let le = below ks n m e in omega (arith, le)
