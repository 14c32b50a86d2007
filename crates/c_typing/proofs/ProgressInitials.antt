-- Initializers where they are reached, and all that the meaning of a node is made of beside its kids.
use Rattle.std.proofs.Common.{◌≡◌, ℕ, zero, suc, ◌+◌, ◌<◌, Bool, true, false, not, ◌||◌, List, [], ◌∷◌, length, map, Option, Some, None, refl, sym, ap, ap₂, ◌∙◌, subst, arith, true≢false}
use Rattle.std.specs.Prelude.{slice_get, unwrap_or, take, nat_lt, ◌==◌, if◌then◌else◌}
use Rattle.std.specs.Option.{is_some}
use Rattle.std.specs.List.{list_any, list_all, position_or_len}
use Rattle.std.proofs.lemmas.Bool.Decides.{Decides-eqb, nat_tests}
use Rattle.std.proofs.lemmas.Option.{slice_get-get_or}
use Rattle.c_syntax.specs.declared.kind.SynKind.{SynKind}
use Rattle.c_syntax.specs.declared.kind.SynKind.TheVariants as kind
use Rattle.c_typing.specs.Types.{CType, is_text_array, is_scalar}
use Rattle.c_typing.specs.Places.{Node, node_at, kind_at, parent_of, kid, has_kid, index_in, specs_of, whole_declarator, Scope, scope_at}
use Rattle.c_typing.specs.Names.{Entity, Name, Places, is_static, names_by, name_list, entity_by, declares_function, name_of}
use Rattle.c_typing.specs.Judgements.{fills_array, means, Judgement, judgement_at, type_at, layouts}
use Rattle.c_typing.specs.Initializers.{part_of, part_for, kid_part, target, target_by, target_within, init_around, is_static_name}
use Rattle.c_typing.specs.Typing.{judgements_at}
use Rattle.c_typing.specs.Shapes.{Category, category_by, kids_fit}
use Rattle.c_typing.proofs.ProgressForms.{Has, has_type, has_its_type}
use Rattle.c_typing.proofs.ProgressKinds as of
use Rattle.c_typing.proofs.ProgressOperators.{found}
use Rattle.c_typing.proofs.ProgressNames.{HasParts, IsInitial}
use Rattle.c_typing.proofs.ProgressStep.{at_all, has_at}
use Rattle.c_typing.proofs.ProgressAll.{Meant, Specials, found_at, kid_has}
use Rattle.c_typing.proofs.ProgressKids.{Kid, kid_of}
use Rattle.c_typing.proofs.ProgressPlaces.{AreLinked, some_same, kids_apart, first_low}
use Rattle.c_typing.proofs.ProgressBefore.{specified, enumerated}
use Rattle.c_typing.proofs.ProgressAround.{is_body, function_typed}
use Rattle.c_typing.proofs.ProgressInitial.{has_part, of_parent, init_target, braces_target, all_parts, kid_part_there}
use Rattle.c_typing.proofs.ProgressTargets.{target_later, parts_later, typed_later}
use Rattle.c_typing.proofs.ProgressInside.{InitName, init_name, any_from}
use Rattle.c_typing.proofs.ProgressSpecials.{ArePlaced, named, known, filled, long, string_target}

no : {A : Type 0} → false ≡ true → A
no e = absurd (true≢false (sym e))

-- ---- the index of a kid

pub first_place : (ks : List ℕ) (i j : ℕ) → slice_get ks i ≡ Some j → ((k a : ℕ) → k < i → slice_get ks k ≡ Some a → (a == j) ≡ false) → position_or_len (λ m. m == j) ks ≡ i
first_place [] i j e f = absurd (cc e)
first_place (x ∷ ks) zero j e f = ap (λ b. if not b then 1 + position_or_len (λ m. m == j) ks else 0) ((Decides-eqb x j).1 (some_same e))
first_place (x ∷ ks) (suc i) j e f =
    let later = first_place ks i j e (λ k a lt at. f (suc k) a (omega (arith, lt)) at) in
    ap (λ b. if not b then 1 + position_or_len (λ m. m == j) ks else 0) (f 0 x (omega arith) refl) ∙ omega (arith, later)

pub index_at : (ks : List ℕ) (i j : ℕ) → slice_get ks i ≡ Some j → i < length ks → position_or_len (λ m. m == j) ks ≡ i → index_in ks j ≡ i
index_at ks i j e lt same =
    let test : nat_lt (position_or_len (λ m. m == j) ks) (length ks) ≡ true = grind (arith, nat_tests, same, lt) in
    ap (λ b. unwrap_or (if b then Some (position_or_len (λ m. m == j) ks) else None) 0) test ∙ same

listed_any : (node whole : Node) (c : Scope) (f : Bool) (i : ℕ) (o : Option Entity) → is_some o ≡ true → node.id ≡ i → list_any (λ (e : Name). e.node == i) (name_list node whole c f o) ≡ true
listed_any node whole c f i None e same = no e
listed_any node whole c f i (Some x) e same = ap (λ b. b || false) ((Decides-eqb node.id i).1 same)

entity_there : (s : List Node) (owner specs : Node) (c : Scope) (f : Bool) (k : SynKind) → k ≡ kind.InitDecl → is_some (entity_by s owner specs c f k) ≡ true
entity_there s owner specs c f k same = ap (λ j. is_some (entity_by s owner specs c f j)) same

module _ (cat : ℕ → Category) (p : Places) (l : AreLinked cat p.nodes) (places : ArePlaced p) where
  -- the name of a declarator with an initializer is among the names
  name_there : (n : ℕ) (m : Node) → slice_get p.nodes n ≡ Some m → m.label.kind ≡ kind.InitDecl → (x : InitName cat p.nodes n m) → Has (name_of p x.node.first)
  name_there n m e same x =
      found (λ (e : Name). e.node == x.node.first) p.names
      (subst (λ (es : List Name). list_any (λ (e : Name). e.node == x.node.first) es ≡ true) (sym places.names)
      (any_from (λ (e : Name). e.node == x.node.first) p.nodes p.scopes [] p.nodes x.node.first x.name x.named here))
    where
      id : x.name.id ≡ x.node.first
      id = (l.shapes.tiled x.node.first x.name x.named).numbered

      owner : (node_at p.nodes (whole_declarator p.nodes x.name.id).parent).label.kind ≡ kind.InitDecl
      owner =
          ap (λ i. (node_at p.nodes (whole_declarator p.nodes i).parent).label.kind) id
          ∙ (ap (λ (w : Node). (node_at p.nodes w.parent).label.kind) x.whole
          ∙ (ap (λ i. (node_at p.nodes i).label.kind) x.below ∙ (ap (λ (w : Node). w.label.kind) (found_at p.nodes n m e) ∙ same)))

      here : (before : List Name) → list_any (λ (e : Name). e.node == x.node.first) (names_by p.nodes p.scopes before x.name x.name.label.kind) ≡ true
      here before =
          let whole = whole_declarator p.nodes x.name.id in
          let o = node_at p.nodes whole.parent in
          let specs = specs_of p.nodes o in
          let c = scope_at p.scopes x.name.id in
          let f = declares_function p.nodes before x.name.id specs in
          ap (λ k. list_any (λ (e : Name). e.node == x.node.first) (names_by p.nodes p.scopes before x.name k)) x.ident
          ∙ listed_any x.name whole c f x.node.first (entity_by p.nodes o specs c f o.label.kind) (entity_there p.nodes o specs c f o.label.kind owner) id

  initial : (n : ℕ) (m : Node) → slice_get p.nodes n ≡ Some m → ((k : ℕ) → k < n → Meant cat p k) → m.label.kind ≡ kind.InitDecl → IsInitial p (take n (judgements_at p)) m
  initial n m e before same = record {
    type = type.value;
    typed = ap (λ i. type_at js i) first ∙ type.is;
    name = name.value;
    named = ap (λ (w : Node). name_of p w.first) (ap (λ i. node_at p.nodes i) first ∙ found_at p.nodes x.place x.node x.at) ∙ name.is;
    part = λ has object. part has;
  }
    where
      js : List Judgement
      js = take n (judgements_at p)

      x : InitName cat p.nodes n m
      x = init_name cat p.nodes l n m e same

      first : kid m 0 ≡ x.place
      first = ap (λ o. unwrap_or o 0) x.is

      type : Has (type_at js x.place)
      type =
          let k = kid_has cat p l.shapes n m e before 0 x.place x.is in
          has_its_type m.label.kind (kind_at p.nodes x.place) (cat x.place) (judgement_at js x.place) (ap₂ has_type same x.category) k.form

      name : Has (name_of p x.node.first)
      name = name_there n m e same x

      second : (ks : List ℕ) (j : ℕ) → list_all of.is_initial (of.rest (map cat ks)) ≡ true → slice_get ks 1 ≡ Some j → of.is_initial (cat j) ≡ true
      second (a ∷ b ∷ ks) j e at = ap (λ i. of.is_initial (cat i)) (sym (some_same at)) ∙ (of.apart e).0
      second (a ∷ []) j e at = absurd (cc at)
      second [] j e at = absurd (cc at)

      part : has_kid m 1 ≡ true → Has (part_for p js (is_static name.value.entity) false type.value (kid m 1))
      part has =
          let there = has_at m.kids 1 has in
          let j = kid m 1 in
          let k = kid_of p.nodes m.first n m.kids 1 j (l.shapes.tiled n m e).kids there in
          let fit = of.of_initializer m.label.text (map cat m.kids) (ap (λ k. kids_fit k m.label.text (map cat m.kids)) (sym same) ∙ (l.shapes.shaped n m e).kids) in
          let ok = second m.kids j (of.optional_initial (of.rest (map cat m.kids)) fit.1) there in
          let id = ap (λ (q : Node). q.id) (found_at p.nodes j k.node k.at) ∙ (l.shapes.tiled j k.node k.at).numbered in
          has_part cat p js (is_static name.value.entity) false type.value m.label.kind j ok (kid_has cat p l.shapes n m e before 1 j there) id (λ string fill. text j k string fill)
        where
          text : (j : ℕ) (k : Kid p.nodes n j) → kind_at p.nodes j ≡ kind.Str → judgement_at js j ≡ means fills_array → is_text_array type.value ≡ true
          text j k string fill =
              let kk = sym (ap (λ (q : Node). q.label.kind) (found_at p.nodes j k.node k.at)) ∙ string in
              let t = string_target cat p l places n j k.less k.node k.at kk fill in
              let d = long cat p l places n m e in
              let early = take j (judgements_at p) in
              let outer : parent_of p.nodes j ≡ m = ap (λ (q : Node). node_at p.nodes q.parent) (found_at p.nodes j k.node k.at) ∙ (ap (λ i. node_at p.nodes i) k.below ∙ found_at p.nodes n m e) in
              let by_outer = sym (of_parent p early d.0 j d.1) ∙ t.1 in
              let by_init : target_by p early (parent_of p.nodes j) j (target_within p early d.0 (parent_of p.nodes j).id) kind.InitDecl ≡ Some t.0 =
              ap (λ k. target_by p early (parent_of p.nodes j) j (target_within p early d.0 (parent_of p.nodes j).id) k) (sym (ap (λ (q : Node). q.label.kind) outer ∙ same)) ∙ by_outer in
              let first_typed = init_target p early (parent_of p.nodes j) j (target_within p early d.0 (parent_of p.nodes j).id) t.0 by_init in
              let mine : type_at early (kid m 0) ≡ Some t.0 = ap (λ (q : Node). type_at early (kid q 0)) (sym outer) ∙ first_typed in
              let less = k.less in
              let now = typed_later (judgements_at p) j n (kid m 0) t.0 (omega (arith, less)) mine in
              let equal : t.0 ≡ type.value = some_same (sym now ∙ (ap (λ i. type_at js i) first ∙ type.is)) in
              ap is_text_array (sym equal) ∙ t.2

  braced : (n : ℕ) (m : Node) → slice_get p.nodes n ≡ Some m → ((k : ℕ) → k < n → Meant cat p k) → m.label.kind ≡ kind.Braces
      → (t : CType) → target p (take n (judgements_at p)) m.id ≡ Some t → HasParts p (take n (judgements_at p)) m t
  braced n m e before same t at = all_parts (kid_part p js static t m) 0 (length m.kids) (λ i le lt. kid_part_there p js static t m i (part i (omega (arith, lt))))
    where
      js : List Judgement
      js = take n (judgements_at p)

      static : Bool
      static = is_static_name (init_around p m)

      own : m.id ≡ n
      own = (l.shapes.tiled n m e).numbered

      here : (i : ℕ) → i < length m.kids → slice_get m.kids i ≡ Some (kid m i)
      here i lt = let there = slice_get-get_or m.kids i 0 lt in there ∙ ap (λ o. Some (unwrap_or o 0)) (sym there)

      text : (i j : ℕ) → i < length m.kids → slice_get m.kids i ≡ Some j → (k : Kid p.nodes n j) (u : CType) → part_of p (layouts js) m i t ≡ Some u
          → kind_at p.nodes j ≡ kind.Str → judgement_at js j ≡ means fills_array → is_text_array u ≡ true
      text i j lt there k u pt string fill =
          let kk = sym (ap (λ (q : Node). q.label.kind) (found_at p.nodes j k.node k.at)) ∙ string in
          let a = string_target cat p l places n j k.less k.node k.at kk fill in
          let d = long cat p l places n m e in
          let early = take j (judgements_at p) in
          let above = target_within p early d.0 (parent_of p.nodes j).id in
          let outer : parent_of p.nodes j ≡ m = ap (λ (q : Node). node_at p.nodes q.parent) (found_at p.nodes j k.node k.at) ∙ (ap (λ i. node_at p.nodes i) k.below ∙ found_at p.nodes n m e) in
          let by_outer = sym (of_parent p early d.0 j d.1) ∙ a.1 in
          let by_braces : target_by p early (parent_of p.nodes j) j above kind.Braces ≡ Some a.0 =
          ap (λ k. target_by p early (parent_of p.nodes j) j above k) (sym (ap (λ (q : Node). q.label.kind) outer ∙ same)) ∙ by_outer in
          let v = braces_target p early (parent_of p.nodes j) j above a.0 by_braces in
          let up : target_within p early d.0 m.id ≡ Some v.0 = ap (λ (q : Node). target_within p early d.0 q.id) (sym outer) ∙ v.1 in
          let less = k.less in
          let later = target_later p (judgements_at p) j n d.0 1 m.id v.0 (omega (arith, less)) up in
          let long = d.1 in
          let deep : d.0 + 1 ≡ length p.nodes = omega (arith, long) in
          let equal : v.0 ≡ t = some_same (sym later ∙ (ap (λ k. target_within p js k m.id) deep ∙ at)) in
          let index = index_at m.kids i j there lt (first_place m.kids i j there (before_it k)) in
          let place : part_of p (layouts early) m i v.0 ≡ Some a.0 = ap₂ (λ (q : Node) (x : ℕ). part_of p (layouts early) q x v.0) (sym outer) (sym (ap (λ (q : Node). index_in q.kids j) outer ∙ index)) ∙ v.2 in
          let now = parts_later p (judgements_at p) j n i m v.0 a.0 (omega (arith, less)) place in
          let both : a.0 ≡ u = some_same (sym now ∙ (ap (λ w. part_of p (layouts js) m i w) equal ∙ pt)) in
          ap is_text_array (sym both) ∙ a.2
        where
          before_it : Kid p.nodes n j → (k b : ℕ) → k < i → slice_get m.kids k ≡ Some b → (b == j) ≡ false
          before_it q k b lt bt =
              let apart = kids_apart p.nodes m.first n n m.kids k i b j q.node (l.shapes.tiled n m e).kids lt bt there q.at in
              let low = first_low cat p.nodes l j q.node q.at in
              differ b j (omega (arith, apart, low))
            where
              differ : (a b : ℕ) → a < b → (a == b) ≡ false
              differ a b lt = grind (arith, nat_tests, lt)

      part : (i : ℕ) → i < length m.kids → (u : CType) → part_of p (layouts js) m i t ≡ Some u → Has (part_for p js static (is_scalar t) u (kid m i))
      part i lt u pt =
          let there = here i lt in
          let j = kid m i in
          let k = kid_of p.nodes m.first n m.kids i j (l.shapes.tiled n m e).kids there in
          let fit = of.of_braces m.label.text (map cat m.kids) (ap (λ k. kids_fit k m.label.text (map cat m.kids)) (sym same) ∙ (l.shapes.shaped n m e).kids) in
          let ok = at_all cat of.is_initial m.kids i j fit there in
          let id = ap (λ (q : Node). q.id) (found_at p.nodes j k.node k.at) ∙ (l.shapes.tiled j k.node k.at).numbered in
          has_part cat p js static (is_scalar t) u m.label.kind j ok (kid_has cat p l.shapes n m e before i j there) id (λ string fill. text i j lt there k u pt string fill)

  -- all that is wanted beside the kids
  pub specials : Specials cat p
  unfolding category_by
  specials n m e before = record {
    specified = specified cat p l n m e before;
    named = named cat p l places n m e before;
    known = λ same. known cat p l places n m e before;
    filled = λ same. filled cat p l places n m e;
    braced = braced n m e before;
    initial = initial n m e before;
    returns = λ same. function_typed cat p l places.functions n m e before (ap is_body ((l.shapes.shaped n m e).category ∙ ap (λ k. category_by k m.label.text (map cat m.kids)) same));
    before = enumerated cat p l n m e before;
  }
