-- The types of typedef names have their lengths, and those of static objects have sizes.
use Rattle.std.proofs.Common.{◌≡◌, ℕ, zero, suc, ◌<◌, Bool, true, false, not, ◌||◌, List, [], ◌∷◌, map, Option, Some, None, refl, sym, ap, ◌∙◌, subst, arith, true≢false, ◌⊎◌, inl, inr}
use Rattle.std.specs.Prelude.{slice_get, take, if◌then◌else◌}
use Rattle.std.specs.Option.{is_some}
use Rattle.std.specs.List.{list_all}
use Rattle.c_lexer.specs.declared.token.Token.{Token}
use Rattle.c_syntax.specs.declared.kind.SynKind.{SynKind}
use Rattle.c_syntax.specs.declared.kind.SynKind.TheVariants as kind
use Rattle.c_syntax.specs.Trees.{Tree}
use Rattle.c_grammar.specs.Derivation.{IsTreeOf}
use Rattle.c_grammar.specs.Vocabulary.{is_type_word, is_storage_word}
use Rattle.c_typing.specs.Types.{CType, IntegerType, void, integer, struct}
use Rattle.c_typing.specs.Places.{Node, nodes, kind_at, is_declarator, has_kid}
use Rattle.c_typing.specs.Names.{Entity, typedef_name, Name, places, is_typedef, is_static, denoted}
use Rattle.c_typing.specs.Judgements.{Judgement, means, breaks_rules, waits, Meaning, a_type, declares, judgement_at, type_at, type_of}
use Rattle.c_typing.specs.Expressions.{type_of_name}
use Rattle.c_typing.specs.Initializers.{is_object}
use Rattle.c_typing.specs.Typing.{judged_by, judgements_at, faults}
use Rattle.c_typing.specs.Shapes as category
use Rattle.c_typing.specs.Shapes.{Category, category_by, kids_fit, declarator_over, in_parentheses}
use Rattle.c_typing.specs.ShapesOfNodes.{category_at}
use Rattle.c_typing.specs.Meant.{has_form}
use Rattle.c_typing.proofs.ProgressBase.{judged_at, earlier_at}
use Rattle.c_typing.proofs.ProgressForms.{fits, split, is_specifier}
use Rattle.c_typing.proofs.ProgressKinds as of
use Rattle.c_typing.proofs.ProgressStep.{at_all}
use Rattle.c_typing.proofs.ProgressKids.{kid_of}
use Rattle.c_typing.proofs.ProgressAll.{no_fault, all_meant}
use Rattle.c_typing.proofs.ProgressPlaces.{AreLinked, are_linked, some_same}
use Rattle.c_typing.proofs.ProgressOwners.{is_specs, only_specs, Before}
use Rattle.c_typing.proofs.ProgressInitials.{specials}
use Rattle.c_typing.proofs.ProgressDeclared.{Stands, IsDeclaredName, of_denoted, begins_before}
use Rattle.c_typing.proofs.ProgressNumbers.{InList}
use Rattle.c_typing.proofs.ProgressObjects.{all_listed, stand}
use Rattle.c_typing.proofs.ProgressCompleted.{Completes}
use Rattle.c_typing.proofs.ProgressSpecs.{Plain, word_plain, struct_plain, enum_plain, specs_plain}
use Rattle.c_typing.proofs.ProgressTyped.{Declared, declared}

no : {A : Type 0} → false ≡ true → A
no e = absurd (true≢false (sym e))

-- ---- kinds of specs

pub over_no : (test : Category → Bool) → test category.declarator ≡ false → test category.abstract_declarator ≡ false → test category.no_category ≡ false → (cs : List Category) → test (declarator_over cs) ≡ false
over_no test d a n (category.declarator ∷ cs) = d
over_no test d a n (category.abstract_declarator ∷ cs) = a
over_no test d a n (category.no_name ∷ cs) = a
over_no test d a n (_ ∷ cs) = n
over_no test d a n [] = n

pub brackets_no : (test : Category → Bool) → test category.declarator ≡ false → test category.abstract_declarator ≡ false → test category.no_category ≡ false → test (category.expression 0) ≡ false → (cs : List Category) → test (in_parentheses cs) ≡ false
brackets_no test d a n x (category.expression l ∷ cs) = x
brackets_no test d a n x (category.declarator ∷ cs) = d
brackets_no test d a n x (category.abstract_declarator ∷ cs) = a
brackets_no test d a n x (category.no_name ∷ cs) = a
brackets_no test d a n x (_ ∷ cs) = n
brackets_no test d a n x [] = n

word_no_specs : (s t : Bool) → is_specs (if s then category.storage_word else if t then category.type_specifier else category.typedef_name) ≡ false
word_no_specs true t = refl
word_no_specs false true = refl
word_no_specs false false = refl

pub specs_kind : (k : SynKind) (text : List ℕ) (cs : List Category) → is_specs (category_by k text cs) ≡ true → k ≡ kind.Specs
unfolding category_by
specs_kind kind.Specs text cs e = refl
specs_kind kind.Word text cs e = no (sym (word_no_specs (is_storage_word text) (is_type_word text)) ∙ e)
specs_kind kind.Pointer text cs e = no (sym (over_no is_specs refl refl refl cs) ∙ e)
specs_kind kind.ArrayOf text cs e = no (sym (over_no is_specs refl refl refl cs) ∙ e)
specs_kind kind.Paren text cs e = no (sym (brackets_no is_specs refl refl refl refl cs) ∙ e)
specs_kind _ text cs e = no e

specifier_kind : (k : SynKind) (text : List ℕ) (cs : List Category) → is_specifier (category_by k text cs) ≡ true → (k ≡ kind.Word) ⊎ ((k ≡ kind.StructSpec) ⊎ (k ≡ kind.EnumSpec))
unfolding category_by
specifier_kind kind.Word text cs e = inl refl
specifier_kind kind.StructSpec text cs e = inr (inl refl)
specifier_kind kind.EnumSpec text cs e = inr (inr refl)
specifier_kind kind.Pointer text cs e = no (sym (over_no is_specifier refl refl refl cs) ∙ e)
specifier_kind kind.ArrayOf text cs e = no (sym (over_no is_specifier refl refl refl cs) ∙ e)
specifier_kind kind.Paren text cs e = no (sym (brackets_no is_specifier refl refl refl refl cs) ∙ e)
specifier_kind _ text cs e = no e

pub typed_specs : (outer own : SynKind) (j : Judgement) (u : CType) → fits outer own category.specifiers j ≡ true → type_of j ≡ Some u → j ≡ means (a_type u)
typed_specs outer own (means m) u f e = by m (split f).0 e
  where
    same : {x y : CType} → Some x ≡ Some y → x ≡ y
    same h = cc h

    by : (m : Meaning) → has_form category.specifiers own (not (is_declarator outer)) m ≡ true → type_of (means m) ≡ Some u → means m ≡ means (a_type u)
    by (a_type t) g e = ap (λ x. means (a_type x)) (same e)
    by _ g e = no g
typed_specs outer own (breaks_rules f fs) u g e = no g
typed_specs outer own waits u g e = no g

taken_at : (js : List Judgement) (k x : ℕ) (u : CType) → type_at (take k js) x ≡ Some u → type_at js x ≡ Some u
taken_at js zero x u e = absurd (cc (none js ∙ e))
  where
    none : (ks : List Judgement) → None ≡ type_at (take 0 ks) x
    none [] = refl
    none (k ∷ ks) = refl
taken_at [] (suc k) x u e = absurd (cc e)
taken_at (j ∷ js) (suc k) zero u e = e
taken_at (j ∷ js) (suc k) (suc x) u e = taken_at js k x u e

pub no_object : (k : Entity) → is_typedef k ≡ true → is_object k ≡ true → ⊥
no_object typedef_name e f = no f
no_object _ e f = no e

pub or_second : (a b : Bool) → b ≡ true → (a || b) ≡ true
or_second true b e = refl
or_second false b e = e

pub declares_same : {x y : CType} → means (declares x) ≡ means (declares y) → x ≡ y
declares_same e = cc e

module _ (tokens : List Token) (t : Tree) (derived : IsTreeOf tokens t) (quiet : faults t ≡ []) (test : CType → Bool) (none : test void ≡ false) (numbers : (k : IntegerType) → test (integer k) ≡ false) (structs : (k : ℕ) → test (struct k) ≡ false) where
  l : AreLinked (category_at t) (nodes t)
  l = are_linked tokens t derived

  -- the type of a typedef name does not pass the test
  abbrev pub Lengthy : ℕ → Type 0
  Lengthy n = (e : Name) → e.behind ≡ n → InList (places t).names e → IsDeclaredName (category_at t) (nodes t) e → is_typedef e.entity ≡ true
      → (u : CType) → judgement_at (judgements_at (places t)) e.behind ≡ means (declares u) → test u ≡ false

  -- nor is that of a name among specs before
  pub word_lengthy : (n : ℕ) → ((k : ℕ) → k < n → Lengthy k) → (k : ℕ) (m : Node) → slice_get (nodes t) k ≡ Some m → k < n
      → (e : Name) (u : CType) → denoted (places t).names m.id m.label.text ≡ Some e → is_typedef e.entity ≡ true → type_of_name (take k (judgements_at (places t))) e ≡ Some u → test u ≡ false
  word_lengthy n f k m at lt e u d typedef typed =
      let p = places t in
      let r = of_denoted (λ x. InList p.names x) p.names m.id m.label.text e (all_listed p.names) d in
      let before = begins_before m.id m.label.text e r.1 in
      let id = (l.shapes.tiled k m at).numbered in
      by r.0 (stand tokens t derived quiet e r.0) (omega (arith, before, id, lt))
    where
      js : List Judgement
      js = judgements_at (places t)

      by : InList (places t).names e → Stands (category_at t) (nodes t) e → e.behind < n → test u ≡ false
      by m (inl en) less = no (ap is_typedef (sym en.entity) ∙ typedef)
      by m (inr de) less = from (declared tokens t derived quiet e m de (de.init_owner (or_second (is_static e.entity) (is_typedef e.entity) typedef)))
        where
          from : Declared tokens t derived quiet e → test u ≡ false
          from d = cases (type_at (take k js) e.owner) refl typed
            where
              plain : test d.type ≡ false
              plain = f e.behind less e refl m de typedef d.type d.declares

              whole : d.whole ≡ d.type
              whole = how d.how
                where
                  how : ((has_kid d.owner 1 ≡ false) × (d.whole ≡ d.type)) ⊎ ((is_object e.entity ≡ true) × Completes (places t) (take e.owner js) e d.type d.whole) → d.whole ≡ d.type
                  how (inl h) = h.1
                  how (inr h) = absurd (no_object e.entity typedef h.0)

              cases : (o : Option CType) → type_at (take k js) e.owner ≡ o → (if is_some o then o else type_at (take k js) e.behind) ≡ Some u → test u ≡ false
              cases (Some v) same h =
                  let equal : v ≡ u = some_same h in
                  let there = taken_at js k e.owner v same in
                  let owns : d.whole ≡ v = some_same (sym (ap type_of d.means_whole) ∙ there) in
                  ap test (sym equal ∙ (sym owns ∙ whole)) ∙ plain
              cases None same h =
                  let there = taken_at js k e.behind u h in
                  let owns : d.type ≡ u = some_same (sym (ap type_of d.declares) ∙ there) in
                  ap test (sym owns) ∙ plain

  -- nor is the type of specs
  pub specs_lengthy : (n : ℕ) → ((k : ℕ) → k < n → Lengthy k) → (s : ℕ) → Before (category_at t) (nodes t) n s is_specs → (u : CType) → type_at (take n (judgements_at (places t))) s ≡ Some u → test u ≡ false
  specs_lengthy n f s b u typed =
      let p = places t in
      let js = judgements_at p in
      let quietly = all_meant (category_at t) p l.shapes (no_fault t quiet).by_node (specials (category_at t) p l (record { names = refl; functions = refl })) in
      let outer = kind_at (nodes t) b.node.parent in
      let c = only_specs (category_at t s) b.is in
      let is = typed_specs outer b.node.label.kind (judgement_at js s) u (ap (λ x. fits outer b.node.label.kind x (judgement_at js s)) (sym c) ∙ quietly s b.node b.at) (taken_at js n s u typed) in
      let shape = l.shapes.shaped s b.node b.at in
      let same = specs_kind b.node.label.kind b.node.label.text (map (category_at t) b.node.kids) (ap is_specs (sym shape.category) ∙ b.is) in
      let own = judged_at p (nodes t) s b.node b.at in
      let fit = of.of_specs b.node.label.text (map (category_at t) b.node.kids) (ap (λ k. kids_fit k b.node.label.text (map (category_at t) b.node.kids)) (sym same) ∙ shape.kids) in
      let less = b.less in
      (specs_plain test none numbers structs p (take s js) b.node (λ i k at. kids fit i k at)).plain u (ap (λ k. judged_by p (take s js) b.node k) (sym same) ∙ (sym own ∙ is))
    where
      kids : list_all is_specifier (map (category_at t) b.node.kids) ≡ true → (i k : ℕ) → slice_get b.node.kids i ≡ Some k → Plain test (judgement_at (take s (judgements_at (places t))) k)
      kids fit i k at =
          let p = places t in
          let js = judgements_at p in
          let q = kid_of (nodes t) b.node.first s b.node.kids i k (l.shapes.tiled s b.node b.at).kids at in
          let below = q.less in
          let less = b.less in
          let c = at_all (category_at t) is_specifier b.node.kids i k fit at in
          let shape = l.shapes.shaped k q.node q.at in
          let own = earlier_at js s k q.less ∙ judged_at p (nodes t) k q.node q.at in
          subst (λ (j : Judgement). Plain test j) (sym own) (by q.node q.at (omega (arith, below, less)) (specifier_kind q.node.label.kind q.node.label.text (map (category_at t) q.node.kids) (ap is_specifier (sym shape.category) ∙ c)))
        where
          by : (m : Node) → slice_get (nodes t) k ≡ Some m → k < n → (m.label.kind ≡ kind.Word) ⊎ ((m.label.kind ≡ kind.StructSpec) ⊎ (m.label.kind ≡ kind.EnumSpec))
              → Plain test (judged_by (places t) (take k (judgements_at (places t))) m m.label.kind)
          by m e lt (inl same) =
              subst (λ (x : SynKind). Plain test (judged_by (places t) (take k (judgements_at (places t))) m x)) (sym same)
              (word_plain test none numbers structs (places t) (take k (judgements_at (places t))) m (λ e2 u2 d2 t2 ty. word_lengthy n f k m e lt e2 u2 d2 t2 ty))
          by m e lt (inr (inl same)) = subst (λ (x : SynKind). Plain test (judged_by (places t) (take k (judgements_at (places t))) m x)) (sym same) (struct_plain test none numbers structs (places t) (take k (judgements_at (places t))) m)
          by m e lt (inr (inr same)) = subst (λ (x : SynKind). Plain test (judged_by (places t) (take k (judgements_at (places t))) m x)) (sym same) (enum_plain test none numbers structs (places t) (take k (judgements_at (places t))) m)
