-- In a derived tree the types of specs, of their words, of parameters and of members have their lengths.
use Rattle.std.proofs.Common.{◌≡◌, ◌⊎◌, inl, inr, ℕ, zero, suc, ◌<◌, Bool, true, false, not, ◌&&◌, List, [], ◌∷◌, Option, Some, None, length, map, refl, sym, ap, ◌∙◌, subst, arith, true≢false}
use Rattle.std.specs.Prelude.{slice_get, unwrap_or, take, drop, if◌then◌else◌}
use Rattle.std.specs.Option.{is_some}
use Rattle.std.specs.List.{list_all}
use Rattle.c_lexer.specs.declared.token.Token.{Token}
use Rattle.c_syntax.specs.declared.kind.SynKind.{SynKind}
use Rattle.c_syntax.specs.declared.kind.SynKind.TheVariants as kind
use Rattle.c_syntax.specs.Trees.{Tree}
use Rattle.c_grammar.specs.Derivation.{IsTreeOf}
use Rattle.c_grammar.specs.Vocabulary.{is_type_word, is_storage_word}
use Rattle.c_typing.specs.Types.{CType, unsized}
use Rattle.c_typing.specs.Places.{Node, nodes, node_at, kind_at, kid, has_kid, other_kids, parent_of, specs_of, is_declarator, is_init, is_whole, is_next_to_name}
use Rattle.c_typing.specs.Names.{Name, Places, places, is_static, is_typedef, denoted, name_of, names_at}
use Rattle.c_typing.specs.Judgements.{Fault, Judgement, Meaning, PlacedStep, initialized, means, verdict, given, judgement_at, type_at, type_of, steps_at, steps_of}
use Rattle.c_typing.specs.Expressions.{type_of_name}
use Rattle.c_typing.specs.Declarators.{parameter_node}
use Rattle.c_types.specs.declared.tree.Cell.{Cell}
use Rattle.c_types.specs.declared.tree.Stmt.{Stmt}
use Rattle.c_typing.specs.Initializers.{bare_code, completed, given_count, init_by, init_declarator, initialized_object, is_object, part_for}
use Rattle.c_typing.specs.Rules.{bad_initializer}
use Rattle.c_typing.specs.Typing.{judged_by, judgements_at}
use Rattle.c_typing.specs.Shapes as category
use Rattle.c_typing.specs.Shapes.{Category, no_category, at_most_one, category_by, in_parentheses, is_declarator as is_named_declarator, is_initializer, is_parameter, kids_fit}
use Rattle.c_typing.specs.ShapesOfNodes.{category_at}
use Rattle.c_typing.proofs.ProgressBase.{judged_at, earlier_at}
use Rattle.c_typing.proofs.ProgressForms.{is_part, is_specifier}
use Rattle.c_typing.proofs.ProgressKinds as of
use Rattle.c_typing.proofs.ProgressKinds.{rest}
use Rattle.c_typing.proofs.ProgressStep.{at_all, at_index}
use Rattle.c_typing.proofs.ProgressKids.{Kid, kid_of}
use Rattle.c_typing.proofs.ProgressAll.{by_number, found_at}
use Rattle.c_typing.proofs.ProgressPlaces.{AreLinked, Linked, are_linked, some_same}
use Rattle.c_typing.proofs.ProgressOwners.{is_specs, specs_before}
use Rattle.c_typing.proofs.ProgressWhole.{first_begins}
use Rattle.c_typing.proofs.ProgressDeclared.{IsDeclaredName, Stands, all_names_stand, begins_before, of_denoted}
use Rattle.c_typing.proofs.ProgressSpecs.{Plain, word_plain, struct_plain, enum_plain, specs_plain}
use Rattle.c_typing.proofs.ProgressSizes.{brackets_no, or_second, over_no, specs_kind}
use Rattle.c_typing.proofs.ProgressParts.{part_declares}
use Rattle.c_typing.proofs.ProgressBuilt.{is_leaf}
use Rattle.c_typing.proofs.MadeNodes.{In}
use Rattle.c_typing.proofs.MadeWhole.{Stem}
use Rattle.c_lengths.specs.Lengths.{inside_lacks, lacks_length}
use Rattle.c_lengths.proofs.Steps.{steps_lack}
use Rattle.c_lengths.proofs.Specs.{says_type, type_only}
use Rattle.c_lengths.proofs.Parts.{Part, any_part, is_given}
use Rattle.c_lengths.proofs.Typedefs.{Says, all_say, says_typedef}
use Rattle.c_lengths.proofs.Owners.{has_none, not_init}
use Rattle.c_lengths.proofs.PartKinds.{inner_part, steps_mean}
use Rattle.c_lengths.proofs.Firsts.{array_first}

no : {A : Type 0} → false ≡ true → A
no e = absurd (true≢false (sym e))

gone : {A : Type 0} {x : A} → None ≡ Some x → ⊥
gone e = cc e

-- ---- kinds and categories

word_no : (test : Category → Bool) → test category.storage_word ≡ false → test category.type_specifier ≡ false → test category.typedef_name ≡ false → (s t : Bool) → test (if s then category.storage_word else if t then category.type_specifier else category.typedef_name) ≡ false
word_no test a b c true t = a
word_no test a b c false true = b
word_no test a b c false false = c

specifier_says : (k : SynKind) (text : List ℕ) (cs : List Category) → is_specifier (category_by k text cs) ≡ true → says_type k ≡ true
unfolding category_by
specifier_says kind.Word text cs e = refl
specifier_says kind.StructSpec text cs e = refl
specifier_says kind.EnumSpec text cs e = refl
specifier_says kind.Pointer text cs e = no (sym (over_no is_specifier refl refl refl cs) ∙ e)
specifier_says kind.ArrayOf text cs e = no (sym (over_no is_specifier refl refl refl cs) ∙ e)
specifier_says kind.Paren text cs e = no (sym (brackets_no is_specifier refl refl refl refl cs) ∙ e)
specifier_says _ text cs e = no e

parameter_kind : (k : SynKind) (text : List ℕ) (cs : List Category) → is_parameter (category_by k text cs) ≡ true → k ≡ kind.Param
unfolding category_by
parameter_kind kind.Param text cs e = refl
parameter_kind kind.Word text cs e = no (sym (word_no is_parameter refl refl refl (is_storage_word text) (is_type_word text)) ∙ e)
parameter_kind kind.Pointer text cs e = no (sym (over_no is_parameter refl refl refl cs) ∙ e)
parameter_kind kind.ArrayOf text cs e = no (sym (over_no is_parameter refl refl refl cs) ∙ e)
parameter_kind kind.Paren text cs e = no (sym (brackets_no is_parameter refl refl refl refl cs) ∙ e)
parameter_kind _ text cs e = no e

-- the first kid of a declarator with an initializer
only_initial : (cat : ℕ → Category) (ks : List ℕ) (i k : ℕ) → at_most_one is_initializer (map cat ks) ≡ true → slice_get ks i ≡ Some k → cat k ≡ category.declarator → ⊥
unfolding category.is_within
only_initial cat [] i k e at is = gone at
only_initial cat (j ∷ []) zero k e at is = true≢false (sym e ∙ (ap (λ x. is_initializer (cat x)) (some_same at) ∙ ap is_initializer is))
only_initial cat (j ∷ []) (suc i) k e at is = gone at
only_initial cat (j ∷ h ∷ more) i k e at is = true≢false (sym e)

pub declarator_first : (cat : ℕ → Category) (text : List ℕ) (ks : List ℕ) (i k : ℕ) → kids_fit kind.InitDecl text (map cat ks) ≡ true → slice_get ks i ≡ Some k → cat k ≡ category.declarator → unwrap_or (slice_get ks 0) 0 ≡ k
declarator_first cat text [] i k f at is = absurd (gone at)
declarator_first cat text (j ∷ ks) zero k f at is = some_same at
declarator_first cat text (j ∷ ks) (suc i) k f at is = absurd (only_initial cat ks i k (of.of_initializer text (map cat (j ∷ ks)) f).1 at is)

-- ---- judgements before a node

pub before_it : (js : List Judgement) (n k : ℕ) (t : CType) → type_at (take n js) k ≡ Some t → type_of (judgement_at js k) ≡ Some t
before_it js zero k t e = absurd (gone (none js ∙ e))
  where
    none : (ks : List Judgement) → None ≡ type_at (take 0 ks) k
    none [] = refl
    none (j ∷ ks) = refl
before_it [] (suc n) k t e = absurd (gone e)
before_it (j ∷ js) (suc n) zero t e = e
before_it (j ∷ js) (suc n) (suc k) t e = before_it js n k t e

steps_before : (js : List Judgement) (n k : ℕ) (ss : List PlacedStep) → steps_at (take n js) k ≡ Some ss → steps_of (judgement_at js k) ≡ Some ss
steps_before js zero k ss e = absurd (gone (none js ∙ e))
  where
    none : (ks : List Judgement) → None ≡ steps_at (take 0 ks) k
    none [] = refl
    none (j ∷ ks) = refl
steps_before [] (suc n) k ss e = absurd (gone e)
steps_before (j ∷ js) (suc n) zero ss e = e
steps_before (j ∷ js) (suc n) (suc k) ss e = steps_before js n k ss e

pub given_type : {A : Type 0} (o : Option A) (f : A → Judgement) (t : CType) → type_of (given o f) ≡ Some t → (a : A) × (o ≡ Some a) × (type_of (f a) ≡ Some t)
given_type {A = A} None f t e = absurd (gone e)
given_type {A = A} (Some a) f t e = (a, refl, e)

verdict_type : (fs : List Fault) (m : Meaning) (t : CType) → type_of (verdict fs m) ≡ Some t → type_of (means m) ≡ Some t
verdict_type [] m t e = e
verdict_type (f ∷ fs) m t e = absurd (gone e)

-- an array that has its length keeps it
completed_same : (t : CType) (n : Option ℕ) → lacks_length t ≡ false → completed t n ≡ t
completed_same (unsized t) n e = absurd (true≢false e)
completed_same t n e = refl

-- the type of a declarator with an initializer is that of the declarator
pub record Same (p : Places) (js : List Judgement) (node : Node) (t : CType) : Type 0 where
  pub type : CType
  pub typed : type_at js (kid node 0) ≡ Some type
  pub same : lacks_length type ≡ false → t ≡ type
  pub inside : inside_lacks type ≡ false → inside_lacks t ≡ false

-- a judgement with this type, or with it made complete
record Completes (u : CType) (j : Judgement) : Type 0 where
  is : (t : CType) → type_of j ≡ Some t → lacks_length u ≡ false → t ≡ u
  inside : (t : CType) → type_of j ≡ Some t → inside_lacks u ≡ false → inside_lacks t ≡ false

completed_inside : (t : CType) (n : Option ℕ) → inside_lacks t ≡ false → inside_lacks (completed t n) ≡ false
completed_inside (unsized t) (Some n) e = e
completed_inside (unsized t) None e = e
completed_inside t n e = e

choice_completes : (u : CType) (b : Bool) (x y : Judgement) → Completes u x → Completes u y → Completes u (if b then x else y)
choice_completes u true x y h k = h
choice_completes u false x y h k = k

given_completes : {A : Type 0} (u : CType) (o : Option A) (f : A → Judgement) → ((a : A) → Completes u (f a)) → Completes u (given o f)
given_completes {A = A} u None f h = record { is = λ t e fine. absurd (gone e); inside = λ t e fine. absurd (gone e) }
given_completes {A = A} u (Some a) f h = h a

verdict_completes : (u v : CType) (fs : List Fault) (ss : List Stmt) (cells : List Cell) → (lacks_length u ≡ false → v ≡ u) → (inside_lacks u ≡ false → inside_lacks v ≡ false) → Completes u (verdict fs (initialized v ss cells))
verdict_completes u v [] ss cells h i = record { is = λ t e fine. sym (some_same e) ∙ h fine; inside = λ t e fine. ap inside_lacks (sym (some_same e)) ∙ i fine }
verdict_completes u v (f ∷ fs) ss cells h i = record { is = λ t e fine. absurd (gone e); inside = λ t e fine. absurd (gone e) }

init_completes : (p : Places) (js : List Judgement) (node : Node) (u : CType) (x : Name) → Completes u (init_by p js node u x)
unfolding init_by initialized_object
init_completes p js node u x =
    choice_completes u (has_kid node 1) _ _
    (choice_completes u (is_object x.entity) _ _
    (given_completes u (part_for p js (is_static x.entity) false u (kid node 1)) (initialized_object p js (kid node 1) x u)
    (λ q. verdict_completes u (completed u (given_count p js (node_at p.nodes (kid node 1)) (kind_at p.nodes (kid node 1)))) _ _ _ (λ fine. completed_same u _ fine) (λ fine. completed_inside u _ fine)))
    (verdict_completes u u (bad_initializer true (kid node 1)) [] [] (λ fine. refl) (λ fine. fine)))
    (verdict_completes u u [] (bare_code p x x.entity) [] (λ fine. refl) (λ fine. fine))

pub initialized_type : (p : Places) (js : List Judgement) (node : Node) (t : CType) → type_of (judged_by p js node kind.InitDecl) ≡ Some t → Same p js node t
unfolding judged_by init_declarator
initialized_type p js node t e =
    let (u, typed, more) = given_type (type_at js (kid node 0)) _ t e in
    let (x, named, rest) = given_type (name_of p (node_at p.nodes (kid node 0)).first) _ t more in
    record { type = u; typed = typed; same = (init_completes p js node u x).is t rest; inside = (init_completes p js node u x).inside t rest }

parameter_type : (p : Places) (js : List Judgement) (node : Node) (t : CType) → type_of (judged_by p js node kind.Param) ≡ Some t → type_at js (kid node 1) ≡ Some t
unfolding judged_by parameter_node
parameter_type p js node t e = let (u, typed, more) = given_type (type_at js (kid node 1)) _ t e in typed ∙ more

-- ---- all nodes

module _ (tokens : List Token) (t : Tree) (derived : IsTreeOf tokens t) where
  l : AreLinked (category_at t) (nodes t)
  l = are_linked tokens t derived

  abbrev js : List Judgement
  js = judgements_at (places t)

  -- what is said of the node at this place
  pub record Good (n : ℕ) (m : Node) : Type 0 where
    pub says : says_type m.label.kind ≡ true → (u : CType) → type_of (judgement_at js n) ≡ Some u → lacks_length u ≡ false
    pub part : is_part (category_at t n) ≡ true → Part (is_given (places t) m.first) (judgement_at js n)
    pub parameter : m.label.kind ≡ kind.Param → (u : CType) → type_of (judgement_at js n) ≡ Some u → lacks_length u ≡ false

  abbrev AllGood : ℕ → Type 0
  AllGood n = (m : Node) → slice_get (nodes t) n ≡ Some m → Good n m

  module _ (n : ℕ) (f : (k : ℕ) → k < n → AllGood k) (m : Node) (e : slice_get (nodes t) n ≡ Some m) where
    own : judgement_at js n ≡ judged_by (places t) (take n js) m m.label.kind
    own = judged_at (places t) (nodes t) n m e

    kid_at : (i k : ℕ) → slice_get m.kids i ≡ Some k → Kid (nodes t) n k
    kid_at i k at = kid_of (nodes t) m.first n m.kids i k (l.shapes.tiled n m e).kids at

    -- ---- specs and their words

    -- the name of a typedef is given no length
    not_given : (x : Name) → (de : IsDeclaredName (category_at t) (nodes t) x) → says_typedef (nodes t) (node_at (nodes t) x.owner) ≡ true → is_given (places t) de.whole.node.first ≡ false
    not_given x de says =
        ap (λ i. is_given (places t) i) de.first
        ∙ (ap (λ (w : Node). let owner = node_at (nodes t) w.parent in is_init owner.label.kind && has_kid owner 1 && not (says_typedef (nodes t) owner)) de.declarator
        ∙ (ap (λ k. let owner = node_at (nodes t) k in is_init owner.label.kind && has_kid owner 1 && not (says_typedef (nodes t) owner)) (sym de.owner)
        ∙ (ap (λ b. is_init (node_at (nodes t) x.owner).label.kind && has_kid (node_at (nodes t) x.owner) 1 && not b) says ∙ last (is_init (node_at (nodes t) x.owner).label.kind) (has_kid (node_at (nodes t) x.owner) 1))))
      where
        last : (a b : Bool) → (a && b && not true) ≡ false
        last true true = refl
        last true false = refl
        last false b = refl

    typedef_fine : (x : Name) (u : CType) → denoted (places t).names m.id m.label.text ≡ Some x → is_typedef x.entity ≡ true → type_of_name (take n js) x ≡ Some u → lacks_length u ≡ false
    typedef_fine x u d typedef typed = by stands.0
      where
        stands : Stands (category_at t) (nodes t) x × (names_at m.id m.label.text x ≡ true)
        stands = of_denoted (Stands (category_at t) (nodes t)) (places t).names m.id m.label.text x (all_names_stand (category_at t) (nodes t) l (places t).scopes) d

        says : says_typedef (nodes t) (node_at (nodes t) x.owner) ≡ true
        says = (of_denoted (Says (nodes t)) (places t).names m.id m.label.text x (all_say (nodes t) (places t).scopes) d).0 typedef

        less : x.behind < n
        less =
            let before = begins_before m.id m.label.text x stands.1 in
            let id = (l.shapes.tiled n m e).numbered in
            omega (arith, before, id)

        by : Stands (category_at t) (nodes t) x → lacks_length u ≡ false
        by (inl en) = no (ap is_typedef (sym en.entity) ∙ typedef)
        by (inr de) = cases (type_at (take n js) x.owner) refl typed
          where
            declared : (v : CType) → type_of (judgement_at js x.behind) ≡ Some v → lacks_length v ≡ false
            declared v is = ((f x.behind less de.whole.node de.whole.at).part (ap is_part de.whole.is)).whole v is (not_given x de says)

            first : (q : Linked (nodes t) x.behind de.whole.node) (owner : Node) → slice_get (nodes t) x.owner ≡ Some owner → owner ≡ q.parent → owner.label.kind ≡ kind.InitDecl → kid owner 0 ≡ x.behind
            first q owner at same is =
                let shape = l.shapes.shaped x.owner owner at in
                declarator_first (category_at t) owner.label.text owner.kids q.index x.behind (ap (λ k. kids_fit k owner.label.text (map (category_at t) owner.kids)) (sym is) ∙ shape.kids) (ap (λ (y : Node). slice_get y.kids q.index) same ∙ q.among) de.whole.is

            initialized_fine : (v : CType) → type_of (judgement_at js x.owner) ≡ Some v → lacks_length v ≡ false
            initialized_fine v is = linked (l.linked x.behind de.whole.node de.whole.at)
              where
                unit_no : category.declarator ≡ category.unit → ⊥
                unit_no e = cc e

                linked : (suc x.behind ≡ length (nodes t)) ⊎ Linked (nodes t) x.behind de.whole.node → lacks_length v ≡ false
                linked (inl last) = absurd (unit_no (sym de.whole.is ∙ l.root x.behind de.whole.node de.whole.at last))
                linked (inr q) =
                    let at : slice_get (nodes t) x.owner ≡ Some q.parent = ap (λ k. slice_get (nodes t) k) de.owner ∙ q.at in
                    let is_owner : q.parent.label.kind ≡ kind.InitDecl = ap (λ (y : Node). y.label.kind) (sym (found_at (nodes t) x.owner q.parent at)) ∙ de.init_owner (or_second (is_static x.entity) (is_typedef x.entity) typedef) in
                    let judged = judged_at (places t) (nodes t) x.owner q.parent at in
                    let s = initialized_type (places t) (take x.owner js) q.parent v (ap type_of (sym (judged ∙ ap (judged_by (places t) (take x.owner js) q.parent) is_owner)) ∙ is) in
                    let typed : type_of (judgement_at js x.behind) ≡ Some s.type = ap (λ k. type_of (judgement_at js k)) (sym (first q q.parent at refl is_owner)) ∙ before_it js x.owner (kid q.parent 0) s.type s.typed in
                    let fine = declared s.type typed in
                    ap lacks_length (s.same fine) ∙ fine

            cases : (o : Option CType) → type_at (take n js) x.owner ≡ o → (if is_some o then o else type_at (take n js) x.behind) ≡ Some u → lacks_length u ≡ false
            cases (Some v) same h = initialized_fine u (before_it js n x.owner u (same ∙ h))
            cases None same h = declared u (before_it js n x.behind u h)

    plain : (k : SynKind) → m.label.kind ≡ k → says_type k ≡ true → Plain lacks_length (judged_by (places t) (take n js) m k)
    plain kind.Word same says = word_plain lacks_length refl (λ k. refl) (λ k. refl) (places t) (take n js) m (λ x u d typedef typed. typedef_fine x u d typedef typed)
    plain kind.StructSpec same says = struct_plain lacks_length refl (λ k. refl) (λ k. refl) (places t) (take n js) m
    plain kind.EnumSpec same says = enum_plain lacks_length refl (λ k. refl) (λ k. refl) (places t) (take n js) m
    plain kind.Specs same says = specs_plain lacks_length refl (λ k. refl) (λ k. refl) (places t) (take n js) m words
      where
        words : (i k : ℕ) → slice_get m.kids i ≡ Some k → Plain lacks_length (judgement_at (take n js) k)
        words i k at =
            let q = kid_at i k at in
            let shape = l.shapes.shaped n m e in
            let fit = of.of_specs m.label.text (map (category_at t) m.kids) (ap (λ k. kids_fit k m.label.text (map (category_at t) m.kids)) (sym same) ∙ shape.kids) in
            let c = at_all (category_at t) is_specifier m.kids i k fit at in
            let kid_shape = l.shapes.shaped k q.node q.at in
            let says = specifier_says q.node.label.kind q.node.label.text (map (category_at t) q.node.kids) (ap is_specifier (sym kid_shape.category) ∙ c) in
            record { plain = λ u is. (f k q.less q.node q.at).says says u (ap type_of (sym (earlier_at js n k q.less) ∙ is)) }
    plain _ same says = no says

    says : says_type m.label.kind ≡ true → (u : CType) → type_of (judgement_at js n) ≡ Some u → lacks_length u ≡ false
    says kind_says u typed =
        let is = (type_only (places t) (take n js) m m.label.kind kind_says).is u (ap type_of (sym own) ∙ typed) in
        (plain m.label.kind refl kind_says).plain u is

    -- ---- parts of declarators

    base : is_part (category_at t n) ≡ true → is_whole (nodes t) m ≡ true → (b : CType) → type_at (take n js) (specs_of (nodes t) (parent_of (nodes t) m.id)).id ≡ Some b → lacks_length b ≡ false
    base part whole b typed =
        let up = ap (λ k. not (is_declarator (node_at (nodes t) (node_at (nodes t) k).parent).label.kind)) (l.shapes.tiled n m e).numbered ∙ ap (λ (x : Node). not (is_declarator (node_at (nodes t) x.parent).label.kind)) (found_at (nodes t) n m e) in
        let s = specs_before (category_at t) (nodes t) l n m e part (sym up ∙ whole) in
        let shape = l.shapes.shaped (specs_of (nodes t) (parent_of (nodes t) m.id)).id s.node s.at in
        let is = specs_kind s.node.label.kind s.node.label.text (map (category_at t) s.node.kids) (ap is_specs (sym shape.category) ∙ s.is) in
        (f (specs_of (nodes t) (parent_of (nodes t) m.id)).id s.less s.node s.at).says (ap says_type is) b (before_it js n (specs_of (nodes t) (parent_of (nodes t) m.id)).id b typed)

    inner : is_part (category_at t n) ≡ true → is_declarator m.label.kind ≡ true → is_leaf m.label.kind ≡ false → (ss : List PlacedStep) → steps_at (take n js) (kid m 0) ≡ Some ss → steps_lack (is_given (places t) m.first) ss ≡ false
    inner part declared leaf ss typed =
        let shape = l.shapes.shaped n m e in
        let inside = inner_part m.label.kind m.label.text (map (category_at t) m.kids) declared leaf shape.kids (ap is_part (sym shape.category) ∙ part) in
        let a = at_index (category_at t) m.kids 0 is_part refl inside in
        let q = kid_at 0 a.place a.is in
        let here : steps_at (take n js) a.place ≡ Some ss = ap (λ o. steps_at (take n js) (unwrap_or o 0)) (sym a.is) ∙ typed in
        let is = steps_mean (judgement_at js a.place) ss (ap steps_of (sym (earlier_at js n a.place q.less)) ∙ here) in
        let first = first_begins (category_at t) (nodes t) l n m q.node a.place (l.shapes.tiled n m e).kids a.is q.at in
        ap (λ i. steps_lack (is_given (places t) i) ss) (sym first) ∙ ((f a.place q.less q.node q.at).part a.passes).part ss is

    parameters : m.label.kind ≡ kind.Takes → (i k : ℕ) (u : CType) → slice_get (other_kids m) i ≡ Some k → type_at (take n js) k ≡ Some u → lacks_length u ≡ false
    parameters same i k u at typed =
        let shape = l.shapes.shaped n m e in
        let fit = (of.of_takes m.label.text (map (category_at t) m.kids) (ap (λ k. kids_fit k m.label.text (map (category_at t) m.kids)) (sym same) ∙ shape.kids)).1 in
        let found = others m.kids i k at fit in
        let q = kid_at (suc i) k found.0 in
        let kid_shape = l.shapes.shaped k q.node q.at in
        let is = parameter_kind q.node.label.kind q.node.label.text (map (category_at t) q.node.kids) (ap is_parameter (sym kid_shape.category) ∙ found.1) in
        (f k q.less q.node q.at).parameter is u (before_it js n k u typed)
      where
        others : (ks : List ℕ) (i k : ℕ) → slice_get (drop 1 ks) i ≡ Some k → list_all is_parameter (rest (map (category_at t) ks)) ≡ true → (slice_get ks (suc i) ≡ Some k) × (is_parameter (category_at t k) ≡ true)
        others [] i k at fit = absurd (gone at)
        others (j ∷ ks) i k at fit = (at, at_all (category_at t) is_parameter ks i k fit at)

    first : m.label.kind ≡ kind.ArrayOf → is_next_to_name (nodes t) m ≡ true → (ss : List PlacedStep) → steps_at (take n js) (kid m 0) ≡ Some ss → ss ≡ []
    first same next ss typed = array_first tokens t derived n m e same next ss (steps_before js n (kid m 0) ss typed)

    part : is_part (category_at t n) ≡ true → Part (is_given (places t) m.first) (judgement_at js n)
    part is =
        let shape = l.shapes.shaped n m e in
        let declares = part_declares m.label.kind m.label.text (map (category_at t) m.kids) (ap is_part (sym shape.category) ∙ is) in
        subst (λ (j : Judgement). Part (is_given (places t) m.first) j) (sym own)
        (any_part (places t) (take n js) m (base is) m.label.kind declares (λ leaf. inner is declares leaf) first parameters)

    -- ---- parameters and members

    -- their declarators are given no length
    owned_fine : (i k : ℕ) → slice_get m.kids i ≡ Some k → is_part (category_at t k) ≡ true → has_none m.label.kind ≡ true → (u : CType) → type_of (judgement_at js k) ≡ Some u → lacks_length u ≡ false
    owned_fine i k at is none u typed =
        let q = kid_at i k at in
        let kid_shape = l.shapes.shaped k q.node q.at in
        let declares = part_declares q.node.label.kind q.node.label.text (map (category_at t) q.node.kids) (ap is_part (sym kid_shape.category) ∙ is) in
        let stem : Stem tokens t derived k n = record { node = q.node; there = q.at; parent = m; above = e; kid = among m.kids i at } in
        let init = not_init tokens t derived k n stem l is declares none q.below in
        ((f k q.less q.node q.at).part is).whole u typed (first_no _ _ _ init)
      where
        among : (ks : List ℕ) (i : ℕ) → slice_get ks i ≡ Some k → In k ks
        among [] i at = absurd (gone at)
        among (j ∷ ks) zero at = inl (some_same at)
        among (j ∷ ks) (suc i) at = inr (among ks i at)

        first_no : (a b c : Bool) → a ≡ false → (a && b && c) ≡ false
        first_no false b c e = refl
        first_no true b c e = absurd (true≢false e)

    parameter : m.label.kind ≡ kind.Param → (u : CType) → type_of (judgement_at js n) ≡ Some u → lacks_length u ≡ false
    parameter same u typed =
        let shape = l.shapes.shaped n m e in
        let fit = of.of_parameter m.label.text (map (category_at t) m.kids) (ap (λ k. kids_fit k m.label.text (map (category_at t) m.kids)) (sym same) ∙ shape.kids) in
        let a = at_index (category_at t) m.kids 1 is_part refl fit in
        let at = parameter_type (places t) (take n js) m u (ap type_of (sym (own ∙ ap (judged_by (places t) (take n js) m) same)) ∙ typed) in
        let here : type_at (take n js) a.place ≡ Some u = ap (λ o. type_at (take n js) (unwrap_or o 0)) (sym a.is) ∙ at in
        owned_fine 1 a.place a.is a.passes (ap has_none same) u (before_it js n a.place u here)

    good : Good n m
    good = record { says = says; part = part; parameter = parameter }

  pub all_good : (n : ℕ) → AllGood n
  all_good n = by_number AllGood (λ n f m e. good n f m e) n

  -- the declarators of parameters and members
  pub owned : (n : ℕ) (m : Node) → slice_get (nodes t) n ≡ Some m → has_none m.label.kind ≡ true → (i k : ℕ) → slice_get m.kids i ≡ Some k → is_part (category_at t k) ≡ true → (u : CType) → type_of (judgement_at js k) ≡ Some u → lacks_length u ≡ false
  owned n m e none i k at is u typed = owned_fine n (λ k less. all_good k) m e i k at is none u typed

  others : (test : Category → Bool) (ks : List ℕ) (i k : ℕ) → slice_get (drop 1 ks) i ≡ Some k → list_all test (rest (map (category_at t) ks)) ≡ true → (slice_get ks (suc i) ≡ Some k) × (test (category_at t k) ≡ true)
  others test [] i k at fit = absurd (gone at)
  others test (j ∷ ks) i k at fit = (at, at_all (category_at t) test ks i k fit at)

  -- the types of the parameters of a function
  pub parameters_fine : (n : ℕ) (m : Node) → slice_get (nodes t) n ≡ Some m → m.label.kind ≡ kind.Takes → (i k : ℕ) → slice_get (other_kids m) i ≡ Some k → (u : CType) → type_of (judgement_at js k) ≡ Some u → lacks_length u ≡ false
  parameters_fine n m e same i k at u typed =
      let shape = l.shapes.shaped n m e in
      let fit = (of.of_takes m.label.text (map (category_at t) m.kids) (ap (λ k. kids_fit k m.label.text (map (category_at t) m.kids)) (sym same) ∙ shape.kids)).1 in
      let found = others is_parameter m.kids i k at fit in
      let q = kid_of (nodes t) m.first n m.kids (suc i) k (l.shapes.tiled n m e).kids found.0 in
      let kid_shape = l.shapes.shaped k q.node q.at in
      let is = parameter_kind q.node.label.kind q.node.label.text (map (category_at t) q.node.kids) (ap is_parameter (sym kid_shape.category) ∙ found.1) in
      (all_good k q.node q.at).parameter is u typed

  declarator_part : (c : Category) → is_named_declarator c ≡ true → is_part c ≡ true
  declarator_part category.declarator e = refl
  declarator_part _ e = no e

  -- the types of the members of a declaration
  pub members_fine : (n : ℕ) (m : Node) → slice_get (nodes t) n ≡ Some m → m.label.kind ≡ kind.Member → (i k : ℕ) → slice_get (other_kids m) i ≡ Some k → (u : CType) → type_of (judgement_at js k) ≡ Some u → lacks_length u ≡ false
  members_fine n m e same i k at u typed =
      let shape = l.shapes.shaped n m e in
      let fit = of.of_member m.label.text (map (category_at t) m.kids) (ap (λ k. kids_fit k m.label.text (map (category_at t) m.kids)) (sym same) ∙ shape.kids) in
      let found = others is_named_declarator m.kids i k at fit in
      owned n m e (ap has_none same) (suc i) k found.0 (declarator_part (category_at t k) found.1) u typed

  -- the type of specs
  pub specs_fine : (n : ℕ) (m : Node) → slice_get (nodes t) n ≡ Some m → m.label.kind ≡ kind.Specs → (u : CType) → type_of (judgement_at js n) ≡ Some u → lacks_length u ≡ false
  specs_fine n m e same u typed = (all_good n m e).says (ap says_type same) u typed
