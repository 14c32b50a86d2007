-- Of all declarations of an object one has cells, so the cells of each object stand apart.
use Rattle.std.proofs.Common.{◌≡◌, ◌⊎◌, inl, inr, ℕ, suc, ◌<◌, ◌≤◌, Bool, true, false, ◌&&◌, cond, List, [], ◌∷◌, ◌++◌, map, Some, refl, sym, ap, ap₂, ◌∙◌, subst, arith, true≢false}
use Rattle.std.specs.Prelude.{slice_get, take, filter, nat_lt}
use Rattle.std.specs.List.{AllByRecursion}
use Rattle.c_lexer.specs.declared.token.Token.{Token}
use Rattle.c_syntax.specs.declared.kind.SynKind.TheVariants as kind
use Rattle.c_syntax.specs.Trees.{Tree}
use Rattle.c_grammar.specs.Derivation.{IsTreeOf}
use Rattle.c_types.specs.declared.tree.Object.{Object}
use Rattle.c_types.specs.WellMade.{AllApart, InEveryObject}
use Rattle.c_typing.specs.Types.{CType, size_of}
use Rattle.c_typing.specs.Places.{Node, nodes, node_at, has_kid, parent_of, specs_of}
use Rattle.c_typing.specs.Names.{Entity, typedef_name, function_name, static_object, automatic, parameter, enumerator, Places, places, Name, name_of, is_again, is_initialized, objects_of}
use Rattle.c_typing.specs.Judgements.{initialized, Judgement, means, judgement_at, layouts}
use Rattle.c_typing.specs.Rules.{declared_twice, bad_library_name, bad_main, local_array_or_struct}
use Rattle.c_typing.specs.Declarators.{whole_by, declared_faults, name_faults, object_size, parameter_size, type_before}
use Rattle.c_typing.specs.Shapes as category
use Rattle.c_typing.specs.Shapes.{Category, category_by, stands_in}
use Rattle.c_typing.specs.ShapesOfNodes.{category_at, HasParent}
use Rattle.c_typing.specs.Typing.{judgements_at, faults, cells_in, declarations_of, object_of, literal_object, literals_of, unit_in}
use Rattle.c_typing.proofs.MadeNodes.{In}
use Rattle.c_typing.proofs.MadeAround.{and_true}
use Rattle.c_typing.proofs.MadeTexts.{front_none, back_none}
use Rattle.c_typing.proofs.MadeOnce.{filter_in, twice}
use Rattle.c_typing.proofs.MadeObjects.{again_back, again_through}
use Rattle.c_typing.proofs.MadeNames.{Named, Declares, by_declarator, by_enumerator}
use Rattle.c_typing.proofs.MadeFunctionNames.{names_here}
use Rattle.c_typing.proofs.MadeTop.{has_parent, category_is}
use Rattle.c_typing.proofs.ProgressUnique.{InOrder}
use Rattle.c_typing.proofs.ProgressAll.{found_at}
use Rattle.c_typing.proofs.ProgressBase.{some_same}
use Rattle.c_typing.proofs.ProgressPlaces.{AreLinked, are_linked}
use Rattle.c_typing.proofs.ProgressNumbers.{InList}
use Rattle.c_typing.proofs.ProgressDeclared.{Stands, IsDeclaredName, IsEnumerator, is_enumerator_entity, entity_no_enumerator}
use Rattle.c_typing.proofs.ProgressObjects.{stand, named, order}
use Rattle.c_typing.proofs.ProgressTyped.{Declared, declared}
use Rattle.c_typing.proofs.MadeCells.{Stand, all_joint}
use Rattle.c_typing.proofs.MadeCellsData.{EachTwo, one_has, literal_stands, CellsOf, cells_kept, declaration_apart}

no : {A : Type 0} → false ≡ true → A
no e = absurd (true≢false (sym e))

-- ---- lists in order

order_in : (k : ℕ) (xs : List Name) (b : Name) → InOrder k xs → In b xs → k ≤ b.node
order_in k [] b h i = absurd i
order_in k (x ∷ xs) b h (inl same) = let low = h.0 in let is = ap (λ (y : Name). y.node) same in omega (arith, low, is)
order_in k (x ∷ xs) b h (inr i) = let low = h.0 in let rest = order_in (suc x.node) xs b h.1 i in omega (arith, low, rest)

pub all_filtered : (P : Name → Type 0) (f : Name → Bool) (xs : List Name) → ((b : Name) → In b xs → f b ≡ true → P b) → AllByRecursion P (filter f xs)
all_filtered P f [] h = tt
all_filtered P f (x ∷ xs) h = by (f x) refl (all_filtered P f xs (λ b i g. h b (inr i) g))
  where
    by : (c : Bool) → f x ≡ c → AllByRecursion P (filter f xs) → AllByRecursion P (cond c (x ∷ filter f xs) (filter f xs))
    by true g rest = (h x (inl refl) g, rest)
    by false g rest = rest

two_filtered : (R : Name → Name → Type 0) (f : Name → Bool) (k : ℕ) (xs : List Name) → InOrder k xs → ((a b : Name) → In a xs → In b xs → a.node < b.node → f a ≡ true → f b ≡ true → R a b) → EachTwo R (filter f xs)
two_filtered R f k [] o h = tt
two_filtered R f k (x ∷ xs) o h = by (f x) refl (two_filtered R f (suc x.node) xs o.1 (λ a b i j lt g e. h a b (inr i) (inr j) lt g e))
  where
    by : (c : Bool) → f x ≡ c → EachTwo R (filter f xs) → EachTwo R (cond c (x ∷ filter f xs) (filter f xs))
    by true g rest = (all_filtered (R x) f xs (λ b i e. h x b (inl refl) (inr i) (order_in (suc x.node) xs b o.1 i) g e), rest)
    by false g rest = rest

pub listed : (xs : List Name) (x : Name) → In x xs → InList xs x
listed [] x h = absurd h
listed (y ∷ xs) x (inl same) = record { index = 0; at = ap Some same }
listed (y ∷ xs) x (inr h) = let r = listed xs x h in record { index = suc r.index; at = r.at }

-- what each name is asked that is no enumerator
once_of : (p : Places) (js : List Judgement) (e : Name) (u : CType) (n : ℕ) (y : Entity) → is_enumerator_entity y ≡ false → declared_faults p js e u n false y ≡ [] → declared_twice p e u (type_before p js e) e.node ≡ []
once_of p js e u n typedef_name h f = front_none (declared_twice p e u (type_before p js e) e.node) (bad_library_name e.text false u n) f
once_of p js e u n function_name h f = front_none (declared_twice p e u (type_before p js e) e.node) (bad_library_name e.text true u n) (front_none (name_faults p js e u n true) (bad_main e.text u n) f)
once_of p js e u n static_object h f = front_none (declared_twice p e u (type_before p js e) e.node) (bad_library_name e.text false u n) (back_none (object_size (layouts js) u n) (name_faults p js e u n false) f)
once_of p js e u n automatic h f = front_none (declared_twice p e u (type_before p js e) e.node) (bad_library_name e.text false u n) (back_none (object_size (layouts js) u n ++ local_array_or_struct u n) (name_faults p js e u n false) f)
once_of p js e u n (parameter i) h f = front_none (declared_twice p e u (type_before p js e) e.node) (bad_library_name e.text false u n) (back_none (parameter_size u n) (name_faults p js e u n false) f)
once_of p js e u n enumerator h f = absurd (true≢false h)

module _ (tokens : List Token) (t : Tree) (derived : IsTreeOf tokens t) (quiet : faults t ≡ []) where
  l : AreLinked (category_at t) (nodes t)
  l = are_linked tokens t derived

  -- a declaration with cells has an initializer
  pub record HasCells (a : Name) : Type 0 where
    pub init : (node_at (nodes t) a.owner).label.kind ≡ kind.InitDecl
    pub initial : is_initialized (places t) a ≡ true

  pub none_or : (a : Name) → (cells_in (judgement_at (judgements_at (places t)) a.owner) ≡ []) ⊎ HasCells a
  none_or a = by (judgement_at (judgements_at (places t)) a.owner) (cells_kept tokens t derived quiet a.owner (judgement_at (judgements_at (places t)) a.owner) refl)
    where
      by : (j : Judgement) → CellsOf tokens t derived quiet a.owner j → (cells_in j ≡ []) ⊎ HasCells a
      by (means (initialized u ss cs)) h = one h.3
        where
          one : (cs ≡ []) ⊎ ((has_kid h.0 1 ≡ true) × Stand 0 (size_of (layouts (judgements_at (places t))) u) cs) → (cs ≡ []) ⊎ HasCells a
          one (inl e) = inl e
          one (inr s) = inr (record { init = ap (λ (m : Node). m.label.kind) (found_at (nodes t) a.owner h.0 h.1) ∙ h.2; initial = ap (λ (m : Node). has_kid m 1) (found_at (nodes t) a.owner h.0 h.1) ∙ s.0 })
      by _ h = inl refl

  -- what is asked of a name in the light of those before
  pub once_kept : (b : Name) → InList (places t).names b → IsDeclaredName (category_at t) (nodes t) b → (node_at (nodes t) b.owner).label.kind ≡ kind.InitDecl → (d : Declared tokens t derived quiet b)
      → declared_twice (places t) b d.type (type_before (places t) (take b.behind (judgements_at (places t))) b) b.node ≡ []
  once_kept b m de init d =
      let p = places t in
      let node = found_at (nodes t) b.behind de.whole.node de.whole.at in
      let number = (l.shapes.tiled b.behind de.whole.node de.whole.at).numbered in
      let owner : (parent_of (nodes t) (node_at (nodes t) b.behind).id).label.kind ≡ kind.InitDecl =
      ap (λ (z : Node). (parent_of (nodes t) z.id).label.kind) node
      ∙ (ap (λ i. (parent_of (nodes t) i).label.kind) number
      ∙ (ap (λ (z : Node). (node_at (nodes t) z.parent).label.kind) node ∙ (ap (λ i. (node_at (nodes t) i).label.kind) (sym de.owner) ∙ init))) in
      let name : name_of p (node_at (nodes t) b.behind).first ≡ Some b = ap (λ (z : Node). name_of p z.first) node ∙ (ap (λ i. name_of p i) de.first ∙ named tokens t derived quiet b m) in
      let js = take b.behind (judgements_at p) in
      let keeps : declared_faults p js b d.type (node_at (nodes t) b.behind).id false b.entity ≡ [] = ap₂ (λ o k. whole_by p js (node_at (nodes t) b.behind) d.type o k) (sym name) (sym owner) ∙ d.made.keeps in
      once_of p js b d.type (node_at (nodes t) b.behind).id b.entity de.entity keeps

  -- a later one is refused
  refused : (a b : Name) → In a (places t).names → In b (places t).names → is_again a b ≡ true → a.behind < b.behind → IsDeclaredName (category_at t) (nodes t) b → HasCells a → HasCells b → ⊥
  refused a b i j again lt de x y =
      let p = places t in
      let m = listed p.names b j in
      let d = declared tokens t derived quiet b m de y.init in
      twice p b a d.type (type_before p (take b.behind (judgements_at p)) b) b.node
      (filter_in (λ (z : Name). is_again z b && nat_lt z.behind b.behind) p.names a i (and_true (is_again a b) (nat_lt a.behind b.behind) again (low a.behind b.behind lt)))
      y.initial x.initial (once_kept b m de y.init d)
    where
      low : (i j : ℕ) → i < j → nat_lt i j ≡ true
      low i j h = grind arith

  -- an enumerator has no cells
  pub not_enumerator : (c : Name) → In c (places t).names → IsEnumerator (nodes t) c → HasCells c → ⊥
  unfolding category_by stands_in
  not_enumerator c i ec z = let n = (names_here tokens t derived).each c i in by n n.how
    where
      by : (n : Named (nodes t) c) → Declares (nodes t) n.before n.node c → ⊥
      by n (by_declarator k behind owner f g) = true≢false (sym (ap is_enumerator_entity ec.entity) ∙ entity_no_enumerator (nodes t) (node_at (nodes t) c.owner) (specs_of (nodes t) (node_at (nodes t) c.owner)) c.scope c.is_function (node_at (nodes t) c.owner).label.kind c.entity g)
      by n (by_enumerator k behind owner f g) = at (has_parent tokens t derived n.place n.node n.there (λ u. true≢false (sym (ap is_enumerator_category category_is_enumerator) ∙ ap is_enumerator_category u)))
        where
          is_enumerator_category : Category → Bool
          is_enumerator_category category.enumerator = true
          is_enumerator_category x = false

          category_is_enumerator : category_at t n.place ≡ category.enumerator
          category_is_enumerator = let x = category_is tokens t derived n.place n.node n.there in x.1 ∙ subst (λ y. category_by y n.node.label.text x.0 ≡ category.enumerator) (sym k) refl

          at : HasParent t n.place n.node → ⊥
          at h =
              let kind_is : h.parent.label.kind ≡ kind.InitDecl = ap (λ (m : Node). m.label.kind) (sym (ap (λ j. node_at (nodes t) j) owner ∙ found_at (nodes t) n.node.parent h.parent h.found)) ∙ z.init in
              let stands : stands_in category.enumerator kind.InitDecl ≡ true = subst (λ y. stands_in category.enumerator y ≡ true) kind_is (subst (λ y. stands_in y h.parent.label.kind ≡ true) category_is_enumerator h.stands) in
              true≢false (sym stands)

  both : (a b : Name) → In a (places t).names → In b (places t).names → is_again a b ≡ true → a.node < b.node → Stands (category_at t) (nodes t) a → Stands (category_at t) (nodes t) b → HasCells a → HasCells b → ⊥
  both a b i j again lt (inr da) (inr db) x y = by (three a.behind b.behind)
    where
      three : (m n : ℕ) → (m < n) ⊎ ((n < m) ⊎ (m ≡ n))
      three m n = grind arith

      by : (a.behind < b.behind) ⊎ ((b.behind < a.behind) ⊎ (a.behind ≡ b.behind)) → ⊥
      by (inl h) = refused a b i j again h db x y
      by (inr (inl h)) = refused b a j i (again_back a b again) h da y x
      by (inr (inr h)) =
          let same : da.whole.node ≡ db.whole.node = some_same (sym da.whole.at ∙ (ap (λ n. slice_get (nodes t) n) h ∙ db.whole.at)) in
          let first : a.node ≡ b.node = sym da.first ∙ (ap (λ (m : Node). m.first) same ∙ db.first) in
          absurd (omega (arith, first, lt))
  both a b i j again lt (inl ea) s x y = not_enumerator a i ea x
  both a b i j again lt (inr da) (inl eb) x y = not_enumerator b j eb y

  two : (e a b : Name) → In a (places t).names → In b (places t).names → a.node < b.node → is_again a e ≡ true → is_again b e ≡ true
      → (cells_in (judgement_at (judgements_at (places t)) a.owner) ≡ []) ⊎ (cells_in (judgement_at (judgements_at (places t)) b.owner) ≡ [])
  two e a b i j lt f g = by (none_or a) (none_or b)
    where
      by : (cells_in (judgement_at (judgements_at (places t)) a.owner) ≡ []) ⊎ HasCells a → (cells_in (judgement_at (judgements_at (places t)) b.owner) ≡ []) ⊎ HasCells b
          → (cells_in (judgement_at (judgements_at (places t)) a.owner) ≡ []) ⊎ (cells_in (judgement_at (judgements_at (places t)) b.owner) ≡ [])
      by (inl h) k = inl h
      by (inr h) (inl k) = inr k
      by (inr h) (inr k) = absurd (both a b i j (again_through a e b f (again_back b e g)) lt (stand tokens t derived quiet a (listed (places t).names a i)) (stand tokens t derived quiet b (listed (places t).names b j)) h k)

  object_apart : (e : Name) → AllApart (object_of (places t) (judgements_at (places t)) e).cells
  object_apart e = one_has (λ (a : Name). cells_in (judgement_at (judgements_at (places t)) a.owner)) (declarations_of (places t) e)
      (all_filtered (λ (a : Name). AllApart (cells_in (judgement_at (judgements_at (places t)) a.owner))) (λ a. is_again a e) (places t).names (λ a i f. declaration_apart tokens t derived quiet a.owner))
      (two_filtered (λ (a b : Name). (cells_in (judgement_at (judgements_at (places t)) a.owner) ≡ []) ⊎ (cells_in (judgement_at (judgements_at (places t)) b.owner) ≡ [])) (λ a. is_again a e) 0 (places t).names (order tokens t derived quiet)
      (λ a b i j lt f g. two e a b i j lt f g))

  objects_apart : (es : List Name) → AllByRecursion (λ (o : Object). AllApart o.cells) (map (object_of (places t) (judgements_at (places t))) es)
  objects_apart [] = tt
  objects_apart (e ∷ es) = (object_apart e, objects_apart es)

  literals_apart : (ns : List Node) → AllByRecursion (λ (o : Object). AllApart o.cells) (map (λ (n : Node). literal_object n.label.bytes) ns)
  literals_apart [] = tt
  literals_apart (n ∷ ns) = ((literal_stands n.label.bytes).apart, literals_apart ns)

  -- the cells of each object stand apart
  pub cells_apart : InEveryObject (unit_in (places t) (judgements_at (places t))) (λ o. AllApart o.cells)
  cells_apart = all_joint (λ (o : Object). AllApart o.cells) (map (object_of (places t) (judgements_at (places t))) (objects_of (places t))) (map (λ (n : Node). literal_object n.label.bytes) (literals_of (places t) (judgements_at (places t))))
      (objects_apart (objects_of (places t))) (literals_apart (literals_of (places t) (judgements_at (places t))))
