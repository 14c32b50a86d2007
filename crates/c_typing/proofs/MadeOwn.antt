-- The innermost scope of a parameter is that of its list.
use Rattle.std.proofs.Common.{◌≡◌, ◌⊎◌, inl, inr, ℕ, ◌+◌, ◌<◌, ◌≤◌, Bool, true, false, ◌||◌, ◌&&◌, List, [], ◌∷◌, map, Option, Some, None, refl, sym, ap, ◌∙◌, subst, arith, true≢false, unwrap_or}
use Rattle.std.specs.Prelude.{slice_get, get_or, if◌then◌else◌, filter, nat_le, ◌==◌}
use Rattle.std.specs.List.{last_or}
use Rattle.c_lexer.specs.declared.token.Token.{Token}
use Rattle.c_syntax.specs.declared.kind.SynKind.{SynKind}
use Rattle.c_syntax.specs.declared.kind.SynKind.TheVariants as kind
use Rattle.c_syntax.specs.Trees.{Tree}
use Rattle.c_syntax.specs.Tables.{table_of}
use Rattle.c_grammar.specs.Derivation.{IsTreeOf}
use Rattle.c_grammar.specs.Vocabulary.{is_storage_word, is_type_word}
use Rattle.c_typing.specs.Places.{Node, nodes, node_at, kid, parent_of, is_takes, is_step, is_function, is_declarator, is_next_to_name, next_to_name, in_declarator, whole_declarator, own_takes, belongs_to_block, nowhere, Scope, in_scope, plain_scope, block_scope, scope_by}
use Rattle.c_typing.specs.Names.{Name}
use Rattle.c_typing.specs.Shapes as category
use Rattle.c_typing.specs.Shapes.{Category, no_category, category_by, declarator_over, in_parentheses, kids_fit, at_places, categories_of, stands_in, begins_with}
use Rattle.c_typing.specs.ShapesOfNodes.{as_id, category_at, HasParent}
use Rattle.c_typing.proofs.ShapesNodes.{node_placed}
use Rattle.c_typing.proofs.MadeNodes.{In, in_at, in_back, nested, crossed, node_bounds}
use Rattle.c_typing.proofs.MadeParts.{least_kids}
use Rattle.c_typing.proofs.MadePlaced.{Found, numbered, found, node_there, kid_found, kid_in}
use Rattle.c_typing.proofs.MadeAround.{both_true, and_true, equal_so, so_low, find_is}
use Rattle.c_typing.proofs.MadeTop.{category_is, has_parent}
use Rattle.c_typing.proofs.MadeWhole.{begins_named, named_so, name_so}
use Rattle.c_typing.proofs.MadeDistinct.{same_id, three_ways, body_unnamed, no_body}
use Rattle.c_typing.proofs.MadeScopes.{is_body}
use Rattle.c_typing.proofs.MadeFunctionNames.{place_known}
use Rattle.c_typing.proofs.MadeMain.{function_kind, filter_so}
use Rattle.c_typing.proofs.MadeOnce.{filter_in, last_there}
use Rattle.c_typing.proofs.MadeKept.{last_in, declarator_so}
use Rattle.c_typing.proofs.MadeInner.{Innermost}
use Rattle.c_typing.proofs.MadeLists.{Listed}

module _ (tokens : List Token) (t : Tree) (derived : IsTreeOf tokens t) (e : Name) (l : Listed tokens t derived e) where
  -- where the name stands
  pub record Stands : Type 0 where
    pub behind : kid l.list 0 < e.node
    pub low : l.low.low.first ≡ e.node
    pub within : e.node ≤ l.low.low.id
    pub under : l.low.low.id < l.param.id
    pub inner : l.param.id < l.list.id
    pub starts : l.list.first ≤ l.param.first

  low_in : In l.low.low (nodes t)
  low_in = in_at l.low.low (nodes t) l.low.low.id l.low.there

  pub name_stands : Stands
  name_stands =
      let begins = l.low.begins in
      let up = node_bounds t l.low.low low_in in
      let f = kid_found tokens t derived l.param.id l.param l.low.low.id (found tokens t derived l.param l.param_in) l.low_kid in
      let same : Some f.node ≡ Some l.low.low = sym f.there ∙ l.low.there in
      let is : f.node ≡ l.low.low = cc same in
      let from : l.param.first ≤ l.low.low.first = subst (λ (x : Node). l.param.first ≤ x.first) is f.from in
      let behind = l.behind in
      let g = kid_found tokens t derived l.list.id l.list l.param.id (found tokens t derived l.list l.list_in) l.param_kid in
      let also : Some g.node ≡ Some l.param = sym g.there ∙ found tokens t derived l.param l.param_in in
      let one : g.node ≡ l.param = cc also in
      record { behind = omega (arith, behind, from, begins); low = begins; within = omega (arith, up, begins); under = f.before; inner = g.before; starts = subst (λ (x : Node). l.list.first ≤ x.first) one g.from }

  -- a statement that the name stands in holds the whole list
  pub body_around : (x : Node) → In x (nodes t) → is_body x.label.kind ≡ true → x.first ≤ e.node → e.node ≤ x.id → (l.list.id < x.id) × (x.first ≤ l.list.first)
  body_around x h b low high = by (three_ways l.low.low.id x.id)
    where
      is_param_kind : SynKind → Bool
      is_param_kind kind.Param = true
      is_param_kind k = false

      no_param : x.label.kind ≡ kind.Param → ⊥
      no_param q = true≢false (sym b ∙ ap is_body q)

      no_list : x.label.kind ≡ kind.Takes → ⊥
      no_list q = true≢false (sym b ∙ ap is_body q)

      last : (l.list.id < x.id) ⊎ ((l.list.id ≡ x.id) ⊎ (x.id < l.list.id)) → l.list.id ≤ x.id → (l.list.id < x.id) × (x.first ≤ l.list.first)
      last (inl less) wide = let s = name_stands in
          let s1 = s.within in
          let s2 = s.under in
          let s3 = s.inner in
          (less, crossed t x l.list h l.list_in (omega (arith, low, s1, s2, s3)) less)
      last (inr (inl same)) wide = absurd (no_list (ap (λ (y : Node). y.label.kind) (same_id tokens t derived x l.list h l.list_in (sym same)) ∙ l.list_is))
      last (inr (inr more)) wide = absurd (omega (arith, wide, more))

      param : (l.param.id < x.id) ⊎ ((l.param.id ≡ x.id) ⊎ (x.id < l.param.id)) → l.param.id ≤ x.id → (l.list.id < x.id) × (x.first ≤ l.list.first)
      param (inl less) wide = let s = name_stands in
          let s1 = s.within in
          let s2 = s.under in
          last (three_ways l.list.id x.id) (nested t x l.list l.param.id h l.list_in l.param_kid (omega (arith, low, s1, s2)) less)
      param (inr (inl same)) wide = absurd (no_param (ap (λ (y : Node). y.label.kind) (same_id tokens t derived x l.param h l.param_in (sym same)) ∙ l.param_is))
      param (inr (inr more)) wide = absurd (omega (arith, wide, more))

      by : (l.low.low.id < x.id) ⊎ ((l.low.low.id ≡ x.id) ⊎ (x.id < l.low.low.id)) → (l.list.id < x.id) × (x.first ≤ l.list.first)
      by (inl less) = let s1 = (name_stands).within in param (three_ways l.param.id x.id) (nested t x l.param l.low.low.id h l.param_in l.low_kid (omega (arith, low, s1)) less)
      by (inr (inl same)) = absurd (no_body x.label.kind (subst (λ (y : Node). is_declarator y.label.kind ≡ true) (same_id tokens t derived l.low.low x low_in h same) l.low.declares_it) b)
      by (inr (inr more)) =
          let begins = l.low.begins in
          let c = crossed t l.low.low x low_in h (omega (arith, begins, high)) more in
          let at = found tokens t derived x h in
          let p = node_placed tokens t derived x.id x at in
          let start : x.first ≡ e.node = omega (arith, c, begins, low) in
          let same : Some p.lowest ≡ Some l.low.ident = sym p.found ∙ (ap (λ j. slice_get (nodes t) j) (start ∙ l.low.by_node) ∙ l.low.at) in
          let lowest : p.lowest ≡ l.low.ident = cc same in
          let named = named_so (category_at t x.id) p.lowest.label.kind (ap (λ (y : Node). y.label.kind) lowest ∙ l.low.is_ident) p.begins in
          let k = category_is tokens t derived x.id x at in
          absurd (true≢false (sym named ∙ (ap begins_named k.1 ∙ body_unnamed x.label.kind x.label.text k.0 b)))

  -- ---- a list that belongs to a function

  pub record Belongs (z : ℕ) : Type 0 where
    pub place : ℕ
    pub function : Node
    pub there : slice_get (nodes t) place ≡ Some function
    pub is : function.label.kind ≡ kind.Function
    pub own : own_takes (nodes t) function ≡ Some l.list
    pub before : z < function.id

  third_kid : (text : List ℕ) (cs : List Category) → kids_fit kind.Function text cs ≡ true → slice_get cs 2 ≡ Some category.block
  unfolding kids_fit
  third_kid text (category.specifiers ∷ category.declarator ∷ category.block ∷ []) fits = refl
  third_kid text cs fits = absurd (true≢false (sym fits))

  abbrev is_block_category : Category → Bool
  is_block_category category.block = true
  is_block_category c = false

  block_kind : (k : SynKind) (text : List ℕ) (cs : List Category) → is_block_category (category_by k text cs) ≡ true → k ≡ kind.Block
  unfolding category_by
  block_kind kind.Block text cs h = refl
  block_kind kind.Pointer text cs h = over cs h
    where
      over : (cs : List Category) → is_block_category (declarator_over cs) ≡ true → kind.Pointer ≡ kind.Block
      over [] h = absurd (true≢false (sym h))
      over (category.declarator ∷ cs) h = absurd (true≢false (sym h))
      over (category.abstract_declarator ∷ cs) h = absurd (true≢false (sym h))
      over (category.no_name ∷ cs) h = absurd (true≢false (sym h))
      over (_ ∷ cs) h = absurd (true≢false (sym h))
  block_kind kind.ArrayOf text cs h = over cs h
    where
      over : (cs : List Category) → is_block_category (declarator_over cs) ≡ true → kind.ArrayOf ≡ kind.Block
      over [] h = absurd (true≢false (sym h))
      over (category.declarator ∷ cs) h = absurd (true≢false (sym h))
      over (category.abstract_declarator ∷ cs) h = absurd (true≢false (sym h))
      over (category.no_name ∷ cs) h = absurd (true≢false (sym h))
      over (_ ∷ cs) h = absurd (true≢false (sym h))
  block_kind kind.Paren text cs h = over cs h
    where
      over : (cs : List Category) → is_block_category (in_parentheses cs) ≡ true → kind.Paren ≡ kind.Block
      over [] h = absurd (true≢false (sym h))
      over (category.expression level ∷ cs) h = absurd (true≢false (sym h))
      over (category.declarator ∷ cs) h = absurd (true≢false (sym h))
      over (category.abstract_declarator ∷ cs) h = absurd (true≢false (sym h))
      over (category.no_name ∷ cs) h = absurd (true≢false (sym h))
      over (_ ∷ cs) h = absurd (true≢false (sym h))
  block_kind kind.Word text cs h = over (is_storage_word text) (is_type_word text) h
    where
      over : (a b : Bool) → is_block_category (if a then category.storage_word else (if b then category.type_specifier else category.typedef_name)) ≡ true → kind.Word ≡ kind.Block
      over true b h = absurd (true≢false (sym h))
      over false true h = absurd (true≢false (sym h))
      over false false h = absurd (true≢false (sym h))
  block_kind k text cs h = absurd (true≢false (sym h))

  pub fits_three : (text : List ℕ) (cs : List Category) → kids_fit kind.Function text cs ≡ true → cs ≡ category.specifiers ∷ category.declarator ∷ category.block ∷ []
  unfolding kids_fit
  fits_three text (category.specifiers ∷ category.declarator ∷ category.block ∷ []) fits = refl
  fits_three text cs fits = absurd (true≢false (sym fits))

  second_only : (known : List Category) (ks : List ℕ) (k : ℕ) → at_places known (map as_id ks) ≡ category.specifiers ∷ category.declarator ∷ category.block ∷ [] → In k ks → get_or known k no_category ≡ category.declarator → k ≡ unwrap_or (slice_get ks 1) 0
  second_only known [] k h i g = absurd i
  second_only known (a ∷ []) k h i g = absurd (cc h)
  second_only known (a ∷ b ∷ []) k h i g = absurd (cc h)
  second_only known (a ∷ b ∷ c ∷ d ∷ ks) k h i g = absurd (cc h)
  second_only known (a ∷ b ∷ c ∷ []) k h (inl same) g =
      let x : get_or known a no_category ≡ category.specifiers = cc h in
      let clash : category.specifiers ≡ category.declarator = sym x ∙ (ap (λ i. get_or known i no_category) same ∙ g) in absurd (cc clash)
  second_only known (a ∷ b ∷ c ∷ []) k h (inr (inl same)) g = sym same
  second_only known (a ∷ b ∷ c ∷ []) k h (inr (inr (inl same))) g =
      let x : get_or known c no_category ≡ category.block = cc h in
      let clash : category.block ≡ category.declarator = sym x ∙ (ap (λ i. get_or known i no_category) same ∙ g) in absurd (cc clash)
  second_only known (a ∷ b ∷ c ∷ []) k h (inr (inr (inr i))) g = absurd i

  next_so : is_next_to_name (nodes t) l.list ≡ true → next_to_name (nodes t) l.list.first ≡ Some l.list
  next_so h = by (next_to_name (nodes t) l.list.first) refl
    where
      by : (o : Option Node) → next_to_name (nodes t) l.list.first ≡ o → next_to_name (nodes t) l.list.first ≡ Some l.list
      by None g = let no : is_next_to_name (nodes t) l.list ≡ false = rw g refl in absurd (true≢false (sym h ∙ no))
      by (Some other) g =
          let yes : is_next_to_name (nodes t) l.list ≡ (other.id == l.list.id) = rw g refl in
          let among = (find_is (λ (m : Node). m.first == l.list.first && is_step m.label.kind) (nodes t) other g).0 in
          g ∙ ap Some (same_id tokens t derived other l.list among l.list_in (equal_so other.id l.list.id (sym yes ∙ h)))

  list_category : category_at t l.list.id ≡ category.declarator
  unfolding category_by
  list_category = let c = category_is tokens t derived l.list.id l.list (found tokens t derived l.list l.list_in) in c.1 ∙ subst (λ k. category_by k l.list.label.text c.0 ≡ category.declarator) (sym l.list_is) refl

  -- what a function's own list belongs to
  module _ (w : Node) (w_in : In w (nodes t)) (first : w.first ≡ l.list.first) (declares : is_declarator w.label.kind ≡ true) (fun : (node_at (nodes t) w.parent).label.kind ≡ kind.Function) (next : next_to_name (nodes t) l.list.first ≡ Some l.list) where
    w_at : slice_get (nodes t) w.id ≡ Some w
    w_at = found tokens t derived w w_in

    w_named : begins_named (category_at t w.id) ≡ true
    unfolding begins_with
    w_named =
        let p = node_placed tokens t derived w.id w w_at in
        let q = node_placed tokens t derived l.list.id l.list (found tokens t derived l.list l.list_in) in
        let same : Some p.lowest ≡ Some q.lowest = sym p.found ∙ (ap (λ j. slice_get (nodes t) j) first ∙ q.found) in
        let one : p.lowest ≡ q.lowest = cc same in
        let ident : q.lowest.label.kind ≡ kind.Ident = name_so q.lowest.label.kind (subst (λ c. begins_with c q.lowest.label.kind ≡ true) list_category q.begins) in
        named_so (category_at t w.id) p.lowest.label.kind (ap (λ (m : Node). m.label.kind) one ∙ ident) p.begins

    w_parent : HasParent t w.id w
    w_parent = has_parent tokens t derived w.id w w_at (λ u. true≢false (sym w_named ∙ ap begins_named u))

    f_is : w_parent.parent.label.kind ≡ kind.Function
    f_is = ap (λ (m : Node). m.label.kind) (sym (node_there tokens t derived w.parent w_parent.parent w_parent.found)) ∙ fun

    w_category : category_at t w.id ≡ category.declarator
    unfolding stands_in
    w_category = declarator_so tokens t derived (category_at t w.id) w_named (λ i. true≢false (sym (subst (λ k. stands_in category.init_declarator k ≡ true) f_is (subst (λ d. stands_in d w_parent.parent.label.kind ≡ true) i w_parent.stands))))

    f_fits : at_places (categories_of (table_of t)) (map as_id w_parent.parent.kids) ≡ category.specifiers ∷ category.declarator ∷ category.block ∷ []
    f_fits =
        let n = node_placed tokens t derived w.parent w_parent.parent w_parent.found in
        fits_three w_parent.parent.label.text (at_places (categories_of (table_of t)) (map as_id w_parent.parent.kids)) (subst (λ k. kids_fit k w_parent.parent.label.text (at_places (categories_of (table_of t)) (map as_id w_parent.parent.kids)) ≡ true) f_is n.fits.kids)

    w_second : w.id ≡ kid w_parent.parent 1
    w_second = second_only (categories_of (table_of t)) w_parent.parent.kids w.id f_fits (subst (λ ks. In w.id ks) (sym w_parent.among) (in_back w.id w_parent.front (w.id ∷ w_parent.back) (inl refl))) w_category

    own_is : own_takes (nodes t) w_parent.parent ≡ Some l.list
    own_is =
        let at : node_at (nodes t) (kid w_parent.parent 1) ≡ w = ap (λ i. node_at (nodes t) i) (sym w_second) ∙ node_there tokens t derived w.id w w_at in
        let same : next_to_name (nodes t) (node_at (nodes t) (kid w_parent.parent 1)).first ≡ Some l.list = ap (λ (m : Node). next_to_name (nodes t) m.first) at ∙ (ap (λ i. next_to_name (nodes t) i) first ∙ next) in
        let opened : own_takes (nodes t) w_parent.parent ≡ (if is_takes l.list.label.kind then Some l.list else None) = rw same refl in
        opened ∙ ap (λ b. if b then Some l.list else None) (ap is_takes l.list_is)

    block : Found t w_parent.parent (kid w_parent.parent 2)
    block = kid_found tokens t derived w.parent w_parent.parent (kid w_parent.parent 2) w_parent.found (kid_in tokens t derived w.parent w_parent.parent 2 w_parent.found (subst (λ k. 2 < least_kids k) (sym f_is) (omega arith)))

    block_is : block.node.label.kind ≡ kind.Block
    block_is =
        let c = category_is tokens t derived (kid w_parent.parent 2) block.node block.there in
        let known = place_known (categories_of (table_of t)) w_parent.parent.kids 2 category.block (ap (λ cs. slice_get cs 2) f_fits) in
        block_kind block.node.label.kind block.node.label.text c.0 (ap is_block_category (sym c.1 ∙ known))

    block_parent : parent_of (nodes t) block.node.id ≡ w_parent.parent
    block_parent =
        let id = numbered tokens t derived (kid w_parent.parent 2) block.node block.there in
        let pid = numbered tokens t derived w.parent w_parent.parent w_parent.found in
        ap (λ (m : Node). node_at (nodes t) m.parent) (node_there tokens t derived block.node.id block.node (subst (λ i. slice_get (nodes t) i ≡ Some block.node) (sym id) block.there))
        ∙ (ap (λ i. node_at (nodes t) i) (block.below ∙ pid) ∙ node_there tokens t derived w.parent w_parent.parent w_parent.found)

    list_scope : Scope
    list_scope = record { owner = l.list.id; from = kid l.list 0 + 1; to = l.list.id; block_from = block.node.first; block_to = block.node.id }

    scope_there : In list_scope (scope_by (nodes t) block.node block.node.label.kind)
    unfolding list_scope
    scope_there = subst (λ k. In list_scope (scope_by (nodes t) block.node k)) (sym block_is)
        (subst (λ o. In list_scope (block_scope block.node o)) (sym (ap (λ (m : Node). if is_function m.label.kind then own_takes (nodes t) m else None) block_parent ∙ (ap (λ b. if b then own_takes (nodes t) w_parent.parent else None) (ap is_function f_is) ∙ own_is))) (inl refl))

    scope_holds_it : in_scope list_scope e.node ≡ true
    unfolding list_scope
    scope_holds_it =
        let s = name_stands in
        let s0 = s.behind in
        let s1 = s.within in
        let s2 = s.under in
        let s3 = s.inner in
        ap (λ b. b || (nat_le block.node.first e.node && nat_le e.node block.node.id)) (and_true (nat_le (kid l.list 0 + 1) e.node) (nat_le e.node l.list.id) (so_low (kid l.list 0 + 1) e.node (omega (arith, s0))) (so_low e.node l.list.id (omega (arith, s1, s2, s3))))

    belongs_by : (i : Innermost tokens t derived e.node) → Belongs i.node.id
    belongs_by i =
        let first_of = i.first block.node list_scope (in_at block.node (nodes t) (kid w_parent.parent 2) block.there) scope_there scope_holds_it in
        let id = numbered tokens t derived (kid w_parent.parent 2) block.node block.there in
        let before = block.before in
        record { place = w.parent; function = w_parent.parent; there = w_parent.found; is = f_is; own = own_is; before = omega (arith, first_of, id, before) }

  -- ---- where the innermost scope of the name is found

  pub scope_first : (i : Innermost tokens t derived e.node) → (i.node.id ≤ l.list.id) ⊎ Belongs i.node.id
  scope_first i = by (belongs_to_block (nodes t) l.list) refl
    where
      by : (b : Bool) → belongs_to_block (nodes t) l.list ≡ b → (i.node.id ≤ l.list.id) ⊎ Belongs i.node.id
      by false g =
          let d : Scope = record { owner = l.list.id; from = kid l.list 0 + 1; to = l.list.id; block_from = 1; block_to = 0 } in
          let there : In d (scope_by (nodes t) l.list l.list.label.kind) = subst (λ k. In d (scope_by (nodes t) l.list k)) (sym l.list_is) (subst (λ b. In d (if b then [] else plain_scope l.list (kid l.list 0 + 1))) (sym g) (inl refl)) in
          let s = name_stands in
          let s0 = s.behind in
          let s1 = s.within in
          let s2 = s.under in
          let s3 = s.inner in
          let holds : in_scope d e.node ≡ true = ap (λ b. b || (nat_le 1 e.node && nat_le e.node 0)) (and_true (nat_le (kid l.list 0 + 1) e.node) (nat_le e.node l.list.id) (so_low (kid l.list 0 + 1) e.node (omega (arith, s0))) (so_low e.node l.list.id (omega (arith, s1, s2, s3)))) in
          inl (i.first l.list d l.list_in there holds)
      by true g =
          let b = both_true (is_next_to_name (nodes t) l.list) (is_function (node_at (nodes t) (whole_declarator (nodes t) l.list.first).parent).label.kind) g in
          let listed = filter_in (in_declarator l.list.first) (nodes t) l.list l.list_in (and_true (l.list.first == l.list.first) (is_declarator l.list.label.kind) (alike l.list.first) (ap is_declarator l.list_is)) in
          let last = last_there (filter (in_declarator l.list.first) (nodes t)) l.list None listed in
          at last.0 last.1 (last_in (filter (in_declarator l.list.first) (nodes t)) None last.0 last.1) (next_so b.0) b.1
        where
          alike : (a : ℕ) → (a == a) ≡ true
          alike a = grind arith

          at : (w : Node) → last_or None (filter (in_declarator l.list.first) (nodes t)) ≡ Some w → In w (filter (in_declarator l.list.first) (nodes t)) ⊎ (None ≡ Some w) → next_to_name (nodes t) l.list.first ≡ Some l.list
              → is_function (node_at (nodes t) (whole_declarator (nodes t) l.list.first).parent).label.kind ≡ true → (i.node.id ≤ l.list.id) ⊎ Belongs i.node.id
          at w is (inr q) next f = absurd (cc q)
          at w is (inl q) next f =
              let whole : whole_declarator (nodes t) l.list.first ≡ w = ap (λ o. unwrap_or o nowhere) is in
              let h = filter_so (in_declarator l.list.first) (nodes t) w q in
              let b = both_true (w.first == l.list.first) (is_declarator w.label.kind) h.1 in
              inr (belongs_by w h.0 (equal_so w.first l.list.first b.0) b.1 (function_kind (node_at (nodes t) w.parent).label.kind (subst (λ (x : Node). is_function (node_at (nodes t) x.parent).label.kind ≡ true) whole f)) next i)
