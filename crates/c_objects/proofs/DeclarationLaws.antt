-- The declarations of each object, from node to node.
use Rattle.std.proofs.Common.{◌≡◌, ◌≢◌, ◌⊎◌, inl, inr, ℕ, zero, suc, ◌+◌, ◌<◌, ◌≤◌, Bool, true, false, ◌&&◌, cond, List, [], ◌∷◌, ◌++◌, length, map, Option, Some, None, refl, sym, ap, ◌∙◌, arith, get_or}
use Rattle.std.specs.Prelude.{Vec, slice_get, slice_set, filter, nat_lt, nat_eq, ◌==◌}
use Rattle.std.specs.List.{AllByRecursion}
use Rattle.std.specs.declared.alloc.Global.{Global}
use Rattle.std.proofs.lemmas.List.{get_or-set_same, get_or-set_other, get_or-map, length-map, length-set}
use Rattle.std.proofs.lemmas.Option.{slice_get_within}
use Rattle.std.proofs.lemmas.Bool.Decides.{eqb_tells}
use Rattle.c_syntax.specs.declared.syntax.SynNode.{SynNode}
use Rattle.c_typing.specs.Names.{Name, is_again, name_of, objects_of}
use Rattle.c_typing.proofs.MadeAround.{equal_so, find_is}
use Rattle.c_typing.proofs.MadeMain.{position_is}
use Rattle.c_typing.proofs.MadeNodes.{in_at}
use Rattle.c_typing.proofs.MadeObjects.{again_back, again_through, position_there}
use Rattle.c_nodes.specs.Parents.{nodes_in}
use Rattle.c_names.specs.Denoted.{Among, IsDerived, places_in}
use Rattle.c_names.proofs.ChainLaws.{Ascend, all_among, filter_ascend, passed}
use Rattle.c_names.proofs.DeclaredLaws.{from_in}
use Rattle.c_names.proofs.UseLaws.{ascend}
use Rattle.c_locals.proofs.CountLaws.{filter_more, filter_none, listed}
use Rattle.c_objects.specs.Objects.{AreDeclarations, AreDeclarationsBefore, is_object, nodes_in_lists, number_at}
use Rattle.c_objects.proofs.FirstLaws.{Names, node_below, one_first}
use Rattle.c_objects.proofs.ObjectLaws.{first_of_object}

-- names in order are told apart by their places
one_place : (xs : List Name) → Ascend xs → (j k : ℕ) (a b : Name) → slice_get xs j ≡ Some a → slice_get xs k ≡ Some b → a.node ≡ b.node → j ≡ k
one_place [] s j k a b e f same = absurd (cc e)
one_place (x ∷ xs) s zero zero a b e f same = refl
one_place (x ∷ xs) s zero (suc k) a b e f same =
    let less = all_among (λ (y : Name). x.node < y.node) xs s.0 b (from_in b xs (in_at b xs k f)) in
    let first : x ≡ a = cc e in
    let at : x.node ≡ a.node = ap (λ (y : Name). y.node) first in
    absurd (omega (arith, less, at, same))
one_place (x ∷ xs) s (suc j) zero a b e f same =
    let less = all_among (λ (y : Name). x.node < y.node) xs s.0 a (from_in a xs (in_at a xs j e)) in
    let first : x ≡ b = cc f in
    let at : x.node ≡ b.node = ap (λ (y : Name). y.node) first in
    absurd (omega (arith, less, at, same))
one_place (x ∷ xs) s (suc j) (suc k) a b e f same = ap suc (one_place xs s.1 j k a b e f same)

nil_end : {A : Type 0} (xs : List A) → xs ++ [] ≡ xs
nil_end [] = refl
nil_end (x ∷ xs) = ap (λ ys. x ∷ ys) (nil_end xs)

abbrev node_of_name : Name → ℕ
node_of_name a = a.node

map_append : (xs ys : List Name) → map node_of_name (xs ++ ys) ≡ map node_of_name xs ++ map node_of_name ys
map_append [] ys = refl
map_append (x ∷ xs) ys = ap (λ zs. x.node ∷ zs) (map_append xs ys)

module _ (table : List SynNode) (d : IsDerived table) (nodes : length (nodes_in table) ≡ length table) where
  abbrev Objects : List Name
  Objects = objects_of (places_in table)

  object_in : (k : ℕ) (o : Name) → slice_get Objects k ≡ Some o → Among o (Names table d) × (is_object (places_in table) o ≡ true)
  object_in k o e = passed (is_object (places_in table)) (Names table d) o (from_in o Objects (in_at o Objects k e))

  -- a name declares at most one object
  one_object_of : (e : Name) (j k : ℕ) (a b : Name) → slice_get Objects j ≡ Some a → slice_get Objects k ≡ Some b → is_again a e ≡ true → is_again b e ≡ true → j ≡ k
  one_object_of e j k a b f g again other =
      let p = object_in j a f in
      let q = object_in k b g in
      let it = one_first table d a b p.0 q.0 (again_through a e b again (again_back b e other)) (first_of_object table d nodes a p.1) (first_of_object table d nodes b q.1) in
      one_place Objects (filter_ascend (is_object (places_in table)) (Names table d) (ascend table d)) j k a b f g (ap node_of_name it)

  abbrev Nodes : Name → ℕ → List ℕ
  Nodes o n = map node_of_name (filter (λ a. is_again a o && nat_lt a.node n) (Names table d))

  module _ (n : ℕ) where
    more : (o : Name) (x : Option Name) → name_of (places_in table) n ≡ x → Nodes o (n + 1) ≡ Nodes o n ++ map node_of_name (listed (λ a. is_again a o) x)
    more o x is =
        ap (map node_of_name) (filter_more (λ a. is_again a o) n (Names table d) (ascend table d))
        ∙ (map_append (filter (λ a. is_again a o && nat_lt a.node n) (Names table d)) (listed (λ a. is_again a o) (name_of (places_in table) n))
        ∙ ap (λ y. Nodes o n ++ map node_of_name (listed (λ a. is_again a o) y)) is)

    pub with_one : (e o : Name) → name_of (places_in table) n ≡ Some e → is_again e o ≡ true → Nodes o (n + 1) ≡ Nodes o n ++ n ∷ []
    with_one e o is again =
        more o (Some e) is
        ∙ (ap (λ b. Nodes o n ++ map node_of_name (cond b (e ∷ []) [])) again
        ∙ ap (λ k. Nodes o n ++ k ∷ []) (equal_so e.node n (find_is (λ (a : Name). a.node == n) (Names table d) e is).1))

    pub without : (o : Name) (x : Option Name) → name_of (places_in table) n ≡ x → ((e : Name) → x ≡ Some e → is_again e o ≡ true → ⊥) → Nodes o (n + 1) ≡ Nodes o n
    without o None is none = more o None is ∙ nil_end (Nodes o n)
    without o (Some e) is none = more o (Some e) is ∙ (ap (λ b. Nodes o n ++ map node_of_name (cond b (e ∷ []) [])) (by (is_again e o) refl) ∙ nil_end (Nodes o n))
      where
        by : (b : Bool) → is_again e o ≡ b → is_again e o ≡ false
        by false h = h
        by true h = absurd (none e refl h)

    -- the object that the node declares
    pub record Object (j : ℕ) : Type 0 where
      pub name : Name
      pub is : name_of (places_in table) n ≡ Some name
      pub object : Name
      pub at : slice_get Objects j ≡ Some object
      pub again : is_again object name ≡ true

    pub object_here : (j : ℕ) → number_at (places_in table) (name_of (places_in table) n) ≡ Some j → Object j
    object_here j e = by (name_of (places_in table) n) refl e
      where
        by : (x : Option Name) → name_of (places_in table) n ≡ x → number_at (places_in table) x ≡ Some j → Object j
        by None g h = absurd (cc h)
        by (Some x) g h = let p = position_is (λ a. is_again a x) Objects j h in record { name = x; is = g; object = p.0; at = p.1; again = p.2 }

    pub object_below : (j : ℕ) → number_at (places_in table) (name_of (places_in table) n) ≡ Some j → j < length Objects
    object_below j e = let o = object_here j e in slice_get_within Objects j o.object o.at

    pub one_put : (found : List (List ℕ)) (j : ℕ) → number_at (places_in table) (name_of (places_in table) n) ≡ Some j → AreDeclarationsBefore table n found
        → AreDeclarationsBefore table (n + 1) (slice_set found j (get_or found j [] ++ n ∷ []))
    one_put found j e f = record { long = length-set found j new ∙ f.long; are = λ k o at. which k o at (eqb_tells k j) }
      where
        new : List ℕ
        new = get_or found j [] ++ n ∷ []

        here : Object j
        here = object_here j e

        some_same : {a b : Name} → Some a ≡ Some b → a ≡ b
        some_same h = cc h

        which : (k : ℕ) (o : Name) → slice_get Objects k ≡ Some o → ((nat_eq k j ≡ true) × (k ≡ j)) ⊎ ((nat_eq k j ≡ false) × (k ≢ j)) → get_or (slice_set found j new) k [] ≡ Nodes o (n + 1)
        which k o at (inl (q, same)) =
            let it : here.object ≡ o = some_same (sym here.at ∙ (ap (slice_get Objects) (sym same) ∙ at)) in
            let low = object_below j e in
            let long = f.long in
            ap (λ i. get_or (slice_set found j new) i []) same
            ∙ (get_or-set_same found j new [] (omega (arith, low, long))
            ∙ (ap (λ xs. xs ++ n ∷ []) (ap (λ i. get_or found i []) (sym same) ∙ f.are k o at)
            ∙ sym (with_one here.name o here.is (again_back o here.name (ap (λ x. is_again x here.name) (sym it) ∙ here.again)))))
        which k o at (inr (q, other)) =
            get_or-set_other found j k new [] other
            ∙ (f.are k o at
            ∙ sym (without o (Some here.name) here.is (λ x h again. other (sym (one_object_of here.name j k here.object o here.at at here.again (again_back here.name o (ap (λ y. is_again y o) (some_same h) ∙ again)))))))

    pub none_put : (found : List (List ℕ)) → number_at (places_in table) (name_of (places_in table) n) ≡ None → AreDeclarationsBefore table n found → AreDeclarationsBefore table (n + 1) found
    none_put found e f = record { long = f.long; are = λ k o at. f.are k o at ∙ sym (without o (name_of (places_in table) n) refl (λ x h again. none k o at x h again)) }
      where
        none : (k : ℕ) (o : Name) → slice_get Objects k ≡ Some o → (x : Name) → name_of (places_in table) n ≡ Some x → is_again x o ≡ true → ⊥
        none k o at x h again =
            let p = position_there (λ a. is_again a x) Objects o (in_at o Objects k at) (again_back x o again) in
            absurd (cc (sym (sym (ap (number_at (places_in table)) h) ∙ e) ∙ p.1))

  pub all_put : (n : ℕ) (found : List (List ℕ)) → length table ≤ n → AreDeclarationsBefore table n found → AreDeclarations table found
  all_put n found most f = record { long = f.long; are = λ k o at. f.are k o at ∙ ap (map node_of_name) (all o (Names table d) (λ x i. let b = node_below table d x i in omega (arith, b, nodes, most))) }
    where
      all : (o : Name) (xs : List Name) → ((x : Name) → Among x xs → x.node < n) → filter (λ a. is_again a o && nat_lt a.node n) xs ≡ filter (λ a. is_again a o) xs
      all o [] h = refl
      all o (x ∷ xs) h =
          ap (λ b. cond b (x ∷ filter (λ a. is_again a o && nat_lt a.node n) xs) (filter (λ a. is_again a o && nat_lt a.node n) xs)) (on (is_again x o) (nat_lt x.node n) (low x.node (h x (inl refl))))
          ∙ ap (λ ys. cond (is_again x o) (x ∷ ys) ys) (all o xs (λ y i. h y (inr i)))
        where
          low : (k : ℕ) → k < n → nat_lt k n ≡ true
          low k less = grind (arith, less)

          on : (a b : Bool) → b ≡ true → (a && b) ≡ a
          on true b e = e
          on false b e = refl

-- ---- lists in vectors

abbrev pub AreEmpty : List (Vec ℕ Global) → Type 0
AreEmpty lists = AllByRecursion (λ (list : Vec ℕ Global). list.items ≡ []) lists

pub one_more_empty : (lists : List (Vec ℕ Global)) (list : Vec ℕ Global) → AreEmpty lists → list.items ≡ [] → AreEmpty (lists ++ list ∷ [])
one_more_empty [] list h e = (e, tt)
one_more_empty (x ∷ lists) list h e = (h.0, one_more_empty lists list h.1 e)

pub first_put : (table : List SynNode) (lists : List (Vec ℕ Global)) → length lists ≡ length (objects_of (places_in table)) → AreEmpty lists → AreDeclarationsBefore table 0 (nodes_in_lists lists)
first_put table lists long empty = record {
  long = length-map lists (λ list. list.items) ∙ long;
  are = λ k o at. empty_at lists empty k ∙ sym (ap (map node_of_name) (filter_none (λ a. is_again a o && nat_lt a.node 0) (places_in table).names (λ x i. off (is_again x o) (nat_lt x.node 0) (none x.node))));
}
  where
    empty_at : (lists : List (Vec ℕ Global)) → AreEmpty lists → (k : ℕ) → get_or (nodes_in_lists lists) k [] ≡ []
    empty_at [] h k = refl
    empty_at (x ∷ lists) h zero = h.0
    empty_at (x ∷ lists) h (suc k) = empty_at lists h.1 k

    none : (k : ℕ) → nat_lt k 0 ≡ false
    none k = grind arith

    off : (a b : Bool) → b ≡ false → (a && b) ≡ false
    off true b e = e
    off false b e = refl

pub list_at : (lists : List (Vec ℕ Global)) (k : ℕ) (d : Vec ℕ Global) → k < length lists → get_or (nodes_in_lists lists) k [] ≡ (get_or lists k d).items
list_at lists k d within = get_or-map (λ (list : Vec ℕ Global). list.items) lists k d [] within

pub with_list : (lists : List (Vec ℕ Global)) (k : ℕ) (list : Vec ℕ Global) → nodes_in_lists (slice_set lists k list) ≡ slice_set (nodes_in_lists lists) k list.items
with_list [] k list = refl
with_list (x ∷ lists) zero list = refl
with_list (x ∷ lists) (suc k) list = ap (λ rest. x.items ∷ rest) (with_list lists k list)

pub length_lists : (lists : List (Vec ℕ Global)) → length (nodes_in_lists lists) ≡ length lists
length_lists lists = length-map lists (λ list. list.items)
