-- A function with a name is one of the nodes.
use Rattle.std.proofs.Common.{◌≡◌, ℕ, zero, suc, ◌+◌, ◌<◌, ◌≤◌, Bool, true, false, ◌&&◌, ◌||◌, cond, List, [], ◌∷◌, length, Some, None, refl, sym, ap, ◌∙◌, arith, drop}
use Rattle.std.specs.Prelude.{codes, filter, is_some, nat_lt, not, position}
use Rattle.std.specs.List.{list_any, prefix_len}
use Rattle.std.specs.Str.{bytes_eq}
use Rattle.std.proofs.lemmas.List.{drop_all}
use Rattle.c_syntax.specs.declared.syntax.SynNode.{SynNode}
use Rattle.c_typing.specs.Places.{Node, is_function, kid, node_at, text_at}
use Rattle.c_typing.specs.Names.{function_number, function_text}
use Rattle.c_nodes.specs.Parents.{nodes_in}
use Rattle.c_names.specs.Denoted.{places_in}
use Rattle.c_uses.specs.Uses.{is_main}

position_is : {A : Type 0} (test : A → Bool) (xs : List A) → is_some (position test xs) ≡ list_any test xs
position_is test [] = refl
position_is {A} test (x ∷ xs) = by (test x) (position_is test xs)
  where
    fails : A → Bool
    fails y = not (test y)

    next : (l m : ℕ) → nat_lt (1 + l) (suc m) ≡ nat_lt l m
    next l m = grind arith

    first : (m : ℕ) → nat_lt 0 (suc m) ≡ true
    first m = grind arith

    some_so : (l m : ℕ) (b : Bool) → nat_lt l m ≡ b → is_some (cond b (Some l) None) ≡ b
    some_so l m true e = refl
    some_so l m false e = refl

    some_is : (l m : ℕ) → is_some (cond (nat_lt l m) (Some l) None) ≡ nat_lt l m
    some_is l m = some_so l m (nat_lt l m) refl

    by : (b : Bool) → is_some (cond (nat_lt (prefix_len fails xs) (length xs)) (Some (prefix_len fails xs)) None) ≡ list_any test xs
        → is_some (cond (nat_lt (cond (not b) (1 + prefix_len fails xs) 0) (suc (length xs))) (Some (cond (not b) (1 + prefix_len fails xs) 0)) None) ≡ (b || list_any test xs)
    by true more = some_is 0 (suc (length xs)) ∙ first (length xs)
    by false more = some_is (1 + prefix_len fails xs) (suc (length xs)) ∙ (next (prefix_len fails xs) (length xs) ∙ (sym (some_is (prefix_len fails xs) (length xs)) ∙ more))

any_of_filter : {A : Type 0} (f test : A → Bool) (xs : List A) → list_any test (filter f xs) ≡ list_any (λ x. f x && test x) xs
any_of_filter f test [] = refl
any_of_filter f test (x ∷ xs) = by (f x) (any_of_filter f test xs)
  where
    by : (b : Bool) → list_any test (filter f xs) ≡ list_any (λ x. f x && test x) xs → list_any test (cond b (x ∷ filter f xs) (filter f xs)) ≡ ((b && test x) || list_any (λ x. f x && test x) xs)
    by true more = ap (λ b. test x || b) more
    by false more = more

-- one of the items that pass a first test passes a second one
pub found_in : {A : Type 0} (f test : A → Bool) (xs : List A) → list_any (λ x. f x && test x) xs ≡ is_some (position test (filter f xs))
found_in f test xs = sym (position_is test (filter f xs) ∙ any_of_filter f test xs)

-- ---- `main`

abbrev pub some_main : List SynNode → List Node → Bool
some_main table nodes = list_any (is_main (places_in table)) nodes

module _ (table : List SynNode) (n : ℕ) (within : n < length (nodes_in table)) where
  cut : drop n (nodes_in table) ≡ node_at (nodes_in table) n ∷ drop (n + 1) (nodes_in table)
  cut = by (nodes_in table) n within ∙ ap (λ j. node_at (nodes_in table) n ∷ drop j (nodes_in table)) {x = suc n} {y = n + 1} (omega arith)
    where
      by : (s : List Node) (i : ℕ) → i < length s → drop i s ≡ node_at s i ∷ drop (suc i) s
      by [] i h = absurd (omega (arith, h))
      by (m ∷ s) zero h = refl
      by (m ∷ s) (suc i) h = by s i (omega (arith, h))

  pub main_here : is_main (places_in table) (node_at (nodes_in table) n) ≡ true → some_main table (drop n (nodes_in table)) ≡ true
  main_here e = ap (some_main table) cut ∙ ap (λ b. b || some_main table (drop (n + 1) (nodes_in table))) e

  pub main_later : is_main (places_in table) (node_at (nodes_in table) n) ≡ false → some_main table (drop n (nodes_in table)) ≡ some_main table (drop (n + 1) (nodes_in table))
  main_later e = ap (some_main table) cut ∙ ap (λ b. b || some_main table (drop (n + 1) (nodes_in table))) e

pub main_is : (table : List SynNode) → some_main table (nodes_in table) ≡ is_some (function_number (places_in table) (codes "main"))
unfolding places_in nodes_in
main_is table = found_in (λ (node : Node). is_function node.label.kind) (λ node. bytes_eq (function_text (places_in table) node) (codes "main")) (nodes_in table)

pub no_main_left : (table : List SynNode) (n : ℕ) → length (nodes_in table) ≤ n → some_main table (drop n (nodes_in table)) ≡ false
no_main_left table n past = ap (some_main table) (drop_all n (nodes_in table) past)

pub name_text_is : (table : List SynNode) (f : Node) → text_at (nodes_in table) (node_at (nodes_in table) (kid f 1)).first ≡ function_text (places_in table) f
unfolding places_in nodes_in
name_text_is table f = refl
