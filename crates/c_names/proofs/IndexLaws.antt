-- The index of a kid among all but the first.
use Rattle.std.proofs.Common.{◌≡◌, inl, inr, ℕ, suc, ◌+◌, ◌-◌, ◌<◌, Bool, true, false, cond, List, [], ◌∷◌, length, Option, Some, None, refl, sym, ap, ◌∙◌, subst, arith, unwrap_or, get_or, drop}
use Rattle.std.specs.Prelude.{slice_get, ◌==◌, find, nat_lt, not}
use Rattle.std.specs.List.{AllByRecursion, prefix_len}
use Rattle.std.specs.Option.{is_some}
use Rattle.std.proofs.Math.Seq.{drop-cons}
use Rattle.c_syntax.specs.declared.syntax.SynId.{SynId}
use Rattle.c_syntax.specs.declared.syntax.SynNode.{SynNode}
use Rattle.c_typing.specs.Places.{Node, nodes, node_at, nowhere, index_in, other_kids, numbers}
use Rattle.c_typing.proofs.MadeNodes.{In, in_at, ascending, Ascends}
use Rattle.c_nodes.specs.Parents.{tree_in, nodes_in}

equal_so : (a b : ℕ) → (a == b) ≡ true → a ≡ b
equal_so a b e = grind arith

-- an index, where it is one
abbrev value : ℕ → ℕ → ℕ
value l m = unwrap_or (cond (nat_lt l m) (Some l) None) 0

next_value : (l m : ℕ) → value l m ≡ value (suc l) (suc m) - 1
next_value l m = by (nat_lt l m) refl (same l m)
  where
    same : (l m : ℕ) → nat_lt (suc l) (suc m) ≡ nat_lt l m
    same l m = grind arith

    by : (b : Bool) → nat_lt l m ≡ b → nat_lt (suc l) (suc m) ≡ nat_lt l m → value l m ≡ value (suc l) (suc m) - 1
    by true e f = ap (λ b. unwrap_or (cond b (Some l) None) 0) e ∙ (omega arith ∙ sym (ap (λ b. unwrap_or (cond b (Some (suc l)) None) 0 - 1) (f ∙ e)))
    by false e f = ap (λ b. unwrap_or (cond b (Some l) None) 0) e ∙ sym (ap (λ b. unwrap_or (cond b (Some (suc l)) None) 0 - 1) (f ∙ e))

module _ (n : ℕ) where
  abbrev differs : ℕ → Bool
  differs m = not (m == n)

  none_at : (ks : List ℕ) → ((k : ℕ) → In k ks → k ≡ n → ⊥) → prefix_len differs ks ≡ length ks
  none_at [] h = refl
  none_at (k ∷ ks) h = by (k == n) refl (none_at ks (λ j l. h j (inr l)))
    where
      by : (b : Bool) → (k == n) ≡ b → prefix_len differs ks ≡ length ks → prefix_len differs (k ∷ ks) ≡ suc (length ks)
      by true e more = absurd (h k (inl refl) (equal_so k n e))
      by false e more = ap (λ b. cond (not b) (1 + prefix_len differs ks) 0) e ∙ omega (arith, more)

  not_less : (a b : ℕ) → a ≡ b → value a b ≡ 0
  not_less a b e = ap (λ c. unwrap_or (cond c (Some a) None) 0) (at a b e)
    where
      at : (a b : ℕ) → a ≡ b → nat_lt a b ≡ false
      at a b e = grind arith

  other_index : (k : ℕ) (ks : List ℕ) → ((j : ℕ) → In j ks → k < j) → index_in ks n ≡ index_in (k ∷ ks) n - 1
  other_index k ks above = by (k == n) refl
    where
      by : (b : Bool) → (k == n) ≡ b → value (prefix_len differs ks) (length ks) ≡ value (prefix_len differs (k ∷ ks)) (suc (length ks)) - 1
      by true e =
          let same = equal_so k n e in
          not_less (prefix_len differs ks) (length ks) (none_at ks (λ j i equal. let less = above j i in absurd (omega (arith, same, less, equal))))
          ∙ sym (ap (λ b. value (cond (not b) (1 + prefix_len differs ks) 0) (suc (length ks)) - 1) e ∙ first (length ks))
        where
          first : (m : ℕ) → value 0 (suc m) - 1 ≡ 0
          first m = ap (λ b. unwrap_or (cond b (Some 0) None) 0 - 1) (less m)
            where
              less : (m : ℕ) → nat_lt 0 (suc m) ≡ true
              less m = grind arith
      by false e = next_value (prefix_len differs ks) (length ks) ∙ (ap (λ l. value l (suc (length ks)) - 1) {x = suc (prefix_len differs ks)} {y = 1 + prefix_len differs ks} (omega arith) ∙ sym (ap (λ b. value (cond (not b) (1 + prefix_len differs ks) 0) (suc (length ks)) - 1) e))

all_in : {A : Type 0} (P : A → Type 0) (xs : List A) → AllByRecursion P xs → (x : A) → In x xs → P x
all_in P [] h x i = absurd i
all_in P (y ∷ xs) h x (inl e) = subst P e h.0
all_in P (y ∷ xs) h x (inr i) = all_in P xs h.1 x i

pub other_kid : (table : List SynNode) (p n : ℕ) → index_in (other_kids (node_at (nodes_in table) p)) n ≡ index_in (node_at (nodes_in table) p).kids n - 1
unfolding nodes_in
other_kid table p n = by (slice_get (nodes (tree_in table)) p) refl
  where
    kids : (ks : List ℕ) → Ascends ks → index_in (drop 1 ks) n ≡ index_in ks n - 1
    kids [] a = refl
    kids (k ∷ ks) a = other_index n k ks (all_in (λ i. k < i) ks a.0)

    by : (o : Option Node) → slice_get (nodes (tree_in table)) p ≡ o → index_in (other_kids (unwrap_or o nowhere)) n ≡ index_in (unwrap_or o nowhere).kids n - 1
    by None e = refl
    by (Some m) e = kids m.kids (ascending (tree_in table) m (in_at m (nodes (tree_in table)) p e))

-- ---- a kid that passes a test

module _ (test : ℕ → Bool) where
  abbrev pub any_of : List SynId → Bool
  any_of ids = is_some (find test (numbers ids))

  pub any_here : (ids : List SynId) (i : ℕ) (d : SynId) → i < length ids → test (get_or ids i d).number ≡ true → any_of (drop i ids) ≡ true
  any_here ids i d within e = ap any_of (drop-cons ids i d within) ∙ ap (λ b. is_some (cond b (Some (get_or ids i d).number) (find test (numbers (drop (suc i) ids))))) e

  pub any_later : (ids : List SynId) (i : ℕ) (d : SynId) → i < length ids → test (get_or ids i d).number ≡ false → any_of (drop (i + 1) ids) ≡ any_of (drop i ids)
  any_later ids i d within e =
      ap (λ j. any_of (drop j ids)) {x = i + 1} {y = suc i} (omega arith)
      ∙ sym (ap any_of (drop-cons ids i d within) ∙ ap (λ b. is_some (cond b (Some (get_or ids i d).number) (find test (numbers (drop (suc i) ids))))) e)
