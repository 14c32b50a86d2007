-- The first node with a name, of one node more.
use Rattle.std.proofs.Common.{◌≡◌, ℕ, zero, suc, ◌+◌, ◌<◌, Bool, true, false, ◌&&◌, cond, List, [], ◌∷◌, ◌++◌, length, take, Option, Some, None, refl, sym, ap, ◌∙◌, arith, true≢false, Bor}
use Rattle.std.specs.Prelude.{find, option_map, if◌then◌else◌}
use Rattle.std.specs.Str.{bytes_eq}
use Rattle.std.proofs.lemmas.Map.Text.{hash_map_updates_str}
use Rattle.std.proofs.lemmas.Slice.Eq.{bytes_eq-Decides}
use Rattle.indexmap.specs.IndexMap.{IndexMap, UpdatesBy, get_by}
use Rattle.c_typing.specs.Places.{Node, node_at, kind_at, text_at}
use Rattle.c_names.specs.Texts.{has_name, is_named, first_of, IsFirst, Says}

-- the nodes up to this one, it included
take_more : (s : List Node) (n : ℕ) → n < length s → take (suc n) s ≡ take n s ++ node_at s n ∷ []
take_more [] n h = absurd (omega (arith, h))
take_more (m ∷ s) zero h = refl
take_more (m ∷ s) (suc n) h = ap (λ rest. m ∷ rest) (take_more s n (omega (arith, h)))

pub take_one_more : (s : List Node) (n : ℕ) → n < length s → take (n + 1) s ≡ take n s ++ node_at s n ∷ []
take_one_more s n h = ap (λ k. take k s) {x = n + 1} {y = suc n} (omega arith) ∙ take_more s n h

or_else : Option ℕ → Option ℕ → Option ℕ
or_else None b = b
or_else (Some a) b = Some a

module _ (text : List ℕ) where
  first_append : (xs : List Node) (m : Node) → is_named text m ≡ false → first_of (xs ++ m ∷ []) text ≡ first_of xs text
  first_append [] m e = ap (λ b. option_map (λ (node : Node). node.id) (cond b (Some m) None)) e
  first_append (x ∷ xs) m e = by (is_named text x) (first_append xs m e)
    where
      by : (b : Bool) → first_of (xs ++ m ∷ []) text ≡ first_of xs text → option_map (λ (node : Node). node.id) (cond b (Some x) (find (is_named text) (xs ++ m ∷ []))) ≡ option_map (λ (node : Node). node.id) (cond b (Some x) (find (is_named text) xs))
      by true more = refl
      by false more = more

  first_there : (xs : List Node) (m : Node) (k : ℕ) → first_of xs text ≡ Some k → first_of (xs ++ m ∷ []) text ≡ Some k
  first_there [] m k e = absurd (cc e)
  first_there (x ∷ xs) m k e = by (is_named text x) e (first_there xs m k)
    where
      by : (b : Bool) → option_map (λ (node : Node). node.id) (cond b (Some x) (find (is_named text) xs)) ≡ Some k → (first_of xs text ≡ Some k → first_of (xs ++ m ∷ []) text ≡ Some k)
          → option_map (λ (node : Node). node.id) (cond b (Some x) (find (is_named text) (xs ++ m ∷ []))) ≡ Some k
      by true h more = h
      by false h more = more h

  first_new : (xs : List Node) (m : Node) → first_of xs text ≡ None → is_named text m ≡ true → first_of (xs ++ m ∷ []) text ≡ Some m.id
  first_new [] m e h = ap (λ b. option_map (λ (node : Node). node.id) (cond b (Some m) None)) h
  first_new (x ∷ xs) m e h = by (is_named text x) e (λ g. first_new xs m g h)
    where
      by : (b : Bool) → option_map (λ (node : Node). node.id) (cond b (Some x) (find (is_named text) xs)) ≡ None → (first_of xs text ≡ None → first_of (xs ++ m ∷ []) text ≡ Some m.id)
          → option_map (λ (node : Node). node.id) (cond b (Some x) (find (is_named text) (xs ++ m ∷ []))) ≡ Some m.id
      by true g more = absurd (cc g)
      by false g more = more g

  -- what some nodes say, all say
  pub first_take : (s : List Node) (n k : ℕ) → first_of (take n s) text ≡ Some k → first_of s text ≡ Some k
  first_take s zero k e = absurd (cc e)
  first_take [] (suc n) k e = absurd (cc e)
  first_take (x ∷ s) (suc n) k e = by (is_named text x) e (first_take s n k)
    where
      by : (b : Bool) → option_map (λ (node : Node). node.id) (cond b (Some x) (find (is_named text) (take n s))) ≡ Some k → (first_of (take n s) text ≡ Some k → first_of s text ≡ Some k)
          → option_map (λ (node : Node). node.id) (cond b (Some x) (find (is_named text) s)) ≡ Some k
      by true h more = h
      by false h more = more h

same_text : (text : List ℕ) → bytes_eq text text ≡ true
same_text text = (bytes_eq-Decides text text).1 refl

module _ {S : Type 0} (map : IndexMap (Bor (List ℕ)) ℕ S) (s : List Node) (n : ℕ) (within : n < length s) (says : Says map (take n s)) where
  -- a node that has no name
  pub says_other : has_name (kind_at s n) ≡ false → Says map (take (n + 1) s)
  says_other e text = says text ∙ sym (ap (λ xs. first_of xs text) (take_one_more s n within) ∙ first_append text (take n s) (node_at s n) (ap (λ b. b && bytes_eq (text_at s n) text) e))

  pub first_other : has_name (kind_at s n) ≡ false → (k : ℕ) → IsFirst s n k
  first_other e k h = absurd (true≢false (sym h ∙ e))

  -- one whose name is there
  module _ (k : ℕ) (there : get_by (λ key. bytes_eq (text_at s n) key.now) map ≡ Some k) where
    pub says_again : has_name (kind_at s n) ≡ true → Says map (take (n + 1) s)
    says_again e text = says text ∙ (by (is_named text (node_at s n)) refl ∙ ap (λ xs. first_of xs text) (sym (take_one_more s n within)))
      where
        by : (b : Bool) → is_named text (node_at s n) ≡ b → first_of (take n s) text ≡ first_of (take n s ++ node_at s n ∷ []) text
        by false g = sym (first_append text (take n s) (node_at s n) g)
        by true g =
            let same : text_at s n ≡ text = (bytes_eq-Decides (text_at s n) text).0 (sym (ap (λ b. b && bytes_eq (text_at s n) text) e) ∙ g) in
            let is : first_of (take n s) text ≡ Some k = ap (first_of (take n s)) (sym same) ∙ (sym (says (text_at s n)) ∙ there) in
            is ∙ sym (first_there text (take n s) (node_at s n) k is)

    pub first_again : IsFirst s n k
    first_again h = ap (λ xs. first_of xs (text_at s n)) (take_one_more s n within) ∙ first_there (text_at s n) (take n s) (node_at s n) k (sym (says (text_at s n)) ∙ there)

  -- one whose name is new
  module _ (number : (node_at s n).id ≡ n) (e : has_name (kind_at s n) ≡ true) (none : get_by (λ key. bytes_eq (text_at s n) key.now) map ≡ None) where
    named : is_named (text_at s n) (node_at s n) ≡ true
    named = ap (λ b. b && bytes_eq (text_at s n) (text_at s n)) e ∙ same_text (text_at s n)

    is_new : first_of (take (n + 1) s) (text_at s n) ≡ Some n
    is_new = ap (λ xs. first_of xs (text_at s n)) (take_one_more s n within) ∙ (first_new (text_at s n) (take n s) (node_at s n) (sym (says (text_at s n)) ∙ none) named ∙ ap Some number)

    pub first_is_new : IsFirst s n n
    first_is_new h = is_new

    pub says_new : (new : IndexMap (Bor (List ℕ)) ℕ S) → UpdatesBy (λ x y. bytes_eq x.now y.now) (λ key. bytes_eq (text_at s n) key.now) map new (Some n) → Says new (take (n + 1) s)
    says_new new updates text = hash_map_updates_str (text_at s n) map new (Some n) updates text ∙ by (bytes_eq (text_at s n) text) refl
      where
        by : (b : Bool) → bytes_eq (text_at s n) text ≡ b → (if bytes_eq (text_at s n) text then Some n else get_by (λ key. bytes_eq text key.now) map) ≡ first_of (take (n + 1) s) text
        by true g =
            ap (λ b. if b then Some n else get_by (λ key. bytes_eq text key.now) map) g
            ∙ (sym is_new ∙ ap (first_of (take (n + 1) s)) ((bytes_eq-Decides (text_at s n) text).0 g))
        by false g =
            ap (λ b. if b then Some n else get_by (λ key. bytes_eq text key.now) map) g
            ∙ (says text ∙ sym (ap (λ xs. first_of xs text) (take_one_more s n within) ∙ first_append text (take n s) (node_at s n) (ap (λ b. b && bytes_eq (text_at s n) text) e ∙ g)))
