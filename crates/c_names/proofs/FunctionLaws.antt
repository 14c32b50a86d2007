-- The number of a function, from node to node.
use Rattle.std.proofs.Common.{◌≡◌, ◌⊎◌, inl, inr, ℕ, zero, suc, ◌+◌, ◌<◌, ◌≤◌, Bool, true, false, cond, List, [], ◌∷◌, ◌++◌, length, replicate, take, Option, Some, None, refl, sym, ap, ◌∙◌, subst, arith, true≢false, get_or}
use Rattle.std.specs.Prelude.{slice_set, nat_lt, nat_eq, filter, not, position}
use Rattle.std.specs.List.{prefix_len}
use Rattle.std.specs.Str.{bytes_eq}
use Rattle.std.proofs.lemmas.List.{get_or-set_same, get_or-set_other, length-replicate, length-set, length_push}
use Rattle.std.proofs.lemmas.Bool.Decides.{eqb_tells}
use Rattle.std.proofs.lemmas.Slice.Eq.{bytes_eq-Decides}
use Rattle.c_syntax.specs.declared.kind.SynKind.{SynKind}
use Rattle.c_syntax.specs.declared.kind.SynKind.TheVariants as kind
use Rattle.c_syntax.specs.declared.syntax.SynNode.{SynNode}
use Rattle.c_typing.specs.Places.{Node, node_at, kind_at, text_at, kid, is_function}
use Rattle.c_typing.proofs.MadePlaced.{node_there}
use Rattle.c_typing.proofs.MadeFunctionNames.{function_name_of}
use Rattle.c_nodes.specs.Parents.{tree_in, nodes_in}
use Rattle.c_names.specs.Texts.{first_of, has_name}
use Rattle.c_names.specs.Denoted.{IsDerived, places_in}
use Rattle.c_names.specs.Functions.{AreFirsts, first_number, name_text, functions_before, number_before}
use Rattle.c_names.proofs.DeclaredLaws as declared
use Rattle.c_names.proofs.TableLaws.{one_text_in}
use Rattle.c_names.proofs.TextLaws.{take_one_more}
use Rattle.c_names.proofs.NameLaws.{filter_append}

-- ---- the first place at which a list with one item more passes

module _ {A : Type 0} (p : A → Bool) where
  abbrev fails : A → Bool
  fails x = not (p x)

  at_front : (xs : List A) (x : A) → prefix_len fails xs < length xs → prefix_len fails (xs ++ x ∷ []) ≡ prefix_len fails xs
  at_front [] x h = absurd (omega (arith, h))
  at_front (y ∷ xs) x h = by (fails y) h (at_front xs x)
    where
      by : (b : Bool) → cond b (1 + prefix_len fails xs) 0 < suc (length xs) → (prefix_len fails xs < length xs → prefix_len fails (xs ++ x ∷ []) ≡ prefix_len fails xs)
          → cond b (1 + prefix_len fails (xs ++ x ∷ [])) 0 ≡ cond b (1 + prefix_len fails xs) 0
      by true h more = ap (λ n. 1 + n) (more (omega (arith, h)))
      by false h more = refl

  at_back : (xs : List A) (x : A) → length xs ≤ prefix_len fails xs → prefix_len fails (xs ++ x ∷ []) ≡ length xs + cond (fails x) 1 0
  at_back [] x h = by (fails x)
    where
      by : (b : Bool) → cond b (1 + 0) 0 ≡ 0 + cond b 1 0
      by true = refl
      by false = refl
  at_back (y ∷ xs) x h = by (fails y) h (at_back xs x)
    where
      by : (b : Bool) → suc (length xs) ≤ cond b (1 + prefix_len fails xs) 0 → (length xs ≤ prefix_len fails xs → prefix_len fails (xs ++ x ∷ []) ≡ length xs + cond (fails x) 1 0)
          → cond b (1 + prefix_len fails (xs ++ x ∷ [])) 0 ≡ suc (length xs) + cond (fails x) 1 0
      by true h more = let m = more (omega (arith, h)) in omega (arith, m)
      by false h more = absurd (omega (arith, h))

  abbrev found : ℕ → ℕ → Option ℕ
  found l m = cond (nat_lt l m) (Some l) None

  less_so : (a b : ℕ) → nat_lt a b ≡ true → a < b
  less_so a b e = grind arith

  most_so : (a b : ℕ) → nat_lt a b ≡ false → b ≤ a
  most_so a b e = grind arith

  later : (a b c : ℕ) → nat_lt a b ≡ true → c ≡ b + 1 → nat_lt a c ≡ true
  later a b c e f = grind arith

  -- one item more that passes: the first place stays, or is the new one
  pub position_yes : (xs : List A) (x : A) → p x ≡ true → position p (xs ++ x ∷ []) ≡ first_number (position p xs) (length xs)
  position_yes xs x e = by (nat_lt (prefix_len fails xs) (length xs)) refl
    where
      long : length (xs ++ x ∷ []) ≡ length xs + 1
      long = length_push xs x

      by : (b : Bool) → nat_lt (prefix_len fails xs) (length xs) ≡ b → found (prefix_len fails (xs ++ x ∷ [])) (length (xs ++ x ∷ [])) ≡ first_number (found (prefix_len fails xs) (length xs)) (length xs)
      by true f =
          ap (λ l. found l (length (xs ++ x ∷ []))) (at_front xs x (less_so (prefix_len fails xs) (length xs) f))
          ∙ (ap (λ b. cond b (Some (prefix_len fails xs)) None) (later (prefix_len fails xs) (length xs) (length (xs ++ x ∷ [])) f long)
          ∙ sym (ap (λ b. first_number (cond b (Some (prefix_len fails xs)) None) (length xs)) f))
      by false f =
          let at = at_back xs x (most_so (prefix_len fails xs) (length xs) f) ∙ ap (λ b. length xs + cond (not b) 1 0) e in
          let same : prefix_len fails (xs ++ x ∷ []) ≡ length xs = omega (arith, at) in
          ap (λ l. found l (length (xs ++ x ∷ []))) same
          ∙ (ap (λ b. cond b (Some (length xs)) None) (last (length xs) (length (xs ++ x ∷ [])) long)
          ∙ sym (ap (λ b. first_number (cond b (Some (prefix_len fails xs)) None) (length xs)) f))
        where
          last : (a c : ℕ) → c ≡ a + 1 → nat_lt a c ≡ true
          last a c f = grind arith

  -- one that does not
  pub position_no : (xs : List A) (x : A) → p x ≡ false → position p (xs ++ x ∷ []) ≡ position p xs
  position_no xs x e = by (nat_lt (prefix_len fails xs) (length xs)) refl
    where
      long : length (xs ++ x ∷ []) ≡ length xs + 1
      long = length_push xs x

      by : (b : Bool) → nat_lt (prefix_len fails xs) (length xs) ≡ b → found (prefix_len fails (xs ++ x ∷ [])) (length (xs ++ x ∷ [])) ≡ found (prefix_len fails xs) (length xs)
      by true f =
          ap (λ l. found l (length (xs ++ x ∷ []))) (at_front xs x (less_so (prefix_len fails xs) (length xs) f))
          ∙ (ap (λ b. cond b (Some (prefix_len fails xs)) None) (later (prefix_len fails xs) (length xs) (length (xs ++ x ∷ [])) f long)
          ∙ sym (ap (λ b. cond b (Some (prefix_len fails xs)) None) f))
      by false f =
          let at = at_back xs x (most_so (prefix_len fails xs) (length xs) f) ∙ ap (λ b. length xs + cond (not b) 1 0) e in
          ap (λ b. cond b (Some (prefix_len fails (xs ++ x ∷ []))) None) (none (prefix_len fails (xs ++ x ∷ [])) (length xs) (length (xs ++ x ∷ [])) at long)
          ∙ sym (ap (λ b. cond b (Some (prefix_len fails xs)) None) f)
        where
          none : (l a c : ℕ) → l ≡ a + 1 → c ≡ a + 1 → nat_lt l c ≡ false
          none l a c f g = grind arith

-- ---- the functions of the nodes so far

abbrev is_one : Node → Bool
is_one node = is_function node.label.kind

pub more_functions : (s : List Node) (n : ℕ) → n < length s → is_function (kind_at s n) ≡ true → functions_before s (n + 1) ≡ functions_before s n ++ node_at s n ∷ []
more_functions s n within e =
    ap (filter is_one) (take_one_more s n within) ∙ (filter_append is_one (take n s) (node_at s n ∷ []) ∙ ap (λ b. functions_before s n ++ cond b (node_at s n ∷ []) []) e)

pub same_functions : (s : List Node) (n : ℕ) → n < length s → is_function (kind_at s n) ≡ false → functions_before s (n + 1) ≡ functions_before s n
same_functions s n within e =
    ap (filter is_one) (take_one_more s n within) ∙ (filter_append is_one (take n s) (node_at s n ∷ []) ∙ (ap (λ b. functions_before s n ++ cond b (node_at s n ∷ []) []) e ∙ nil_end (functions_before s n)))
  where
    nil_end : (xs : List Node) → xs ++ [] ≡ xs
    nil_end [] = refl
    nil_end (x ∷ xs) = ap (λ ys. x ∷ ys) (nil_end xs)

pub few_functions : (s : List Node) (n : ℕ) → length (functions_before s n) ≤ n
few_functions s n = by s n
  where
    by : (s : List Node) (n : ℕ) → length (filter is_one (take n s)) ≤ n
    by s zero = omega arith
    by [] (suc n) = omega arith
    by (x ∷ s) (suc n) = at (is_one x) (by s n)
      where
        at : (b : Bool) → length (filter is_one (take n s)) ≤ n → length (cond b (x ∷ filter is_one (take n s)) (filter is_one (take n s))) ≤ suc n
        at true h = omega (arith, h)
        at false h = omega (arith, h)

-- of each text, by the first node that has it
pub record AreSoFar (table : List SynNode) (n : ℕ) (firsts : List (Option ℕ)) : Type 0 where
  pub long : length firsts ≡ length table
  pub are : (text : List ℕ) (t : ℕ) → first_of (nodes_in table) text ≡ Some t → get_or firsts t None ≡ number_before (nodes_in table) n text

each_same : (o : Option ℕ) (n t : ℕ) → get_or (replicate n o) t o ≡ o
each_same o zero t = refl
each_same o (suc n) zero = refl
each_same o (suc n) (suc t) = each_same o n t

pub none_so_far : (table : List SynNode) → AreSoFar table 0 (replicate (length table) None)
none_so_far table = record { long = length-replicate (length table) None; are = λ text t is. each_same None (length table) t }

module _ (table : List SynNode) (d : IsDerived table) (n : ℕ) (within : n < length (nodes_in table)) where
  pub other_so_far : (firsts : List (Option ℕ)) → is_function (kind_at (nodes_in table) n) ≡ false → AreSoFar table n firsts → AreSoFar table (n + 1) firsts
  other_so_far firsts e a = record {
    long = a.long;
    are = λ text t is. a.are text t is ∙ sym (ap (position (λ f. bytes_eq (text_at (nodes_in table) (node_at (nodes_in table) (kid f 1)).first) text)) (same_functions (nodes_in table) n within e));
  }

  pub function_so_far : (firsts : List (Option ℕ)) (t : ℕ) → t < length table → first_of (nodes_in table) (name_text (nodes_in table) n) ≡ Some t → is_function (kind_at (nodes_in table) n) ≡ true
      → AreSoFar table n firsts → AreSoFar table (n + 1) (slice_set firsts t (first_number (get_or firsts t None) (length (functions_before (nodes_in table) n))))
  function_so_far firsts t low own e a = record { long = length-set firsts t new ∙ a.long; are = λ text u is. which text u is (eqb_tells u t) }
    where
      new : Option ℕ
      new = first_number (get_or firsts t None) (length (functions_before (nodes_in table) n))

      passes : List ℕ → Node → Bool
      passes text f = bytes_eq (text_at (nodes_in table) (node_at (nodes_in table) (kid f 1)).first) text

      whole : (text : List ℕ) → number_before (nodes_in table) (n + 1) text ≡ position (passes text) (functions_before (nodes_in table) n ++ node_at (nodes_in table) n ∷ [])
      whole text = ap (position (passes text)) (more_functions (nodes_in table) n within e)

      which : (text : List ℕ) (u : ℕ) → first_of (nodes_in table) text ≡ Some u → ((nat_eq u t ≡ true) × (u ≡ t)) ⊎ ((nat_eq u t ≡ false) × (u ≡ t → ⊥)) → get_or (slice_set firsts t new) u None ≡ number_before (nodes_in table) (n + 1) text
      which text u is (inl (f, same)) =
          let words : name_text (nodes_in table) n ≡ text = one_text_in table d (name_text (nodes_in table) n) text t own (is ∙ ap Some same) in
          ap (λ k. get_or (slice_set firsts t new) k None) same
          ∙ (get_or-set_same firsts t new None (subst (λ k. t < k) (sym a.long) low)
          ∙ (ap (λ o. first_number o (length (functions_before (nodes_in table) n))) (a.are text t (is ∙ ap Some same))
          ∙ (sym (position_yes (passes text) (functions_before (nodes_in table) n) (node_at (nodes_in table) n) ((bytes_eq-Decides (name_text (nodes_in table) n) text).1 words)) ∙ sym (whole text))))
      which text u is (inr (f, other)) =
          get_or-set_other firsts t u new None other
          ∙ (a.are text u is ∙ (sym (position_no (passes text) (functions_before (nodes_in table) n) (node_at (nodes_in table) n) (differ (bytes_eq (name_text (nodes_in table) n) text) refl)) ∙ sym (whole text)))
        where
          some_same : (a b : ℕ) → Some a ≡ Some b → a ≡ b
          some_same a b h = cc h

          differ : (b : Bool) → bytes_eq (name_text (nodes_in table) n) text ≡ b → bytes_eq (name_text (nodes_in table) n) text ≡ false
          differ false g = g
          differ true g = absurd (other (some_same u t (sym is ∙ (ap (first_of (nodes_in table)) (sym ((bytes_eq-Decides (name_text (nodes_in table) n) text).0 g)) ∙ own))))

  -- the name of a function is one
  pub named_function : is_function (kind_at (nodes_in table) n) ≡ true → has_name (kind_at (nodes_in table) (node_at (nodes_in table) (kid (node_at (nodes_in table) n) 1)).first) ≡ true
  unfolding nodes_in
  named_function e =
      let f = function_name_of d.tokens (tree_in table) d.derived n (node_at (nodes_in table) n) (declared.there d.tokens (tree_in table) d.derived n within) (function_kind (kind_at (nodes_in table) n) e) in
      let low = node_there d.tokens (tree_in table) d.derived (kid (node_at (nodes_in table) n) 1) f.low f.there in
      let ident = node_there d.tokens (tree_in table) d.derived f.low.first f.ident f.at_first in
      ap (λ (m : Node). has_name (kind_at (nodes_in table) m.first)) low ∙ (ap (λ (m : Node). has_name m.label.kind) ident ∙ ap has_name f.is_ident)
    where
      function_kind : (k : SynKind) → is_function k ≡ true → k ≡ kind.Function
      function_kind kind.Function e = refl
      function_kind _ e = absurd (true≢false (sym e))

pub all_so_far : (table : List SynNode) (n : ℕ) (firsts : List (Option ℕ)) → length (nodes_in table) ≤ n → AreSoFar table n firsts → AreFirsts table firsts
unfolding places_in nodes_in
all_so_far table n firsts most a = record { long = a.long; are = λ text t is. a.are text t is ∙ ap (λ xs. position (λ f. bytes_eq (text_at (nodes_in table) (node_at (nodes_in table) (kid f 1)).first) text) (filter is_one xs)) (take_all (nodes_in table) n most) }
  where
    take_all : (xs : List Node) (n : ℕ) → length xs ≤ n → take n xs ≡ xs
    take_all [] zero h = refl
    take_all [] (suc n) h = refl
    take_all (x ∷ xs) zero h = absurd (omega (arith, h))
    take_all (x ∷ xs) (suc n) h = ap (λ ys. x ∷ ys) (take_all xs n (omega (arith, h)))
