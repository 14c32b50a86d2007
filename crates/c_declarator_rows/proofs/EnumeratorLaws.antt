-- What enumerators mean.
use Rattle.std.proofs.Common.{◌≡◌, ◌≢◌, ℕ, zero, suc, ◌+◌, ◌-◌, ◌%◌, ◌^◌, ◌<◌, ◌≤◌, Bool, true, false, ◌==◌, List, [], ◌∷◌, ◌++◌, length, Option, Some, None, refl, sym, ap, ◌∙◌, subst, arith, get_or, append_assoc}
use Rattle.std.specs.Prelude.{Result, Ok, Err, if◌then◌else◌, option_map, slice_get, unwrap_or}
use Rattle.std.specs.List.{last_or}
use Rattle.std.proofs.lemmas.List.{append-nil}
use Rattle.c_syntax.specs.declared.syntax.SynNode.{SynNode}
use Rattle.c_syntax.specs.declared.kind.SynKind.TheVariants as kind
use Rattle.c_typing.specs.Types.{int, integer}
use Rattle.c_typing.specs.Places.{has_kid, index_in, parent_of, text_at}
use Rattle.c_typing.specs.Names.{Name, earlier, name_of}
use Rattle.c_typing.specs.Judgements as rules
use Rattle.c_typing.specs.Judgements.{Fault, rule, Judgement, enumerates, given, judgement_at, layout_in, means, typing_at, verdict, waits}
use Rattle.c_typing.specs.Rules.{bad_library_name, broken_if, is_refused, no_int, not_constant, out_of_range}
use Rattle.c_typing.specs.Expressions.{word_of_enumerator}
use Rattle.c_typing.specs.Declarators.{enumerator_after, enumerator_faults, enumerator_node, enumerator_value, word_in}
use Rattle.c_typing.specs.Typing.{judged_by}
use Rattle.c_nodes.specs.Parents.{nodes_in}
use Rattle.c_names.specs.declared.names.DeclaredName.{DeclaredName}
use Rattle.c_names.specs.declared.declarations.Earlier.{Earlier}
use Rattle.c_names.specs.Denoted.{places_in}
use Rattle.c_names.specs.Names.{AreNames, rule_name}
use Rattle.c_names.specs.Earlier.{AreEarlier, IsEarlier, Sums, none_before}
use Rattle.c_type_ids.specs.Ids.{Known}
use Rattle.c_answers.specs.declared.refusal.Refusal.{Refusal}
use Rattle.c_answers.specs.declared.refusal.Refusal.TheVariants as refusal
use Rattle.c_answers.specs.Answers.{IsFirst, Settles}
use Rattle.c_judgements.specs.declared.judged.Judged.TheVariants as judged
use Rattle.c_meanings.specs.Meanings.{IsAnswered, judged_at, judged_to, kid_in, node_in}
use Rattle.c_declarator_rows.specs.Said.{as_answer}
use Rattle.c_declarator_rows.specs.Enumerators.{IsValue, enumerator_names}
use Rattle.c_declarator_rows.proofs.SpecLaws.{faults_verdict, settled, verdict_layout}

-- ---- values

-- a node that has not been judged has no value
pub word_past : (js : List Judgement) (n : ℕ) → length js ≤ n → word_of_enumerator (judgement_at js n) ≡ None
word_past [] n h = refl
word_past (j ∷ js) zero h = absurd (omega (arith, h))
word_past (j ∷ js) (suc n) h = word_past js n (omega (arith, h))

module _ (table : List SynNode) (n : ℕ) where
  abbrev pub siblings : List ℕ
  siblings = (parent_of (nodes_in table) (node_in table n).id).kids

  abbrev pub place : ℕ
  place = index_in siblings (node_in table n).id

  abbrev by_own : Bool → Judgement
  by_own b = if b then enumerator_value (places_in table) (judged_to table n) (node_in table n) else enumerator_after (places_in table) (judged_to table n) (node_in table n) siblings place

  enumerator_is : (node_in table n).label.kind ≡ kind.Enumer → judged_at table n ≡ by_own (has_kid (node_in table n) 0)
  unfolding judged_at judged_by enumerator_node places_in nodes_in
  enumerator_is is = ap (judged_by (places_in table) (judged_to table n) (node_in table n)) is

  -- with a value of its own
  abbrev own_by : Option rules.Typing → Judgement
  own_by o = given o (λ x. verdict (enumerator_names table n ++ not_constant x.constant (kid_in table n 0) ++ out_of_range x.constant ++ no_int x.type x.constant (kid_in table n 0)) (enumerates (word_in x.constant)))

  own_is : (node_in table n).label.kind ≡ kind.Enumer → has_kid (node_in table n) 0 ≡ true → judged_at table n ≡ own_by (typing_at (judged_to table n) (kid_in table n 0))
  unfolding enumerator_value
  own_is is has = enumerator_is is ∙ ap by_own has

  pub own_waits : (node_in table n).label.kind ≡ kind.Enumer → has_kid (node_in table n) 0 ≡ true → typing_at (judged_to table n) (kid_in table n 0) ≡ None → IsValue table n None
  own_waits is has none = own_is is has ∙ ap own_by none

  pub own_value : (node_in table n).label.kind ≡ kind.Enumer → has_kid (node_in table n) 0 ≡ true → (x : rules.Typing) (found : Result ℕ Refusal) → typing_at (judged_to table n) (kid_in table n 0) ≡ Some x
      → Settles (λ w. w ≡ word_in x.constant) found (not_constant x.constant (kid_in table n 0) ++ out_of_range x.constant ++ no_int x.type x.constant (kid_in table n 0)) → IsValue table n (Some found)
  own_value is has x found there h =
      let a = not_constant x.constant (kid_in table n 0) in
      let b = out_of_range x.constant in
      let c = no_int x.type x.constant (kid_in table n 0) in
      let names = enumerator_names table n in
      let same : names ++ a ++ b ++ c ≡ names ++ (a ++ b ++ c) = ap (λ fs. fs ++ c) (append_assoc names a b) ∙ append_assoc names (a ++ b) c in
      (a ++ b ++ c, word_in x.constant, own_is is has ∙ ap own_by there ∙ ap (λ fs. verdict fs (enumerates (word_in x.constant))) same, h)

  -- behind another one
  abbrev after_by : Option ℕ → Judgement
  after_by o = given o (λ w. verdict (enumerator_names table n ++ broken_if (w == 2 ^ 31 - 1) 9 (node_in table n).id) (enumerates ((w + 1) % 2 ^ 32)))

  after_zero : (i : ℕ) → i ≡ 0 → enumerator_after (places_in table) (judged_to table n) (node_in table n) siblings i ≡ verdict (enumerator_names table n) (enumerates 0)
  unfolding enumerator_after
  after_zero zero e = refl
  after_zero (suc i) e = absurd (omega (arith, e))

  after_other : (i : ℕ) → i ≢ 0 → enumerator_after (places_in table) (judged_to table n) (node_in table n) siblings i ≡ after_by (word_of_enumerator (judgement_at (judged_to table n) (unwrap_or (slice_get siblings (i - 1)) 0)))
  unfolding enumerator_after
  after_other zero e = absurd (e refl)
  after_other (suc i) e = refl

  module _ (is : (node_in table n).label.kind ≡ kind.Enumer) (has : has_kid (node_in table n) 0 ≡ false) (index : ℕ) (at : index ≡ place) where
    after_is : judged_at table n ≡ enumerator_after (places_in table) (judged_to table n) (node_in table n) siblings index
    after_is = enumerator_is is ∙ ap by_own has ∙ ap (enumerator_after (places_in table) (judged_to table n) (node_in table n) siblings) (sym at)

    pub first_value : (found : Result ℕ Refusal) → index ≡ 0 → found ≡ Ok 0 → IsValue table n (Some found)
    first_value found zero_th e = (
      [],
      0,
      after_is ∙ after_zero index zero_th ∙ ap (λ fs. verdict fs (enumerates 0)) (sym (append-nil (enumerator_names table n))),
      subst (λ f. Settles (λ v. v ≡ 0) f []) (sym e) (refl, refl),
    )

    module _ (other : index ≢ 0) (k : ℕ) (same : k ≡ unwrap_or (slice_get siblings (index - 1)) 0) where
      after_word : judged_at table n ≡ after_by (word_of_enumerator (judgement_at (judged_to table n) k))
      after_word = after_is ∙ after_other index other ∙ ap (λ i. after_by (word_of_enumerator (judgement_at (judged_to table n) i))) (sym same)

      pub next_waits : word_of_enumerator (judgement_at (judged_to table n) k) ≡ None → IsValue table n None
      next_waits none = after_word ∙ ap after_by none

      pub next_value : (node_in table n).id ≡ n → (w : ℕ) (found : Result ℕ Refusal) → word_of_enumerator (judgement_at (judged_to table n) k) ≡ Some w → Settles (λ v. v ≡ (w + 1) % 2 ^ 32) found (broken_if (w == 2 ^ 31 - 1) 9 n) → IsValue table n (Some found)
      next_value own w found there h = (broken_if (w == 2 ^ 31 - 1) 9 (node_in table n).id, (w + 1) % 2 ^ 32, after_word ∙ ap after_by there, subst (λ i. Settles (λ v. v ≡ (w + 1) % 2 ^ 32) found (broken_if (w == 2 ^ 31 - 1) 9 i)) (sym own) h)

-- ---- names

module _ (table : List SynNode) (n : ℕ) (own : (node_in table n).id ≡ n) where
  pub unnamed : (names : List (Option DeclaredName)) (x : Option DeclaredName) → AreNames table names → n < length table → x ≡ get_or names n None → ((y : DeclaredName) → x ≢ Some y) → enumerator_names table n ≡ []
  unnamed names x a within e none = ap (enumerator_faults (places_in table) (judged_to table n) (node_in table n)) (ap (name_of (places_in table)) own ∙ a.are n within ∙ ap (option_map (rule_name (nodes_in table) n)) (sym e) ∙ by x none)
    where
      by : (x : Option DeclaredName) → ((y : DeclaredName) → x ≢ Some y) → option_map (rule_name (nodes_in table) n) x ≡ None
      by None none = refl
      by (Some y) none = absurd (none y refl)

  module _ (x : DeclaredName) where
    abbrev pub its_name : Name
    its_name = rule_name (nodes_in table) n x

    pub name_here : (names : List (Option DeclaredName)) (y : Option DeclaredName) → AreNames table names → n < length table → y ≡ get_or names n None → y ≡ Some x → name_of (places_in table) n ≡ Some its_name
    name_here names y a within e f = a.are n within ∙ ap (option_map (rule_name (nodes_in table) n)) (sym e ∙ f)

    pub sums_here : (found : List Earlier) (s : Earlier) → AreEarlier table found → n < length table → s ≡ get_or found n none_before → name_of (places_in table) n ≡ Some its_name → Sums table (earlier (places_in table) its_name) s
    sums_here found s a within e here = subst (IsEarlier table (Some its_name)) (sym e) (subst (λ o. IsEarlier table o (get_or found n none_before)) here (a.are n within))

    module _ (here : name_of (places_in table) n ≡ Some its_name) (r : Bool) (told : r ≡ is_refused (places_in table) its_name (integer int) None (last_or None (earlier (places_in table) its_name))) where
      abbrev bad : List Fault
      bad = bad_library_name (text_at (nodes_in table) n) false (integer int) n

      faults_named : enumerator_names table n ≡ broken_if r 3 n ++ bad
      faults_named =
          ap (enumerator_faults (places_in table) (judged_to table n) (node_in table n)) (ap (name_of (places_in table)) own ∙ here)
          ∙ ap (λ i. broken_if (is_refused (places_in table) its_name (integer int) None (last_or None (earlier (places_in table) its_name))) 3 i ++ bad_library_name (text_at (nodes_in table) n) false (integer int) i) own
          ∙ ap (λ b. broken_if b 3 n ++ bad) (sym told)

      pub declared_twice : r ≡ true → IsFirst (refusal.Broken 3 n) (enumerator_names table n)
      declared_twice e = (bad, faults_named ∙ ap (λ b. broken_if b 3 n ++ bad) e)

      pub library_name : (b : Bool) → r ≡ false → bad_library_name (text_at (nodes_in table) n) false (integer int) n ≡ broken_if b 23 n → enumerator_names table n ≡ broken_if b 23 n
      library_name b e f = faults_named ∙ ap (λ b. broken_if b 3 n ++ bad) e ∙ f

-- ---- answers

first_more : (r : Refusal) (fs gs : List Fault) → IsFirst r fs → IsFirst r (fs ++ gs)
first_more refusal.OutOfMemory fs gs h = tt
first_more (refusal.Broken r n) fs gs (others, e) = (others ++ gs, ap (λ x. x ++ gs) e)
first_more (refusal.TooBig n size) fs gs (others, e) = (others ++ gs, ap (λ x. x ++ gs) e)

pub named_badly : (k : Known) (r : Refusal) (names fs : List Fault) (w : ℕ) → IsFirst r names → IsAnswered k (Err r) (verdict (names ++ fs) (enumerates w))
named_badly k r names fs w h = subst (IsFirst r) (sym (faults_verdict (names ++ fs) (enumerates w))) (first_more r names fs h)

pub named_well : (k : Known) (found : Result ℕ Refusal) (names fs : List Fault) (w : ℕ) → names ≡ [] → Settles (λ v. v ≡ w) found fs → IsAnswered k (as_answer judged.Enumerates found) (verdict (names ++ fs) (enumerates w))
named_well k found names fs w e h =
    subst (λ ns. IsAnswered k (as_answer judged.Enumerates found) (verdict (ns ++ fs) (enumerates w))) (sym e) (settled k (λ v. v ≡ w) judged.Enumerates found fs (enumerates w) (λ a same. (same, refl)) h)

pub value_layout : (names fs : List Fault) (w : ℕ) → layout_in (verdict (names ++ fs) (enumerates w)) ≡ None
value_layout names fs w = verdict_layout (names ++ fs) (enumerates w) refl
