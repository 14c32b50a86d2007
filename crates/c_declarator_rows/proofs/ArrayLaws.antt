-- What arrays mean as parts of declarators.
use Rattle.std.proofs.Common.{◌≡◌, ◌≢◌, ℕ, Bool, true, false, ◌&&◌, not, List, [], ◌∷◌, Some, None, refl, sym, ap, ◌∙◌, subst}
use Rattle.std.specs.Prelude.{Result, Ok, Err, codes, if◌then◌else◌}
use Rattle.std.proofs.lemmas.Bool.{false≢true}
use Rattle.c_syntax.specs.declared.syntax.SynNode.{SynNode}
use Rattle.c_syntax.specs.declared.kind.SynKind.{SynKind}
use Rattle.c_syntax.specs.declared.kind.SynKind.TheVariants as kind
use Rattle.c_typing.specs.Places.{Node, has_kid, is_init, is_next_to_name, is_param, is_whole, kid, node_at, says, specs_by, specs_of, whole_declarator}
use Rattle.c_typing.specs.Judgements as rules
use Rattle.c_typing.specs.Judgements.{Fault, Judgement, PlacedStep, given, layout_in, means, of_array, of_unsized, steps, steps_at, typing_at, verdict, waits}
use Rattle.c_typing.specs.Rules.{absent_length}
use Rattle.c_typing.specs.Declarators.{absent_length_step, array_declarator, declarator, is_given_by_initializer, is_parameter_length, length_faults, length_step, with_step, word_in}
use Rattle.c_typing.specs.Typing.{judged_by}
use Rattle.c_nodes.specs.Parents.{nodes_in}
use Rattle.c_names.specs.Denoted.{places_in}
use Rattle.c_meanings.specs.Meanings.{judged_at, judged_to, kid_in, node_in}
use Rattle.c_declarator_rows.specs.declared.arrays.ArrayPlace.{ArrayPlace}
use Rattle.c_declarator_rows.specs.declared.arrays.ArrayPlace.TheVariants as place
use Rattle.c_declarator_rows.specs.Arrays.{IsPlace, counted, counted_by, may_give, place_by, uncounted, with_one}
use Rattle.c_declarator_rows.proofs.PartLaws.{part_is}
use Rattle.c_type_ids.specs.Ids.{Known}
use Rattle.c_answers.specs.declared.refusal.Refusal.{Refusal}
use Rattle.c_answers.specs.declared.refusal.Refusal.TheVariants as refusal
use Rattle.c_answers.specs.Answers.{Settles}
use Rattle.c_judgements.specs.declared.judged.Judged.{Judged}
use Rattle.c_meanings.specs.Meanings.{IsAnswered}

module _ (table : List SynNode) (n : ℕ) where
  abbrev m : Node
  m = node_in table n

  abbrev pub array_by : Bool → List PlacedStep → Judgement
  array_by b ss = if b then given (typing_at (judged_to table n) (kid_in table n 1)) (length_step (places_in table) (judged_to table n) m ss) else absent_length_step (places_in table) (judged_to table n) m ss

  pub array_is : (node_in table n).label.kind ≡ kind.ArrayOf → judged_at table n ≡ given (steps_at (judged_to table n) (kid_in table n 0)) (array_by (has_kid (node_in table n) 1))
  unfolding judged_at judged_by array_declarator
  array_is is = ap (judged_by (places_in table) (judged_to table n) (node_in table n)) is

  -- by whether it is in a parameter, and whether an initializer gives the length
  abbrev absent_by : List PlacedStep → Bool → Bool → Judgement
  absent_by ss parameter init =
      if parameter then declarator (places_in table) (judged_to table n) m (with_step ss m rules.of_parameter) else
      if init then declarator (places_in table) (judged_to table n) m (with_step ss m of_unsized)
      else verdict (absent_length m.id) (steps ss)

  pub absent_is : (ss : List PlacedStep) (a : ArrayPlace) → is_whole (nodes_in table) (node_in table n) ≡ false → IsPlace a (is_parameter_length (places_in table) (node_in table n)) (is_given_by_initializer (places_in table) (node_in table n))
      → absent_length_step (places_in table) (judged_to table n) (node_in table n) ss ≡ uncounted (node_in table n).id ss a
  unfolding absent_length_step
  absent_is ss place.OfParameter part e =
      ap (λ b. absent_by ss b (is_given_by_initializer (places_in table) (node_in table n))) e ∙ part_is table n (with_step ss (node_in table n) rules.of_parameter) part
  absent_is ss place.Initialized part (e, f) =
      ap (λ b. absent_by ss b (is_given_by_initializer (places_in table) (node_in table n))) e ∙ ap (absent_by ss false) f ∙ part_is table n (with_step ss (node_in table n) of_unsized) part
  absent_is ss place.Plain part (e, f) = ap (λ b. absent_by ss b (is_given_by_initializer (places_in table) (node_in table n))) e ∙ ap (absent_by ss false) f

  length_other : (ss : List PlacedStep) (x : rules.Typing) (fs : List Fault) → is_whole (nodes_in table) (node_in table n) ≡ false → is_parameter_length (places_in table) (node_in table n) ≡ false → length_faults x (kid_in table n 1) (node_in table n).id ≡ fs
      → length_step (places_in table) (judged_to table n) (node_in table n) ss x ≡ counted_by (node_in table n).id ss x fs
  unfolding length_step
  length_other ss x [] part e h = rw e (rw h (part_is table n (with_step ss (node_in table n) (of_array (word_in x.constant))) part))
  length_other ss x (f ∷ fs) part e h = rw e (rw h refl)

  length_parameter : (ss : List PlacedStep) (x : rules.Typing) → is_whole (nodes_in table) (node_in table n) ≡ false → is_parameter_length (places_in table) (node_in table n) ≡ true
      → length_step (places_in table) (judged_to table n) (node_in table n) ss x ≡ with_one (node_in table n).id ss rules.of_parameter
  unfolding length_step
  length_parameter ss x part e = rw e (part_is table n (with_step ss (node_in table n) rules.of_parameter) part)

  pub length_is : (ss : List PlacedStep) (x : rules.Typing) (a : ArrayPlace) → is_whole (nodes_in table) (node_in table n) ≡ false → IsPlace a (is_parameter_length (places_in table) (node_in table n)) (is_given_by_initializer (places_in table) (node_in table n))
      → length_step (places_in table) (judged_to table n) (node_in table n) ss x ≡ counted (node_in table n).id ss x (kid_in table n 1) a
  length_is ss x place.OfParameter part e = length_parameter ss x part e
  length_is ss x place.Initialized part (e, f) = length_other ss x (length_faults x (kid_in table n 1) (node_in table n).id) part e refl
  length_is ss x place.Plain part (e, f) = length_other ss x (length_faults x (kid_in table n 1) (node_in table n).id) part e refl

  pub array_waits : (node_in table n).label.kind ≡ kind.ArrayOf → steps_at (judged_to table n) (kid_in table n 0) ≡ None → judged_at table n ≡ waits
  array_waits is none = array_is is ∙ ap (λ o. given o (array_by (has_kid (node_in table n) 1))) none

  module _ (is : (node_in table n).label.kind ≡ kind.ArrayOf) (part : is_whole (nodes_in table) (node_in table n) ≡ false) (own : (node_in table n).id ≡ n) (ss : List PlacedStep) (there : steps_at (judged_to table n) (kid_in table n 0) ≡ Some ss) where
    array_has : (b : Bool) → has_kid (node_in table n) 1 ≡ b → judged_at table n ≡ array_by b ss
    array_has b e = array_is is ∙ ap (λ o. given o (array_by (has_kid (node_in table n) 1))) there ∙ ap (λ b. array_by b ss) e

    pub array_absent : (a : ArrayPlace) → has_kid (node_in table n) 1 ≡ false → IsPlace a (is_parameter_length (places_in table) (node_in table n)) (is_given_by_initializer (places_in table) (node_in table n)) → judged_at table n ≡ uncounted n ss a
    array_absent a e placed = array_has false e ∙ absent_is ss a part placed ∙ ap (λ i. uncounted i ss a) own

    pub length_waits : has_kid (node_in table n) 1 ≡ true → typing_at (judged_to table n) (kid_in table n 1) ≡ None → judged_at table n ≡ waits
    length_waits e none = array_has true e ∙ ap (λ o. given o (length_step (places_in table) (judged_to table n) m ss)) none

    pub array_counted : (x : rules.Typing) (a : ArrayPlace) → has_kid (node_in table n) 1 ≡ true → typing_at (judged_to table n) (kid_in table n 1) ≡ Some x
        → IsPlace a (is_parameter_length (places_in table) (node_in table n)) (is_given_by_initializer (places_in table) (node_in table n)) → judged_at table n ≡ counted n ss x (kid_in table n 1) a
    array_counted x a e f placed =
        array_has true e ∙ ap (λ o. given o (length_step (places_in table) (judged_to table n) m ss)) f ∙ length_is ss x a part placed ∙ ap (λ i. counted i ss x (kid_in table n 1) a) own

-- ---- where the array stands

module _ (table : List SynNode) (n : ℕ) where
  abbrev owner : Node
  owner = node_at (nodes_in table) (whole_declarator (nodes_in table) (node_in table n).first).parent

  abbrev Placed : ArrayPlace → Type 0
  Placed a = IsPlace a (is_parameter_length (places_in table) (node_in table n)) (is_given_by_initializer (places_in table) (node_in table n))

  abbrev given_by : Bool → SynKind → Bool
  given_by next k = next && is_init k && has_kid owner 1 && not (says (nodes_in table) (codes "typedef") (specs_of (nodes_in table) owner))

  parameter_is : is_parameter_length (places_in table) (node_in table n) ≡ (is_next_to_name (nodes_in table) (node_in table n) && is_param owner.label.kind)
  unfolding places_in nodes_in
  parameter_is = refl

  given_is : is_given_by_initializer (places_in table) (node_in table n) ≡ given_by (is_next_to_name (nodes_in table) (node_in table n)) owner.label.kind
  unfolding places_in nodes_in
  given_is = refl

  pub apart : is_next_to_name (nodes_in table) (node_in table n) ≡ false → Placed place.Plain
  apart e = (parameter_is ∙ ap (λ b. b && is_param owner.label.kind) e, given_is ∙ ap (λ b. given_by b owner.label.kind) e)

  -- an initializer gives the length of an array next to a name alone
  pub initialized_next : (a : ArrayPlace) → Placed a → a ≡ place.Initialized → is_next_to_name (nodes_in table) (node_in table n) ≡ true
  initialized_next a placed same = let (p, g) = subst Placed same placed in by (is_next_to_name (nodes_in table) (node_in table n)) (sym given_is ∙ g)
    where
      by : (b : Bool) → given_by b owner.label.kind ≡ true → b ≡ true
      by true e = refl
      by false e = absurd (false≢true e)

  module _ (next : is_next_to_name (nodes_in table) (node_in table n) ≡ true) where
    by_kind : (k : SynKind) → owner.label.kind ≡ k → (is_parameter_length (places_in table) (node_in table n) ≡ is_param k) × (is_given_by_initializer (places_in table) (node_in table n) ≡ given_by true k)
    by_kind k e = (
      parameter_is ∙ ap (λ b. b && is_param owner.label.kind) next ∙ ap is_param e,
      given_is ∙ ap (λ b. given_by b owner.label.kind) next ∙ ap (given_by true) e,
    )

    pub in_parameter : owner.label.kind ≡ kind.Param → Placed place.OfParameter
    in_parameter e = (by_kind kind.Param e).0

    pub in_initialized : (a : ArrayPlace) → owner.label.kind ≡ kind.InitDecl → a ≡ place_by (may_give (nodes_in table) owner) → Placed a
    in_initialized a e same = let (p, g) = by_kind kind.InitDecl e in by (may_give (nodes_in table) owner) p g same
      where
        by : (b : Bool) → is_parameter_length (places_in table) (node_in table n) ≡ false → is_given_by_initializer (places_in table) (node_in table n) ≡ b → a ≡ place_by b → Placed a
        by true p g same = subst Placed (sym same) (p, g)
        by false p g same = subst Placed (sym same) (p, g)

    pub in_other : (k : SynKind) → owner.label.kind ≡ k → k ≢ kind.Param → k ≢ kind.InitDecl → Placed place.Plain
    in_other k e a b = let (p, g) = by_kind k e in (p ∙ no_param k a, g ∙ no_init k b)
      where
        no_param : (k : SynKind) → k ≢ kind.Param → is_param k ≡ false
        no_param kind.Param a = absurd (a refl)
        no_param _ a = refl

        no_init : (k : SynKind) → k ≢ kind.InitDecl → given_by true k ≡ false
        no_init kind.InitDecl a = absurd (a refl)
        no_init _ a = refl

-- the specs of a declarator with its initializer
pub may_give_is : (s : List Node) (o : Node) → o.label.kind ≡ kind.InitDecl → (has said : Bool) → has ≡ has_kid o 1 → said ≡ says s (codes "typedef") (node_at s (kid (node_at s o.parent) 0)) → has && not said ≡ may_give s o
may_give_is s o is has said h t =
    ap (λ b. b && not said) h
    ∙ ap (λ b. has_kid o 1 && not b) (t ∙ ap (λ k. says s (codes "typedef") (node_at s (specs_by s o k))) (sym is))

-- ---- answers

pub plain_refused : (k : Known) (node : ℕ) (ss : List PlacedStep) → IsAnswered k (Err (refusal.Broken 7 node)) (uncounted node ss place.Plain)
plain_refused k node ss = ([], refl)

-- a length that is allowed, or not
module _ (k : Known) (node : ℕ) (ss : List PlacedStep) (x : rules.Typing) (length_node : ℕ) (a : ArrayPlace) (other : a ≢ place.OfParameter) where
  counted_other : counted node ss x length_node a ≡ counted_by node ss x (length_faults x length_node node)
  counted_other = by a other
    where
      by : (a : ArrayPlace) → a ≢ place.OfParameter → counted node ss x length_node a ≡ counted_by node ss x (length_faults x length_node node)
      by place.OfParameter other = absurd (other refl)
      by _ other = refl

  pub counted_ok : (w : ℕ) (answer : Result Judged Refusal) → Settles (λ v. v ≡ word_in x.constant) (Ok w) (length_faults x length_node node) → IsAnswered k answer (with_one node ss (of_array w)) → IsAnswered k answer (counted node ss x length_node a)
  counted_ok w answer (none, is) h =
      subst (IsAnswered k answer) (sym (counted_other ∙ ap (counted_by node ss x) none)) (subst (λ v. IsAnswered k answer (with_one node ss (of_array v))) is h)

  pub counted_refused : (r : Refusal) → Settles {A = ℕ} (λ v. v ≡ word_in x.constant) (Err r) (length_faults x length_node node) → IsAnswered k (Err r) (counted node ss x length_node a)
  counted_refused r first = subst (IsAnswered k (Err r)) (sym counted_other) (by (length_faults x length_node node) r first)
    where
      by : (fs : List Fault) (r : Refusal) → Settles {A = ℕ} (λ v. v ≡ word_in x.constant) (Err r) fs → IsAnswered k (Err r) (counted_by node ss x fs)
      by [] refusal.OutOfMemory h = tt
      by [] (refusal.Broken r n) (others, e) = absurd (cc e)
      by [] (refusal.TooBig n size) (others, e) = absurd (cc e)
      by (f ∷ fs) r h = h

pub counted_parameter : (node : ℕ) (ss : List PlacedStep) (x : rules.Typing) (length_node : ℕ) → counted node ss x length_node place.OfParameter ≡ with_one node ss rules.of_parameter
counted_parameter node ss x length_node = refl

-- ---- layouts

pub uncounted_layout : (node : ℕ) (ss : List PlacedStep) (a : ArrayPlace) → layout_in (uncounted node ss a) ≡ None
uncounted_layout node ss place.OfParameter = refl
uncounted_layout node ss place.Initialized = refl
uncounted_layout node ss place.Plain = refl

pub counted_layout : (node : ℕ) (ss : List PlacedStep) (x : rules.Typing) (length_node : ℕ) (a : ArrayPlace) → layout_in (counted node ss x length_node a) ≡ None
counted_layout node ss x length_node place.OfParameter = refl
counted_layout node ss x length_node place.Initialized = by (length_faults x length_node node)
  where
    by : (fs : List Fault) → layout_in (counted_by node ss x fs) ≡ None
    by [] = refl
    by (f ∷ fs) = refl
counted_layout node ss x length_node place.Plain = by (length_faults x length_node node)
  where
    by : (fs : List Fault) → layout_in (counted_by node ss x fs) ≡ None
    by [] = refl
    by (f ∷ fs) = refl
