-- What enums and structs without a body mean, by their tags.
use Rattle.std.proofs.Common.{◌≡◌, ℕ, ◌<◌, length, get_or, Bool, true, false, List, [], ◌∷◌, ◌++◌, Option, Some, None, refl, sym, ap, ◌∙◌, subst}
use Rattle.std.specs.Prelude.{IfOk, Result, Ok, Err, if◌then◌else◌, map, option_map}
use Rattle.std.specs.Option.{is_some}
use Rattle.std.proofs.lemmas.Bool.{false≢true}
use Rattle.c_syntax.specs.declared.syntax.SynNode.{SynNode}
use Rattle.c_syntax.specs.declared.kind.SynKind.TheVariants as kind
use Rattle.c_types.specs.declared.kind.TypeId.{TypeId}
use Rattle.c_typing.specs.Types.{CType, int, integer, struct}
use Rattle.c_typing.specs.Places.{has_kid}
use Rattle.c_typing.specs.Names.{Tag, tag_of}
use Rattle.c_typing.specs.Judgements.{Fault, rule, Judgement, a_type, all_of, besides, given, judgement_at, layout_in, means, verdict}
use Rattle.c_typing.specs.Rules.{stands_twice, unknown_name}
use Rattle.c_typing.specs.Expressions.{word_of_enumerator}
use Rattle.c_typing.specs.Declarators.{enum_specifier, is_known_enum, struct_body, struct_specifier, tag_faults, tag_names}
use Rattle.c_typing.specs.Typing.{judged_by}
use Rattle.c_names.specs.Denoted.{places_in}
use Rattle.c_type_ids.specs.Ids.{Known, Names}
use Rattle.c_answers.specs.declared.refusal.Refusal.TheVariants as refusal
use Rattle.c_judgements.specs.declared.judged.Judged.TheVariants as judged
use Rattle.c_meanings.specs.Meanings.{IsAnswered, judged_at, judged_to, node_in}
use Rattle.c_tags.specs.declared.tag.Tag.{Tag as Told}
use Rattle.c_tags.specs.Tags.{AreTags, told}
use Rattle.c_declarator_rows.specs.Tagged.{as_made}
use Rattle.c_declarator_rows.proofs.SpecLaws.{besides_broken, besides_layout, besides_none, given_layout, given_some, given_waits, verdict_layout}

pub made_answered : {E : Type 0} (k : Known) (found : Result TypeId E) (t : CType) → IfOk found (λ id. Names k id t) → IsAnswered k (as_made found) (means (a_type t))
made_answered k (Ok id) t h = (refl, h, refl)
made_answered k (Err e) t h = tt

pub some_or : {A : Type 0} (o : Option A) → is_some o ≡ true → (a : A) × (o ≡ Some a)
some_or (Some a) e = (a, refl)
some_or None e = absurd (false≢true e)

pub none_or : {A : Type 0} (o : Option A) → is_some o ≡ false → o ≡ None
none_or None e = refl
none_or (Some a) e = absurd (false≢true (sym e))

module _ (table : List SynNode) (n : ℕ) where
  abbrev pub its_tag : Option Tag
  its_tag = tag_of (places_in table) (node_in table n).id

  abbrev pub its_twice : List Fault
  its_twice = tag_faults (places_in table) (node_in table n) its_tag

  abbrev pub its_values : Option (List ℕ)
  its_values = all_of (map (λ i. word_of_enumerator (judgement_at (judged_to table n) i)) (node_in table n).kids)

  abbrev pub enum_by : Bool → Judgement
  enum_by known = besides (unknown_name known (node_in table n).id ++ its_twice) (given its_values (λ values. means (a_type (integer int))))

  enum_is : (node_in table n).label.kind ≡ kind.EnumSpec → judged_at table n ≡ enum_by (is_known_enum (node_in table n) its_tag)
  unfolding judged_at judged_by enum_specifier
  enum_is is = ap (judged_by (places_in table) (judged_to table n) (node_in table n)) is

  pub enum_told : (b : Bool) → (node_in table n).label.kind ≡ kind.EnumSpec → b ≡ is_known_enum (node_in table n) its_tag → judged_at table n ≡ enum_by b
  enum_told b is told = enum_is is ∙ ap enum_by (sym told)

  pub enum_layout : (b : Bool) → layout_in (enum_by b) ≡ None
  enum_layout b = besides_layout (unknown_name b (node_in table n).id ++ its_twice) (given its_values (λ values. means (a_type (integer int)))) (given_layout its_values (λ values. means (a_type (integer int))) (λ values. refl))

  module _ (k : Known) (own : (node_in table n).id ≡ n) where
    pub enum_unknown : IsAnswered k (Err (refusal.Broken 4 n)) (enum_by false)
    enum_unknown = besides_broken k 4 n (unknown_name false (node_in table n).id ++ its_twice) its_twice (given its_values (λ values. means (a_type (integer int)))) (ap (λ i. rule 4 i ∷ its_twice) own)

    pub enum_twice : its_twice ≡ stands_twice true (node_in table n).id → IsAnswered k (Err (refusal.Broken 3 n)) (enum_by true)
    enum_twice e = besides_broken k 3 n its_twice [] (given its_values (λ values. means (a_type (integer int)))) (e ∙ ap (λ i. rule 3 i ∷ []) own)

    pub enum_waits : its_twice ≡ [] → its_values ≡ None → IsAnswered k (Ok judged.Waits) (enum_by true)
    enum_waits e none = besides_none k (Ok judged.Waits) its_twice (given its_values (λ values. means (a_type (integer int)))) e (given_waits k its_values (λ values. means (a_type (integer int))) none)

    pub enum_made : {E : Type 0} (found : Result TypeId E) (values : List ℕ) → its_twice ≡ [] → its_values ≡ Some values → IfOk found (λ id. Names k id (integer int)) → IsAnswered k (as_made found) (enum_by true)
    enum_made found values e there named =
        besides_none k (as_made found) its_twice (given its_values (λ values. means (a_type (integer int)))) e
        (given_some k (as_made found) its_values values (λ values. means (a_type (integer int))) there (made_answered k found (integer int) named))

  -- ---- a struct without a body

  abbrev pub reference : List Fault → Judgement
  reference fs = verdict fs (a_type (struct (tag_names (node_in table n) its_tag)))

  pub reference_is : (node_in table n).label.kind ≡ kind.StructSpec → has_kid (node_in table n) 0 ≡ false → judged_at table n ≡ reference its_twice
  unfolding judged_at judged_by struct_specifier
  reference_is is bodiless =
      ap (judged_by (places_in table) (judged_to table n) (node_in table n)) is
      ∙ ap (λ b. if b then struct_body (places_in table) (judged_to table n) (node_in table n) else reference its_twice) bodiless

  pub reference_layout : (fs : List Fault) → layout_in (reference fs) ≡ None
  reference_layout fs = verdict_layout fs (a_type (struct (tag_names (node_in table n) its_tag))) refl

  module _ (k : Known) (own : (node_in table n).id ≡ n) where
    pub reference_twice : its_twice ≡ stands_twice true (node_in table n).id → IsAnswered k (Err (refusal.Broken 3 n)) (reference its_twice)
    reference_twice e = subst (λ fs. IsAnswered k (Err (refusal.Broken 3 n)) (reference fs)) (sym (e ∙ ap (λ i. rule 3 i ∷ []) own)) ([], refl)

    pub reference_made : {E : Type 0} (found : Result TypeId E) → its_twice ≡ [] → IfOk found (λ id. Names k id (struct (tag_names (node_in table n) its_tag))) → IsAnswered k (as_made found) (reference its_twice)
    reference_made found e named = subst (λ fs. IsAnswered k (as_made found) (reference fs)) (sym e) (made_answered k found (struct (tag_names (node_in table n) its_tag)) named)

-- what is told of the tag of the node
pub tag_told : (table : List SynNode) (n : ℕ) (tags : List (Option Told)) (x : Option Told) → (node_in table n).id ≡ n → AreTags table tags → n < length table → x ≡ get_or tags n None → x ≡ option_map (told (places_in table)) (its_tag table n)
tag_told table n tags x own a within e = e ∙ a.are n within ∙ ap (λ i. option_map (told (places_in table)) (tag_of (places_in table) i)) (sym own)
