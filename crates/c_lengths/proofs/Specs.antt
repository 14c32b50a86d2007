-- What specs and their words say is a type, and nothing else that has one.
use Rattle.std.proofs.Common.{◌≡◌, ◌||◌, Bool, true, false, List, [], ◌∷◌, ◌++◌, map, Option, Some, None, refl, sym, ap, ◌∙◌}
use Rattle.std.specs.Prelude.{unwrap_or, if◌then◌else◌, filter}
use Rattle.std.proofs.lemmas.Bool.{false≢true}
use Rattle.c_syntax.specs.declared.kind.SynKind.{SynKind}
use Rattle.c_syntax.specs.declared.kind.SynKind.TheVariants as kind
use Rattle.c_grammar.specs.Vocabulary.{is_type_word, is_storage_word}
use Rattle.c_typing.specs.Types.{CType, integer, int, struct}
use Rattle.c_typing.specs.Places.{Node, has_kid, kind_at, text_at, is_word}
use Rattle.c_typing.specs.Names.{Places, Name, is_typedef, denoted, tag_of}
use Rattle.c_typing.specs.Judgements.{Fault, rule, Meaning, itself, a_type, a_struct, Judgement, means, breaks_rules, waits, verdict, besides, given, all_of, judgement_at, type_of}
use Rattle.c_typing.specs.Rules.{bad_type_words, bad_storage_class, unknown_name}
use Rattle.c_typing.specs.Expressions.{type_of_name, word_of_enumerator}
use Rattle.c_typing.specs.Declarators.{typedef_type, spec_word, spec_meaning, is_storage, place_of_specs, specs, members_of, struct_body, struct_specifier, tag_faults, member_faults, is_known_enum, enum_specifier}
use Rattle.c_typing.specs.Typing.{judged_by}

-- where it has a type, it is one
pub record OnlyType (j : Judgement) : Type 0 where
  pub is : (t : CType) → type_of j ≡ Some t → j ≡ means (a_type t)

some_same : {t u : CType} → Some t ≡ Some u → t ≡ u
some_same e = cc e

untyped : (j : Judgement) → type_of j ≡ None → OnlyType j
untyped j none = record { is = λ t e. absurd (apart (sym none ∙ e)) }
  where
    apart : {t : CType} → None ≡ Some t → ⊥
    apart e = cc e

typed : (t : CType) → OnlyType (means (a_type t))
typed t = record { is = λ u e. ap (λ x. means (a_type x)) (some_same e) }

of_verdict : (fs : List Fault) (m : Meaning) → OnlyType (means m) → OnlyType (verdict fs m)
of_verdict [] m h = h
of_verdict (f ∷ fs) m h = untyped (breaks_rules f fs) refl

of_besides : (fs : List Fault) (j : Judgement) → OnlyType j → OnlyType (besides fs j)
of_besides [] j h = h
of_besides (f ∷ fs) (means m) h = untyped (breaks_rules f fs) refl
of_besides (f ∷ fs) (breaks_rules g gs) h = untyped (breaks_rules f (fs ++ g ∷ gs)) refl
of_besides (f ∷ fs) waits h = untyped (breaks_rules f fs) refl

of_given : {A : Type 0} (o : Option A) (f : A → Judgement) → ((a : A) → OnlyType (f a)) → OnlyType (given o f)
of_given {A = A} None f h = untyped waits refl
of_given {A = A} (Some a) f h = h a

of_choice : (b : Bool) (x y : Judgement) → OnlyType x → OnlyType y → OnlyType (if b then x else y)
of_choice true x y h k = h
of_choice false x y h k = k

-- the kinds of specs and of what stands among them
abbrev pub says_type : SynKind → Bool
says_type kind.Specs = true
says_type kind.Word = true
says_type kind.StructSpec = true
says_type kind.EnumSpec = true
says_type k = false

module _ (p : Places) (js : List Judgement) (node : Node) where
  word_only : OnlyType (judged_by p js node kind.Word)
  unfolding judged_by spec_word typedef_type
  word_only = of_choice (is_storage_word node.label.text || is_type_word node.label.text) _ _ (untyped (means itself) refl) (by (denoted p.names node.id node.label.text))
    where
      named : (e : Name) (b : Bool) → OnlyType (if b then given (type_of_name js e) (λ t. means (a_type t)) else verdict (bad_type_words None node.id) itself)
      named e true = of_given (type_of_name js e) (λ t. means (a_type t)) (λ t. typed t)
      named e false = untyped (breaks_rules (rule 1 node.id) []) refl

      by : (o : Option Name) → OnlyType (typedef_type js node o)
      by None = untyped (breaks_rules (rule 1 node.id) []) refl
      by (Some e) = named e (is_typedef e.entity)

  struct_only : OnlyType (judged_by p js node kind.StructSpec)
  unfolding judged_by struct_specifier struct_body
  struct_only =
      of_choice (has_kid node 0) _ _
      (of_besides (tag_faults p node (tag_of p node.id) ++ member_faults [] (map (λ part. unwrap_or part []) (map (λ n. members_of (judgement_at js n)) node.kids)) node.kids) _
      (of_given (all_of (map (λ n. members_of (judgement_at js n)) node.kids)) _ (λ fields. of_verdict _ _ (untyped (means (a_struct _)) refl))))
      (of_verdict (tag_faults p node (tag_of p node.id)) _ (typed (struct _)))

  enum_only : OnlyType (judged_by p js node kind.EnumSpec)
  unfolding judged_by enum_specifier
  enum_only =
      of_besides (unknown_name (is_known_enum node (tag_of p node.id)) node.id ++ tag_faults p node (tag_of p node.id)) _
      (of_given (all_of (map (λ n. word_of_enumerator (judgement_at js n)) node.kids)) _ (λ values. typed (integer int)))

  specs_only : OnlyType (judged_by p js node kind.Specs)
  unfolding judged_by specs
  specs_only =
      of_besides (bad_storage_class (place_of_specs p node) (filter is_storage (map (text_at p.nodes) (filter (λ n. is_word (kind_at p.nodes n)) node.kids))) node.id) _
      (of_given (all_of (map (λ n. spec_meaning (judgement_at js n)) node.kids)) _ (λ types. of_verdict _ _ (typed _)))

  pub type_only : (k : SynKind) → says_type k ≡ true → OnlyType (judged_by p js node k)
  type_only kind.Specs e = specs_only
  type_only kind.Word e = word_only
  type_only kind.StructSpec e = struct_only
  type_only kind.EnumSpec e = enum_only
  type_only k e = absurd (false≢true e)
