-- What names mean by what they denote.
use Rattle.std.proofs.Common.{◌≡◌, ◌≢◌, inl, inr, ◌++◌, ◌≤◌, ℕ, Bool, false, List, Option, Some, None, length, refl, sym, ap, ◌∙◌, arith}
use Rattle.std.specs.Prelude.{MatchOption, is_some, if◌then◌else◌, unwrap_or}
use Rattle.std.proofs.lemmas.Option.{slice_get_past}
use Rattle.c_syntax.specs.declared.kind.SynKind.TheVariants as kind
use Rattle.c_syntax.specs.declared.syntax.SynNode.{SynNode}
use Rattle.c_types.specs.Forms.{const}
use Rattle.c_typing.specs.Types.{CType, int, is_function}
use Rattle.c_typing.specs.Names.{Entity, Name, denoted, enumerator, function_name, typedef_name}
use Rattle.c_typing.specs.Judgements as rules
use Rattle.c_typing.specs.Judgements.{Judgement, callee, given, judgement_at, means, no_constant, type_at, verdict, waits}
use Rattle.c_typing.specs.Rules as faults
use Rattle.c_typing.specs.Expressions.{callee_of, expression, is_called, number_of_type, variable, variable_by, word_of_enumerator}
use Rattle.c_typing.specs.Typing.{judged_by}
use Rattle.c_nodes.specs.Parents.{nodes_in}
use Rattle.c_names.specs.Denoted.{places_in}
use Rattle.c_meanings.specs.declared.meanings.Meanings.{Meanings}
use Rattle.c_meanings.specs.Meanings.{IsReady, judged_at, judged_to, node_in}
use Rattle.c_expression_rows.specs.Names.{Denotes, IsUnknown, declared_type, denoted_at}

-- ---- what was judged before

pub not_before : (table : List SynNode) (n low : ℕ) (m : Meanings) (k : ℕ) → IsReady table n low m → n ≤ k → judgement_at (judged_to table n) k ≡ waits
not_before table n low m k r past =
    let long = r.long in
    let same = r.judged.long in
    ap (λ o. unwrap_or o waits) (slice_get_past (judged_to table n) k (omega (arith, long, same, past)))

pub none_seen : {X : Type 0} (o : Option X) → ((x : X) → o ≢ Some x) → o ≡ None
none_seen None other = refl
none_seen (Some x) other = absurd (other x refl)

-- one type, or else another one
pub first_type : (P : CType → Type 0) (a b : Option CType) → (t : CType) × (a ≡ Some t) × P t → (t : CType) × ((if is_some a then a else b) ≡ Some t) × P t
first_type P None b (t, e, p) = absurd (cc e)
first_type P (Some u) b (t, e, p) = (t, e, p)

pub second_type : {X : Type 0} (P : X → CType → Type 0) (a b : Option CType) (found : Option X) → a ≡ None → MatchOption found (b ≡ None) (λ x. (t : CType) × (b ≡ Some t) × P x t)
    → MatchOption found ((if is_some a then a else b) ≡ None) (λ x. (t : CType) × ((if is_some a then a else b) ≡ Some t) × P x t)
second_type P None b found none h = h
second_type P (Some u) b found none h = absurd (cc none)

-- ---- names

module _ (table : List SynNode) (n : ℕ) (is : (node_in table n).label.kind ≡ kind.Var) (own : (node_in table n).id ≡ n) where
  abbrev said : Option Name → Judgement
  said o = variable (places_in table) (judged_to table n) (node_in table n) o

  name_is : judged_at table n ≡ said (denoted_at table n)
  unfolding judged_at judged_by
  name_is =
      ap (judged_by (places_in table) (judged_to table n) (node_in table n)) is
      ∙ ap (λ i. variable (places_in table) (judged_to table n) (node_in table n) (denoted (places_in table).names i (node_in table n).label.text)) own

  pub by_entity : (e : Name) (entity : Entity) → Denotes table n e → e.entity ≡ entity → judged_at table n ≡ variable_by (places_in table) (judged_to table n) (node_in table n) e entity
  unfolding variable
  by_entity e entity denotes same = name_is ∙ ap said denotes ∙ ap (variable_by (places_in table) (judged_to table n) (node_in table n) e) same

  pub unknown_is : IsUnknown table n → judged_at table n ≡ verdict (faults.unknown_name false n) (expression (number_of_type int 0))
  unfolding variable variable_by
  unknown_is (inl none) = name_is ∙ ap said none ∙ ap (λ i. verdict (faults.unknown_name false i) (expression (number_of_type int 0))) own
  unknown_is (inr (e, denotes, same)) = by_entity e typedef_name denotes same ∙ ap (λ i. verdict (faults.unknown_name false i) (expression (number_of_type int 0))) own

  pub enumerator_is : (e : Name) (k : ℕ) → Denotes table n e → e.entity ≡ enumerator → e.node ≡ k
      → judged_at table n ≡ given (word_of_enumerator (judgement_at (judged_to table n) k)) (λ w. means (expression (number_of_type int w)))
  unfolding variable_by
  enumerator_is e k denotes same at =
      by_entity e enumerator denotes same ∙ ap (λ i. given (word_of_enumerator (judgement_at (judged_to table n) i)) (λ w. means (expression (number_of_type int w)))) at

  -- the name of a function, which is called or not
  abbrev pub function_by : rules.Callee → Bool → CType → Judgement
  function_by c b t = verdict (faults.function_as_value b n ++ faults.not_a_function (is_function t) n) (expression (record { type = t; form = callee c; code = const 0; constant = no_constant }))

  abbrev pub function_of : rules.Callee → CType → Judgement
  function_of c t = function_by c (is_called (places_in table) (length (nodes_in table)) n) t

  abbrev function_at : rules.Callee → ℕ → CType → Judgement
  function_at c i t =
      verdict (faults.function_as_value (is_called (places_in table) (length (nodes_in table)) i) i ++ faults.not_a_function (is_function t) i)
      (expression (record { type = t; form = callee c; code = const 0; constant = no_constant }))

  pub function_is : (e : Name) (owner behind : ℕ) (c : rules.Callee) → Denotes table n e → e.entity ≡ function_name → e.owner ≡ owner → e.behind ≡ behind → c ≡ callee_of (places_in table) e.text
      → judged_at table n ≡ given (declared_type table n owner behind) (function_of c)
  unfolding variable_by places_in nodes_in
  function_is e owner behind c denotes same own_owner own_behind called =
      by_entity e function_name denotes same
      ∙ ap (λ i. given (declared_type table n e.owner e.behind) (function_at (callee_of (places_in table) e.text) i)) own
      ∙ ap (λ i. given (declared_type table n i e.behind) (function_of (callee_of (places_in table) e.text))) own_owner
      ∙ ap (λ i. given (declared_type table n owner i) (function_of (callee_of (places_in table) e.text))) own_behind
      ∙ ap (λ d. given (declared_type table n owner behind) (function_of d)) (sym called)
