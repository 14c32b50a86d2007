-- What `return` means, by the type of the function around it.
use Rattle.std.proofs.Common.{◌≡◌, ◌≢◌, ◌<◌, ℕ, true, false, List, [], ◌∷◌, Option, Some, None, get_or, length, map, refl, sym, ap, ◌∙◌, subst, arith, true≢false}
use Rattle.std.specs.Prelude.{MatchOption, Result, Ok, Err, filter, find, unwrap_or, if◌then◌else◌}
use Rattle.c_syntax.specs.declared.kind.SynKind.TheVariants as kind
use Rattle.c_syntax.specs.declared.syntax.SynNode.{SynNode}
use Rattle.c_types.specs.declared.tree.Stmt.{Stmt}
use Rattle.c_types.specs.Forms.{return_with}
use Rattle.c_typing.specs.Types.{CType, pointer, unsized}
use Rattle.c_typing.specs.Places.{Node, has_kid, holds, is_function, kid, nowhere}
use Rattle.c_typing.specs.Names.{function_around}
use Rattle.c_typing.specs.Judgements as rules
use Rattle.c_typing.specs.Judgements.{Fault, Judgement, Meaning, faults_in, given, judgement_at, means, performs, breaks_rules, verdict, type_at, type_of, typing_at, waits}
use Rattle.c_typing.specs.Conversions.{converted_to, value_of}
use Rattle.c_typing.specs.Rules.{bad_return}
use Rattle.c_typing.specs.Statements.{does, result_type_of, return_by, return_faults, return_statement}
use Rattle.c_typing.specs.Typing.{judged_by, judgements_at}
use Rattle.c_typing.specs.ShapesOfNodes.{category_at}
use Rattle.c_typing.specs.Shapes.{category_by}
use Rattle.c_typing.proofs.ProgressAround.{IsAround, around_statement, is_body}
use Rattle.c_typing.proofs.ProgressPlaces.{are_linked}
use Rattle.c_nodes.specs.Parents.{nodes_in, tree_in}
use Rattle.c_nodes.specs.Declarators.{Points}
use Rattle.c_names.specs.Denoted.{IsDerived, places_in}
use Rattle.c_locals.specs.Locals.{AreOwners}
use Rattle.c_types.specs.declared.kind.TypeId.{TypeId}
use Rattle.c_type_ids.specs.Ids.{Grows, Known, Names}
use Rattle.c_values.specs.declared.typings.«Type».{«Type» as TypeForm}
use Rattle.c_values.specs.declared.typings.«Type».TheVariants as type
use Rattle.c_values.specs.Typings.{IsType}
use Rattle.c_answers.specs.declared.refusal.Refusal.{Refusal}
use Rattle.c_answers.specs.Answers.{Settles}
use Rattle.c_judgements.specs.declared.judged.Judged.{Judged}
use Rattle.c_meanings.specs.declared.meanings.Meanings.{Meanings}
use Rattle.c_meanings.specs.Meanings.{AreLeft, IsAnswered, IsReady, IsRow, judged_at, judged_to, kid_in, node_in, slots_of}
use Rattle.c_meanings.proofs.MeaningLaws.{grown_row, is_struct_answer}
use Rattle.c_meanings.proofs.KidLaws.{node_there}
use Rattle.c_lengths.specs.Lengths.{lacks_length}
use Rattle.c_lengths.proofs.Objects.{around_fine}
use Rattle.c_lengths.proofs.Prefixes.{type_before}
use Rattle.c_statement_rows.specs.Returns.{as_performed, id_alone}

module _ (table : List SynNode) (n : ℕ) (is : (node_in table n).label.kind ≡ kind.Return) (own : (node_in table n).id ≡ n) where
  abbrev pub its_function : ℕ
  its_function = kid (function_around (places_in table) n) 1

  abbrev pub declared : Option CType
  declared = type_at (judged_to table n) its_function

  pub return_is : judged_at table n ≡ given declared (λ t. return_by (judged_to table n) (node_in table n) (result_type_of t))
  unfolding judged_at judged_by return_statement
  return_is =
      ap (judged_by (places_in table) (judged_to table n) (node_in table n)) is
      ∙ ap (λ i. given (type_at (judged_to table n) (kid (function_around (places_in table) i) 1)) (λ t. return_by (judged_to table n) (node_in table n) (result_type_of t))) own

  pub waits_for_type : declared ≡ None → judged_at table n ≡ waits
  waits_for_type none = return_is ∙ ap (λ o. given o (λ t. return_by (judged_to table n) (node_in table n) (result_type_of t))) none

  pub returned : (t : CType) → declared ≡ Some t → judged_at table n ≡ return_by (judged_to table n) (node_in table n) (result_type_of t)
  returned t e = return_is ∙ ap (λ o. given o (λ t. return_by (judged_to table n) (node_in table n) (result_type_of t))) e

  pub returns_nothing : (t : CType) → declared ≡ Some t → has_kid (node_in table n) 0 ≡ false → judged_at table n ≡ verdict (bad_return false (result_type_of t) n) (does (return_with None))
  unfolding return_by
  returns_nothing t e none =
      returned t e
      ∙ ap (λ b. if b then given (typing_at (judged_to table n) (kid_in table n 0)) (λ x. verdict (return_faults (result_type_of t) (value_of x) (node_in table n)) (does (return_with (Some (converted_to (result_type_of t) (value_of x)))))) else verdict (bad_return false (result_type_of t) (node_in table n).id) (does (return_with None))) none
      ∙ ap (λ i. verdict (bad_return false (result_type_of t) i) (does (return_with None))) own

  with_value : (t : CType) → declared ≡ Some t → has_kid (node_in table n) 0 ≡ true → judged_at table n ≡ given (typing_at (judged_to table n) (kid_in table n 0)) (λ x. verdict (return_faults (result_type_of t) (value_of x) (node_in table n)) (does (return_with (Some (converted_to (result_type_of t) (value_of x))))))
  unfolding return_by
  with_value t e there =
      returned t e
      ∙ ap (λ b. if b then given (typing_at (judged_to table n) (kid_in table n 0)) (λ x. verdict (return_faults (result_type_of t) (value_of x) (node_in table n)) (does (return_with (Some (converted_to (result_type_of t) (value_of x)))))) else verdict (bad_return false (result_type_of t) (node_in table n).id) (does (return_with None))) there

  pub waits_for_value : (t : CType) → declared ≡ Some t → has_kid (node_in table n) 0 ≡ true → typing_at (judged_to table n) (kid_in table n 0) ≡ None → judged_at table n ≡ waits
  waits_for_value t e there none = with_value t e there ∙ ap (λ o. given o (λ x. verdict (return_faults (result_type_of t) (value_of x) (node_in table n)) (does (return_with (Some (converted_to (result_type_of t) (value_of x))))))) none

  pub returns_value : (t : CType) → declared ≡ Some t → has_kid (node_in table n) 0 ≡ true → (x : rules.Typing) → typing_at (judged_to table n) (kid_in table n 0) ≡ Some x
      → judged_at table n ≡ verdict (return_faults (result_type_of t) (value_of x) (node_in table n)) (does (return_with (Some (converted_to (result_type_of t) (value_of x)))))
  returns_value t e there x f = with_value t e there ∙ ap (λ o. given o (λ x. verdict (return_faults (result_type_of t) (value_of x) (node_in table n)) (does (return_with (Some (converted_to (result_type_of t) (value_of x))))))) f

  -- ---- the function around it

  module _ (d : IsDerived table) (within : n < length (nodes_in table)) where
    body : is_body (category_at (tree_in table) n) ≡ true
    unfolding nodes_in category_by
    body =
        let m = node_in table n in
        let shape = (are_linked d.tokens (tree_in table) d.derived).shapes.shaped n m (node_there table n d within) in
        ap is_body (shape.category ∙ ap (λ k. category_by k m.label.text (map (category_at (tree_in table)) m.kids)) is)

    around : IsAround (nodes_in table) (filter (λ (f : Node). is_function f.label.kind) (nodes_in table)) n
    unfolding nodes_in category_by
    around = around_statement (category_at (tree_in table)) (nodes_in table) (are_linked d.tokens (tree_in table) d.derived) n (node_in table n) (node_there table n d within) body

    its_node : function_around (places_in table) n ≡ around.node
    unfolding nodes_in places_in
    its_node = ap (λ o. unwrap_or o nowhere) around.is

    -- its declarator stands before the statement
    pub before_it : its_function < n
    before_it = let less = around.less in let same = ap (λ (f : Node). kid f 1) its_node in omega (arith, less, same)

    pub function_there : (found : List ℕ) → AreOwners table found → n < length table → get_or found n 0 < length table
    unfolding nodes_in places_in
    function_there found owners inside = by (find (λ f. holds f n) (places_in table).functions) around.is (owners.points n inside)
      where
        by : (o : Option Node) → o ≡ Some around.node → Points (nodes_in table) (get_or found n 0) o → get_or found n 0 < length table
        by (Some f) same h = let less = h.0 in let nodes = owners.nodes in omega (arith, less, nodes)
        by None same h = absurd (gone same)
          where
            gone : {x : Node} → None ≡ Some x → ⊥
            gone e = cc e

    pub has_length : (u : CType) → declared ≡ Some u → lacks_length u ≡ false
    unfolding judged_to nodes_in places_in category_by
    has_length u e =
        around_fine d.tokens (tree_in table) d.derived n (node_in table n) (node_there table n d within) body around u
        (ap (λ (f : Node). type_of (judgement_at (judgements_at (places_in table)) (kid f 1))) (sym its_node) ∙ type_before (places_in table) n (nodes_in table) its_function u e)

-- ---- types by their ids

-- a type with its length has an id alone
pub id_found : (k : Known) (a : TypeForm) (o : Option CType) → ((u : CType) → o ≡ Some u → lacks_length u ≡ false) → (t : CType) → o ≡ Some t → IsType k a t → (found : Option TypeId) → found ≡ id_alone a
    → MatchOption found (o ≡ None) (λ id. (t : CType) × (o ≡ Some t) × Names k id t)
id_found k a o fine t e is found same = subst (λ f. MatchOption f (o ≡ None) (λ id. (t : CType) × (o ≡ Some t) × Names k id t)) (sym same) (by a t e is)
  where
    by : (a : TypeForm) (t : CType) → o ≡ Some t → IsType k a t → MatchOption (id_alone a) (o ≡ None) (λ id. (t : CType) × (o ≡ Some t) × Names k id t)
    by (type.Known id) t e is = (t, e, is)
    by (type.Unsized id) (unsized t) e is = absurd (true≢false (fine (unsized t) e))
    by (type.Unsized id) t e is = absurd is
    by (type.ToUnsized id) (pointer (unsized t)) e is = absurd (true≢false (fine (pointer (unsized t)) e))
    by (type.ToUnsized id) t e is = absurd is

-- ---- what is answered

pub settled_answered : (k : Known) (found : Result (List Stmt) Refusal) (s : Stmt) (fs : List Fault) (j : Judgement) → Settles (λ ss. ss ≡ s ∷ []) found fs → j ≡ verdict fs (does s) → IsAnswered k (as_performed found) j
settled_answered k (Ok ss) s [] j h same = subst (IsAnswered k (as_performed (Ok ss))) (sym same) (refl, h.1, refl)
settled_answered k (Ok ss) s (f ∷ fs) j h same = absurd (apart h.0)
  where
    apart : f ∷ fs ≡ [] → ⊥
    apart e = cc e
settled_answered k (Err refused) s [] j h same = subst (IsAnswered k (as_performed (Err refused))) (sym same) h
settled_answered k (Err refused) s (f ∷ fs) j h same = subst (IsAnswered k (as_performed (Err refused))) (sym same) h

pub none_seen : {X : Type 0} {Y : Type 0} (P : X → Y → Type 0) (found : Option X) (o : Option Y) → MatchOption found (o ≡ None) (λ x. (y : Y) × (o ≡ Some y) × P x y) → ((x : X) → found ≢ Some x) → o ≡ None
none_seen {X = X} {Y = Y} P None o h other = h
none_seen {X = X} {Y = Y} P (Some x) o h other = absurd (other x refl)

settled_alone : (found : Result (List Stmt) Refusal) → is_struct_answer (as_performed found) ≡ false
settled_alone (Ok ss) = refl
settled_alone (Err refused) = refl

-- the node does this, or breaks one of these rules
pub settled_row : (table : List SynNode) (n low : ℕ) (old mid new : Meanings) (answer : Result Judged Refusal) → IsReady table n low mid → n < length table → AreLeft table n old mid → slots_of new ≡ slots_of mid → Grows mid.types new.types
    → (found : Result (List Stmt) Refusal) (s : Stmt) (fs : List Fault) → answer ≡ as_performed found → Settles (λ ss. ss ≡ s ∷ []) found fs → judged_at table n ≡ verdict fs (does s) → IsRow table n old new answer
settled_row table n low old mid new answer r within left same grows found s fs is settles means_it =
    subst (IsRow table n old new) (sym is)
    (grown_row table n low old mid new (as_performed found) r within left same grows (settled_alone found) (settled_answered new.types found s fs (judged_at table n) settles means_it))
