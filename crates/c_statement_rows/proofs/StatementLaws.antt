-- What statements mean by their kinds and by what their parts mean.
use Rattle.std.proofs.Common.{◌≡◌, ◌≤◌, ℕ, zero, suc, Bool, true, false, List, [], ◌∷◌, Option, Some, None, length, refl, sym, ap, ◌∙◌, subst, arith}
use Rattle.std.specs.Prelude.{Err, is_some, option_map, slice_get, ◌&&◌}
use Rattle.std.proofs.lemmas.Bool.{false≢true}
use Rattle.c_syntax.specs.declared.kind.SynKind.TheVariants as kind
use Rattle.c_syntax.specs.declared.syntax.SynNode.{SynNode}
use Rattle.c_types.specs.declared.tree.Stmt.{Stmt}
use Rattle.c_types.specs.Forms.{do_loop, drop_expr, if_else, loop}
use Rattle.c_typing.specs.Types.{is_scalar}
use Rattle.c_typing.specs.Judgements as rules
use Rattle.c_typing.specs.Judgements.{Fault, rule, Judgement, besides, breaks_rules, code_at, faults_in, given, means, performs, typing_at, waits}
use Rattle.c_typing.specs.Conversions.{value_of}
use Rattle.c_typing.specs.Rules.{bad_operand}
use Rattle.c_typing.specs.Statements.{as_one, condition_faults, do_statement, empty_statement, expression_statement, if_statement, statement_at, while_statement}
use Rattle.c_typing.specs.Typing.{judged_by}
use Rattle.c_names.specs.Denoted.{places_in}
use Rattle.c_type_ids.specs.Ids.{Known}
use Rattle.c_answers.specs.declared.refusal.Refusal.TheVariants as refusal
use Rattle.c_statement_rows.specs.Conditions.{other_at}
use Rattle.c_meanings.specs.Meanings.{IsAnswered, judged_at, judged_to, kid_in, node_in}

-- ---- a condition that is not scalar

besides_first : (f : Fault) (j : Judgement) → (others : List Fault) × (faults_in (besides (f ∷ []) j) ≡ f ∷ others)
besides_first f (breaks_rules g gs) = (g ∷ gs, refl)
besides_first f (means m) = ([], refl)
besides_first f waits = ([], refl)

abbrev condition_by : Bool → ℕ → List Fault
condition_by b i = bad_operand b i

module _ (table : List SynNode) (n : ℕ) where
  abbrev pub js : List Judgement
  js = judged_to table n

  abbrev pub node_number : ℕ
  node_number = (node_in table n).id

  -- the row of a statement with a condition
  abbrev pub conditioned : Option rules.Typing → (rules.Typing → Judgement) → Judgement
  conditioned o f = given o (λ x. besides (condition_faults (value_of x) node_number) (f x))

  pub refused : (k : Known) (o : Option rules.Typing) (f : rules.Typing → Judgement) (x : rules.Typing) → node_number ≡ n → o ≡ Some x → is_scalar (value_of x).type ≡ false
      → IsAnswered k (Err (refusal.Broken 13 n)) (conditioned o f)
  refused k o f x own e other =
      subst (λ (p : Option rules.Typing). IsAnswered k (Err (refusal.Broken 13 n)) (conditioned p f)) (sym e)
      (subst (λ b. IsAnswered k (Err (refusal.Broken 13 n)) (besides (rules_of b) (f x))) (sym other)
      (let first = besides_first (rule 13 node_number) (f x) in subst (λ i. (others : List Fault) × (faults_in (besides (rule 13 node_number ∷ []) (f x)) ≡ rule 13 i ∷ others)) own first))
    where
      rules_of : Bool → List Fault
      rules_of b = condition_by b node_number

  pub allowed : (o : Option rules.Typing) (f : rules.Typing → Judgement) (x : rules.Typing) → o ≡ Some x → is_scalar (value_of x).type ≡ true → conditioned o f ≡ f x
  allowed o f x e scalar = ap (λ (p : Option rules.Typing). conditioned p f) e ∙ ap (λ b. besides (condition_by b node_number) (f x)) scalar

  pub absent : (o : Option rules.Typing) (f : rules.Typing → Judgement) → o ≡ None → conditioned o f ≡ waits
  absent o f e = ap (λ (p : Option rules.Typing). conditioned p f) e

  -- ---- each kind

  pub empty_is : (node_in table n).label.kind ≡ kind.Empty → judged_at table n ≡ means (performs (empty_statement ∷ []))
  unfolding judged_at judged_by
  empty_is is = ap (judged_by (places_in table) js (node_in table n)) is

  pub expression_is : (node_in table n).label.kind ≡ kind.ExprStmt → judged_at table n ≡ given (typing_at js (kid_in table n 0)) (λ x. means (performs (drop_expr (value_of x).code ∷ [])))
  unfolding judged_at judged_by expression_statement
  expression_is is = ap (judged_by (places_in table) js (node_in table n)) is

  pub while_is : (node_in table n).label.kind ≡ kind.While
      → judged_at table n ≡ conditioned (typing_at js (kid_in table n 0)) (λ x. given (statement_at js (kid_in table n 1)) (λ body. means (performs (loop (Some (value_of x).code) None body ∷ []))))
  unfolding judged_at judged_by while_statement
  while_is is = ap (judged_by (places_in table) js (node_in table n)) is

  pub do_is : (node_in table n).label.kind ≡ kind.Do
      → judged_at table n ≡ conditioned (typing_at js (kid_in table n 1)) (λ x. given (statement_at js (kid_in table n 0)) (λ body. means (performs (do_loop body (value_of x).code ∷ []))))
  unfolding judged_at judged_by do_statement
  do_is is = ap (judged_by (places_in table) js (node_in table n)) is

  pub expression_waits : (node_in table n).label.kind ≡ kind.ExprStmt → typing_at js (kid_in table n 0) ≡ None → judged_at table n ≡ waits
  expression_waits is none = expression_is is ∙ ap (λ o. given o (λ (x : rules.Typing). means (performs (drop_expr (value_of x).code ∷ [])))) none

  pub expression_code : (node_in table n).label.kind ≡ kind.ExprStmt → (x : rules.Typing) → typing_at js (kid_in table n 0) ≡ Some x → judged_at table n ≡ means (performs (drop_expr (value_of x).code ∷ []))
  expression_code is x e = expression_is is ∙ ap (λ o. given o (λ (x : rules.Typing). means (performs (drop_expr (value_of x).code ∷ [])))) e

-- ---- what is seen of a statement

pub no_statement : (b : Bool) (o : Option (List Stmt)) → b ≡ is_some o → b ≡ false → o ≡ None
no_statement b None e h = refl
no_statement true (Some code) e h = absurd (false≢true (sym h))
no_statement false (Some code) e h = absurd (false≢true e)

module _ (table : List SynNode) (n : ℕ) where
  pub waits_for : (i : ℕ) (f : Stmt → Judgement) → code_at (judged_to table n) i ≡ None → given (statement_at (judged_to table n) i) f ≡ waits
  waits_for i f none = ap (λ o. given (option_map as_one o) f) none

  pub goes_on : (i : ℕ) (f : Stmt → Judgement) (body : List Stmt) → code_at (judged_to table n) i ≡ Some body → given (statement_at (judged_to table n) i) f ≡ f (as_one body)
  goes_on i f body there = ap (λ o. given (option_map as_one o) f) there

  -- ---- `if`

  pub if_is : (node_in table n).label.kind ≡ kind.If
      → judged_at table n ≡ conditioned table n (typing_at (judged_to table n) (kid_in table n 0)) (λ x. given (statement_at (judged_to table n) (kid_in table n 1)) (λ a. given (other_at table n) (λ b. means (performs (if_else (value_of x).code a b ∷ [])))))
  unfolding judged_at judged_by if_statement
  if_is is = ap (judged_by (places_in table) (judged_to table n) (node_in table n)) is

  pub branches_wait : (f : Stmt → Stmt → Judgement) → (is_some (code_at (judged_to table n) (kid_in table n 1)) && is_some (other_at table n)) ≡ false
      → given (statement_at (judged_to table n) (kid_in table n 1)) (λ a. given (other_at table n) (f a)) ≡ waits
  branches_wait f = by (code_at (judged_to table n) (kid_in table n 1)) (other_at table n)
    where
      by : (a : Option (List Stmt)) (b : Option Stmt) → (is_some a && is_some b) ≡ false → given (option_map as_one a) (λ x. given b (f x)) ≡ waits
      by None b e = refl
      by (Some x) None e = refl
      by (Some x) (Some y) e = absurd (false≢true (sym e))

  pub branches_go : (f : Stmt → Stmt → Judgement) (a : List Stmt) (b : Stmt) → code_at (judged_to table n) (kid_in table n 1) ≡ Some a → other_at table n ≡ Some b
      → given (statement_at (judged_to table n) (kid_in table n 1)) (λ a. given (other_at table n) (f a)) ≡ f (as_one a) b
  branches_go f a b d e = ap (λ o. given (option_map as_one o) (λ x. given (other_at table n) (f x))) d ∙ ap (λ o. given o (f (as_one a))) e

pub kids_long : (ns : List ℕ) (i : ℕ) → is_some (slice_get ns i) ≡ true → suc i ≤ length ns
kids_long [] i e = absurd (false≢true e)
kids_long (n ∷ ns) zero e = omega arith
kids_long (n ∷ ns) (suc i) e = let h = kids_long ns i e in omega (arith, h)
