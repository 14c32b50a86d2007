-- What `for` means by its parts.
use Rattle.std.proofs.Common.{◌≡◌, ◌≢◌, ◌<◌, ◌+◌, ℕ, suc, true, false, List, [], ◌∷◌, Option, Some, None, length, refl, sym, ap, ◌∙◌, subst, arith}
use Rattle.std.specs.Prelude.{IfOk, Ok, Err, Result, is_some, option_map}
use Rattle.std.proofs.lemmas.Bool.{false≢true}
use Rattle.c_syntax.specs.declared.kind.SynKind.{SynKind}
use Rattle.c_syntax.specs.declared.kind.SynKind.TheVariants as kind
use Rattle.c_syntax.specs.declared.syntax.SynNode.{SynNode}
use Rattle.c_types.specs.declared.tree.Expr.{Expr}
use Rattle.c_types.specs.declared.tree.Stmt.{Stmt}
use Rattle.c_types.specs.Forms.{drop_expr, loop}
use Rattle.c_typing.specs.Places.{kind_at}
use Rattle.c_typing.specs.Judgements.{Fault, Judgement, Typing, besides, breaks_rules, code_at, faults_in, given, means, performs, rule, typing_at, waits}
use Rattle.c_typing.specs.Conversions.{value_of}
use Rattle.c_typing.specs.Statements.{as_one, block_of, code_in, first_by, for_statement, part_by, test_faults}
use Rattle.c_typing.specs.Typing.{judged_by}
use Rattle.c_names.specs.Denoted.{places_in}
use Rattle.c_nodes.specs.Parents.{nodes_in}
use Rattle.c_type_ids.specs.Ids.{Known}
use Rattle.c_answers.specs.declared.refusal.Refusal.TheVariants as refusal
use Rattle.c_meanings.specs.declared.meanings.Meanings.{Meanings}
use Rattle.c_meanings.specs.Meanings.{HasKids, IsAnswered, IsReady, MayTake, judged_at, judged_to, kid_in, node_in}
use Rattle.c_meanings.proofs.MeaningLaws.{next_kid}
use Rattle.c_statement_rows.specs.Parts.{IsFor, first_at, is_empty, part_at}

-- ---- from part to part

pub later : (table : List SynNode) (n index : ℕ) (m : Meanings) → HasKids table n (suc (suc index)) → n < length table → MayTake table n index m → MayTake table n (suc index) m
later table n index m has within (low, less, r) = let next = next_kid table n low m r within index has in (low, omega (arith, less, next), r)

pub behind : (table : List SynNode) (n index : ℕ) (m : Meanings) → HasKids table n (suc (suc index)) → n < length table → IsReady table n (kid_in table n index + 1) m → MayTake table n (suc index) m
behind table n index m has within r = (kid_in table n index + 1, next_kid table n (kid_in table n index + 1) m r within index has, r)

-- ---- one part

other_part : (js : List Judgement) (n : ℕ) (k : SynKind) → is_empty k ≡ false → part_by js n k ≡ option_map (λ x. Some (value_of x)) (typing_at js n)
other_part js n kind.Empty e = absurd (false≢true (sym e))
other_part js n _ e = refl

pub part_code : (code : Expr) (js : List Judgement) (n : ℕ) (k : SynKind) → is_empty k ≡ false → ((y : Typing) → typing_at js n ≡ Some y → code ≡ (value_of y).code) → (v : Option Typing) → part_by js n k ≡ Some v → Some code ≡ code_in v
part_code code js n k e is v there = by (typing_at js n) refl (sym (other_part js n k e) ∙ there)
  where
    inner : {x y : Option Typing} → Some x ≡ Some y → x ≡ y
    inner h = cc h

    by : (o : Option Typing) → typing_at js n ≡ o → option_map (λ x. Some (value_of x)) o ≡ Some v → Some code ≡ code_in v
    by None same h = absurd (cc h)
    by (Some y) same h = ap (λ c. Some c) (is y same) ∙ ap (λ v. code_in v) (inner h)

pub dropped_is : {E : Type 0} → (found : Result Stmt E) (code : Expr) (o : Option Typing) → IfOk found (λ s. s ≡ drop_expr code) → ((y : Typing) → o ≡ Some y → code ≡ (value_of y).code)
    → IfOk found (λ s. (y : Typing) → o ≡ Some y → s ≡ drop_expr (value_of y).code)
dropped_is (Ok s) code o e is = λ y same. e ∙ ap (λ c. drop_expr c) (is y same)
dropped_is (Err x) code o e is = tt

first_other : (js : List Judgement) (n : ℕ) (k : SynKind) → k ≢ kind.Declaration → k ≢ kind.Empty → first_by js n k ≡ option_map (λ x. drop_expr (value_of x).code) (typing_at js n)
first_other js n kind.Declaration a b = absurd (a refl)
first_other js n kind.Empty a b = absurd (b refl)
first_other js n _ a b = refl

module _ (table : List SynNode) (n : ℕ) (k : SynKind) (i : ℕ) (at : i ≡ kid_in table n 0) (is : k ≡ kind_at (nodes_in table) i) (a : k ≢ kind.Declaration) (b : k ≢ kind.Empty) where
  abbrev first_typing : Option Typing
  first_typing = typing_at (judged_to table n) (kid_in table n 0)

  first_value : first_at table n ≡ option_map (λ x. drop_expr (value_of x).code) first_typing
  first_value =
      ap (λ k. first_by (judged_to table n) (kid_in table n 0) k) (ap (λ j. kind_at (nodes_in table) j) (sym at) ∙ sym is)
      ∙ first_other (judged_to table n) (kid_in table n 0) k a b

  pub value_there : is_some (first_at table n) ≡ true → is_some first_typing ≡ true
  value_there e = by first_typing (sym (ap (λ o. is_some o) first_value) ∙ e)
    where
      by : (o : Option Typing) → is_some (option_map (λ x. drop_expr (value_of x).code) o) ≡ true → is_some o ≡ true
      by None e = e
      by (Some y) e = refl

  pub first_made : {E : Type 0} → (found : Result Stmt E) → is_some first_typing ≡ true → IfOk found (λ s. (y : Typing) → first_typing ≡ Some y → s ≡ drop_expr (value_of y).code) → IfOk found (λ s. first_at table n ≡ Some s)
  first_made found there h = by found first_typing first_value there h
    where
      by : {E : Type 0} → (found : Result Stmt E) (o : Option Typing) → first_at table n ≡ option_map (λ x. drop_expr (value_of x).code) o → is_some o ≡ true → IfOk found (λ s. (y : Typing) → o ≡ Some y → s ≡ drop_expr (value_of y).code)
          → IfOk found (λ s. first_at table n ≡ Some s)
      by (Ok s) None e there h = absurd (false≢true there)
      by (Ok s) (Some y) e there h = e ∙ ap (λ s. Some s) (sym (h y refl))
      by (Err x) o e there h = tt

-- ---- the whole

pub for_made : {E : Type 0} → (table : List SynNode) (n : ℕ) (found : Result (List Stmt) E) (f : Stmt) (t s : Option Expr) (b : List Stmt) → IfOk found (λ ss. ss ≡ block_of (f ∷ loop t s (as_one b) ∷ []) ∷ [])
    → ((v : Option Typing) → part_at table n 1 ≡ Some v → t ≡ code_in v) → first_at table n ≡ Some f → ((v : Option Typing) → part_at table n 2 ≡ Some v → s ≡ code_in v) → code_at (judged_to table n) (kid_in table n 3) ≡ Some b
    → IfOk found (IsFor table n)
for_made table n (Err x) f t s b e test first step body = tt
for_made table n (Ok ss) f t s b e test first step body = λ v w g c a1 a2 a3 a4.
    e
    ∙ ap (λ t. block_of (f ∷ loop t s (as_one b) ∷ []) ∷ []) (test v a1)
    ∙ ap (λ s. block_of (f ∷ loop (code_in v) s (as_one b) ∷ []) ∷ []) (step w a3)
    ∙ ap (λ f. block_of (f ∷ loop (code_in v) (code_in w) (as_one b) ∷ []) ∷ []) (same_stmt (sym first ∙ a2))
    ∙ ap (λ b. block_of (g ∷ loop (code_in v) (code_in w) (as_one b) ∷ []) ∷ []) (same_body (sym body ∙ a4))
  where
    same_stmt : {x y : Stmt} → Some x ≡ Some y → x ≡ y
    same_stmt h = cc h

    same_body : {x y : List Stmt} → Some x ≡ Some y → x ≡ y
    same_body h = cc h

besides_first : (f : Fault) (j : Judgement) → (others : List Fault) × (faults_in (besides (f ∷ []) j) ≡ f ∷ others)
besides_first f (breaks_rules g gs) = (g ∷ gs, refl)
besides_first f (means m) = ([], refl)
besides_first f waits = ([], refl)

pub known : {A : Type 0} (o : Option A) → is_some o ≡ true → (a : A) × (o ≡ Some a)
known {A = A} (Some a) e = (a, refl)
known {A = A} None e = absurd (false≢true e)

module _ (table : List SynNode) (n : ℕ) (kind_is : (node_in table n).label.kind ≡ kind.For) where
  abbrev goes : Option Typing → Option Stmt → Option (Option Typing) → Option (List Stmt) → Judgement
  goes test first step body = given first (λ f. given step (λ s. given (option_map as_one body) (λ b. means (performs (block_of (f ∷ loop (code_in test) (code_in s) b ∷ []) ∷ [])))))

  abbrev whole : Option Typing → Judgement
  whole test = goes test (first_at table n) (part_at table n 2) (code_at (judged_to table n) (kid_in table n 3))

  abbrev tested : Option (Option Typing) → Judgement
  tested o = given o (λ test. besides (test_faults test (node_in table n).id) (whole test))

  for_is : judged_at table n ≡ tested (part_at table n 1)
  unfolding judged_at judged_by for_statement places_in nodes_in
  for_is = ap (judged_by (places_in table) (judged_to table n) (node_in table n)) kind_is

  pub no_test : part_at table n 1 ≡ None → judged_at table n ≡ waits
  no_test e = for_is ∙ ap (λ o. tested o) e

  pub test_refused : (k : Known) (v : Option Typing) → (node_in table n).id ≡ n → part_at table n 1 ≡ Some v → ((i : ℕ) → test_faults v i ≡ rule 13 i ∷ []) → IsAnswered k (Err (refusal.Broken 13 n)) (judged_at table n)
  test_refused k v own e faults =
      subst (λ j. IsAnswered k (Err (refusal.Broken 13 n)) j) (sym (for_is ∙ ap (λ o. tested o) e ∙ ap (λ fs. besides fs (whole v)) (faults (node_in table n).id ∙ ap (λ i. rule 13 i ∷ []) own)))
      (besides_first (rule 13 n) (whole v))

  allowed : (v : Option Typing) → part_at table n 1 ≡ Some v → ((i : ℕ) → test_faults v i ≡ []) → judged_at table n ≡ whole v
  allowed v e faults = for_is ∙ ap (λ o. tested o) e ∙ ap (λ fs. besides fs (whole v)) (faults (node_in table n).id)

  module _ (v : Option Typing) (e : part_at table n 1 ≡ Some v) (faults : (i : ℕ) → test_faults v i ≡ []) where
    pub no_first : is_some (first_at table n) ≡ false → judged_at table n ≡ waits
    no_first none = allowed v e faults ∙ by (first_at table n) none
      where
        by : (o : Option Stmt) → is_some o ≡ false → goes v o (part_at table n 2) (code_at (judged_to table n) (kid_in table n 3)) ≡ waits
        by None h = refl
        by (Some s) h = absurd (false≢true (sym h))

    pub no_step : is_some (part_at table n 2) ≡ false → judged_at table n ≡ waits
    no_step none = allowed v e faults ∙ by (first_at table n) (part_at table n 2) none
      where
        by : (o : Option Stmt) (p : Option (Option Typing)) → is_some p ≡ false → goes v o p (code_at (judged_to table n) (kid_in table n 3)) ≡ waits
        by None p h = refl
        by (Some s) None h = refl
        by (Some s) (Some w) h = absurd (false≢true (sym h))

    pub no_body : is_some (code_at (judged_to table n) (kid_in table n 3)) ≡ false → judged_at table n ≡ waits
    no_body none = allowed v e faults ∙ by (first_at table n) (part_at table n 2) (code_at (judged_to table n) (kid_in table n 3)) none
      where
        by : (o : Option Stmt) (p : Option (Option Typing)) (c : Option (List Stmt)) → is_some c ≡ false → goes v o p c ≡ waits
        by None p c h = refl
        by (Some s) None c h = refl
        by (Some s) (Some w) None h = refl
        by (Some s) (Some w) (Some b) h = absurd (false≢true (sym h))

    pub for_means : (w : Option Typing) (f : Stmt) (b : List Stmt) → part_at table n 2 ≡ Some w → first_at table n ≡ Some f → code_at (judged_to table n) (kid_in table n 3) ≡ Some b
        → judged_at table n ≡ means (performs (block_of (f ∷ loop (code_in v) (code_in w) (as_one b) ∷ []) ∷ []))
    for_means w f b h1 h2 h3 =
        allowed v e faults
        ∙ ap (λ o. goes v o (part_at table n 2) (code_at (judged_to table n) (kid_in table n 3))) h2
        ∙ ap (λ p. goes v (Some f) p (code_at (judged_to table n) (kid_in table n 3))) h1
        ∙ ap (λ c. goes v (Some f) (Some w) c) h3

pub with_all : {E : Type 0} → (table : List SynNode) (n : ℕ) (found : Result (List Stmt) E) (v w : Option Typing) (f : Stmt) (b : List Stmt) → part_at table n 1 ≡ Some v → first_at table n ≡ Some f → part_at table n 2 ≡ Some w → code_at (judged_to table n) (kid_in table n 3) ≡ Some b
    → IfOk found (IsFor table n) → IfOk found (λ ss. ss ≡ block_of (f ∷ loop (code_in v) (code_in w) (as_one b) ∷ []) ∷ [])
with_all table n (Ok ss) v w f b h1 h2 h3 h4 is = is v w f b h1 h2 h3 h4
with_all table n (Err x) v w f b h1 h2 h3 h4 is = tt
