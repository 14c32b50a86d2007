-- The operators of one operand, and `sizeof`.
use Rattle.std.proofs.Common.{◌≡◌, ℕ, true, false, not, List, [], Option, Some, None, refl, sym, ap, ◌∙◌, subst}
use Rattle.std.specs.Prelude.{Ok, Err, option_map, unwrap_or, codes}
use Rattle.std.specs.Option.{is_some}
use Rattle.c_types.specs.declared.kind.Measure.{Measure}
use Rattle.c_types.specs.declared.tree.COp.TheVariants as op
use Rattle.c_types.specs.Forms.{const, binary}
use Rattle.c_typing.specs.Types.{IntegerType, CType, integer, uint, int, promoted, integer_of, is_integer, is_scalar, measure, no_measure}
use Rattle.c_typing.specs.Places.{Node}
use Rattle.c_typing.specs.Judgements as rules
use Rattle.c_typing.specs.Judgements.{Judgement, layouts, expresses, number, rule}
use Rattle.c_typing.specs.Rules.{broken_if}
use Rattle.c_typing.specs.Constants.{operated}
use Rattle.c_typing.specs.Conversions.{Operator, subtractive, signs, valued}
use Rattle.c_typing.specs.Expressions.{measured_type, not_operator, sign_operator, sign_typing, number_of_type, minus_one}
use Rattle.c_type_ids.specs.Ids.{Known}
use Rattle.c_values.specs.declared.typings.Typing.{Typing}
use Rattle.c_values.specs.Typings.{Is}
use Rattle.c_answers.specs.declared.refusal.Refusal.TheVariants as refusal
use Rattle.c_answers.specs.Answers.{Answers, Expresses}
use Rattle.c_operations.specs.Operations.{integer_in}
use Rattle.c_operations.proofs.OperandLaws.{allowed, refused}

-- ---- `sizeof`

pub measured : (k : Known) (v : Typing) (js : List Judgement) (t : CType) (n size : ℕ) → Some size ≡ option_map (λ (m : Measure). m.size) (measure (layouts js) t)
    → Is k v (number_of_type uint size) → Answers (Expresses k 0) (Ok v) (measured_type js t n)
unfolding measured_type
measured k v js t n size e is = by (measure (layouts js) t) e
  where
    by : (m : Option Measure) → Some size ≡ option_map (λ (m : Measure). m.size) m
        → Answers (Expresses k 0) (Ok v) (rules.verdict (broken_if (not (is_some m)) 5 n) (expresses (number_of_type uint (unwrap_or m no_measure).size) 0))
    by None e = absurd (cc e)
    by (Some m) e =
        let same : size ≡ m.size = cc e in
        (subst (λ s. Is k v (number_of_type uint s)) same is, refl)

pub no_size : (k : Known) (js : List Judgement) (t : CType) (n : ℕ) → None ≡ option_map (λ (m : Measure). m.size) (measure (layouts js) t)
    → Answers (Expresses k 0) (Err (refusal.Broken 5 n)) (measured_type js t n)
unfolding measured_type
no_size k js t n e = by (measure (layouts js) t) e
  where
    by : (m : Option Measure) → None ≡ option_map (λ (m : Measure). m.size) m
        → Answers (Expresses k 0) (Err (refusal.Broken 5 n)) (rules.verdict (broken_if (not (is_some m)) 5 n) (expresses (number_of_type uint (unwrap_or m no_measure).size) 0))
    by None e = ([], refl)
    by (Some m) e = absurd (cc e)

-- ---- `!`

pub not_allowed : (k : Known) (v : Typing) (n : Node) (at : ℕ) (x : rules.Typing) → n.id ≡ at → is_scalar x.type ≡ true
    → Is k v (valued (integer int) (binary op.Eq x.code (const 0)) (operated op.Eq at x.constant (number 0))) → Answers (Expresses k 0) (Ok v) (not_operator n x)
unfolding not_operator
not_allowed k v n at x same e is =
    allowed k v (is_scalar x.type) n.id 0 (valued (integer int) (binary op.Eq x.code (const 0)) (operated op.Eq n.id x.constant (number 0))) e
    (subst (λ m. Is k v (valued (integer int) (binary op.Eq x.code (const 0)) (operated op.Eq m x.constant (number 0)))) (sym same) is)

pub not_refused : (k : Known) (n : Node) (at : ℕ) (x : rules.Typing) → n.id ≡ at → is_scalar x.type ≡ false
    → Answers (Expresses k 0) (Err (refusal.Broken 13 at)) (not_operator n x)
unfolding not_operator
not_refused k n at x same e =
    refused k (is_scalar x.type) n.id at 0 (expresses (valued (integer int) (binary op.Eq x.code (const 0)) (operated op.Eq n.id x.constant (number 0))) 0) same e

-- ---- `+`, `-` and `~`

abbrev pub minus : Operator
minus = record { text = codes "-"; class = subtractive; signed = op.SubS; unsigned = op.SubU }

pub minus_is : (n : ℕ) (k : IntegerType) (text : List ℕ) (x : rules.Typing) → text ≡ codes "-"
    → valued (integer k) (binary (signs [] k minus) (const 0) x.code) (operated (signs [] k minus) n (number 0) x.constant) ≡ sign_typing n k text x
minus_is n k text x e = sym (ap (λ s. sign_typing n k s x) e)

pub complement_is : (n : ℕ) (k : IntegerType) (text : List ℕ) (x : rules.Typing) → text ≡ codes "~"
    → valued (integer k) (binary op.Xor x.code (const minus_one)) (operated op.Xor n x.constant (number minus_one)) ≡ sign_typing n k text x
complement_is n k text x e = sym (ap (λ s. sign_typing n k s x) e)

is_that : (t : CType) (j : IntegerType) → Some j ≡ integer_in t → integer j ≡ t
is_that (integer k) j e =
    let same : j ≡ k = cc e in
    ap integer same
is_that t j e = absurd (cc e)

is_none : (t : CType) → None ≡ integer_in t → is_integer t ≡ false
is_none (integer k) e = absurd (cc e)
is_none t e = refl

pub sign_allowed : (k : Known) (v : Typing) (n : Node) (at : ℕ) (text : List ℕ) (x : rules.Typing) (m j : IntegerType) → n.id ≡ at → n.label.text ≡ text → Some j ≡ integer_in x.type
    → m ≡ promoted j → Is k v (sign_typing at m text x) → Answers (Expresses k 0) (Ok v) (sign_operator n x)
unfolding sign_operator
sign_allowed k v n at text x m j same says found is_promoted is =
    let shape = is_that x.type j found in
    let whole : sign_typing at m text x ≡ sign_typing n.id (promoted (integer_of x.type)) n.label.text x =
    ap (λ a. sign_typing a m text x) (sym same)
    ∙ ap (λ i. sign_typing n.id i text x) (is_promoted ∙ ap (λ t. promoted (integer_of t)) shape)
    ∙ ap (λ s. sign_typing n.id (promoted (integer_of x.type)) s x) (sym says) in
    allowed k v (is_integer x.type) n.id 0 (sign_typing n.id (promoted (integer_of x.type)) n.label.text x) (sym (ap is_integer shape)) (subst (Is k v) whole is)

pub sign_refused : (k : Known) (n : Node) (at : ℕ) (x : rules.Typing) → n.id ≡ at → None ≡ integer_in x.type → Answers (Expresses k 0) (Err (refusal.Broken 13 at)) (sign_operator n x)
unfolding sign_operator
sign_refused k n at x same none =
    refused k (is_integer x.type) n.id at 0 (expresses (sign_typing n.id (promoted (integer_of x.type)) n.label.text x) 0) same (is_none x.type none)
