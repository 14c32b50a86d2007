-- Calls, by the judgement of what is called.
use Rattle.std.proofs.Common.{◌≡◌, ◌≢◌, ℕ, Bool, true, not, List, [], ◌∷◌, length, map, refl, sym, ap, ◌∙◌, subst, Option, Some}
use Rattle.std.specs.Prelude.{Result, Ok, Err, ◌==◌}
use Rattle.std.specs.Result.{IsErrAnd}
use Rattle.std.proofs.lemmas.Bool.{eq-eqb, ne_eqb}
use Rattle.c_types.specs.declared.kind.TypeId.{TypeId}
use Rattle.c_types.specs.declared.kind.TypeKind.{TypeKind}
use Rattle.c_types.specs.declared.kind.TypeKind.TheVariants as kind
use Rattle.c_types.specs.declared.tree.Expr.{Expr}
use Rattle.c_types.specs.Sizes.{Has}
use Rattle.c_typing.specs.Types.{IntegerType, bool, char, schar, uchar, short, ushort, int, uint, long, ulong, CType, CTypes, void, integer, pointer, array, unsized, struct, function, listed, is_function}
use Rattle.c_typing.specs.Places.{Node, other_kids}
use Rattle.c_typing.specs.Judgements as rules
use Rattle.c_typing.specs.Judgements.{Callee, Fault, rule, Meaning, Judgement, means, breaks_rules, waits, verdict, besides, given, all_of, typing_at, no_constant}
use Rattle.c_typing.specs.Rules.{broken_if}
use Rattle.c_typing.specs.Conversions.{value_of, result}
use Rattle.c_typing.specs.Expressions.{expression, arguments, argument_faults, passed, call_code, called, call_by}
use Rattle.c_type_ids.specs.Integers.{kind_of}
use Rattle.c_type_ids.specs.Ids.{Known, Names}
use Rattle.c_values.specs.declared.typings.Callee.{Callee as CodeCallee}
use Rattle.c_values.specs.declared.typings.Form.{Form}
use Rattle.c_values.specs.declared.typings.Form.TheVariants as form
use Rattle.c_values.specs.declared.typings.Typing.{Typing}
use Rattle.c_values.specs.Typings.{Is, form_of}
use Rattle.c_answers.specs.declared.refusal.Refusal.{Refusal}
use Rattle.c_answers.specs.Answers.{IsFirst, Expresses}
use Rattle.c_answers.proofs.AnswerLaws.{answers_means, refuses_verdict}
use Rattle.c_answers.specs.declared.refusal.Refusal.TheVariants as refusal
use Rattle.c_places.specs.Places.{IsAnswer}
use Rattle.c_places.proofs.GrowLaws.{refuses}
use Rattle.c_calls.specs.Arguments.{IsCallable}

-- the call, by the arguments that are there
abbrev passed_all : Callee → CType → CTypes → List ℕ → List rules.Typing → Judgement
passed_all c r ts ns xs =
    verdict (argument_faults (arguments (listed ts) (map value_of xs) ns)) (expression (result r (call_code c (map passed (arguments (listed ts) (map value_of xs) ns))) no_constant))

abbrev judged : Callee → CType → CTypes → ℕ → List ℕ → Option (List rules.Typing) → Bool → Judgement
judged c r ts n ns o fits = besides (broken_if (not fits) 15 n) (given o (passed_all c r ts ns))

called_is : (js : List Judgement) (n : Node) (c : Callee) (r : CType) (ts : CTypes)
    → called js n c (function r ts) ≡ judged c r ts n.id (other_kids n) (all_of (map (typing_at js) (other_kids n))) (length (listed ts) == length (other_kids n))
unfolding called
called_is js n c r ts = refl

pub wrong_count : (k : Known) (node : ℕ) (js : List Judgement) (n : Node) (c : Callee) (r : CType) (ts : CTypes) (nodes : List ℕ) → n.id ≡ node → other_kids n ≡ nodes
    → length (listed ts) ≢ length nodes → IsAnswer k (Err (refusal.Broken 15 node)) (called js n c (function r ts))
wrong_count k node js n c r ts nodes same kids other =
    subst (IsAnswer k (Err (refusal.Broken 15 node))) (sym (called_is js n c r ts))
    (subst (λ b. IsAnswer k (Err (refusal.Broken 15 node)) (judged c r ts n.id (other_kids n) (all_of (map (typing_at js) (other_kids n))) b))
    (sym (ap (λ ns. length (listed ts) == length ns) kids ∙ ne_eqb (length (listed ts)) (length nodes) other))
    (by (given (all_of (map (typing_at js) (other_kids n))) (passed_all c r ts (other_kids n)))))
  where
    by : (j : Judgement) → IsAnswer k (Err (refusal.Broken 15 node)) (besides (rule 15 n.id ∷ []) j)
    by (means m) = ([], ap (λ i. rule 15 i ∷ []) same)
    by (breaks_rules g gs) = (g ∷ gs, ap (λ i. rule 15 i ∷ g ∷ gs) same)
    by waits = ([], ap (λ i. rule 15 i ∷ []) same)

pub right_count : (js : List Judgement) (n : Node) (c : Callee) (r : CType) (ts : CTypes) (xs : List rules.Typing) (nodes : List ℕ) → other_kids n ≡ nodes
    → all_of (map (typing_at js) (other_kids n)) ≡ Some xs → length (listed ts) ≡ length nodes → called js n c (function r ts) ≡ passed_all c r ts nodes xs
right_count js n c r ts xs nodes kids are many =
    called_is js n c r ts
    ∙ ap (λ b. judged c r ts n.id (other_kids n) (all_of (map (typing_at js) (other_kids n))) b) (ap (λ ns. length (listed ts) == length ns) kids ∙ eq-eqb (length (listed ts)) (length nodes) many)
    ∙ ap (λ o. judged c r ts n.id (other_kids n) o true) are
    ∙ ap (λ ns. judged c r ts n.id ns (Some xs) true) kids

-- ---- refusals, and the code of a call

pub refused_call : (k : Known) (found : Result Typing Refusal) (refused : Refusal) (fs : List Fault) (m : Meaning) → IsErrAnd found (λ e. e ≡ refused) → IsFirst refused fs
    → IsAnswer k found (verdict fs m)
refused_call k (Ok x) refused fs m is h = absurd is
refused_call k (Err e) refused fs m is h = refuses_verdict (Expresses k 0) e fs m (subst (λ x. IsFirst x fs) (sym is) h)

pub made_call : (k : Known) (x : Typing) (c : Callee) (r : CType) (ts : CTypes) (xs : List rules.Typing) (nodes : List ℕ) (codes : List Expr) (code : Expr)
    → (argument_faults (arguments (listed ts) (map value_of xs) nodes) ≡ []) × (codes ≡ map passed (arguments (listed ts) (map value_of xs) nodes)) → code ≡ call_code c codes
    → Is k x (result r code no_constant) → IsAnswer k (Ok x) (passed_all c r ts nodes xs)
made_call k x c r ts xs nodes codes code (none, are) e is =
    answers_means (Expresses k 0) x (argument_faults (arguments (listed ts) (map value_of xs) nodes))
    (expression (result r (call_code c (map passed (arguments (listed ts) (map value_of xs) nodes))) no_constant)) none
    (subst (λ z. Is k x (result r z no_constant)) (e ∙ ap (call_code c) are) is, refl)

-- ---- what is called

pub not_callable : (k : Known) (node : ℕ) (js : List Judgement) (n : Node) (f : rules.Typing) (g : Form) → n.id ≡ node → form_of g ≡ f.form → ((c : CodeCallee) → g ≢ form.Callee c)
    → IsAnswer k (Err (refusal.Broken 16 node)) (call_by js n f f.form)
unfolding call_by
not_callable k node js n f form.Value same e none = subst (λ g. IsAnswer k (Err (refusal.Broken 16 node)) (call_by js n f g)) e (refuses k 16 n.id node [] same)
not_callable k node js n f (form.InLocal l) same e none = subst (λ g. IsAnswer k (Err (refusal.Broken 16 node)) (call_by js n f g)) e (refuses k 16 n.id node [] same)
not_callable k node js n f form.InMemory same e none = subst (λ g. IsAnswer k (Err (refusal.Broken 16 node)) (call_by js n f g)) e (refuses k 16 n.id node [] same)
not_callable k node js n f form.Temporary same e none = subst (λ g. IsAnswer k (Err (refusal.Broken 16 node)) (call_by js n f g)) e (refuses k 16 n.id node [] same)
not_callable k node js n f (form.Callee c) same e none = absurd (none c refl)

pub function_parts : (k : Known) (id : TypeId) (t : CType) → Names k id t → is_function t ≡ true → (r : CType) × (ts : CTypes) × Names k id (function r ts)
function_parts k id void named e = absurd (cc e)
function_parts k id (integer i) named e = absurd (cc e)
function_parts k id (pointer t) named e = absurd (cc e)
function_parts k id (array t m) named e = absurd (cc e)
function_parts k id (unsized t) named e = absurd (cc e)
function_parts k id (struct m) named e = absurd (cc e)
function_parts k id (function r ts) named e = (r, ts, named)

pub is_called : (g : rules.Form) (c : Callee) (t : CType) → rules.callee c ≡ g → IsCallable g t → is_function t ≡ true
is_called g c t e callable = subst (λ h. IsCallable h t) (sym e) callable

no_integer : (i : IntegerType) (gives : TypeId) (takes : List TypeId) → kind_of i ≡ kind.Function gives takes → ⊥
no_integer bool gives takes e = absurd (cc e)
no_integer char gives takes e = absurd (cc e)
no_integer schar gives takes e = absurd (cc e)
no_integer uchar gives takes e = absurd (cc e)
no_integer short gives takes e = absurd (cc e)
no_integer ushort gives takes e = absurd (cc e)
no_integer int gives takes e = absurd (cc e)
no_integer uint gives takes e = absurd (cc e)
no_integer long gives takes e = absurd (cc e)
no_integer ulong gives takes e = absurd (cc e)

one_kind : (k : Known) (id : TypeId) {a b : TypeKind} → Has k.table id a → Has k.table id b → a ≡ b
one_kind k id h i = let same = sym h ∙ i in cc same

-- each type that the id of a function names is a function
pub called_by_type : (k new : Known) (found : Result Typing Refusal) (js : List Judgement) (n : Node) (c : Callee) (id : TypeId) (t r : CType) (ts : CTypes) → Names k id (function r ts) → Names k id t
    → ((gives : CType) (takes : CTypes) → Names k id (function gives takes) → IsAnswer new found (called js n c (function gives takes))) → IsAnswer new found (called js n c t)
called_by_type k new found js n c id void r ts (gives, takes, has, a, b) named h = let same = one_kind k id has named in absurd (cc same)
called_by_type k new found js n c id (integer i) r ts (gives, takes, has, a, b) named h = absurd (no_integer i gives takes (one_kind k id named has))
called_by_type k new found js n c id (pointer t) r ts (gives, takes, has, a, b) (to, other, i) h = let same = one_kind k id has other in absurd (cc same)
called_by_type k new found js n c id (array t m) r ts (gives, takes, has, a, b) (element, other, i) h = let same = one_kind k id has other in absurd (cc same)
called_by_type k new found js n c id (unsized t) r ts function_named named h = absurd named
called_by_type k new found js n c id (struct m) r ts (gives, takes, has, a, b) (s, other, i) h = let same = one_kind k id has other in absurd (cc same)
called_by_type k new found js n c id (function gives takes) r ts function_named named h = h gives takes named

pub call_is : (k : Known) (found : Result Typing Refusal) (js : List Judgement) (n : Node) (f : rules.Typing) (c : Callee) → rules.callee c ≡ f.form → IsAnswer k found (called js n c f.type)
    → IsAnswer k found (call_by js n f f.form)
unfolding call_by
call_is k found js n f c e h = subst (λ g. IsAnswer k found (call_by js n f g)) e h
