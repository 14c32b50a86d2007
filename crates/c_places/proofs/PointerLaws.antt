-- Addresses, and what stands at one.
use Rattle.std.proofs.Common.{◌≡◌, ◌≢◌, ℕ, List, [], Option, None, Some, refl, sym, subst}
use Rattle.std.specs.Prelude.{Result, Ok, Err, option_map, not}
use Rattle.std.specs.Result.{IsErrAnd}
use Rattle.c_types.specs.declared.tree.Expr.{Expr}
use Rattle.std.specs.Option.{is_some}
use Rattle.c_types.specs.declared.kind.TypeId.{TypeId}
use Rattle.c_types.specs.declared.kind.Measure.{Measure}
use Rattle.c_typing.specs.Types.{CType, pointer, unsized, Layout, measure}
use Rattle.c_typing.specs.Places.{Node}
use Rattle.c_typing.specs.Judgements as rules
use Rattle.c_typing.specs.Judgements.{Fault, rule, Meaning, Judgement, means, breaks_rules, waits, verdict, faults_in, layouts, in_memory, no_constant}
use Rattle.c_typing.specs.Rules.{broken_if, incomplete_type}
use Rattle.c_typing.specs.Conversions.{valued}
use Rattle.c_typing.specs.Constants.{address_constant}
use Rattle.c_typing.specs.Expressions.{expression, address_operator, dereference}
use Rattle.c_type_ids.specs.declared.kinds.Kind.{Kind}
use Rattle.c_type_ids.specs.declared.kinds.Kind.TheVariants as kind
use Rattle.c_type_ids.specs.Ids.{Known, Names, Shows}
use Rattle.c_values.specs.declared.conversions.Shown.TheVariants as shown
use Rattle.c_constants.specs.declared.constants.Constant.{Constant}
use Rattle.c_constants.specs.declared.constants.Constant.TheVariants as no
use Rattle.c_constants.specs.Constants.{constant_of}
use Rattle.c_values.specs.declared.typings.«Type».{«Type» as TypeForm}
use Rattle.c_values.specs.declared.typings.«Type».TheVariants as type
use Rattle.c_values.specs.declared.typings.Form.{Form}
use Rattle.c_values.specs.declared.typings.Form.TheVariants as form
use Rattle.c_values.specs.declared.typings.Typing.{Typing}
use Rattle.c_values.specs.Typings.{ShownAs, form_of}
use Rattle.c_answers.specs.declared.refusal.Refusal.{Refusal}
use Rattle.c_answers.specs.declared.refusal.Refusal.TheVariants as refusal
use Rattle.c_answers.specs.Answers.{Answers, Expresses, IsFirst}
use Rattle.c_places.specs.Places.{IsAddressType, IsAnswer, IsPlaceType}
use Rattle.c_places.proofs.GrowLaws.{refuses, made}

-- ---- `&`

module _ (k : Known) (node : ℕ) (n : Node) (x : rules.Typing) (same : n.id ≡ node) where
  pub address_of_a_local : (l : ℕ) → rules.in_local l ≡ x.form → IsAnswer k (Err (refusal.Broken 11 node)) (address_operator n x)
  unfolding address_operator
  address_of_a_local l e =
      subst (λ (f : rules.Form). IsAnswer k (Err (refusal.Broken 11 node)) (address_operator n (record x { form = f }))) e (refuses k 11 n.id node [] same)

  pub address_in_memory : {A : Type 0} (P : A → Meaning → Type 0) (r : Result A Refusal) → in_memory ≡ x.form
      → Answers P r (means (expression (valued (pointer x.type) x.code (address_constant x.constant)))) → Answers P r (address_operator n x)
  unfolding address_operator
  address_in_memory P r e h = subst (λ (f : rules.Form). Answers P r (address_operator n (record x { form = f }))) e h

  pub no_address : (f : Form) → form_of f ≡ x.form → ((l : ℕ) → f ≢ form.InLocal l) → f ≢ form.InMemory → IsAnswer k (Err (refusal.Broken 12 node)) (address_operator n x)
  unfolding address_operator
  no_address form.Value e a b =
      subst (λ (f : rules.Form). IsAnswer k (Err (refusal.Broken 12 node)) (address_operator n (record x { form = f }))) e (refuses k 12 n.id node [] same)
  no_address (form.InLocal l) e a b = absurd (a l refl)
  no_address form.InMemory e a b = absurd (b refl)
  no_address form.Temporary e a b =
      subst (λ (f : rules.Form). IsAnswer k (Err (refusal.Broken 12 node)) (address_operator n (record x { form = f }))) e (refuses k 12 n.id node [] same)
  no_address (form.Callee c) e a b =
      subst (λ (f : rules.Form). IsAnswer k (Err (refusal.Broken 12 node)) (address_operator n (record x { form = f }))) e (refuses k 12 n.id node [] same)

-- ---- `*`

pub no_size : (k : Known) (ls : List Layout) (t : CType) (node : ℕ) (m : Meaning) → None ≡ option_map (λ (m : Measure). m.size) (measure ls t)
    → IsAnswer k (Err (refusal.Broken 5 node)) (verdict (incomplete_type ls t node) m)
no_size k ls t node m e = by (measure ls t) e
  where
    by : (o : Option Measure) → None ≡ option_map (λ (m : Measure). m.size) o → IsAnswer k (Err (refusal.Broken 5 node)) (verdict (broken_if (not (is_some o)) 5 node) m)
    by None e = ([], refl)
    by (Some size) e = absurd (cc e)

module _ (k : Known) (node : ℕ) (js : List Judgement) (n : Node) (y : rules.Typing) (same : n.id ≡ node) where
  pub to_known : {A : Type 0} (P : A → Meaning → Type 0) (r : Result A Refusal) (target : TypeId) (u : CType) → Shows k (kind.Pointer target) u
      → ((t : CType) → Names k target t → Answers P r (verdict (incomplete_type (layouts js) t node) (expression (made t in_memory y.code no_constant))))
      → Answers P r (dereference js n u y)
  unfolding dereference
  to_known P r target (pointer t) shows h =
      subst (λ i. Answers P r (verdict (incomplete_type (layouts js) t i) (expression (made t in_memory y.code no_constant)))) (sym same) (h t shows)
  to_known P r target u shows h = absurd shows

  pub to_unsized : (element : TypeId) (u : CType) → ShownAs k (shown.ToUnsized element) u → IsAnswer k (Err (refusal.Broken 5 node)) (dereference js n u y)
  unfolding dereference
  to_unsized element (pointer (unsized t)) shows = refuses k 5 n.id node [] same
  to_unsized element u shows = absurd shows

  pub no_value : (element : TypeId) (u : CType) → ShownAs k (shown.Unsized element) u → IsAnswer k (Err (refusal.Broken 13 node)) (dereference js n u y)
  unfolding dereference
  no_value element (unsized t) shows = refuses k 13 n.id node [] same
  no_value element u shows = absurd shows

  pub no_pointer : (K : Kind) (u : CType) → Shows k K u → ((target : TypeId) → K ≢ kind.Pointer target) → IsAnswer k (Err (refusal.Broken 13 node)) (dereference js n u y)
  unfolding dereference
  no_pointer (kind.Pointer target) u shows a = absurd (a target refl)
  no_pointer K (pointer t) shows a = absurd shows
  no_pointer K u shows a = refuses k 13 n.id node [] same

pub with_size : (k : Known) (ls : List Layout) (t : CType) (id : TypeId) (size node : ℕ) (address : Expr) → Names k id t → Some size ≡ option_map (λ (m : Measure). m.size) (measure ls t)
    → Answers (IsPlaceType k address) (Ok id) (verdict (incomplete_type ls t node) (expression (made t in_memory address no_constant)))
with_size k ls t id size node address named e = by (measure ls t) e
  where
    by : (o : Option Measure) → Some size ≡ option_map (λ (m : Measure). m.size) o
        → Answers (IsPlaceType k address) (Ok id) (verdict (broken_if (not (is_some o)) 5 node) (expression (made t in_memory address no_constant)))
    by None e = absurd (cc e)
    by (Some m) e = (t, named, refl)

-- ---- an expression by what has been found of it

pub answered : {A : Type 0} (k : Known) (P : A → Meaning → Type 0) (a : A) (x : Typing) (j : Judgement) → ((m : Meaning) → P a m → Expresses k 0 x m) → Answers P (Ok a) j → IsAnswer k (Ok x) j
answered k P a x (means m) f h = f m h
answered k P a x (breaks_rules g gs) f h = absurd h
answered k P a x waits f h = absurd h

pub handed_over : (k : Known) (found : Result Typing Refusal) (refused : Refusal) (j : Judgement) → IsErrAnd found (λ e. e ≡ refused) → IsFirst refused (faults_in j) → IsAnswer k found j
handed_over k (Ok x) refused j is h = absurd is
handed_over k (Err e) refused j is h = subst (λ x. IsFirst x (faults_in j)) (sym is) h

pub address_answered : (k : Known) (kind : TypeForm) (constant : Constant) (code : Expr) (x : rules.Typing) (j : Judgement) → constant_of constant ≡ address_constant x.constant → code ≡ x.code
    → Answers (IsAddressType k x) (Ok kind) j → IsAnswer k (Ok (record { kind = kind; form = form.Value; constant = constant; code = code })) j
address_answered k kind constant code x j p q h =
    answered k (IsAddressType k x) kind (record { kind = kind; form = form.Value; constant = constant; code = code }) j
    (λ m found. subst (λ z. Expresses k 0 (record { kind = kind; form = form.Value; constant = constant; code = code }) z) (sym found.1) (record { has = tt; type = found.0; form = refl; constant = p; code = q }, refl)) h

pub place_answered : (k : Known) (id : TypeId) (code : Expr) (y : rules.Typing) (j : Judgement) → code ≡ y.code
    → Answers (IsPlaceType k y.code) (Ok id) j → IsAnswer k (Ok (record { kind = type.Known id; form = form.InMemory; constant = no.None; code = code })) j
place_answered k id code y j q h =
    answered k (IsPlaceType k y.code) id (record { kind = type.Known id; form = form.InMemory; constant = no.None; code = code }) j
    (λ m found.
    subst (λ z. Expresses k 0 (record { kind = type.Known id; form = form.InMemory; constant = no.None; code = code }) z) (sym found.2)
    (record { has = tt; type = found.1; form = refl; constant = refl; code = q }, refl)) h
