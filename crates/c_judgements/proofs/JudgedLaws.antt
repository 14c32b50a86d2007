-- Judgements that are added, and what is taken from them.
use Rattle.std.proofs.Common.{◌≡◌, ◌≢◌, ◌++◌, ◌+◌, ◌<◌, ◌≤◌, ℕ, zero, suc, true, List, [], ◌∷◌, Option, Some, None, length, get_or, refl, sym, ap, ◌∙◌, subst, arith, ◌⊎◌, inl, inr}
use Rattle.std.specs.Prelude.{slice_set}
use Rattle.std.proofs.lemmas.List.{get_or_default, length-append, length-set, get_or_append_left, get_or-set_same, get_or-set_other}
use Rattle.std.proofs.Math.Seq.{get_or-append_seam}
use Rattle.std.proofs.lemmas.Option.{unwrap_or-slice_get}
use Rattle.std.proofs.lemmas.Bool.{cases_lt, false≢true}
use Rattle.c_types.specs.declared.tree.Stmt.{Stmt}
use Rattle.c_types.specs.declared.tree.Cell.{Cell}
use Rattle.c_typing.specs.Judgements as rules
use Rattle.c_typing.specs.Statements as statements
use Rattle.c_typing.specs.Judgements.{Judgement, judgement_at, waits}
use Rattle.c_typing.specs.Types.{Field, struct}
use Rattle.c_types.specs.declared.kind.TypeId.{TypeId}
use Rattle.c_type_ids.specs.Ids.{Known, Keeps, AreMembers}
use Rattle.c_type_ids.proofs.IdLaws.{names_grow}
use Rattle.c_values.proofs.GrowLaws.{is_grows, type_grows}
use Rattle.c_declared_types.proofs.StepLaws.{steps_grow}
use Rattle.c_values.specs.declared.typings.«Type».{«Type» as TypeForm}
use Rattle.c_values.specs.declared.typings.Typing.{Typing}
use Rattle.c_values.specs.Typings.{Is}
use Rattle.c_judgements.specs.declared.judged.Judged.{Judged}
use Rattle.c_judgements.specs.declared.judged.Judged.TheVariants as judged
use Rattle.c_judgements.specs.declared.judged.Item.{Item}
use Rattle.c_judgements.specs.declared.judged.Item.TheVariants as item
use Rattle.c_judgements.specs.Judged.{AreJudged, IsItem, IsJudged, has_code, has_cells, initialized_in, without_code, without_cells, taken}

at_end : (js : List Judgement) (j : Judgement) (n : ℕ) → n ≡ length js → judgement_at (js ++ j ∷ []) n ≡ j
at_end js j n e = unwrap_or-slice_get (js ++ j ∷ []) n waits ∙ ap (λ i. get_or (js ++ j ∷ []) i waits) e ∙ get_or-append_seam js j [] waits

before_end : (js : List Judgement) (j : Judgement) (n : ℕ) → n < length js → judgement_at (js ++ j ∷ []) n ≡ judgement_at js n
before_end js j n less = unwrap_or-slice_get (js ++ j ∷ []) n waits ∙ get_or_append_left js (j ∷ []) waits n less ∙ sym (unwrap_or-slice_get js n waits)

pub pushed : (k : Known) (slots : List Judged) (js : List Judgement) (s : Judged) (j : Judgement) → AreJudged k slots js → IsJudged k s j → AreJudged k (slots ++ s ∷ []) (js ++ j ∷ [])
pushed k slots js s j a h = record {
  long = length-append slots (s ∷ []) ∙ ap (λ n. n + 1) a.long ∙ sym (length-append js (j ∷ []));
  are = λ n less. by n (split n less);
}
  where
    split : (n : ℕ) → n < length (slots ++ s ∷ []) → (n < length slots) ⊎ (n ≡ length slots)
    split n less = or (cases_lt n (length slots)) (length-append slots (s ∷ [])) less
      where
        or : (n < length slots) ⊎ (length slots ≤ n) → length (slots ++ s ∷ []) ≡ length slots + 1 → n < length (slots ++ s ∷ []) → (n < length slots) ⊎ (n ≡ length slots)
        or (inl l) all less = inl l
        or (inr r) all less = inr (omega (arith, r, all, less))

    by : (n : ℕ) → (n < length slots) ⊎ (n ≡ length slots) → IsJudged k (get_or (slots ++ s ∷ []) n taken) (judgement_at (js ++ j ∷ []) n)
    by n (inl l) =
        let same = before_end js j n (subst (λ m. n < m) a.long l) in
        subst (λ x. IsJudged k x (judgement_at (js ++ j ∷ []) n)) (sym (get_or_append_left slots (s ∷ []) taken n l)) (subst (IsJudged k (get_or slots n taken)) (sym same) (a.are n l))
    by n (inr r) =
        let same = at_end js j n (r ∙ a.long) in
        let here = ap (λ i. get_or (slots ++ s ∷ []) i taken) r ∙ get_or-append_seam slots s [] taken in
        subst (λ x. IsJudged k x (judgement_at (js ++ j ∷ []) n)) (sym here) (subst (IsJudged k s) (sym same) h)

other_place : (a b : ℕ) → (a ≢ b) ⊎ (a ≡ b)
other_place a b = by (cases_lt a b) (cases_lt b a)
  where
    by : (a < b) ⊎ (b ≤ a) → (b < a) ⊎ (a ≤ b) → (a ≢ b) ⊎ (a ≡ b)
    by (inl l) o = inl (λ e. absurd (omega (arith, l, e)))
    by (inr r) (inl l) = inl (λ e. absurd (omega (arith, l, e)))
    by (inr r) (inr q) = inr (omega (arith, r, q))

-- a slot changes to one that is the same judgement
pub changed : (k : Known) (slots : List Judged) (js : List Judgement) (node : ℕ) (s : Judged) → node < length slots → AreJudged k slots js → IsJudged k s (judgement_at js node)
    → AreJudged k (slice_set slots node s) js
changed k slots js node s within a h = record {
  long = length-set slots node s ∙ a.long;
  are = λ n less. by n (subst (λ m. n < m) (length-set slots node s) less) (other_place n node);
}
  where
    by : (n : ℕ) → n < length slots → (n ≢ node) ⊎ (n ≡ node) → IsJudged k (get_or (slice_set slots node s) n taken) (judgement_at js n)
    by n less (inl other) = subst (λ x. IsJudged k x (judgement_at js n)) (sym (get_or-set_other slots node n s taken other)) (a.are n less)
    by n less (inr same) =
        subst (λ i. IsJudged k (get_or (slice_set slots node s) i taken) (judgement_at js i)) (sym same)
        (subst (λ x. IsJudged k x (judgement_at js node)) (sym (get_or-set_same slots node s taken within)) h)

-- what was taken is put back
pub restored : (slots : List Judged) (node : ℕ) (d s b : Judged) → b ≡ get_or slots node d → slice_set (slice_set slots node s) node b ≡ slots
restored [] node d s b e = refl
restored (x ∷ slots) zero d s b e = ap (λ y. y ∷ slots) e
restored (x ∷ slots) (suc node) d s b e = ap (λ ys. x ∷ ys) (restored slots node d s b e)

-- what stands in a slot is judged so
pub stands : (k : Known) (slots : List Judged) (js : List Judgement) (node : ℕ) (d s : Judged) → node < length slots → AreJudged k slots js → s ≡ get_or slots node d → IsJudged k s (judgement_at js node)
stands k slots js node d s within a e = subst (λ x. IsJudged k x (judgement_at js node)) (get_or_default slots node taken d within ∙ sym e) (a.are node within)

pub expressed : (k : Known) (x : Typing) (j : Judgement) → IsJudged k (judged.Expresses x) j → (y : rules.Typing) × (rules.typing_of j ≡ Some y) × Is k x y
expressed k x (rules.means (rules.expresses y hidden)) h = (y, refl, h)
expressed k x (rules.means _) h = absurd h
expressed k x (rules.breaks_rules f fs) h = absurd h
expressed k x waits h = absurd h

-- ---- kids of a `switch`

abbrev item_of : Judgement → Option statements.Item
item_of (rules.means (rules.labels w)) = Some (statements.a_label w)
item_of (rules.means (rules.performs ss)) = Some (statements.a_statement (statements.as_one ss))
item_of j = None

item_is : (js : List Judgement) (n : ℕ) → statements.item_at js n ≡ item_of (judgement_at js n)
item_is [] n = refl
item_is (j ∷ js) zero = by j
  where
    by : (j : Judgement) → statements.item_at (j ∷ js) zero ≡ item_of j
    by (rules.means (rules.labels w)) = refl
    by (rules.means (rules.performs ss)) = refl
    by (rules.means _) = refl
    by (rules.breaks_rules f fs) = refl
    by waits = refl
item_is (j ∷ js) (suc n) = item_is js n

-- a label, or a statement, is that of the rules
abbrev pub HasItem : Item → List Judgement → ℕ → Type 0
HasItem i js n = (r : statements.Item) × (statements.item_at js n ≡ Some r) × IsItem i r

pub label_item : (k : Known) (js : List Judgement) (n : ℕ) (w : Option ℕ) → IsJudged k (judged.Labels w) (judgement_at js n) → HasItem (item.Label w) js n
label_item k js n w h = let found = by (judgement_at js n) h in (found.0, item_is js n ∙ found.1, found.2)
  where
    by : (j : Judgement) → IsJudged k (judged.Labels w) j → (r : statements.Item) × (item_of j ≡ Some r) × IsItem (item.Label w) r
    by (rules.means (rules.labels v)) h = (statements.a_label v, refl, h)
    by (rules.means _) h = absurd h
    by (rules.breaks_rules f fs) h = absurd h
    by waits h = absurd h

pub statement_item : (k : Known) (js : List Judgement) (n : ℕ) (ss : List Stmt) → IsJudged k (judged.Performs ss) (judgement_at js n) → HasItem (item.Statements ss) js n
statement_item k js n ss h = let found = by (judgement_at js n) h in (found.0, item_is js n ∙ found.1, found.2)
  where
    by : (j : Judgement) → IsJudged k (judged.Performs ss) j → (r : statements.Item) × (item_of j ≡ Some r) × IsItem (item.Statements ss) r
    by (rules.means (rules.performs rs)) h = (statements.a_statement (statements.as_one rs), refl, ap statements.as_one h)
    by (rules.means _) h = absurd h
    by (rules.breaks_rules f fs) h = absurd h
    by waits h = absurd h

-- ---- declarators with their initializers

set_twice : (slots : List Judged) (node : ℕ) (a b : Judged) → slice_set (slice_set slots node a) node b ≡ slice_set slots node b
set_twice [] node a b = refl
set_twice (x ∷ slots) zero a b = refl
set_twice (x ∷ slots) (suc node) a b = ap (λ ys. x ∷ ys) (set_twice slots node a b)

-- the slot, with a part taken
pub part_left : (take : Judged → Judged) (slots : List Judged) (node : ℕ) (d a s b : Judged) → node < length slots → s ≡ get_or slots node d → take s ≡ b
    → slice_set (slice_set slots node a) node b ≡ slice_set slots node (take (get_or slots node taken))
part_left take slots node d a s b within e t =
    set_twice slots node a b ∙ ap (λ x. slice_set slots node x) (sym t ∙ ap take (e ∙ get_or_default slots node d taken within))

abbrev pub IsNoDeclarator : Judged → Type 0
IsNoDeclarator s = (kind : TypeForm) (code : Option (List Stmt)) (cells : Option (List Cell)) → s ≡ judged.Initialized kind code cells → ⊥

pub no_code : (s : Judged) → IsNoDeclarator s → without_code s ≡ s
no_code (judged.Initialized kind code cells) h = absurd (h kind code cells refl)
no_code _ h = refl

pub no_cells : (s : Judged) → IsNoDeclarator s → without_cells s ≡ s
no_cells (judged.Initialized kind code cells) h = absurd (h kind code cells refl)
no_cells _ h = refl

pub no_declarator_code : (k : Known) (s : Judged) (j : Judgement) → IsNoDeclarator s → has_code s ≡ true → IsJudged k s j → statements.declarator_code j ≡ None
no_declarator_code k (judged.Initialized kind code cells) j other there h = absurd (other kind code cells refl)
no_declarator_code k judged.Taken j other there h = absurd (false≢true there)
no_declarator_code k s (rules.means (rules.initialized t ss cs)) other there h = absurd h
no_declarator_code k s (rules.means _) other there h = refl
no_declarator_code k s (rules.breaks_rules f fs) other there h = refl
no_declarator_code k s waits other there h = refl

pub no_declarator_cells : (k : Known) (s : Judged) (j : Judgement) → IsNoDeclarator s → has_cells s ≡ true → IsJudged k s j → initialized_in j ≡ None
no_declarator_cells k (judged.Initialized kind code cells) j other there h = absurd (other kind code cells refl)
no_declarator_cells k judged.Taken j other there h = absurd (false≢true there)
no_declarator_cells k s (rules.means (rules.initialized t ss cs)) other there h = absurd h
no_declarator_cells k s (rules.means _) other there h = refl
no_declarator_cells k s (rules.breaks_rules f fs) other there h = refl
no_declarator_cells k s waits other there h = refl

-- ---- what is judged stays judged while types are added

members_grow : (old new : Known) → Keeps old new → (ms : List (List ℕ × TypeId)) (fs : List Field) → AreMembers old ms fs → AreMembers new ms fs
members_grow old new g [] [] h = tt
members_grow old new g (m ∷ ms) (f ∷ fs) h = (h.0, names_grow old new g.types g.structs m.1 f.type h.1, members_grow old new g ms fs h.2)
members_grow old new g [] (f ∷ fs) h = absurd h
members_grow old new g (m ∷ ms) [] h = absurd h

judged_grows : (old new : Known) → Keeps old new → (s : Judged) (j : Judgement) → IsJudged old s j → IsJudged new s j
judged_grows old new g (judged.«Type» kind) (rules.means (rules.a_type t)) h = type_grows old new g kind t h
judged_grows old new g (judged.Declares kind) (rules.means (rules.declares t)) h = type_grows old new g kind t h
judged_grows old new g (judged.Members ms) (rules.means (rules.members fs)) h = members_grow old new g ms fs h
judged_grows old new g (judged.Steps ss) (rules.means (rules.steps rs)) h = steps_grow old new g ss rs h
judged_grows old new g (judged.Expresses x) (rules.means (rules.expresses y hidden)) h = is_grows old new g x y h
judged_grows old new g (judged.Initialized kind code cells) (rules.means (rules.initialized t ss cs)) h = (type_grows old new g kind t h.0, h.1, h.2)
judged_grows old new g judged.Itself (rules.means rules.itself) h = tt
judged_grows old new g (judged.Struct id) (rules.means (rules.a_struct l)) h = names_grow old new g.types g.structs id (struct l.number) h
judged_grows old new g (judged.Enumerates w) (rules.means (rules.enumerates v)) h = h
judged_grows old new g judged.FillsArray (rules.means rules.fills_array) h = tt
judged_grows old new g (judged.Initial n cells) (rules.means (rules.initial count cs)) h = h
judged_grows old new g (judged.Performs code) (rules.means (rules.performs ss)) h = h
judged_grows old new g (judged.Labels w) (rules.means (rules.labels v)) h = h
judged_grows old new g (judged.Defines f) (rules.means (rules.defines d)) h = h
judged_grows old new g judged.BreaksRules (rules.breaks_rules f fs) h = tt
judged_grows old new g judged.Waits waits h = tt
judged_grows old new g judged.Taken j h = h
judged_grows old new g s j h = absurd h

pub all_grow : (old new : Known) → Keeps old new → (slots : List Judged) (js : List Judgement) → AreJudged old slots js → AreJudged new slots js
all_grow old new g slots js a = record { long = a.long; are = λ n less. judged_grows old new g (get_or slots n taken) (judgement_at js n) (a.are n less) }
