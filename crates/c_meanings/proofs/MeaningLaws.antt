-- What is taken from the judgements, and the next node.
use Rattle.std.proofs.Common.{◌≡◌, ◌≢◌, ◌⊎◌, inl, inr, ℕ, zero, suc, ◌+◌, ◌<◌, ◌≤◌, ◌++◌, Bool, true, false, List, [], ◌∷◌, Some, None, get_or, length, refl, sym, ap, subst, ◌∙◌, arith}
use Rattle.c_types.specs.declared.tree.Stmt.{Stmt}
use Rattle.std.specs.Prelude.{replicate, IfOk, MatchOption, Option, is_some, Result, Ok, Err, take, unwrap_or, ◌&&◌}
use Rattle.std.proofs.lemmas.List.{length-append, length-set, get_or_append_left, get_or-set_other, get_or-set_same, get_or_default, take_more}
use Rattle.std.proofs.lemmas.List.Elements.{filter_map-append}
use Rattle.std.proofs.lemmas.Option.{slice_get-get_or}
use Rattle.std.proofs.Math.Seq.{get_or-append_seam}
use Rattle.std.proofs.lemmas.Bool.{cases_lt, false≢true}
use Rattle.c_syntax.specs.declared.syntax.SynNode.{SynNode}
use Rattle.c_typing.specs.Places.{Node, node_at, is_braces, nowhere}
use Rattle.c_typing.specs.Judgements.{Judgement, Fault, judgement_at, typing_of, steps_of, code_of, typing_at, steps_at, code_at, faults_in, means, breaks_rules, waits}
use Rattle.c_typing.specs.Judgements as rules
use Rattle.c_typing.specs.Names.{Places}
use Rattle.c_typing.specs.Typing.{judged_by, judged_from}
use Rattle.c_syntax.specs.declared.kind.SynKind.{SynKind}
use Rattle.c_nodes.specs.Parents.{nodes_in, tree_in}
use Rattle.c_names.specs.Denoted.{IsDerived, places_in}
use Rattle.c_type_ids.specs.Ids.{Known, AreLaid, Grows, LaidAs, struct_by}
use Rattle.c_type_ids.proofs.TableLaws.{grows_same}
use Rattle.c_values.specs.declared.typings.Typing.{Typing}
use Rattle.c_typing.specs.Types.{Layout}
use Rattle.c_answers.specs.declared.refusal.Refusal.{Refusal}
use Rattle.c_answers.specs.declared.refusal.Refusal.TheVariants as refusal
use Rattle.c_answers.specs.Answers.{Answers, Expresses}
use Rattle.c_judgements.specs.declared.judged.Judged.{Judged}
use Rattle.c_judgements.specs.declared.judged.Judged.TheVariants as judged
use Rattle.c_judgements.specs.declared.judged.Judgements.{Judgements}
use Rattle.c_judgements.specs.Judged.{AreJudged, IsJudged, IsLeft, is_owned, is_taken, has_cells, has_code, taken}
use Rattle.c_judgements.proofs.JudgedLaws.{all_grow, changed, pushed, stands}
use Rattle.c_declared_types.specs.declared.steps.Steps.{Steps}
use Rattle.c_declared_types.specs.Steps.{AreSteps}
use Rattle.c_values.specs.Typings.{Is}
use Rattle.c_meanings.specs.declared.meanings.Meanings.{Meanings}
use Rattle.c_typing.proofs.ProgressKids.{tiled}
use Rattle.c_meanings.proofs.KidLaws.{KidIs, has_kids, kid_after, kid_is, least_kids, node_there}
use Rattle.c_meanings.specs.Meanings.{as_code, as_expression, AreLeft, HasKids, IsAnswered, IsFree, IsReady, IsRow, IsSlot, MayTake, kid_in, is_whole, is_whole_at, judged_at, judged_to, keeps_cells, node_in, slots_of}

and_right : (a b : Bool) → (a && b) ≡ true → b ≡ true
and_right true b e = e
and_right false b e = absurd (false≢true e)

other_place : (a b : ℕ) → (a ≢ b) ⊎ (a ≡ b)
other_place a b = by (cases_lt a b) (cases_lt b a)
  where
    by : (a < b) ⊎ (b ≤ a) → (b < a) ⊎ (a ≤ b) → (a ≢ b) ⊎ (a ≡ b)
    by (inl l) o = inl (λ e. absurd (omega (arith, l, e)))
    by (inr r) (inl l) = inl (λ e. absurd (omega (arith, l, e)))
    by (inr r) (inr q) = inr (omega (arith, r, q))

-- ---- what may be taken

pub typing_owned : (j : Judgement) (y : rules.Typing) → typing_of j ≡ Some y → is_owned j ≡ true
typing_owned (means (rules.expresses x h)) y e = refl
typing_owned j y e = absurd (cc e)

pub steps_owned : (j : Judgement) (ss : List rules.PlacedStep) → steps_of j ≡ Some ss → is_owned j ≡ true
steps_owned (means (rules.steps ss)) y e = refl
steps_owned j y e = absurd (cc e)

performed_owned : (j : Judgement) (code : List Stmt) → code_of j ≡ Some code → is_owned j ≡ true
performed_owned (means (rules.performs ss)) code e = refl
performed_owned j code e = absurd (cc e)

-- ---- a slot is taken

module _ (table : List SynNode) (n k : ℕ) (parent : (node_in table k).parent ≡ n) (other : is_braces (node_in table n).label.kind ≡ false) where
  -- no later node may want it
  unfree : (i : ℕ) → IsFree table (suc n) i → i ≢ k
  unfree i (inl later) same = absurd (omega (arith, later, ap (λ j. (node_in table j).parent) same, parent))
  unfree i (inr (in_braces, later)) same = absurd (false≢true (sym other ∙ ap (λ j. is_braces (node_in table j).label.kind) (sym (ap (λ j. (node_in table j).parent) same ∙ parent)) ∙ in_braces))

  module _ (low : ℕ) (m : Meanings) (r : IsReady table n low m) (least : low ≤ k) (less : k < n) (js : Judgements) where
    abbrev pub new : Meanings
    new = record { types = m.types; judged = js }

    slot_kept : (b : Bool) → IsLeft (slots_of m) k b js.slots.items → (i : ℕ) → i ≢ k → get_or js.slots.items i taken ≡ get_or (slots_of m) i taken
    slot_kept true left i differs = ap (λ slots. get_or slots i taken) left ∙ get_or-set_other (slots_of m) k i taken taken differs
    slot_kept false left i differs = ap (λ slots. get_or slots i taken) left

    judged_kept : (b : Bool) → IsLeft (slots_of m) k b js.slots.items → (b ≡ true → is_owned (judgement_at (judged_to table n) k) ≡ true) → AreJudged m.types js.slots.items (judged_to table n)
    judged_kept true left owned =
        subst (λ slots. AreJudged m.types slots (judged_to table n)) (sym left)
        (changed m.types (slots_of m) (judged_to table n) k taken (let long = r.long in omega (arith, less, long)) r.judged (owned refl))
    judged_kept false left owned = subst (λ slots. AreJudged m.types slots (judged_to table n)) (sym left) r.judged

    long_kept : (b : Bool) → IsLeft (slots_of m) k b js.slots.items → length js.slots.items ≡ n
    long_kept true left = ap length left ∙ length-set (slots_of m) k taken ∙ r.long
    long_kept false left = ap length left ∙ r.long

    cells_kept : (b : Bool) → IsLeft (slots_of m) k b js.slots.items → (i : ℕ) → i < n → keeps_cells (get_or js.slots.items i taken) ≡ true
    cells_kept b left i within = by (other_place i k)
      where
        here : (b : Bool) → IsLeft (slots_of m) k b js.slots.items → keeps_cells (get_or js.slots.items k taken) ≡ true
        here true e = ap (λ slots. keeps_cells (get_or slots k taken)) e ∙ ap keeps_cells (get_or-set_same (slots_of m) k taken taken (let long = r.long in omega (arith, less, long)))
        here false e = ap (λ slots. keeps_cells (get_or slots k taken)) e ∙ r.cells k less

        by : (i ≢ k) ⊎ (i ≡ k) → keeps_cells (get_or js.slots.items i taken) ≡ true
        by (inl differs) = ap keeps_cells (slot_kept b left i differs) ∙ r.cells i within
        by (inr same) = ap (λ j. keeps_cells (get_or js.slots.items j taken)) same ∙ here b left

    pub took_left : (b : Bool) → IsLeft (slots_of m) k b js.slots.items → AreLeft table n m new
    took_left b left i within free = slot_kept b left i (unfree i free)

    pub took_ready : (b : Bool) → IsLeft (slots_of m) k b js.slots.items → (b ≡ true → is_owned (judgement_at (judged_to table n) k) ≡ true) → IsReady table n (k + 1) new
    took_ready b left owned = record {
      derived = r.derived;
      nodes = r.nodes;
      judged = judged_kept b left owned;
      long = long_kept b left;
      laid = r.laid;
      room = r.room;
      whole = λ i within free own. by i within free own (other_place i k);
      cells = cells_kept b left;
    }
      where
        by : (i : ℕ) → i < n → IsFree table n i → ((node_in table i).parent ≡ n → k + 1 ≤ i) → (i ≢ k) ⊎ (i ≡ k) → is_whole_at new i ≡ true
        by i within free own (inl differs) = ap is_whole (slot_kept b left i differs) ∙ r.whole i within free (λ e. let h = own e in omega (arith, least, h))
        by i within free own (inr same) = let h = own (ap (λ j. (node_in table j).parent) same ∙ parent) in absurd (omega (arith, h, same))

-- what is there has not been taken
pub not_taken : (s : Judged) → is_whole s ≡ true → is_taken s ≡ false
not_taken judged.Taken e = absurd (false≢true e)
not_taken s e = refl

-- the kid that is to be taken next is there
pub is_there : (table : List SynNode) (n low k : ℕ) (m : Meanings) → IsReady table n low m → low ≤ k → k < n → (node_in table k).parent ≡ n → is_taken (get_or (slots_of m) k taken) ≡ false
is_there table n low k m r least less parent =
    not_taken (get_or (slots_of m) k taken) (r.whole k less (inl (omega (arith, parent))) (λ e. least))

-- a kid has been judged
pub kid_within : (table : List SynNode) (n low index k : ℕ) (m : Meanings) → n < length table → HasKids table n (suc index) → IsReady table n low m → k ≡ kid_in table n index → k < length (slots_of m)
kid_within table n low index k m within has r e =
    let nodes = r.nodes in
    let less = (kid_is table n r.derived (omega (arith, within, nodes)) index has).less in
    let long = r.long in
    omega (arith, e, less, long)

-- ---- the kid of an index is taken

module _ (table : List SynNode) (n index : ℕ) (m : Meanings) (within : n < length table) (has : HasKids table n (suc index)) (may : MayTake table n index m) where
  its : KidIs table n (kid_in table n index)
  its = let nodes = may.2.nodes in kid_is table n may.2.derived (omega (arith, within, nodes)) index has

  pub take_within : (k : ℕ) → k ≡ kid_in table n index → k < length (slots_of m)
  take_within k e = let long = may.2.long in let less = its.less in omega (arith, e, long, less)

  pub take_there : (k : ℕ) → k ≡ kid_in table n index → is_taken (get_or (slots_of m) k taken) ≡ false
  take_there k e = subst (λ i. is_taken (get_or (slots_of m) i taken) ≡ false) (sym e) (is_there table n may.0 (kid_in table n index) m may.2 may.1 its.less its.parent)

  pub take_whole : (k : ℕ) → k ≡ kid_in table n index → is_whole_at m k ≡ true
  take_whole k e = subst (λ i. is_whole_at m i ≡ true) (sym e) (may.2.whole (kid_in table n index) its.less (inl (let parent = its.parent in omega (arith, parent))) (λ same. may.1))

  -- what is read there
  module _ (k : ℕ) (e : k ≡ kid_in table n index) (d s : Judged) (read : s ≡ get_or (slots_of m) k d) where
    pub judged_there : IsJudged m.types s (judgement_at (judged_to table n) (kid_in table n index))
    judged_there = subst (λ i. IsJudged m.types s (judgement_at (judged_to table n) i)) e (stands m.types (slots_of m) (judged_to table n) k d s (take_within k e) may.2.judged read)

    pub untaken_there : is_taken s ≡ false
    untaken_there = ap is_taken (read ∙ get_or_default (slots_of m) k d taken (take_within k e)) ∙ take_there k e

  module _ (other : is_braces (node_in table n).label.kind ≡ false) (js : Judgements) (b : Bool) (k : ℕ) (e : k ≡ kid_in table n index) (left : IsLeft (slots_of m) k b js.slots.items) where
    own_left : IsLeft (slots_of m) (kid_in table n index) b js.slots.items
    own_left = subst (λ i. IsLeft (slots_of m) i b js.slots.items) e left

    pub take_ready : (b ≡ true → is_owned (judgement_at (judged_to table n) k) ≡ true) → IsReady table n (kid_in table n index + 1) (record { types = m.types; judged = js })
    take_ready owned =
        took_ready table n (kid_in table n index) its.parent other may.0 m may.2 may.1 its.less js b own_left
        (λ t. subst (λ i. is_owned (judgement_at (judged_to table n) i) ≡ true) e (owned t))

    pub take_left : AreLeft table n m (record { types = m.types; judged = js })
    take_left = took_left table n (kid_in table n index) its.parent other may.0 m may.2 may.1 its.less js b own_left

-- what stands there, where it has not been taken
pub code_seen : (k : Known) (code : List Stmt) (j : Judgement) → IsJudged k (judged.Performs code) j → is_some (code_of j) ≡ true
code_seen k code (means (rules.performs ss)) is = refl
code_seen k code (means m) is = absurd is
code_seen k code (breaks_rules f fs) is = absurd is
code_seen k code waits is = absurd is

pub no_code_seen : (k : Known) (s : Judged) (j : Judgement) → ((code : List Stmt) → s ≢ judged.Performs code) → is_taken s ≡ false → IsJudged k s j → is_some (code_of j) ≡ false
no_code_seen k (judged.Performs code) j other there is = absurd (other code refl)
no_code_seen k judged.Taken j other there is = absurd (false≢true (sym there))
no_code_seen k s (means (rules.performs ss)) other there is = absurd is
no_code_seen k s (means m) other there is = refl
no_code_seen k s (breaks_rules f fs) other there is = refl
no_code_seen k s waits other there is = refl

pub no_operand_seen : (k : Known) (s : Judged) (j : Judgement) → ((x : Typing) → s ≢ judged.Expresses x) → is_taken s ≡ false → IsJudged k s j → typing_of j ≡ None
no_operand_seen k (judged.Expresses x) j other there is = absurd (other x refl)
no_operand_seen k judged.Taken j other there is = absurd (false≢true (sym there))
no_operand_seen k s (means (rules.expresses y h)) other there is = absurd is
no_operand_seen k s (means m) other there is = refl
no_operand_seen k s (breaks_rules f fs) other there is = refl
no_operand_seen k s waits other there is = refl

pub operand_owned : (k : Known) (found : Option Typing) (js : List Judgement) (n : ℕ) → MatchOption found (typing_at js n ≡ None) (λ x. (y : rules.Typing) × (typing_at js n ≡ Some y) × Is k x y)
    → is_some found ≡ true → is_owned (judgement_at js n) ≡ true
operand_owned k (Some x) js n (y, e, is) t = typing_owned (judgement_at js n) y e
operand_owned k None js n h t = absurd (false≢true t)

-- the operand that is there
pub operand_is : (k : Known) (x : Typing) (js : List Judgement) (n m : ℕ) → n ≡ m → (y : rules.Typing) × (typing_at js n ≡ Some y) × Is k x y → (y : rules.Typing) → typing_at js m ≡ Some y → Is k x y
operand_is k x js n m e (z, f, is) y g = let same : z ≡ y = cc (sym f ∙ ap (typing_at js) e ∙ g) in subst (Is k x) same is

pub operand_there : (k : Known) (x : Typing) (js : List Judgement) (n : ℕ) → is_some (typing_at js n) ≡ true → ((y : rules.Typing) → typing_at js n ≡ Some y → Is k x y) → (y : rules.Typing) × Is k x y
operand_there k x js n there is = by (typing_at js n) there is
  where
    by : (o : Option rules.Typing) → is_some o ≡ true → ((y : rules.Typing) → o ≡ Some y → Is k x y) → (y : rules.Typing) × Is k x y
    by (Some y) e h = (y, h y refl)
    by None e h = absurd (false≢true e)

pub some_there : {A : Type 0} (o : Option A) → o ≡ None → is_some o ≡ true → ⊥
some_there o none e = false≢true (ap is_some (sym none) ∙ e)

pub code_owned : (found : Option (List Stmt)) (js : List Judgement) (n : ℕ) → MatchOption found (code_at js n ≡ None) (λ code. code_at js n ≡ Some code) → is_some found ≡ true → is_owned (judgement_at js n) ≡ true
code_owned (Some code) js n e t = performed_owned (judgement_at js n) code e
code_owned None js n h t = absurd (false≢true t)

pub steps_taken : (k : Known) (found : Option Steps) (js : List Judgement) (n : ℕ) → MatchOption found (steps_at js n ≡ None) (λ ss. (rs : List rules.PlacedStep) × (steps_at js n ≡ Some rs) × AreSteps k ss rs)
    → is_some found ≡ true → is_owned (judgement_at js n) ≡ true
steps_taken k (Some x) js n (rs, e, is) t = steps_owned (judgement_at js n) rs e
steps_taken k None js n h t = absurd (false≢true t)

-- ---- the next node

from_more : (p : Places) (js : List Judgement) (xs : List Node) (y : Node) → judged_from p js (xs ++ y ∷ []) ≡ judged_from p js xs ++ judged_by p (judged_from p js xs) y y.label.kind ∷ []
unfolding judged_from
from_more p js [] y = refl
from_more p js (x ∷ xs) y = from_more p (js ++ judged_by p js x x.label.kind ∷ []) xs y

node_got : (s : List Node) (n : ℕ) → n < length s → get_or s n nowhere ≡ node_at s n
node_got s n within = ap (λ o. unwrap_or o nowhere) (sym (slice_get-get_or s n nowhere within))

pub next_judged : (table : List SynNode) (n : ℕ) → n < length (nodes_in table) → judged_to table (n + 1) ≡ judged_to table n ++ judged_at table n ∷ []
unfolding judged_to judged_at
next_judged table n within =
    ap (judged_from (places_in table) []) (take_more (nodes_in table) n nowhere within ∙ ap (λ y. take n (nodes_in table) ++ y ∷ []) (node_got (nodes_in table) n within))
    ∙ from_more (places_in table) [] (take n (nodes_in table)) (node_in table n)

broken : (j : Judgement) (f : Fault) (others : List Fault) (k : Known) → faults_in j ≡ f ∷ others → IsJudged k judged.BreaksRules j
broken (breaks_rules g gs) f others k e = tt
broken (means m) f others k e = absurd (cc e)
broken waits f others k e = absurd (cc e)

slot_judged : (k : Known) (answer : Result Judged Refusal) (s : Judged) (j : Judgement) → IsAnswered k answer j → IsSlot answer s → IsJudged k s j × (is_whole s ≡ true) × (keeps_cells s ≡ true)
slot_judged k (Ok a) s j (none, is, whole) same = subst (λ x. IsJudged k x j × (is_whole x ≡ true) × (keeps_cells x ≡ true)) (sym same) (is, whole, kept a whole)
  where
    kept : (a : Judged) → is_whole a ≡ true → keeps_cells a ≡ true
    kept judged.Taken e = refl
    kept a e = and_right (has_code a) (has_cells a) e
slot_judged k (Err refusal.OutOfMemory) s j first same = absurd same
slot_judged k (Err (refusal.Broken r n)) s j (others, first) same = subst (λ x. IsJudged k x j × (is_whole x ≡ true) × (keeps_cells x ≡ true)) (sym same) (broken j _ others k first, refl, refl)
slot_judged k (Err (refusal.TooBig n size)) s j (others, first) same = subst (λ x. IsJudged k x j × (is_whole x ≡ true) × (keeps_cells x ≡ true)) (sym same) (broken j _ others k first, refl, refl)

slot_told : (answer : Result Judged Refusal) (s : Judged) → IsSlot answer s → answer ≢ Err refusal.OutOfMemory
slot_told (Ok a) s same e = absurd (cc e)
slot_told (Err refusal.OutOfMemory) s same e = same
slot_told (Err (refusal.Broken r n)) s same e = absurd (cc e)
slot_told (Err (refusal.TooBig n size)) s same e = absurd (cc e)

free_before : (table : List SynNode) (n i : ℕ) → IsFree table (n + 1) i → IsFree table n i
free_before table n i (inl later) = inl (omega (arith, later))
free_before table n i (inr (in_braces, later)) = inr (in_braces, omega (arith, later))

free_next : (table : List SynNode) (n i : ℕ) → IsFree table (n + 1) i → IsFree table (suc n) i
free_next table n i free = let same : n + 1 ≡ suc n = omega arith in subst (λ k. IsFree table k i) same free

module _ (table : List SynNode) (n : ℕ) (old new : Meanings) (answer : Result Judged Refusal) (s : Judged) (r : IsReady table n 0 old) (within : n < length table) (row : IsRow table n old new answer) (slot : IsSlot answer s) (js : Judgements) (is : js.slots.items ≡ slots_of new ++ s ∷ []) where
  inside : n < length (nodes_in table)
  inside = let nodes = r.nodes in omega (arith, within, nodes)

  abbrev pub after : Meanings
  after = record { types = new.types; judged = js }

  new_long : length (slots_of new) ≡ n
  new_long = row.judged.long ∙ sym r.judged.long ∙ r.long

  own : IsJudged new.types s (judged_at table n) × (is_whole s ≡ true) × (keeps_cells s ≡ true)
  own = slot_judged new.types answer s (judged_at table n) row.answered slot

  place : (i : ℕ) → i < n + 1 → (i < n) ⊎ (i ≡ n)
  place i less = by (cases_lt i n)
    where
      by : (i < n) ⊎ (n ≤ i) → (i < n) ⊎ (i ≡ n)
      by (inl l) = inl l
      by (inr q) = inr (omega (arith, less, q))

  before_it : (i : ℕ) → i < n → get_or js.slots.items i taken ≡ get_or (slots_of new) i taken
  before_it i less = ap (λ slots. get_or slots i taken) is ∙ get_or_append_left (slots_of new) (s ∷ []) taken i (let long = new_long in omega (arith, less, long))

  at_it : (i : ℕ) → i ≡ n → get_or js.slots.items i taken ≡ s
  at_it i same = ap (λ slots. get_or slots i taken) is ∙ ap (λ k. get_or (slots_of new ++ s ∷ []) k taken) (same ∙ sym new_long) ∙ get_or-append_seam (slots_of new) s [] taken

  whole_after : (i : ℕ) → IsFree table (n + 1) i → (i < n) ⊎ (i ≡ n) → is_whole_at after i ≡ true
  whole_after i free (inl less) =
      ap is_whole (before_it i less ∙ row.left i less (free_next table n i free)) ∙ r.whole i less (free_before table n i free) (λ e. omega arith)
  whole_after i free (inr same) = ap is_whole (at_it i same) ∙ own.1

  cells_after : (i : ℕ) → (i < n) ⊎ (i ≡ n) → keeps_cells (get_or js.slots.items i taken) ≡ true
  cells_after i (inl less) = ap keeps_cells (before_it i less) ∙ row.cells i less
  cells_after i (inr same) = ap keeps_cells (at_it i same) ∙ own.2

  pub pushed_ready : IsReady table (n + 1) 0 after
  pushed_ready = record {
    derived = r.derived;
    nodes = r.nodes;
    judged =
        subst (λ xs. AreJudged new.types xs (judged_to table (n + 1))) (sym is)
        (subst (AreJudged new.types (slots_of new ++ s ∷ [])) (sym (next_judged table n inside)) (pushed new.types (slots_of new) (judged_to table n) s (judged_at table n) row.judged own.0));
    long = ap length is ∙ length-append (slots_of new) (s ∷ []) ∙ ap (λ k. k + 1) new_long;
    laid = row.laid (slot_told answer s slot);
    room = row.room;
    whole = λ i less free low. whole_after i free (place i less);
    cells = λ i less. cells_after i (place i less);
  }

-- before the first node
pub no_structs : (k : Known) (count : ℕ) → k.structs ≡ replicate count None → AreLaid k []
no_structs k count e = λ node. subst (λ o. LaidAs k o None) (sym (ap (λ structs. struct_by structs node) e ∙ by count node)) tt
  where
    by : (count node : ℕ) → struct_by (replicate count None) node ≡ None
    by zero node = refl
    by (suc count) zero = refl
    by (suc count) (suc node) = by count node

pub first_ready : (table : List SynNode) (m : Meanings) → IsDerived table → length (nodes_in table) ≡ length table → AreJudged m.types (slots_of m) [] → AreLaid m.types [] → length m.types.structs ≡ length table → IsReady table 0 0 m
unfolding judged_to judged_from
first_ready table m derived nodes judged laid room = record {
  derived = derived;
  nodes = nodes;
  judged = judged;
  long = judged.long;
  laid = laid;
  room = room;
  whole = λ k less. absurd (omega (arith, less));
  cells = λ k less. absurd (omega (arith, less));
}

-- ---- rows

no_layout : (j : Judgement) (f : Fault) (others : List Fault) → faults_in j ≡ f ∷ others → rules.layout_in j ≡ None
no_layout (breaks_rules g gs) f others e = refl
no_layout (means m) f others e = absurd (cc e)
no_layout waits f others e = absurd (cc e)

abbrev pub is_struct_answer : Result Judged Refusal → Bool
is_struct_answer (Ok (judged.Struct id)) = true
is_struct_answer answer = false

laid_alone : (k : Known) (answer : Result Judged Refusal) (j : Judgement) → IsAnswered k answer j → is_struct_answer answer ≡ false → answer ≢ Err refusal.OutOfMemory → rules.layout_in j ≡ None
laid_alone k (Ok s) (means (rules.a_struct l)) (none, is, whole) other known = struct_slot s is other
  where
    struct_slot : (s : Judged) → IsJudged k s (means (rules.a_struct l)) → is_struct_answer (Ok s) ≡ false → rules.layout_in (means (rules.a_struct l)) ≡ None
    struct_slot (judged.Struct id) is other = absurd (false≢true (sym other))
    struct_slot judged.Taken is other = absurd (false≢true is)
    struct_slot s is other = absurd is
laid_alone k (Ok s) (means m) (none, is, whole) other known = refl
laid_alone k (Ok s) (breaks_rules f fs) (none, is, whole) other known = refl
laid_alone k (Ok s) waits (none, is, whole) other known = refl
laid_alone k (Err refusal.OutOfMemory) j first other known = absurd (known refl)
laid_alone k (Err (refusal.Broken r n)) j (others, first) other known = no_layout j _ others first
laid_alone k (Err (refusal.TooBig n size)) j (others, first) other known = no_layout j _ others first

no_layout_of : (j : Judgement) → rules.layout_in j ≡ None → rules.layouts (j ∷ []) ≡ []
no_layout_of (means (rules.a_struct l)) none = absurd (cc none)
no_layout_of (means m) none = refl
no_layout_of (breaks_rules f fs) none = refl
no_layout_of waits none = refl

layouts_next : (js : List Judgement) (j : Judgement) → rules.layout_in j ≡ None → rules.layouts (js ++ j ∷ []) ≡ rules.layouts js
layouts_next js j none = filter_map-append rules.layout_in js (j ∷ []) ∙ ap (λ ls. rules.layouts js ++ ls) (no_layout_of j none) ∙ right_nil (rules.layouts js)
  where
    right_nil : (ls : List Layout) → ls ++ [] ≡ ls
    right_nil [] = refl
    right_nil (l ∷ ls) = ap (λ rest. l ∷ rest) (right_nil ls)

-- what is left twice is left
pub left_on : (table : List SynNode) (n : ℕ) (a b c : Meanings) → AreLeft table n a b → AreLeft table n b c → AreLeft table n a c
left_on table n a b c first second = λ k less free. second k less free ∙ first k less free

pub nothing_taken : (table : List SynNode) (n : ℕ) (m : Meanings) → AreLeft table n m m
nothing_taken table n m = λ k less free. refl

-- the table of types may grow
pub ready_grows : (table : List SynNode) (n low : ℕ) (old new : Meanings) → IsReady table n low old → slots_of new ≡ slots_of old → Grows old.types new.types → IsReady table n low new
ready_grows table n low old new r same grows = record {
  derived = r.derived;
  nodes = r.nodes;
  judged = subst (λ slots. AreJudged new.types slots (judged_to table n)) (sym same) (all_grow old.types new.types grows.keeps (slots_of old) (judged_to table n) r.judged);
  long = ap length same ∙ r.long;
  laid = grows.laid (rules.layouts (judged_to table n)) r.laid;
  room = grows.keeps.long ∙ r.room;
  whole = λ k less free low. ap (λ slots. is_whole (get_or slots k taken)) same ∙ r.whole k less free low;
  cells = λ k less. ap (λ slots. keeps_cells (get_or slots k taken)) same ∙ r.cells k less;
}

-- a row that has taken what it wants, and then makes types
pub grown_row : (table : List SynNode) (n low : ℕ) (old mid new : Meanings) (answer : Result Judged Refusal) → IsReady table n low mid → n < length table
    → AreLeft table n old mid → slots_of new ≡ slots_of mid → Grows mid.types new.types → is_struct_answer answer ≡ false → IsAnswered new.types answer (judged_at table n)
    → IsRow table n old new answer
grown_row table n low old mid new answer r within left same grows other answered = record {
  answered = answered;
  judged = subst (λ slots. AreJudged new.types slots (judged_to table n)) (sym same) (all_grow mid.types new.types grows.keeps (slots_of mid) (judged_to table n) r.judged);
  laid = λ known.
      subst (AreLaid new.types)
      (sym (ap rules.layouts (next_judged table n (let nodes = r.nodes in omega (arith, within, nodes))) ∙ layouts_next (judged_to table n) (judged_at table n) (laid_alone new.types answer (judged_at table n) answered other known)))
      (grows.laid (rules.layouts (judged_to table n)) r.laid);
  room = grows.keeps.long ∙ r.room;
  left = λ k less free. ap (λ slots. get_or slots k taken) same ∙ left k less free;
  cells = λ k less. ap (λ slots. keeps_cells (get_or slots k taken)) same ∙ r.cells k less;
}

-- a row that takes nothing and makes no type
pub plain_row : (table : List SynNode) (n low : ℕ) (m : Meanings) (answer : Result Judged Refusal) → IsReady table n low m → n < length table
    → is_struct_answer answer ≡ false → IsAnswered m.types answer (judged_at table n) → IsRow table n m m answer
plain_row table n low m answer r within other answered =
    grown_row table n low m m m answer r within (nothing_taken table n m) refl (grows_same m.types m.types refl) other answered

-- ---- expressions

pub expression_answered : (k : Known) (hidden : ℕ) (found : Result Typing Refusal) (j : Judgement) → Answers (Expresses k hidden) found j → IsAnswered k (as_expression found) j
expression_answered k hidden (Ok x) (means (rules.expresses y h)) e = (refl, e.0, refl)
expression_answered k hidden (Ok x) (means m) e = absurd e
expression_answered k hidden (Ok x) (breaks_rules f fs) e = absurd e
expression_answered k hidden (Ok x) waits e = absurd e
expression_answered k hidden (Err refused) j e = e

pub expression_alone : (found : Result Typing Refusal) → is_struct_answer (as_expression found) ≡ false
expression_alone (Ok x) = refl
expression_alone (Err refused) = refl

-- nothing is meant where a part has no meaning
pub waits_answered : (k : Known) (j : Judgement) → j ≡ waits → IsAnswered k (Ok judged.Waits) j
waits_answered k j same = subst (IsAnswered k (Ok judged.Waits)) (sym same) (refl, tt, refl)

-- ---- statements

pub code_answered : {E : Type 0} → (k : Known) (found : Result (List Stmt) E) (ss : List Stmt) (j : Judgement) → IfOk found (λ code. code ≡ ss) → j ≡ means (rules.performs ss) → IsAnswered k (as_code found) j
code_answered k (Ok code) ss j made same = subst (IsAnswered k (Ok (judged.Performs code))) (sym same) (refl, made, refl)
code_answered k (Err e) ss j made same = tt

pub code_alone : {E : Type 0} → (found : Result (List Stmt) E) → is_struct_answer (as_code found) ≡ false
code_alone (Ok code) = refl
code_alone (Err e) = refl

-- ---- rows of statements and expressions

module _ (table : List SynNode) (n low : ℕ) (old mid new : Meanings) (answer : Result Judged Refusal) (r : IsReady table n low mid) (within : n < length table) (left : AreLeft table n old mid) (same : slots_of new ≡ slots_of mid) (grows : Grows mid.types new.types) where
  -- the node does this
  pub coded_row : {E : Type 0} → (found : Result (List Stmt) E) (ss : List Stmt) → answer ≡ as_code found → IfOk found (λ code. code ≡ ss) → judged_at table n ≡ means (rules.performs ss) → IsRow table n old new answer
  coded_row found ss is made means_it =
      subst (IsRow table n old new) (sym is)
      (grown_row table n low old mid new (as_code found) r within left same grows (code_alone found) (code_answered new.types found ss (judged_at table n) made means_it))

  -- the node is this expression, or breaks a rule
  pub expressed_row : (hidden : ℕ) (found : Result Typing Refusal) (j : Judgement) → answer ≡ as_expression found → judged_at table n ≡ j → Answers (Expresses new.types hidden) found j → IsRow table n old new answer
  expressed_row hidden found j is means_it answers =
      subst (IsRow table n old new) (sym is)
      (grown_row table n low old mid new (as_expression found) r within left same grows (expression_alone found)
      (subst (IsAnswered new.types (as_expression found)) (sym means_it) (expression_answered new.types hidden found j answers)))

-- a row that finds no meaning
pub waiting_row : (table : List SynNode) (n low : ℕ) (m : Meanings) → IsReady table n low m → n < length table → judged_at table n ≡ waits → IsRow table n m m (Ok judged.Waits)
waiting_row table n low m r within none = plain_row table n low m (Ok judged.Waits) r within refl (waits_answered m.types (judged_at table n) none)

-- a row that wants memory
pub spent_row : (table : List SynNode) (n low : ℕ) (old mid new : Meanings) → IsReady table n low mid → n < length table → AreLeft table n old mid → slots_of new ≡ slots_of mid → Grows mid.types new.types
    → IsRow table n old new (Err refusal.OutOfMemory)
spent_row table n low old mid new r within left same grows = grown_row table n low old mid new (Err refusal.OutOfMemory) r within left same grows refl tt

-- ---- the kids of a node that is judged

module _ (table : List SynNode) (n low : ℕ) (m : Meanings) (r : IsReady table n low m) (within : n < length table) where
  within_nodes : n < length (nodes_in table)
  within_nodes = let nodes = r.nodes in omega (arith, within, nodes)

  -- so many as nodes of its kind have
  pub kids_of : (k : SynKind) → (node_in table n).label.kind ≡ k → HasKids table n (least_kids k)
  kids_of k is = subst (λ k. HasKids table n (least_kids k)) is (has_kids table n r.derived within_nodes)

  pub next_kid : (i : ℕ) → HasKids table n (suc (suc i)) → kid_in table n i + 1 ≤ kid_in table n (suc i)
  next_kid i has = kid_after table n r.derived within_nodes (suc i) has i (omega arith)

  pub its_number : (node_in table n).id ≡ n
  unfolding nodes_in
  its_number = (tiled r.derived.tokens (tree_in table) r.derived.derived n (node_in table n) (node_there table n r.derived within_nodes)).numbered

-- ---- what is seen of an operand

pub no_operand : {X : Type 0} {o : Option rules.Typing} (P : X → rules.Typing → Type 0) (found : Option X) → MatchOption found (o ≡ None) (λ x. (y : rules.Typing) × (o ≡ Some y) × P x y) → is_some found ≡ false → o ≡ None
no_operand P None h none = h
no_operand P (Some x) h none = absurd (false≢true (sym none))

pub operand_seen : {X : Type 0} {o : Option rules.Typing} (P : X → rules.Typing → Type 0) (found : Option X) → MatchOption found (o ≡ None) (λ x. (y : rules.Typing) × (o ≡ Some y) × P x y) → is_some found ≡ true → (y : rules.Typing) × (o ≡ Some y)
operand_seen P None h some = absurd (false≢true some)
operand_seen P (Some x) h some = (h.0, h.1)
