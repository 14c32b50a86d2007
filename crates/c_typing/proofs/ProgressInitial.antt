-- Initializers: a value, a string and braces are what they have to be for what they initialize.
use Rattle.std.proofs.Common.{◌≡◌, ℕ, zero, suc, ◌+◌, ◌<◌, ◌≤◌, Bool, true, false, ◌||◌, List, [], ◌∷◌, length, map, Option, Some, None, refl, sym, ap, ◌∙◌, subst, arith, true≢false, ◌⊎◌, inl, inr}
use Rattle.std.specs.Prelude.{◌==◌, if◌then◌else◌, option_map, option_and_then}
use Rattle.std.specs.List.{range_with_len}
use Rattle.c_syntax.specs.declared.kind.SynKind.{SynKind}
use Rattle.c_syntax.specs.declared.kind.SynKind.TheVariants as kind
use Rattle.c_typing.specs.Types.{CType, Layout, is_text_array, is_array, is_struct, is_scalar}
use Rattle.c_typing.specs.Places.{Node, kid, parent_of, index_in, node_at, kind_at, is_string}
use Rattle.c_typing.specs.Names.{Places, Name}
use Rattle.c_typing.specs.Judgements.{Fault, initial, expresses, fills_array, means, verdict, breaks_rules, waits, Judgement, Typing, judgement_at, typing_of, typing_at, layouts, type_at}
use Rattle.c_typing.specs.Initializers.{Part, part_of, part_offset, moved, value_part, braced_part, part_by, part_for, kid_part, declared_object, target_by, target_within, target, fills, string, literal_faults}
use Rattle.c_typing.specs.Expressions.{expression, literal}
use Rattle.c_typing.specs.Typing.{judged_by}
use Rattle.c_typing.specs.Shapes as category
use Rattle.c_typing.specs.Shapes.{Category, no_category, category_by, declarator_over, in_parentheses, word_category}
use Rattle.c_grammar.specs.Vocabulary.{is_type_word, is_storage_word}
use Rattle.c_typing.specs.Meant.{has_form}
use Rattle.c_typing.proofs.ProgressBase.{AllThere, no_part, and_part}
use Rattle.c_typing.proofs.ProgressForms.{fits, may_fill, is_some_expression, Has, split}
use Rattle.c_typing.proofs.ProgressKinds as of
use Rattle.c_typing.proofs.ProgressStep.{KidHas}

no : {A : Type 0} → false ≡ true → A
no e = absurd (true≢false (sym e))

-- ---- braces are told from expressions

abbrev is_braces_only : Category → Bool
is_braces_only category.braces = true
is_braces_only c = false

over_no_braces : (cs : List Category) → is_braces_only (declarator_over cs) ≡ false
over_no_braces (category.declarator ∷ cs) = refl
over_no_braces (category.abstract_declarator ∷ cs) = refl
over_no_braces (category.no_name ∷ cs) = refl
over_no_braces (_ ∷ cs) = refl
over_no_braces [] = refl

brackets_no_braces : (cs : List Category) → is_braces_only (in_parentheses cs) ≡ false
brackets_no_braces (category.expression l ∷ cs) = refl
brackets_no_braces (category.declarator ∷ cs) = refl
brackets_no_braces (category.abstract_declarator ∷ cs) = refl
brackets_no_braces (category.no_name ∷ cs) = refl
brackets_no_braces (_ ∷ cs) = refl
brackets_no_braces [] = refl

word_no_braces : (s t : Bool) → is_braces_only (if s then category.storage_word else if t then category.type_specifier else category.typedef_name) ≡ false
word_no_braces true t = refl
word_no_braces false true = refl
word_no_braces false false = refl

abbrev not_braces : SynKind → Bool
not_braces kind.Braces = false
not_braces k = true

kind_no_braces : (k : SynKind) (text : List ℕ) (cs : List Category) → not_braces k ≡ true → is_braces_only (category_by k text cs) ≡ false
unfolding category_by
kind_no_braces kind.Braces text cs e = no e
kind_no_braces kind.Word text cs e = word_no_braces (is_storage_word text) (is_type_word text)
kind_no_braces kind.Pointer text cs e = over_no_braces cs
kind_no_braces kind.ArrayOf text cs e = over_no_braces cs
kind_no_braces kind.Paren text cs e = brackets_no_braces cs
kind_no_braces _ text cs e = refl

value_only : (c : Category) → of.is_initial c ≡ true → is_braces_only c ≡ false → is_some_expression c ≡ true
value_only category.braces e f = absurd (true≢false f)
value_only (category.expression l) e f = refl
value_only _ e f = no e

-- ---- a value

has_value : (ls : List Layout) (static : Bool) (t : CType) (n : ℕ) (o : Option Typing) → Has o → Has (value_part ls static t n o)
has_value ls static t n None h = absurd (cc h.is)
has_value ls static t n (Some x) h = by (is_array t || is_struct t) _ _
  where
    by : (b : Bool) (u v : Part) → Has (if b then Some u else Some v)
    by true u v = record { value = u; is = refl }
    by false u v = record { value = v; is = refl }

-- an expression that is no string
plain_typed : (outer own : SynKind) (c : Category) (j : Judgement) → is_some_expression c ≡ true → is_string own ≡ false → fits outer own c j ≡ true → Has (typing_of j)
plain_typed outer own (category.expression l) (means (expresses x h)) e i f = record { value = x; is = refl }
plain_typed outer own (category.expression l) (means fills_array) e i f = by own i (split f).0
  where
    by : (k : SynKind) → is_string k ≡ false → has_form (category.expression l) k true fills_array ≡ true → Has (typing_of (means fills_array))
    by kind.Str i g = absurd (true≢false i)
    by _ i g = no g
plain_typed outer own (category.expression l) (means _) e i f = no f
plain_typed outer own (category.expression l) (breaks_rules g gs) e i f = no f
plain_typed outer own (category.expression l) waits e i f = no f
plain_typed outer own _ j e i f = no e

-- a string
string_typed : (outer : SynKind) (l : ℕ) (j : Judgement) → fits outer kind.Str (category.expression l) j ≡ true → Has (typing_of j) ⊎ (j ≡ means fills_array)
string_typed outer l (means (expresses x h)) f = inl (record { value = x; is = refl })
string_typed outer l (means fills_array) f = inr refl
string_typed outer l (means _) f = no f
string_typed outer l (breaks_rules g gs) f = no f
string_typed outer l waits f = no f

-- braces
has_braced : (outer own : SynKind) (n : ℕ) (again : Bool) (j : Judgement) → fits outer own category.braces j ≡ true → Has (braced_part n again j)
has_braced outer own n again (means (initial count cs)) f = record { value = _; is = refl }
has_braced outer own n again (means _) f = no f
has_braced outer own n again (breaks_rules g gs) f = no f
has_braced outer own n again waits f = no f

-- an initializer for an object of type t: a string that fills an array has it for its type
pub has_part : (cat : ℕ → Category) (p : Places) (js : List Judgement) (static again : Bool) (t : CType) (outer : SynKind) (j : ℕ) → of.is_initial (cat j) ≡ true → KidHas cat p js outer j
    → (node_at p.nodes j).id ≡ j → (kind_at p.nodes j ≡ kind.Str → judgement_at js j ≡ means fills_array → is_text_array t ≡ true) → Has (part_for p js static again t j)
unfolding category_by
has_part cat p js static again t outer j c k id text = by (kind_at p.nodes j) k.form k.is text
  where
    node : Node
    node = node_at p.nodes j

    at_id : Has (typing_at js j) → Has (typing_at js node.id)
    at_id h = subst (λ i. Has (typing_at js i)) (sym id) h

    value : (own : SynKind) → fits outer own (cat j) (judgement_at js j) ≡ true → cat j ≡ category_by own k.text k.below → not_braces own ≡ true → is_string own ≡ false
        → Has (value_part (layouts js) static t node.id (typing_at js node.id))
    value own f e b s =
        let expr = value_only (cat j) c (ap is_braces_only e ∙ kind_no_braces own k.text k.below b) in
        has_value (layouts js) static t node.id (typing_at js node.id) (at_id (plain_typed outer own (cat j) (judgement_at js j) expr s f))

    filled : (b : Bool) → is_text_array t ≡ b → Has (typing_at js j) ⊎ (judgement_at js j ≡ means fills_array) → (judgement_at js j ≡ means fills_array → is_text_array t ≡ true)
        → (u : Part) → Has (if b then Some u else value_part (layouts js) static t node.id (typing_at js node.id))
    filled true e h g u = record { value = u; is = refl }
    filled false e (inl h) g u = has_value (layouts js) static t node.id (typing_at js node.id) (at_id h)
    filled false e (inr h) g u = absurd (true≢false (sym (g h) ∙ e))

    by : (own : SynKind) → fits outer own (cat j) (judgement_at js j) ≡ true → cat j ≡ category_by own k.text k.below → (own ≡ kind.Str → judgement_at js j ≡ means fills_array → is_text_array t ≡ true)
        → Has (part_by p js static again t node own)
    by kind.Braces f e g =
        subst (λ i. Has (braced_part node.id again (judgement_at js i))) (sym id) (has_braced outer kind.Braces node.id again (judgement_at js j) (ap (λ d. fits outer kind.Braces d (judgement_at js j)) (sym e) ∙ f))
    by kind.Str f e g =
        filled (is_text_array t) refl (string_typed outer 0 (judgement_at js j) (ap (λ d. fits outer kind.Str d (judgement_at js j)) (sym e) ∙ f)) (g refl) _
    by _ f e g = value _ f e refl refl

-- ---- what a string fills

module _ (p : Places) (js : List Judgement) where
  -- a string that fills an array has one for its target
  pub string_fills : (n : ℕ) (node : Node) → judged_by p js node kind.Str ≡ means fills_array → fills (target p js node.id) ≡ true
  unfolding judged_by string
  string_fills n node e = by (fills (target p js node.id)) e
    where
      is_fill : Judgement → Bool
      is_fill (means fills_array) = true
      is_fill j = false

      no_fill : (fs : List Fault) (x : Typing) → is_fill (verdict fs (expression x)) ≡ false
      no_fill [] x = refl
      no_fill (f ∷ fs) x = refl

      by : (b : Bool) → (if b then means fills_array else verdict (literal_faults node) (expression (literal p js node.label.bytes))) ≡ means fills_array → b ≡ true
      by true e = refl
      by false e = absurd (true≢false (sym (ap is_fill e) ∙ no_fill (literal_faults node) (literal p js node.label.bytes)))

  pub filled_type : (n : ℕ) → fills (target p js n) ≡ true → (t : CType) × (target p js n ≡ Some t) × (is_text_array t ≡ true)
  filled_type n e = by (target p js n) refl e
    where
      by : (o : Option CType) → target p js n ≡ o → fills o ≡ true → (t : CType) × (target p js n ≡ Some t) × (is_text_array t ≡ true)
      by None same e = no e
      by (Some t) same e = (t, same, e)

  -- only initializers fill
  pub fills_in : (outer : Node) (n : ℕ) (above : Option CType) (k : SynKind) → fills (target_by p js outer n above k) ≡ true → may_fill fills_array k ≡ true
  fills_in outer n above kind.InitDecl e = refl
  fills_in outer n above kind.Braces e = refl
  fills_in outer n above _ e = no e

  -- a target, by the parent
  pub of_parent : (d n : ℕ) → length p.nodes ≡ suc d → target p js n ≡ target_by p js (parent_of p.nodes n) n (target_within p js d (parent_of p.nodes n).id) (parent_of p.nodes n).label.kind
  of_parent d n e = ap (λ k. target_within p js k n) e

  pub init_target : (outer : Node) (n : ℕ) (above : Option CType) (t : CType) → target_by p js outer n above kind.InitDecl ≡ Some t → type_at js (kid outer 0) ≡ Some t
  init_target outer n above t e = by (kid outer 0 == n) (declared_object p outer) e
    where
      by : (b : Bool) (o : Option Name) → (if b then None else option_and_then (λ (e : Name). type_at js (kid outer 0)) o) ≡ Some t → type_at js (kid outer 0) ≡ Some t
      by true o e = absurd (cc e)
      by false None e = absurd (cc e)
      by false (Some x) e = e

  pub braces_target : (outer : Node) (n : ℕ) (above : Option CType) (t : CType) → target_by p js outer n above kind.Braces ≡ Some t
      → (v : CType) × (above ≡ Some v) × (part_of p (layouts js) outer (index_in outer.kids n) v ≡ Some t)
  braces_target outer n None t e = absurd (cc e)
  braces_target outer n (Some v) t e = (v, refl, e)

-- ---- parts of braces

pub all_parts : {A : Type 0} (f : ℕ → Option A) (from n : ℕ) → ((i : ℕ) → from ≤ i → i < from + n → Has (f i)) → AllThere (map f (range_with_len from n))
all_parts {A = A} f from zero h = no_part
all_parts {A = A} f from (suc n) h =
    let a = h from (omega arith) (omega arith) in
    and_part a.value a.is (all_parts f (from + 1) n (λ i le lt. h i (omega (arith, le)) (omega (arith, lt))))

pub kid_part_there : (p : Places) (js : List Judgement) (static : Bool) (t : CType) (node : Node) (i : ℕ)
    → ((u : CType) → part_of p (layouts js) node i t ≡ Some u → Has (part_for p js static (is_scalar t) u (kid node i))) → Has (kid_part p js static t node i)
kid_part_there p js static t node i h = by (part_of p (layouts js) node i t) h
  where
    by : (o : Option CType) → ((u : CType) → o ≡ Some u → Has (part_for p js static (is_scalar t) u (kid node i)))
        → Has (elim o as (λ x. Option Part) [ None ↦ Some (record { cells = []; faults = [] }) | Some u ↦ option_map (λ (q : Part). record q { cells = map (moved (part_offset (layouts js) t i)) q.cells }) (part_for p js static (is_scalar t) u (kid node i)) ])
    by None h = record { value = _; is = refl }
    by (Some u) h = let q = h u refl in record { value = _; is = ap (λ o. option_map (λ (q : Part). record q { cells = map (moved (part_offset (layouts js) t i)) q.cells }) o) q.is }
