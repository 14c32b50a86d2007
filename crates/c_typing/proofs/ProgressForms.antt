-- What the form of a kid's meaning gives the node above it.
use Rattle.std.proofs.Common.{◌≡◌, Bool, true, false, ◌&&◌, not, [], ◌∷◌, Option, Some, None, refl, sym, true≢false}
use Rattle.c_syntax.specs.declared.kind.SynKind.{SynKind}
use Rattle.c_syntax.specs.declared.kind.SynKind.TheVariants as kind
use Rattle.c_typing.specs.Places.{is_declarator}
use Rattle.c_typing.specs.Judgements.{Meaning, itself, a_type, a_struct, members, enumerates, steps, declares, expresses, fills_array, initialized, performs, labels, Judgement, means, breaks_rules, waits, Typing, typing_of, type_of, steps_of, code_of}
use Rattle.c_typing.specs.Expressions.{word_of_enumerator}
use Rattle.c_typing.specs.Declarators.{spec_meaning, members_of}
use Rattle.c_typing.specs.Statements.{item_at, declarator_code, a_label}
use Rattle.c_typing.specs.Shapes as category
use Rattle.c_typing.specs.Shapes.{Category}
use Rattle.c_typing.specs.Meant.{has_form, is_callable}

-- a string initializes an array only as an initializer
abbrev pub may_fill : Meaning → SynKind → Bool
may_fill fills_array kind.InitDecl = true
may_fill fills_array kind.Braces = true
may_fill fills_array outer = false
may_fill m outer = true

abbrev pub holds_initial : SynKind → Bool
holds_initial kind.InitDecl = true
holds_initial kind.Braces = true
holds_initial outer = false

-- a node of this kind and category, below one of the kind `outer`, means this
abbrev pub fits : SynKind → SynKind → Category → Judgement → Bool
fits outer own c (means m) = has_form c own (not (is_declarator outer)) m && may_fill m outer
fits outer own c j = false

abbrev pub is_some_expression : Category → Bool
is_some_expression (category.expression level) = true
is_some_expression c = false

pub split : {p q : Bool} → p && q ≡ true → (p ≡ true) × (q ≡ true)
split {p = true} e = (refl, e)
split {p = false} e = absurd (true≢false (sym e))

no : {A : Type 0} → false ≡ true → A
no e = absurd (true≢false (sym e))

-- what an expression means, where it does not initialize an array
pub record HasTyping (j : Judgement) : Type 0 where
  pub typing : Typing
  pub is : typing_of j ≡ Some typing
  pub callable : is_callable typing.form typing.type ≡ true

pub typed : (outer own : SynKind) (c : Category) (j : Judgement) → is_some_expression c ≡ true → holds_initial outer ≡ false → fits outer own c j ≡ true → HasTyping j
typed outer own (category.expression l) (means (expresses x h)) e i f = record { typing = x; is = refl; callable = (split f).0 }
typed outer own (category.expression l) (means fills_array) e i f = by outer i (split f).1
  where
    by : (k : SynKind) → holds_initial k ≡ false → may_fill fills_array k ≡ true → HasTyping (means fills_array)
    by kind.InitDecl i g = absurd (true≢false i)
    by kind.Braces i g = absurd (true≢false i)
    by _ i g = no g
typed outer own (category.expression l) (means _) e i f = no f
typed outer own (category.expression l) (breaks_rules g gs) e i f = no f
typed outer own (category.expression l) waits e i f = no f
typed outer own _ j e i f = no e

pub record Has {A : Type 0} (o : Option A) : Type 0 where
  pub value : A
  pub is : o ≡ Some value

-- a statement or a declaration
abbrev pub is_code : Category → Bool
is_code category.declaration = true
is_code category.block = true
is_code category.empty = true
is_code category.statement = true
is_code c = false

performs_only : (m : Meaning) → (b : Bool) → b ≡ true → Has (code_of (means m)) → Has (code_of (means m))
performs_only m b e h = h

code_by : (own : SynKind) (w : Bool) (m : Meaning) → has_form category.statement own w m ≡ true → Has (code_of (means m))
code_by own w (performs ss) e = record { value = ss; is = refl }
code_by own w _ e = no e

pub performed : (outer own : SynKind) (c : Category) (j : Judgement) → is_code c ≡ true → fits outer own c j ≡ true → Has (code_of j)
performed outer own category.declaration (means m) e f = code_by own true m (split f).0
performed outer own category.block (means m) e f = code_by own true m (split f).0
performed outer own category.empty (means m) e f = code_by own true m (split f).0
performed outer own category.statement (means m) e f = code_by own true m (split f).0
performed outer own category.declaration _ e f = no f
performed outer own category.block _ e f = no f
performed outer own category.empty _ e f = no f
performed outer own category.statement _ e f = no f
performed outer own _ j e f = no e

-- specs, a parameter, a name of a type, a declarator with its initializer, a whole declarator
abbrev pub has_type : SynKind → Category → Bool
has_type outer category.specifiers = true
has_type outer category.parameter = true
has_type outer category.type_name = true
has_type outer category.init_declarator = true
has_type outer category.declarator = not (is_declarator outer)
has_type outer category.abstract_declarator = not (is_declarator outer)
has_type outer category.no_name = not (is_declarator outer)
has_type outer c = false

type_by : (m : Meaning) → has_form category.specifiers kind.Unit true m ≡ true → Has (type_of (means m))
type_by (a_type t) e = record { value = t; is = refl }
type_by _ e = no e

declares_by : (w : Bool) (m : Meaning) → w ≡ true → has_form category.declarator kind.Unit w m ≡ true → Has (type_of (means m))
declares_by true (declares t) w e = record { value = t; is = refl }
declares_by true _ w e = no e
declares_by false m w e = no w

initialized_by : (m : Meaning) → has_form category.init_declarator kind.Unit true m ≡ true → Has (type_of (means m))
initialized_by (initialized t ss cs) e = record { value = t; is = refl }
initialized_by _ e = no e

pub has_its_type : (outer own : SynKind) (c : Category) (j : Judgement) → has_type outer c ≡ true → fits outer own c j ≡ true → Has (type_of j)
has_its_type outer own category.specifiers (means m) e f = type_by m (split f).0
has_its_type outer own category.type_name (means m) e f = type_by m (split f).0
has_its_type outer own category.parameter (means m) e f = declares_by true m refl (split f).0
has_its_type outer own category.init_declarator (means m) e f = initialized_by m (split f).0
has_its_type outer own category.declarator (means m) e f = declares_by (not (is_declarator outer)) m e (split f).0
has_its_type outer own category.abstract_declarator (means m) e f = declares_by (not (is_declarator outer)) m e (split f).0
has_its_type outer own category.no_name (means m) e f = declares_by (not (is_declarator outer)) m e (split f).0
has_its_type outer own category.specifiers _ e f = no f
has_its_type outer own category.type_name _ e f = no f
has_its_type outer own category.parameter _ e f = no f
has_its_type outer own category.init_declarator _ e f = no f
has_its_type outer own category.declarator _ e f = no f
has_its_type outer own category.abstract_declarator _ e f = no f
has_its_type outer own category.no_name _ e f = no f
has_its_type outer own _ j e f = no e

-- a part of a declarator
abbrev pub is_part : Category → Bool
is_part category.declarator = true
is_part category.abstract_declarator = true
is_part category.no_name = true
is_part c = false

steps_by : (w : Bool) (m : Meaning) → w ≡ false → has_form category.declarator kind.Unit w m ≡ true → Has (steps_of (means m))
steps_by false (steps ss) w e = record { value = ss; is = refl }
steps_by false _ w e = no e
steps_by true m w e = absurd (true≢false w)

pub has_steps : (outer own : SynKind) (c : Category) (j : Judgement) → is_part c ≡ true → not (is_declarator outer) ≡ false → fits outer own c j ≡ true → Has (steps_of j)
has_steps outer own category.declarator (means m) e w f = steps_by (not (is_declarator outer)) m w (split f).0
has_steps outer own category.abstract_declarator (means m) e w f = steps_by (not (is_declarator outer)) m w (split f).0
has_steps outer own category.no_name (means m) e w f = steps_by (not (is_declarator outer)) m w (split f).0
has_steps outer own category.declarator _ e w f = no f
has_steps outer own category.abstract_declarator _ e w f = no f
has_steps outer own category.no_name _ e w f = no f
has_steps outer own _ j e w f = no e

-- among specifiers
abbrev pub is_specifier : Category → Bool
is_specifier category.storage_word = true
is_specifier category.typedef_name = true
is_specifier category.type_specifier = true
is_specifier c = false

specifier_by : (m : Meaning) → has_form category.type_specifier kind.Unit true m ≡ true → Has (spec_meaning (means m))
specifier_by itself e = record { value = []; is = refl }
specifier_by (a_type t) e = record { value = t ∷ []; is = refl }
specifier_by (a_struct l) e = record { value = _; is = refl }
specifier_by _ e = no e

itself_by : (m : Meaning) → has_form category.storage_word kind.Unit true m ≡ true → Has (spec_meaning (means m))
itself_by itself e = record { value = []; is = refl }
itself_by _ e = no e

named_by : (m : Meaning) → has_form category.typedef_name kind.Unit true m ≡ true → Has (spec_meaning (means m))
named_by (a_type t) e = record { value = t ∷ []; is = refl }
named_by _ e = no e

pub has_specifier : (outer own : SynKind) (c : Category) (j : Judgement) → is_specifier c ≡ true → fits outer own c j ≡ true → Has (spec_meaning j)
has_specifier outer own category.storage_word (means m) e f = itself_by m (split f).0
has_specifier outer own category.typedef_name (means m) e f = named_by m (split f).0
has_specifier outer own category.type_specifier (means m) e f = specifier_by m (split f).0
has_specifier outer own category.storage_word _ e f = no f
has_specifier outer own category.typedef_name _ e f = no f
has_specifier outer own category.type_specifier _ e f = no f
has_specifier outer own _ j e f = no e

-- ---- kids of one category

members_by : (m : Meaning) → has_form category.member kind.Unit true m ≡ true → Has (members_of (means m))
members_by (members fs) e = record { value = fs; is = refl }
members_by _ e = no e

pub has_members : (outer own : SynKind) (j : Judgement) → fits outer own category.member j ≡ true → Has (members_of j)
has_members outer own (means m) f = members_by m (split f).0
has_members outer own _ f = no f

word_by : (m : Meaning) → has_form category.enumerator kind.Unit true m ≡ true → Has (word_of_enumerator (means m))
word_by (enumerates w) e = record { value = w; is = refl }
word_by _ e = no e

pub has_word : (outer own : SynKind) (j : Judgement) → fits outer own category.enumerator j ≡ true → Has (word_of_enumerator j)
has_word outer own (means m) f = word_by m (split f).0
has_word outer own _ f = no f

declared_by : (m : Meaning) → has_form category.init_declarator kind.Unit true m ≡ true → Has (declarator_code (means m))
declared_by (initialized t ss cs) e = record { value = ss; is = refl }
declared_by _ e = no e

pub has_declared : (outer own : SynKind) (j : Judgement) → fits outer own category.init_declarator j ≡ true → Has (declarator_code j)
has_declared outer own (means m) f = declared_by m (split f).0
has_declared outer own _ f = no f

-- ---- the items of a `switch`

label_by : (m : Meaning) → has_form category.switch_label kind.Unit true m ≡ true → Has (item_at (means m ∷ []) 0)
label_by (labels w) e = record { value = a_label w; is = refl }
label_by _ e = no e

performed_by : (m : Meaning) → has_form category.statement kind.Unit true m ≡ true → Has (item_at (means m ∷ []) 0)
performed_by (performs ss) e = record { value = _; is = refl }
performed_by _ e = no e

abbrev pub is_item : Category → Bool
is_item category.switch_label = true
is_item category.block = true
is_item category.empty = true
is_item category.statement = true
is_item c = false

pub has_item : (outer own : SynKind) (c : Category) (j : Judgement) → is_item c ≡ true → fits outer own c j ≡ true → Has (item_at (j ∷ []) 0)
has_item outer own category.switch_label (means m) e f = label_by m (split f).0
has_item outer own category.block (means m) e f = performed_by m (split f).0
has_item outer own category.empty (means m) e f = performed_by m (split f).0
has_item outer own category.statement (means m) e f = performed_by m (split f).0
has_item outer own category.switch_label _ e f = no f
has_item outer own category.block _ e f = no f
has_item outer own category.empty _ e f = no f
has_item outer own category.statement _ e f = no f
has_item outer own _ j e f = no e

-- ---- a part of a declarator is no expression

untyped_by : (w : Bool) (m : Meaning) → has_form category.declarator kind.Unit w m ≡ true → typing_of (means m) ≡ None
untyped_by true (declares t) e = refl
untyped_by false (steps ss) e = refl
untyped_by true _ e = no e
untyped_by false _ e = no e

pub untyped : (outer own : SynKind) (c : Category) (j : Judgement) → is_part c ≡ true → fits outer own c j ≡ true → typing_of j ≡ None
untyped outer own category.declarator (means m) e f = untyped_by (not (is_declarator outer)) m (split f).0
untyped outer own category.abstract_declarator (means m) e f = untyped_by (not (is_declarator outer)) m (split f).0
untyped outer own category.no_name (means m) e f = untyped_by (not (is_declarator outer)) m (split f).0
untyped outer own category.declarator _ e f = no f
untyped outer own category.abstract_declarator _ e f = no f
untyped outer own category.no_name _ e f = no f
untyped outer own _ j e f = no e
