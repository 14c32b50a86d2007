-- The forms of meanings by kinds of nodes: what is neither an expression nor acts.
use Rattle.std.proofs.Common.{◌≡◌, ℕ, zero, suc, Bool, true, false, ◌||◌, List, [], ◌∷◌, Option, Some, None, refl, sym, true≢false}
use Rattle.std.specs.Prelude.{if◌then◌else◌, flat_map}
use Rattle.c_syntax.specs.declared.kind.SynKind.{SynKind}
use Rattle.c_syntax.specs.declared.kind.SynKind.TheVariants as kind
use Rattle.c_types.specs.declared.tree.Cell.{Cell}
use Rattle.c_typing.specs.Types.{CType, Field}
use Rattle.c_typing.specs.Places.{Node, kid}
use Rattle.c_typing.specs.Names.{Places, Name}
use Rattle.c_typing.specs.Judgements.{Meaning, a_type, a_struct, steps, expresses, initial, initialized, performs, labels, defines, Judgement, Fault, PlacedStep, Typing, layouts}
use Rattle.c_typing.specs.Expressions.{expression}
use Rattle.c_typing.specs.Declarators.{enum_specifier, spec_word, typedef_type, specs, struct_specifier, struct_body, layout, enumerator_node, enumerator_after, enumerator_value, Built, built, whole_type, declarator, pointer_declarator, absent_length_step, length_step, length_faults, array_declarator, function_declarator, member, parameter_node, type_name}
use Rattle.c_typing.specs.Initializers.{braces, braces_by, braces_for, target}
use Rattle.c_typing.specs.Statements.{case_label, default_label}
use Rattle.c_typing.specs.Typing.{unit_node, in_parentheses, judged_by}
use Rattle.c_typing.proofs.MadeJudged.{Yields, yields_verdict, yields_besides, yields_given}

-- an expression, steps of a declarator, a statement, a declarator with its initializer, a label, a function, a struct with its body or a braced initializer
abbrev pub is_active : Meaning → Bool
is_active (expresses x h) = true
is_active (initialized t ss cs) = true
is_active (performs ss) = true
is_active (labels w) = true
is_active (steps ss) = true
is_active (a_struct l) = true
is_active (initial n cs) = true
is_active (defines f) = true
is_active m = false

-- the kinds of nodes that mean no such
abbrev pub is_plain_kind : SynKind → Bool
is_plain_kind kind.Unit = true
is_plain_kind kind.Specs = true
is_plain_kind kind.Word = true
is_plain_kind kind.Member = true
is_plain_kind kind.EnumSpec = true
is_plain_kind kind.Enumer = true
is_plain_kind kind.Param = true
is_plain_kind kind.TypeName = true
is_plain_kind k = false

-- and those of declarators, parentheses aside
abbrev pub is_declarator_kind : SynKind → Bool
is_declarator_kind kind.Ident = true
is_declarator_kind kind.NoName = true
is_declarator_kind kind.Pointer = true
is_declarator_kind kind.ArrayOf = true
is_declarator_kind kind.Takes = true
is_declarator_kind k = false

abbrev pub is_passive_kind : SynKind → Bool
is_passive_kind k = is_plain_kind k || is_declarator_kind k

pub yields_if : (P : Meaning → Type 0) (c : Bool) (x y : Judgement) → Yields P x → Yields P y → Yields P (if c then x else y)
yields_if P true x y h k = h
yields_if P false x y h k = k

pub yields_if_so : (P : Meaning → Type 0) (c : Bool) (x y : Judgement) → (c ≡ true → Yields P x) → (c ≡ false → Yields P y) → Yields P (if c then x else y)
yields_if_so P true x y h k = h refl
yields_if_so P false x y h k = k refl

module _ (P : Meaning → Type 0) (free : (m : Meaning) → is_active m ≡ false → P m) (p : Places) (js : List Judgement) (node : Node) where
  unit_row : Yields P (unit_node p node)
  unfolding unit_node
  unit_row = search (yields_verdict, free)

  specs_row : Yields P (specs p js node)
  unfolding specs
  specs_row = search (yields_besides, yields_given, yields_verdict, free)

  typedef_row : (e : Option Name) → Yields P (typedef_type js node e)
  unfolding typedef_type
  typedef_row None = search (yields_verdict, free)
  typedef_row (Some e) = search (yields_if, yields_given, yields_verdict, free)

  word_row : Yields P (spec_word p js node)
  unfolding spec_word
  word_row = search (yields_if, typedef_row, free)

  member_row : Yields P (member p js node)
  unfolding member
  member_row = search (yields_given, free)

  enum_row : Yields P (enum_specifier p js node)
  unfolding enum_specifier
  enum_row = search (yields_besides, yields_given, free)

  after_row : (siblings : List ℕ) (i : ℕ) → Yields P (enumerator_after p js node siblings i)
  unfolding enumerator_after
  after_row siblings zero = search (yields_verdict, free)
  after_row siblings (suc i) = search (yields_given, yields_verdict, free)

  enumerator_row : Yields P (enumerator_node p js node)
  unfolding enumerator_node enumerator_value
  enumerator_row = search (yields_if, yields_given, yields_verdict, free, after_row)

  parameter_row : Yields P (parameter_node js node)
  unfolding parameter_node
  parameter_row = search (yields_given, free)

  type_name_row : Yields P (type_name js node)
  unfolding type_name
  type_name_row = search (yields_given, free)

  pub plain_row : (k : SynKind) → is_plain_kind k ≡ true → Yields P (judged_by p js node k)
  unfolding judged_by
  plain_row kind.Unit e = unit_row
  plain_row kind.Specs e = specs_row
  plain_row kind.Word e = word_row
  plain_row kind.Member e = member_row
  plain_row kind.EnumSpec e = enum_row
  plain_row kind.Enumer e = enumerator_row
  plain_row kind.Param e = parameter_row
  plain_row kind.TypeName e = type_name_row
  plain_row k e = absurd (true≢false (sym e))

-- declarators, whole or parts
module _ (P : Meaning → Type 0) (free : (m : Meaning) → is_active m ≡ false → P m) (part : (ss : List PlacedStep) → P (steps ss)) (p : Places) (js : List Judgement) (node : Node) where
  built_row : (owner : Node) (t : CType) (fs : List Fault) → Yields P (whole_type p js node owner (built t fs))
  unfolding whole_type
  built_row owner t [] = search (yields_verdict, free)
  built_row owner t (f ∷ fs) = tt

  whole_row : (owner : Node) (b : Built) → Yields P (whole_type p js node owner b)
  whole_row owner b = built_row owner b.type b.faults

  declarator_row : (ss : List PlacedStep) → Yields P (declarator p js node ss)
  unfolding declarator
  declarator_row ss = search (yields_if, yields_given, whole_row, part)

  pointer_row : Yields P (pointer_declarator p js node)
  unfolding pointer_declarator
  pointer_row = search (yields_given, declarator_row)

  absent_row : (ss : List PlacedStep) → Yields P (absent_length_step p js node ss)
  unfolding absent_length_step
  absent_row ss = search (yields_if, declarator_row)

  length_row : (ss : List PlacedStep) (x : Typing) (fs : List Fault) → length_faults x (kid node 1) node.id ≡ fs → Yields P (length_step p js node ss x)
  unfolding length_step
  length_row ss x [] e = rw e (search (yields_if, declarator_row))
  length_row ss x (f ∷ fs) e = rw e (search (yields_if, declarator_row))

  any_length_row : (ss : List PlacedStep) (x : Typing) → Yields P (length_step p js node ss x)
  any_length_row ss x = length_row ss x (length_faults x (kid node 1) node.id) refl

  array_row : Yields P (array_declarator p js node)
  unfolding array_declarator
  array_row = search (yields_if, yields_given, absent_row, any_length_row)

  takes_row : Yields P (function_declarator p js node)
  unfolding function_declarator
  takes_row = search (yields_besides, yields_given, declarator_row)

  pub declarator_kind_row : (k : SynKind) → is_declarator_kind k ≡ true → Yields P (judged_by p js node k)
  unfolding judged_by
  declarator_kind_row kind.Ident e = declarator_row []
  declarator_kind_row kind.NoName e = declarator_row []
  declarator_kind_row kind.Pointer e = pointer_row
  declarator_kind_row kind.ArrayOf e = array_row
  declarator_kind_row kind.Takes e = takes_row
  declarator_kind_row k e = absurd (true≢false (sym e))

  pub passive_row : (k : SynKind) → is_passive_kind k ≡ true → Yields P (judged_by p js node k)
  passive_row k e = by (is_plain_kind k) refl e
    where
      by : (b : Bool) → is_plain_kind k ≡ b → b || is_declarator_kind k ≡ true → Yields P (judged_by p js node k)
      by true f g = plain_row P free p js node k f
      by false f g = declarator_kind_row k g

  -- parentheses: of an expression, or of a declarator
  pub paren_row : (o : Option Typing) → ((x : Typing) → o ≡ Some x → P (expression x)) → Yields P (in_parentheses p js node o)
  paren_row (Some x) h = h x refl
  paren_row None h = search (yields_given, declarator_row)

-- labels
pub case_row : (P : Meaning → Type 0) → ((w : Option ℕ) → P (labels w)) → (p : Places) (js : List Judgement) (node : Node) → Yields P (case_label p js node)
unfolding case_label
case_row P each p js node = search (yields_given, yields_verdict, each)

pub default_row : (P : Meaning → Type 0) → ((w : Option ℕ) → P (labels w)) → (p : Places) (js : List Judgement) (node : Node) → Yields P (default_label p js node)
unfolding default_label
default_row P each p js node = search (yields_verdict, each)

-- braced initializers
braces_for_row : (P : Meaning → Type 0) → ((n : ℕ) (cs : List Cell) → P (initial n cs)) → (p : Places) (js : List Judgement) (node : Node) (t : CType) → Yields P (braces_for p js node t)
unfolding braces_for
braces_for_row P each p js node t = search (yields_besides, yields_given, yields_verdict, each)

pub braces_row : (P : Meaning → Type 0) → ((n : ℕ) (cs : List Cell) → P (initial n cs)) → (p : Places) (js : List Judgement) (node : Node) → Yields P (braces p js node)
unfolding braces
braces_row P each p js node = by (target p js node.id)
  where
    by : (o : Option CType) → Yields P (braces_by p js node o)
    by None = each 0 []
    by (Some t) = braces_for_row P each p js node t

-- structs, with their bodies or without
pub struct_row : (p : Places) (js : List Judgement) (node : Node) (P : Meaning → Type 0) → ((fields : List (List Field)) (k : ℕ) → P (a_struct (layout (layouts js) k (flat_map (λ fs. fs) fields)))) → ((t : CType) → P (a_type t)) → Yields P (struct_specifier p js node)
unfolding struct_specifier struct_body
struct_row p js node P body named = search (yields_if, yields_besides, yields_given, yields_verdict, body, named)
