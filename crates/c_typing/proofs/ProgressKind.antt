-- A node of any kind has a meaning of its form, where those before it have, and it breaks no rule.
use Rattle.std.proofs.Common.{◌≡◌, ℕ, true, List, map, refl}
use Rattle.c_syntax.specs.declared.kind.SynKind.{SynKind}
use Rattle.c_syntax.specs.declared.kind.SynKind.TheVariants as kind
use Rattle.c_typing.specs.Places.{Node}
use Rattle.c_typing.specs.Names.{Places}
use Rattle.c_typing.specs.Types.{int}
use Rattle.c_typing.specs.Judgements.{Judgement, means}
use Rattle.c_typing.specs.Expressions.{expression, number_of_type, integer_type}
use Rattle.c_typing.specs.Typing.{judged_by}
use Rattle.c_typing.specs.Shapes.{Category, category_by, kids_fit, text_fits}
use Rattle.c_typing.proofs.ProgressBase.{Settles, settled}
use Rattle.c_typing.proofs.ProgressForms.{fits}
use Rattle.c_typing.proofs.ProgressStep.{Ready}
use Rattle.c_typing.proofs.ProgressOnExpressions as expr
use Rattle.c_typing.proofs.ProgressOnStatements as stmt
use Rattle.c_typing.proofs.ProgressOnDeclarators as decl

module _ (cat : ℕ → Category) (p : Places) (js : List Judgement) (n : ℕ) (outer : SynKind) (m : Node) (r : Ready cat p js n outer m) where
  pub settles : (k : SynKind) → m.label.kind ≡ k → kids_fit k m.label.text (map cat m.kids) ≡ true → text_fits k m.label.text ≡ true
      → cat n ≡ category_by k m.label.text (map cat m.kids) → Settles (fits outer k (category_by k m.label.text (map cat m.kids))) (judged_by p js m k)
  unfolding judged_by category_by
  settles kind.Unit same kids text is = decl.on_unit cat p js n outer m r
  settles kind.Function same kids text is = decl.on_function cat p js n outer m r (same, kids, is)
  settles kind.Declaration same kids text is = decl.on_declaration cat p js n outer m r (same, kids, is)
  settles kind.InitDecl same kids text is = decl.on_init_declarator cat p js n outer m r (same, kids, is)
  settles kind.Braces same kids text is = decl.on_braces cat p js n outer m r (same, kids, is)
  settles kind.Specs same kids text is = decl.on_specs cat p js n outer m r (same, kids, is)
  settles kind.Word same kids text is = decl.on_word cat p js n outer m r (same, kids, is)
  settles kind.StructSpec same kids text is = decl.on_struct cat p js n outer m r (same, kids, is)
  settles kind.Member same kids text is = decl.on_member cat p js n outer m r (same, kids, is)
  settles kind.EnumSpec same kids text is = decl.on_enum cat p js n outer m r (same, kids, is)
  settles kind.Enumer same kids text is = decl.on_enumerator cat p js n outer m r (same, kids, is)
  settles kind.Ident same kids text is = decl.on_name cat p js n outer m r (same, kids, is)
  settles kind.NoName same kids text is = decl.on_no_name cat p js n outer m r (same, kids, is)
  settles kind.Pointer same kids text is = decl.on_pointer cat p js n outer m r (same, kids, is)
  settles kind.ArrayOf same kids text is = decl.on_array cat p js n outer m r (same, kids, is)
  settles kind.Takes same kids text is = decl.on_takes cat p js n outer m r (same, kids, is)
  settles kind.Param same kids text is = decl.on_parameter cat p js n outer m r (same, kids, is)
  settles kind.TypeName same kids text is = decl.on_type_name cat p js n outer m r (same, kids, is)
  settles kind.Block same kids text is = stmt.on_block cat p js n outer m r (same, kids, is)
  settles kind.ExprStmt same kids text is = stmt.on_expression cat p js n outer m r (same, kids, is)
  settles kind.Empty same kids text is = stmt.on_empty cat p js n outer m r
  settles kind.If same kids text is = stmt.on_if cat p js n outer m r (same, kids, is)
  settles kind.While same kids text is = stmt.on_while cat p js n outer m r (same, kids, is)
  settles kind.Do same kids text is = stmt.on_do cat p js n outer m r (same, kids, is)
  settles kind.For same kids text is = stmt.on_for cat p js n outer m r (same, kids, is)
  settles kind.Break same kids text is = stmt.on_break cat p js n outer m r
  settles kind.Continue same kids text is = stmt.on_continue cat p js n outer m r
  settles kind.Return same kids text is = stmt.on_return cat p js n outer m r (same, kids, is)
  settles kind.Switch same kids text is = stmt.on_switch cat p js n outer m r (same, kids, is)
  settles kind.Case same kids text is = stmt.on_case cat p js n outer m r (same, kids, is)
  settles kind.Default same kids text is = stmt.on_default cat p js n outer m r
  settles kind.Paren same kids text is = expr.on_parentheses cat p js n outer m r (same, kids, is)
  settles kind.Str same kids text is = expr.on_string cat p js n outer m r (same, kids, is)
  settles kind.Var same kids text is = expr.on_var cat p js n outer m r (same, kids, is)
  settles kind.Unary same kids text is = expr.on_unary cat p js n outer m r (same, kids, is)
  settles kind.Post same kids text is = expr.on_post cat p js n outer m r (same, kids, is)
  settles kind.Binary same kids text is = expr.on_binary cat p js n outer m r (same, kids, is) text
  settles kind.Assign same kids text is = expr.on_assign cat p js n outer m r (same, kids, is) text
  settles kind.Cond same kids text is = expr.on_cond cat p js n outer m r (same, kids, is)
  settles kind.Comma same kids text is = expr.on_comma cat p js n outer m r (same, kids, is)
  settles kind.Index same kids text is = expr.on_index cat p js n outer m r (same, kids, is)
  settles kind.Call same kids text is = expr.on_call cat p js n outer m r (same, kids, is)
  settles kind.Dot same kids text is = expr.on_dot cat p js n outer m r (same, kids, is)
  settles kind.Arrow same kids text is = expr.on_arrow cat p js n outer m r (same, kids, is)
  settles kind.Cast same kids text is = expr.on_cast cat p js n outer m r (same, kids, is)
  settles kind.SizeExpr same kids text is = expr.on_size_expression cat p js n outer m r (same, kids, is)
  settles kind.SizeType same kids text is = expr.on_size_type cat p js n outer m r (same, kids, is)
  settles (kind.Int type) same kids text is = settled (fits outer (kind.Int type) (category_by (kind.Int type) m.label.text (map cat m.kids))) (means (expression (number_of_type (integer_type type) m.label.value))) refl
  settles kind.Char same kids text is = settled (fits outer kind.Char (category_by kind.Char m.label.text (map cat m.kids))) (means (expression (number_of_type int m.label.value))) refl
