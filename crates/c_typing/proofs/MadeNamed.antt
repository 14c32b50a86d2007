-- Each object that the code of a function names is one of the unit.
use Rattle.std.proofs.Common.{◌≡◌, ℕ, ◌<◌, true, List, length, Some, sym, ap, arith, true≢false}
use Rattle.std.specs.Prelude.{slice_get}
use Rattle.std.specs.List.{AllByRecursion}
use Rattle.c_lexer.specs.declared.token.Token.{Token}
use Rattle.c_syntax.specs.Trees.{Tree}
use Rattle.c_grammar.specs.Derivation.{IsTreeOf}
use Rattle.c_types.specs.declared.tree.Expr.{Expr}
use Rattle.c_types.specs.declared.tree.Func.{Func}
use Rattle.c_types.specs.declared.tree.Unit.{Unit as WholeUnit}
use Rattle.c_types.specs.Forms.{address}
use Rattle.c_types.specs.Every.{EveryExpr, EveryStmt, InEveryExpr, own_exprs}
use Rattle.c_types.specs.WellMade.{NamesObject}
use Rattle.c_typing.specs.Types.{CType}
use Rattle.c_typing.specs.Places.{Node, nodes, is_string, is_whole}
use Rattle.c_typing.specs.Names.{places, objects_of}
use Rattle.c_typing.specs.Judgements.{means, declares, judgement_at}
use Rattle.c_typing.specs.Shapes as category
use Rattle.c_typing.specs.ShapesOfNodes.{category_at}
use Rattle.c_typing.specs.Expressions.{literal}
use Rattle.c_typing.specs.Typing.{judgements_at, unit_in}
use Rattle.c_typing.proofs.MadeDefined.{Clean}
use Rattle.c_typing.proofs.MadeEvery.{every_stmt}
use Rattle.c_typing.proofs.MadeForming.{is_free}
use Rattle.c_typing.proofs.MadeFunctions.{functions_good}
use Rattle.c_typing.proofs.MadeCode.{Each, Leaves}
use Rattle.c_typing.proofs.MadeEverywhere.{all_code}
use Rattle.c_typing.proofs.MadeObjects.{data_length, literal_below, object_below}

module _ (tokens : List Token) (t : Tree) (derived : IsTreeOf tokens t) (ok : Clean t)
    (meant : (n : ℕ) (node : Node) → slice_get (nodes t) n ≡ Some node → category_at t n ≡ category.declarator → is_whole (nodes t) node ≡ true → (u : CType) × (judgement_at (judgements_at (places t)) n ≡ means (declares u))) where
  unit : WholeUnit
  unit = unit_in (places t) (judgements_at (places t))

  abbrev Names : Expr → Type 0
  Names e = NamesObject (unit_in (places t) (judgements_at (places t))) e

  abbrev Any : {A : Type 0} → A → Type 0
  Any a = Unit {0}

  free : (e : Expr) → is_free e ≡ true → Names e
  free (address o a) h = absurd (true≢false (sym h))
  free _ h = tt

  below : (o a : ℕ) → o < length (objects_of (places t)) → Names (address o a)
  below o a lt = let long = data_length (places t) (judgements_at (places t)) in omega (arith, lt, long)

  leaves : Leaves t Names (λ s. Unit {0}) (λ n. Unit {0}) (λ n. Unit {0}) (λ k. Unit {0}) (λ c u. Unit {0})
  leaves = record {
    free = free;
    is_local = λ k h. tt;
    is_set = λ k e h. tt;
    quiet = λ s h. tt;
    is_unset = λ k h. tt;
    up = λ n k node there h i c. tt;
    body = λ n node there e h. tt;
    static = λ node n e there is d s c. below _ 0 (object_below tokens t derived ok meant n node e there is d s);
    text = λ js node bytes there front is e c. let a = literal_below (places t) js node (literal (places t) js bytes) 0 there (ap is_string is) front e in let long = data_length (places t) (judgements_at (places t)) in omega (arith, a, long);
    named = λ node n e there is d h c. tt;
    hidden = λ js node x h i there front e lt c. tt;
    initial = λ n node a there is e h c. tt;
    named_function = λ js node e u there front is d h f c. tt;
    calling = λ f r ps es k h. tt;
    copying = λ js node x k to from there front e h c. tt;
  }

  pub objects_named : InEveryExpr (unit_in (places t) (judgements_at (places t))) (λ f. NamesObject (unit_in (places t) (judgements_at (places t))))
  objects_named = functions_good (λ (f : Func). EveryStmt (λ s. AllByRecursion (EveryExpr Names) (own_exprs s)) f.body) (judgements_at (places t))
      (λ n f e. every_stmt (Each t Names (λ s. Unit {0}) (λ n. Unit {0}) (λ n. Unit {0}) (λ k. Unit {0}) (λ c u. Unit {0})) (λ s. AllByRecursion (EveryExpr Names) (own_exprs s)) (λ s h. h.0) f.body
      (all_code t Names (λ s. Unit {0}) (λ n. Unit {0}) (λ n. Unit {0}) (λ k. Unit {0}) (λ c u. Unit {0}) leaves tokens derived n f e tt))
