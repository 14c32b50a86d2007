-- Each copy of a struct has a size above 0 that is a multiple of the alignment.
use Rattle.std.proofs.Common.{◌≡◌, ℕ, ◌<◌, true, List, [], Some, refl, sym, ap, ◌∙◌, subst, true≢false}
use Rattle.std.specs.List.{AllByRecursion}
use Rattle.c_lexer.specs.declared.token.Token.{Token}
use Rattle.c_syntax.specs.Trees.{Tree}
use Rattle.c_grammar.specs.Derivation.{IsTreeOf}
use Rattle.c_types.specs.declared.tree.Expr.{Expr}
use Rattle.c_types.specs.declared.tree.Func.{Func}
use Rattle.c_types.specs.Forms.{copy}
use Rattle.c_types.specs.Every.{EveryExpr, EveryStmt, InEveryExpr, own_exprs}
use Rattle.c_types.specs.WellMade.{CopiesStruct}
use Rattle.c_typing.specs.Types.{struct, has_size, size_of, align_of}
use Rattle.c_typing.specs.Places.{kid}
use Rattle.c_typing.specs.Names.{places}
use Rattle.c_typing.specs.Judgements.{Typing, Judgement, expresses, judgement_at, typing_at, layouts}
use Rattle.c_typing.specs.Typing.{judgements_at, unit_in, faults}
use Rattle.c_typing.proofs.MadeJudged.{IsFront, meant_later}
use Rattle.c_typing.proofs.MadeParts.{typing_meant}
use Rattle.c_typing.proofs.MadeEvery.{every_stmt}
use Rattle.c_typing.proofs.MadeForming.{is_free}
use Rattle.c_typing.proofs.MadeFunctions.{functions_good}
use Rattle.c_typing.proofs.MadeCode.{Each, Leaves}
use Rattle.c_typing.proofs.MadeEverywhere.{all_code}
use Rattle.c_typing.proofs.MadeSizes.{aligned}
use Rattle.c_typing.proofs.MadeCopiedSizes.{size_above}
use Rattle.c_typing.proofs.MadeCopiedStructs.{structs_solid, structs_aligned}
use Rattle.c_typing.proofs.MadeCopiedForms.{Complete}
use Rattle.c_typing.proofs.MadeCopiedCode.{all_complete, below}

module _ (tokens : List Token) (t : Tree) (derived : IsTreeOf tokens t) (quiet : faults t ≡ []) where
  free : (e : Expr) → is_free e ≡ true → CopiesStruct e
  free (copy size align to from) h = absurd (true≢false (sym h))
  free _ h = tt

  -- the struct that an expression has is complete where it is assigned
  sized_here : (js : List Judgement) → IsFront (places t) js → (k : ℕ) (x : Typing) (i : ℕ) → typing_at js k ≡ Some x → x.type ≡ struct i → has_size (layouts js) (struct i) ≡ true
  sized_here js front k x i e same =
      let m = typing_meant (judgement_at js k) x e in
      let c = all_complete tokens t derived quiet k x m.0 (ap (λ q. judgement_at q k) front.1 ∙ meant_later js front.0 k (expresses x m.0) m.1) in
      subst (λ u. Complete (places t) k u) same c js front (below tokens t derived quiet js k (expresses x m.0) m.1)

  copied : (js : List Judgement) → IsFront (places t) js → (k : ℕ) (x : Typing) (i : ℕ) (to from : Expr) → typing_at js k ≡ Some x → x.type ≡ struct i → CopiesStruct (copy (size_of (layouts js) x.type) (align_of (layouts js) x.type) to from)
  copied js front k x i to from e same =
      let a = aligned (layouts js) x.type (structs_aligned tokens t derived quiet js front) in
      let size = size_above (layouts js) (struct i) (structs_solid tokens t derived quiet js front) refl (sized_here js front k x i e same) in
      (a.align, a.whole, subst (λ u. 0 < size_of (layouts js) u) (sym same) size)

  leaves : Leaves t CopiesStruct (λ s. Unit {0}) (λ n. Unit {0}) (λ n. Unit {0}) (λ k. Unit {0}) (λ c u. Unit {0})
  leaves = record {
    free = free;
    is_local = λ k h. tt;
    is_set = λ k e h. tt;
    quiet = λ s h. tt;
    is_unset = λ k h. tt;
    up = λ n k node there h i c. tt;
    body = λ n node there e h. tt;
    static = λ node n e there is d s c. tt;
    text = λ js node bytes there front is e c. tt;
    named = λ node n e there is d h c. tt;
    hidden = λ js node x h i there front e lt c. tt;
    initial = λ n node a there is e h c. tt;
    named_function = λ js node e u there front is d h f c. tt;
    calling = λ f r ps es k h. tt;
    copying = λ js node x k to from there front e h c. copied js front (kid node 0) x k to from e h;
  }

  -- each copy is of a struct that has a size
  pub structs_copied : InEveryExpr (unit_in (places t) (judgements_at (places t))) (λ f. CopiesStruct)
  structs_copied = functions_good (λ (f : Func). EveryStmt (λ s. AllByRecursion (EveryExpr CopiesStruct) (own_exprs s)) f.body) (judgements_at (places t))
      (λ n f e. every_stmt (Each t CopiesStruct (λ s. Unit {0}) (λ n. Unit {0}) (λ n. Unit {0}) (λ k. Unit {0}) (λ c u. Unit {0})) (λ s. AllByRecursion (EveryExpr CopiesStruct) (own_exprs s)) (λ s h. h.0) f.body
      (all_code t CopiesStruct (λ s. Unit {0}) (λ n. Unit {0}) (λ n. Unit {0}) (λ k. Unit {0}) (λ c u. Unit {0}) leaves tokens derived n f e tt))
