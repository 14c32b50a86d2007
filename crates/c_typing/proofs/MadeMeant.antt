-- Where each node of a tree has a meaning of its form, functions and whole declarators have theirs.
use Rattle.std.proofs.Common.{◌≡◌, ℕ, List, true, Some, refl, sym, ap, ◌∙◌, subst, true≢false}
use Rattle.std.specs.Prelude.{slice_get}
use Rattle.c_lexer.specs.declared.token.Token.{Token}
use Rattle.c_syntax.specs.declared.kind.SynKind.TheVariants as kind
use Rattle.c_syntax.specs.Trees.{Tree}
use Rattle.c_grammar.specs.Derivation.{IsTreeOf}
use Rattle.c_types.specs.declared.tree.Func.{Func}
use Rattle.c_typing.specs.Types.{CType}
use Rattle.c_typing.specs.Places.{Node, nodes, is_whole}
use Rattle.c_typing.specs.Names.{places}
use Rattle.c_typing.specs.Judgements.{Meaning, declares, defines, means, judgement_at}
use Rattle.c_typing.specs.Shapes as category
use Rattle.c_typing.specs.Shapes.{Category, category_by}
use Rattle.c_typing.specs.ShapesOfNodes.{category_at}
use Rattle.c_typing.specs.Typing.{judgements_at}
use Rattle.c_typing.specs.Meant.{IsMeant, has_form, says_function, says_declarator}
use Rattle.c_typing.proofs.MadeTop.{category_is}

-- what is asked of the meanings of a tree without faults: functions that are defined and whole declarators have one
pub record IsMeaningful (t : Tree) : Type 0 where
  pub functions : (n : ℕ) (node : Node) → slice_get (nodes t) n ≡ Some node → node.label.kind ≡ kind.Function → (f : Func) × (judgement_at (judgements_at (places t)) n ≡ means (defines f))
  pub declarators : (n : ℕ) (node : Node) → slice_get (nodes t) n ≡ Some node → category_at t n ≡ category.declarator → is_whole (nodes t) node ≡ true → (u : CType) × (judgement_at (judgements_at (places t)) n ≡ means (declares u))

function_meant : (m : Meaning) → says_function m ≡ true → (f : Func) × (m ≡ defines f)
function_meant (defines f) e = (f, refl)
function_meant _ e = absurd (true≢false (sym e))

declarator_meant : (m : Meaning) → says_declarator true m ≡ true → (u : CType) × (m ≡ declares u)
declarator_meant (declares u) e = (u, refl)
declarator_meant _ e = absurd (true≢false (sym e))

pub meaningful : (tokens : List Token) (t : Tree) → IsTreeOf tokens t → ((n : ℕ) (m : Node) → slice_get (nodes t) n ≡ Some m → IsMeant t n m) → IsMeaningful t
unfolding category_by
meaningful tokens t derived means_all = record {
  functions = λ n node at is. let h = means_all n node at in
      let c = category_is tokens t derived n node at in
      let function : category_at t n ≡ category.function = c.1 ∙ subst (λ k. category_by k node.label.text c.0 ≡ category.function) (sym is) refl in
      let f = function_meant h.meaning (subst (λ d. has_form d node.label.kind (is_whole (nodes t) node) h.meaning ≡ true) function h.form) in
      (f.0, h.judged ∙ ap means f.1);
  declarators = λ n node at is whole. let h = means_all n node at in
      let u = declarator_meant h.meaning (subst (λ b. says_declarator b h.meaning ≡ true) whole (subst (λ d. has_form d node.label.kind (is_whole (nodes t) node) h.meaning ≡ true) is h.form)) in
      (u.0, h.judged ∙ ap means u.1);
}
