-- A tree has one typed unit, and bytes are accepted as one unit.
use Rattle.std.proofs.Common.{◌≡◌, ℕ, List, ap, sym, ◌∙◌, subst}
use Rattle.c_lexer.proofs.OneList.{one_list}
use Rattle.c_syntax.specs.Trees.{Tree}
use Rattle.c_grammar.specs.Derivation.{IsTreeOf}
use Rattle.c_grammar.proofs.OneTree.{one_tree_of}
use Rattle.c_types.specs.declared.tree.Unit.{Unit as Whole}
use Rattle.c_typing.specs.Typing.{IsTyped, IsAccepted, unit_of}

pub one_unit : (t : Tree) (u v : Whole) → IsTyped t u → IsTyped t v → u ≡ v
one_unit t u v a b = sym a.unit ∙ b.unit

pub accepted_as_one : (bytes : List ℕ) (u v : Whole) → IsAccepted bytes u → IsAccepted bytes v → u ≡ v
accepted_as_one bytes u v a b =
    let tokens : a.tokens ≡ b.tokens = one_list bytes a.tokens b.tokens a.lexed b.lexed in
    let trees : a.tree ≡ b.tree = one_tree_of b.tokens a.tree b.tree (subst (λ ts. IsTreeOf ts a.tree) tokens a.parsed) b.parsed in
    sym a.typed.unit ∙ (ap unit_of trees ∙ b.typed.unit)
