-- Which units are accepted, at the limits of height and bytes.
use Rattle.std.proofs.Common.{◌≡◌, ℕ, zero, suc, List, [], ◌∷◌, refl, true, length, ap, subst, arith, codes, Some}
use Rattle.c_lexer.specs.declared.token.IntType.TheVariants as type
use Rattle.c_lexer.specs.declared.token.Token.{Token}
use Rattle.c_lexer.specs.Tokens.{HasTokens}
use Rattle.c_syntax.specs.declared.kind.SynKind.TheVariants as kind
use Rattle.c_syntax.specs.Trees.{Tree, none, one, three, text_node, plain_node, int_node, height}
use Rattle.c_grammar.specs.Derivation.{IsTreeOf}
use Rattle.c_types.specs.declared.tree.Func.{Func}
use Rattle.c_types.specs.declared.tree.Unit.{Unit as Whole}
use Rattle.c_types.specs.Forms.{const, return_with}
use Rattle.c_lexer.proofs.OneList.{one_list}
use Rattle.c_grammar.proofs.OneTree.{one_tree_of}
use Rattle.c_typing.specs.Statements.{block_of}
use Rattle.c_typing.specs.Typing.{IsAccepted, faults, unit_of}
use Rattle.c_typing.proofs.Texts.{faults_of, whole_of}

-- `int main(void){return ((..0..));}` with n pairs of parentheses
abbrev nested : ℕ → Tree
nested zero = int_node type.Int 0 0
nested (suc n) = plain_node kind.Paren 0 (one (nested n))

abbrev leaf : List ℕ → Tree
leaf text = text_node kind.Ident text 0 none

abbrev returns_nested : ℕ → Tree
returns_nested n = plain_node kind.Unit 0 (one (plain_node kind.Function 0 (three
    (plain_node kind.Specs 0 (one (text_node kind.Word (codes "int") 0 none)))
    (plain_node kind.Takes 0 (one (leaf (codes "main"))))
    (plain_node kind.Block 0 (one (plain_node kind.Return 0 (one (nested n))))))))

-- with 495 pairs the tree has 500 levels, and with 496 it has 501
height_495 : height (returns_nested 495) ≡ 500
height_495 = refl

height_496 : height (returns_nested 496) ≡ 501
height_496 = refl

-- it breaks no rule
faults_495 : faults (returns_nested 495) ≡ []
unfolding faults_of
faults_495 = refl

abbrev returns_zero : Func
returns_zero = record { name = codes "main"; params = 0; locals = 0; gives = true; body = block_of (return_with (Some (const 0)) ∷ []) }

abbrev typed : Whole
typed = record { objects = []; functions = returns_zero ∷ [] }

unit_495 : unit_of (returns_nested 495) ≡ typed
unfolding whole_of
unit_495 = refl

-- so a text of 4,194,304 bytes with the tokens of this tree is accepted
accepted_at_the_limits : (bytes : List ℕ) (tokens : List Token) → length bytes ≡ 4194304 → HasTokens bytes tokens → IsTreeOf tokens (returns_nested 495)
    → IsAccepted bytes typed
accepted_at_the_limits bytes tokens size lexed parsed =
    record { short = omega (arith, size); tokens = tokens; lexed = lexed; tree = returns_nested 495; parsed = parsed; low = omega (arith, height_495); typed = record { keeps = faults_495; unit = unit_495 } }

-- one of 4,194,305 bytes is not
too_long : (bytes : List ℕ) (u : Whole) → length bytes ≡ 4194305 → IsAccepted bytes u → ⊥
too_long bytes u size accepted = let short = accepted.short in absurd (omega (arith, size, short))

-- nor one whose tokens have the higher tree
too_high : (bytes : List ℕ) (tokens : List Token) (u : Whole) → HasTokens bytes tokens → IsTreeOf tokens (returns_nested 496) → IsAccepted bytes u → ⊥
too_high bytes tokens u lexed parsed accepted = too_low (one_tree_of tokens accepted.tree (returns_nested 496) (subst (λ ts. IsTreeOf ts accepted.tree) (one_list bytes accepted.tokens tokens accepted.lexed lexed) accepted.parsed) parsed)
  where
    too_low : accepted.tree ≡ returns_nested 496 → ⊥
    too_low e = let same : height accepted.tree ≡ height (returns_nested 496) = ap height e in let low = accepted.low in absurd (omega (arith, height_496, same, low))
