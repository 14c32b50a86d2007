-- What `identifiers` of a well-made unit needs of tokens: a tree does not say how its words are spelled.
use Rattle.std.proofs.Common.{◌≡◌, ℕ, List, [], ◌∷◌, refl, true, sym, true≢false, codes, Some}
use Rattle.c_lexer.specs.declared.token.IntType.TheVariants as type
use Rattle.c_syntax.specs.declared.kind.SynKind.TheVariants as kind
use Rattle.c_syntax.specs.Trees.{Tree, none, one, two, three, text_node, plain_node, int_node}
use Rattle.c_types.specs.declared.tree.Func.{Func}
use Rattle.c_types.specs.declared.tree.Unit.{Unit as Whole}
use Rattle.c_types.specs.Forms.{const, return_with}
use Rattle.c_types.specs.WellMade.{IsWellMade}
use Rattle.c_typing.specs.Statements.{block_of}
use Rattle.c_typing.specs.Typing.{IsTyped, faults, unit_of}
use Rattle.c_typing.proofs.Texts.{faults_of, whole_of}

-- `int NAME(void){return 0;}`
abbrev function_named : List ℕ → Tree
function_named text = plain_node kind.Function 0 (three
    (plain_node kind.Specs 0 (one (text_node kind.Word (codes "int") 0 none)))
    (plain_node kind.Takes 0 (one (text_node kind.Ident text 0 none)))
    (plain_node kind.Block 0 (one (plain_node kind.Return 0 (one (int_node type.Int 0 0))))))

-- a word with the text `1`, which no bytes have
abbrev odd : Tree
odd = plain_node kind.Unit 0 (two (function_named (codes "main")) (function_named (codes "1")))

abbrev returns_zero : List ℕ → Func
returns_zero text = record { name = text; params = 0; locals = 0; gives = true; body = block_of (return_with (Some (const 0)) ∷ []) }

abbrev odd_unit : Whole
odd_unit = record { objects = []; functions = returns_zero (codes "main") ∷ returns_zero (codes "1") ∷ [] }

odd_faults : faults odd ≡ []
unfolding faults_of
odd_faults = refl

odd_is : unit_of odd ≡ odd_unit
unfolding whole_of
odd_is = refl

odd_typed : IsTyped odd odd_unit
odd_typed = record { keeps = odd_faults; unit = odd_is }

odd_not_made : IsWellMade odd_unit → ⊥
odd_not_made made = true≢false (sym (((made.identifiers).1).0).0)
