use Rattle.std.proofs.Common.{[], ◌∷◌, sym, refl, ◌∙◌}
use Rattle.std.specs.Prelude.{flat_map}
use Rattle.c_typing.specs.Statements.{block_of}
use Rattle.c_type_ids.proofs.TableLaws.{grows_same}
use Rattle.c_meanings.proofs.MeaningLaws.{coded_row, waiting_row}
use Rattle.c_statement_rows.proofs.BlockLaws.{block_means, block_waits, known_parts, with_parts}
use Rattle.c_statement_rows.proofs.blocks.block.Goals as goal

pub returns-then-not-have_code : goal.returns-then-not-have_code
returns-then-not-have_code c =
    waiting_row c.args.nodes.now c.args.node 0 c.args.meanings.now c.requires.ready c.requires.within
    (block_waits c.args.nodes.now c.args.node c.requires.kind (sym c.have_code.ensures ∙ c.if-not-have_code.true))

pub returns : goal.returns
returns c =
    let table = c.args.nodes.now in
    let n = c.args.node in
    let mid = c.take_block.new.meanings in
    let (parts, e) = known_parts table n c.requires.kind (sym c.have_code.ensures ∙ c.if-not-have_code.false) in
    coded_row table n c.take_block.ensures.ready.0 c.args.meanings.now mid mid c.performed.result c.take_block.ensures.ready.1 c.requires.within c.take_block.ensures.left refl (grows_same mid.types mid.types refl) c.take_block.result (block_of (flat_map (λ ps. ps) parts) ∷ []) c.performed.ensures
    (with_parts table n c.requires.kind c.take_block.result parts e c.take_block.ensures.is) (block_means table n c.requires.kind parts e)
