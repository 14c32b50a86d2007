-- A declarator with its initializer.
use Rattle.std.proofs.Common.{suc, length, refl, arith, ◌+◌, ◌∙◌}
use Rattle.std.specs.Prelude.{⊤}
use Rattle.c_syntax.specs.declared.kind.SynKind.TheVariants as kind
use Rattle.c_syntax.specs.Trees.{plain_node, two}
use Rattle.c_syntax.specs.Tables.{stack_of}
use Rattle.c_parser.specs.Gives.{itself, nothing_more}
use Rattle.c_parser.proofs.Made.{made}
use Rattle.c_parser.proofs.Stopping.{gives_stop, stops_before, found_then}
use Rattle.c_parser.proofs.NamesBehind.{names_declared, names_init_two}
use Rattle.c_parser.proofs.InitializerLaws.{after_initialized, value_inside}
use Rattle.c_parser.proofs.parser.Parser.initialized.Goals as goal

pub returns-in_err-value-clause-read : goal.returns-in_err-value-clause-read
returns-in_err-value-clause-read c = λ names x under declared.
    let declarator = c.args.declarator in
    let behind = names_declared names _ c.add.new.self c.args.is_typedef declarator.name.now x declared.read.names_are declared.said.itself_is.name_is c.in_ok-add.ensures.ok in
    gives_stop itself nothing_more _ _ _ _ _ _ _ c.in_err-value.field-0.0 c.from_residual-in_err-value.ensures (
    stops_before _ _ _ _ c.in_err-value.field-0.0 (value_inside c.args.budget c.args.is_typedef names c.add.new.self x c.args.self.now.rest.now declarator.part.start behind
    declared.read.pushed.start_is) c.in_err-value.ensures)

pub returns-clause-read : goal.returns-clause-read
returns-clause-read c = λ names x under declared.
    let declarator = c.args.declarator in
    let pushed = declared.read.pushed in
    let behind = names_declared names _ c.add.new.self c.args.is_typedef declarator.name.now x declared.read.names_are declared.said.itself_is.name_is c.in_ok-add.ensures.ok in
    let value = c.in_ok-value.ensures in
    let y = value.tree in
    let node = plain_node kind.InitDecl declarator.part.start (two x y) in
    made (λ t. ⊤) _ (after_initialized c.args.is_typedef names) node under (c.args.budget + 1) (suc (length c.args.self.now.rest.now)) _ c.above_two.result
    (c.above_two.ensures.tree x y under (stack_of c.args.self.now.trees) pushed value.read.pushed)
    (value_inside c.args.budget c.args.is_typedef names c.add.new.self x c.args.self.now.rest.now declarator.part.start behind pushed.start_is ∙ found_then _ _ y _ value.found_is)
    (names_init_two names c.add.new.self _ c.args.is_typedef declarator.part.start node x y refl behind value.read.names_are) tt
    (let h = pushed.height_is in let i = value.read.pushed.height_is in let l = value.low in let f = c.requires.fits in omega (arith, h, i, l, f))
    (let s = value.shorter in omega (arith, s))
