-- A declarator without an initializer.
use Rattle.std.proofs.Common.{suc, length, refl, arith, ◌+◌}
use Rattle.std.specs.Prelude.{⊤}
use Rattle.c_syntax.specs.declared.kind.SynKind.TheVariants as kind
use Rattle.c_syntax.specs.Trees.{plain_node, one}
use Rattle.c_parser.proofs.Made.{made}
use Rattle.c_parser.proofs.NamesBehind.{names_declared, names_init_one}
use Rattle.c_parser.proofs.InitializerLaws.{after_initialized, bare_found}
use Rattle.c_parser.proofs.parser.Parser.uninitialized.Goals as goal

pub returns-clause-read : goal.returns-clause-read
returns-clause-read c = λ names x under declared.
    let declarator = c.args.declarator in
    let node = plain_node kind.InitDecl declarator.part.start (one x) in
    let pushed = declared.read.pushed in
    made (λ t. ⊤) _ (after_initialized c.args.is_typedef names) node under (declarator.part.height + 1) (suc (length c.args.self.now.rest.now)) _ c.above.result
    (c.above.ensures.tree x under pushed) (bare_found names x _ declarator.part.start pushed.start_is)
    (names_init_one names _ c.args.is_typedef declarator.part.start node x refl
    (names_declared names _ _ c.args.is_typedef declarator.name.now x declared.read.names_are declared.said.itself_is.name_is c.in_ok-add.ensures.ok))
    tt (let h = pushed.height_is in omega (arith, h)) (omega arith)
