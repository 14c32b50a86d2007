-- No parameters.
use Rattle.std.proofs.Common.{[], suc, length, refl, sym, ap, ◌∙◌, arith}
use Rattle.c_syntax.specs.declared.kind.SynKind.TheVariants as kind
use Rattle.c_syntax.specs.Trees.{one, plain_node}
use Rattle.c_syntax.specs.Tables.{stack_of}
use Rattle.c_grammar.specs.Answers.{found}
use Rattle.c_grammar.specs.Derivation.{start}
use Rattle.c_grammar.specs.Scopes.{after}
use Rattle.c_parts.proofs.NameLaws.{after_one}
use Rattle.c_parts.proofs.PushLaws.{no_trees}
use Rattle.c_parser.proofs.Tokens.{some_shorter}
use Rattle.c_parser.proofs.Made.{pushed_on}
use Rattle.c_parser.proofs.DeclaratorGives.{suffix_made, parameters_nothing, parameters_on}
use Rattle.c_parser.proofs.parser.Parser.takes_nothing.Goals as goal

pub returns-clause-gives : goal.returns-clause-gives
returns-clause-gives c = λ names x under declared.
    let part = c.args.inner.part in
    let old = c.args.self.now in
    let mid = c.advance.new.self in
    let node = plain_node kind.Takes (start x) (one x) in
    let kept = c.advance.ensures.kept in
    suffix_made _ (after names) x node under (suc part.height) (length old.rest.now) _ c.suffixed.result
    (c.suffixed.ensures.tree x [] under (stack_of mid.trees) c.len-mark.ensures (pushed_on x under part old mid kept declared.read.pushed) declared.said.itself_is (no_trees (stack_of mid.trees)))
    (ap (found node) (sym c.advance.ensures.rest))
    (kept.names_are ∙ declared.read.names_are ∙ sym (after_one names kind.Takes [] (start x) x refl))
    (parameters_on old mid x node kept declared.said.parameters_are (parameters_nothing (start x) x))
    (omega arith) (let h = declared.read.pushed.height_is in omega (arith, h)) (some_shorter _ _ c.advance.ensures.rest c.requires.some)
