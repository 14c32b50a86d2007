-- A string literal, with those next to it.
use Rattle.std.proofs.Common.{refl, sym, ap, ◌∙◌, arith, length}
use Rattle.std.specs.Prelude.{⊤}
use Rattle.c_syntax.specs.Trees.{string_node}
use Rattle.c_syntax.specs.Tables.{stack_of}
use Rattle.c_grammar.specs.Scopes.{after}
use Rattle.c_grammar.specs.Reading.{below}
use Rattle.c_parts.proofs.NameLaws.{after_string}
use Rattle.c_parser.specs.Gives.{itself, nothing_more}
use Rattle.c_parser.proofs.Tokens.{still_shorter, joined_step, string_read, shorter_one}
use Rattle.c_parser.proofs.Stopping.{gives_stop, whole_barred}
use Rattle.c_parser.proofs.LeafLaws.{string_shape}
use Rattle.c_parser.proofs.Made.{made, pushed_leaf, keeps_then}
use Rattle.c_parser.proofs.parser.Parser.string.Goals as goal

pub returns-in_err-enter : goal.returns-in_err-enter
returns-in_err-enter c = gives_stop itself nothing_more _ _ _ _ _ _ _ c.in_err-enter.field-0.0 c.from_residual.ensures (
    whole_barred _ 0 c.args.budget 0 _ _ (string_shape c.args.budget (below c.args.budget) c.args.self.now.names c.args.self.now.rest.now c.args.first.now c.requires.0 c.requires.1.0)
    _ c.in_err-enter.field-0.0 c.in_err-enter.ensures.lower c.in_err-enter.ensures.rest)

pub loop-more-preserved : goal.loop-more-preserved
loop-more-preserved c = record {
  joined = joined_step c.loop-more.bytes _ _ _ c.loop-more.self.rest.now _ _ _ c.in-Some.ensures.some c.as_slice-in-Some.ensures c.in_ok-push_all-2.ensures.ok c.advance.ensures.rest c.loop-more.invariant.joined;
  shorter = still_shorter _ c.loop-more.self.rest.now _ c.advance.ensures.rest c.loop-more.invariant.shorter;
  kept = keeps_then _ c.loop-more.self _ c.loop-more.invariant.kept c.advance.ensures.kept;
}

pub returns : goal.returns
returns c =
    let node = string_node c.loop-more.bytes c.args.start in
    let kept = keeps_then c.args.self.now c.enter.new.self c.loop-more.self c.in_ok-enter.ensures.kept c.loop-more.invariant.kept in
    made (λ t. ⊤) _ (after c.args.self.now.names) node (stack_of c.args.self.now.trees) c.args.budget (length c.args.self.now.rest.now) _ c.literal.result
    (pushed_leaf node c.args.self.now c.loop-more.self _ _ kept c.literal.ensures.tree)
    (string_read c.args.budget (below c.args.budget) c.args.self.now.names c.args.self.now.rest.now _ c.loop-more.self.rest.now c.args.first.now c.loop-more.bytes c.args.start node c.requires
    c.in_ok-enter.ensures.lower.fits c.in_ok-enter.ensures.rest c.loop-more.invariant.joined c.in_default.ensures.none refl)
    (kept.names_are ∙ sym (after_string c.args.self.now.names c.loop-more.bytes c.args.start)) tt
    (let f = c.in_ok-enter.ensures.lower.fits in omega (arith, f))
    (let a = shorter_one _ _ c.requires.1.0 in let b = ap length c.in_ok-enter.ensures.rest in let d = c.loop-more.invariant.shorter in omega (arith, a, b, d))
