-- A word among specs.
use Rattle.std.proofs.Common.{Ok, refl, sym, ap, ◌∙◌, arith}
use Rattle.c_syntax.specs.declared.kind.SynKind.TheVariants as kind
use Rattle.c_syntax.specs.Trees.{none, text_node}
use Rattle.c_grammar.specs.Answers.{found}
use Rattle.c_parts.specs.Says.{IsSpecifier}
use Rattle.c_parts.proofs.NameLaws.{after_none}
use Rattle.c_parser.proofs.Stopping.{gives_stop, barred, entered}
use Rattle.c_parser.proofs.Tokens.{some_shorter}
use Rattle.c_parser.proofs.Made.{pushed_leaf}
use Rattle.c_parser.proofs.SpecGives.{word_says}
use Rattle.c_parser.proofs.parser.Parser.specifier_word.Goals as goal

pub returns-in_err-enter : goal.returns-in_err-enter
returns-in_err-enter c = gives_stop (λ s. s.part) IsSpecifier _ _ _ _ _ _ _ c.in_err-enter.field-0.0 c.from_residual.ensures (
    barred 0 c.args.budget _ _ _ c.in_err-enter.field-0.0 c.in_err-enter.ensures.lower c.in_err-enter.ensures.rest)

pub returns : goal.returns
returns c =
    let node = text_node kind.Word c.args.text.now c.args.start none in
    let entering = c.in_ok-enter.ensures in
    record {
      tree = node;
      found_is = entered 0 c.args.budget c.in_ok-enter.field-0 _ _ entering.lower ∙ ap (found node) (sym entering.rest);
      read = record {
        names_are = entering.kept.names_are ∙ sym (after_none c.args.self.now.names kind.Word c.args.text.now c.args.start refl);
        pushed = pushed_leaf node c.args.self.now c.enter.new.self _ (Ok c.in_ok-part.part) entering.kept c.in_ok-part.ensures.tree;
      };
      said = word_says c.args.text.now c.args.start _ _ _ c.is_storage_word.ensures c.eq.ensures refl refl;
      low = let f = entering.lower.fits in let h = c.in_ok-part.ensures.height in omega (arith, f, h);
      shorter = some_shorter _ _ entering.rest c.requires;
    }
