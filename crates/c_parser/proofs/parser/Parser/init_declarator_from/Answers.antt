-- An initialized declarator from behind its declarator.
use Rattle.std.proofs.Common.{suc, length, sym, ap, arith, ◌+◌, ◌∙◌}
use Rattle.c_syntax.specs.Trees.{height}
use Rattle.c_grammar.specs.Answers.{deep}
use Rattle.c_grammar.specs.Reading.{below}
use Rattle.c_parser.specs.Gives.{itself, nothing_more}
use Rattle.c_parser.proofs.Made.{gives_same}
use Rattle.c_parser.proofs.Stopping.{gives_stop, whole_barred, entered, below_as, fit_beyond}
use Rattle.c_parser.proofs.Tokens.{behind_one_shorter, fit_enough}
use Rattle.c_parser.proofs.Spans.{gives_within, declared_on}
use Rattle.c_parser.proofs.InitializerLaws.{behind_equal, behind_comma, behind_semicolon, behind_other, value_level}
use Rattle.c_parser.proofs.parser.Parser.init_declarator_from.Goals.{else-not-at_mark-via-then-not-at_mark+else-not-at_mark-2, else-not-at_mark-via-else-not-at_mark}
use Rattle.c_parser.proofs.parser.Parser.init_declarator_from.Goals as goal

pub returns-in_err-lower-clause-read : goal.returns-in_err-lower-clause-read
returns-in_err-lower-clause-read c = λ names x under declared.
    let d = c.args.budget in
    let h = declared.read.pushed.height_is in
    let barred = c.in_err-lower.ensures.lower in
    gives_stop itself nothing_more _ _ _ _ _ _ _ c.in_err-lower.field-0.0 c.from_residual.ensures (
    whole_barred _ (height x) d 0 _ _ (behind_equal d (below d) c.args.is_typedef names x c.args.self.now.rest.now (sym c.at_mark.ensures ∙ c.if-at_mark.true))
    _ c.in_err-lower.field-0.0 (barred.0, let g = barred.1 in omega (arith, g, h)) c.in_err-lower.ensures.rest)

pub returns-then-at_mark-clause-read : goal.returns-then-at_mark-clause-read
returns-then-at_mark-clause-read c = λ names x under declared.
    let d = c.args.budget in
    let lower = c.in_ok-lower.lower in
    let entering = c.in_ok-lower.ensures in
    let high = declared.read.pushed.height_is in
    gives_within itself nothing_more _ _ _ (lower + 1) d (suc (length c.enter.new.self.rest.now)) (suc (length c.args.self.now.rest.now)) _ _
    (let n = entering.lower.next in omega (arith, n))
    (let a = behind_one_shorter c.args.self.now.rest.now in let b = ap length entering.rest in omega (arith, a, b)) (
    gives_same itself nothing_more _ _ _ _ _ _ _ _
    (behind_equal d (below d) c.args.is_typedef names x c.args.self.now.rest.now (sym c.at_mark.ensures ∙ c.if-at_mark.true)
    ∙ entered (height x) d lower _ _ (below_as _ _ d lower high entering.lower)
    ∙ value_level d lower entering.lower.level_is c.args.is_typedef names x c.args.self.now.rest.now c.enter.new.self.rest.now entering.rest)
    (c.initialized.ensures.read names x under (declared_on names x under c.args.self.now c.enter.new.self c.args.declarator entering.kept declared)))

pub returns-then-not-at_mark-2-clause-read : goal.returns-then-not-at_mark-2-clause-read
returns-then-not-at_mark-2-clause-read c = λ names x under declared.
    behind_other c.args.budget (below c.args.budget) c.args.is_typedef names x c.args.self.now.rest.now (sym c.at_mark.ensures ∙ c.if-at_mark.false)
    (sym c.at_mark-2.ensures ∙ c.if-not-at_mark.true) (sym c.at_mark-then-not-at_mark.ensures ∙ c.if-not-at_mark-2.true)

pub returns-then-budget-declarator-clause-read : goal.returns-then-budget-declarator-clause-read
returns-then-budget-declarator-clause-read c = λ names x under declared.
    let d = c.args.budget in
    let h = declared.read.pushed.height_is in
    elim c.else-not-at_mark.branch [
      | else-not-at_mark-via-then-not-at_mark+else-not-at_mark-2 w ↦
          behind_semicolon d (below d) c.args.is_typedef names x c.args.self.now.rest.now (sym w.at_mark-then-not-at_mark.ensures ∙ w.if-not-at_mark-2.false)
      | else-not-at_mark-via-else-not-at_mark w ↦ behind_comma d (below d) c.args.is_typedef names x c.args.self.now.rest.now (sym c.at_mark-2.ensures ∙ w.if-not-at_mark.false)
    ]
    ∙ fit_beyond (suc (height x)) d _ _ (let g = c.if-budget-declarator.true in omega (arith, g, h)) ∙ ap deep (sym c.advance.ensures.rest)

pub returns-clause-read : goal.returns-clause-read
returns-clause-read c = λ names x under declared.
    let d = c.args.budget in
    let h = declared.read.pushed.height_is in
    gives_within itself nothing_more _ _ _ (c.args.declarator.part.height + 1) d (suc (length c.args.self.now.rest.now)) (suc (length c.args.self.now.rest.now)) _ _
    (let g = c.if-budget-declarator.false in omega (arith, g)) (omega arith) (
    gives_same itself nothing_more _ _ _ _ _ _ _ _
    (elim c.else-not-at_mark.branch [
      | else-not-at_mark-via-then-not-at_mark+else-not-at_mark-2 w ↦
          behind_semicolon d (below d) c.args.is_typedef names x c.args.self.now.rest.now (sym w.at_mark-then-not-at_mark.ensures ∙ w.if-not-at_mark-2.false)
      | else-not-at_mark-via-else-not-at_mark w ↦ behind_comma d (below d) c.args.is_typedef names x c.args.self.now.rest.now (sym c.at_mark-2.ensures ∙ w.if-not-at_mark.false)
    ]
    ∙ fit_enough (suc (height x)) d _ _ (let g = c.if-budget-declarator.false in omega (arith, g, h)))
    (c.uninitialized.ensures.read names x under declared))
