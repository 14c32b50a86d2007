-- Statements.
use Rattle.std.proofs.Common.{ℕ, Ok, ◌≡◌, ◌≤◌, ◌<◌, drop, true, false, suc, length, [], refl, sym, ap, ◌∙◌, arith}
use Rattle.std.specs.Prelude.{⊤}
use Rattle.c_lexer.specs.declared.token.Punct.TheVariants.{LeftParenthesis, LeftBrace, RightBrace}
use Rattle.c_lexer.specs.declared.token.TokenKind.TheVariants as token
use Rattle.c_syntax.specs.declared.kind.SynKind.TheVariants as kind
use Rattle.c_syntax.specs.Trees.{◌then◌, three, plain_node, forest_of, height}
use Rattle.c_syntax.specs.Tables.{stack_of}
use Rattle.c_grammar.specs.Scopes.{Names, add, after, entries_behind, opened}
use Rattle.c_grammar.specs.Derivation.{ends_open}
use Rattle.c_grammar.specs.Answers.{found}
use Rattle.c_grammar.specs.Reading.{below, level}
use Rattle.c_parts.specs.Says.{IsStatement}
use Rattle.c_parser.specs.Gives.{itself, nothing_more, itself_high, no_more, behind_all, SaysFor}
use Rattle.c_parser.specs.Steps.{body_at, case_of, default_of, standing_of}
use Rattle.c_parser.proofs.Stopping.{gives_stop, gives_row_stop, stops_before, found_then, passed, stops_same}
use Rattle.c_parser.proofs.Tokens.{shorter_behind, behind_one_shorter}
use Rattle.c_parser.proofs.Made.{made, two_made, three_made, gives_same, keeps_same, keeps_then, pushed_on, read_from, row_from, trees_on}
use Rattle.c_parser.proofs.Spans.{memory_stop, mark_stops, gives_within, gives_kept, scope_read, statement_read, statement_barred}
use Rattle.c_parser.proofs.ItemRows.{item_row_start, item_row_stops, item_row_next, item_row_end}
use Rattle.c_parser.proofs.NamesBehind.{drop_add, block_entries}
use Rattle.c_parser.proofs.BlockLaws.{brace_stops, body_inside, block_closed, statement_brace, statement_semicolon, statement_word, statement_other, statement_nothing, keyword_if, keyword_while, keyword_do, keyword_for, keyword_return, keyword_break, keyword_continue, keyword_switch, keyword_none}
use Rattle.c_parser.proofs.CompoundLaws.{if_shape, if_entered, then_inside, alone_inside, else_inside, while_shape, while_entered, while_body, do_shape, do_entered, do_end}
use Rattle.c_parser.proofs.ForLaws.{for_open, for_inside, for_inner, parts_second, parts_third, parts_body, names_parts, for_entries}
use Rattle.c_parser.proofs.SwitchLaws.{switch_shape, switch_entered, switch_behind, switch_open, switch_names, scoped_open, group_row_start, group_row_stops, group_row_next, group_row_end, item_case, item_default, item_statement}
use Rattle.c_parser.proofs.parser.Parser.+statements.Goals as goal

-- ---- blocks

pub block_items-loop-self-init : goal.block_items-loop-self-init
block_items-loop-self-init t c =
    item_row_start c.args.budget (below c.args.budget) c.args.self.now.names _ (stack_of c.args.self.now.trees) c.args.budget (suc (length c.args.self.now.rest.now)) c.args.self.now refl refl refl
    (omega arith)

pub block_items-returns-in_err-block_item : goal.block_items-returns-in_err-block_item
block_items-returns-in_err-block_item t c =
    gives_row_stop itself_high no_more _ _ _ _ _ _ _ c.in_err-block_item.field-0.0 c.from_residual.ensures (
    item_row_stops c.args.budget (below c.args.budget) c.args.self.now.names _ (stack_of c.args.self.now.trees) c.args.budget (suc (length c.args.self.now.rest.now)) c.loop-self.self
    c.loop-self.height c.loop-self.invariant (sym c.at_mark.ensures ∙ c.loop-self-test.true) _ c.in_err-block_item.field-0.0 c.in_err-block_item.ensures)

pub block_items-loop-self-preserved : goal.block_items-loop-self-preserved
block_items-loop-self-preserved t c =
    item_row_next c.args.budget (below c.args.budget) c.args.self.now.names _ (stack_of c.args.self.now.trees) c.args.budget (suc (length c.args.self.now.rest.now)) c.loop-self.self
    c.loop-self.height c.loop-self.invariant (sym c.at_mark.ensures ∙ c.loop-self-test.true) _ c.block_item.new.self c.in_ok-block_item.field-0 c.in_ok-block_item.ensures _ c.max-height.ensures

pub block_items-returns : goal.block_items-returns
block_items-returns t c =
    item_row_end c.args.budget (below c.args.budget) c.args.self.now.names _ (stack_of c.args.self.now.trees) c.args.budget (suc (length c.args.self.now.rest.now)) c.loop-self.self
    c.loop-self.height c.loop-self.invariant (λ ts. ⊤) (sym c.at_mark.ensures ∙ c.loop-self-test.false) tt

pub body-returns-in_err-lower : goal.body-returns-in_err-lower
body-returns-in_err-lower t c = gives_stop itself (λ t part. t.label.kind ≡ kind.Block) _ _ _ _ _ _ _ c.in_err-lower.field-0.0 c.from_residual.ensures (
    brace_stops c.args.budget c.args.self.now.names c.args.self.now c.open_brace.new.self c.in_err-lower.field-0.0 c.in_err-lower.ensures)

pub body-returns-in_err-height : goal.body-returns-in_err-height
body-returns-in_err-height t c = gives_stop itself (λ t part. t.label.kind ≡ kind.Block) _ _ _ _ _ _ _ c.in_err-height.field-0.0 c.from_residual-in_err-height.ensures (
    stops_before _ _ _ _ c.in_err-height.field-0.0 (body_inside c.args.budget c.in_ok-lower.lower c.args.self.now c.open_brace.new.self c.in_ok-lower.ensures) c.in_err-height.ensures)

pub body-returns-in_err-expect : goal.body-returns-in_err-expect
body-returns-in_err-expect t c =
    let row = c.in_ok-height.ensures in
    gives_stop itself (λ t part. t.label.kind ≡ kind.Block) _ _ _ _ _ _ _ c.in_err-expect.field-0.0 c.from_residual-in_err-expect.ensures (
    mark_stops _ RightBrace c.block_items.new.self c.expect.new.self _ _
    (body_inside c.args.budget c.in_ok-lower.lower c.args.self.now c.open_brace.new.self c.in_ok-lower.ensures ∙ found_then _ _ _ _ row.found_is) c.in_err-expect.ensures)

pub body-returns : goal.body-returns
body-returns t c =
    let names = c.args.self.now.names in
    let brace = c.in_ok-lower.ensures in
    let given = c.in_ok-height.ensures in
    let row = row_from _ _ _ _ c.args.self.now c.open_brace.new.self c.block_items.new.self _ brace.kept given in
    let close = c.in_ok-expect.ensures in
    let node = plain_node kind.Block c.start-start.result (forest_of row.trees) in
    let fewer : length c.expect.new.self.rest.now < length c.args.self.now.rest.now =
    let a = given.shorter in let b = close.shorter in let e = ap length brace.rest_is in let g = behind_one_shorter c.args.self.now.rest.now in omega (arith, a, b, e, g) in
    made (λ t. t.label.kind ≡ kind.Block) _ (λ t. add names (entries_behind false t.kids)) node (stack_of c.args.self.now.trees) c.args.budget (length c.args.self.now.rest.now) _ c.above_row.result
    (c.above_row.ensures.tree row.trees (stack_of c.args.self.now.trees) (c.len-mark.ensures ∙ ap (λ trees. length (stack_of trees)) brace.kept.trees_are)
    (trees_on row.trees _ _ c.block_items.new.self c.expect.new.self close.kept row.read.pushed))
    (body_inside c.args.budget c.in_ok-lower.lower c.args.self.now c.open_brace.new.self brace ∙ found_then _ _ _ _ row.found_is
    ∙ passed RightBrace c.block_items.new.self c.expect.new.self _ close
    ∙ ap (λ n. found (plain_node kind.Block n (forest_of row.trees)) c.expect.new.self.rest.now) (sym c.start-start.ensures))
    (close.kept.names_are ∙ row.read.names_are) refl
    (let h = row.read.pushed.height_is in let l = given.low in let n = brace.below_is.next in omega (arith, h, l, n)) fewer

pub block-returns : goal.block-returns
block-returns t c =
    let given = c.in_ok-block.ensures in
    statement_read _ _ _ _ _ _ c.in_ok-block.block false c.closed.result c.closed.ensures (
    scope_read _ _ (λ t. t.label.kind ≡ kind.Block) (λ t. false ≡ ends_open t) (λ t. entries_behind false t.kids) c.args.budget c.args.budget _ (length c.args.self.now.rest.now) c.args.self.now
    (record { alloc = c.args.self.now.alloc; rest = c.args.self.now.rest; names = c.open.new.self; trees = c.args.self.now.trees; parameters = c.args.self.now.parameters })
    c.body.new.self _ c.in_ok-block.block
    (ap (λ (n : Names). body_at c.args.budget (below c.args.budget) n c.args.self.now.rest.now) (sym c.in_ok-open.ensures.ok)) c.in_ok-open.ensures.ok refl given block_closed block_entries
    c.close.ensures refl refl (omega arith) given.shorter)

-- ---- `if`

pub if_statement-returns-in_err-lower : goal.if_statement-returns-in_err-lower
if_statement-returns-in_err-lower t c = statement_barred _ 1 c.args.budget _ _ (if_shape c.args.budget (below c.args.budget) c.args.start c.args.self.now.names c.args.self.now.rest.now)
    _ _ _ _ _ _ c.in_err-lower.field-0.0 c.from_residual.ensures c.in_err-lower.ensures.lower c.in_err-lower.ensures.rest

pub if_statement-returns-in_err-condition : goal.if_statement-returns-in_err-condition
if_statement-returns-in_err-condition t c =
    gives_stop (λ s. s.part) IsStatement _ _ _ _ _ _ _ c.in_err-condition.field-0.0 c.from_residual-in_err-condition.ensures (
    stops_before _ _ _ _ c.in_err-condition.field-0.0 (if_entered c.args.budget c.in_ok-lower.lower c.in_ok-lower.ensures.lower c.args.start c.args.self.now c.enter.new.self c.in_ok-lower.ensures.kept c.in_ok-lower.ensures.rest) c.in_err-condition.ensures)

pub if_statement-returns : goal.if_statement-returns
if_statement-returns t c =
    let entered = c.in_ok-lower.ensures in
    let x = c.in_ok-condition.ensures in
    let fewer = shorter_behind c.args.self.now.rest.now c.enter.new.self.rest.now c.condition.new.self.rest.now entered.rest x.shorter in
    gives_within (λ s. s.part) IsStatement _ _ _ (suc c.in_ok-lower.lower) c.args.budget (length c.condition.new.self.rest.now) (length c.args.self.now.rest.now) _ _
    (let n = entered.lower.next in omega (arith, n)) (omega (arith, fewer)) (
    gives_same (λ s. s.part) IsStatement _ _ _ _ _ _ _ _
    (if_entered c.args.budget c.in_ok-lower.lower entered.lower c.args.start c.args.self.now c.enter.new.self entered.kept entered.rest ∙ found_then _ _ x.tree _ x.found_is) (
    gives_kept (λ s. s.part) IsStatement _ _ _ c.args.self.now c.enter.new.self _ _ entered.kept
    (c.branches.ensures c.enter.new.self.names x.tree (stack_of c.enter.new.self.trees) x.read)))

pub branches-returns-in_err-then : goal.branches-returns-in_err-then
branches-returns-in_err-then t c = λ names x under read.
    gives_stop (λ s. s.part) IsStatement _ _ _ _ _ _ _ c.in_err-then.field-0.0 c.from_residual.ensures (
    stops_before _ _ _ _ c.in_err-then.field-0.0 (then_inside c.args.lower c.args.start names c.args.self.now.names x c.args.self.now.rest.now read.names_are) c.in_err-then.ensures)

pub branches-returns-then-not-takes_else : goal.branches-returns-then-not-takes_else
branches-returns-then-not-takes_else t c = λ names x under read.
    let s = c.in_ok-then.ensures in
    let part = c.in_ok-then.then.part in
    let before = c.args.self.now in
    let mid = c.statement.new.self in
    two_made kind.If [] c.args.start refl (λ t. true ≡ ends_open t) _ (suc c.args.lower) c.args.lower (length before.rest.now) refl names x under c.args.condition part
    before before _ _ _ mid mid _ (Ok c.in_ok-part.part) read c.requires.fits (keeps_same before) s (keeps_same mid) refl s.shorter c.in_ok-part.ensures.tree
    (alone_inside c.args.lower c.args.start names x before mid s.tree read.names_are s.found_is _ _ s.said c.takes_else.ensures c.if-not-takes_else.true) refl

pub branches-returns-in_err-part-2 : goal.branches-returns-in_err-part-2
branches-returns-in_err-part-2 t c = λ names x under read.
    let s = c.in_ok-then.ensures in
    let before = c.args.self.now in
    let mid = c.statement.new.self in
    let on = c.advance.new.self in
    gives_stop (λ s. s.part) IsStatement _ _ _ _ _ _ _ c.in_err-part-2.field-0.0 c.from_residual-in_err-part-2.ensures (
    stops_before _ _ _ _ c.in_err-part-2.field-0.0
    (else_inside c.args.lower c.args.start names x before mid s.tree read.names_are s.found_is _ _ s.said c.takes_else.ensures c.if-not-takes_else.false on
    (c.advance.ensures.kept.names_are ∙ s.read.names_are) c.advance.ensures.rest)
    c.in_err-part-2.ensures)

pub branches-returns-in_err-part-3 : goal.branches-returns-in_err-part-3
branches-returns-in_err-part-3 t c = λ names x under read.
    let s = c.in_ok-then.ensures in
    let before = c.args.self.now in
    let mid = c.statement.new.self in
    let on = c.advance.new.self in
    let u = c.in_ok-part-2.ensures in
    gives_stop (λ s. s.part) IsStatement _ _ _ _ _ _ _ c.in_err-part-3.field-0.0 c.from_residual-in_err-part-3.ensures (
    memory_stop _ _ c.in_err-part-3.field-0.0 (
    c.in_err-part-3.ensures.tree x s.tree u.tree under (stack_of before.trees) (stack_of on.trees) read.pushed
    (pushed_on s.tree (stack_of before.trees) _ mid on c.advance.ensures.kept s.read.pushed) u.read.pushed))

pub branches-returns : goal.branches-returns
branches-returns t c = λ names x under read.
    let s = c.in_ok-then.ensures in
    let part = c.in_ok-then.then.part in
    let before = c.args.self.now in
    let mid = c.statement.new.self in
    let on = c.advance.new.self in
    let last = c.statement-2.new.self in
    let u = c.in_ok-part-2.ensures in
    let fewer : length last.rest.now < length before.rest.now =
    let a = s.shorter in let b = u.shorter in let e = ap length c.advance.ensures.rest in let g = behind_one_shorter mid.rest.now in omega (arith, a, b, e, g) in
    three_made kind.If [] c.args.start refl (λ t. c.in_ok-part-2.field-0.ends_open ≡ ends_open t) _ (suc c.args.lower) c.args.lower (length before.rest.now) refl names x under
    c.args.condition part c.in_ok-part-2.field-0.part before before _ _ _ mid on _ _ _ last last _ (Ok c.in_ok-part-3.part) read c.requires.fits (keeps_same before) s c.advance.ensures.kept
    u (keeps_same last) refl fewer c.in_ok-part-3.ensures.tree
    (else_inside c.args.lower c.args.start names x before mid s.tree read.names_are s.found_is _ _ s.said c.takes_else.ensures c.if-not-takes_else.false on
    (c.advance.ensures.kept.names_are ∙ s.read.names_are) c.advance.ensures.rest ∙ found_then _ _ u.tree _ u.found_is) u.said

-- ---- `while` and `do`

pub while_statement-returns-in_err-lower : goal.while_statement-returns-in_err-lower
while_statement-returns-in_err-lower t c = statement_barred _ 1 c.args.budget _ _ (while_shape c.args.budget (below c.args.budget) c.args.start c.args.self.now.names c.args.self.now.rest.now)
    _ _ _ _ _ _ c.in_err-lower.field-0.0 c.from_residual.ensures c.in_err-lower.ensures.lower c.in_err-lower.ensures.rest

pub while_statement-returns-in_err-condition : goal.while_statement-returns-in_err-condition
while_statement-returns-in_err-condition t c =
    gives_stop (λ s. s.part) IsStatement _ _ _ _ _ _ _ c.in_err-condition.field-0.0 c.from_residual-in_err-condition.ensures (
    stops_before _ _ _ _ c.in_err-condition.field-0.0 (while_entered c.args.budget c.in_ok-lower.lower c.in_ok-lower.ensures.lower c.args.start c.args.self.now c.enter.new.self c.in_ok-lower.ensures.kept c.in_ok-lower.ensures.rest) c.in_err-condition.ensures)

pub while_statement-returns-in_err-part : goal.while_statement-returns-in_err-part
while_statement-returns-in_err-part t c =
    let x = c.in_ok-condition.ensures in
    gives_stop (λ s. s.part) IsStatement _ _ _ _ _ _ _ c.in_err-part.field-0.0 c.from_residual-in_err-part.ensures (
    stops_before _ _ _ _ c.in_err-part.field-0.0 (while_entered c.args.budget c.in_ok-lower.lower c.in_ok-lower.ensures.lower c.args.start c.args.self.now c.enter.new.self c.in_ok-lower.ensures.kept c.in_ok-lower.ensures.rest ∙ found_then _ _ x.tree _ x.found_is
    ∙ while_body c.in_ok-lower.lower c.args.start c.enter.new.self.names c.condition.new.self.names x.tree c.condition.new.self.rest.now x.read.names_are) c.in_err-part.ensures)

pub while_statement-returns : goal.while_statement-returns
while_statement-returns t c =
    let entered = c.in_ok-lower.ensures in
    let given = c.in_ok-condition.ensures in
    let x = read_from _ _ _ _ c.args.self.now c.enter.new.self c.condition.new.self _ entered.kept given in
    let mid = c.condition.new.self in
    let last = c.statement.new.self in
    let s = c.in_ok-part.ensures in
    let behind = shorter_behind c.args.self.now.rest.now c.enter.new.self.rest.now mid.rest.now entered.rest given.shorter in
    let fewer : length last.rest.now < length c.args.self.now.rest.now = let b = s.shorter in omega (arith, behind, b) in
    two_made kind.While [] c.args.start refl (λ t. c.in_ok-part.field-0.ends_open ≡ ends_open t) _ c.args.budget c.in_ok-lower.lower (length c.args.self.now.rest.now) entered.lower.next
    c.args.self.now.names x.tree (stack_of c.args.self.now.trees) c.in_ok-condition.condition c.in_ok-part.field-0.part mid mid _ _ _ last last _ (Ok c.in_ok-part-2.part)
    x.read x.low (keeps_same mid) s (keeps_same last) refl fewer c.in_ok-part-2.ensures.tree
    (while_entered c.args.budget c.in_ok-lower.lower entered.lower c.args.start c.args.self.now c.enter.new.self entered.kept entered.rest ∙ found_then _ _ x.tree _ x.found_is
    ∙ while_body c.in_ok-lower.lower c.args.start c.enter.new.self.names mid.names x.tree mid.rest.now (x.read.names_are ∙ ap (λ (n : Names). after n x.tree) (sym entered.kept.names_are))
    ∙ found_then _ _ s.tree _ s.found_is) s.said

pub do_statement-returns-in_err-lower : goal.do_statement-returns-in_err-lower
do_statement-returns-in_err-lower t c = statement_barred _ 1 c.args.budget _ _ (do_shape c.args.budget (below c.args.budget) c.args.start c.args.self.now.names c.args.self.now.rest.now)
    _ _ _ _ _ _ c.in_err-lower.field-0.0 c.from_residual.ensures c.in_err-lower.ensures.lower c.in_err-lower.ensures.rest

pub do_statement-returns-in_err-body : goal.do_statement-returns-in_err-body
do_statement-returns-in_err-body t c =
    gives_stop (λ s. s.part) IsStatement _ _ _ _ _ _ _ c.in_err-body.field-0.0 c.from_residual-in_err-body.ensures (
    stops_before _ _ _ _ c.in_err-body.field-0.0 (do_entered c.args.budget c.in_ok-lower.lower c.in_ok-lower.ensures.lower c.args.start c.args.self.now c.enter.new.self c.in_ok-lower.ensures.kept c.in_ok-lower.ensures.rest) c.in_err-body.ensures)

pub do_statement-returns-in_err-condition : goal.do_statement-returns-in_err-condition
do_statement-returns-in_err-condition t c =
    let s = c.in_ok-body.ensures in
    gives_stop (λ s. s.part) IsStatement _ _ _ _ _ _ _ c.in_err-condition.field-0.0 c.from_residual-in_err-condition.ensures (
    stops_before _ _ _ _ c.in_err-condition.field-0.0 (do_entered c.args.budget c.in_ok-lower.lower c.in_ok-lower.ensures.lower c.args.start c.args.self.now c.enter.new.self c.in_ok-lower.ensures.kept c.in_ok-lower.ensures.rest ∙ found_then _ _ s.tree _ s.found_is
    ∙ do_end (level c.in_ok-lower.lower (below c.in_ok-lower.lower)) c.args.start c.enter.new.self.names c.statement.new.self.names s.tree c.statement.new.self.rest.now s.read.names_are)
    c.in_err-condition.ensures)

pub do_statement-returns : goal.do_statement-returns
do_statement-returns t c =
    let entered = c.in_ok-lower.ensures in
    let given = c.in_ok-body.ensures in
    let s = read_from _ _ _ _ c.args.self.now c.enter.new.self c.statement.new.self _ entered.kept given in
    let x = c.in_ok-condition.ensures in
    let mid = c.statement.new.self in
    let last = c.do_condition.new.self in
    let behind = shorter_behind c.args.self.now.rest.now c.enter.new.self.rest.now mid.rest.now entered.rest given.shorter in
    let fewer : length last.rest.now < length c.args.self.now.rest.now = let b = x.shorter in omega (arith, behind, b) in
    statement_read _ _ _ _ _ _ c.in_ok-part.part false c.closed.result c.closed.ensures (
    two_made kind.Do [] c.args.start refl (λ t. false ≡ ends_open t) _ c.args.budget c.in_ok-lower.lower (length c.args.self.now.rest.now) entered.lower.next
    c.args.self.now.names s.tree (stack_of c.args.self.now.trees) c.in_ok-body.field-0.part c.in_ok-condition.condition mid mid _ _ _ last last _ (Ok c.in_ok-part.part)
    s.read s.low (keeps_same mid) x (keeps_same last) refl fewer c.in_ok-part.ensures.tree
    (do_entered c.args.budget c.in_ok-lower.lower entered.lower c.args.start c.args.self.now c.enter.new.self entered.kept entered.rest ∙ found_then _ _ s.tree _ s.found_is
    ∙ do_end (level c.in_ok-lower.lower (below c.in_ok-lower.lower)) c.args.start c.enter.new.self.names mid.names s.tree mid.rest.now
    (s.read.names_are ∙ ap (λ (n : Names). after n s.tree) (sym entered.kept.names_are)) ∙ found_then _ _ x.tree _ x.found_is) refl)

-- ---- `for`

pub for_statement-returns-in_err-lower : goal.for_statement-returns-in_err-lower
for_statement-returns-in_err-lower t c =
    statement_barred _ 1 c.args.budget _ _ refl _ _ _ _ _ _ c.in_err-lower.field-0.0 c.from_residual.ensures c.in_err-lower.ensures.lower c.in_err-lower.ensures.rest

pub for_statement-returns-in_err-expect : goal.for_statement-returns-in_err-expect
for_statement-returns-in_err-expect t c =
    let lower = c.in_ok-lower.lower in
    gives_stop (λ s. s.part) IsStatement _ _ _ _ _ _ _ c.in_err-expect.field-0.0 c.from_residual-in_err-expect.ensures (
    mark_stops _ LeftParenthesis c.enter.new.self c.expect.new.self (for_open c.args.budget (level lower (below lower)) c.enter.new.self.names c.args.start) _
    (for_inside c.args.budget lower c.in_ok-lower.ensures.lower c.args.start c.args.self.now c.enter.new.self c.in_ok-lower.ensures.kept c.in_ok-lower.ensures.rest) c.in_err-expect.ensures)

pub for_statement-returns-in_err-statement : goal.for_statement-returns-in_err-statement
for_statement-returns-in_err-statement t c =
    let lower = c.in_ok-lower.lower in
    let passes = c.in_ok-expect.ensures in
    gives_stop (λ s. s.part) IsStatement _ _ _ _ _ _ _ c.in_err-statement.field-0.0 c.from_residual-in_err-statement.ensures (
    stops_same _ _ _ c.in_err-statement.field-0.0
    (for_inner c.args.budget lower c.in_ok-lower.ensures.lower c.args.start c.args.self.now c.enter.new.self c.expect.new.self c.open.new.self c.in_ok-lower.ensures.kept c.in_ok-lower.ensures.rest passes c.in_ok-open.ensures.ok)
    c.in_err-statement.ensures)

pub for_statement-returns : goal.for_statement-returns
for_statement-returns t c =
    let entered = c.in_ok-lower.ensures in
    let lower = c.in_ok-lower.lower in
    let passes = c.in_ok-expect.ensures in
    let given = c.in_ok-statement.ensures in
    let before = c.args.self.now in
    let kept = keeps_then before c.enter.new.self c.expect.new.self entered.kept passes.kept in
    let fewer : length c.for_parts.new.self.rest.now < length before.rest.now =
    let a = given.shorter in let b = passes.shorter in let e = ap length entered.rest in let g = behind_one_shorter before.rest.now in omega (arith, a, b, e, g) in
    scope_read _ _ (λ t. SaysFor t c.in_ok-statement.statement) (λ t. IsStatement t c.in_ok-statement.statement) (λ t. entries_behind false t.kids) (suc lower) c.args.budget _ (length before.rest.now)
    before (record { alloc = c.expect.new.self.alloc; rest = c.expect.new.self.rest; names = c.open.new.self; trees = c.expect.new.self.trees; parameters = c.expect.new.self.parameters })
    c.for_parts.new.self _ c.in_ok-statement.statement.part
    (for_inner c.args.budget lower entered.lower c.args.start before c.enter.new.self c.expect.new.self c.open.new.self entered.kept entered.rest passes c.in_ok-open.ensures.ok)
    (c.in_ok-open.ensures.ok ∙ ap opened kept.names_are) kept.trees_are given (λ t said. said.open_is) (λ t said. for_entries t said.kind_is) c.close.ensures refl refl
    (let n = entered.lower.next in omega (arith, n)) fewer

pub for_parts-returns-in_err-first : goal.for_parts-returns-in_err-first
for_parts-returns-in_err-first t c = gives_stop (λ s. s.part) SaysFor _ _ _ _ _ _ _ c.in_err-first.field-0.0 c.from_residual.ensures (
    stops_before _ _ _ _ c.in_err-first.field-0.0 refl c.in_err-first.ensures)

pub for_parts-returns-in_err-condition : goal.for_parts-returns-in_err-condition
for_parts-returns-in_err-condition t c =
    let f = c.in_ok-first.ensures in
    gives_stop (λ s. s.part) SaysFor _ _ _ _ _ _ _ c.in_err-condition.field-0.0 c.from_residual-in_err-condition.ensures (
    stops_before _ _ _ _ c.in_err-condition.field-0.0 (parts_second c.args.lower c.args.start c.args.self.now c.for_first.new.self f.tree f.found_is f.read.names_are) c.in_err-condition.ensures)

pub for_parts-returns-in_err-step : goal.for_parts-returns-in_err-step
for_parts-returns-in_err-step t c =
    let f = c.in_ok-first.ensures in
    let x = c.in_ok-condition.ensures in
    gives_stop (λ s. s.part) SaysFor _ _ _ _ _ _ _ c.in_err-step.field-0.0 c.from_residual-in_err-step.ensures (
    stops_before _ _ _ _ c.in_err-step.field-0.0 (parts_third c.args.lower c.args.start c.args.self.now c.for_first.new.self f.tree f.found_is f.read.names_are c.optional_before.new.self x.tree x.found_is x.read.names_are) c.in_err-step.ensures)

pub for_parts-returns-in_err-part : goal.for_parts-returns-in_err-part
for_parts-returns-in_err-part t c =
    let f = c.in_ok-first.ensures in
    let x = c.in_ok-condition.ensures in
    let y = c.in_ok-step.ensures in
    gives_stop (λ s. s.part) SaysFor _ _ _ _ _ _ _ c.in_err-part.field-0.0 c.from_residual-in_err-part.ensures (
    stops_before _ _ _ _ c.in_err-part.field-0.0 (parts_body c.args.lower c.args.start c.args.self.now c.for_first.new.self f.tree f.found_is f.read.names_are c.optional_before.new.self x.tree x.found_is x.read.names_are
    c.optional_before-2.new.self y.tree y.found_is y.read.names_are)
    c.in_err-part.ensures)

pub for_parts-returns-in_err-part-2 : goal.for_parts-returns-in_err-part-2
for_parts-returns-in_err-part-2 t c =
    let f = c.in_ok-first.ensures in
    let x = c.in_ok-condition.ensures in
    let y = c.in_ok-step.ensures in
    let s = c.in_ok-part.ensures in
    gives_stop (λ s. s.part) SaysFor _ _ _ _ _ _ _ c.in_err-part-2.field-0.0 c.from_residual-in_err-part-2.ensures (
    memory_stop _ _ c.in_err-part-2.field-0.0 (
    c.in_err-part-2.ensures.tree f.tree x.tree y.tree s.tree (stack_of c.args.self.now.trees) _ _ _ f.read.pushed x.read.pushed y.read.pushed s.read.pushed))

pub for_parts-returns : goal.for_parts-returns
for_parts-returns t c =
    let f = c.in_ok-first.ensures in
    let x = c.in_ok-condition.ensures in
    let y = c.in_ok-step.ensures in
    let s = c.in_ok-part.ensures in
    let names = c.args.self.now.names in
    let node = plain_node kind.For c.args.start (f.tree then three x.tree y.tree s.tree) in
    let low : height node ≤ suc c.args.lower =
    let h = f.read.pushed.height_is in let i = x.read.pushed.height_is in let j = y.read.pushed.height_is in let k = s.read.pushed.height_is in
    let l = f.low in let m = x.low in let n = y.low in let o = s.low in omega (arith, h, i, j, k, l, m, n, o) in
    let fewer : length c.statement.new.self.rest.now < length c.args.self.now.rest.now =
    let a = f.shorter in let b = x.shorter in let d = y.shorter in let e = s.shorter in omega (arith, a, b, d, e) in
    made (λ t. SaysFor t (record { part = c.in_ok-part-2.part; ends_open = c.in_ok-part.field-0.ends_open })) _ (λ t. add names (entries_behind false t.kids)) node (stack_of c.args.self.now.trees)
    (suc c.args.lower) (length c.args.self.now.rest.now) _ (Ok c.in_ok-part-2.part)
    (c.in_ok-part-2.ensures.tree f.tree x.tree y.tree s.tree (stack_of c.args.self.now.trees) _ _ _ f.read.pushed x.read.pushed y.read.pushed s.read.pushed)
    (parts_body c.args.lower c.args.start c.args.self.now c.for_first.new.self f.tree f.found_is f.read.names_are c.optional_before.new.self x.tree x.found_is x.read.names_are
    c.optional_before-2.new.self y.tree y.found_is y.read.names_are
    ∙ found_then _ _ s.tree _ s.found_is)
    (names_parts names c.for_first.new.self.names c.optional_before.new.self.names c.optional_before-2.new.self.names c.statement.new.self.names f.tree x.tree y.tree s.tree
    f.read.names_are x.read.names_are y.read.names_are s.read.names_are)
    (record { kind_is = refl; open_is = s.said }) low fewer

-- ---- `switch`

pub switch_statement-returns-in_err-lower : goal.switch_statement-returns-in_err-lower
switch_statement-returns-in_err-lower t c = statement_barred _ 1 c.args.budget _ _ (switch_shape c.args.budget (below c.args.budget) c.args.start c.args.self.now.names c.args.self.now.rest.now)
    _ _ _ _ _ _ c.in_err-lower.field-0.0 c.from_residual.ensures c.in_err-lower.ensures.lower c.in_err-lower.ensures.rest

pub switch_statement-returns-in_err-value : goal.switch_statement-returns-in_err-value
switch_statement-returns-in_err-value t c =
    gives_stop (λ s. s.part) IsStatement _ _ _ _ _ _ _ c.in_err-value.field-0.0 c.from_residual-in_err-value.ensures (
    stops_before _ _ _ _ c.in_err-value.field-0.0 (switch_entered c.args.budget c.in_ok-lower.lower c.in_ok-lower.ensures.lower c.args.start c.args.self.now c.enter.new.self c.in_ok-lower.ensures.kept c.in_ok-lower.ensures.rest) c.in_err-value.ensures)

pub switch_statement-returns-in_err-expect : goal.switch_statement-returns-in_err-expect
switch_statement-returns-in_err-expect t c =
    let entered = c.in_ok-lower.ensures in
    let x = c.in_ok-value.ensures in
    gives_stop (λ s. s.part) IsStatement _ _ _ _ _ _ _ c.in_err-expect.field-0.0 c.from_residual-in_err-expect.ensures (
    mark_stops _ LeftBrace c.condition.new.self c.expect.new.self _ _
    (switch_behind c.args.budget c.in_ok-lower.lower entered.lower c.args.start c.args.self.now c.enter.new.self c.condition.new.self x.tree entered.kept entered.rest x.found_is x.read.names_are)
    c.in_err-expect.ensures)

pub switch_statement-returns-in_err-height : goal.switch_statement-returns-in_err-height
switch_statement-returns-in_err-height t c =
    let entered = c.in_ok-lower.ensures in
    let x = c.in_ok-value.ensures in
    gives_stop (λ s. s.part) IsStatement _ _ _ _ _ _ _ c.in_err-height.field-0.0 c.from_residual-in_err-height.ensures (
    stops_before _ _ _ _ c.in_err-height.field-0.0
    (switch_open c.args.budget c.in_ok-lower.lower entered.lower c.args.start c.args.self.now c.enter.new.self c.condition.new.self x.tree entered.kept entered.rest x.found_is x.read.names_are
    c.expect.new.self c.in_ok-expect.ensures) c.in_err-height.ensures)

pub switch_statement-returns : goal.switch_statement-returns
switch_statement-returns t c =
    let before = c.args.self.now in
    let mid = c.condition.new.self in
    let inside = c.expect.new.self in
    let entered = c.in_ok-lower.ensures in
    let given = c.in_ok-value.ensures in
    let x = read_from _ _ _ _ before c.enter.new.self mid _ entered.kept given in
    let passes = c.in_ok-expect.ensures in
    let row = c.in_ok-height.ensures in
    let items = forest_of row.trees in
    let node = plain_node kind.Switch c.args.start (x.tree then items) in
    let behind = shorter_behind before.rest.now c.enter.new.self.rest.now mid.rest.now entered.rest given.shorter in
    let fewer : length c.scoped_groups.new.self.rest.now < length before.rest.now = let a = passes.shorter in let b = row.shorter in omega (arith, behind, a, b) in
    statement_read _ _ _ _ _ _ c.in_ok-part.part false c.closed.result c.closed.ensures (
    made (λ t. false ≡ ends_open t) _ (after before.names) node (stack_of before.trees) c.args.budget (length before.rest.now) _ (Ok c.in_ok-part.part)
    (c.in_ok-part.ensures.tree x.tree row.trees (stack_of before.trees) (stack_of inside.trees) c.len-mark.ensures
    (pushed_on x.tree (stack_of before.trees) _ mid inside passes.kept x.read.pushed) row.read.pushed)
    (switch_open c.args.budget c.in_ok-lower.lower entered.lower c.args.start before c.enter.new.self mid x.tree entered.kept entered.rest x.found_is
    (x.read.names_are ∙ ap (λ (n : Names). after n x.tree) (sym entered.kept.names_are)) inside passes
    ∙ found_then _ _ items _ row.found_is)
    (row.read.names_are ∙ passes.kept.names_are ∙ x.read.names_are ∙ sym (switch_names before.names c.args.start x.tree items)) refl
    (let h = x.read.pushed.height_is in let i = row.read.pushed.height_is in let l = x.low in let m = row.low in let n = entered.lower.next in omega (arith, h, i, l, m, n)) fewer)

pub scoped_groups-returns-in_err-height : goal.scoped_groups-returns-in_err-height
scoped_groups-returns-in_err-height t c =
    gives_row_stop itself_high no_more _ _ _ _ _ _ _ c.in_err-height.field-0.0 c.from_residual-in_err-height.ensures (
    stops_before _ _ _ _ c.in_err-height.field-0.0 (scoped_open c.args.budget c.args.self.now.names _ c.args.self.now.rest.now c.in_ok-open.ensures.ok) c.in_err-height.ensures)

pub scoped_groups-returns-in_err-expect : goal.scoped_groups-returns-in_err-expect
scoped_groups-returns-in_err-expect t c =
    let row = c.in_ok-height.ensures in
    gives_row_stop itself_high no_more _ _ _ _ _ _ _ c.in_err-expect.field-0.0 c.from_residual-in_err-expect.ensures (
    mark_stops _ RightBrace c.groups.new.self c.expect.new.self _ _
    (scoped_open c.args.budget c.args.self.now.names _ c.args.self.now.rest.now c.in_ok-open.ensures.ok ∙ found_then _ _ (forest_of row.trees) _ row.found_is) c.in_err-expect.ensures)

pub scoped_groups-returns : goal.scoped_groups-returns
scoped_groups-returns t c =
    let row = c.in_ok-height.ensures in
    let close = c.in_ok-expect.ensures in
    let items = forest_of row.trees in
    record {
      trees = row.trees;
      found_is = scoped_open c.args.budget c.args.self.now.names _ c.args.self.now.rest.now c.in_ok-open.ensures.ok ∙ found_then _ _ items _ row.found_is
          ∙ passed RightBrace c.groups.new.self c.expect.new.self _ close;
      read = record {
        names_are = c.close.ensures ∙ ap (drop 1) (close.kept.names_are ∙ row.read.names_are ∙ ap (λ (n : Names). behind_all n items) c.in_ok-open.ensures.ok)
            ∙ drop_add (opened c.args.self.now.names) (entries_behind false items);
        pushed = trees_on row.trees (stack_of c.args.self.now.trees) c.in_ok-height.height c.groups.new.self c.expect.new.self close.kept row.read.pushed;
      };
      said = tt;
      low = row.low;
      shorter = let a = row.shorter in let b = close.shorter in omega (arith, a, b);
    }

pub groups-loop-self-init : goal.groups-loop-self-init
groups-loop-self-init t c =
    group_row_start c.args.budget (below c.args.budget) c.args.self.now.names _ (stack_of c.args.self.now.trees) c.args.budget (suc (length c.args.self.now.rest.now)) c.args.self.now refl refl refl
    (omega arith)

pub groups-returns-in_err-group_item : goal.groups-returns-in_err-group_item
groups-returns-in_err-group_item t c =
    gives_row_stop itself_high no_more _ _ _ _ _ _ _ c.in_err-group_item.field-0.0 c.from_residual.ensures (
    group_row_stops c.args.budget (below c.args.budget) c.args.self.now.names _ (stack_of c.args.self.now.trees) c.args.budget (suc (length c.args.self.now.rest.now)) c.loop-self.self
    (standing_of c.loop-self.standing) c.loop-self.height c.loop-self.invariant (sym c.ends_groups.ensures ∙ c.loop-self-test.true) _ c.in_err-group_item.field-0.0 c.in_err-group_item.ensures)

pub groups-loop-self-preserved : goal.groups-loop-self-preserved
groups-loop-self-preserved t c =
    group_row_next c.args.budget (below c.args.budget) c.args.self.now.names _ (stack_of c.args.self.now.trees) c.args.budget (suc (length c.args.self.now.rest.now)) c.loop-self.self
    (standing_of c.loop-self.standing) c.loop-self.height c.loop-self.invariant (sym c.ends_groups.ensures ∙ c.loop-self-test.true) _ c.group_item.new.self c.in_ok-group_item.field-0
    c.in_ok-group_item.ensures _ c.max-height.ensures _ c.standing_behind-behind.ensures

pub groups-returns : goal.groups-returns
groups-returns t c =
    group_row_end c.args.budget (below c.args.budget) c.args.self.now.names _ (stack_of c.args.self.now.trees) c.args.budget (suc (length c.args.self.now.rest.now)) c.loop-self.self
    (standing_of c.loop-self.standing) c.loop-self.height c.loop-self.invariant (λ ts. ⊤) (sym c.ends_groups.ensures ∙ c.loop-self-test.false) tt

pub group_item-returns-then-at_word : goal.group_item-returns-then-at_word
group_item-returns-then-at_word t c = gives_same itself nothing_more _ _ _ _ _ _ _ _ (
    item_case c.args.budget (below c.args.budget) c.args.self.now.names c.args.self.now.rest.now (sym c.at_word.ensures ∙ c.if-at_word.true)
    ∙ ap (λ (n : ℕ). case_of c.args.budget (below c.args.budget) n c.args.self.now.names c.args.self.now.rest.now) (sym c.start-start.ensures)) c.case_label.ensures

pub group_item-returns-then-at_word-2 : goal.group_item-returns-then-at_word-2
group_item-returns-then-at_word-2 t c = gives_same itself nothing_more _ _ _ _ _ _ _ _ (
    item_default c.args.budget (below c.args.budget) c.args.self.now.names c.args.self.now.rest.now (sym c.at_word.ensures ∙ c.if-at_word.false) (sym c.at_word-2.ensures ∙ c.if-at_word-2.true)
    ∙ ap (λ (n : ℕ). default_of c.args.budget n c.args.self.now.names c.args.self.now.rest.now) (sym c.start-start.ensures)) c.default_label.ensures

pub group_item-returns-in_err-statement : goal.group_item-returns-in_err-statement
group_item-returns-in_err-statement t c = gives_stop itself nothing_more _ _ _ _ _ _ _ c.in_err-statement.field-0.0 c.from_residual.ensures (
    stops_same _ _ _ c.in_err-statement.field-0.0
    (item_statement c.args.budget (below c.args.budget) c.args.self.now.names c.args.self.now.rest.now (sym c.at_word.ensures ∙ c.if-at_word.false) (sym c.at_word-2.ensures ∙ c.if-at_word-2.false))
    c.in_err-statement.ensures)

pub group_item-returns : goal.group_item-returns
group_item-returns t c =
    let s = c.in_ok-statement.ensures in
    record {
      tree = s.tree;
      found_is = item_statement c.args.budget (below c.args.budget) c.args.self.now.names c.args.self.now.rest.now (sym c.at_word.ensures ∙ c.if-at_word.false) (sym c.at_word-2.ensures ∙ c.if-at_word-2.false)
          ∙ s.found_is;
      read = s.read;
      said = tt;
      low = s.low;
      shorter = s.shorter;
    }

-- ---- by the first token

pub keyword-returns-then-eq : goal.keyword-returns-then-eq
keyword-returns-then-eq t c = gives_same (λ s. s.part) IsStatement _ _ _ _ _ _ _ _
    (keyword_if c.args.budget (below c.args.budget) c.args.text.now c.args.start c.args.self.now.names c.args.self.now.rest.now (sym c.eq.ensures ∙ c.if-eq.true)) c.if_statement.ensures

pub keyword-returns-then-eq-2 : goal.keyword-returns-then-eq-2
keyword-returns-then-eq-2 t c = gives_same (λ s. s.part) IsStatement _ _ _ _ _ _ _ _
    (keyword_while c.args.budget (below c.args.budget) c.args.text.now c.args.start c.args.self.now.names c.args.self.now.rest.now (sym c.eq.ensures ∙ c.if-eq.false) (sym c.eq-2.ensures ∙ c.if-eq-2.true)) c.while_statement.ensures

pub keyword-returns-then-eq-3 : goal.keyword-returns-then-eq-3
keyword-returns-then-eq-3 t c = gives_same (λ s. s.part) IsStatement _ _ _ _ _ _ _ _
    (keyword_do c.args.budget (below c.args.budget) c.args.text.now c.args.start c.args.self.now.names c.args.self.now.rest.now (sym c.eq.ensures ∙ c.if-eq.false) (sym c.eq-2.ensures ∙ c.if-eq-2.false) (sym c.eq-3.ensures ∙ c.if-eq-3.true)) c.do_statement.ensures

pub keyword-returns-then-eq-4 : goal.keyword-returns-then-eq-4
keyword-returns-then-eq-4 t c = gives_same (λ s. s.part) IsStatement _ _ _ _ _ _ _ _
    (keyword_for c.args.budget (below c.args.budget) c.args.text.now c.args.start c.args.self.now.names c.args.self.now.rest.now (sym c.eq.ensures ∙ c.if-eq.false) (sym c.eq-2.ensures ∙ c.if-eq-2.false) (sym c.eq-3.ensures ∙ c.if-eq-3.false) (sym c.eq-4.ensures ∙ c.if-eq-4.true)) c.for_statement.ensures

pub keyword-returns-then-eq-5 : goal.keyword-returns-then-eq-5
keyword-returns-then-eq-5 t c = gives_same (λ s. s.part) IsStatement _ _ _ _ _ _ _ _
    (keyword_return c.args.budget (below c.args.budget) c.args.text.now c.args.start c.args.self.now.names c.args.self.now.rest.now (sym c.eq.ensures ∙ c.if-eq.false) (sym c.eq-2.ensures ∙ c.if-eq-2.false) (sym c.eq-3.ensures ∙ c.if-eq-3.false) (sym c.eq-4.ensures ∙ c.if-eq-4.false) (sym c.eq-5.ensures ∙ c.if-eq-5.true)) c.return_statement.ensures

pub keyword-returns-then-eq-6 : goal.keyword-returns-then-eq-6
keyword-returns-then-eq-6 t c = gives_same (λ s. s.part) IsStatement _ _ _ _ _ _ _ _
    (keyword_break c.args.budget (below c.args.budget) c.args.text.now c.args.start c.args.self.now.names c.args.self.now.rest.now (sym c.eq.ensures ∙ c.if-eq.false) (sym c.eq-2.ensures ∙ c.if-eq-2.false) (sym c.eq-3.ensures ∙ c.if-eq-3.false) (sym c.eq-4.ensures ∙ c.if-eq-4.false) (sym c.eq-5.ensures ∙ c.if-eq-5.false) (sym c.eq-6.ensures ∙ c.if-eq-6.true)) c.jump.ensures

pub keyword-returns-then-eq-7 : goal.keyword-returns-then-eq-7
keyword-returns-then-eq-7 t c = gives_same (λ s. s.part) IsStatement _ _ _ _ _ _ _ _
    (keyword_continue c.args.budget (below c.args.budget) c.args.text.now c.args.start c.args.self.now.names c.args.self.now.rest.now (sym c.eq.ensures ∙ c.if-eq.false) (sym c.eq-2.ensures ∙ c.if-eq-2.false) (sym c.eq-3.ensures ∙ c.if-eq-3.false) (sym c.eq-4.ensures ∙ c.if-eq-4.false) (sym c.eq-5.ensures ∙ c.if-eq-5.false) (sym c.eq-6.ensures ∙ c.if-eq-6.false) (sym c.eq-7.ensures ∙ c.if-eq-7.true)) c.jump-then-eq-7.ensures

pub keyword-returns-then-eq-8 : goal.keyword-returns-then-eq-8
keyword-returns-then-eq-8 t c = gives_same (λ s. s.part) IsStatement _ _ _ _ _ _ _ _
    (keyword_switch c.args.budget (below c.args.budget) c.args.text.now c.args.start c.args.self.now.names c.args.self.now.rest.now (sym c.eq.ensures ∙ c.if-eq.false) (sym c.eq-2.ensures ∙ c.if-eq-2.false) (sym c.eq-3.ensures ∙ c.if-eq-3.false) (sym c.eq-4.ensures ∙ c.if-eq-4.false) (sym c.eq-5.ensures ∙ c.if-eq-5.false) (sym c.eq-6.ensures ∙ c.if-eq-6.false) (sym c.eq-7.ensures ∙ c.if-eq-7.false) (sym c.eq-8.ensures ∙ c.if-eq-8.true)) c.switch_statement.ensures

pub keyword-returns : goal.keyword-returns
keyword-returns t c = gives_same (λ s. s.part) IsStatement _ _ _ _ _ _ _ _
    (keyword_none c.args.budget (below c.args.budget) c.args.text.now c.args.start c.args.self.now.names c.args.self.now.rest.now (sym c.eq.ensures ∙ c.if-eq.false) (sym c.eq-2.ensures ∙ c.if-eq-2.false) (sym c.eq-3.ensures ∙ c.if-eq-3.false) (sym c.eq-4.ensures ∙ c.if-eq-4.false) (sym c.eq-5.ensures ∙ c.if-eq-5.false) (sym c.eq-6.ensures ∙ c.if-eq-6.false) (sym c.eq-7.ensures ∙ c.if-eq-7.false) (sym c.eq-8.ensures ∙ c.if-eq-8.false)) c.expression_statement.ensures

pub statement-returns-in_default : goal.statement-returns-in_default
statement-returns-in_default t c = gives_same (λ s. s.part) IsStatement _ _ _ _ _ _ _ _
    (statement_nothing c.args.budget (below c.args.budget) c.args.self.now.names c.args.self.now.rest.now c.in_default.ensures.none) c.expression_statement.ensures

pub statement-returns-then-at_mark : goal.statement-returns-then-at_mark
statement-returns-then-at_mark t c = gives_same (λ s. s.part) IsStatement _ _ _ _ _ _ _ _
    (statement_brace c.args.budget (below c.args.budget) c.args.self.now.names c.args.self.now.rest.now (sym c.at_mark.ensures ∙ c.if-at_mark.true)) c.block.ensures

pub statement-returns-then-at_mark-2 : goal.statement-returns-then-at_mark-2
statement-returns-then-at_mark-2 t c = gives_same (λ s. s.part) IsStatement _ _ _ _ _ _ _ _
    (statement_semicolon c.args.budget (below c.args.budget) c.args.self.now.names c.args.self.now.rest.now c.in-Some.token.now c.in-Some.ensures.some
    (sym c.at_mark-2.ensures ∙ c.if-at_mark-2.true)) c.empty_statement.ensures

pub statement-returns-in-Word : goal.statement-returns-in-Word
statement-returns-in-Word t c = gives_same (λ s. s.part) IsStatement _ _ _ _ _ _ _ _
    (statement_word c.args.budget (below c.args.budget) c.args.self.now.names c.args.self.now.rest.now c.in-Some.token.now c.in-Some.ensures.some c.as_slice.result.now
    (c.in-Word.is ∙ ap token.Word (sym c.as_slice.ensures))) c.keyword.ensures

pub statement-returns-in_default-kind : goal.statement-returns-in_default-kind
statement-returns-in_default-kind t c = gives_same (λ s. s.part) IsStatement _ _ _ _ _ _ _ _
    (statement_other c.args.budget (below c.args.budget) c.args.self.now.names c.args.self.now.rest.now c.in-Some.token.now c.in-Some.ensures.some
    (sym c.at_mark.ensures ∙ c.if-at_mark.false) (sym c.at_mark-2.ensures ∙ c.if-at_mark-2.false) c.in_default-kind.not-Word) c.expression_statement-in_default-kind.ensures
