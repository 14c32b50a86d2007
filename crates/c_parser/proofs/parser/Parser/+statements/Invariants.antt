-- The cycle of statements: each call has a lower budget, or stands for less at the same one; what the loops of a block and of a `switch` have read.
use Rattle.std.proofs.Common.{◌+◌, ◌*◌, suc, length}
use Rattle.c_syntax.specs.Tables.{stack_of}
use Rattle.c_grammar.specs.Reading.{Rows, below, rows_in}
use Rattle.c_parser.specs.Steps.{items_of, standing_of}
use Rattle.c_parser.proofs.ItemRows.{IsItemRow}
use Rattle.c_parser.proofs.SwitchLaws.{IsGroupRow}
use Rattle.c_parser.proofs.parser.Parser.+statements.Given as goal

abbrev pub decreases-body : goal.decreases-body
decreases-body l = l.budget * 16 + 1

abbrev pub decreases-block : goal.decreases-block
decreases-block l = l.budget * 16 + 2

abbrev pub decreases-do_statement : goal.decreases-do_statement
decreases-do_statement l = l.budget * 16 + 3

abbrev pub decreases-for_statement : goal.decreases-for_statement
decreases-for_statement l = l.budget * 16 + 3

abbrev pub decreases-if_statement : goal.decreases-if_statement
decreases-if_statement l = l.budget * 16 + 3

abbrev pub decreases-while_statement : goal.decreases-while_statement
decreases-while_statement l = l.budget * 16 + 3

abbrev pub decreases-switch_statement : goal.decreases-switch_statement
decreases-switch_statement l = l.budget * 16 + 3

abbrev pub decreases-keyword : goal.decreases-keyword
decreases-keyword l = l.budget * 16 + 4

abbrev pub decreases-statement : goal.decreases-statement
decreases-statement l = l.budget * 16 + 5

abbrev pub decreases-block_item : goal.decreases-block_item
decreases-block_item l = l.budget * 16 + 6

abbrev pub decreases-block_items : goal.decreases-block_items
decreases-block_items l = l.budget * 16 + 7

abbrev pub decreases-group_item : goal.decreases-group_item
decreases-group_item l = l.budget * 16 + 6

abbrev pub decreases-groups : goal.decreases-groups
decreases-groups l = l.budget * 16 + 7

abbrev pub decreases-scoped_groups : goal.decreases-scoped_groups
decreases-scoped_groups l = l.budget * 16 + 8

abbrev pub decreases-branches : goal.decreases-branches
decreases-branches l = l.lower * 16 + 8

abbrev pub decreases-for_parts : goal.decreases-for_parts
decreases-for_parts l = l.lower * 16 + 8

abbrev pub decreases-block_items-loop-self : goal.decreases-block_items-loop-self
decreases-block_items-loop-self l = length l.self.rest.now

abbrev pub invariant-block_items-loop-self : goal.invariant-block_items-loop-self
invariant-block_items-loop-self l =
    IsItemRow l.budget (below l.budget) (items_of l.budget (below l.budget) l.fn.self.names l.fn.self.rest.now) l.fn.self.names (stack_of l.fn.self.trees) l.budget
    (suc (length l.fn.self.rest.now)) l.self l.height

abbrev pub decreases-groups-loop-self : goal.decreases-groups-loop-self
decreases-groups-loop-self l = length l.self.rest.now

abbrev pub invariant-groups-loop-self : goal.invariant-groups-loop-self
invariant-groups-loop-self l =
    IsGroupRow l.budget (below l.budget) (rows_in l.budget (below l.budget) Rows.groups l.fn.self.names l.fn.self.rest.now) l.fn.self.names (stack_of l.fn.self.trees) l.budget
    (suc (length l.fn.self.rest.now)) l.self (standing_of l.standing) l.height
