use Rattle.std.proofs.Common.{arith}
use Rattle.firm_verify.proofs.MarkLaws.{back, forth, cycle_closed, last_there, last_within, read_last, popped}
use Rattle.firm_verify.proofs.cycles.step.Goals as goal

pub open_operand-requires : goal.open_operand-requires
open_operand-requires c = last_there c.args.graph.now c.args.left.now.items c.args.path.now.items c.index-last.result.now c.requires.marks c.requires.some_path (read_last c.args.path.now.items c.len.result c.index-last.result.now c.index-last.ensures (omega (arith, c.len.ensures, c.args.path.now.ok.0)))

pub index_mut-requires : goal.index_mut-requires
index_mut-requires c = omega (arith, last_within c.args.graph.now c.args.left.now.items c.args.path.now.items c.index-last.result.now c.requires.marks c.requires.some_path (read_last c.args.path.now.items c.len.result c.index-last.result.now c.index-last.ensures (omega (arith, c.len.ensures, c.args.path.now.ok.0))), c.args.left.now.ok.0)

pub returns-in_default-clause-marks : goal.returns-in_default-clause-marks
returns-in_default-clause-marks c = (back c.args.graph.now c.args.left.now.items c.args.path.now.items c.deref.result.now c.pop.new.self.items c.index-last.result.now c.requires.marks c.requires.some_path (read_last c.args.path.now.items c.len.result c.index-last.result.now c.index-last.ensures (omega (arith, c.len.ensures, c.args.path.now.ok.0))) c.deref.ensures.value (c.in_default.ensures {u = tt}).none (popped c.args.path.now.items c.pop.new.self.items c.args.path.now.len c.pop.ensures.rest (omega (arith, c.args.path.now.ok.0)))).0

pub returns-in_default-clause-stay : goal.returns-in_default-clause-stay
returns-in_default-clause-stay c = (back c.args.graph.now c.args.left.now.items c.args.path.now.items c.deref.result.now c.pop.new.self.items c.index-last.result.now c.requires.marks c.requires.some_path (read_last c.args.path.now.items c.len.result c.index-last.result.now c.index-last.ensures (omega (arith, c.len.ensures, c.args.path.now.ok.0))) c.deref.ensures.value (c.in_default.ensures {u = tt}).none (popped c.args.path.now.items c.pop.new.self.items c.args.path.now.len c.pop.ensures.rest (omega (arith, c.args.path.now.ok.0)))).1.0

pub returns-in_default-clause-less : goal.returns-in_default-clause-less
returns-in_default-clause-less c = (back c.args.graph.now c.args.left.now.items c.args.path.now.items c.deref.result.now c.pop.new.self.items c.index-last.result.now c.requires.marks c.requires.some_path (read_last c.args.path.now.items c.len.result c.index-last.result.now c.index-last.ensures (omega (arith, c.len.ensures, c.args.path.now.ok.0))) c.deref.ensures.value (c.in_default.ensures {u = tt}).none (popped c.args.path.now.items c.pop.new.self.items c.args.path.now.len c.pop.ensures.rest (omega (arith, c.args.path.now.ok.0)))).1.1

pub returns-then-index-eq1-clause-cycle : goal.returns-then-index-eq1-clause-cycle
returns-then-index-eq1-clause-cycle c =
    cycle_closed c.args.graph.now c.args.left.now.items c.args.path.now.items c.deref.result.now c.index-last.result.now c.in-Some.next c.index.result.now c.requires.marks c.requires.some_path (read_last c.args.path.now.items c.len.result c.index-last.result.now c.index-last.ensures (omega (arith, c.len.ensures, c.args.path.now.ok.0))) c.deref.ensures.value
    (c.in-Some.ensures {u = tt}).some (c.in-Some.ensures {u = tt}).open c.index.ensures c.if-index-eq1.true

pub returns-clause-marks : goal.returns-clause-marks
returns-clause-marks c = (forth c.args.graph.now c.args.left.now.items c.args.path.now.items c.deref.result.now c.push.new.self.items c.index-last.result.now c.in-Some.next c.index.result.now c.requires.rule1 c.requires.marks c.requires.some_path (read_last c.args.path.now.items c.len.result c.index-last.result.now c.index-last.ensures (omega (arith, c.len.ensures, c.args.path.now.ok.0))) c.deref.ensures.value
    (c.in-Some.ensures {u = tt}).some (c.in-Some.ensures {u = tt}).open c.index.ensures c.if-index-eq1.false (c.in_ok-push.ensures {u = tt}).items).0

pub returns-clause-stay : goal.returns-clause-stay
returns-clause-stay c = (forth c.args.graph.now c.args.left.now.items c.args.path.now.items c.deref.result.now c.push.new.self.items c.index-last.result.now c.in-Some.next c.index.result.now c.requires.rule1 c.requires.marks c.requires.some_path (read_last c.args.path.now.items c.len.result c.index-last.result.now c.index-last.ensures (omega (arith, c.len.ensures, c.args.path.now.ok.0))) c.deref.ensures.value
    (c.in-Some.ensures {u = tt}).some (c.in-Some.ensures {u = tt}).open c.index.ensures c.if-index-eq1.false (c.in_ok-push.ensures {u = tt}).items).1.0

pub returns-clause-less : goal.returns-clause-less
returns-clause-less c = (forth c.args.graph.now c.args.left.now.items c.args.path.now.items c.deref.result.now c.push.new.self.items c.index-last.result.now c.in-Some.next c.index.result.now c.requires.rule1 c.requires.marks c.requires.some_path (read_last c.args.path.now.items c.len.result c.index-last.result.now c.index-last.ensures (omega (arith, c.len.ensures, c.args.path.now.ok.0))) c.deref.ensures.value
    (c.in-Some.ensures {u = tt}).some (c.in-Some.ensures {u = tt}).open c.index.ensures c.if-index-eq1.false (c.in_ok-push.ensures {u = tt}).items).1.1
