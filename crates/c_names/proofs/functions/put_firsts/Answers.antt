use Rattle.std.proofs.Common.{◌<◌, ◌+◌, ◌∙◌, ap, arith, length, subst, sym}
use Rattle.std.specs.Prelude.{slice_set, get_or, None}
use Rattle.std.proofs.lemmas.List.{length_push}
use Rattle.c_typing.specs.Places.{is_function, node_at}
use Rattle.c_nodes.specs.Parents.{nodes_in}
use Rattle.c_names.specs.Functions.{first_number, functions_before}
use Rattle.c_names.proofs.FunctionLaws.{AreSoFar, all_so_far, few_functions, function_so_far, more_functions, none_so_far, other_so_far, same_functions}
use Rattle.c_names.proofs.functions.put_firsts.Goals as goal
use Rattle.c_names.proofs.functions.put_firsts.Goals.{then-is_function, else-is_function}

pub loop-number-init : goal.loop-number-init
loop-number-init c =
    let few = few_functions (nodes_in c.args.scoped.now) 0 in
    record { count = omega (arith, few); firsts = subst (AreSoFar c.args.scoped.now 0) (sym c.requires) (none_so_far c.args.scoped.now) }

pub overflow_add-count : goal.overflow_add-count
overflow_add-count c =
    let few = few_functions (nodes_in c.args.scoped.now) c.loop-number.number in
    let count = c.loop-number.invariant.count in
    let less = c.loop-number-test.true in
    omega (arith, few, count, less)

pub loop-number-preserved : goal.loop-number-preserved
loop-number-preserved c =
    let table = c.args.scoped.now in
    let s = nodes_in table in
    let l = c.loop-number in
    let d = c.len-number-end.ensures.derived in
    let less = c.loop-number-test.true in
    let is = c.len-number-end.ensures.is in
    let nodes = c.len-number-end.ensures.nodes in
    let within : l.number < length s = omega (arith, less, is, nodes) in
    elim c.if-is_function.branch [
      | then-is_function w ↦ (
          let one = ap is_function (sym c.kind_at.ensures) ∙ (sym c.is_function.ensures ∙ w.if-is_function.true) in
          let more = ap length (more_functions s l.number within one) in
          let push = length_push (functions_before s l.number) (node_at s l.number) in
          let count = l.invariant.count in
          let now = w.count-is in
          let first = w.first_of.ensures ∙ ap (first_number (get_or l.firsts w.function_text-text.result None)) count in
          record {
            count = omega (arith, more, push, count, now);
            firsts = subst (AreSoFar table (l.number + 1)) (sym (w.firsts-is ∙ ap (slice_set l.firsts w.function_text-text.result) first))
                (function_so_far table d l.number within l.firsts w.function_text-text.result w.function_text-text.ensures.there w.function_text-text.ensures.is one l.invariant.firsts);
          })
      | else-is_function w ↦ (
          let none = ap is_function (sym c.kind_at.ensures) ∙ (sym c.is_function.ensures ∙ w.if-is_function.false) in
          record {
            count = w.count-is ∙ (l.invariant.count ∙ ap length (sym (same_functions s l.number within none)));
            firsts = subst (AreSoFar table (l.number + 1)) (sym w.firsts-is) (other_so_far table d l.number within l.firsts none l.invariant.firsts);
          })
    ]

pub returns : goal.returns
returns c =
    let l = c.loop-number in
    let most = c.loop-number-test.false in
    let is = c.len-number-end.ensures.is in
    let nodes = c.len-number-end.ensures.nodes in
    all_so_far c.args.scoped.now l.number l.firsts (omega (arith, most, is, nodes)) l.invariant.firsts
