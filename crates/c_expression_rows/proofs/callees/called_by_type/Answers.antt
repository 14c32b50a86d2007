use Rattle.std.proofs.Common.{subst, sym, ◌∙◌}
use Rattle.c_type_ids.specs.Ids.{Names}
use Rattle.c_calls.proofs.ParameterLaws.{as_many}
use Rattle.c_expression_rows.proofs.CallRowLaws.{function_type}
use Rattle.c_expression_rows.proofs.callees.called_by_type.Goals as goal

pub returns-then-not-is_function : goal.returns-then-not-is_function
returns-then-not-is_function c = λ d f e named.
    (d, e, sym (c.is_function.ensures c.args.table.now f.type (c.kind.ensures f.type named)) ∙ c.if-not-is_function.true)

pub returns-then-parameters-arguments : goal.returns-then-parameters-arguments
returns-then-parameters-arguments c = λ d f e named.
    let (r, ts, g) = function_type f.type (sym (c.is_function.ensures c.args.table.now f.type (c.kind.ensures f.type named)) ∙ c.if-not-is_function.false) in
    let many = as_many c.args.table.now c.parameters.result.now ts (c.parameters.ensures r ts (subst (Names c.args.table.now c.args.id) g named)) in
    (d, r, ts, e, g, sym many ∙ c.if-parameters-arguments.true)

pub returns-else-parameters-arguments : goal.returns-else-parameters-arguments
returns-else-parameters-arguments c = λ d f e named.
    let (r, ts, g) = function_type f.type (sym (c.is_function.ensures c.args.table.now f.type (c.kind.ensures f.type named)) ∙ c.if-not-is_function.false) in
    let many = as_many c.args.table.now c.parameters.result.now ts (c.parameters.ensures r ts (subst (Names c.args.table.now c.args.id) g named)) in
    (d, r, ts, e, g, λ same. c.if-parameters-arguments.false (many ∙ same))
