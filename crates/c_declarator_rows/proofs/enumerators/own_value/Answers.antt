use Rattle.std.proofs.Common.{◌≡◌, ◌++◌, subst, sym}
use Rattle.c_typing.specs.Declarators.{word_in}
use Rattle.c_typing.specs.Rules.{no_int, not_constant, out_of_range}
use Rattle.c_answers.specs.Answers.{Settles}
use Rattle.c_values.specs.Operators.{IsOperand}
use Rattle.c_declarator_rows.proofs.EnumeratorLaws.{own_value, own_waits}
use Rattle.c_declarator_rows.proofs.enumerators.own_value.Goals as goal

pub returns-in_default : goal.returns-in_default
returns-in_default c = own_waits c.args.nodes.now c.args.node c.requires.kind c.requires.own (c.in_default.ensures {u = tt})

pub enumerator_value-requires : goal.enumerator_value-requires
enumerator_value-requires c =
    let (y, e, is) = c.in-Some.ensures {u = tt} in
    (y, subst (λ o. IsOperand c.args.meanings.now.types o y) (sym c.operand_of.ensures) (record { type = is.type; constant = is.constant }))

pub returns : goal.returns
returns c =
    let (y, e, is) = c.in-Some.ensures {u = tt} in
    let operand = subst (λ o. IsOperand c.args.meanings.now.types o y) (sym c.operand_of.ensures) (record { type = is.type; constant = is.constant }) in
    own_value c.args.nodes.now c.args.node c.requires.kind c.requires.own y c.enumerator_value.result e
    (subst (λ k. Settles (λ w. w ≡ word_in y.constant) c.enumerator_value.result (not_constant y.constant k ++ out_of_range y.constant ++ no_int y.type y.constant k)) c.kid.ensures.is (c.enumerator_value.ensures y operand))
