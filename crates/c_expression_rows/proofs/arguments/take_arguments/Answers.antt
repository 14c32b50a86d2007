use Rattle.std.proofs.Common.{ap, subst, sym, ◌∙◌}
use Rattle.std.specs.Prelude.{reverse}
use Rattle.std.proofs.lemmas.List.{reverse-reverse}
use Rattle.c_typing.specs.Places.{other_kids}
use Rattle.c_calls.specs.Arguments.{AreTypings}
use Rattle.c_meanings.specs.Meanings.{judged_to, node_in}
use Rattle.c_expression_rows.proofs.ArgumentLaws.{all_are}
use Rattle.c_expression_rows.proofs.arguments.take_arguments.Goals as goal

pub returns-clause-are : goal.returns-clause-are
returns-clause-are c = λ xs e.
    let put = c.put_arguments.new.arguments.items in
    let types = c.put_arguments.new.meanings.types in
    subst (λ ts. AreTypings types ts xs) (sym (ap reverse c.reverse.ensures.items ∙ reverse-reverse put))
    (all_are types (judged_to c.args.nodes.now c.args.node) put (other_kids (node_in c.args.nodes.now c.args.node)) xs c.in_ok-put_arguments.ensures.are c.in_ok-put_arguments.ensures.one_each e)
