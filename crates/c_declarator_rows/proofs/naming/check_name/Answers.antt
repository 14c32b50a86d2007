use Rattle.std.proofs.Common.{[], ap, sym, ◌∙◌}
use Rattle.c_syntax.specs.declared.syntax.SynNode.{SynNode}
use Rattle.c_typing.specs.Rules.{broken_if}
use Rattle.c_declarator_rows.proofs.NamingLaws.{name_once, name_twice, named_node}
use Rattle.c_declarator_rows.proofs.naming.check_name.Goals as goal

pub returns-then-is_declared_twice-clause-is : goal.returns-then-is_declared_twice-clause-is
returns-then-is_declared_twice-clause-is c = λ js e t judged named is.
    let (at, text) = named_node c.args.nodes.now c.args.name_node c.args.names.now e c.requires.names c.requires.within named in
    name_twice c.args.nodes.now js e t c.args.name_node c.args.node c.args.as_function at c.is_declared_twice.result (c.is_declared_twice.ensures js e t e.node judged named is) c.if-is_declared_twice.true

pub returns-then-branch-clause-is : goal.returns-then-branch-clause-is
returns-then-branch-clause-is c = λ js e t judged named is.
    let (at, text) = named_node c.args.nodes.now c.args.name_node c.args.names.now e c.requires.names c.requires.within named in
    let bad = c.in_ok-is_bad_library_name.field-0 in
    let spelled = c.as_slice-text.ensures ∙ ap (λ (y : SynNode). y.text) c.node.ensures.is ∙ sym text in (
      [],
      name_once c.args.nodes.now js e t c.args.name_node c.args.node c.args.as_function at c.is_declared_twice.result (c.is_declared_twice.ensures js e t e.node judged named is) c.as_slice-text.result.now bad c.if-is_declared_twice.false spelled
          (c.in_ok-is_bad_library_name.ensures.is t c.args.node is)
          ∙ ap (λ b. broken_if b 23 c.args.node) c.if-branch.true,
    )

pub returns-clause-is : goal.returns-clause-is
returns-clause-is c = λ js e t judged named is.
    let (at, text) = named_node c.args.nodes.now c.args.name_node c.args.names.now e c.requires.names c.requires.within named in
    let bad = c.in_ok-is_bad_library_name.field-0 in
    let spelled = c.as_slice-text.ensures ∙ ap (λ (y : SynNode). y.text) c.node.ensures.is ∙ sym text in (
      name_once c.args.nodes.now js e t c.args.name_node c.args.node c.args.as_function at c.is_declared_twice.result (c.is_declared_twice.ensures js e t e.node judged named is) c.as_slice-text.result.now bad c.if-is_declared_twice.false spelled
          (c.in_ok-is_bad_library_name.ensures.is t c.args.node is)
          ∙ ap (λ b. broken_if b 23 c.args.node) c.if-branch.false,
      tt,
    )
