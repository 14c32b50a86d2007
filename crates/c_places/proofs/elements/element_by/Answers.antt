use Rattle.std.proofs.Common.{◌∙◌, sym}
use Rattle.c_typing.specs.Judgements.{layouts}
use Rattle.c_typing.specs.Conversions.{value_of}
use Rattle.c_places.proofs.ElementLaws.{no_element, index_then_pointer, pointer_then_index}
use Rattle.c_places.proofs.elements.element_by.Goals as goal

pub returns-in-None : goal.returns-in-None
returns-in-None c = λ js n x y laid same h i.
    no_element c.args.table.now js n x y c.args.node same
    (c.in-None.ensures (value_of x).type (value_of y).type (layouts js) (c.kind_of-left_kind.ensures (value_of x).type h.value.type) (c.kind_of-right_kind.ensures (value_of y).type i.value.type) laid)

pub returns-then-is_pointer : goal.returns-then-is_pointer
returns-then-is_pointer c = λ js n x y laid same h i.
    let right = c.kind_of-right_kind.ensures (value_of y).type i.value.type in
    index_then_pointer c.args.table.now js n x y c.index_first.result c.in-Some.element c.args.left c.args.right h i
    (c.in-Some.ensures (value_of x).type (value_of y).type (layouts js) (c.kind_of-left_kind.ensures (value_of x).type h.value.type) right laid)
    (sym (c.is_pointer.ensures c.args.table.now (value_of y).type right) ∙ c.if-is_pointer.true) (c.index_first.ensures c.args.table.now)

pub returns-else-is_pointer : goal.returns-else-is_pointer
returns-else-is_pointer c = λ js n x y laid same h i.
    let right = c.kind_of-right_kind.ensures (value_of y).type i.value.type in
    pointer_then_index c.args.table.now js n x y c.pointer_first.result c.in-Some.element c.args.left c.args.right h i
    (c.in-Some.ensures (value_of x).type (value_of y).type (layouts js) (c.kind_of-left_kind.ensures (value_of x).type h.value.type) right laid)
    (sym (c.is_pointer.ensures c.args.table.now (value_of y).type right) ∙ c.if-is_pointer.false) (c.pointer_first.ensures c.args.table.now)
