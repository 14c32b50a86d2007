use Rattle.std.proofs.Common.{◌≡◌, ◌+◌, ◌-◌, ◌∙◌, ap, ap₂, arith, get_or, length, sym}
use Rattle.std.proofs.lemmas.List.{length-map}
use Rattle.c_syntax.specs.declared.syntax.SynId.{SynId}
use Rattle.c_typing.specs.Names.{Name, is_automatic}
use Rattle.c_locals.proofs.NumberLaws.{derived_in, named_by, numbered_by, placed, some_name}
use Rattle.c_locals.proofs.numbers.automatic_number.Goals as goal

pub first-requires : goal.first-requires
first-requires c =
    let table = c.args.nodes.now in
    let d = derived_in table c.requires.tokens in
    let a = c.requires.automatic in
    let e = named_by table d c.args.number a.0 a.1 in
    (placed table d c.args.owners.now c.requires.owners a.0 c.args.number e.1 c.requires.within e.0 a.2).there

pub overflow_sub-before : goal.overflow_sub-before
overflow_sub-before c =
    let table = c.args.nodes.now in
    let d = derived_in table c.requires.tokens in
    let a = c.requires.automatic in
    let e = named_by table d c.args.number a.0 a.1 in
    let low = (numbered_by table d c.args.owners.now c.requires.owners c.args.counts.now c.requires.counts a.0 c.args.number e.1 c.requires.within e.0 a.2).0 in
    let at = ap (λ k. get_or c.args.counts.now k 0) c.first.ensures.is in
    omega (arith, low, at)

pub parameters-requires-clause-within : goal.parameters-requires-clause-within
parameters-requires-clause-within c =
    let table = c.args.nodes.now in
    let d = derived_in table c.requires.tokens in
    let a = c.requires.automatic in
    let e = named_by table d c.args.number a.0 a.1 in
    (placed table d c.args.owners.now c.requires.owners a.0 c.args.number e.1 c.requires.within e.0 a.2).there

pub overflow_add-result : goal.overflow_add-result
overflow_add-result c =
    let within = c.requires.within in
    let long = c.requires.counts.long in
    let few = c.requires.counts.few c.args.number (omega (arith, within)) in
    omega (arith, few, within, long)

pub returns : goal.returns
returns c = λ e is.
    let table = c.args.nodes.now in
    let d = derived_in table c.requires.tokens in
    let a = c.requires.automatic in
    let same : a.0 ≡ e = some_name (sym a.1 ∙ is) in
    let auto = ap (λ (x : Name). is_automatic x.entity) (sym same) ∙ a.2 in
    let n = named_by table d c.args.number e is in
    let by = (numbered_by table d c.args.owners.now c.requires.owners c.args.counts.now c.requires.counts e c.args.number n.1 c.requires.within n.0 auto).1 in
    ap₂ (λ p f. p + (get_or c.args.counts.now c.args.number 0 - get_or c.args.counts.now f 0)) (sym (length-map c.parameters.result.now (λ (id : SynId). id.number)) ∙ ap length c.parameters.ensures) c.first.ensures.is
    ∙ sym by
