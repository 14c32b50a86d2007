use Rattle.std.proofs.Common.{◌≡◌, ◌∙◌, ◌&&◌, None, ap, false, get_or, sym}
use Rattle.c_typing.specs.Names.{is_static}
use Rattle.c_names.specs.Names.{entity_of}
use Rattle.c_objects.specs.Objects.{is_number}
use Rattle.c_objects.proofs.ObjectLaws.{no_object_so, object_so, object_told}
use Rattle.c_objects.proofs.numbers.is_object.Goals as goal
use Rattle.c_objects.proofs.numbers.is_object.Goals.{then-is_static, else-is_static}

pub returns-then-is_number : goal.returns-then-is_number
returns-then-is_number c =
    let table = c.args.scoped.now in
    let f = c.requires.firsts in
    let static = is_static (entity_of c.in-Some.name.entity) in
    let one = is_number (get_or c.args.firsts.now c.args.number None) c.args.number in
    let value : c.if-is_static.value ≡ (static && one) =
    elim c.if-is_static.branch [
      | then-is_static w ↦ (w.value-is ∙ (w.is_number.ensures ∙ sym (ap (λ b. b && one) (sym c.is_static.ensures ∙ w.if-is_static.true))))
      | else-is_static w ↦ (w.value-is ∙ (w.if-is_static.false ∙ sym (ap (λ b. b && one) (sym c.is_static.ensures ∙ w.if-is_static.false))))
    ] in
    object_so table f.derived f.nodes static one (get_or c.args.defined.now c.args.number false) c.if-is_static.value value c.if-is_number.true
    ∙ object_told table f.derived f.nodes c.args.names.now c.args.firsts.now c.args.defined.now c.requires.names f c.requires.defined c.args.number c.in-Some.name c.requires.within c.in-Some.is

pub returns-else-is_number : goal.returns-else-is_number
returns-else-is_number c =
    let table = c.args.scoped.now in
    let f = c.requires.firsts in
    let static = is_static (entity_of c.in-Some.name.entity) in
    let one = is_number (get_or c.args.firsts.now c.args.number None) c.args.number in
    let value : c.if-is_static.value ≡ (static && one) =
    elim c.if-is_static.branch [
      | then-is_static w ↦ (w.value-is ∙ (w.is_number.ensures ∙ sym (ap (λ b. b && one) (sym c.is_static.ensures ∙ w.if-is_static.true))))
      | else-is_static w ↦ (w.value-is ∙ (w.if-is_static.false ∙ sym (ap (λ b. b && one) (sym c.is_static.ensures ∙ w.if-is_static.false))))
    ] in
    no_object_so table f.derived f.nodes static one (get_or c.args.defined.now c.args.number false) c.if-is_static.value value c.if-is_number.false
    ∙ object_told table f.derived f.nodes c.args.names.now c.args.firsts.now c.args.defined.now c.requires.names f c.requires.defined c.args.number c.in-Some.name c.requires.within c.in-Some.is
