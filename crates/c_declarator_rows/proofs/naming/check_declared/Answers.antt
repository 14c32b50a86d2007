use Rattle.std.proofs.Common.{◌&&◌, ap, not, subst, sym, ◌∙◌}
use Rattle.c_typing.specs.Judgements.{layouts}
use Rattle.c_typing.specs.Declarators.{name_faults}
use Rattle.c_names.specs.Denoted.{places_in}
use Rattle.c_names.specs.Names.{entity_of}
use Rattle.c_type_ids.proofs.TableLaws.{grows_on}
use Rattle.c_values.proofs.GrowLaws.{type_grows}
use Rattle.c_answers.specs.Answers.{Allows, IsFirst}
use Rattle.c_declarator_rows.specs.Naming.{is_enumerator, is_function, kind_faults, main_faults}
use Rattle.c_declarator_rows.proofs.NamingLaws.{declared_are, first_of_three, named_node, named_there, second_of_three, third_of_three}
use Rattle.c_declarator_rows.proofs.naming.check_declared.Goals as goal

pub returns-in-Err-clause-is : goal.returns-in-Err-clause-is
returns-in-Err-clause-is c = λ js e t judged laid named is.
    let table = c.args.nodes.now in
    let n = c.args.node in
    let (x, at, same) = named_there table c.args.name_node c.args.names.now e c.requires.names c.requires.within named in
    let ent = ap entity_of (c.entity_at-entity.ensures x at) ∙ same in
    let other = ap is_enumerator (sym ent) ∙ (sym c.is_enumerator.ensures ∙ c.if-is_enumerator.false) in
    let kinds = kind_faults (layouts js) t n e.entity in
    let first = subst (λ k. IsFirst c.in-Err.refusal (kind_faults (layouts js) t n k)) ent (c.in-Err.ensures {u = tt} (layouts js) t laid is) in
    subst (IsFirst c.in-Err.refusal) (sym (declared_are table js e t n c.args.defines e.entity other))
    (first_of_three c.in-Err.refusal kinds (name_faults (places_in table) js e t n (is_function e.entity && not c.args.defines)) (main_faults e.text t n (is_function e.entity)) first)

pub returns-in-Ok-clause-is : goal.returns-in-Ok-clause-is
returns-in-Ok-clause-is c = λ js e t judged laid named is.
    let table = c.args.nodes.now in
    let n = c.args.node in
    let (x, at, same) = named_there table c.args.name_node c.args.names.now e c.requires.names c.requires.within named in
    let (stands, text) = named_node table c.args.name_node c.args.names.now e c.requires.names c.requires.within named in
    let ent = ap entity_of (c.entity_at-entity.ensures x at) ∙ same in
    let other = ap is_enumerator (sym ent) ∙ (sym c.is_enumerator.ensures ∙ c.if-is_enumerator.false) in
    let function = c.is_function-is_function.ensures ∙ ap is_function ent in
    let (kind, done) = c.in_default.ensures {u = tt} (layouts js) t laid is in
    let (name, too) = (c.in-Ok.ensures {u = tt}).is js e t judged named is in
    let main = c.check_main.ensures.is t (type_grows c.args.meanings.now.types c.check_name.new.meanings.types c.check_name.ensures.grows.keeps c.args.kind t is) in
    subst (Allows c.check_main.result) (sym (declared_are table js e t n c.args.defines e.entity other))
    (third_of_three c.check_main.result (kind_faults (layouts js) t n e.entity) (name_faults (places_in table) js e t n (is_function e.entity && not c.args.defines)) (main_faults e.text t n (is_function e.entity))
    (ap (kind_faults (layouts js) t n) (sym ent) ∙ kind)
    (ap (name_faults (places_in table) js e t n) (ap (λ b. b && not c.args.defines) (sym function) ∙ sym c.declares_alone-as_function.ensures) ∙ name)
    (subst (λ b. Allows c.check_main.result (main_faults e.text t n b)) function (subst (λ y. Allows c.check_main.result (main_faults y t n c.is_function-is_function.result)) (sym text) main)))

pub returns-in-Ok-clause-grows : goal.returns-in-Ok-clause-grows
returns-in-Ok-clause-grows c = grows_on c.args.meanings.now.types c.check_name.new.meanings.types c.check_main.new.table c.check_name.ensures.grows c.check_main.ensures.grows

pub returns-in-Err-check_name-clause-is : goal.returns-in-Err-check_name-clause-is
returns-in-Err-check_name-clause-is c = λ js e t judged laid named is.
    let table = c.args.nodes.now in
    let n = c.args.node in
    let r = c.in-Err-check_name.refusal in
    let (x, at, same) = named_there table c.args.name_node c.args.names.now e c.requires.names c.requires.within named in
    let ent = ap entity_of (c.entity_at-entity.ensures x at) ∙ same in
    let other = ap is_enumerator (sym ent) ∙ (sym c.is_enumerator.ensures ∙ c.if-is_enumerator.false) in
    let function = c.is_function-is_function.ensures ∙ ap is_function ent in
    let (kind, done) = c.in_default.ensures {u = tt} (layouts js) t laid is in
    let first = (c.in-Err-check_name.ensures {u = tt}).is js e t judged named is in
    subst (IsFirst r) (sym (declared_are table js e t n c.args.defines e.entity other))
    (second_of_three r (kind_faults (layouts js) t n e.entity) (name_faults (places_in table) js e t n (is_function e.entity && not c.args.defines)) (main_faults e.text t n (is_function e.entity))
    (ap (kind_faults (layouts js) t n) (sym ent) ∙ kind)
    (subst (IsFirst r) (ap (name_faults (places_in table) js e t n) (c.declares_alone-as_function.ensures ∙ ap (λ b. b && not c.args.defines) function)) first))
