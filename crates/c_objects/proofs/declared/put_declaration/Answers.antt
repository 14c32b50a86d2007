use Rattle.std.proofs.Common.{◌+◌, ◌<◌, ◌∙◌, ◌++◌, ◌∷◌, [], ap, arith, length, subst, sym}
use Rattle.std.specs.Prelude.{slice_set}
use Rattle.c_objects.specs.Objects.{AreDeclarationsBefore, nodes_in_lists}
use Rattle.c_objects.proofs.DeclarationLaws.{length_lists, list_at, none_put, object_below, one_put, with_list}
use Rattle.c_objects.proofs.declared.put_declaration.Goals as goal

pub bounds-found-object : goal.bounds-found-object
bounds-found-object c =
    let a = c.requires.numbers in
    let low = object_below c.args.scoped.now a.derived a.nodes c.args.number c.in-Some.object (sym (a.are c.args.number c.requires.within) ∙ c.in-Some.is) in
    let long = c.requires.found.long in
    let same = length_lists c.args.found.now in
    omega (arith, low, long, same)

pub returns : goal.returns
returns c =
    let a = c.requires.numbers in
    let found = c.args.found.now in
    let at = sym (a.are c.args.number c.requires.within) ∙ c.in-Some.is in
    let low = object_below c.args.scoped.now a.derived a.nodes c.args.number c.in-Some.object at in
    let long = c.requires.found.long in
    let same = length_lists found in
    let within : c.in-Some.object < length found = omega (arith, low, long, same) in
    subst (AreDeclarationsBefore c.args.scoped.now (c.args.number + 1))
    (sym (with_list found c.in-Some.object c.push.new.self ∙ ap (slice_set (nodes_in_lists found) c.in-Some.object) ((c.in_ok-push.ensures {u = tt}).items ∙ ap (λ xs. xs ++ c.args.number ∷ []) (sym (list_at found c.in-Some.object c.index-found-object.result within)))))
    (one_put c.args.scoped.now a.derived a.nodes c.args.number (nodes_in_lists found) c.in-Some.object at c.requires.found)

pub returns-in_default : goal.returns-in_default
returns-in_default c =
    let a = c.requires.numbers in
    none_put c.args.scoped.now a.derived a.nodes c.args.number (nodes_in_lists c.args.found.now) (sym (a.are c.args.number c.requires.within) ∙ c.in_default.is) c.requires.found
