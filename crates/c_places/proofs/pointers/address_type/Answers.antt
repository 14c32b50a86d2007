use Rattle.std.proofs.Common.{◌∙◌, refl, sym, ap}
use Rattle.c_type_ids.proofs.TableLaws.{grows_same}
use Rattle.c_values.specs.Typings.{form_of}
use Rattle.std.specs.Prelude.{Ok}
use Rattle.c_places.specs.Places.{IsAddressType}
use Rattle.c_places.proofs.PointerLaws.{address_of_a_local, address_in_memory, no_address}
use Rattle.c_places.proofs.pointers.address_type.Goals as goal

pub returns-in-InLocal-clause-is : goal.returns-in-InLocal-clause-is
returns-in-InLocal-clause-is c = λ n x same is form.
    address_of_a_local c.args.table.now c.args.node n x same c.in-InLocal.field-0 (ap form_of (sym c.in-InLocal.is) ∙ form)

pub returns-in_ok-pointer_to-in-InMemory-clause-is : goal.returns-in_ok-pointer_to-in-InMemory-clause-is
returns-in_ok-pointer_to-in-InMemory-clause-is c = λ n x same is form.
    address_in_memory c.pointer_to.new.table c.args.node n x same (IsAddressType c.pointer_to.new.table x) (Ok c.in_ok-pointer_to-in-InMemory.field-0) (ap form_of (sym c.in-InMemory.is) ∙ form)
    (c.in_ok-pointer_to-in-InMemory.ensures.is x.type is, refl)

pub returns-in_default : goal.returns-in_default
returns-in_default c = record {
  is = λ n x same is form. no_address c.args.table.now c.args.node n x same c.args.form form c.in_default.not-InLocal c.in_default.not-InMemory;
  grows = grows_same c.args.table.now c.args.table.now refl;
}
