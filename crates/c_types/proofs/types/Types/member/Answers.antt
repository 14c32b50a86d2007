use Rattle.std.proofs.Common.{◌≡◌, ℕ, Option, Some, None, false, ap, sym, subst, ◌∙◌}
use Rattle.std.specs.Prelude.{slice_get, ◌↔◌}
use Rattle.std.specs.List.{list_any}
use Rattle.std.specs.Str.{bytes_eq}
use Rattle.c_types.specs.declared.kind.TypeId.{TypeId}
use Rattle.c_types.specs.Sizes.{HasMember, members_of, names_of}
use Rattle.c_types.specs.Tables.{IsStruct}
use Rattle.c_types.proofs.FieldLaws.{member_is, named, no_member, open_member_is, open_no_member}
use Rattle.c_types.proofs.ReadLaws.{body_read}
use Rattle.c_types.proofs.types.Types.member.Goals as goal

pub returns-in-Some-clause-some : goal.returns-in-Some-clause-some
returns-in-Some-clause-some c = λ offset type.
    let kinds = c.self.inside.kinds.entries in
    let structs = c.self.inside.structs.items in
    let at : slice_get structs c.args.id.number ≡ Some (Some c.in-Some.body) = body_read kinds structs c.args.id c.index.result.now (subst (λ t. IsStruct t c.args.id) (sym c.self.view_is) c.requires) c.index.ensures ∙ ap Some c.in-Some.is in
    let answer : c.field_named.result ≡ named c.args.name.now c.in-Some.body.fields = c.field_named.ensures ∙ ap (named c.args.name.now) c.as_slice.ensures in
    rw answer (subst (λ t. (named c.args.name.now c.in-Some.body.fields ≡ Some (offset, type)) ↔ HasMember t c.args.id c.args.name.now offset type) c.self.view_is
    (member_is kinds structs c.self.invariant c.args.id c.args.name.now c.in-Some.body at offset type))

pub returns-in-Some-clause-none : goal.returns-in-Some-clause-none
returns-in-Some-clause-none c =
    let kinds = c.self.inside.kinds.entries in
    let structs = c.self.inside.structs.items in
    let at : slice_get structs c.args.id.number ≡ Some (Some c.in-Some.body) = body_read kinds structs c.args.id c.index.result.now (subst (λ t. IsStruct t c.args.id) (sym c.self.view_is) c.requires) c.index.ensures ∙ ap Some c.in-Some.is in
    let answer : c.field_named.result ≡ named c.args.name.now c.in-Some.body.fields = c.field_named.ensures ∙ ap (named c.args.name.now) c.as_slice.ensures in
    rw answer (subst (λ t. (named c.args.name.now c.in-Some.body.fields ≡ None) ↔ (list_any (bytes_eq c.args.name.now) (names_of (members_of t c.args.id)) ≡ false)) c.self.view_is
    (no_member kinds structs c.self.invariant c.args.id c.args.name.now c.in-Some.body at))

pub returns-in-None-clause-some : goal.returns-in-None-clause-some
returns-in-None-clause-some c = λ offset type.
    let kinds = c.self.inside.kinds.entries in
    let structs = c.self.inside.structs.items in
    let at : slice_get structs c.args.id.number ≡ Some None = body_read kinds structs c.args.id c.index.result.now (subst (λ t. IsStruct t c.args.id) (sym c.self.view_is) c.requires) c.index.ensures ∙ ap Some c.in-None.is in
    subst (λ t. (◌≡◌ {A = Option (ℕ × TypeId)} None (Some (offset, type))) ↔ HasMember t c.args.id c.args.name.now offset type) c.self.view_is
    (open_member_is kinds structs c.self.invariant c.args.id c.args.name.now at offset type)

pub returns-in-None-clause-none : goal.returns-in-None-clause-none
returns-in-None-clause-none c =
    let kinds = c.self.inside.kinds.entries in
    let structs = c.self.inside.structs.items in
    let at : slice_get structs c.args.id.number ≡ Some None = body_read kinds structs c.args.id c.index.result.now (subst (λ t. IsStruct t c.args.id) (sym c.self.view_is) c.requires) c.index.ensures ∙ ap Some c.in-None.is in
    subst (λ t. (◌≡◌ {A = Option (ℕ × TypeId)} None None) ↔ (list_any (bytes_eq c.args.name.now) (names_of (members_of t c.args.id)) ≡ false)) c.self.view_is
    (open_no_member kinds structs c.self.invariant c.args.id c.args.name.now at)
