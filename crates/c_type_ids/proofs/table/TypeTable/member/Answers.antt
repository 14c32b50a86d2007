use Rattle.std.proofs.Common.{◌≡◌, ◌↔◌, ℕ, None, Some, false, subst, sym}
use Rattle.std.specs.List.{list_any}
use Rattle.std.specs.Str.{bytes_eq}
use Rattle.c_types.specs.declared.kind.TypeId.{TypeId}
use Rattle.c_types.specs.Sizes.{HasMember, members_of, names_of}
use Rattle.c_type_ids.specs.Ids.{Known, struct_by}
use Rattle.c_type_ids.proofs.FindLaws.{member_found}
use Rattle.c_type_ids.proofs.table.TypeTable.member.Goals as goal

pub member-requires : goal.member-requires
member-requires c =
    let (node, declared) = c.requires in
    c.self.invariant.there node c.args.s (subst (λ (k : Known). struct_by k.structs node ≡ Some c.args.s) (sym c.self.view_is) declared)

pub returns : goal.returns
returns c =
    member_found c.args.self.now c.args.s c.args.name.now c.member.result
    (subst (λ (k : Known). (offset : ℕ) (type : TypeId) → (c.member.result ≡ Some (offset, type)) ↔ HasMember k.table c.args.s c.args.name.now offset type) c.self.view_is c.member.ensures.some)
    (subst (λ (k : Known). (c.member.result ≡ None) ↔ (list_any (bytes_eq c.args.name.now) (names_of (members_of k.table c.args.s)) ≡ false)) c.self.view_is c.member.ensures.none)
