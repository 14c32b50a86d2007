use Rattle.std.proofs.Common.{◌≡◌, sym, subst, ◌∙◌, get_or, refl}
use Rattle.std.proofs.lemmas.Option.{slice_get_read}
use Rattle.c_types.specs.Sizes.{Has}
use Rattle.c_types.specs.Tables.{PartsAreThere, IsThere}
use Rattle.c_types.specs.Kept.{table_of}
use Rattle.c_types.proofs.KeptLaws.{parts_at}
use Rattle.c_types.proofs.types.Types.kind.Goals as goal

pub returns-clause-parts : goal.returns-clause-parts
returns-clause-parts c =
    let kinds = c.self.inside.kinds.entries in
    let structs = c.self.inside.structs.items in
    let all = c.as_slice.ensures ∙ c.keys.ensures.rest in
    let within = subst (λ t. IsThere t c.args.id) (sym c.self.view_is) c.requires in
    let has : Has (table_of kinds structs) c.args.id c.index-as_slice-id.result = slice_get_read _ _ c.args.id.number c.index-as_slice-id.result refl within (subst (λ ks. c.index-as_slice-id.result ≡ get_or ks c.args.id.number c.index-as_slice-id.result) all c.index-as_slice-id.is) in
    subst (λ t. PartsAreThere t c.index-as_slice-id.result) c.self.view_is (parts_at kinds structs c.args.id c.index-as_slice-id.result c.self.invariant has)
