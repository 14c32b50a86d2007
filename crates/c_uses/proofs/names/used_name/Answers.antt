use Rattle.std.proofs.Common.{◌<◌, ◌∙◌, ap, get_or, length, subst, sym, None}
use Rattle.c_uses.proofs.NameLaws.{found, name_used_is, never_missing}
use Rattle.c_uses.proofs.names.used_name.Goals as goal

pub declared_by-requires : goal.declared_by-requires
declared_by-requires c =
    let o = c.requires.symbols.objects.numbers in
    let f = found c.args.nodes.now o.derived o.nodes c.args.number c.denoted_at.result c.in-Some.node c.denoted_at.ensures c.in-Some.is in
    subst (λ l. c.in-Some.node < l) (sym (ap length c.deref.ensures.value ∙ c.requires.symbols.names.declared.long)) f.below

pub returns-in-Some-declared_by : goal.returns-in-Some-declared_by
returns-in-Some-declared_by c =
    let o = c.requires.symbols.objects.numbers in
    let f = found c.args.nodes.now o.derived o.nodes c.args.number c.denoted_at.result c.in-Some.node c.denoted_at.ensures c.in-Some.is in
    let at = ap (λ xs. get_or xs c.in-Some.node None) (sym c.deref.ensures.value) ∙ (sym c.declared_by.ensures ∙ c.in-Some-declared_by.is) in
    name_used_is c.args.nodes.now o.derived o.nodes c.args.number c.args.symbols.now.names.declared.items c.requires.symbols.names.declared c.in-Some.node f c.in-Some-declared_by.name at

pub returns-in-None : goal.returns-in-None
returns-in-None c =
    let o = c.requires.symbols.objects.numbers in
    let f = found c.args.nodes.now o.derived o.nodes c.args.number c.denoted_at.result c.in-Some.node c.denoted_at.ensures c.in-Some.is in
    let at = ap (λ xs. get_or xs c.in-Some.node None) (sym c.deref.ensures.value) ∙ (sym c.declared_by.ensures ∙ c.in-None.is) in
    absurd (never_missing c.args.nodes.now o.derived o.nodes c.args.number c.args.symbols.now.names.declared.items c.requires.symbols.names.declared c.in-Some.node f at)
