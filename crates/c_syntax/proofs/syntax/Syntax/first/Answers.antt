use Rattle.std.proofs.Common.{◌≡◌, ◌<◌, Some, sym, ap, ◌∙◌, subst, arith, length}
use Rattle.std.specs.Prelude.{slice_get}
use Rattle.std.proofs.lemmas.Option.{slice_get-get_or}
use Rattle.c_syntax.specs.Trees.{one}
use Rattle.c_syntax.specs.Tables.{firsts, StandsFor}
use Rattle.c_syntax.proofs.TreeLaws.{length-nodes, length-firsts}
use Rattle.c_syntax.proofs.FirstLaws.{lowest_of}
use Rattle.c_syntax.proofs.syntax.Syntax.first.Goals as goal

pub index-requires : goal.index-requires
index-requires c =
    let of = c.self.invariant.of in
    let long = c.self.inside.firsts.ok.0 ∙ ap length c.self.invariant.lowest_are ∙ length-firsts 0 (one of) in
    let many = ap length (sym c.self.view_is ∙ c.self.invariant.whole) ∙ length-nodes 0 (one of) in
    omega (arith, long, many, c.requires)

pub returns : goal.returns
returns c = λ tree stands.
    let of = c.self.invariant.of in
    let whole = sym c.self.view_is ∙ c.self.invariant.whole in
    let within = subst (λ ns. c.args.id.number < length ns) whole c.requires in
    let long = c.self.inside.firsts.ok.0 ∙ ap length c.self.invariant.lowest_are ∙ length-firsts 0 (one of) in
    let many = ap length whole ∙ length-nodes 0 (one of) in
    let inside : c.args.id.number < length c.self.inside.firsts.items = let l = c.self.inside.firsts.ok.0 in omega (arith, long, many, l, c.requires) in
    let got : slice_get (firsts 0 (one of)) c.args.id.number ≡ Some c.index.result.now =
    ap (λ ns. slice_get ns c.args.id.number) (sym c.self.invariant.lowest_are) ∙ slice_get-get_or c.self.inside.firsts.items c.args.id.number c.index.result.now inside ∙ ap Some (sym c.index.ensures) in
    lowest_of of c.args.id tree c.index.result.now within (subst (λ ns. StandsFor ns c.args.id tree) whole stands) got
