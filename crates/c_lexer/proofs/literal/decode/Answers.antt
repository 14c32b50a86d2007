use Rattle.std.proofs.Common.{rules, ◌≡◌, [], length, sym, subst}
use Rattle.std.proofs.lemmas.List.{append-nil}
use Rattle.std.proofs.lemmas.List.{nil_from_length}
use Rattle.c_lexer.specs.Literals.{StandsFor, nothing}
use Rattle.c_lexer.proofs.literal.decode.Goals as goal

pub returns-clause-found : goal.returns-clause-found
returns-clause-found c =
    let none : length c.loop-rest.rest.now ≡ 0 = search rules in
    let empty : c.loop-rest.rest.now ≡ [] = nil_from_length c.loop-rest.rest.now none in
    subst (StandsFor c.args.inside.now) (append-nil c.loop-rest.bytes) (c.loop-rest.invariant.stands [] (subst (λ r. StandsFor r []) (sym empty) nothing))
