use Rattle.std.proofs.Common.{◌≡◌, ◌<◌, length, ap, subst, sym, ◌∙◌, arith}
use Rattle.c_typing.specs.Places.{Node, kid, node_at}
use Rattle.c_typing.specs.Judgements.{type_at}
use Rattle.c_nodes.specs.Parents.{nodes_in}
use Rattle.c_values.specs.Typings.{IsType}
use Rattle.c_meanings.specs.Meanings.{judged_to}
use Rattle.c_meanings.proofs.MeaningLaws.{its_number}
use Rattle.c_statement_rows.proofs.ReturnLaws.{before_it, function_there, has_length, id_found, its_function, none_seen}
use Rattle.c_statement_rows.proofs.returns.declared_at.Goals as goal

pub kid-declarator-requires : goal.kid-declarator-requires
kid-declarator-requires c =
    let table = c.args.nodes.now in
    let n = c.args.node in
    let m = c.args.meanings.now in
    let within = c.requires.within in
    let nodes = c.requires.ready.nodes in
    subst (λ k. k < length table) (sym c.at.ensures)
    (function_there table n c.requires.kind (its_number table n 0 m c.requires.ready c.requires.within) c.requires.ready.derived (omega (arith, within, nodes)) c.args.functions.now c.requires.functions c.requires.within)

pub type_at-requires : goal.type_at-requires
type_at-requires c =
    let table = c.args.nodes.now in
    let n = c.args.node in
    let m = c.args.meanings.now in
    let within = c.requires.within in
    let nodes = c.requires.ready.nodes in
    let long = c.requires.ready.long in
    let same : c.kid-declarator.result ≡ its_function table n c.requires.kind (its_number table n 0 m c.requires.ready c.requires.within) =
    c.kid-declarator.ensures.is ∙ (ap (λ i. kid (node_at (nodes_in table) i) 1) c.at.ensures ∙ ap (λ (f : Node). kid f 1) (sym (c.requires.functions.are n c.requires.within))) in
    let less = before_it table n c.requires.kind (its_number table n 0 m c.requires.ready c.requires.within) c.requires.ready.derived (omega (arith, within, nodes)) in
    record { within = omega (arith, same, less, long) }

pub returns-in_default : goal.returns-in_default
returns-in_default c =
    let table = c.args.nodes.now in
    let n = c.args.node in
    let m = c.args.meanings.now in
    let same : c.kid-declarator.result ≡ its_function table n c.requires.kind (its_number table n 0 m c.requires.ready c.requires.within) =
    c.kid-declarator.ensures.is ∙ (ap (λ i. kid (node_at (nodes_in table) i) 1) c.at.ensures ∙ ap (λ (f : Node). kid f 1) (sym (c.requires.functions.are n c.requires.within))) in
    ap (type_at (judged_to table n)) (sym same) ∙ none_seen (IsType m.types) c.type_at.result (type_at (judged_to table n) c.kid-declarator.result) (c.type_at.ensures m.types (judged_to table n) c.requires.ready.judged) c.in_default.not-Some

pub returns : goal.returns
returns c =
    let table = c.args.nodes.now in
    let n = c.args.node in
    let m = c.args.meanings.now in
    let within = c.requires.within in
    let nodes = c.requires.ready.nodes in
    let own = its_number table n 0 m c.requires.ready c.requires.within in
    let same : c.kid-declarator.result ≡ its_function table n c.requires.kind own =
    c.kid-declarator.ensures.is ∙ (ap (λ i. kid (node_at (nodes_in table) i) 1) c.at.ensures ∙ ap (λ (f : Node). kid f 1) (sym (c.requires.functions.are n c.requires.within))) in
    let (t, e, is) = c.in-Some.ensures {u = tt} m.types (judged_to table n) c.requires.ready.judged in
    id_found m.types c.in-Some.kind (type_at (judged_to table n) (its_function table n c.requires.kind own)) (has_length table n c.requires.kind own c.requires.ready.derived (omega (arith, within, nodes))) t (ap (type_at (judged_to table n)) (sym same) ∙ e) is c.known_id.result c.known_id.ensures
