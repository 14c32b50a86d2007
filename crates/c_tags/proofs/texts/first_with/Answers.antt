use Rattle.std.proofs.Common.{◌≡◌, ◌<◌, ◌+◌, take, ◌∙◌, Some, None, Bool, false, ap, length, subst, sym, true, List, ℕ}
use Rattle.std.specs.Str.{bytes_eq}
use Rattle.indexmap.specs.IndexMap.{get_by, UpdatesBy}
use Rattle.c_syntax.specs.declared.syntax.SynNode.{SynNode}
use Rattle.c_typing.specs.Places.{node_at, kind_at}
use Rattle.c_typing.specs.ShapesOfNodes.{in_table}
use Rattle.c_nodes.specs.Parents.{nodes_in}
use Rattle.c_names.specs.Texts.{has_name, first_of}
use Rattle.c_names.proofs.TextLaws.{says_other, says_again, first_again, first_is_new, says_new}
use Rattle.c_tags.proofs.texts.first_with.Goals as goal

within : (n m k : ℕ) → n < m → k ≡ m → n < k
within n m k h e = subst (λ l. n < l) (sym e) h

has : (node : SynNode) (table : List SynNode) (n : ℕ) (b found : Bool) → node ≡ in_table (node_at (nodes_in table) n) → found ≡ has_name node.kind → found ≡ b → has_name (kind_at (nodes_in table) n) ≡ b
has node table n b found is told e = sym (ap (λ (x : SynNode). has_name x.kind) is) ∙ (sym told ∙ e)

pub returns-then-not-has_name-clause-says : goal.returns-then-not-has_name-clause-says
returns-then-not-has_name-clause-says c =
    let table = c.args.nodes.now in
    says_other c.args.firsts.now (nodes_in table) c.args.number (within c.args.number (length table) (length (nodes_in table)) c.requires.within c.requires.nodes) c.requires.says
    (has c.node-node.result.now table c.args.number false c.has_name.result c.node-node.ensures.is c.has_name.ensures c.if-not-has_name.true)

pub returns-in-Some-clause-says : goal.returns-in-Some-clause-says
returns-in-Some-clause-says c =
    let table = c.args.nodes.now in
    let text = c.as_slice-text.ensures ∙ ap (λ (x : SynNode). x.text) c.node-node.ensures.is in
    says_again c.args.firsts.now (nodes_in table) c.args.number (within c.args.number (length table) (length (nodes_in table)) c.requires.within c.requires.nodes) c.requires.says
    c.in-Some.first.now (subst (λ t. get_by (λ key. bytes_eq t key.now) c.args.firsts.now ≡ Some c.in-Some.first.now) text (sym ((c.in-Some.ensures {u = tt}).value)))
    (has c.node-node.result.now table c.args.number true c.has_name.result c.node-node.ensures.is c.has_name.ensures c.if-not-has_name.false)

pub returns-in-Some-clause-is : goal.returns-in-Some-clause-is
returns-in-Some-clause-is c =
    let table = c.args.nodes.now in
    let text = c.as_slice-text.ensures ∙ ap (λ (x : SynNode). x.text) c.node-node.ensures.is in
    first_again c.args.firsts.now (nodes_in table) c.args.number (within c.args.number (length table) (length (nodes_in table)) c.requires.within c.requires.nodes) c.requires.says
    c.in-Some.first.now (subst (λ t. get_by (λ key. bytes_eq t key.now) c.args.firsts.now ≡ Some c.in-Some.first.now) text (sym ((c.in-Some.ensures {u = tt}).value)))

pub returns-in_ok-insert-in-None-clause-says : goal.returns-in_ok-insert-in-None-clause-says
returns-in_ok-insert-in-None-clause-says c =
    let table = c.args.nodes.now in
    let text = c.as_slice-text.ensures ∙ ap (λ (x : SynNode). x.text) c.node-node.ensures.is in
    subst (λ t. (q : List ℕ) → get_by (λ key. bytes_eq q key.now) c.insert.new.self ≡ first_of (take (c.args.number + 1) (nodes_in table)) q) text
    (says_new c.args.firsts.now (nodes_in table) c.args.number (within c.args.number (length table) (length (nodes_in table)) c.requires.within c.requires.nodes) c.requires.says
    c.node-node.ensures.numbered (has c.node-node.result.now table c.args.number true c.has_name.result c.node-node.ensures.is c.has_name.ensures c.if-not-has_name.false)
    (subst (λ t. get_by (λ key. bytes_eq t key.now) c.args.firsts.now ≡ None) text (sym ((c.in-None.ensures {u = tt}).value)))
    c.insert.new.self (subst (λ t. UpdatesBy (λ x y. bytes_eq x.now y.now) (λ key. bytes_eq t key.now) c.args.firsts.now c.insert.new.self (Some c.args.number)) text ((c.in_ok-insert-in-None.ensures {u = tt}).updates)))

pub returns-in_ok-insert-in-None-clause-is : goal.returns-in_ok-insert-in-None-clause-is
returns-in_ok-insert-in-None-clause-is c =
    let table = c.args.nodes.now in
    let text = c.as_slice-text.ensures ∙ ap (λ (x : SynNode). x.text) c.node-node.ensures.is in
    first_is_new c.args.firsts.now (nodes_in table) c.args.number (within c.args.number (length table) (length (nodes_in table)) c.requires.within c.requires.nodes) c.requires.says
    c.node-node.ensures.numbered (has c.node-node.result.now table c.args.number true c.has_name.result c.node-node.ensures.is c.has_name.ensures c.if-not-has_name.false)
    (subst (λ t. get_by (λ key. bytes_eq t key.now) c.args.firsts.now ≡ None) text (sym ((c.in-None.ensures {u = tt}).value)))
