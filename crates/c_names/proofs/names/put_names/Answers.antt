use Rattle.std.proofs.Common.{◌+◌, ◌∙◌, ℕ, List, ◌∷◌, [], ◌++◌, ap, arith, length, subst, sym}
use Rattle.std.proofs.lemmas.List.{length_push}
use Rattle.c_syntax.specs.declared.syntax.SynNode.{SynNode}
use Rattle.c_typing.specs.Places.{node_at}
use Rattle.c_nodes.specs.Parents.{nodes_in}
use Rattle.c_names.specs.declared.words.SpecWords.{SpecWords}
use Rattle.c_names.specs.Denoted.{places_in}
use Rattle.c_names.specs.Names.{AreBegun, AreWords, IsWords, no_words}
use Rattle.c_names.proofs.PutLaws.{all_pushed}
use Rattle.c_names.proofs.FoundLaws.{all_begun, none_begun}
use Rattle.c_names.proofs.names.put_names.Goals as goal

more_words : (table : List SynNode) (n : ℕ) (words : List SpecWords) (w : SpecWords) → AreWords table n words → IsWords (nodes_in table) (places_in table).names (node_at (nodes_in table) n) w → AreWords table (n + 1) (words ++ w ∷ [])
more_words table n words w a is =
    let count = a.count in
    let one = length_push words w in
    record {
      count = omega (arith, count, one);
      are = all_pushed (λ k. IsWords (nodes_in table) (places_in table).names (node_at (nodes_in table) k)) words n w no_words count a.are is;
    }

pub loop-number-init : goal.loop-number-init
loop-number-init c = record {
  words = record { count = ap length c.new-words.ensures.items; are = λ k low. absurd (omega (arith, low)) };
  found = subst (AreBegun c.args.scoped.now 0) (sym c.requires.start) (none_begun c.args.scoped.now c.len-number-end.ensures.derived c.len-number-end.ensures.nodes);
}

pub put_name-requires-clause-words : goal.put_name-requires-clause-words
put_name-requires-clause-words c =
    let l = c.loop-number in
    subst (AreWords c.args.scoped.now (l.number + 1)) (sym (c.deref.ensures.value ∙ (c.in_ok-push.ensures {u = tt}).items)) (more_words c.args.scoped.now l.number l.words.items c.words_of.result l.invariant.words c.words_of.ensures)

pub loop-number-preserved : goal.loop-number-preserved
loop-number-preserved c =
    let l = c.loop-number in
    record {
      words = subst (AreWords c.args.scoped.now (l.number + 1)) (sym ((c.in_ok-push.ensures {u = tt}).items)) (more_words c.args.scoped.now l.number l.words.items c.words_of.result l.invariant.words c.words_of.ensures);
      found = c.put_name.ensures;
    }

pub returns : goal.returns
returns c =
    let l = c.loop-number in
    let most = c.loop-number-test.false in
    let is = c.len-number-end.ensures.is in
    all_begun c.args.scoped.now c.len-number-end.ensures.derived l.number l.found c.len-number-end.ensures.nodes (omega (arith, most, is)) l.invariant.found
