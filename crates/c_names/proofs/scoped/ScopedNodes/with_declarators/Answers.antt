use Rattle.std.proofs.Common.{◌∙◌, ap, ap₂, map, subst, sym}
use Rattle.std.specs.List.{range_with_len}
use Rattle.c_grammar.specs.Derivation.{IsTreeOf}
use Rattle.c_nodes.specs.Parents.{tree_in}
use Rattle.c_nodes.specs.Spans.{found_in}
use Rattle.c_nodes.proofs.ReadLaws.{tree_is}
use Rattle.c_names.proofs.scoped.ScopedNodes.with_declarators.Goals as goal

pub invariant_of-result : goal.invariant_of-result
invariant_of-result c =
    let (tokens, t, derived, is) = c.requires.tokens in
    record {
      derived = record { tokens = tokens; derived = subst (IsTreeOf tokens) (sym (ap tree_in is ∙ tree_is t)) derived };
      wholes = c.requires.wholes;
      next = c.requires.next;
      texts = c.in_ok-texts.ensures {u = tt};
      scopes = (c.in_ok-scopes.ensures {u = tt}).are;
      inner = (c.in_ok-inner.ensures {u = tt}) ∙ ap₂ (λ spans n. map (found_in spans) (range_with_len 0 n)) c.deref-3.ensures.value c.len.ensures.is;
    }
