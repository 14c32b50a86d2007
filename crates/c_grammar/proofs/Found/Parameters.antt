-- The cases of parameters and type names.
use Rattle.std.proofs.Common.{ℕ, suc, max, List, arith}
use Rattle.c_lexer.specs.declared.token.Token.{Token}
use Rattle.c_syntax.specs.declared.kind.SynKind.{SynKind}
use Rattle.c_syntax.specs.declared.kind.SynKind.TheVariants as kind
use Rattle.c_syntax.specs.Trees.{Tree, two, plain_node, height}
use Rattle.c_grammar.specs.Scopes.{Names, after}
use Rattle.c_grammar.specs.Derivation as rule
use Rattle.c_grammar.specs.Derivation.{Derives, start, no_name}
use Rattle.c_grammar.specs.Answers.{found, and_then}
use Rattle.c_grammar.specs.Reading as reading
use Rattle.c_grammar.specs.Reading.{Mode, unnamed, either, Reader, read, goal_in, specs_first, declared_in, parameter_in, type_name_in, below}
use Rattle.c_grammar.proofs.Budgets.{Finds, leads_height, leads_here, leads_then}
use Rattle.c_grammar.proofs.Found.Claims.{Complete, Is, ends_specs}
use Rattle.c_grammar.proofs.Found.TypeSteps.{goal_leads}
use Rattle.c_grammar.proofs.Found.TypeEnds.{closes_declarator, closes_specs}
use Rattle.c_grammar.proofs.Found.TypeFronts.{declarator_front, abstract_front}
use Rattle.c_grammar.proofs.Found.TypeRows.{specs_leads}
use Rattle.c_grammar.proofs.Found.Declarators.{absent_either, absent_unnamed}

-- specs, and then a declarator
module _ (k : SynKind) (mode : Mode) (names : Names) (a b c : List Token) (s x : Tree) where
  specs_declared : Complete names rule.specifiers a b s → Is (ends_specs names b)
      → ((e : ℕ) → Finds (declared_in e (below e) mode (after names s) b) e (height x) x c)
      → (d : ℕ)
      → Finds (and_then (specs_first d (below d) names a) (λ s rest. and_then ((below d).tree_of (reading.declared mode) (after names s) rest) (λ x end. found (plain_node k (start s) (two s x)) end)))
      d (height (plain_node k (start s) (two s x))) (plain_node k (start s) (two s x)) c
  unfolding goal_in
  specs_declared f ends finds d = leads_height _ d (suc (max (height s) (max (height x) 0))) _ _ (omega arith) (
      specs_leads names a b s f ends
      (λ r s rest. and_then (r.tree_of (reading.declared mode) (after names s) rest) (λ x end. found (plain_node k (start s) (two s x)) end))
      (max (height x) 0) (found (plain_node k (start s) (two s x)) c)
      (λ e. leads_then ((read e).tree_of (reading.declared mode) (after names s) b) (λ x end. found (plain_node k (start s) (two s x)) end) e (height x) 0 x c _
      (goal_leads e (reading.declared mode) (after names s) b (finds e)) (leads_here _ e)) d)

pub c_named_parameter : (names : Names) (a b c : List Token) (s x : Tree) → Complete names rule.specifiers a b s
    → Derives (after names s) rule.declarator b c x → Complete (after names s) rule.declarator b c x
    → Complete names rule.parameter a c (plain_node kind.Param (start s) (two s x))
unfolding parameter_in
c_named_parameter names a b c s x f l g ends d =
    specs_declared kind.Param either names a b c s x f ((declarator_front l).specs names) (λ e. (g (closes_declarator c ends) e).also) d

pub c_abstract_parameter : (names : Names) (a b c : List Token) (s x : Tree) → Complete names rule.specifiers a b s
    → Derives (after names s) rule.abstract_declarator b c x → Complete (after names s) rule.abstract_declarator b c x
    → Complete names rule.parameter a c (plain_node kind.Param (start s) (two s x))
unfolding parameter_in
c_abstract_parameter names a b c s x f l g ends d = specs_declared kind.Param either names a b c s x f ((abstract_front l).specs names) (λ e. (g ends e).also) d

pub c_bare_parameter : (names : Names) (a b : List Token) (s : Tree) → Complete names rule.specifiers a b s
    → Complete names rule.parameter a b (plain_node kind.Param (start s) (two s (no_name b)))
unfolding parameter_in
c_bare_parameter names a b s f ends d = specs_declared kind.Param either names a b b s (no_name b) f (closes_specs names b ends) (λ e. absent_either (after names s) b ends e) d

pub c_derived_type : (names : Names) (a b c : List Token) (s x : Tree) → Complete names rule.specifiers a b s
    → Derives (after names s) rule.abstract_declarator b c x → Complete (after names s) rule.abstract_declarator b c x
    → Complete names rule.type_name a c (plain_node kind.TypeName (start s) (two s x))
unfolding type_name_in
c_derived_type names a b c s x f l g ends d = specs_declared kind.TypeName unnamed names a b c s x f ((abstract_front l).specs names) (λ e. (g ends e).alone) d

pub c_bare_type : (names : Names) (a b : List Token) (s : Tree) → Complete names rule.specifiers a b s
    → Complete names rule.type_name a b (plain_node kind.TypeName (start s) (two s (no_name b)))
unfolding type_name_in
c_bare_type names a b s f ends d = specs_declared kind.TypeName unnamed names a b b s (no_name b) f (closes_specs names b ends) (λ e. absent_unnamed (after names s) b ends e) d
