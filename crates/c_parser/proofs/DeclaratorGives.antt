-- A declarator that has been read, and the suffix behind another.
use Rattle.std.proofs.Common.{◌≡◌, ℕ, ◌<◌, ◌≤◌, Bool, true, false, List, [], map, length, if◌then◌else◌, Result, Ok, Err, refl, sym, ap, ◌∙◌, subst, arith, true≢false}
use Rattle.c_syntax.specs.declared.kind.SynKind.{SynKind}
use Rattle.c_syntax.specs.declared.kind.SynKind.TheVariants as kind
use Rattle.c_syntax.specs.Trees.{Tree, Forest, none, tree, ◌then◌, one, plain_node, height}
use Rattle.c_syntax.specs.Tables.{stack_of}
use Rattle.c_lexer.specs.declared.token.Token.{Token}
use Rattle.c_grammar.specs.Answers.{Answer, found}
use Rattle.c_grammar.specs.Scopes.{Names, add, after, entries_behind, parameter_entries, parameters_of, parameters_by, is_bare_name, is_bare_by}
use Rattle.c_scopes.specs.ScopeLog.{entry_of}
use Rattle.c_parts.specs.declared.budget.Stop.{Stop}
use Rattle.c_parts.specs.declared.budget.Stop.TheVariants.{OutOfMemory}
use Rattle.c_parts.specs.declared.declarator.Declarator.{Declarator}
use Rattle.c_parts.specs.Pushed.{PushesDeclarator}
use Rattle.c_parts.proofs.NameLaws.{add_nothing, after_row}
use Rattle.c_parser.specs.declared.parser.Parser.{Parser}
use Rattle.c_parser.specs.Gives.{Gives, Stops, Keeps, SaysDeclarator, SaysSuffixed}

-- a stop for want of memory
pub memory_stops : {T : Type 0} (whole : Answer T) (rest : List Token) (s : Stop) → s ≡ OutOfMemory → Stops whole rest s
memory_stops whole rest s e = subst (Stops whole rest) (sym e) tt

-- a declarator is put onto the stack, or memory is refused
pub declarator_made : (whole : Answer Tree) (next : Tree → Names) (t : Tree) (under : List Tree) (budget most : ℕ) (p : Parser) (r : Result Declarator Stop)
    → PushesDeclarator t under (stack_of p.trees) r → whole ≡ found t p.rest.now → p.names ≡ next t → map entry_of p.parameters.items ≡ parameter_entries (parameters_of (one t))
    → height t ≤ budget → length p.rest.now < most → Gives (λ d. d.part) (SaysDeclarator p) whole next under budget most p r
declarator_made whole next t under budget most p (Ok x) h f n e low shorter = record {
  tree = t;
  found_is = f;
  read = record { names_are = n; pushed = h.0 };
  said = record { itself_is = h.1; parameters_are = e };
  low = let e = h.0.height_is in omega (arith, e, low);
  shorter = shorter;
}
declarator_made whole next t under budget most p (Err stop) h f n e low shorter = memory_stops whole p.rest.now stop h

-- the same of a declarator with one suffix more
pub suffix_made : (whole : Answer Tree) (next : Tree → Names) (x t : Tree) (under : List Tree) (budget most : ℕ) (p : Parser) (r : Result Declarator Stop)
    → PushesDeclarator t under (stack_of p.trees) r → whole ≡ found t p.rest.now → p.names ≡ next t → map entry_of p.parameters.items ≡ parameter_entries (parameters_of (one t))
    → height x < height t → height t ≤ budget → length p.rest.now < most → Gives (λ d. d.part) (SaysSuffixed p x) whole next under budget most p r
suffix_made whole next x t under budget most p (Ok y) h f n e higher low shorter = record {
  tree = t;
  found_is = f;
  read = record { names_are = n; pushed = h.0 };
  said = record { itself_is = record { itself_is = h.1; parameters_are = e }; higher = higher };
  low = let e = h.0.height_is in omega (arith, e, low);
  shorter = shorter;
}
suffix_made whole next x t under budget most p (Err stop) h f n e higher low shorter = memory_stops whole p.rest.now stop h

-- ---- the parameters next to a name

-- a name alone has none
pub bare_without : (f : Forest) → is_bare_name f ≡ true → parameters_of f ≡ none
bare_without none e = refl
bare_without (tree label kids rest) e = by label.kind (bare_without kids) e
  where
    by : (k : SynKind) → (is_bare_name kids ≡ true → parameters_of kids ≡ none) → is_bare_by k (is_bare_name kids) ≡ true → parameters_by k kids (parameters_of kids) ≡ none
    by kind.Ident deeper e = refl
    by kind.Paren deeper e = deeper e
    by other deeper e = absurd (true≢false (sym e))

-- behind a name alone, and behind another declarator that has some
pub parameters_nothing : (start : ℕ) (x : Tree) → parameters_of (one (plain_node kind.Takes start (one x))) ≡ parameters_of (one x)
parameters_nothing start x = by (is_bare_name (one x)) refl
  where
    by : (b : Bool) → is_bare_name (one x) ≡ b → (if b then none else parameters_of (one x)) ≡ parameters_of (one x)
    by true e = sym (bare_without (one x) e)
    by false e = refl

-- where nothing but the place has changed, and the node has the same ones
pub parameters_on : (p q : Parser) (x t : Tree) → Keeps p q → map entry_of p.parameters.items ≡ parameter_entries (parameters_of (one x)) → parameters_of (one t) ≡ parameters_of (one x)
    → map entry_of q.parameters.items ≡ parameter_entries (parameters_of (one t))
parameters_on p q x t kept e same = ap (λ parameters. map entry_of parameters.items) kept.parameters_are ∙ e ∙ ap parameter_entries (sym same)

-- parameters declare nothing behind their declarator
pub after_silent : (names : Names) (x : Tree) (start : ℕ) (ts : Forest) → entries_behind false ts ≡ [] → after names x ≡ after names (plain_node kind.Takes start (x then ts))
after_silent names x start ts silent =
    sym (after_row names kind.Takes [] start x ts refl ∙ ap (add (after names x)) silent ∙ add_nothing (after names x))
