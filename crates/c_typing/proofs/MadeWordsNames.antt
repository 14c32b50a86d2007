-- The names of functions are identifiers, where the tokens are those of some bytes.
use Rattle.std.proofs.Common.{◌≡◌, ℕ, zero, suc, ◌+◌, List, [], ◌∷◌, map, Some, sym, ◌∙◌, subst, true}
use Rattle.std.specs.Prelude.{slice_get, filter_map}
use Rattle.std.specs.List.{AllByRecursion}
use Rattle.c_lexer.specs.declared.token.Token.{Token}
use Rattle.c_lexer.specs.Spellings.{is_word}
use Rattle.c_lexer.specs.Tokens.{HasTokens}
use Rattle.c_syntax.specs.declared.kind.SynKind.TheVariants as kind
use Rattle.c_syntax.specs.Trees.{Tree, Forest, none, tree, one}
use Rattle.c_syntax.specs.Tables.{size}
use Rattle.c_grammar.specs.Derivation.{IsTreeOf}
use Rattle.c_types.specs.declared.tree.Func.{Func}
use Rattle.c_types.specs.WellMade.{function_names, IsIdentifier}
use Rattle.c_typing.specs.Places.{Node, nodes, nodes_of}
use Rattle.c_typing.specs.Names.{places}
use Rattle.c_typing.specs.Typing.{judgements_at, defined_in, unit_in}
use Rattle.c_typing.proofs.MadeFunctions.{functions_more}
use Rattle.c_typing.proofs.MadeDefined.{Defined, all_defined}
use Rattle.c_typing.proofs.MadeFunctionNames.{function_name_of}
use Rattle.c_typing.proofs.MadeTexts.{text_is}
use Rattle.c_typing.proofs.MadeWords.{all-append, tokens_spelled, is_identifier}
use Rattle.c_typing.proofs.MadeWordsTrees.{IsNamed, AreNamed, tree_named}

-- ---- nodes

abbrev HasName : Node → Type 0
HasName m = IsNamed m.label.kind m.label.text

nodes_named : (first parent : ℕ) (f : Forest) → AreNamed f → AllByRecursion HasName (nodes_of first parent f)
unfolding AreNamed
nodes_named first parent none h = tt
nodes_named first parent (tree label kids rest) h =
    let id = first + size kids in
    all-append HasName (nodes_of first id kids) _ (nodes_named first id kids h.1) (h.0, nodes_named (id + 1) parent rest h.2)

all_at : {A : Type 0} (P : A → Type 0) (xs : List A) (i : ℕ) (x : A) → AllByRecursion P xs → slice_get xs i ≡ Some x → P x
all_at P [] i x h e = absurd (cc e)
all_at {A} P (y ∷ xs) zero x h e = subst P (same y x e) h.0
  where
    same : (a b : A) → Some a ≡ Some b → a ≡ b
    same a b e = cc e
all_at P (y ∷ xs) (suc i) x h e = all_at P xs i x h.1 e

-- ---- functions

names_of : (P : List ℕ → Type 0) (fs : List Func) → AllByRecursion (λ (f : Func). P f.name) fs → AllByRecursion P (map (λ (f : Func). f.name) fs)
names_of P [] h = tt
names_of P (f ∷ fs) h = (h.0, names_of P fs h.1)

module _ (tokens : List Token) (t : Tree) (derived : IsTreeOf tokens t) (all : AreNamed (one t)) where
  node_named : (n : ℕ) (m : Node) → slice_get (nodes t) n ≡ Some m → m.label.kind ≡ kind.Ident → is_word m.label.text ≡ true
  node_named n m e is =
      subst (λ k. IsNamed k m.label.text) is (all_at HasName (nodes t) n m (nodes_named 0 (size (one t)) (one t) all) e)

  function_named : (f : Func) → Defined t f → IsIdentifier f.name
  function_named f d =
      let n = function_name_of tokens t derived d.place d.node d.there d.is_function in
      let is = text_is tokens t derived f d n ∙ n.text in
      subst IsIdentifier (sym is) (is_identifier n.ident.label.text (node_named n.low.first n.ident n.at_first n.is_ident))

  functions_named : AllByRecursion IsIdentifier (map (λ (f : Func). f.name) (filter_map defined_in (judgements_at (places t))))
  functions_named = names_of IsIdentifier (filter_map defined_in (judgements_at (places t)))
      (functions_more (Defined t) (λ (f : Func). IsIdentifier f.name) (filter_map defined_in (judgements_at (places t))) function_named (all_defined t))

-- where the tokens are those of some bytes
pub identifiers : (bytes : List ℕ) (tokens : List Token) (t : Tree) → HasTokens bytes tokens → IsTreeOf tokens t → AllByRecursion IsIdentifier (function_names (unit_in (places t) (judgements_at (places t))))
identifiers bytes tokens t lexed derived = functions_named tokens t derived (tree_named tokens t derived (tokens_spelled bytes tokens lexed))
