-- What specs say, by their trees.
use Rattle.std.proofs.Common.{◌≡◌, ℕ, Bool, true, false, ◌||◌, not, List, ◌++◌, codes, if◌then◌else◌, bytes_eq, refl, sym, ap, ◌∙◌, true≢false}
use Rattle.std.proofs.lemmas.List.{append-nil}
use Rattle.c_syntax.specs.declared.kind.SynKind.{SynKind}
use Rattle.c_syntax.specs.declared.kind.SynKind.TheVariants as kind
use Rattle.c_syntax.specs.Trees.{Tree, Forest, none, text_node}
use Rattle.c_grammar.specs.Vocabulary.{is_storage_word}
use Rattle.c_grammar.specs.Scopes.{Names, add, after, entry, entries_by, first_entries, later_entries, declares_types, entries_behind, says_type_by, is_word_by}
use Rattle.c_parts.specs.declared.specifier.Specifier.{Specifier}
use Rattle.c_parts.specs.declared.specifier.Tagged.{Tagged}
use Rattle.c_parts.specs.declared.specifier.Tagged.TheVariants.{Struct, Enum}
use Rattle.c_parts.specs.Kinds.{kind_of}
use Rattle.c_parts.specs.Nodes.{declares_nothing}
use Rattle.c_parts.specs.Says.{IsSpecifier}
use Rattle.c_parts.proofs.NameLaws.{add_joined}

pub or_false : (b : Bool) → b ≡ b || false
or_false true = refl
or_false false = refl

-- one of the specs says `typedef`, or another
pub or_first : (a b : Bool) → a ≡ true → a ≡ a || b
or_first true b e = refl
or_first false b e = absurd (true≢false (sym e))

pub or_second : (a b : Bool) → a ≡ false → b ≡ a || b
or_second true b e = absurd (true≢false e)
or_second false b e = refl

not_is : (a b : Bool) → a ≡ b → not a ≡ (if b then false else true)
not_is true true e = refl
not_is false false e = refl
not_is true false e = ap not e
not_is false true e = ap not e

-- a word among specs
pub word_says : (text : List ℕ) (start : ℕ) (x : Specifier) (stores types : Bool) → stores ≡ is_storage_word text → types ≡ bytes_eq text (codes "typedef") → x.says_type ≡ not stores → x.is_typedef ≡ types
    → IsSpecifier (text_node kind.Word text start none) x
word_says text start x stores types s t a b = record {
  type_is = a ∙ not_is stores (is_storage_word text) s;
  typedef_is = b ∙ t ∙ or_false (bytes_eq text (codes "typedef"));
}

-- ---- structs and enums

pub tagged_quiet : (tagged : Tagged) → declares_nothing (kind_of tagged) ≡ true
tagged_quiet Struct = refl
tagged_quiet Enum = refl

pub tagged_says : (tagged : Tagged) (t : Tree) (x : Specifier) → t.label.kind ≡ kind_of tagged → x.says_type ≡ true → x.is_typedef ≡ false → IsSpecifier t x
tagged_says tagged t x is a b = record {
  type_is = a ∙ says tagged ∙ ap (λ k. says_type_by k t.label.text) (sym is);
  typedef_is = b ∙ silent tagged ∙ ap (λ k. is_word_by k (bytes_eq t.label.text (codes "typedef")) || false) (sym is);
}
  where
    says : (tagged : Tagged) → true ≡ says_type_by (kind_of tagged) t.label.text
    says Struct = refl
    says Enum = refl

    silent : (tagged : Tagged) → false ≡ is_word_by (kind_of tagged) (bytes_eq t.label.text (codes "typedef")) || false
    silent Struct = refl
    silent Enum = refl

-- ---- enumerators

enumerator_entries : (k : SynKind) (text : List ℕ) (kids : Forest) → k ≡ kind.Enumer
    → entries_by k text false kids (first_entries (declares_types k kids) kids) (later_entries (declares_types k kids) kids) ≡ entries_behind false kids ++ entry text false
enumerator_entries k text kids e = rw e refl

-- an enumerator declares its name behind its value
pub after_enumerator : (names : Names) (t : Tree) (text : List ℕ) → t.label.kind ≡ kind.Enumer → t.label.text ≡ text
    → add (add names (entries_behind false t.kids)) (entry text false) ≡ after names t
after_enumerator names t text k e =
    add_joined names (entries_behind false t.kids) (entry text false)
    ∙ ap (λ (x : List ℕ). add names (entries_behind false t.kids ++ entry x false)) (sym e)
    ∙ ap (add names) (sym (append-nil _ ∙ enumerator_entries t.label.kind t.label.text t.kids k))
