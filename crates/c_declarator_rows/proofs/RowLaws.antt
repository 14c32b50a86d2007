-- What the nodes of declarations mean by their kinds, and rows of them.
use Rattle.std.proofs.Common.{◌≡◌, ℕ, ◌<◌, Bool, true, false, ◌||◌, List, [], Option, Some, None, length, refl, sym, ap, ◌∙◌, subst}
use Rattle.std.specs.Prelude.{Result, Ok, Err, if◌then◌else◌}
use Rattle.c_syntax.specs.declared.syntax.SynNode.{SynNode}
use Rattle.c_syntax.specs.declared.kind.SynKind.TheVariants as kind
use Rattle.c_grammar.specs.Vocabulary.{is_storage_word, is_type_word}
use Rattle.c_typing.specs.Types.{CType}
use Rattle.c_typing.specs.Places.{Node}
use Rattle.c_typing.specs.Names.{Name, denoted, is_typedef}
use Rattle.c_typing.specs.Judgements as rules
use Rattle.c_typing.specs.Judgements.{Judgement, Fault, a_struct, a_type, breaks_rules, declares, given, itself, layout_in, means, type_at, waits}
use Rattle.c_typing.specs.Declarators.{parameter_node, spec_word, type_name, typedef_type}
use Rattle.c_typing.specs.Expressions.{type_of_name}
use Rattle.c_typing.specs.Typing.{judged_by}
use Rattle.c_typing.proofs.ProgressKids.{tiled}
use Rattle.c_nodes.specs.Parents.{AreNumbered, nodes_in, tree_in}
use Rattle.c_names.specs.Denoted.{IsDerived, places_in}
use Rattle.c_type_ids.specs.Ids.{Grows, Known}
use Rattle.c_type_ids.proofs.TableLaws.{grows_same}
use Rattle.c_answers.specs.declared.refusal.Refusal.{Refusal}
use Rattle.c_judgements.specs.declared.judged.Judged.{Judged}
use Rattle.c_judgements.specs.declared.judged.Judged.TheVariants as judged
use Rattle.c_meanings.specs.declared.meanings.Meanings.{Meanings}
use Rattle.c_meanings.specs.Meanings.{AreLeft, IsAnswered, IsReady, IsRow, judged_at, judged_to, kid_in, node_in, slots_of}
use Rattle.c_meanings.proofs.KidLaws.{node_there}
use Rattle.c_meanings.proofs.MeaningLaws.{grown_row, is_struct_answer, nothing_taken}

-- ---- rows of nodes that are no structs with a body

alone_by : (k : Known) (answer : Result Judged Refusal) (j : Judgement) → layout_in j ≡ None → IsAnswered k answer j → is_struct_answer answer ≡ false
alone_by k (Ok (judged.Struct id)) (means (a_struct l)) none h = absurd (cc none)
alone_by k (Ok (judged.Struct id)) (means m) none (a, b, c) = absurd b
alone_by k (Ok (judged.Struct id)) (breaks_rules f fs) none (a, b, c) = absurd b
alone_by k (Ok (judged.Struct id)) waits none (a, b, c) = absurd b
alone_by k (Ok s) j none h = refl
alone_by k (Err r) j none h = refl

module _ (table : List SynNode) (n low : ℕ) where
  -- a row that has taken what it wants, and then makes types
  pub row_by : (old mid new : Meanings) (answer : Result Judged Refusal) (j : Judgement) → IsReady table n low mid → n < length table → AreLeft table n old mid → slots_of new ≡ slots_of mid → Grows mid.types new.types
      → judged_at table n ≡ j → layout_in j ≡ None → IsAnswered new.types answer j → IsRow table n old new answer
  row_by old mid new answer j r within left same grows is none answered =
      grown_row table n low old mid new answer r within left same grows (alone_by new.types answer j none answered) (subst (IsAnswered new.types answer) (sym is) answered)

  -- a row that takes nothing and makes no type
  pub still_row : (m : Meanings) (answer : Result Judged Refusal) (j : Judgement) → IsReady table n low m → n < length table → judged_at table n ≡ j → layout_in j ≡ None → IsAnswered m.types answer j → IsRow table n m m answer
  still_row m answer j r within is none answered = row_by m m m answer j r within (nothing_taken table n m) refl (grows_same m.types m.types refl) is none answered

-- ---- no layouts

pub no_type_layout : (o : Option CType) → layout_in (given o (λ t. means (a_type t))) ≡ None
no_type_layout None = refl
no_type_layout (Some t) = refl

pub no_declared_layout : (o : Option CType) → layout_in (given o (λ t. means (declares t))) ≡ None
no_declared_layout None = refl
no_declared_layout (Some t) = refl

pub no_typedef_layout : (js : List Judgement) (m : Node) (e : Option Name) → layout_in (typedef_type js m e) ≡ None
unfolding typedef_type
no_typedef_layout js m None = refl
no_typedef_layout js m (Some e) = by (is_typedef e.entity)
  where
    by : (b : Bool) → layout_in (if b then given (type_of_name js e) (λ t. means (a_type t)) else breaks_rules (rules.rule 1 m.id) []) ≡ None
    by true = no_type_layout (type_of_name js e)
    by false = refl

-- ---- each kind

module _ (table : List SynNode) (n : ℕ) where
  pub type_name_is : (node_in table n).label.kind ≡ kind.TypeName → judged_at table n ≡ given (type_at (judged_to table n) (kid_in table n 1)) (λ t. means (a_type t))
  unfolding judged_at judged_by type_name
  type_name_is is = ap (judged_by (places_in table) (judged_to table n) (node_in table n)) is

  pub parameter_is : (node_in table n).label.kind ≡ kind.Param → judged_at table n ≡ given (type_at (judged_to table n) (kid_in table n 1)) (λ t. means (declares t))
  unfolding judged_at judged_by parameter_node
  parameter_is is = ap (judged_by (places_in table) (judged_to table n) (node_in table n)) is

  -- a word, by whether it is a keyword
  abbrev word_by : (b : Bool) → Judgement
  word_by b = if b then means itself else typedef_type (judged_to table n) (node_in table n) (denoted (places_in table).names (node_in table n).id (node_in table n).label.text)

  word_is : (node_in table n).label.kind ≡ kind.Word → judged_at table n ≡ word_by (is_storage_word (node_in table n).label.text || is_type_word (node_in table n).label.text)
  unfolding judged_at judged_by spec_word
  word_is is = ap (judged_by (places_in table) (judged_to table n) (node_in table n)) is

  module _ (is : (node_in table n).label.kind ≡ kind.Word) (text : List ℕ) (same : text ≡ (node_in table n).label.text) (b : Bool) (told : b ≡ (is_storage_word text || is_type_word text)) where
    by_text : judged_at table n ≡ word_by b
    by_text = word_is is ∙ ap word_by (ap (λ t. is_storage_word t || is_type_word t) (sym same) ∙ sym told)

    pub keyword_is : b ≡ true → judged_at table n ≡ means itself
    keyword_is e = by_text ∙ ap word_by e

    pub name_word_is : b ≡ false → judged_at table n ≡ typedef_type (judged_to table n) (node_in table n) (denoted (places_in table).names (node_in table n).id (node_in table n).label.text)
    name_word_is e = by_text ∙ ap word_by e

-- ---- numbers of nodes

pub all_numbered : (table : List SynNode) → IsDerived table → AreNumbered (nodes_in table)
unfolding nodes_in
all_numbered table d = λ n within. (tiled d.tokens (tree_in table) d.derived n (node_in table n) (node_there table n d within)).numbered

pub numbered_here : (table : List SynNode) (n : ℕ) → IsDerived table → length (nodes_in table) ≡ length table → n < length table → (node_in table n).id ≡ n
numbered_here table n d long within = all_numbered table d n (subst (λ k. n < k) (sym long) within)

pub within_nodes : (table : List SynNode) (n low : ℕ) (m : Meanings) → IsReady table n low m → n < length table → n < length (nodes_in table)
within_nodes table n low m r within = subst (λ k. n < k) (sym r.nodes) within
