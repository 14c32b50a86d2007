-- Where declarations, statements or initializers in a row go too deep, the tokens before the place are completed, where the
-- next lower budget reads so.
use Rattle.std.proofs.Common.{◌≡◌, ℕ, zero, suc, Bool, false, List, [], ◌∷◌, length, if◌then◌else◌, refl}
use Rattle.c_lexer.specs.declared.token.Punct.TheVariants.{RightBrace, Semicolon}
use Rattle.c_lexer.specs.declared.token.Token.{Token}
use Rattle.c_syntax.specs.Trees.{Tree, Forest, ◌then◌, one}
use Rattle.c_grammar.specs.Scopes.{Names, add, after, entries_behind}
use Rattle.c_grammar.specs.Derivation as rule
use Rattle.c_grammar.specs.Derivation.{Derives, Lists, Standing, start}
use Rattle.c_grammar.specs.Answers.{Answer}
use Rattle.c_grammar.specs.Reading.{Reader, begins_specifier, begins_with_mark, initializer_in, init_declarator_in, listed, listed_in_braces, items_in, begins_label, ends_groups, standing_behind, group_item_in, groups_in, externals_by, externals_in, declarators_behind}
use Rattle.c_grammar.proofs.SoundSteps.{Is, says_if}
use Rattle.c_grammar.proofs.SoundExpressions.{IsSound, says_as}
use Rattle.c_grammar.proofs.Sound.{IsGroupItem, item_label, item_statement, group_item_first, labelled_where, group_item_sound}
use Rattle.c_grammar.proofs.SoundStatements.{initializer_sound, init_declarator_sound, declaration_sound, statement_sound, external_sound}
use Rattle.c_grammar.proofs.FrontLaw.{front_of}
use Rattle.c_grammar.proofs.FrontSteps.{front_map}
use Rattle.c_grammar.specs.Fronts.{IsFront}
use Rattle.c_grammar.proofs.TooDeep.Steps.{Has, has, Cuts, cuts_found, cuts_wrong, cuts_as, cuts_if, Behind, cuts_tail, cuts_next, cuts_then, cuts_last}
use Rattle.c_grammar.proofs.TooDeep.Parts.{HasCuts, EndsBehind, a_mark}
use Rattle.c_grammar.proofs.TooDeep.Moves.{declarators_behind_cuts}
use Rattle.c_grammar.proofs.TooDeep.Rows.{listed_cuts, listed_in_braces_cuts}
use Rattle.c_grammar.proofs.TooDeep.Expressions.{cuts_part}
use Rattle.c_grammar.proofs.TooDeep.Declarations.{initializer_cuts, init_declarator_cuts, declaration_cuts, external_cuts}
use Rattle.c_grammar.proofs.TooDeep.Statements.{statement_cuts, label_cuts}

module _ (d : ℕ) (r : Reader) (sound : IsSound d r) (cuts : HasCuts d r) where
  pub initializers_cuts : (names : Names) (ts : List Token)
      → Cuts (Has (Lists names rule.initializers)) ts (listed_in_braces d r (initializer_in d r) (suc (length ts)) names ts)
  initializers_cuts names ts = listed_in_braces_cuts d r
      (λ ns. Derives ns rule.initializer) (λ ns. Lists ns rule.initializers) (initializer_in d r)
      (initializer_cuts d r sound cuts)
      (initializer_sound d r sound)
      (λ ns a b t. front_of)
      (λ ns a b t. rule.last_initializer)
      (λ ns a b c at t ts. rule.more_initializers)
      (suc (length ts)) names ts

  -- ---- initialized declarators

  pub init_declarators_cuts : (is_typedef : Bool) (k : ℕ) (names : Names) (ts : List Token)
      → Cuts (Has (Lists names (rule.init_declarators is_typedef))) ts (listed d r (init_declarator_in d r is_typedef) (λ ns t. add ns (entries_behind is_typedef (one t))) k names ts)
  init_declarators_cuts is_typedef = listed_cuts d r
      (λ ns. Derives ns (rule.init_declarator is_typedef)) (λ ns. Lists ns (rule.init_declarators is_typedef)) (init_declarator_in d r is_typedef) (λ ns t. add ns (entries_behind is_typedef (one t)))
      (init_declarator_cuts d r sound cuts is_typedef)
      (init_declarator_sound d r sound is_typedef)
      (λ ns a b t. front_of)
      (λ ns a b t. rule.last_init_declarator)
      (λ ns a b c at t ts. rule.more_init_declarators)

  pub behind_cuts : (is_typedef : Bool) (x : Tree) (names : Names) (ts : List Token) → Cuts (EndsBehind is_typedef x names) ts (declarators_behind d r is_typedef x names ts)
  behind_cuts is_typedef x names ts = declarators_behind_cuts d r sound is_typedef x cuts (λ ns k us. init_declarators_cuts is_typedef k ns us) names ts

  -- ---- items of a block

  -- a declaration or a statement
  data IsItem (names : Names) (a b : List Token) (t : Tree) : Type 0 where
    is_declaration : Derives names rule.declaration a b t → IsItem names a b t
    is_statement : Derives names rule.statement a b t → IsItem names a b t

  item_first : {names : Names} {a b c : List Token} {t : Tree} {us : Forest} → IsItem names a b t → Lists (after names t) rule.block_items b c us → Lists names rule.block_items a c (t then us)
  item_first (is_declaration h) i = rule.declaration_first h i
  item_first (is_statement h) i = rule.statement_first h i

  item_front : {names : Names} {a b : List Token} {t : Tree} → IsItem names a b t → IsFront (λ x y. IsItem names x y t) a b
  item_front (is_declaration h) = front_map (front_of h) (λ x y. is_declaration)
  item_front (is_statement h) = front_map (front_of h) (λ x y. is_statement)

  pub items_cuts : (k : ℕ) (names : Names) (ts : List Token) → Cuts (Has (Lists names rule.block_items)) ts (items_in d r k names ts)
  unfolding items_in
  items_cuts zero names ts = cuts_wrong
  items_cuts (suc k) names ts = cuts_if (begins_with_mark RightBrace ts)
      (λ e. cuts_found)
      (λ e. cuts_then {S = IsItem names}
      (cuts_if (begins_specifier false names ts)
      (λ _. cuts_part {S = Derives names rule.declaration} {S2 = IsItem names} (λ a z t. is_declaration) (declaration_cuts d r sound cuts names ts))
      (λ _. cuts_part {S = Derives names rule.statement} {S2 = IsItem names} (λ a z t. is_statement) (statement_cuts d r sound cuts names ts)))
      (says_if {Q = Is (suc d) (IsItem names) ts} (begins_specifier false names ts)
      (λ _. says_as {S = IsItem names} (λ t b. is_declaration) (declaration_sound d r sound names ts))
      (λ _. says_as {S = IsItem names} (λ t b. is_statement) (statement_sound d r sound names ts)))
      (λ t b g. item_front g.holds)
      [] (λ z h. h) (λ z _ a t g. has _ (item_first g rule.no_items))
      (λ t rest g. cuts_last {S = Lists (after names t) rule.block_items} (items_cuts k (after names t) rest)
      [] (λ z h. h) (λ z _ b us h a i. has _ (item_first i h))
      (λ us end. cuts_found)))

  -- ---- the groups of a `switch`

  group_item_front : {standing next : Standing} {names : Names} {a b : List Token} {t : Tree} → IsGroupItem standing names a b t next → IsFront (λ x y. IsGroupItem standing names x y t next) a b
  group_item_front (item_label h) = front_map (front_of h) (λ x y. item_label)
  group_item_front (item_statement e h) = front_map (front_of h) (λ x y. item_statement e)

  -- behind a label, `;` is the least statement
  group_item_cuts : (standing : Standing) (names : Names) (ts : List Token) → ends_groups standing ts ≡ false → Cuts (Has (Lists names (rule.groups standing))) ts (group_item_in d r names ts)
  unfolding group_item_in
  group_item_cuts standing names ts e = cuts_if (begins_label ts)
      (λ _. cuts_tail (a_mark Semicolon ∷ []) (label_cuts d r sound cuts names ts) (λ z _. refl)
      (λ z _ a g. has _ (rule.label_first g.holds (rule.labelled_statement refl rule.empty_statement (rule.no_more_groups refl)))))
      (λ f. cuts_as (λ a z g. has _ (rule.labelled_statement (labelled_where standing ts e f) g.holds (rule.no_more_groups refl))) (statement_cuts d r sound cuts names ts))

  pub groups_cuts : (k : ℕ) (standing : Standing) (names : Names) (ts : List Token) → Cuts (Has (Lists names (rule.groups standing))) ts (groups_in d r k standing names ts)
  unfolding groups_in
  groups_cuts zero standing names ts = cuts_wrong
  groups_cuts (suc k) standing names ts = cuts_if (ends_groups standing ts)
      (λ _. cuts_found)
      (λ e. cuts_next {S = λ a b t. IsGroupItem standing names a b t (standing_behind ts)}
      (group_item_cuts standing names ts e)
      (group_item_sound d r sound standing names ts e)
      (λ t b g. group_item_front g.holds)
      (λ t rest g. cuts_last {S = Lists (after names t) (rule.groups (standing_behind ts))} (groups_cuts k (standing_behind ts) (after names t) rest)
      [] (λ z h. h) (λ z _ b us h a i. has _ (group_item_first i h))
      (λ us end. cuts_found)))

  -- ---- external declarations

  externals_cuts_by : {names : Names} (t : Tree) (rest : List Token) (deeper : Answer Forest)
      → Cuts (Has (Lists (after names t) rule.externals)) rest deeper
      → Cuts (Behind (Derives names rule.external) t (Has (Lists names rule.externals))) rest (externals_by d r t rest deeper)
  unfolding externals_by
  externals_cuts_by t [] deeper c = cuts_found
  externals_cuts_by {names} t (next ∷ rest) deeper c = cuts_last {S = Lists (after names t) rule.externals} c
      [] (λ z h. h) (λ z _ b us h a g. has _ (rule.more_externals g h))
      (λ us end. cuts_found)

  pub externals_cuts : (k : ℕ) (names : Names) (ts : List Token) → Cuts (Has (Lists names rule.externals)) ts (externals_in d r k names ts)
  unfolding externals_in
  externals_cuts zero names ts = cuts_wrong
  externals_cuts (suc k) names ts = cuts_then {S = Derives names rule.external}
      (external_cuts d r sound cuts names ts)
      (external_sound d r sound names ts)
      (λ t b g. front_of g.holds)
      [] (λ z h. h) (λ z _ a t g. has _ (rule.last_external g))
      (λ t rest g. externals_cuts_by t rest (externals_in d r k (after names t) rest) (externals_cuts k (after names t) rest))
