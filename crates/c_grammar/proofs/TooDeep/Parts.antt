-- The parts that a reader reads within the next lower budget, where its places are completed; their fronts; and the least
-- parts that complete others.
use Rattle.std.proofs.Common.{◌≡◌, ℕ, zero, suc, ◌<◌, ◌≤◌, Bool, true, false, ◌&&◌, List, [], ◌∷◌, ◌++◌, length, refl, sym, ap, subst, true≢false, codes}
use Rattle.c_lexer.specs.declared.token.IntType.TheVariants as type
use Rattle.c_lexer.specs.declared.token.Punct.{Punct}
use Rattle.c_lexer.specs.declared.token.Punct.TheVariants.{Semicolon}
use Rattle.c_lexer.specs.declared.token.Token.{Token}
use Rattle.c_lexer.specs.declared.token.TokenKind.{TokenKind}
use Rattle.c_lexer.specs.declared.token.TokenKind.TheVariants as token
use Rattle.c_syntax.specs.declared.kind.SynKind.TheVariants as kind
use Rattle.c_syntax.specs.Trees.{Tree, Forest, none, one, plain_node, int_node, text_node}
use Rattle.c_grammar.specs.Vocabulary.{Place, mark, word, integer}
use Rattle.c_grammar.specs.Scopes.{Names, is_typedef_name}
use Rattle.c_grammar.specs.Derivation as rule
use Rattle.c_grammar.specs.Derivation.{Derives, Lists, begins_with_typedef_name, is_typedef_token}
use Rattle.c_grammar.specs.Fronts.{IsFront}
use Rattle.c_grammar.specs.Answers.{Answer, and_then}
use Rattle.c_grammar.specs.Reading.{Reader, Goal, Rows, Mode}
use Rattle.c_grammar.specs.Meanings.{IsTree, AreTrees, IsBody, body_of, IsDeclared, with_name, without_name, absent}
use Rattle.c_grammar.proofs.FrontSteps.{front_here, front_map, front_token, front_end, same_start}
use Rattle.c_grammar.proofs.FrontLaw.{front_of, fronts_of}
use Rattle.c_grammar.proofs.SoundExpressions.{IsSound}
use Rattle.c_grammar.proofs.TooDeep.Steps.{Closing, Has, Cuts, Behind, cuts_then, cuts_next, cuts_tail, cuts_longer, is_name_token}

-- ---- goals

-- its tree has a token, whatever is read
abbrev pub takes_token : Goal → Bool
takes_token (Goal.declared Mode.unnamed) = false
takes_token (Goal.declared Mode.either) = false
takes_token Goal.optional_expression = false
takes_token (Goal.init_behind is_typedef x) = false
takes_token other = true

-- it says what its own tokens are
abbrev pub stands_alone : Goal → Bool
stands_alone (Goal.init_behind is_typedef x) = false
stands_alone other = true

abbrev pub stand_alone : Rows → Bool
stand_alone (Rows.init_declarators_behind is_typedef x) = false
stand_alone other = true

takes_alone : (goal : Goal) → takes_token goal ≡ true → stands_alone goal ≡ true
takes_alone (Goal.init_behind is_typedef x) e = e
takes_alone other e = refl

-- what completes declarators from behind the first of them, x, has the semicolon behind them too
abbrev pub EndsBehind : Bool → Tree → Names → List Token → List Token → Type 0
EndsBehind is_typedef x names b z = (a : List Token) → Derives names rule.declarator a b x → (at : Place) × Has (Lists names (rule.init_declarators is_typedef)) a (mark Semicolon at ∷ z)

-- the places of a reader, below d, are completed; a part that may have no token is read within a budget of 1 at least
pub record HasCuts (d : ℕ) (r : Reader) : Type 0 where
  pub tree : (goal : Goal) → takes_token goal ≡ true → (names : Names) (ts : List Token) → Cuts (Has (IsTree goal names)) ts (r.tree_of goal names ts)
  pub any : (goal : Goal) → stands_alone goal ≡ true → 2 ≤ d → (names : Names) (ts : List Token) → Cuts (Has (IsTree goal names)) ts (r.tree_of goal names ts)
  pub trees : (row : Rows) → stand_alone row ≡ true → (names : Names) (ts : List Token) → Cuts (Has (AreTrees row names)) ts (r.trees_of row names ts)
  pub behind : (is_typedef : Bool) (x : Tree) (names : Names) (ts : List Token) → Cuts (EndsBehind is_typedef x names) ts (r.trees_of (Rows.init_declarators_behind is_typedef x) names ts)

-- ---- fronts

declared_front : {mode : Mode} {names : Names} {a b : List Token} {t : Tree} → IsDeclared mode names a b t → IsFront (λ x y. IsDeclared mode names x y t) a b
declared_front (with_name h t) = front_map (front_of t) (λ x y. with_name h)
declared_front (without_name h t) = front_map (front_of t) (λ x y. without_name h)
declared_front {mode} {names} {b = b} (absent h) =
    let tree : ℕ → Tree = λ n. plain_node kind.NoName n none in
    front_here (λ c e. subst (λ n. IsDeclared mode names c c (tree n)) (same_start c b e) (absent h))

body_front : {names : Names} {a b : List Token} {t : Tree} → IsBody names a b t → IsFront (λ x y. IsBody names x y t) a b
body_front (body_of ts) = front_token (front_map (front_end (fronts_of ts)) (λ x y. body_of))

pub tree_front : (goal : Goal) → stands_alone goal ≡ true → (names : Names) (a b : List Token) (t : Tree) → IsTree goal names a b t → IsFront (λ x y. IsTree goal names x y t) a b
tree_front Goal.external e names a b t h = front_of h
tree_front Goal.declaration e names a b t h = front_of h
tree_front (Goal.init_declarator is_typedef) e names a b t h = front_of h
tree_front (Goal.init_behind is_typedef x) e names a b t h = absurd (true≢false (sym e))
tree_front Goal.initializer e names a b t h = front_of h
tree_front Goal.specifiers e names a b t h = front_of h
tree_front (Goal.specifier typed) e names a b t h = front_of h
tree_front Goal.member e names a b t h = front_of h
tree_front Goal.enumerator e names a b t h = front_of h
tree_front (Goal.declared mode) e names a b t h = declared_front h
tree_front Goal.parameter e names a b t h = front_of h
tree_front Goal.type_name e names a b t h = front_of h
tree_front Goal.body e names a b t h = body_front h
tree_front Goal.statement e names a b t h = front_of h
tree_front Goal.optional_expression e names a b t h = front_of h
tree_front Goal.expression e names a b t h = front_of h
tree_front Goal.assignment e names a b t h = front_of h
tree_front Goal.conditional e names a b t h = front_of h
tree_front (Goal.binary n) e names a b t h = front_of h
tree_front Goal.cast e names a b t h = front_of h
tree_front Goal.unary e names a b t h = front_of h

pub trees_front : (row : Rows) → stand_alone row ≡ true → (names : Names) (a b : List Token) (ts : Forest) → AreTrees row names a b ts → IsFront (λ x y. AreTrees row names x y ts) a b
trees_front Rows.externals e names a b t h = fronts_of h
trees_front (Rows.init_declarators is_typedef) e names a b t h = fronts_of h
trees_front (Rows.init_declarators_behind is_typedef x) e names a b t h = absurd (true≢false (sym e))
trees_front Rows.initializers e names a b t h = fronts_of h
trees_front (Rows.specifier_list typed) e names a b t h = fronts_of h
trees_front Rows.members e names a b t h = fronts_of h
trees_front Rows.declarators e names a b t h = fronts_of h
trees_front Rows.enumerators e names a b t h = fronts_of h
trees_front Rows.parameters e names a b t h = fronts_of h
trees_front Rows.block_items e names a b t h = fronts_of h
trees_front Rows.groups e names a b t h = fronts_of h
trees_front Rows.arguments e names a b t h = fronts_of h
trees_front Rows.optional_length e names a b t h = fronts_of h

-- ---- what a reader reads, and then more

module _ (d : ℕ) (r : Reader) (sound : IsSound d r) (cuts : HasCuts d r) where
  pub cuts_tree : {U : Type 0} {R : List Token → List Token → Type 0} {go : Tree → List Token → Answer U}
      → (goal : Goal) → takes_token goal ≡ true → (names : Names) (ts tail : List Token)
      → ((z : List Token) → Closing z → Closing (tail ++ z))
      → ((z : List Token) → Closing z → (a : List Token) (t : Tree) → IsTree goal names a (tail ++ z) t → R a z)
      → ((t : Tree) (b : List Token) → Cuts (Behind (IsTree goal names) t R) b (go t b))
      → Cuts R ts (and_then (r.tree_of goal names ts) go)
  cuts_tree goal e names ts tail closing join next = cuts_then {S = IsTree goal names}
      (cuts.tree goal e names ts)
      (sound.tree goal names ts)
      (λ t b g. tree_front goal (takes_alone goal e) names ts b t g.holds)
      tail closing join
      (λ t b g. next t b)

  -- the same for a part that may have no token
  pub cuts_any_tree : {U : Type 0} {R : List Token → List Token → Type 0} {go : Tree → List Token → Answer U}
      → (goal : Goal) → stands_alone goal ≡ true → 2 ≤ d → (names : Names) (ts tail : List Token)
      → ((z : List Token) → Closing z → Closing (tail ++ z))
      → ((z : List Token) → Closing z → (a : List Token) (t : Tree) → IsTree goal names a (tail ++ z) t → R a z)
      → ((t : Tree) (b : List Token) → Cuts (Behind (IsTree goal names) t R) b (go t b))
      → Cuts R ts (and_then (r.tree_of goal names ts) go)
  cuts_any_tree goal e le names ts tail closing join next = cuts_then {S = IsTree goal names}
      (cuts.any goal e le names ts)
      (sound.tree goal names ts)
      (λ t b g. tree_front goal e names ts b t g.holds)
      tail closing join
      (λ t b g. next t b)

  -- the same, where what completes it is known to have a token
  pub cuts_some_tree : {U : Type 0} {R : List Token → List Token → Type 0} {go : Tree → List Token → Answer U}
      → (goal : Goal) → stands_alone goal ≡ true → 2 ≤ d → (names : Names) (ts tail : List Token)
      → ((z : List Token) → Closing z → Closing (tail ++ z))
      → ((z : List Token) → Closing z → (a : List Token) (t : Tree) → length (tail ++ z) < length a → IsTree goal names a (tail ++ z) t → R a z)
      → ((t : Tree) (b : List Token) → Cuts (Behind (IsTree goal names) t R) b (go t b))
      → Cuts R ts (and_then (r.tree_of goal names ts) go)
  cuts_some_tree goal e le names ts tail closing join next = cuts_next {S = IsTree goal names}
      (cuts_tail tail (cuts_longer (cuts.any goal e le names ts)) closing (λ z h a g. join z h a g.0.what g.1 g.0.holds))
      (sound.tree goal names ts)
      (λ t b g. tree_front goal e names ts b t g.holds)
      (λ t b g. next t b)

  pub cuts_trees : {U : Type 0} {R : List Token → List Token → Type 0} {go : Forest → List Token → Answer U}
      → (row : Rows) → stand_alone row ≡ true → (names : Names) (ts tail : List Token)
      → ((z : List Token) → Closing z → Closing (tail ++ z))
      → ((z : List Token) → Closing z → (a : List Token) (t : Forest) → AreTrees row names a (tail ++ z) t → R a z)
      → ((t : Forest) (b : List Token) → Cuts (Behind (AreTrees row names) t R) b (go t b))
      → Cuts R ts (and_then (r.trees_of row names ts) go)
  cuts_trees row e names ts tail closing join next = cuts_then {S = AreTrees row names}
      (cuts.trees row e names ts)
      (sound.trees row names ts)
      (λ t b g. trees_front row e names ts b t g.holds)
      tail closing join
      (λ t b g. next t b)

-- ---- tokens of no place

abbrev pub nowhere : Place
nowhere = record { start = 0; end = 0 }

abbrev pub a_mark : Punct → Token
a_mark p = mark p nowhere

abbrev pub a_word : List ℕ → Token
a_word text = word text nowhere

-- the constant 0
abbrev pub a_zero : Token
a_zero = integer 0 type.Int nowhere

-- a name
abbrev pub a_name : Token
a_name = a_word (codes "x")

-- ---- the least parts

abbrev pub zero_tree : Tree
zero_tree = int_node type.Int 0 0

pub zero_unary : {names : Names} {z : List Token} → Derives names rule.unary (a_zero ∷ z) z zero_tree
zero_unary = rule.plain (rule.primary_of rule.integer_constant)

pub zero_cast : {names : Names} {z : List Token} → Derives names rule.cast (a_zero ∷ z) z zero_tree
zero_cast = rule.uncast zero_unary

pub zero_binary : {names : Names} {z : List Token} (n : ℕ) → Derives names (rule.binary n) (a_zero ∷ z) z zero_tree
zero_binary zero = rule.tightest zero_cast
zero_binary (suc n) = rule.tighter (zero_binary n)

pub zero_conditional : {names : Names} {z : List Token} → Derives names rule.conditional (a_zero ∷ z) z zero_tree
zero_conditional = rule.unconditional (zero_binary 10)

pub zero_assignment : {names : Names} {z : List Token} → Derives names rule.assignment (a_zero ∷ z) z zero_tree
zero_assignment = rule.unassigned zero_conditional

pub zero_expression : {names : Names} {z : List Token} → Derives names rule.expression (a_zero ∷ z) z zero_tree
zero_expression = rule.single_expression zero_assignment

-- `int` alone
pub int_list : {names : Names} {typed : Bool} {z : List Token} → Lists names (rule.specifier_list typed) (a_word (codes "int") ∷ z) z (one (text_node kind.Word (codes "int") 0 none))
int_list {typed = false} = rule.last_specifier (rule.specifier_word refl) refl
int_list {typed = true} = rule.last_specifier (rule.specifier_word refl) refl

abbrev pub int_specs : Tree
int_specs = plain_node kind.Specs 0 (one (text_node kind.Word (codes "int") 0 none))

pub int_specifiers : {names : Names} {z : List Token} → Derives names rule.specifiers (a_word (codes "int") ∷ z) z int_specs
int_specifiers = rule.specs int_list

-- a name as a declarator
pub name_declarator : {names : Names} {z : List Token} → Derives names rule.declarator (a_name ∷ z) z (text_node kind.Ident (codes "x") 0 none)
name_declarator = rule.direct (rule.declared_name refl)

-- ---- behind specifiers

-- no typedef name stands first where no identifier does
pub no_typedef_first : (names : Names) (z : List Token) → Closing z → begins_with_typedef_name names z ≡ false
no_typedef_first names [] h = refl
no_typedef_first names (t ∷ z) h = by t.kind h
  where
    by : (k : TokenKind) → is_name_token k ≡ false → is_typedef_token names k ≡ false
    by (token.Word text) h = ap (λ b. b && is_typedef_name names text) h
    by (token.Punct p) h = refl
    by (token.Int value type) h = refl
    by (token.Char value) h = refl
    by (token.Str bytes) h = refl
