-- What the parser's calls answer, by a reading. These serve the parser's inner functions alone: a reader of the
-- contract of `parse` need not read them.
use Rattle.std.specs.Prelude.{◌≡◌, ⊤, ℕ, ◌<◌, ◌≤◌, suc, Bool, true, false, List, [], ◌∷◌, map, length, Result, Ok, Err}
use denote.Bor.{Bor}
use Rattle.c_lexer.specs.declared.token.Token.{Token}
use Rattle.c_syntax.specs.Trees.{Tree, Forest, one, forest_of, height}
use Rattle.c_syntax.specs.Tables.{stack_of}
use Rattle.c_syntax.specs.declared.kind.SynKind.{SynKind}
use Rattle.c_syntax.specs.declared.kind.SynKind.TheVariants as kind
use Rattle.c_grammar.specs.Answers.{Answer, found, wrong, deep, expect_identifier}
use Rattle.c_grammar.specs.Reading.{behind_one, begins_with_mark}
use Rattle.c_lexer.specs.declared.token.Punct.TheVariants.{LeftBrace}
use Rattle.c_grammar.specs.Scopes.{Names, add, after, after_parameter, entry, entries_behind, parameter_entries, parameters_of}
use Rattle.c_scopes.specs.ScopeLog.{entry_of}
use Rattle.c_parts.specs.declared.part.Part.{Part}
use Rattle.c_parts.specs.declared.specifier.Specs.{Specs}
use Rattle.c_parts.specs.declared.specifier.Specifier.{Specifier}
use Rattle.c_parts.specs.declared.specifier.SpecifierRow.{SpecifierRow}
use Rattle.c_parts.specs.declared.declarator.Declarator.{Declarator}
use Rattle.c_parts.specs.declared.declarator.Mode.{Mode}
use Rattle.c_parts.specs.declared.declarator.Mode.TheVariants.{Named}
use Rattle.c_parts.specs.declared.part.Statement.{Statement}
use Rattle.c_parts.specs.declared.budget.Stop.{Stop}
use Rattle.c_parts.specs.declared.budget.Stop.TheVariants.{Wrong, Deep, OutOfMemory}
use Rattle.c_parts.specs.Pushed.{IsPushed, ArePushed, IsBelow}
use Rattle.c_parts.specs.Says.{IsSpecs, IsSpecifier, IsSpecifierRow, IsDeclarator, IsStatement}
use Rattle.c_parser.specs.declared.parser.Parser.{Parser}

-- a stop, where these tokens are left
abbrev pub Stops : {T : Type 0} → Answer T → List Token → Stop → Type 0
Stops expected rest Wrong = expected ≡ wrong rest
Stops expected rest Deep = expected ≡ deep rest
Stops expected rest OutOfMemory = ⊤

-- ---- one tree

-- a tree has been read: it is on the stack above these, and the names are those behind it
pub record IsRead (next : Tree → Names) (t : Tree) (under : List Tree) (p : Parser) (part : Part) : Type 0 where
  pub names_are : p.names ≡ next t
  pub pushed : IsPushed t under (stack_of p.trees) part

-- it is the tree that was expected, of which more is said; fewer tokens than these are left
pub record Reads (expected : Answer Tree) (next : Tree → Names) (says : Tree → Type 0) (under : List Tree) (budget most : ℕ) (p : Parser) (part : Part) : Type 0 where
  pub tree : Tree
  pub found_is : expected ≡ found tree p.rest.now
  pub read : IsRead next tree under p part
  pub said : says tree
  pub low : part.height ≤ budget
  pub shorter : length p.rest.now < most

-- such a tree with what stands beside it, or a stop
abbrev pub Gives : {T : Type 0} → (T → Part) → (Tree → T → Type 0) → Answer Tree → (Tree → Names) → List Tree → ℕ → ℕ → Parser → Result T Stop → Type 0
Gives part says expected next under budget most p (Ok x) = Reads expected next (λ t. says t x) under budget most p (part x)
Gives part says expected next under budget most p (Err stop) = Stops expected p.rest.now stop

-- a part alone
abbrev pub itself : Part → Part
itself part = part

abbrev pub nothing_more : {T : Type 0} → Tree → T → Type 0
nothing_more t x = ⊤

-- what is read from here on, where the names behind it are those of the tree
abbrev pub GivesPart : (Names → List Token → Answer Tree) → ℕ → Parser → Parser → Result Part Stop → Type 0
GivesPart expected budget old new result =
    Gives itself nothing_more (expected old.names old.rest.now) (after old.names) (stack_of old.trees) budget (length old.rest.now) new result

-- the same, where it may have no token
abbrev pub GivesPartOrNone : (Names → List Token → Answer Tree) → ℕ → Parser → Parser → Result Part Stop → Type 0
GivesPartOrNone expected budget old new result =
    Gives itself nothing_more (expected old.names old.rest.now) (after old.names) (stack_of old.trees) budget (suc (length old.rest.now)) new result

-- what is read from here on behind the tree that was read last, and makes it higher
abbrev pub GivesLonger : (Names → Tree → List Token → Answer Tree) → ℕ → Part → Parser → Parser → Result Part Stop → Type 0
GivesLonger expected budget left old new result = (names : Names) (x : Tree) (under : List Tree) → IsRead (after names) x under old left
    → Gives itself (λ t part. height x < height t) (expected names x old.rest.now) (after names) under budget (length old.rest.now) new result

-- of specs also their kind
pub record SaysSpecs (t : Tree) (specs : Specs) : Type 0 where
  pub kind_is : t.label.kind ≡ kind.Specs
  pub typedef_is : IsSpecs t specs

abbrev pub GivesSpecs : (Names → List Token → Answer Tree) → ℕ → Parser → Parser → Result Specs Stop → Type 0
GivesSpecs expected budget old new result =
    Gives (λ s. s.part) SaysSpecs (expected old.names old.rest.now) (after old.names) (stack_of old.trees) budget (length old.rest.now) new result

abbrev pub GivesSpecifier : (Names → List Token → Answer Tree) → ℕ → Parser → Parser → Result Specifier Stop → Type 0
GivesSpecifier expected budget old new result =
    Gives (λ s. s.part) IsSpecifier (expected old.names old.rest.now) (after old.names) (stack_of old.trees) budget (length old.rest.now) new result

abbrev pub GivesStatement : (Names → List Token → Answer Tree) → ℕ → Parser → Parser → Result Statement Stop → Type 0
GivesStatement expected budget old new result =
    Gives (λ s. s.part) IsStatement (expected old.names old.rest.now) (after old.names) (stack_of old.trees) budget (length old.rest.now) new result

-- a struct or an enum
abbrev pub GivesTagged : SynKind → (Names → List Token → Answer Tree) → ℕ → Parser → Parser → Result Part Stop → Type 0
GivesTagged kind expected budget old new result =
    Gives itself (λ t part. t.label.kind ≡ kind) (expected old.names old.rest.now) (after old.names) (stack_of old.trees) budget (length old.rest.now) new result

-- an enumerator, which is not yet declared
pub record SaysEnumerator (name : List ℕ) (t : Tree) : Type 0 where
  pub kind_is : t.label.kind ≡ kind.Enumer
  pub text_is : t.label.text ≡ name

abbrev pub GivesEnumerator : List ℕ → (Names → List Token → Answer Tree) → ℕ → Parser → Parser → Result Part Stop → Type 0
GivesEnumerator name expected budget old new result =
    Gives itself (λ t part. SaysEnumerator name t) (expected old.names old.rest.now) (λ t. add old.names (entries_behind false t.kids)) (stack_of old.trees)
    budget (suc (length old.rest.now)) new result

pub record SaysFor (t : Tree) (statement : Statement) : Type 0 where
  pub kind_is : t.label.kind ≡ kind.For
  pub open_is : IsStatement t statement

-- statements in braces, in the scope that there is
abbrev pub GivesBody : (Names → List Token → Answer Tree) → ℕ → Parser → Parser → Result Part Stop → Type 0
GivesBody expected budget old new result =
    Gives itself (λ t part. t.label.kind ≡ kind.Block) (expected old.names old.rest.now) (λ t. add old.names (entries_behind false t.kids)) (stack_of old.trees)
    budget (length old.rest.now) new result

-- an initialized declarator, behind specs that say `typedef` or do not
abbrev pub GivesInitialized : Bool → (Names → List Token → Answer Tree) → ℕ → Parser → Parser → Result Part Stop → Type 0
GivesInitialized is_typedef expected budget old new result =
    Gives itself nothing_more (expected old.names old.rest.now) (λ t. add old.names (entries_behind is_typedef (one t))) (stack_of old.trees) budget (length old.rest.now) new result

-- a parameter, in the scope that there is
abbrev pub GivesParameter : (Names → List Token → Answer Tree) → ℕ → Parser → Parser → Result Part Stop → Type 0
GivesParameter expected budget old new result =
    Gives itself (λ t part. t.label.kind ≡ kind.Param) (expected old.names old.rest.now) (after_parameter old.names) (stack_of old.trees) budget (length old.rest.now) new result

-- an `if` from behind its condition, which was read last
abbrev pub GivesBranches : (Names → Tree → List Token → Answer Tree) → ℕ → Part → Parser → Parser → Result Statement Stop → Type 0
GivesBranches expected budget condition old new result = (names : Names) (x : Tree) (under : List Tree) → IsRead (after names) x under old condition
    → Gives (λ s. s.part) IsStatement (expected names x old.rest.now) (after names) under budget (length old.rest.now) new result

-- a `for` in its scope: what its parts declare there is not told
abbrev pub GivesFor : (Names → List Token → Answer Tree) → ℕ → Parser → Parser → Result Statement Stop → Type 0
GivesFor expected budget old new result =
    Gives (λ s. s.part) SaysFor (expected old.names old.rest.now) (λ t. add old.names (entries_behind false t.kids)) (stack_of old.trees) budget (length old.rest.now) new result

-- ---- declarators

-- what stands beside a declarator is what is said of its tree, and the parser keeps what the parameters next to its name declare
pub record SaysDeclarator (p : Parser) (t : Tree) (declarator : Declarator) : Type 0 where
  pub itself_is : IsDeclarator t declarator
  pub parameters_are : map entry_of p.parameters.items ≡ parameter_entries (parameters_of (one t))

abbrev pub GivesDeclarator : (Names → List Token → Answer Tree) → ℕ → Parser → Parser → Result Declarator Stop → Type 0
GivesDeclarator expected budget old new result =
    Gives (λ d. d.part) (SaysDeclarator new) (expected old.names old.rest.now) (after old.names) (stack_of old.trees) budget (length old.rest.now) new result

-- the number of tokens that more than are left behind a declarator
abbrev pub most_behind : Mode → ℕ → ℕ
most_behind Named n = n
most_behind other n = suc n

abbrev pub GivesDeclared : Mode → (Names → List Token → Answer Tree) → ℕ → Parser → Parser → Result Declarator Stop → Type 0
GivesDeclared mode expected budget old new result =
    Gives (λ d. d.part) (SaysDeclarator new) (expected old.names old.rest.now) (after old.names) (stack_of old.trees) budget (most_behind mode (length old.rest.now)) new result

-- a declarator has been read last: its tree is on the stack above these, and the names are those behind it
pub record IsDeclared (next : Tree → Names) (x : Tree) (under : List Tree) (p : Parser) (declarator : Declarator) : Type 0 where
  pub read : IsRead next x under p declarator.part
  pub said : SaysDeclarator p x declarator

-- the suffixes behind the declarator that was read last
abbrev pub GivesSuffixes : (Names → Tree → List Token → Answer Tree) → ℕ → Declarator → Parser → Parser → Result Declarator Stop → Type 0
GivesSuffixes expected budget inner old new result = (names : Names) (x : Tree) (under : List Tree) → IsDeclared (after names) x under old inner
    → Gives (λ d. d.part) (SaysDeclarator new) (expected names x old.rest.now) (after names) under budget (suc (length old.rest.now)) new result

-- one of them
pub record SaysSuffixed (p : Parser) (x t : Tree) (declarator : Declarator) : Type 0 where
  pub itself_is : SaysDeclarator p t declarator
  pub higher : height x < height t

abbrev pub GivesSuffix : (Names → Tree → List Token → Answer Tree) → ℕ → Declarator → Parser → Parser → Result Declarator Stop → Type 0
GivesSuffix expected budget inner old new result = (names : Names) (x : Tree) (under : List Tree) → IsDeclared (after names) x under old inner
    → Gives (λ d. d.part) (SaysSuffixed new x) (expected names x old.rest.now) (after names) under budget (length old.rest.now) new result

-- an initialized declarator from behind its declarator, which was read last
abbrev pub GivesInitializedFrom : Bool → (Names → Tree → List Token → Answer Tree) → ℕ → Declarator → Parser → Parser → Result Part Stop → Type 0
GivesInitializedFrom is_typedef expected budget inner old new result = (names : Names) (x : Tree) (under : List Tree) → IsDeclared (after names) x under old inner
    → Gives itself nothing_more (expected names x old.rest.now) (λ t. add names (entries_behind is_typedef (one t))) under budget (suc (length old.rest.now)) new result

-- a function or a declaration, from behind its specs and its first declarator, which were read last
abbrev pub GivesExternalFrom : (Names → Tree → Tree → List Token → Answer Tree) → ℕ → Specs → Declarator → Parser → Parser → Result Part Stop → Type 0
GivesExternalFrom expected budget specs inner old new result = (names : Names) (s x : Tree) (under behind : List Tree) → IsPushed s under behind specs.part → SaysSpecs s specs
    → IsDeclared (after (after names s)) x behind old inner
    → Gives itself nothing_more (expected names s x old.rest.now) (after names) under budget (length old.rest.now) new result

-- ---- trees in order

-- they have been read: they are on the stack above these, and the names are those behind them
pub record AreRead (next : Forest → Names) (ts under : List Tree) (p : Parser) (high : ℕ) : Type 0 where
  pub names_are : p.names ≡ next (forest_of ts)
  pub pushed : ArePushed ts under (stack_of p.trees) high

pub record ReadsAll (expected : Answer Forest) (next : Forest → Names) (says : List Tree → Type 0) (under : List Tree) (budget most : ℕ) (p : Parser) (high : ℕ) : Type 0 where
  pub trees : List Tree
  pub found_is : expected ≡ found (forest_of trees) p.rest.now
  pub read : AreRead next trees under p high
  pub said : says trees
  pub low : high ≤ budget
  pub shorter : length p.rest.now < most

-- such trees with what stands beside them, or a stop
abbrev pub GivesRow : {T : Type 0} → (T → ℕ) → (List Tree → T → Type 0) → Answer Forest → (Forest → Names) → List Tree → ℕ → ℕ → Parser → Result T Stop → Type 0
GivesRow high says expected next under budget most p (Ok x) = ReadsAll expected next (λ ts. says ts x) under budget most p (high x)
GivesRow high says expected next under budget most p (Err stop) = Stops expected p.rest.now stop

abbrev pub itself_high : ℕ → ℕ
itself_high high = high

abbrev pub no_more : {T : Type 0} → List Tree → T → Type 0
no_more ts x = ⊤

-- the names behind them
abbrev pub behind_all : Names → Forest → Names
behind_all names ts = add names (entries_behind false ts)

-- trees from here on: one at least
abbrev pub GivesParts : (Names → List Token → Answer Forest) → ℕ → Parser → Parser → Result ℕ Stop → Type 0
GivesParts expected budget old new result =
    GivesRow itself_high no_more (expected old.names old.rest.now) (behind_all old.names) (stack_of old.trees) budget (length old.rest.now) new result

-- or none
abbrev pub GivesPartsOrNone : (Names → List Token → Answer Forest) → ℕ → Parser → Parser → Result ℕ Stop → Type 0
GivesPartsOrNone expected budget old new result =
    GivesRow itself_high no_more (expected old.names old.rest.now) (behind_all old.names) (stack_of old.trees) budget (suc (length old.rest.now)) new result

-- specs in order: one at least
pub record SaysSpecifiers (ts : List Tree) (row : SpecifierRow) : Type 0 where
  pub row_is : IsSpecifierRow ts row
  pub some : 1 ≤ length ts

abbrev pub GivesSpecifierRow : (Names → List Token → Answer Forest) → ℕ → Parser → Parser → Result SpecifierRow Stop → Type 0
GivesSpecifierRow expected budget old new result =
    GivesRow (λ row. row.height) SaysSpecifiers (expected old.names old.rest.now) (behind_all old.names) (stack_of old.trees) budget (length old.rest.now) new result

-- initialized declarators, behind specs that say `typedef` or do not
abbrev pub GivesInitializedRow : Bool → (Names → List Token → Answer Forest) → ℕ → Parser → Parser → Result ℕ Stop → Type 0
GivesInitializedRow is_typedef expected budget old new result =
    GivesRow itself_high no_more (expected old.names old.rest.now) (λ ts. add old.names (entries_behind is_typedef ts)) (stack_of old.trees) budget (length old.rest.now) new result

abbrev pub GivesInitializedRowFrom : Bool → (Names → Tree → List Token → Answer Forest) → ℕ → Declarator → Parser → Parser → Result ℕ Stop → Type 0
GivesInitializedRowFrom is_typedef expected budget inner old new result = (names : Names) (x : Tree) (under : List Tree) → IsDeclared (after names) x under old inner
    → GivesRow itself_high no_more (expected names x old.rest.now) (λ ts. add names (entries_behind is_typedef ts)) under budget (suc (length old.rest.now)) new result

-- parameters in the scope that there is: they declare nothing outside of it
abbrev pub GivesParameterRow : (Names → List Token → Answer Forest) → ℕ → Parser → Parser → Result ℕ Stop → Type 0
GivesParameterRow expected budget old new result =
    GivesRow itself_high (λ ts high. entries_behind false (forest_of ts) ≡ []) (expected old.names old.rest.now) (λ ts. add old.names (parameter_entries ts)) (stack_of old.trees)
    budget (length old.rest.now) new result

-- parameters in a scope of their own; the parser keeps what they declare
pub record SaysParameters (p : Parser) (ts : List Tree) : Type 0 where
  pub silent : entries_behind false (forest_of ts) ≡ []
  pub parameters_are : map entry_of p.parameters.items ≡ parameter_entries (forest_of ts)

abbrev pub GivesScoped : (Names → List Token → Answer Forest) → ℕ → Parser → Parser → Result ℕ Stop → Type 0
GivesScoped expected budget old new result =
    GivesRow itself_high (λ ts high. SaysParameters new ts) (expected old.names old.rest.now) (λ ts. old.names) (stack_of old.trees) budget (length old.rest.now) new result

-- the groups of a `switch` in a scope of their own
abbrev pub GivesGroups : (Names → List Token → Answer Forest) → ℕ → Parser → Parser → Result ℕ Stop → Type 0
GivesGroups expected budget old new result =
    GivesRow itself_high no_more (expected old.names old.rest.now) (λ ts. old.names) (stack_of old.trees) budget (length old.rest.now) new result

-- ---- the unit

pub record ReadsUnit (expected : Answer Tree) (p : Parser) (part : Part) : Type 0 where
  pub tree : Tree
  pub found_is : expected ≡ found tree p.rest.now
  pub pushed : IsPushed tree [] (stack_of p.trees) part
  pub ended : p.rest.now ≡ []

abbrev pub GivesUnit : Answer Tree → Parser → Result Part Stop → Type 0
GivesUnit expected p (Ok part) = ReadsUnit expected p part
GivesUnit expected p (Err stop) = Stops expected p.rest.now stop

-- ---- tokens

-- nothing but the place changes
pub record Keeps (old new : Parser) : Type 0 where
  pub names_are : new.names ≡ old.names
  pub trees_are : new.trees ≡ old.trees
  pub parameters_are : new.parameters ≡ old.parameters

pub record Passes (is_there : Bool) (old new : Parser) : Type 0 where
  pub there : is_there ≡ true
  pub rest_is : new.rest.now ≡ behind_one old.rest.now
  pub kept : Keeps old new
  pub shorter : length new.rest.now < length old.rest.now

pub record Balks (is_there : Bool) (old new : Parser) (stop : Stop) : Type 0 where
  pub absent : is_there ≡ false
  pub rest_is : new.rest.now ≡ old.rest.now
  pub is_wrong : stop ≡ Wrong

pub record PassesName (text : List ℕ) (old new : Parser) : Type 0 where
  pub goes_on : (go : List ℕ → List Token → Answer Tree) → expect_identifier old.rest.now go ≡ go text new.rest.now
  pub kept : Keeps old new
  pub shorter : length new.rest.now < length old.rest.now

pub record BalksName (old new : Parser) (stop : Stop) : Type 0 where
  pub none : (go : List ℕ → List Token → Answer Tree) → expect_identifier old.rest.now go ≡ wrong new.rest.now
  pub is_wrong : stop ≡ Wrong

-- a mark or a word that was expected is there, and the place is behind it; or it is not there
abbrev pub Expects : Bool → Parser → Parser → Result (Unit {0}) Stop → Type 0
Expects is_there old new (Ok unit) = Passes is_there old new
Expects is_there old new (Err stop) = Balks is_there old new stop

-- a brace is there, and the place is behind it, with the next lower budget
pub record PassesBrace (budget lower : ℕ) (old new : Parser) : Type 0 where
  pub there : begins_with_mark LeftBrace old.rest.now ≡ true
  pub rest_is : new.rest.now ≡ behind_one old.rest.now
  pub kept : Keeps old new
  pub below_is : IsBelow 0 budget lower

-- or it is not there, or there is no lower budget
abbrev pub OpensBrace : ℕ → Parser → Parser → Result ℕ Stop → Type 0
OpensBrace budget old new (Ok lower) = PassesBrace budget lower old new
OpensBrace budget old new (Err Wrong) = (begins_with_mark LeftBrace old.rest.now ≡ false) × (new.rest.now ≡ old.rest.now)
OpensBrace budget old new (Err Deep) = (begins_with_mark LeftBrace old.rest.now ≡ true) × (new.rest.now ≡ behind_one old.rest.now) × (budget < 1)
OpensBrace budget old new (Err OutOfMemory) = ⊥

-- the scope of a body is opened, behind the name of the function, with what its parameters declare
pub record OpenedBody (name : List ℕ) (old new : Parser) : Type 0 where
  pub names_are : new.names ≡ map entry_of old.parameters.items ∷ add old.names (entry name false)
  pub rest_is : new.rest.now ≡ old.rest.now
  pub trees_are : new.trees ≡ old.trees

abbrev pub OpensBody : List ℕ → Parser → Parser → Result (Unit {0}) Stop → Type 0
OpensBody name old new (Ok unit) = OpenedBody name old new
OpensBody name old new (Err stop) = stop ≡ OutOfMemory

-- the same of a name
abbrev pub ExpectsName : Parser → Parser → Result (Bor (List ℕ)) Stop → Type 0
ExpectsName old new (Ok name) = PassesName name.now old new
ExpectsName old new (Err stop) = BalksName old new stop
