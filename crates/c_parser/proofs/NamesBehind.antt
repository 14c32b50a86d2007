-- The names behind what declares: functions, initialized declarators and declarations; and behind parts in order.
use Rattle.std.proofs.Common.{◌≡◌, ℕ, Bool, false, List, [], ◌∷◌, ◌++◌, drop, refl, sym, ap, ◌∙◌, append_assoc}
use Rattle.std.proofs.lemmas.List.{append-nil}
use Rattle.c_syntax.specs.declared.kind.SynKind.{SynKind}
use Rattle.c_syntax.specs.declared.kind.SynKind.TheVariants as kind
use Rattle.c_syntax.specs.Trees.{Tree, Forest, none, ◌then◌, one, two, three, plain_node}
use Rattle.c_grammar.specs.Scopes.{Names, Entry, add, after, after_declarator, entry, entries, entries_by, entries_behind, first_entries, later_entries, declares_types, name_of, says_typedef}
use Rattle.c_parts.proofs.NameLaws.{add_nothing, add_joined, entries_then}

-- ---- scopes that are closed

pub drop_add : (names : Names) (more : List Entry) → drop 1 (add names more) ≡ drop 1 names
drop_add [] more = refl
drop_add (scope ∷ outer) more = refl

-- ---- initialized declarators

init_kids : (is_typedef : Bool) (start : ℕ) (x : Tree) (ts : Forest)
    → entries_behind is_typedef (one (plain_node kind.InitDecl start (x then ts))) ≡ (entries x ++ entry (name_of (one x)) is_typedef) ++ entries_behind false ts
init_kids is_typedef start x ts =
    append-nil _ ∙ ap (λ (y : List Entry). (y ++ entry (name_of (one x)) is_typedef) ++ entries_behind false ts) (sym (append-nil _))

-- behind the declarator alone
pub names_declared : (names names2 names3 : Names) (is_typedef : Bool) (name : List ℕ) (x : Tree)
    → names2 ≡ after names x → name ≡ name_of (one x) → names3 ≡ add names2 (entry name is_typedef) → names3 ≡ after_declarator names is_typedef x
names_declared names names2 names3 is_typedef name x first name_is next =
    next ∙ ap (λ (n : Names). add n (entry name is_typedef)) first ∙ add_joined names (entries x) (entry name is_typedef)
    ∙ ap (λ (n : List ℕ). add names (entries x ++ entry n is_typedef)) name_is

pub names_init_one : (names names2 : Names) (is_typedef : Bool) (start : ℕ) (t x : Tree)
    → t ≡ plain_node kind.InitDecl start (one x) → names2 ≡ after_declarator names is_typedef x → names2 ≡ add names (entries_behind is_typedef (one t))
names_init_one names names2 is_typedef start t x t_is h =
    h ∙ sym (ap (λ (t : Tree). add names (entries_behind is_typedef (one t))) t_is ∙ ap (add names) (init_kids is_typedef start x none ∙ append-nil _))

pub names_init_two : (names names2 names3 : Names) (is_typedef : Bool) (start : ℕ) (t x y : Tree)
    → t ≡ plain_node kind.InitDecl start (two x y) → names2 ≡ after_declarator names is_typedef x → names3 ≡ after names2 y → names3 ≡ add names
    (entries_behind is_typedef (one t))
names_init_two names names2 names3 is_typedef start t x y t_is first second =
    second ∙ ap (λ (n : Names). after n y) first ∙ add_joined names (entries x ++ entry (name_of (one x)) is_typedef) (entries y)
    ∙ sym (ap (λ (t : Tree). add names (entries_behind is_typedef (one t))) t_is ∙ ap (add names) (init_kids is_typedef start x (one y)))

-- ---- declarations

-- specs declare the same behind any specs
specs_entries : (is_typedef : Bool) (s : Tree) → s.label.kind ≡ kind.Specs → entries_behind is_typedef (one s) ≡ entries s
specs_entries is_typedef s k = ap (λ (j : SynKind). own j is_typedef) k ∙ sym (ap (λ (j : SynKind). own j false) k)
  where
    own : SynKind → Bool → List Entry
    own j flag = entries_by j s.label.text flag s.kids (first_entries (declares_types s.label.kind s.kids) s.kids) (later_entries (declares_types s.label.kind s.kids) s.kids) ++ []

pub names_declaration : (names names2 names3 : Names) (is_typedef : Bool) (start : ℕ) (t s : Tree) (xs : Forest)
    → s.label.kind ≡ kind.Specs → is_typedef ≡ says_typedef (one s) → t ≡ plain_node kind.Declaration start (s then xs)
    → names2 ≡ after names s → names3 ≡ add names2 (entries_behind is_typedef xs) → names3 ≡ after names t
names_declaration names names2 names3 is_typedef start t s xs k flag t_is first second =
    second ∙ ap (λ (n : Names). add n (entries_behind is_typedef xs)) first ∙ add_joined names (entries s) (entries_behind is_typedef xs)
    ∙ ap (λ (e : List Entry). add names (e ++ entries_behind is_typedef xs)) (sym (specs_entries is_typedef s k)) ∙ ap (add names) (sym (entries_then is_typedef s xs))
    ∙ ap (λ (b : Bool). add names (entries_behind b (s then xs))) flag
    ∙ ap (add names) (sym (append-nil _)) ∙ sym (ap (after names) t_is)

pub names_specs_alone : (names names2 : Names) (start : ℕ) (t s : Tree)
    → s.label.kind ≡ kind.Specs → t ≡ plain_node kind.Declaration start (one s) → names2 ≡ after names s → names2 ≡ after names t
names_specs_alone names names2 start t s k t_is first = names_declaration names names2 names2 (says_typedef (one s)) start t s none k refl t_is first
    (sym (add_nothing names2))

-- ---- functions

pub block_entries : (b : Tree) → b.label.kind ≡ kind.Block → entries_behind false (one b) ≡ []
block_entries b k = ap (λ (k : SynKind). entries_by k b.label.text false b.kids (first_entries (declares_types k b.kids) b.kids) (later_entries (declares_types k b.kids) b.kids) ++ []) k

function_entries : (start : ℕ) (s x b : Tree) → b.label.kind ≡ kind.Block
    → entries (plain_node kind.Function start (three s x b)) ≡ entries s ++ (entries x ++ entry (name_of (one x)) false)
function_entries start s x b k =
    append-nil _
    ∙ ap (λ (e : List Entry). e ++ entry (name_of (one x)) false)
    (entries_then false s (two x b) ∙ ap (λ (e : List Entry). entries s ++ e)
    (entries_then false x (one b) ∙ ap (λ (e : List Entry). entries x ++ e) (block_entries b k) ∙ append-nil (entries x)))
    ∙ append_assoc (entries s) (entries x) (entry (name_of (one x)) false)

-- before the body, in a scope of its own with these entries
pub names_in_function : (names names2 names3 : Names) (name : List ℕ) (s x : Tree) (more more2 : List Entry)
    → names2 ≡ after (after names s) x → name ≡ name_of (one x) → names3 ≡ more ∷ add names2 (entry name false) → more ≡ more2
    → names3 ≡ more2 ∷ after_declarator (after names s) false x
names_in_function names names2 names3 name s x more more2 first name_is next same =
    next ∙ ap (λ (m : List Entry). m ∷ add names2 (entry name false)) same
    ∙ ap (λ (n : Names). more2 ∷ n) (names_declared (after names s) names2 (add names2 (entry name false)) false name x first name_is refl)

pub names_function : (names names2 names3 last : Names) (scope body_entries : List Entry) (start : ℕ) (t s x b : Tree)
    → b.label.kind ≡ kind.Block → t ≡ plain_node kind.Function start (three s x b)
    → names2 ≡ scope ∷ after_declarator (after names s) false x → names3 ≡ add names2 body_entries → last ≡ drop 1 names3 → last ≡ after names t
names_function names names2 names3 last scope body_entries start t s x b k t_is first second closed =
    closed ∙ ap (drop 1) (second ∙ ap (λ (n : Names). add n body_entries) first)
    ∙ add_joined names (entries s) (entries x ++ entry (name_of (one x)) false)
    ∙ ap (add names) (sym (function_entries start s x b k)) ∙ sym (ap (after names) t_is)
