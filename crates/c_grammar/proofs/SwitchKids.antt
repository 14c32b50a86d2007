-- What the kids of a `switch` are.
use Rattle.std.proofs.Common.{◌≡◌, ℕ, Bool, true, false, ◌&&◌, if◌then◌else◌, refl, List}
use Rattle.c_lexer.specs.declared.token.Token.{Token}
use Rattle.c_syntax.specs.declared.kind.SynKind.{SynKind}
use Rattle.c_syntax.specs.declared.kind.SynKind.TheVariants as kind
use Rattle.c_syntax.specs.Trees.{Tree, Forest, none, tree, ◌then◌, plain_node}
use Rattle.c_grammar.specs.Scopes.{Names}
use Rattle.c_grammar.specs.Derivation as grammar
use Rattle.c_grammar.specs.Derivation.{Derives, Lists, Standing, may_end, is_labelled, ends_open}

abbrev pub is_label : SynKind → Bool
is_label kind.Case = true
is_label kind.Default = true
is_label other = false

-- no statement stands before the first label, and no label stands last
abbrev pub are_groups : Standing → Forest → Bool
are_groups standing none = may_end standing
are_groups standing (tree label kids rest) =
    if is_label label.kind then are_groups grammar.behind_label rest else is_labelled standing && are_groups grammar.behind_statement rest

label_kind : {names : Names} {a b : List Token} {t : Tree} → Derives names grammar.switch_label a b t → is_label t.label.kind ≡ true
label_kind (grammar.case_label x) = refl
label_kind grammar.default_label = refl

-- no statement is a label
statement_kind : {names : Names} {a b : List Token} {t : Tree} → Derives names grammar.statement a b t → is_label t.label.kind ≡ false
statement_kind (grammar.block_statement (grammar.block_of ts)) = refl
statement_kind _ = refl

pub groups_kids : {names : Names} {standing : Standing} {a b : List Token} {ts : Forest} → Lists names (grammar.groups standing) a b ts → are_groups standing ts ≡ true
groups_kids (grammar.no_more_groups e) = e
groups_kids (grammar.label_first t ts) = rw (label_kind t) (groups_kids ts)
groups_kids (grammar.labelled_statement e t ts) = rw (statement_kind t, e) (groups_kids ts)

pub switch_kids : {names : Names} {a b : List Token} {p : ℕ} {x : Tree} {ts : Forest}
    → Derives names grammar.statement a b (plain_node kind.Switch p (x then ts))
    → are_groups grammar.at_first ts ≡ true
switch_kids (grammar.block_statement d) = elim d [ ]
switch_kids (grammar.switch_of x ts) = groups_kids ts

-- a `switch` ends in no `if` without an `else`
pub switch_ends_closed : (p : ℕ) (ts : Forest) → ends_open (plain_node kind.Switch p ts) ≡ false
switch_ends_closed p ts = refl
