-- Joined strings, and what the trees of declarators and parameters are, and are not.
use Rattle.std.proofs.Common.{◌≡◌, ℕ, ◌≤◌, Bool, true, false, ◌&&◌, List, [], ◌∷◌, ◌++◌, if◌then◌else◌, refl, sym, ap, ◌∙◌, arith, true≢false, append_assoc, codes, bytes_eq}
use Rattle.c_lexer.specs.declared.token.Punct.TheVariants.{RightParenthesis}
use Rattle.c_lexer.specs.declared.token.Token.{Token}
use Rattle.c_lexer.specs.declared.token.TokenKind.{TokenKind}
use Rattle.c_lexer.specs.declared.token.TokenKind.TheVariants as token
use Rattle.c_syntax.specs.declared.kind.SynKind.{SynKind}
use Rattle.c_syntax.specs.declared.kind.SynKind.TheVariants as kind
use Rattle.c_syntax.specs.declared.label.Label.{Label}
use Rattle.c_syntax.specs.Trees.{Tree, Forest, none, tree, ◌then◌, one, text_node, plain_node, forest_height}
use Rattle.c_grammar.specs.Vocabulary.{Place, mark, word, string}
use Rattle.c_grammar.specs.Scopes.{Names}
use Rattle.c_grammar.specs.Derivation as rule
use Rattle.c_grammar.specs.Derivation.{Part, Derives, Lists, Qualifiers, Literals, is_lone_void}
use Rattle.c_grammar.specs.Answers.{ahead, ahead_by}
use Rattle.c_grammar.specs.Reading.{joined_by, joined_behind, string_in, is_absent_by, is_named_by, is_named, behind_const, behind_const_by, begins_with_word, begins_with_mark, behind_one}
use Rattle.c_grammar.proofs.SoundSteps.{word_is, word_split, mark_split, both_true}

-- ---- strings

-- the string and those behind it, where other bytes stand before
record Joined (before bytes : List ℕ) (at : Place) (rest : List Token) (r : List ℕ × List Token) : Type 0 where
  bytes_here : List ℕ
  literals : Literals (string bytes at ∷ rest) r.1 bytes_here
  whole : r.0 ≡ before ++ bytes_here

joined : (rest : List Token) (before bytes : List ℕ) (at : Place) → Joined before bytes at rest (joined_behind (before ++ bytes) rest)
unfolding joined_behind joined_by
joined [] before bytes at = record { bytes_here = bytes; literals = rule.last_literal; whole = refl }
joined (t ∷ rest) before bytes at = by t.kind (record { start = t.start; end = t.end }) (λ more. joined rest (before ++ bytes) more (record { start = t.start; end = t.end }))
  where
    by : (k : TokenKind) (place : Place)
        → ((more : List ℕ) → Joined (before ++ bytes) more place rest (joined_behind ((before ++ bytes) ++ more) rest))
        → Joined before bytes at (record { kind = k; start = place.start; end = place.end } ∷ rest)
        (joined_by (before ++ bytes) k (record { kind = k; start = place.start; end = place.end } ∷ rest) (joined_behind ((before ++ bytes) ++ string_in k) rest))
    by (token.Str more) place deeper =
        let j = deeper more in
        record { bytes_here = bytes ++ j.bytes_here; literals = rule.more_literals j.literals refl; whole = j.whole ∙ append_assoc before bytes j.bytes_here }
    by _ place deeper = record { bytes_here = bytes; literals = rule.last_literal; whole = refl }

pub literals_behind : (bytes : List ℕ) (at : Place) (rest : List Token)
    → Literals (string bytes at ∷ rest) (joined_behind bytes rest).1 (joined_behind bytes rest).0
literals_behind bytes at rest = let j = joined rest [] bytes at in rw j.whole j.literals

-- ---- declarators

abbrev IsPresent : Part → Tree → Type 0
IsPresent Part.declarator t = is_absent_by t.label.kind ≡ false
IsPresent Part.direct_declarator t = is_absent_by t.label.kind ≡ false
IsPresent Part.abstract_declarator t = is_absent_by t.label.kind ≡ false
IsPresent Part.direct_abstract t = is_absent_by t.label.kind ≡ false
IsPresent part t = Unit {0}

is_present : {names : Names} {part : Part} {a b : List Token} {t : Tree} → Derives names part a b t → IsPresent part t
unfolding is_absent_by
is_present (rule.pointer q d) = refl
is_present (rule.direct d) = is_present d
is_present (rule.declared_name e) = refl
is_present (rule.declarator_in_parentheses d) = refl
is_present (rule.array_of d n) = refl
is_present (rule.takes_anything d) = refl
is_present (rule.takes_void d) = refl
is_present (rule.takes d ps e) = refl
is_present (rule.abstract_pointer q d) = refl
is_present (rule.bare_pointer q) = refl
is_present (rule.direct_of d) = is_present d
is_present (rule.abstract_in_parentheses d) = refl
is_present (rule.bare_array n) = refl
is_present (rule.abstract_array d n) = refl
is_present _ = tt

pub direct_present : {names : Names} {a b : List Token} {t : Tree} → Derives names rule.direct_declarator a b t → is_absent_by t.label.kind ≡ false
direct_present d = is_present d

pub abstract_present : {names : Names} {a b : List Token} {t : Tree} → Derives names rule.direct_abstract a b t → is_absent_by t.label.kind ≡ false
abstract_present d = is_present d

pub absent_kind : is_absent_by kind.NoName ≡ true
unfolding is_absent_by
absent_kind = refl

abbrev IsUnnamed : Part → Tree → Type 0
IsUnnamed Part.abstract_declarator t = is_named (one t) ≡ false
IsUnnamed Part.direct_abstract t = is_named (one t) ≡ false
IsUnnamed part t = Unit {0}

is_unnamed : {names : Names} {part : Part} {a b : List Token} {t : Tree} → Derives names part a b t → IsUnnamed part t
unfolding is_named_by
is_unnamed (rule.abstract_pointer q d) = is_unnamed d
is_unnamed (rule.bare_pointer q) = refl
is_unnamed (rule.direct_of d) = is_unnamed d
is_unnamed (rule.abstract_in_parentheses d) = is_unnamed d
is_unnamed (rule.bare_array n) = refl
is_unnamed (rule.abstract_array d n) = is_unnamed d
is_unnamed _ = tt

pub abstract_unnamed : {names : Names} {a b : List Token} {t : Tree} → Derives names rule.direct_abstract a b t → is_named (one t) ≡ false
abstract_unnamed d = is_unnamed d

pub absent_unnamed : (n : ℕ) → is_named (one (plain_node kind.NoName n none)) ≡ false
unfolding is_named_by
absent_unnamed n = refl

-- the words `const` are qualifiers
pub qualifiers : (ts : List Token) → Qualifiers ts (behind_const ts)
unfolding behind_const behind_const_by
qualifiers [] = rule.no_qualifier
qualifiers (t ∷ rest) = by t.kind (record { start = t.start; end = t.end }) (qualifiers rest)
  where
    word_by : (text : List ℕ) (at : Place) (same : Bool) → bytes_eq text (codes "const") ≡ same → Qualifiers rest (behind_const rest)
        → Qualifiers (word text at ∷ rest) (if same then behind_const rest else word text at ∷ rest)
    word_by text at true e q = rw (word_is text _ e) (rule.qualifier q)
    word_by text at false e q = rule.no_qualifier

    by : (k : TokenKind) (at : Place) → Qualifiers rest (behind_const rest)
        → Qualifiers (record { kind = k; start = at.start; end = at.end } ∷ rest) (behind_const_by k (record { kind = k; start = at.start; end = at.end } ∷ rest) (behind_const rest))
    by (token.Word text) at q = word_by text at (bytes_eq text (codes "const")) refl q
    by _ at q = rule.no_qualifier

-- specs are not empty
pub some_specs : {names : Names} {typed : Bool} {a b : List Token} {ts : Forest} → Lists names (rule.specifier_list typed) a b ts → 1 ≤ forest_height ts
some_specs (rule.last_specifier t e) = omega arith
some_specs (rule.more_specifiers t ts) = omega arith

-- ---- parameters that are `void` alone

-- the tokens are `void`
pub data IsVoid : List Token → List Token → Type 0 where
  is_void : {at : Place} {b : List Token} → IsVoid (word (codes "void") at ∷ b) b

-- parameters with one parameter, which has these specs and nothing else
abbrev lone : Label → Label → ℕ → Forest → Bool
lone p s n specs = is_lone_void (tree p (tree s specs (one (plain_node kind.NoName n none))) none)

lone_kinds : (p s : Label) (word_kind name_kind : SynKind) (text text2 bytes bytes2 : List ℕ) (value value2 start start2 : ℕ)
    → is_lone_void (tree p (tree s (tree (record { kind = word_kind; text = text; bytes = bytes; value = value; start = start }) none none)
    (tree (record { kind = name_kind; text = text2; bytes = bytes2; value = value2; start = start2 }) none none)) none) ≡ true
    → is_absent_by name_kind ≡ true
unfolding is_absent_by
lone_kinds p s kind.Word kind.NoName text text2 bytes bytes2 value value2 start start2 e = refl
lone_kinds p s kind.Word _ text text2 bytes bytes2 value value2 start start2 e = absurd (true≢false (sym e))
lone_kinds p s _ _ text text2 bytes bytes2 value value2 start start2 e = absurd (true≢false (sym e))

lone_absent : (p s : Label) (specs : Forest) (n : Label) (kids : Forest) → is_lone_void (tree p (tree s specs (tree n kids none)) none) ≡ true → is_absent_by n.kind ≡ true
lone_absent p s (tree w none none) n none e = lone_kinds p s w.kind n.kind w.text n.text w.bytes n.bytes w.value n.value w.start n.start e
lone_absent p s _ n _ e = absurd (true≢false (sym e))

no_struct : (p s : Label) (n : ℕ) (text : List ℕ) (start : ℕ) (members : Forest) → lone p s n (one (text_node kind.StructSpec text start members)) ≡ true → ⊥
no_struct p s n text start none e = true≢false (sym e)
no_struct p s n text start (tree l k r) e = true≢false (sym e)

no_enum : (p s : Label) (n : ℕ) (text : List ℕ) (start : ℕ) (members : Forest) → lone p s n (one (text_node kind.EnumSpec text start members)) ≡ true → ⊥
no_enum p s n text start none e = true≢false (sym e)
no_enum p s n text start (tree l k r) e = true≢false (sym e)

two_specs : (p s : Label) (n : ℕ) (l : Label) (kids : Forest) (l2 : Label) (kids2 rest : Forest) → lone p s n (tree l kids (tree l2 kids2 rest)) ≡ true → ⊥
two_specs p s n l none l2 kids2 rest e = true≢false (sym e)
two_specs p s n l (tree l3 k r) l2 kids2 rest e = true≢false (sym e)

two_parameters : (p : Label) (kids : Forest) (q : Label) (kids2 rest : Forest) → is_lone_void (tree p kids (tree q kids2 rest)) ≡ true → ⊥
two_parameters p (tree s (tree w none none) (tree n none none)) q kids2 rest e = true≢false (sym e)
two_parameters p _ q kids2 rest e = true≢false (sym e)

struct_void : {names : Names} {a b : List Token} {t : Tree} (p s : Label) (n : ℕ) → Derives names rule.struct_specifier a b t → lone p s n (one t) ≡ true → ⊥
struct_void p s n (rule.struct_without_tag {at = at} {ms = ms} d) e = no_struct p s n [] at.start ms e
struct_void p s n (rule.struct_with_tag {text = text} {at = at} {ms = ms} h d) e = no_struct p s n text at.start ms e
struct_void p s n (rule.struct_tag {text = text} {at = at} h) e = no_struct p s n text at.start none e

enum_void : {names : Names} {a b : List Token} {t : Tree} (p s : Label) (n : ℕ) → Derives names rule.enum_specifier a b t → lone p s n (one t) ≡ true → ⊥
enum_void p s n (rule.enum_without_tag {at = at} {es = es} d) e = no_enum p s n [] at.start es e
enum_void p s n (rule.enum_with_tag {text = text} {at = at} {es = es} h d) e = no_enum p s n text at.start es e
enum_void p s n (rule.enum_tag {text = text} {at = at} h) e = no_enum p s n text at.start none e

specifier_void : {names : Names} {typed : Bool} {a b : List Token} {t : Tree} (p s : Label) (n : ℕ) → Derives names (rule.specifier typed) a b t → lone p s n (one t) ≡ true → IsVoid a b
specifier_void p s n (rule.specifier_word {text = text} h) e = rw (word_is text (codes "void") e) is_void
specifier_void p s n (rule.typedef_name {text = text} h i) e = rw (word_is text (codes "void") e) is_void
specifier_void p s n (rule.struct_of d) e = absurd (struct_void p s n d e)
specifier_void p s n (rule.enum_of d) e = absurd (enum_void p s n d e)

list_void : {names : Names} {typed : Bool} {a b : List Token} {ts : Forest} (p s : Label) (n : ℕ) → Lists names (rule.specifier_list typed) a b ts → lone p s n ts ≡ true → IsVoid a b
list_void p s n (rule.last_specifier d h) e = specifier_void p s n d e
list_void p s n (rule.more_specifiers {t = t} d (rule.last_specifier {t = u} d2 h)) e = absurd (two_specs p s n t.label t.kids u.label u.kids none e)
list_void p s n (rule.more_specifiers {t = t} d (rule.more_specifiers {t = u} {ts = us} d2 ds)) e = absurd (two_specs p s n t.label t.kids u.label u.kids us e)

specs_void : {names : Names} {a b : List Token} {t : Tree} (p : Label) (n : ℕ) → Derives names rule.specifiers a b t → lone p t.label n t.kids ≡ true → IsVoid a b
specs_void p n (rule.specs {ts = ts} d) e = list_void p (plain_node kind.Specs (rule.first_start ts) ts).label n d e

parameter_void : {names : Names} {a b : List Token} {t : Tree} → Derives names rule.parameter a b t → is_lone_void (one t) ≡ true → IsVoid a b
parameter_void (rule.named_parameter {s = s} {d = d} h i) e =
    absurd (true≢false (sym (lone_absent (plain_node kind.Param (rule.start s) none).label s.label s.kids d.label d.kids e) ∙ is_present i))
parameter_void (rule.abstract_parameter {s = s} {d = d} h i) e =
    absurd (true≢false (sym (lone_absent (plain_node kind.Param (rule.start s) none).label s.label s.kids d.label d.kids e) ∙ is_present i))
parameter_void (rule.bare_parameter {s = s} h) e = specs_void (plain_node kind.Param (rule.start s) none).label _ h e

pub parameters_void : {names : Names} {a b : List Token} {ts : Forest} → Lists names rule.parameters a b ts → is_lone_void ts ≡ true → IsVoid a b
parameters_void (rule.last_parameter d) e = parameter_void d e
parameters_void (rule.more_parameters {t = t} d (rule.last_parameter {t = u} d2)) e = absurd (two_parameters t.label t.kids u.label u.kids none e)
parameters_void (rule.more_parameters {t = t} d (rule.more_parameters {t = u} {ts = us} d2 ds)) e = absurd (two_parameters t.label t.kids u.label u.kids us e)

-- the tokens are `void` and then `)`
abbrev pub begins_void : List Token → Bool
begins_void ts = begins_with_word (codes "void") ts && begins_with_mark RightParenthesis (behind_one ts)

void_begins : {at : Place} {a b : List Token} → IsVoid a (mark RightParenthesis at ∷ b) → begins_void a ≡ true
unfolding ahead ahead_by
void_begins is_void = refl

pub no_lone_void : {names : Names} {at : Place} {a b : List Token} {ts : Forest} → Lists names rule.parameters a (mark RightParenthesis at ∷ b) ts → begins_void a ≡ false → is_lone_void ts ≡ false
no_lone_void {a = a} {ts = ts} d e = by (is_lone_void ts) refl
  where
    by : (same : Bool) → is_lone_void ts ≡ same → same ≡ false
    by true h = absurd (true≢false (sym (void_begins (parameters_void d h)) ∙ e))
    by false h = refl

pub void_split : (ts : List Token) → begins_void ts ≡ true → (at : Place) × (at2 : Place) × (ts ≡ word (codes "void") at ∷ mark RightParenthesis at2 ∷ behind_one (behind_one ts))
void_split ts e = by (word_split (codes "void") ts (both_true e).0) (mark_split RightParenthesis (behind_one ts) (both_true e).1)
  where
    by : (at : Place) × (ts ≡ word (codes "void") at ∷ behind_one ts)
        → (at2 : Place) × (behind_one ts ≡ mark RightParenthesis at2 ∷ behind_one (behind_one ts))
        → (at : Place) × (at2 : Place) × (ts ≡ word (codes "void") at ∷ mark RightParenthesis at2 ∷ behind_one (behind_one ts))
    by v p = (v.0, p.0, v.1 ∙ ap (λ c. word (codes "void") v.0 ∷ c) p.1)
