-- A row is read in the same way by every counter that is more than the tokens.
use Rattle.std.proofs.Common.{◌≡◌, ℕ, ◌<◌, ◌≤◌, Bool, true, false, List, [], ◌∷◌, length, length-append, if◌then◌else◌, refl, sym, ap, ◌∙◌, arith}
use Rattle.c_lexer.specs.declared.token.Token.{Token}
use Rattle.c_syntax.specs.Trees.{Tree, ◌then◌}
use Rattle.c_grammar.specs.Scopes.{Names}
use Rattle.c_grammar.specs.Derivation as rule
use Rattle.c_grammar.specs.Derivation.{Derives}
use Rattle.c_grammar.specs.Answers.{Answer, found, wrong, deep, and_then}
use Rattle.c_grammar.specs.Reading.{behind_one}
use Rattle.c_grammar.proofs.Found.Lengths.{part_length, row_length}
use Rattle.c_grammar.proofs.KeptSteps.{Keeps, keeps_found, keeps_wrong, keeps_deep}

unfoldable pub rest_of : {T : Type 0} → Answer T → List Token
rest_of (found t b) = b
rest_of (wrong b) = b
rest_of (deep b) = b

-- which of the three answers it is
unfoldable pub form_of : {T : Type 0} → Answer T → ℕ
form_of (found t b) = 0
form_of (wrong b) = 1
form_of (deep b) = 2

-- what is found has no more tokens behind it than before it
pub keeps_length : {T : Type 0} {n : ℕ} {F : List Token → Answer T} {ts b : List Token} {t : T} → Keeps n F ts → F ts ≡ found t b → length b ≤ length ts
unfolding rest_of form_of
keeps_length {F = F} (keeps_found p b2 u e m) f =
    let same : b2 ≡ _ = ap rest_of (sym (ap F e ∙ m b2 refl) ∙ f) in
    omega (arith, ap length same, ap length e, length-append p b2)
keeps_length {F = F} (keeps_wrong p b2 e m) f = absurd (omega (arith, ap form_of (sym f ∙ (ap F e ∙ m b2 refl))))
keeps_length {F = F} (keeps_deep p b2 e l m) f = absurd (omega (arith, ap form_of (sym f ∙ (ap F e ∙ m b2))))

-- the same reading and then readings that are the same
pub then_same : {T U : Type 0} (x : Answer T) {go on : T → List Token → Answer U}
    → ((t : T) (b : List Token) → x ≡ found t b → go t b ≡ on t b)
    → and_then x go ≡ and_then x on
unfolding and_then
then_same (found t b) same = same t b refl
then_same (wrong b) same = refl
then_same (deep b) same = refl

pub if_same : {T : Type 0} (b : Bool) {x y : T} (z : T) → (b ≡ true → x ≡ y) → (if b then x else z) ≡ (if b then y else z)
if_same true z same = same refl
if_same false z same = refl

pub behind_length : (ts : List Token) → length (behind_one ts) ≤ length ts
behind_length [] = omega arith
behind_length (t ∷ rest) = omega arith

-- ---- parts with a token

struct_specifier_length : {names : Names} {a b : List Token} {t : Tree} → Derives names rule.struct_specifier a b t → length b < length a
struct_specifier_length (rule.struct_without_tag m) = omega (arith, row_length m)
struct_specifier_length (rule.struct_with_tag e m) = omega (arith, row_length m)
struct_specifier_length (rule.struct_tag e) = omega arith

enum_specifier_length : {names : Names} {a b : List Token} {t : Tree} → Derives names rule.enum_specifier a b t → length b < length a
enum_specifier_length (rule.enum_without_tag m) = omega (arith, row_length m)
enum_specifier_length (rule.enum_with_tag e m) = omega (arith, row_length m)
enum_specifier_length (rule.enum_tag e) = omega arith

pub specifier_length : {names : Names} {typed : Bool} {a b : List Token} {t : Tree} → Derives names (rule.specifier typed) a b t → length b < length a
specifier_length (rule.specifier_word e) = omega arith
specifier_length (rule.typedef_name e f) = omega arith
specifier_length (rule.struct_of s) = struct_specifier_length s
specifier_length (rule.enum_of s) = enum_specifier_length s

pub member_length : {names : Names} {a b : List Token} {t : Tree} → Derives names rule.member a b t → length b < length a
member_length (rule.member_of s ds) = omega (arith, part_length s, row_length ds)
