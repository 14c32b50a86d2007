-- Declarators, by their first tokens.
use Rattle.std.proofs.Common.{◌≡◌, ◌≤◌, ◌<◌, ℕ, zero, suc, Bool, true, false, ◌&&◌, List, [], ◌∷◌, length, codes, if◌then◌else◌, refl, sym, ap, ◌∙◌, arith, bytes_eq, true≢false}
use Rattle.c_lexer.specs.declared.token.Token.{Token}
use Rattle.c_lexer.specs.declared.token.Punct.{Punct}
use Rattle.c_lexer.specs.declared.token.Punct.TheVariants.{LeftParenthesis, Star}
use Rattle.c_lexer.specs.declared.token.TokenKind.{TokenKind}
use Rattle.c_lexer.specs.declared.token.TokenKind.TheVariants as token
use Rattle.c_grammar.specs.Scopes.{Names}
use Rattle.c_grammar.specs.Vocabulary.{is_identifier, Place, word, mark, start_of}
use Rattle.c_grammar.specs.Derivation.{no_name}
use Rattle.c_grammar.specs.Answers.{wrong, deep, Ahead, ahead}
use Rattle.c_grammar.proofs.SoundSteps.{IsAhead, is_mark, is_word, ahead_is, mark_split}
use Rattle.c_grammar.specs.Reading as reading
use Rattle.c_grammar.specs.Reading.{Reader, begins_with_mark, begins_with_mark_by, behind_one, behind_const, behind_const_by, is_absent_by, if_any, undeclared_in, declared_in, declared_by, declared_suffixes}
use Rattle.c_parts.specs.declared.declarator.Mode.{Mode}
use Rattle.c_parts.specs.declared.declarator.Mode.TheVariants.{Named, Unnamed, Either}
use Rattle.c_parts.specs.Kinds.{mode_of}
use Rattle.c_parser.specs.Gives.{most_behind}
use Rattle.c_parser.specs.Steps.{pointer_of, enclosed_of, named_of}
use Rattle.c_parser.proofs.ExpressionLaws.{ahead_mark}
use Rattle.c_parser.proofs.Stopping.{chosen, not_chosen}
use Rattle.c_parser.proofs.Tokens.{ahead_word}

-- ---- modes and tokens

pub named_fewer : (mode : Mode) (n : ℕ) → n ≤ most_behind mode n
named_fewer Named n = omega arith
named_fewer Unnamed n = omega arith
named_fewer Either n = omega arith

pub behind_fewer : (mode : Mode) (n : ℕ) → most_behind mode n ≤ suc n
behind_fewer Named n = omega arith
behind_fewer Unnamed n = omega arith
behind_fewer Either n = omega arith

pub unnamed_fewer : (mode : Mode) (n : ℕ) → reading.needs_name (mode_of mode) ≡ false → suc n ≤ most_behind mode n
unfolding reading.needs_name
unnamed_fewer Named n e = absurd (true≢false e)
unnamed_fewer Unnamed n e = omega arith
unnamed_fewer Either n e = omega arith

pub behind_const_shorter : (ts : List Token) → length (behind_const ts) ≤ length ts
unfolding behind_const behind_const_by
behind_const_shorter [] = omega arith
behind_const_shorter (t ∷ rest) = by t.kind (behind_const_shorter rest)
  where
    choose : (b : Bool) → length (behind_const rest) ≤ length rest → length (if b then behind_const rest else (t ∷ rest)) ≤ length (t ∷ rest)
    choose true h = omega (arith, h)
    choose false h = omega arith

    by : (k : TokenKind) → length (behind_const rest) ≤ length rest → length (behind_const_by k (t ∷ rest) (behind_const rest)) ≤ length (t ∷ rest)
    by (token.Word text) h = choose (bytes_eq text (codes "const")) h
    by other h = omega arith

-- behind a star, the words `const`, and a declarator
pub shorter_pointer : (mode : Mode) (ts mid left rest : List Token) → mid ≡ behind_one ts → left ≡ behind_const mid → length rest < most_behind mode (length left) → 1 ≤ length ts → length rest < length ts
shorter_pointer mode [] mid left rest m l h some = absurd (omega (arith, some))
shorter_pointer mode (t ∷ ts) mid left rest m l h some =
    let a = ap length m in let b = ap length l in let c = behind_const_shorter mid in let e = behind_fewer mode (length left) in omega (arith, a, b, c, e, h)

-- ---- the first token

module _ (d : ℕ) (r : Reader) (mode : reading.Mode) (names : Names) (ts : List Token) where
  pub declared_nothing : ts ≡ [] → declared_in d r mode names ts ≡ undeclared_in d r mode names ts
  unfolding declared_in declared_by ahead
  declared_nothing e = rw e refl

  module _ (t : Token) (split : ts ≡ t ∷ behind_one ts) where
    -- a mark's place
    mark_start : (p : Punct) (at : Place) → ts ≡ mark p at ∷ behind_one ts → at.start ≡ t.start
    mark_start p at e = ap start_of (sym e ∙ split)

    pub declared_star : begins_with_mark Star ts ≡ true → declared_in d r mode names ts ≡ pointer_of d r mode t.start names ts
    unfolding declared_in declared_by
    declared_star e =
        let s = mark_split Star ts e in
        ap (declared_by d r mode names ts) (ahead_mark Star ts s.0 s.1) ∙ ap (λ at. pointer_of d r mode at names ts) (mark_start Star s.0 s.1)

    pub declared_parenthesis : begins_with_mark LeftParenthesis ts ≡ true → declared_in d r mode names ts ≡ enclosed_of d r mode t.start names ts
    unfolding declared_in declared_by
    declared_parenthesis e =
        let s = mark_split LeftParenthesis ts e in
        ap (declared_by d r mode names ts) (ahead_mark LeftParenthesis ts s.0 s.1) ∙ ap (λ at. enclosed_of d r mode at names ts) (mark_start LeftParenthesis s.0 s.1)

    pub declared_name : (name text : List ℕ) → t.kind ≡ token.Word name → text ≡ name → is_identifier text ≡ true → reading.has_name mode ≡ true
        → declared_in d r mode names ts ≡ named_of d r text t.start names ts
    unfolding declared_in declared_by
    declared_name name text is same identifier named =
        ap (declared_by d r mode names ts) (ahead_word ts t text split (is ∙ ap token.Word (sym same)))
        ∙ chosen (is_identifier text && reading.has_name mode) _ _ (ap (λ b. b && reading.has_name mode) identifier ∙ named)

    -- neither a name that may stand here, nor a mark that begins a declarator
    pub declared_other : begins_with_mark Star ts ≡ false → begins_with_mark LeftParenthesis ts ≡ false
        → ((text : List ℕ) → t.kind ≡ token.Word text → (is_identifier text && reading.has_name mode) ≡ false)
        → declared_in d r mode names ts ≡ undeclared_in d r mode names ts
    unfolding declared_in declared_by
    declared_other star parenthesis name = by (ahead_is ts) star parenthesis (λ text at rest e. name text (ap first_kind (sym split ∙ e)))
      where
        first_kind : List Token → TokenKind
        first_kind [] = token.Word []
        first_kind (u ∷ us) = u.kind

        by : {us : List Token} {h : Ahead} → IsAhead us h → begins_with_mark_by Star h ≡ false → begins_with_mark_by LeftParenthesis h ≡ false
            → ((text : List ℕ) (at : Place) (rest : List Token) → us ≡ word text at ∷ rest → (is_identifier text && reading.has_name mode) ≡ false)
            → declared_by d r mode names ts h ≡ undeclared_in d r mode names ts
        by (is_word {text = text} {at = at} {rest = rest}) e f g = not_chosen (is_identifier text && reading.has_name mode) _ _ (g text at rest refl)
        by (is_mark {p = Star}) e f g = absurd (true≢false e)
        by (is_mark {p = LeftParenthesis}) e f g = absurd (true≢false f)
        by _ e f g = refl

  -- ---- nothing before the suffixes

  pub name_needed : reading.needs_name mode ≡ true → undeclared_in d r mode names ts ≡ wrong ts
  unfolding undeclared_in
  name_needed e = chosen _ _ _ e

  module _ (unnamed : reading.needs_name mode ≡ false) where
    pub undeclared_deep : d < 1 → undeclared_in d r mode names ts ≡ deep ts
    unfolding undeclared_in if_any
    undeclared_deep beyond = not_chosen _ _ _ unnamed ∙ by d beyond
      where
        by : (k : ℕ) → k < 1 → if_any k ts (declared_suffixes d r d names (no_name ts) ts) ≡ deep ts
        by zero beyond = refl
        by (suc k) beyond = absurd (omega (arith, beyond))

    pub undeclared_read : 1 ≤ d → undeclared_in d r mode names ts ≡ declared_suffixes d r d names (no_name ts) ts
    unfolding undeclared_in if_any
    undeclared_read some = not_chosen _ _ _ unnamed ∙ by d some
      where
        by : (k : ℕ) → 1 ≤ k → if_any k ts (declared_suffixes d r d names (no_name ts) ts) ≡ declared_suffixes d r d names (no_name ts) ts
        by zero some = absurd (omega (arith, some))
        by (suc k) some = refl

-- no identifier, or no name may stand here
pub no_name_first : (a b : Bool) → a ≡ false → (a && b) ≡ false
no_name_first a b e = ap (λ a. a && b) e

pub no_name_allowed : (a b : Bool) → b ≡ false → (a && b) ≡ false
no_name_allowed true b e = e
no_name_allowed false b e = refl

pub same_word : (a b : List ℕ) → token.Word a ≡ token.Word b → a ≡ b
same_word a b e = ap text_of e
  where
    text_of : TokenKind → List ℕ
    text_of (token.Word text) = text
    text_of other = []

pub mark_some : (p : Punct) (ts : List Token) → begins_with_mark p ts ≡ true → 1 ≤ length ts
unfolding ahead
mark_some p [] e = absurd (true≢false (sym e))
mark_some p (t ∷ ts) e = omega arith
