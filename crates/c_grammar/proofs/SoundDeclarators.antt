-- What is read as a declarator, a parameter, a type name, a member or an enumerator within a budget is derived, where the next lower budget reads so.
use Rattle.std.proofs.Common.{◌≡◌, ℕ, zero, suc, ◌≤◌, true, false, ◌&&◌, List, ◌∷◌, if◌then◌else◌, sym, ◌∙◌, subst, arith, true≢false, codes, refl}
use Rattle.c_lexer.specs.declared.token.Punct.TheVariants.{LeftBracket, RightBracket, LeftParenthesis, RightParenthesis, Star, Semicolon, Equal}
use Rattle.c_lexer.specs.declared.token.Token.{Token}
use Rattle.c_syntax.specs.declared.kind.SynKind.TheVariants as kind
use Rattle.c_syntax.specs.Trees.{Tree, Forest, ◌then◌, one, two, plain_node, height}
use Rattle.c_grammar.specs.Vocabulary.{Place, mark, word, start_of, is_identifier}
use Rattle.c_grammar.specs.Scopes.{Names, after}
use Rattle.c_grammar.specs.Derivation as rule
use Rattle.c_grammar.specs.Derivation.{Derives, Lists, start, no_name, begins_with_typedef_name}
use Rattle.c_grammar.specs.Answers.{Answer, found, Ahead}
use Rattle.c_grammar.specs.Reading.{after_any, Reader, Goal, Rows, Mode, has_name, needs_name, is_absent_by, is_named, begins_with_mark, begins_with_word, behind_one, behind_const, goes_on_behind_void, parameters_in, void_in, takes_in, declared_suffix_by, declared_suffixes, undeclared_in, declared_by, declared_in, parameter_in, type_name_in, member_in, value_by, enumerator_by, enumerator_in}
use Rattle.c_grammar.specs.Meanings.{IsDeclared, with_name, without_name, absent}
use Rattle.c_grammar.proofs.SoundSteps.{Says, says_found, says_wrong, says_deep, Is, says_then, says_if, says_fit, says_any, says_close, says_expect, IsAhead, is_mark, is_word, ahead_is, both_true, mark_split}
use Rattle.c_grammar.proofs.SoundShapes.{direct_present, abstract_present, absent_kind, abstract_unnamed, absent_unnamed, qualifiers, begins_void, void_split, no_lone_void}
use Rattle.c_grammar.proofs.SoundExpressions.{IsSound, good, says_good}
use Rattle.c_grammar.proofs.SoundTypes.{specs_sound}

-- ---- declarators

-- a declarator as far as it is read, which more suffixes may follow
pub data IsChain : Mode → Names → List Token → List Token → Tree → Type 0 where
  named_chain : {mode : Mode} {names : Names} {a b : List Token} {t : Tree} → has_name mode ≡ true → Derives names rule.direct_declarator a b t → IsChain mode names a b t
  unnamed_chain : {mode : Mode} {names : Names} {a b : List Token} {t : Tree} → needs_name mode ≡ false → Derives names rule.direct_abstract a b t → IsChain mode names a b t
  no_chain : {mode : Mode} {names : Names} {b : List Token} → needs_name mode ≡ false → IsChain mode names b b (no_name b)

pub chain_ends : {mode : Mode} {names : Names} {a b : List Token} {t : Tree} → IsChain mode names a b t → IsDeclared mode names a b t
chain_ends (named_chain h d) = with_name h (rule.direct d)
chain_ends (unnamed_chain h d) = without_name h (rule.direct_of d)
chain_ends (no_chain h) = absent h

pub chain_array : {mode : Mode} {names : Names} {a b c : List Token} {at at2 : Place} {x : Tree} {n : Forest}
    → IsChain mode names a (mark LeftBracket at ∷ b) x
    → Lists (if is_absent_by x.label.kind then names else after names x) rule.optional_length b (mark RightBracket at2 ∷ c) n
    → IsChain mode names a c (plain_node kind.ArrayOf (start x) (x then n))
chain_array (named_chain h d) n = named_chain h (rule.array_of d (rw (direct_present d) at n))
chain_array (unnamed_chain h d) n = unnamed_chain h (rule.abstract_array d (rw (abstract_present d) at n))
chain_array (no_chain h) n = unnamed_chain h (rule.bare_array (rw absent_kind at n))

pub chain_named : {mode : Mode} {names : Names} {a b : List Token} {x : Tree}
    → IsChain mode names a b x
    → is_named (one x) ≡ true
    → (has_name mode ≡ true) × Derives names rule.direct_declarator a b x
chain_named (named_chain h d) e = (h, d)
chain_named (unnamed_chain h d) e = absurd (true≢false (sym e ∙ abstract_unnamed d))
chain_named (no_chain {b = b} h) e = absurd (true≢false (sym e ∙ absent_unnamed (start_of b)))

pub pointer_to : {mode : Mode} {names : Names} {at : Place} {a b : List Token} {x : Tree}
    → IsDeclared mode names (behind_const a) b x
    → IsDeclared mode names (mark Star at ∷ a) b (plain_node kind.Pointer at.start (one x))
pointer_to {a = a} p = by (qualifiers a) p
  where
    by : {mode : Mode} {names : Names} {at : Place} {a b c : List Token} {x : Tree}
        → rule.Qualifiers a b
        → IsDeclared mode names b c x
        → IsDeclared mode names (mark Star at ∷ a) c (plain_node kind.Pointer at.start (one x))
    by q (with_name h d) = with_name h (rule.pointer q d)
    by q (without_name h d) = without_name h (rule.abstract_pointer q d)
    by q (absent h) = without_name h (rule.bare_pointer q)

pub parenthesized : {mode : Mode} {names : Names} {at at2 : Place} {a b c : List Token} {x : Tree}
    → c ≡ mark RightParenthesis at2 ∷ b
    → is_absent_by x.label.kind ≡ false
    → IsDeclared mode names a c x
    → IsChain mode names (mark LeftParenthesis at ∷ a) b (plain_node kind.Paren at.start (one x))
parenthesized {names = names} {a = a} {x = x} e f (with_name h d) = named_chain h (rule.declarator_in_parentheses (subst (λ y. Derives names rule.declarator a y x) e d))
parenthesized {names = names} {a = a} {x = x} e f (without_name h d) = unnamed_chain h (rule.abstract_in_parentheses (subst (λ y. Derives names rule.abstract_declarator a y x) e d))
parenthesized e f (absent h) = absurd (true≢false (sym absent_kind ∙ f))

pub parameter_of : {names : Names} {a b c : List Token} {s x : Tree}
    → Derives names rule.specifiers a b s
    → IsDeclared Mode.either (after names s) b c x
    → Derives names rule.parameter a c (plain_node kind.Param (start s) (two s x))
parameter_of s (with_name h d) = rule.named_parameter s d
parameter_of s (without_name h d) = rule.abstract_parameter s d
parameter_of s (absent h) = rule.bare_parameter s

pub type_of : {names : Names} {a b c : List Token} {s x : Tree}
    → Derives names rule.specifiers a b s
    → IsDeclared Mode.unnamed (after names s) b c x
    → Derives names rule.type_name a c (plain_node kind.TypeName (start s) (two s x))
unfolding has_name
type_of s (with_name h d) = absurd (true≢false (sym h))
type_of s (without_name h d) = rule.derived_type s d
type_of s (absent h) = rule.bare_type s

pub declarator_of : {names : Names} {a b : List Token} {x : Tree} → IsDeclared Mode.named names a b x → Derives names rule.declarator a b x
unfolding needs_name
declarator_of (with_name h d) = d
declarator_of (without_name h d) = absurd (true≢false h)
declarator_of (absent h) = absurd (true≢false h)

-- ---- within the budget d

module _ (d : ℕ) (r : Reader) (sound : IsSound d r) where
  -- the chain of a declarator
  abbrev Chain : Mode → Names → List Token → Tree → List Token → Type 0
  Chain mode names = Is (suc d) (IsChain mode names)

  abbrev Declared : Mode → Names → List Token → Tree → List Token → Type 0
  Declared mode names = Is (suc d) (IsDeclared mode names)

  -- a list of parameters, or `void`, behind a declarator's parenthesis
  module _ {mode : Mode} {names : Names} {a rest : List Token} {at : Place} {x : Tree} {go : Tree → List Token → Answer Tree}
      (next : (y : Tree) (b : List Token) → Chain mode names a y b → Says (Declared mode names a) (go y b))
      (h : has_name mode ≡ true) (le : suc (height x) ≤ d)
      (g : Derives names rule.direct_declarator a (mark LeftParenthesis at ∷ rest) x) where
    upto : {c : List Token} → rest ≡ c → Derives names rule.direct_declarator a (mark LeftParenthesis at ∷ c) x
    upto e = subst (λ ts. Derives names rule.direct_declarator a (mark LeftParenthesis at ∷ ts) x) e g

    parameters_sound : begins_void rest ≡ false → Says (Declared mode names a) (parameters_in d r names x rest go)
    unfolding parameters_in
    parameters_sound e = says_then (sound.trees Rows.parameters _ _) (λ ps behind s.
        says_close RightParenthesis s (λ at2 end c. next _ _ (good (named_chain h (rule.takes g c (no_lone_void c e))) (omega (arith, le)))))

    void_sound : begins_with_word (codes "void") rest ≡ true → Says (Declared mode names a) (void_in d r names x rest (behind_one rest) go)
    unfolding void_in
    void_sound v = says_if (begins_with_mark RightParenthesis (behind_one rest))
        (λ e. next _ _ (good (named_chain h (rule.takes_void (upto (void_split rest (rw (v, e) refl)).2))) (omega (arith, le))))
        (λ e. says_if (goes_on_behind_void (behind_one rest))
        (λ _. says_fit _ _ _ (λ _. parameters_sound (rw (v, e) refl)))
        (λ _. says_wrong))

    takes_sound : Says (Declared mode names a) (takes_in d r names x rest go)
    unfolding takes_in
    takes_sound = says_if (begins_with_mark RightParenthesis rest)
        (λ e. next _ _ (good (named_chain h (rule.takes_anything (upto (mark_split RightParenthesis rest e).1))) (omega (arith, le))))
        (λ _. says_if (begins_with_word (codes "void") rest) void_sound (λ e. parameters_sound (rw e refl)))

  chain_here : {mode : Mode} {names : Names} {a ts : List Token} {x : Tree} → Chain mode names a x ts → Says (Declared mode names a) (found x ts)
  chain_here g = says_found (record { holds = chain_ends g.holds; fits = g.fits })

  declared_suffix_sound : {mode : Mode} {names : Names} {a ts : List Token} {x : Tree} {go : Tree → List Token → Answer Tree} {h : Ahead}
      → ((y : Tree) (b : List Token) → Chain mode names a y b → Says (Declared mode names a) (go y b))
      → Chain mode names a x ts
      → IsAhead ts h
      → Says (Declared mode names a) (declared_suffix_by d r names x ts go h)
  unfolding declared_suffix_by after_any is_absent_by
  declared_suffix_sound next g (is_mark {p = LeftBracket}) = says_fit _ _ _ (λ le.
      says_then (sound.trees Rows.optional_length _ _) (λ n behind s.
      says_close RightBracket s (λ at2 end c. next _ _ (good (chain_array g.holds c) (omega arith)))))
  declared_suffix_sound {x = x} next g (is_mark {p = LeftParenthesis}) = says_if (is_named (one x))
      (λ e. let n = chain_named g.holds e in says_fit _ _ _ (λ le. takes_sound next n.0 le n.1))
      (λ e. chain_here g)
  declared_suffix_sound next g _ = chain_here g

  declared_suffixes_sound : (k : ℕ) {mode : Mode} {names : Names} {a : List Token} (x : Tree) (ts : List Token)
      → Chain mode names a x ts
      → Says (Declared mode names a) (declared_suffixes d r k names x ts)
  unfolding declared_suffixes
  declared_suffixes_sound zero x ts g = declared_suffix_sound (λ y b s. says_deep) g (ahead_is ts)
  declared_suffixes_sound (suc k) x ts g = declared_suffix_sound (λ y b s. declared_suffixes_sound k y b s) g (ahead_is ts)

  undeclared_sound : (mode : Mode) (names : Names) (ts : List Token) → Says (Declared mode names ts) (undeclared_in d r mode names ts)
  unfolding undeclared_in
  undeclared_sound mode names ts = says_if (needs_name mode)
      (λ e. says_wrong)
      (λ e. says_any d ts (λ le. declared_suffixes_sound d (no_name ts) ts (good (no_chain e) (omega (arith, le)))))

  declared_sound_by : (mode : Mode) (names : Names) {ts : List Token} {h : Ahead} → IsAhead ts h → Says (Declared mode names ts) (declared_by d r mode names ts h)
  unfolding declared_by
  declared_sound_by mode names (is_mark {p = Star}) = says_fit _ _ _ (λ le.
      says_then (sound.tree (Goal.declared mode) _ _) (λ x end s. says_good (pointer_to s.holds) (omega (arith, s.fits))))
  declared_sound_by mode names (is_mark {p = LeftParenthesis}) = says_fit _ _ _ (λ le.
      says_then (sound.tree (Goal.declared mode) _ _) (λ x behind s.
      says_if (is_absent_by x.label.kind)
      (λ e. says_wrong)
      (λ e. says_expect RightParenthesis behind (λ at2 c h. declared_suffixes_sound d _ _ (good (parenthesized h e s.holds) (omega (arith, s.fits)))))))
  declared_sound_by mode names (is_word {text = text}) = says_if (is_identifier text && has_name mode)
      (λ e. says_fit _ _ _ (λ le. declared_suffixes_sound d _ _ (good (named_chain (both_true e).1 (rule.declared_name (both_true e).0)) (omega (arith, le)))))
      (λ e. undeclared_sound mode names _)
  declared_sound_by mode names _ = undeclared_sound mode names _

  pub declared_sound : (mode : Mode) (names : Names) (ts : List Token) → Says (Is (suc d) (IsDeclared mode names) ts) (declared_in d r mode names ts)
  unfolding declared_in
  declared_sound mode names ts = declared_sound_by mode names (ahead_is ts)

  pub parameter_sound : (names : Names) (ts : List Token) → Says (Is (suc d) (Derives names rule.parameter) ts) (parameter_in d r names ts)
  unfolding parameter_in
  parameter_sound names ts = says_then (specs_sound d r sound names ts) (λ s rest g.
      says_then (sound.tree (Goal.declared Mode.either) _ _) (λ x end h. says_good (parameter_of g.holds h.holds) (omega (arith, g.fits, h.fits))))

  pub type_name_sound : (names : Names) (ts : List Token) → Says (Is (suc d) (Derives names rule.type_name) ts) (type_name_in d r names ts)
  unfolding type_name_in
  type_name_sound names ts = says_then (specs_sound d r sound names ts) (λ s rest g.
      says_then (sound.tree (Goal.declared Mode.unnamed) _ _) (λ x end h. says_good (type_of g.holds h.holds) (omega (arith, g.fits, h.fits))))

  pub member_sound : (names : Names) (ts : List Token) → Says (Is (suc d) (Derives names rule.member) ts) (member_in d r names ts)
  unfolding member_in
  member_sound names ts = says_then (specs_sound d r sound names ts) (λ s rest g.
      says_then (sound.trees Rows.declarators _ _) (λ xs behind h.
      says_close Semicolon h (λ at end c. says_good (rule.member_of g.holds c) (omega (arith, g.fits, h.fits)))))

  value_sound : (names : Names) (text : List ℕ) (at : Place) → is_identifier text ≡ true → 1 ≤ d → {ts : List Token} {h : Ahead} → IsAhead ts h
      → Says (Is (suc d) (Derives names rule.enumerator) (word text at ∷ ts)) (value_by d r names text at ts h)
  unfolding value_by
  value_sound names text at e le (is_mark {p = Equal}) = says_fit _ _ _ (λ le2.
      says_then (sound.tree Goal.conditional _ _) (λ x end s. says_good (rule.enumerator_value e s.holds) (omega (arith, s.fits))))
  value_sound names text at e le _ = says_good (rule.enumerator_name e) (omega (arith, le))

  enumerator_sound_by : (names : Names) {ts : List Token} {h : Ahead} → IsAhead ts h → Says (Is (suc d) (Derives names rule.enumerator) ts) (enumerator_by d r names ts h)
  unfolding enumerator_by
  enumerator_sound_by names (is_word {text = text} {at = at} {rest = rest}) = says_if (is_identifier text)
      (λ e. says_fit _ _ _ (λ le. value_sound names text at e le (ahead_is rest)))
      (λ e. says_wrong)
  enumerator_sound_by names _ = says_wrong

  pub enumerator_sound : (names : Names) (ts : List Token) → Says (Is (suc d) (Derives names rule.enumerator) ts) (enumerator_in d r names ts)
  unfolding enumerator_in
  enumerator_sound names ts = enumerator_sound_by names (ahead_is ts)
