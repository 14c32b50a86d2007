-- Where a declarator goes too deep, the tokens before the place are completed, where the next lower budget reads so.
use Rattle.std.proofs.Common.{◌≡◌, ℕ, zero, suc, ◌+◌, ◌≤◌, ◌<◌, true, false, ◌&&◌, List, [], ◌∷◌, ◌++◌, length, nat_lt, refl, sym, subst, arith, codes}
use Rattle.c_lexer.specs.declared.token.Punct.TheVariants.{LeftBracket, RightBracket, LeftParenthesis, RightParenthesis, Star}
use Rattle.c_lexer.specs.declared.token.Token.{Token}
use Rattle.c_syntax.specs.declared.kind.SynKind.TheVariants as kind
use Rattle.c_syntax.specs.Trees.{Tree, Forest, none, one, plain_node, height}
use Rattle.c_grammar.specs.Vocabulary.{Place, mark, word, is_identifier}
use Rattle.c_grammar.specs.Scopes.{Names, opened, after}
use Rattle.c_grammar.specs.Derivation as rule
use Rattle.c_grammar.specs.Derivation.{Derives, Lists, Qualifiers, no_name}
use Rattle.c_grammar.specs.Fronts.{first}
use Rattle.c_grammar.specs.Answers.{Answer, Ahead, fit}
use Rattle.c_grammar.specs.Reading.{Reader, Goal, Rows, Mode, has_name, needs_name, is_absent_by, is_named, after_any, begins_with_mark, begins_with_word, behind_one, behind_const, goes_on_behind_void, parameters_in, void_in, takes_in, declared_suffix_by, declared_suffixes, undeclared_in, declared_by, declared_in}
use Rattle.c_grammar.specs.Meanings.{IsDeclared, with_name, without_name, absent}
use Rattle.c_grammar.proofs.FrontSteps.{same_start}
use Rattle.c_grammar.proofs.FrontLaw.{qualifiers_front, fronts_of}
use Rattle.c_grammar.proofs.SoundSteps.{before, IsAhead, is_mark, is_word, ahead_is, both_true, word_split}
use Rattle.c_grammar.proofs.SoundShapes.{qualifiers, begins_void, no_lone_void}
use Rattle.c_grammar.proofs.SoundExpressions.{IsSound}
use Rattle.c_grammar.proofs.SoundDeclarators.{IsChain, named_chain, no_chain, chain_ends, chain_array, chain_named, parenthesized}
use Rattle.c_grammar.proofs.TooDeep.Steps.{Has, has, Cut, cut_tail, Cuts, cuts_found, cuts_wrong, cuts_deep, cuts_as, cuts_first, cuts_token, cuts_if, cuts_fit, cuts_any, Behind, cuts_behind, cuts_then, cuts_last, cuts_expect, cuts_behind_mark, cuts_behind_word}
use Rattle.c_grammar.proofs.TooDeep.Parts.{HasCuts, cuts_some_tree, cuts_trees, a_mark, a_name, name_declarator}
use Rattle.c_grammar.proofs.TooDeep.TypesSteps.{cuts_expect_at}
use Rattle.c_grammar.proofs.TooDeep.Void.{takes_parameters, void_cut}

-- ---- least declarators

-- behind `*`
abbrev least_pointed : Mode → List Token
least_pointed Mode.named = a_name ∷ []
least_pointed Mode.unnamed = []
least_pointed Mode.either = []

pointed : (mode : Mode) {names : Names} (z : List Token) → Has (IsDeclared mode names) (least_pointed mode ++ z) z
unfolding has_name needs_name
pointed Mode.named z = has _ (with_name refl name_declarator)
pointed Mode.unnamed z = has _ (absent refl)
pointed Mode.either z = has _ (absent refl)

-- behind `(`
abbrev least_enclosed : Mode → List Token
least_enclosed Mode.named = a_name ∷ a_mark RightParenthesis ∷ []
least_enclosed Mode.unnamed = a_mark Star ∷ a_mark RightParenthesis ∷ []
least_enclosed Mode.either = a_mark Star ∷ a_mark RightParenthesis ∷ []

enclosed : (mode : Mode) {names : Names} {at : Place} (z : List Token) → Has (IsDeclared mode names) (mark LeftParenthesis at ∷ (least_enclosed mode ++ z)) z
unfolding has_name needs_name
enclosed Mode.named z = has _ (with_name refl (rule.direct (rule.declarator_in_parentheses name_declarator)))
enclosed Mode.unnamed z = has _ (without_name refl (rule.direct_of (rule.abstract_in_parentheses (rule.bare_pointer rule.no_qualifier))))
enclosed Mode.either z = has _ (without_name refl (rule.direct_of (rule.abstract_in_parentheses (rule.bare_pointer rule.no_qualifier))))

pointer_behind : {mode : Mode} {names : Names} {at : Place} {a b c : List Token} {x : Tree}
    → Qualifiers a b
    → IsDeclared mode names b c x
    → Has (IsDeclared mode names) (mark Star at ∷ a) c
pointer_behind q (with_name h d) = has _ (with_name h (rule.pointer q d))
pointer_behind q (without_name h d) = has _ (without_name h (rule.abstract_pointer q d))
pointer_behind q (absent h) = has _ (without_name h (rule.bare_pointer q))

parentheses_around : {mode : Mode} {names : Names} {at at2 : Place} {a z : List Token} {x : Tree}
    → IsDeclared mode names a (mark RightParenthesis at2 ∷ z) x
    → length (mark RightParenthesis at2 ∷ z) < length a
    → Has (IsDeclared mode names) (mark LeftParenthesis at ∷ a) z
parentheses_around (with_name h d) l = has _ (with_name h (rule.direct (rule.declarator_in_parentheses d)))
parentheses_around (without_name h d) l = has _ (without_name h (rule.direct_of (rule.abstract_in_parentheses d)))
parentheses_around (absent h) l = absurd (omega (arith, l))

-- ---- within the budget d

-- what completes from behind a chain
abbrev FromChain : Mode → Names → Tree → List Token → List Token → Type 0
FromChain mode names x = Behind (IsChain mode names) x (Has (IsDeclared mode names))

module _ (d : ℕ) (r : Reader) (sound : IsSound d r) (cuts : HasCuts d r) where
  -- the parameters of a declarator with a name
  module _ (mode : Mode) (names : Names) (x : Tree) (at : Place) {go : Tree → List Token → Answer Tree} (h : is_named (one x) ≡ true)
      (next : (y : Tree) (b : List Token) → suc (height x) ≤ height y → Cuts (FromChain mode names y) b (go y b)) where
    -- from behind the parenthesis
    abbrev FromParenthesis : List Token → List Token → Type 0
    FromParenthesis c z = FromChain mode names x (mark LeftParenthesis at ∷ c) z

    with_parameters : {a c z : List Token} {at2 : Place} {ps : Forest}
        → Lists (opened (after names x)) rule.parameters c (mark RightParenthesis at2 ∷ z) ps
        → IsChain mode names a (mark LeftParenthesis at ∷ c) x
        → Has (IsDeclared mode names) a z
    with_parameters m g = let n = chain_named g h in has _ (with_name n.0 (rule.direct (takes_parameters n.1 m).holds))

    parameters_cuts : (rest : List Token) → begins_void rest ≡ false → Cuts FromParenthesis rest (parameters_in d r names x rest go)
    unfolding parameters_in
    parameters_cuts rest e = cuts_then {S = Lists (opened (after names x)) rule.parameters}
        (cuts.trees Rows.parameters refl (opened (after names x)) rest) (sound.trees Rows.parameters (opened (after names x)) rest) (λ t b g. fronts_of g.holds)
        (a_mark RightParenthesis ∷ []) (λ z _. refl) (λ z _ c ps m a g. with_parameters m g)
        (λ ps behind s. cuts_expect_at RightParenthesis behind (λ at2 end f.
        cuts_as (λ c z go_on b m a g. let n = chain_named g h in go_on a (named_chain n.0 (rule.takes n.1 m (no_lone_void (before s f) e)))) (next _ _ (omega arith))))

    void_cuts : (rest : List Token) → begins_with_word (codes "void") rest ≡ true → Cuts FromParenthesis rest (void_in d r names x rest (behind_one rest) go)
    unfolding void_in fit
    void_cuts rest v = cuts_if (begins_with_mark RightParenthesis (behind_one rest))
        (λ e. cuts_behind_word (codes "void") rest v (λ at2. cuts_behind_mark RightParenthesis (behind_one rest) e (λ at3.
        cuts_as (λ c z go_on a g. let n = chain_named g h in go_on a (named_chain n.0 (rule.takes_void n.1))) (next _ _ (omega arith)))))
        (λ e. cuts_if (goes_on_behind_void (behind_one rest))
        (λ k. cuts_if (nat_lt d 4)
        (λ _. cuts_deep (place k (word_split (codes "void") rest v)))
        (λ _. parameters_cuts rest (rw (v, e) refl)))
        (λ _. cuts_wrong))
      where
        place : goes_on_behind_void (behind_one rest) ≡ true → (at2 : Place) × (rest ≡ word (codes "void") at2 ∷ behind_one rest) → Cut FromParenthesis rest (behind_one (behind_one rest))
        place k w = cut_tail {R = Has (Lists (opened (after names x)) rule.parameters)} (a_mark RightParenthesis ∷ [])
            (subst (λ ts. Cut (Has (Lists (opened (after names x)) rule.parameters)) ts (behind_one (behind_one rest))) (sym w.1)
            (void_cut (opened (after names x)) w.0 (ahead_is (behind_one rest)) k))
            (λ z _. refl) (λ z _ c m a g. with_parameters m.holds g)

    takes_cuts : (rest : List Token) → Cuts FromParenthesis rest (takes_in d r names x rest go)
    unfolding takes_in
    takes_cuts rest = cuts_if (begins_with_mark RightParenthesis rest)
        (λ e. cuts_behind_mark RightParenthesis rest e (λ at2.
        cuts_as (λ c z go_on a g. let n = chain_named g h in go_on a (named_chain n.0 (rule.takes_anything n.1))) (next _ _ (omega arith))))
        (λ _. cuts_if (begins_with_word (codes "void") rest) (void_cuts rest) (λ e. parameters_cuts rest (rw e refl)))

  -- a suffix behind x, and `go` behind it
  declared_suffix_cuts : (mode : Mode) (names : Names) {ts : List Token} {h : Ahead} {go : Tree → List Token → Answer Tree} (x : Tree)
      → ((y : Tree) (b : List Token) → suc (height x) ≤ d → suc (height x) ≤ height y → Cuts (FromChain mode names y) b (go y b))
      → IsAhead ts h
      → Cuts (FromChain mode names x) ts (declared_suffix_by d r names x ts go h)
  unfolding declared_suffix_by after_any
  declared_suffix_cuts mode names x next (is_mark {p = LeftBracket} {rest = rest}) = cuts_fit _ _ (a_mark RightBracket ∷ []) (λ z _ a g. has _ (chain_ends (chain_array g rule.no_length))) (λ k.
      cuts_token (cuts_trees d r sound cuts Rows.optional_length refl (after_any names x) rest (a_mark RightBracket ∷ []) (λ z _. refl)
      (λ z _ b n m a g. has _ (chain_ends (chain_array g m))) (λ n behind.
      cuts_expect RightBracket behind (λ at c. cuts_as (λ b z go_on b2 m a g. go_on a (chain_array g m)) (next _ _ k (omega arith))))))
  declared_suffix_cuts mode names x next (is_mark {p = LeftParenthesis} {at = at} {rest = rest}) = cuts_if (is_named (one x))
      (λ e. cuts_fit _ _ (a_mark RightParenthesis ∷ []) (λ z _ a g. let n = chain_named g e in has _ (with_name n.0 (rule.direct (rule.takes_anything n.1)))) (λ k.
      cuts_token (takes_cuts mode names x at e (λ y b. next y b k) rest)))
      (λ e. cuts_found)
  declared_suffix_cuts mode names x next _ = cuts_found

  -- with k suffixes more, where k and the height make up the budget
  declared_suffixes_cuts : (k : ℕ) (mode : Mode) (names : Names) (x : Tree) (ts : List Token) → d ≤ k + height x
      → Cuts (FromChain mode names x) ts (declared_suffixes d r k names x ts)
  unfolding declared_suffixes
  declared_suffixes_cuts zero mode names x ts enough = declared_suffix_cuts mode names x (λ y b fits higher. absurd (omega (arith, enough, fits))) (ahead_is ts)
  declared_suffixes_cuts (suc k) mode names x ts enough = declared_suffix_cuts mode names x (λ y b fits higher. declared_suffixes_cuts k mode names y b (omega (arith, enough, higher))) (ahead_is ts)

  -- the chain that stands first
  chain_first : {mode : Mode} {names : Names} {ts : List Token} (x : Tree)
      → ((a z : List Token) → first a ≡ first ts → IsChain mode names a a x)
      → Cuts (Has (IsDeclared mode names)) ts (declared_suffixes d r d names x ts)
  chain_first {mode} {names} {ts} x c = cuts_first (declared_suffixes_cuts d mode names x ts (omega arith)) (λ a z e go_on. go_on a (c a z e))

  undeclared_cuts : (mode : Mode) (names : Names) (ts : List Token) → (needs_name mode ≡ false → 1 ≤ d) → Cuts (Has (IsDeclared mode names)) ts (undeclared_in d r mode names ts)
  unfolding undeclared_in
  undeclared_cuts mode names ts some = cuts_if (needs_name mode)
      (λ e. cuts_wrong)
      (λ e. cuts_any d (some e) (chain_first (no_name ts) (λ a z f. subst (λ n. IsChain mode names a a (plain_node kind.NoName n none)) (same_start a ts f) (no_chain e))))

  declared_cuts_by : (mode : Mode) (names : Names) {ts : List Token} {h : Ahead} → (needs_name mode ≡ false → 1 ≤ d) → IsAhead ts h
      → Cuts (Has (IsDeclared mode names)) ts (declared_by d r mode names ts h)
  unfolding declared_by
  declared_cuts_by mode names some (is_mark {p = Star} {at = at} {rest = rest}) = cuts_fit 2 d (least_pointed mode) (λ z _. pointer_behind rule.no_qualifier (pointed mode z).holds) (λ k.
      cuts_token (cuts_behind Qualifiers (qualifiers_front (qualifiers rest)) (cuts_last {S = IsDeclared mode names} (cuts.any (Goal.declared mode) refl k names (behind_const rest))
      [] (λ z h. h) (λ z _ b t g a q. pointer_behind q g)
      (λ x end. cuts_found))))
  declared_cuts_by mode names some (is_mark {p = LeftParenthesis} {at = at} {rest = rest}) = cuts_fit 2 d (least_enclosed mode) (λ z _. enclosed mode z) (λ k.
      cuts_token (cuts_some_tree d r sound cuts (Goal.declared mode) refl k names rest (a_mark RightParenthesis ∷ []) (λ z _. refl) (λ z _ a t l g. parentheses_around g l)
      (λ x behind. cuts_if (is_absent_by x.label.kind)
      (λ _. cuts_wrong)
      (λ e. cuts_expect RightParenthesis behind (λ at2 c.
      cuts_as (λ b z go_on a g. go_on (mark LeftParenthesis at ∷ a) (parenthesized refl e g)) (declared_suffixes_cuts d mode names (plain_node kind.Paren at.start (one x)) c (omega arith)))))))
  declared_cuts_by mode names some (is_word {text = text} {at = at} {rest = rest}) = cuts_if (is_identifier text && has_name mode)
      (λ e. cuts_fit 1 d [] (λ z _. has _ (with_name (both_true e).1 (rule.direct (rule.declared_name (both_true e).0)))) (λ k.
      cuts_token (cuts_as (λ b z go_on. go_on (word text at ∷ b) (named_chain (both_true e).1 (rule.declared_name (both_true e).0))) (declared_suffixes_cuts d mode names _ rest (omega arith)))))
      (λ e. undeclared_cuts mode names _ some)
  declared_cuts_by mode names some _ = undeclared_cuts mode names _ some

  pub declared_cuts : (mode : Mode) (names : Names) (ts : List Token) → (needs_name mode ≡ false → 1 ≤ d) → Cuts (Has (IsDeclared mode names)) ts (declared_in d r mode names ts)
  unfolding declared_in
  declared_cuts mode names ts some = declared_cuts_by mode names some (ahead_is ts)
