-- A mark that is read, where it is known that it stands there.
use Rattle.std.proofs.Common.{◌≡◌, ap, List, ◌∷◌, sym, subst}
use Rattle.c_lexer.specs.declared.token.Punct.{Punct}
use Rattle.c_lexer.specs.declared.token.Token.{Token}
use Rattle.c_grammar.specs.Vocabulary.{Place, mark}
use Rattle.c_grammar.specs.Answers.{Answer, Ahead, expect, expect_by, same_mark}
use Rattle.c_grammar.proofs.SoundSteps.{IsAhead, is_nothing, is_mark, is_word, is_integer, is_character, is_string, ahead_is, mark_is}
use Rattle.c_grammar.proofs.TooDeep.Steps.{Cuts, cuts_wrong, cuts_if, cuts_token}

pub cuts_expect_at : {U : Type 0} {R : List Token → List Token → Type 0} (p : Punct) (ts : List Token) {go : List Token → Answer U}
    → ((at : Place) (c : List Token) → ts ≡ mark p at ∷ c → Cuts (λ a z. R (mark p at ∷ a) z) c (go c))
    → Cuts R ts (expect p ts go)
unfolding expect expect_by
cuts_expect_at {U = U} {R = R} p ts {go = go} next = by (ahead_is ts) next
  where
    by : {ts : List Token} {h : Ahead} → IsAhead ts h → ((at : Place) (c : List Token) → ts ≡ mark p at ∷ c → Cuts (λ a z. R (mark p at ∷ a) z) c (go c)) → Cuts R ts (expect_by p ts go h)
    by is_nothing next = cuts_wrong
    by (is_mark {p = q} {at = at} {rest = rest}) next = cuts_if (same_mark p q)
        (λ e. let m : mark q at ∷ rest ≡ mark p at ∷ rest = ap (λ m. mark m at ∷ rest) (sym (mark_is p q e)) in
        subst (λ a. Cuts R a (go rest)) (sym m) (cuts_token (next at rest m)))
        (λ e. cuts_wrong)
    by is_word next = cuts_wrong
    by is_integer next = cuts_wrong
    by is_character next = cuts_wrong
    by is_string next = cuts_wrong
