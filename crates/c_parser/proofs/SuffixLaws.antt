-- What a suffix reads behind its first token.
use Rattle.std.proofs.Common.{◌≡◌, ◌≢◌, ℕ, suc, ◌<◌, true, List, [], ◌∷◌, codes, refl, sym, ap, ap₂, ◌∙◌, arith, true≢false}
use Rattle.c_lexer.specs.declared.token.Punct.{Punct}
use Rattle.c_lexer.specs.declared.token.Punct.TheVariants.{LeftBracket, LeftParenthesis, Dot, Arrow, PlusPlus, MinusMinus}
use Rattle.c_lexer.specs.declared.token.Token.{Token}
use Rattle.c_lexer.specs.declared.token.TokenKind.{TokenKind}
use Rattle.c_lexer.specs.declared.token.TokenKind.TheVariants as token
use Rattle.c_syntax.specs.declared.kind.SynKind.TheVariants as kind
use Rattle.c_syntax.specs.Trees.{Tree, one, text_node, height}
use Rattle.c_grammar.specs.Scopes.{Names}
use Rattle.c_grammar.specs.Derivation.{start}
use Rattle.c_grammar.specs.Vocabulary.{Place, mark}
use Rattle.c_grammar.specs.Answers.{Answer, found, fit, Ahead, mark_ahead, ahead, ahead_by}
use Rattle.c_grammar.specs.Reading.{behind_one, below, level, suffix_by}
use Rattle.c_grammar.proofs.SoundSteps.{IsAhead, is_mark, ahead_is}
use Rattle.c_parts.specs.Pushed.{IsBelow}
use Rattle.c_parts.specs.declared.budget.Stop.{Stop}
use Rattle.c_parts.specs.declared.budget.Stop.TheVariants.{Deep}
use Rattle.c_parser.specs.Gives.{Stops}
use Rattle.c_parser.specs.Steps.{begins_suffix, suffix_at, indexed, called, selected}
use Rattle.c_parser.proofs.Stopping.{whole_barred, whole_entered, below_as}
use Rattle.c_parser.proofs.Tokens.{place_of, mark_token}
use Rattle.c_parser.proofs.ExpressionLaws.{ahead_mark}

pub suffix_some : (ts : List Token) → ts ≡ [] → begins_suffix (ahead ts) ≡ true → ⊥
unfolding ahead
suffix_some ts e b = true≢false (sym b ∙ ap (λ us. begins_suffix (ahead us)) e)

pub suffix_mark : (ts : List Token) (t : Token) → ts ≡ t ∷ behind_one ts → ((p : Punct) → t.kind ≡ token.Punct p → ⊥) → begins_suffix (ahead ts) ≡ true → ⊥
unfolding ahead ahead_by
suffix_mark ts t e no_mark b = by t.kind no_mark (sym (ap (λ us. begins_suffix (ahead us)) e) ∙ b)
  where
    by : (k : TokenKind) → ((p : Punct) → k ≡ token.Punct p → ⊥) → begins_suffix (ahead_by k (place_of t) (behind_one ts)) ≡ true → ⊥
    by (token.Punct p) no_mark b = no_mark p refl
    by other no_mark b = true≢false (sym b)

-- the last of the marks that begin a suffix
module _ (ts : List Token) (t : Token) (p : Punct) (first : ts ≡ t ∷ behind_one ts) (k : t.kind ≡ token.Punct p) (b : begins_suffix (ahead ts) ≡ true) where
  pub decrement_there : p ≢ LeftBracket → p ≢ LeftParenthesis → p ≢ Dot → p ≢ Arrow → p ≢ PlusPlus → (at : Place) × (ts ≡ mark MinusMinus at ∷ behind_one ts)
  decrement_there e f g h i = (place_of t, mark_token ts t MinusMinus first (k ∙ ap token.Punct (by p e f g h i (sym (ap begins_suffix (ahead_mark p ts (place_of t) (mark_token ts t p first k))) ∙ b))))
    where
      by : (p : Punct) → p ≢ LeftBracket → p ≢ LeftParenthesis → p ≢ Dot → p ≢ Arrow → p ≢ PlusPlus → begins_suffix (mark_ahead p (place_of t) (behind_one ts)) ≡ true → p ≡ MinusMinus
      by LeftBracket e f g h i b = absurd (e refl)
      by LeftParenthesis e f g h i b = absurd (f refl)
      by Dot e f g h i b = absurd (g refl)
      by Arrow e f g h i b = absurd (h refl)
      by PlusPlus e f g h i b = absurd (i refl)
      by MinusMinus e f g h i b = refl
      by other e f g h i b = absurd (true≢false (sym b))

module _ (d : ℕ) (names : Names) (x : Tree) (ts : List Token) (high : ℕ) (e : high ≡ height x) where
  suffix_fits : begins_suffix (ahead ts) ≡ true → (inside : Answer Tree) × (suffix_at d (below d) names x ts ≡ fit (suc (height x)) d (behind_one ts) inside)
  unfolding suffix_by
  suffix_fits b = by (ahead_is ts) b
    where
      by : {us : List Token} {h : Ahead} → IsAhead us h → begins_suffix h ≡ true → (inside : Answer Tree) × (suffix_by d (below d) names x ts found h ≡ fit (suc (height x)) d (behind_one us) inside)
      by (is_mark {p = LeftBracket}) b = (_, refl)
      by (is_mark {p = LeftParenthesis}) b = (_, refl)
      by (is_mark {p = Dot}) b = (_, refl)
      by (is_mark {p = Arrow}) b = (_, refl)
      by (is_mark {p = PlusPlus}) b = (_, refl)
      by (is_mark {p = MinusMinus}) b = (_, refl)
      by _ b = absurd (true≢false (sym b))

  pub suffix_deep : begins_suffix (ahead ts) ≡ true → (left : List Token) (s : Stop) → (s ≡ Deep) × (d < suc high) → left ≡ behind_one ts → Stops (suffix_at d (below d) names x ts) left s
  suffix_deep b left s h same = whole_barred _ (height x) d 0 _ _ (suffix_fits b).1 left s (h.0, let g = h.1 in omega (arith, g, e)) same

  module _ (lower : ℕ) (below_is : IsBelow high d lower) (at : Place) where
    within_it : {inside : Answer Tree} → suffix_at d (below d) names x ts ≡ fit (suc (height x)) d (behind_one ts) inside → suffix_at d (below d) names x ts ≡ inside
    within_it shape = whole_entered _ (height x) d lower _ _ shape (below_as _ _ d lower e below_is)

    module _ (mid : List Token) (m : mid ≡ behind_one ts) where
      pub index_suffix : ts ≡ mark LeftBracket at ∷ behind_one ts → suffix_at d (below d) names x ts ≡ indexed (level lower (below lower)) names x mid
      unfolding suffix_by
      index_suffix first =
          within_it (ap (suffix_by d (below d) names x ts found) (ahead_mark LeftBracket ts at first))
          ∙ ap₂ (λ r us. indexed r names x us) below_is.level_is (sym m)

      pub call_suffix : ts ≡ mark LeftParenthesis at ∷ behind_one ts → suffix_at d (below d) names x ts ≡ called (level lower (below lower)) names x mid
      unfolding suffix_by
      call_suffix first =
          within_it (ap (suffix_by d (below d) names x ts found) (ahead_mark LeftParenthesis ts at first))
          ∙ ap₂ (λ r us. called r names x us) below_is.level_is (sym m)

      pub dot_suffix : ts ≡ mark Dot at ∷ behind_one ts → suffix_at d (below d) names x ts ≡ selected kind.Dot names x mid
      unfolding suffix_by
      dot_suffix first = within_it (ap (suffix_by d (below d) names x ts found) (ahead_mark Dot ts at first)) ∙ ap (selected kind.Dot names x) (sym m)

      pub arrow_suffix : ts ≡ mark Arrow at ∷ behind_one ts → suffix_at d (below d) names x ts ≡ selected kind.Arrow names x mid
      unfolding suffix_by
      arrow_suffix first = within_it (ap (suffix_by d (below d) names x ts found) (ahead_mark Arrow ts at first)) ∙ ap (selected kind.Arrow names x) (sym m)

      module _ (from : ℕ) (same : from ≡ start x) where
        pub increment_suffix : ts ≡ mark PlusPlus at ∷ behind_one ts → suffix_at d (below d) names x ts ≡ found (text_node kind.Post (codes "++") from (one x)) mid
        unfolding suffix_by
        increment_suffix first =
            within_it (ap (suffix_by d (below d) names x ts found) (ahead_mark PlusPlus ts at first))
            ∙ ap₂ (λ n us. found (text_node kind.Post (codes "++") n (one x)) us) (sym same) (sym m)

        pub decrement_suffix : ts ≡ mark MinusMinus at ∷ behind_one ts → suffix_at d (below d) names x ts ≡ found (text_node kind.Post (codes "--") from (one x)) mid
        unfolding suffix_by
        decrement_suffix first =
            within_it (ap (suffix_by d (below d) names x ts found) (ahead_mark MinusMinus ts at first))
            ∙ ap₂ (λ n us. found (text_node kind.Post (codes "--") n (one x)) us) (sym same) (sym m)
