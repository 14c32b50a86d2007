-- What blocks read, and what statements read by their first tokens.
use Rattle.std.proofs.Common.{◌≡◌, ℕ, true, false, List, [], ◌∷◌, codes, Err, refl, sym, ap, ◌∙◌, true≢false}
use Rattle.std.specs.Str.{bytes_eq}
use Rattle.c_lexer.specs.declared.token.Token.{Token}
use Rattle.c_lexer.specs.declared.token.Punct.TheVariants.{LeftBrace, RightBrace, Semicolon}
use Rattle.c_lexer.specs.declared.token.TokenKind.TheVariants as token
use Rattle.c_syntax.specs.declared.kind.SynKind.{SynKind}
use Rattle.c_syntax.specs.declared.kind.SynKind.TheVariants as kind
use Rattle.c_syntax.specs.Trees.{Tree, Forest, plain_node}
use Rattle.c_grammar.specs.Vocabulary.{start_of}
use Rattle.c_grammar.specs.Scopes.{Names, opened}
use Rattle.c_grammar.specs.Derivation.{ends_open, ends_open_by, last_ends_open}
use Rattle.c_grammar.specs.Answers.{Answer, Ahead, found, wrong, and_then, fit, expect, ahead}
use Rattle.c_grammar.specs.Reading.{Reader, Rows, below, rows_in, body_by, statement_in, statement_by, expression_statement_in, keyword_by, if_in, while_in, do_in, for_in, for_behind, switch_in, return_in, begins_with_mark, begins_with_mark_by, behind_one}
use Rattle.c_grammar.proofs.SoundSteps.{IsAhead, is_nothing, is_mark, is_word, is_integer, is_character, is_string, ahead_is, mark_split}
use Rattle.c_parts.specs.declared.budget.Stop.{Stop}
use Rattle.c_parts.specs.declared.budget.Stop.TheVariants as stop
use Rattle.c_parser.specs.declared.parser.Parser.{Parser}
use Rattle.c_parser.specs.Gives.{OpensBrace, PassesBrace, Stops}
use Rattle.c_parser.specs.Steps.{body_at, block_at, items_of, empty_of, keyword_of, if_of, while_of, do_of, for_of, return_of, switch_of, jump_of}
use Rattle.c_parser.proofs.ExpressionLaws.{ahead_mark, some_ahead_mark}
use Rattle.c_parser.proofs.Tokens.{ahead_word}
use Rattle.c_parser.proofs.Spans.{row_inside}
use Rattle.c_parser.proofs.Stopping.{barred, stops_same, chosen, not_chosen}

-- ---- statements in braces

abbrev pub body_go : ℕ → Forest → List Token → Answer Tree
body_go start items behind = expect RightBrace behind (λ end. found (plain_node kind.Block start items) end)

module _ (d : ℕ) (r : Reader) (names : Names) (ts : List Token) where
  pub body_shape : begins_with_mark LeftBrace ts ≡ true → body_at d r names ts ≡ fit 1 d (behind_one ts) (and_then (r.trees_of Rows.block_items names (behind_one ts)) (body_go (start_of ts)))
  unfolding body_by
  body_shape e =
      let s = mark_split LeftBrace ts e in
      ap (body_by d r names ts) (ahead_mark LeftBrace ts s.0 s.1)
      ∙ ap (λ (k : ℕ). fit 1 d (behind_one ts) (and_then (r.trees_of Rows.block_items names (behind_one ts)) (body_go k))) (sym (ap start_of s.1))

  pub no_body : begins_with_mark LeftBrace ts ≡ false → body_at d r names ts ≡ wrong ts
  unfolding body_by
  no_body e = by (ahead_is ts) e
    where
      by : {us : List Token} {h : Ahead} → IsAhead us h → begins_with_mark_by LeftBrace h ≡ false → body_by d r names us h ≡ wrong us
      by is_nothing e = refl
      by (is_mark {p = LeftBrace}) e = absurd (true≢false e)
      by (is_mark {p = other}) e = refl
      by is_word e = refl
      by is_integer e = refl
      by is_character e = refl
      by is_string e = refl

-- no brace, or no lower budget
pub brace_stops : (d : ℕ) (names : Names) (p q : Parser) (s : Stop) → OpensBrace d p q (Err s) → Stops (body_at d (below d) names p.rest.now) q.rest.now s
brace_stops d names p q stop.Wrong h = no_body d (below d) names p.rest.now h.0 ∙ ap wrong (sym h.1)
brace_stops d names p q stop.Deep h = stops_same _ _ q.rest.now stop.Deep (body_shape d (below d) names p.rest.now h.0) (barred 0 d _ _ _ stop.Deep (refl, h.2) h.1)
brace_stops d names p q stop.OutOfMemory h = absurd h

pub body_inside : (d lower : ℕ) (p a : Parser) → PassesBrace d lower p a
    → body_at d (below d) p.names p.rest.now ≡ and_then (items_of lower (below lower) a.names a.rest.now) (body_go (start_of p.rest.now))
unfolding rows_in
body_inside d lower p a brace =
    row_inside 0 d lower brace.below_is Rows.block_items (body_go (start_of p.rest.now)) _ p a (body_shape d (below d) p.names p.rest.now brace.there) brace.kept brace.rest_is

-- ---- blocks

pub block_closed : (t : Tree) → t.label.kind ≡ kind.Block → false ≡ ends_open t
block_closed t k = sym (ap (λ (k : SynKind). ends_open_by k t.kids (last_ends_open t.kids)) k)

-- ---- a statement by its first token

pub statement_brace : (d : ℕ) (r : Reader) (names : Names) (ts : List Token) → begins_with_mark LeftBrace ts ≡ true → statement_in d r names ts ≡ block_at d r names ts
unfolding statement_in statement_by
statement_brace d r names ts e =
    let a = some_ahead_mark LeftBrace ts e in
    ap (statement_by d r names ts) a.1 ∙ sym (ap (body_by d r (opened names) ts) a.1)

module _ (d : ℕ) (r : Reader) (names : Names) (ts : List Token) (t : Token) (first : ts ≡ t ∷ behind_one ts) where
  pub statement_semicolon : begins_with_mark Semicolon ts ≡ true → statement_in d r names ts ≡ empty_of d t.start names ts
  unfolding statement_in statement_by
  statement_semicolon e =
      let s = mark_split Semicolon ts e in
      ap (statement_by d r names ts) (ahead_mark Semicolon ts s.0 s.1) ∙ ap (λ (n : ℕ). empty_of d n names ts) (sym (ap start_of s.1) ∙ ap start_of first)

  pub statement_word : (text : List ℕ) → t.kind ≡ token.Word text → statement_in d r names ts ≡ keyword_of d r text t.start names ts
  unfolding statement_in statement_by keyword_by if_in while_in do_in for_in for_behind switch_in return_in
  statement_word text k = ap (statement_by d r names ts) (ahead_word ts t text first k)

  pub statement_other : begins_with_mark LeftBrace ts ≡ false → begins_with_mark Semicolon ts ≡ false → ((text : List ℕ) → t.kind ≡ token.Word text → ⊥)
      → statement_in d r names ts ≡ expression_statement_in d r names ts
  unfolding statement_in statement_by
  statement_other brace semicolon no_word = by (ahead_is ts) first brace semicolon
    where
      head : List Token → Token
      head [] = t
      head (u ∷ us) = u

      by : {us : List Token} {h : Ahead} → IsAhead us h → us ≡ t ∷ behind_one us → begins_with_mark_by LeftBrace h ≡ false → begins_with_mark_by Semicolon h ≡ false
          → statement_by d r names us h ≡ expression_statement_in d r names us
      by is_nothing e b s = refl
      by (is_mark {p = LeftBrace}) e b s = absurd (true≢false b)
      by (is_mark {p = Semicolon}) e b s = absurd (true≢false s)
      by (is_mark {p = other}) e b s = refl
      by (is_word {text = text}) e b s = absurd (no_word text (sym (ap (λ us. (head us).kind) e)))
      by is_integer e b s = refl
      by is_character e b s = refl
      by is_string e b s = refl

pub statement_nothing : (d : ℕ) (r : Reader) (names : Names) (ts : List Token) → ts ≡ [] → statement_in d r names ts ≡ expression_statement_in d r names ts
unfolding statement_in statement_by ahead
statement_nothing d r names ts e = ap (λ us. statement_by d r names us (ahead us)) e ∙ sym (ap (expression_statement_in d r names) e)

-- ---- a statement by its first word

module _ (d : ℕ) (r : Reader) (text : List ℕ) (start : ℕ) (names : Names) (ts : List Token) where
  pub keyword_if : bytes_eq text (codes "if") ≡ true → keyword_of d r text start names ts ≡ if_of d r start names ts
  unfolding keyword_by
  keyword_if e = chosen _ _ _ e

  module _ (no_if : bytes_eq text (codes "if") ≡ false) where
    pub keyword_while : bytes_eq text (codes "while") ≡ true → keyword_of d r text start names ts ≡ while_of d r start names ts
    unfolding keyword_by
    keyword_while e = not_chosen _ _ _ no_if ∙ chosen _ _ _ e

    module _ (no_while : bytes_eq text (codes "while") ≡ false) where
      pub keyword_do : bytes_eq text (codes "do") ≡ true → keyword_of d r text start names ts ≡ do_of d r start names ts
      unfolding keyword_by
      keyword_do e = not_chosen _ _ _ no_if ∙ not_chosen _ _ _ no_while ∙ chosen _ _ _ e

      module _ (no_do : bytes_eq text (codes "do") ≡ false) where
        pub keyword_for : bytes_eq text (codes "for") ≡ true → keyword_of d r text start names ts ≡ for_of d r start names ts
        unfolding keyword_by
        keyword_for e = not_chosen _ _ _ no_if ∙ not_chosen _ _ _ no_while ∙ not_chosen _ _ _ no_do ∙ chosen _ _ _ e

        module _ (no_for : bytes_eq text (codes "for") ≡ false) where
          pub keyword_return : bytes_eq text (codes "return") ≡ true → keyword_of d r text start names ts ≡ return_of d r start names ts
          unfolding keyword_by
          keyword_return e = not_chosen _ _ _ no_if ∙ not_chosen _ _ _ no_while ∙ not_chosen _ _ _ no_do ∙ not_chosen _ _ _ no_for ∙ chosen _ _ _ e

          module _ (no_return : bytes_eq text (codes "return") ≡ false) where
            pub keyword_break : bytes_eq text (codes "break") ≡ true → keyword_of d r text start names ts ≡ jump_of d kind.Break start names ts
            unfolding keyword_by
            keyword_break e = not_chosen _ _ _ no_if ∙ not_chosen _ _ _ no_while ∙ not_chosen _ _ _ no_do ∙ not_chosen _ _ _ no_for ∙ not_chosen _ _ _ no_return ∙ chosen _ _ _ e

            module _ (no_break : bytes_eq text (codes "break") ≡ false) where
              pub keyword_continue : bytes_eq text (codes "continue") ≡ true → keyword_of d r text start names ts ≡ jump_of d kind.Continue start names ts
              unfolding keyword_by
              keyword_continue e = not_chosen _ _ _ no_if ∙ not_chosen _ _ _ no_while ∙ not_chosen _ _ _ no_do ∙ not_chosen _ _ _ no_for ∙ not_chosen _ _ _ no_return
                  ∙ not_chosen _ _ _ no_break ∙ chosen _ _ _ e

              module _ (no_continue : bytes_eq text (codes "continue") ≡ false) where
                pub keyword_switch : bytes_eq text (codes "switch") ≡ true → keyword_of d r text start names ts ≡ switch_of d r start names ts
                unfolding keyword_by
                keyword_switch e = not_chosen _ _ _ no_if ∙ not_chosen _ _ _ no_while ∙ not_chosen _ _ _ no_do ∙ not_chosen _ _ _ no_for ∙ not_chosen _ _ _ no_return
                    ∙ not_chosen _ _ _ no_break ∙ not_chosen _ _ _ no_continue ∙ chosen _ _ _ e

                pub keyword_none : bytes_eq text (codes "switch") ≡ false → keyword_of d r text start names ts ≡ expression_statement_in d r names ts
                unfolding keyword_by
                keyword_none e = not_chosen _ _ _ no_if ∙ not_chosen _ _ _ no_while ∙ not_chosen _ _ _ no_do ∙ not_chosen _ _ _ no_for ∙ not_chosen _ _ _ no_return
                    ∙ not_chosen _ _ _ no_break ∙ not_chosen _ _ _ no_continue ∙ not_chosen _ _ _ e
