-- The cases of specs, structs and enums.
use Rattle.std.proofs.Common.{◌≡◌, ℕ, suc, ◌≤◌, Bool, true, false, ◌||◌, max, List, [], ◌∷◌, length, refl, true≢false, codes, arith}
use Rattle.c_lexer.specs.declared.token.Punct.TheVariants.{LeftBrace, RightBrace}
use Rattle.c_lexer.specs.declared.token.Token.{Token}
use Rattle.c_syntax.specs.declared.kind.SynKind.{SynKind}
use Rattle.c_syntax.specs.declared.kind.SynKind.TheVariants as kind
use Rattle.c_syntax.specs.Trees.{Tree, Forest, none, text_node, height, forest_height}
use Rattle.c_grammar.specs.Vocabulary.{is_identifier, is_type_word, is_storage_word, Place, mark, word}
use Rattle.c_grammar.specs.Scopes.{Names, is_typedef_name}
use Rattle.c_grammar.specs.Derivation as rule
use Rattle.c_grammar.specs.Derivation.{Part, Row, Derives, Lists, start, first_start, begins_with_typedef_name}
use Rattle.c_grammar.specs.Answers.{Answer, found, and_then, fit, Ahead, mark_ahead, ahead, ahead_by, expect, expect_by}
use Rattle.c_grammar.specs.Reading as reading
use Rattle.c_grammar.specs.Reading.{Rows, Reader, read, rows_in, goal_in, begins_specifier, begins_with_mark, begins_with_mark_by, body_in, tagged_by, tag_by, specifier_by, specifier_in, specifier_list_in, specifiers_in, specs_first, member_in, members_in, enumerator_in, enumerator_by, value_by, below}
use Rattle.c_grammar.proofs.Budgets.{Leads, Finds, leads_height, leads_here, leads_then, node_leads}
use Rattle.c_grammar.proofs.Found.Claims.{Complete, CompleteRow}
use Rattle.c_grammar.proofs.Found.TypeSteps.{row_leads, fit_leads, leaf_leads, some_height}
use Rattle.c_grammar.proofs.Found.TypeFronts.{no_spec_word, no_keyword}

-- ---- specifiers

pub c_specifier_word : (text : List ℕ) (names : Names) (typed : Bool) (at : Place) (b : List Token) → is_type_word text || is_storage_word text ≡ true
    → Complete names (rule.specifier typed) (word text at ∷ b) b (text_node kind.Word text at.start none)
unfolding specifier_in specifier_by ahead ahead_by
c_specifier_word text names typed at b e ends d = rw e (leaf_leads d _ _)

pub c_typedef_name : (text : List ℕ) (names : Names) (at : Place) (b : List Token) → is_identifier text ≡ true → is_typedef_name names text ≡ true
    → Complete names (rule.specifier false) (word text at ∷ b) b (text_node kind.Word text at.start none)
unfolding specifier_in specifier_by ahead ahead_by
c_typedef_name text names at b e f ends d = rw (no_spec_word text e, no_keyword text e (codes "struct") refl, no_keyword text e (codes "enum") refl, e, f) (leaf_leads d _ _)

pub c_struct_of : (names : Names) (a b : List Token) (t : Tree) (typed : Bool) → Complete names rule.struct_specifier a b t
    → Complete names (rule.specifier typed) a b t
c_struct_of names a b t typed c ends d = c ends typed d

pub c_enum_of : (names : Names) (a b : List Token) (t : Tree) (typed : Bool) → Complete names rule.enum_specifier a b t
    → Complete names (rule.specifier typed) a b t
c_enum_of names a b t typed c ends d = c ends typed d

-- ---- bodies in braces

some_members : {names : Names} {a b : List Token} {ts : Forest} → Lists names rule.members a b ts → 1 ≤ forest_height ts
some_members (rule.last_member {t = t} x) = some_height t none
some_members (rule.more_members {t = t} {ts = ts} x xs) = some_height t ts

some_enumerators : {names : Names} {a b : List Token} {ts : Forest} → Lists names rule.enumerators a b ts → 1 ≤ forest_height ts
some_enumerators (rule.last_enumerator {t = t} x) = some_height t none
some_enumerators (rule.last_enumerator_with_comma {t = t} x) = some_height t none
some_enumerators (rule.more_enumerators {t = t} {ts = ts} x xs) = some_height t ts

module _ (k : SynKind) (row : Rows) (names : Names) (a b : List Token) (at2 : Place) (ts : Forest) (some : 1 ≤ forest_height ts)
    (finds : (e : ℕ) → Finds (rows_in e (below e) row names a) e (forest_height ts) ts (mark RightBrace at2 ∷ b)) where
  body_leads : (tag : List ℕ) (at : Place) (d : ℕ)
      → Leads (body_in d (below d) k row names tag at a) d (suc (max (forest_height ts) 0)) (found (text_node k tag at.start ts) b)
  unfolding body_in expect expect_by ahead ahead_by
  body_leads tag at d =
      let go : Forest → List Token → Answer Tree = λ xs behind. expect RightBrace behind (λ end. found (text_node k tag at.start xs) end) in
      node_leads 2 (max (forest_height ts) 0) a (λ r. and_then (r.trees_of row names a) go) (found (text_node k tag at.start ts) b) (omega arith) (omega (arith, some))
      (λ e. leads_then ((read e).trees_of row names a) go e (forest_height ts) 0 ts (mark RightBrace at2 ∷ b) (found (text_node k tag at.start ts) b) (row_leads e row names a (finds e)) (leads_here _ e)) d

  -- and one token before
  tag_leads : (tag : List ℕ) (at : Place) (rest : List Token) (d : ℕ)
      → Finds (fit 1 d rest (body_in d (below d) k row names tag at a)) d (height (text_node k tag at.start ts)) (text_node k tag at.start ts) b
  tag_leads tag at rest d = fit_leads 1 d _ rest _ _ (omega arith) (leads_height _ d _ _ _ (omega arith) (body_leads tag at d))

-- no body stands behind the tag
tag_alone : (d : ℕ) (r : Reader) (k : SynKind) (row : Rows) (names : Names) (tag : List ℕ) (at : Place) (b : List Token)
    → begins_with_mark LeftBrace b ≡ false → tagged_by d r k row names tag at b (ahead b) ≡ found (text_node k tag at.start none) b
unfolding tagged_by
tag_alone d r k row names tag at b ends = by (ahead b) ends
  where
    by : (x : Ahead) → begins_with_mark_by LeftBrace x ≡ false → tagged_by d r k row names tag at b x ≡ found (text_node k tag at.start none) b
    by (mark_ahead LeftBrace place rest) e = absurd (true≢false e)
    by other e = refl

-- ---- structs

pub c_struct_without_tag : (names : Names) (a b : List Token) (at3 at at2 : Place) (ms : Forest)
    → Lists names rule.members a (mark RightBrace at3 ∷ b) ms → CompleteRow names rule.members a (mark RightBrace at3 ∷ b) ms
    → Complete names rule.struct_specifier (word (codes "struct") at ∷ mark LeftBrace at2 ∷ a) b (text_node kind.StructSpec [] at.start ms)
unfolding specifier_in specifier_by tag_by rows_in ahead ahead_by
c_struct_without_tag names a b at3 at at2 ms l c ends typed d =
    tag_leads kind.StructSpec reading.members names a b at3 ms (some_members l) (λ e. c refl e (suc (length a)) (omega arith)) [] at _ d

pub c_struct_with_tag : (text : List ℕ) (names : Names) (a b : List Token) (at4 at at2 at3 : Place) (ms : Forest) → is_identifier text ≡ true
    → Lists names rule.members a (mark RightBrace at4 ∷ b) ms → CompleteRow names rule.members a (mark RightBrace at4 ∷ b) ms
    → Complete names rule.struct_specifier (word (codes "struct") at ∷ word text at2 ∷ mark LeftBrace at3 ∷ a) b (text_node kind.StructSpec text at.start ms)
unfolding specifier_in specifier_by tag_by tagged_by rows_in ahead ahead_by
c_struct_with_tag text names a b at4 at at2 at3 ms h l c ends typed d =
    rw h (tag_leads kind.StructSpec reading.members names a b at4 ms (some_members l) (λ e. c refl e (suc (length a)) (omega arith)) text at _ d)

pub c_struct_tag : (text : List ℕ) (names : Names) (at at2 : Place) (b : List Token) → is_identifier text ≡ true
    → Complete names rule.struct_specifier (word (codes "struct") at ∷ word text at2 ∷ b) b (text_node kind.StructSpec text at.start none)
unfolding specifier_in specifier_by tag_by ahead ahead_by
c_struct_tag text names at at2 b h ends typed d = rw (h, tag_alone d (below d) kind.StructSpec reading.members names text at b ends) (leaf_leads d _ _)

-- ---- enums

pub c_enum_without_tag : (names : Names) (a b : List Token) (at3 at at2 : Place) (es : Forest)
    → Lists names rule.enumerators a (mark RightBrace at3 ∷ b) es → CompleteRow names rule.enumerators a (mark RightBrace at3 ∷ b) es
    → Complete names rule.enum_specifier (word (codes "enum") at ∷ mark LeftBrace at2 ∷ a) b (text_node kind.EnumSpec [] at.start es)
unfolding specifier_in specifier_by tag_by rows_in ahead ahead_by
c_enum_without_tag names a b at3 at at2 es l c ends typed d =
    tag_leads kind.EnumSpec reading.enumerators names a b at3 es (some_enumerators l) (λ e. c refl e (suc (length a)) (omega arith)) [] at _ d

pub c_enum_with_tag : (text : List ℕ) (names : Names) (a b : List Token) (at4 at at2 at3 : Place) (es : Forest) → is_identifier text ≡ true
    → Lists names rule.enumerators a (mark RightBrace at4 ∷ b) es → CompleteRow names rule.enumerators a (mark RightBrace at4 ∷ b) es
    → Complete names rule.enum_specifier (word (codes "enum") at ∷ word text at2 ∷ mark LeftBrace at3 ∷ a) b (text_node kind.EnumSpec text at.start es)
unfolding specifier_in specifier_by tag_by tagged_by rows_in ahead ahead_by
c_enum_with_tag text names a b at4 at at2 at3 es h l c ends typed d =
    rw h (tag_leads kind.EnumSpec reading.enumerators names a b at4 es (some_enumerators l) (λ e. c refl e (suc (length a)) (omega arith)) text at _ d)

pub c_enum_tag : (text : List ℕ) (names : Names) (at at2 : Place) (b : List Token) → is_identifier text ≡ true
    → Complete names rule.enum_specifier (word (codes "enum") at ∷ word text at2 ∷ b) b (text_node kind.EnumSpec text at.start none)
unfolding specifier_in specifier_by tag_by ahead ahead_by
c_enum_tag text names at at2 b h ends typed d = rw (h, tag_alone d (below d) kind.EnumSpec reading.enumerators names text at b ends) (leaf_leads d _ _)
