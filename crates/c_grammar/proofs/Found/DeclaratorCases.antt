-- The cases of declarators with a name, and without.
use Rattle.std.proofs.Common.{◌≡◌, ℕ, suc, true, false, max, List, ◌∷◌, length, refl, if◌then◌else◌, codes, arith, Bool}
use Rattle.c_lexer.specs.declared.token.Punct.TheVariants.{LeftBracket, RightBracket, LeftParenthesis, RightParenthesis, Star}
use Rattle.c_lexer.specs.declared.token.Token.{Token}
use Rattle.c_syntax.specs.declared.kind.SynKind.TheVariants as kind
use Rattle.c_syntax.specs.Trees.{Tree, Forest, none, ◌then◌, one, text_node, plain_node, height, forest_height}
use Rattle.c_grammar.specs.Vocabulary.{is_identifier, Place, mark, word}
use Rattle.c_grammar.specs.Scopes.{Names, opened, after}
use Rattle.c_grammar.specs.Derivation as rule
use Rattle.c_grammar.specs.Derivation.{Derives, Lists, Qualifiers, start, no_name, is_lone_void}
use Rattle.c_grammar.specs.Answers.{Answer, ahead, ahead_by, expect, expect_by}
use Rattle.c_grammar.specs.Reading as reading
use Rattle.c_grammar.specs.Reading.{Mode, named, unnamed, either, Reader, read, rows_in, begins_with_mark, is_named, is_named_by, is_absent_by, has_name, needs_name, after_any, takes_in, declared_suffixes, declared_in, void_in, parameters_in, begins_with_word, behind_one, below}
use Rattle.c_grammar.proofs.Budgets.{Leads, chain_ends, leads_here, leads_then, leads_fit}
use Rattle.c_grammar.proofs.Found.Claims.{Complete, CompleteRow}
use Rattle.c_grammar.proofs.Found.TypeSteps.{row_leads, chain_begins}
use Rattle.c_grammar.proofs.Found.TypeEnds.{closes_bracket, closes_parenthesis, closes_const}
use Rattle.c_grammar.proofs.Found.TypeFronts.{behind_qualifiers, declarator_front, abstract_front, specifier_no_mark, parameters_begin}
use Rattle.c_grammar.proofs.Found.Declarators.{named_there, there_names, suffixes_end, no_opening_bracket, no_opening_parenthesis, pointer_finds, parentheses_lead, name_leads, bracket_leads, absent_either, absent_unnamed, array_chain, takes_chain}
use Rattle.c_grammar.proofs.Found.VoidParameters.{goes_on_behind}

-- ---- with a name

pub c_pointer : (a b c : List Token) (names : Names) (x : Tree) (at : Place) → Qualifiers a b → Derives names rule.declarator b c x
    → Complete names rule.declarator b c x
    → Complete names rule.declarator (mark Star at ∷ a) c (plain_node kind.Pointer at.start (one x))
unfolding is_named_by
c_pointer a b c names x at q l f ends d =
    let same = behind_qualifiers q (declarator_front l).const in
    record {
      alone = pointer_finds named names a b c at x same (λ e. (f ends e).alone) d;
      also = pointer_finds either names a b c at x same (λ e. (f ends e).also) d;
      name = (f ends d).name;
    }

pub c_direct : (names : Names) (a b : List Token) (x : Tree) → Complete names rule.direct_declarator a b x → Complete names rule.declarator a b x
c_direct names a b x f ends d =
    let stop = suffixes_end d (below d) names x b (no_opening_bracket b ends) (no_opening_parenthesis b ends) in
    record {
      alone = chain_ends d _ _ (height x) x b (f d).alone stop;
      also = chain_ends d _ _ (height x) x b (f d).also stop;
      name = (f d).name;
    }

pub c_declared_name : (text : List ℕ) (names : Names) (at : Place) (b : List Token) → is_identifier text ≡ true
    → Complete names rule.direct_declarator (word text at ∷ b) b (text_node kind.Ident text at.start none)
unfolding has_name is_named_by
c_declared_name text names at b h d = record {
  alone = chain_begins d _ (λ k. declared_suffixes d (below d) k names) 1 _ b (name_leads named names text at b h refl d);
  also = chain_begins d _ (λ k. declared_suffixes d (below d) k names) 1 _ b (name_leads either names text at b h refl d);
  name = refl;
}

pub c_declarator_in_parentheses : (names : Names) (a b : List Token) (at2 at : Place) (x : Tree)
    → Complete names rule.declarator a (mark RightParenthesis at2 ∷ b) x
    → Complete names rule.direct_declarator (mark LeftParenthesis at ∷ a) b (plain_node kind.Paren at.start (one x))
unfolding is_named_by ahead ahead_by
c_declarator_in_parentheses names a b at2 at x f d =
    let there = named_there x (f refl d).name in
    record {
      alone = chain_begins d _ (λ k. declared_suffixes d (below d) k names) _ _ b (parentheses_lead named names a b at at2 x there (λ e. (f refl e).alone) d);
      also = chain_begins d _ (λ k. declared_suffixes d (below d) k names) _ _ b (parentheses_lead either names a b at at2 x there (λ e. (f refl e).also) d);
      name = (f refl d).name;
    }

pub c_array_of : (names : Names) (a b c : List Token) (at at2 : Place) (x : Tree) (n : Forest)
    → Complete names rule.direct_declarator a (mark LeftBracket at ∷ b) x
    → CompleteRow (after names x) rule.optional_length b (mark RightBracket at2 ∷ c) n
    → Complete names rule.direct_declarator a c (plain_node kind.ArrayOf (start x) (x then n))
unfolding is_named_by ahead ahead_by
c_array_of names a b c at at2 x n f g d =
    let same = there_names names x (named_there x (f d).name) in
    record {
      alone = array_chain d (declared_in d (below d) named names a) names x (after names x) at at2 b c n same (g refl) (f d).alone;
      also = array_chain d (declared_in d (below d) either names a) names x (after names x) at at2 b c n same (g refl) (f d).also;
      name = (f d).name;
    }

pub c_takes_anything : (names : Names) (a b : List Token) (at at2 : Place) (x : Tree)
    → Complete names rule.direct_declarator a (mark LeftParenthesis at ∷ mark RightParenthesis at2 ∷ b) x
    → Complete names rule.direct_declarator a b (plain_node kind.Takes (start x) (one x))
unfolding is_named_by takes_in ahead ahead_by
c_takes_anything names a b at at2 x f d =
    let y : Tree = plain_node kind.Takes (start x) (one x) in
    record {
      alone = takes_chain d (declared_in d (below d) named names a) names x at (mark RightParenthesis at2 ∷ b) b y 0 (f d).name (omega arith) (λ go e same. leads_here (go y b) e) (f d).alone;
      also = takes_chain d (declared_in d (below d) either names a) names x at (mark RightParenthesis at2 ∷ b) b y 0 (f d).name (omega arith) (λ go e same. leads_here (go y b) e) (f d).also;
      name = (f d).name;
    }

pub c_takes_void : (names : Names) (a b : List Token) (at at2 at3 : Place) (x : Tree)
    → Complete names rule.direct_declarator a (mark LeftParenthesis at ∷ word (codes "void") at2 ∷ mark RightParenthesis at3 ∷ b) x
    → Complete names rule.direct_declarator a b (plain_node kind.Takes (start x) (one x))
unfolding is_named_by takes_in void_in ahead ahead_by
c_takes_void names a b at at2 at3 x f d =
    let y : Tree = plain_node kind.Takes (start x) (one x) in
    let rest : List Token = word (codes "void") at2 ∷ mark RightParenthesis at3 ∷ b in
    record {
      alone = takes_chain d (declared_in d (below d) named names a) names x at rest b y 0 (f d).name (omega arith) (λ go e same. leads_here (go y b) e) (f d).alone;
      also = takes_chain d (declared_in d (below d) either names a) names x at rest b y 0 (f d).name (omega arith) (λ go e same. leads_here (go y b) e) (f d).also;
      name = (f d).name;
    }

parameters_lead : (names : Names) (b c : List Token) (at2 : Place) (x : Tree) (ps : Forest)
    → Lists (opened (after names x)) rule.parameters b (mark RightParenthesis at2 ∷ c) ps
    → CompleteRow (opened (after names x)) rule.parameters b (mark RightParenthesis at2 ∷ c) ps → is_lone_void ps ≡ false
    → (d : ℕ) (go : Tree → List Token → Answer Tree) (e : ℕ) → suc e ≡ d
    → Leads (takes_in d (read e) names x b go) e (max (forest_height ps) 0) (go (plain_node kind.Takes (start x) (x then ps)) c)
unfolding takes_in void_in parameters_in rows_in expect expect_by ahead ahead_by
parameters_lead names b c at2 x ps l f other d go e near = rw (specifier_no_mark RightParenthesis false (opened (after names x)) b (parameters_begin l)) (by (begins_with_word (codes "void") b) refl)
  where
    found_there : Leads (parameters_in d (read e) names x b go) e (max (forest_height ps) 0) (go (plain_node kind.Takes (start x) (x then ps)) c)
    found_there = leads_then ((read e).trees_of reading.parameters (opened (after names x)) b) (λ ts behind. expect RightParenthesis behind (λ end. go (plain_node kind.Takes (start x) (x then ts)) end))
        e (forest_height ps) 0 ps (mark RightParenthesis at2 ∷ c) (go (plain_node kind.Takes (start x) (x then ps)) c)
        (row_leads e reading.parameters (opened (after names x)) b (f refl e (suc (length b)) (omega arith))) (leads_here _ e)

    by : (void : Bool) → begins_with_word (codes "void") b ≡ void
        → Leads (if void then void_in d (read e) names x b (behind_one b) go else parameters_in d (read e) names x b go) e (max (forest_height ps) 0) (go (plain_node kind.Takes (start x) (x then ps)) c)
    by false v = found_there
    by true v =
        let on = goes_on_behind (opened (after names x)) b _ ps f refl other v in
        let high = on.high in
        rw (on.goes_no_end, on.goes_on) (leads_fit 4 d e _ (behind_one (behind_one b)) _ _ near (omega (arith, high)) found_there)

pub c_takes : (names : Names) (a b c : List Token) (at at2 : Place) (x : Tree) (ps : Forest)
    → Complete names rule.direct_declarator a (mark LeftParenthesis at ∷ b) x
    → Lists (opened (after names x)) rule.parameters b (mark RightParenthesis at2 ∷ c) ps
    → CompleteRow (opened (after names x)) rule.parameters b (mark RightParenthesis at2 ∷ c) ps
    → is_lone_void ps ≡ false → Complete names rule.direct_declarator a c (plain_node kind.Takes (start x) (x then ps))
unfolding is_named_by
c_takes names a b c at at2 x ps f l g other d =
    let y : Tree = plain_node kind.Takes (start x) (x then ps) in
    record {
      alone = takes_chain d (declared_in d (below d) named names a) names x at b c y (max (forest_height ps) 0) (f d).name (omega arith) (parameters_lead names b c at2 x ps l g other d) (f d).alone;
      also = takes_chain d (declared_in d (below d) either names a) names x at b c y (max (forest_height ps) 0) (f d).name (omega arith) (parameters_lead names b c at2 x ps l g other d) (f d).also;
      name = (f d).name;
    }

-- ---- without a name

pub c_abstract_pointer : (a b c : List Token) (names : Names) (x : Tree) (at : Place) → Qualifiers a b
    → Derives names rule.abstract_declarator b c x → Complete names rule.abstract_declarator b c x
    → Complete names rule.abstract_declarator (mark Star at ∷ a) c (plain_node kind.Pointer at.start (one x))
unfolding is_named_by is_absent_by
c_abstract_pointer a b c names x at q l f ends d =
    let same = behind_qualifiers q (abstract_front l).const in
    record {
      alone = pointer_finds unnamed names a b c at x same (λ e. (f ends e).alone) d;
      also = pointer_finds either names a b c at x same (λ e. (f ends e).also) d;
      name = (f ends d).name;
      there = refl;
    }

pub c_bare_pointer : (a b : List Token) (names : Names) (at : Place) → Qualifiers a b
    → Complete names rule.abstract_declarator (mark Star at ∷ a) b (plain_node kind.Pointer at.start (one (no_name b)))
unfolding is_named_by is_absent_by
c_bare_pointer a b names at q ends d =
    let same = behind_qualifiers q (closes_const b ends) in
    record {
      alone = pointer_finds unnamed names a b b at (no_name b) same (λ e. absent_unnamed names b ends e) d;
      also = pointer_finds either names a b b at (no_name b) same (λ e. absent_either names b ends e) d;
      name = refl;
      there = refl;
    }

pub c_direct_of : (names : Names) (a b : List Token) (x : Tree) → Complete names rule.direct_abstract a b x → Complete names rule.abstract_declarator a b x
c_direct_of names a b x f ends d =
    let stop = suffixes_end d (below d) names x b (closes_bracket b ends) (closes_parenthesis b ends) in
    record {
      alone = chain_ends d _ _ (height x) x b (f d).alone stop;
      also = chain_ends d _ _ (height x) x b (f d).also stop;
      name = (f d).name;
      there = (f d).there;
    }

pub c_abstract_in_parentheses : (names : Names) (a b : List Token) (at2 at : Place) (x : Tree)
    → Complete names rule.abstract_declarator a (mark RightParenthesis at2 ∷ b) x
    → Complete names rule.direct_abstract (mark LeftParenthesis at ∷ a) b (plain_node kind.Paren at.start (one x))
unfolding is_named_by is_absent_by ahead ahead_by
c_abstract_in_parentheses names a b at2 at x f d = record {
  alone = chain_begins d _ (λ k. declared_suffixes d (below d) k names) _ _ b (parentheses_lead unnamed names a b at at2 x (f refl d).there (λ e. (f refl e).alone) d);
  also = chain_begins d _ (λ k. declared_suffixes d (below d) k names) _ _ b (parentheses_lead either names a b at at2 x (f refl d).there (λ e. (f refl e).also) d);
  name = (f refl d).name;
  there = refl;
}

pub c_bare_array : (names : Names) (a b : List Token) (at2 at : Place) (n : Forest) → CompleteRow names rule.optional_length a (mark RightBracket at2 ∷ b) n
    → Complete names rule.direct_abstract (mark LeftBracket at ∷ a) b (plain_node kind.ArrayOf at.start (plain_node kind.NoName at.start none then n))
unfolding is_named_by is_absent_by needs_name after_any ahead ahead_by
c_bare_array names a b at2 at n g d =
    let ts : List Token = mark LeftBracket at ∷ a in
    record {
      alone = array_chain d (declared_in d (below d) unnamed names ts) names (no_name ts) names at at2 a b n refl (g refl)
          (chain_begins d _ (λ k. declared_suffixes d (below d) k names) 1 (no_name ts) ts (bracket_leads unnamed names a at refl d));
      also = array_chain d (declared_in d (below d) either names ts) names (no_name ts) names at at2 a b n refl (g refl)
          (chain_begins d _ (λ k. declared_suffixes d (below d) k names) 1 (no_name ts) ts (bracket_leads either names a at refl d));
      name = refl;
      there = refl;
    }

pub c_abstract_array : (names : Names) (a b c : List Token) (at at2 : Place) (x : Tree) (n : Forest)
    → Complete names rule.direct_abstract a (mark LeftBracket at ∷ b) x
    → CompleteRow (after names x) rule.optional_length b (mark RightBracket at2 ∷ c) n
    → Complete names rule.direct_abstract a c (plain_node kind.ArrayOf (start x) (x then n))
unfolding is_named_by is_absent_by ahead ahead_by
c_abstract_array names a b c at at2 x n f g d =
    let same = there_names names x (f d).there in
    record {
      alone = array_chain d (declared_in d (below d) unnamed names a) names x (after names x) at at2 b c n same (g refl) (f d).alone;
      also = array_chain d (declared_in d (below d) either names a) names x (after names x) at at2 b c n same (g refl) (f d).also;
      name = (f d).name;
      there = refl;
    }
