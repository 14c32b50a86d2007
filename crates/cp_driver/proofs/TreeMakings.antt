-- What is shown of a syntax tree, and why it is refused.
use Rattle.std.proofs.Common.{◌≡◌, ℕ, zero, suc, ◌+◌, ◌≤◌, List, ◌++◌, length, drop, refl, sym, ap, ◌∙◌, subst, arith}
use Rattle.std.proofs.lemmas.List.{take-append-drop}
use Rattle.c_lexer.specs.declared.token.Token.{Token}
use Rattle.c_lexer.specs.Tokens.{IsPiece, blank, line_comment, block_comment, skipped_line, token, Reaches, here, piece, HasTokens}
use Rattle.c_lexer.proofs.OneList.{piece_within, one_list}
use Rattle.c_syntax.specs.declared.syntax.SynNode.{SynNode}
use Rattle.c_syntax.specs.Tables.{table_of}
use Rattle.c_syntax.specs.Trees as trees
use Rattle.c_syntax.specs.TreeText.{tree_text}
use Rattle.c_grammar.specs.Derivation.{IsTreeOf}
use Rattle.c_grammar.proofs.OneTree.{one_tree_of}
use Rattle.c_parser.specs.declared.unit.ParseFault.{ParseFault}
use Rattle.c_parser.specs.declared.unit.ParseFault.TheVariants as parser
use Rattle.c_parser.specs.Parsing.{HasTable, IsWrong, IsTooDeep}
use Rattle.cp_driver.specs.declared.job.Stage.TheVariants.{Tree}
use Rattle.cp_driver.specs.declared.job.Task.TheVariants.{Dump}
use Rattle.cp_driver.specs.Making.{IsTextOfTree, HasNoLowTree, IsDump, place_of, IsAtToken}
use Rattle.cp_driver.specs.Messages.{HasPlace}
use Rattle.cp_driver.specs.Causes.{MakeCause, fault_of_parser}

-- ---- places

module _ (bytes : List ℕ) where
  -- a token of a piece begins within the bytes
  piece_places : (at : ℕ) → at ≤ length bytes → (rest : List Token) → ((k : ℕ) → place_of bytes rest k ≤ length bytes)
      → (n : ℕ) (tokens : List Token) → IsPiece bytes at n tokens → (k : ℕ) → place_of bytes (tokens ++ rest) k ≤ length bytes
  piece_places at inside rest on _ _ (blank b after e h) k = on k
  piece_places at inside rest on _ _ (line_comment n c) k = on k
  piece_places at inside rest on _ _ (block_comment n c) k = on k
  piece_places at inside rest on _ _ (skipped_line n c) k = on k
  piece_places at inside rest on _ _ (token n kind h l t) zero = inside
  piece_places at inside rest on _ _ (token n kind h l t) (suc k) = on k

  places : (at end : ℕ) (tokens : List Token) → at ≤ length bytes → Reaches bytes at end tokens → (k : ℕ) → place_of bytes tokens k ≤ length bytes
  places _ _ _ inside (here at) k = omega arith
  places _ _ _ inside (piece at n end tokens rest p r) k =
      piece_places at inside rest (places (at + n) end rest (piece_within bytes at inside n tokens p) r) n tokens p k

  -- each token begins within the bytes
  pub place_within : (tokens : List Token) → HasTokens bytes tokens → (k : ℕ) → place_of bytes tokens k ≤ length bytes
  place_within tokens h k = places 0 (length bytes) tokens (omega arith) h k

-- ---- what is made of a tree

-- one text shows the tree
one_text : (bytes text other : List ℕ) → IsTextOfTree bytes text → IsTextOfTree bytes other → other ≡ text
one_text bytes text other h k =
    let tokens = one_list bytes k.tokens h.tokens k.listed h.listed in
    let tree = one_tree_of h.tokens k.tree h.tree (subst (λ ts. IsTreeOf ts k.tree) tokens k.derived) h.derived in
    k.same ∙ ap tree_text tree ∙ sym h.same

module _ (bytes : List ℕ) (tokens : List Token) (listed : HasTokens bytes tokens) where
  pub tree_shown : (table : List SynNode) (text : List ℕ) → HasTable tokens table → ((t : trees.Tree) → table ≡ table_of t → text ≡ tree_text t) → IsDump Tree bytes text
  tree_shown table text parsed same =
      let shown : IsTextOfTree bytes text =
      record { tokens = tokens; tree = parsed.tree; listed = listed; derived = parsed.derived; within = parsed.low; same = same parsed.tree parsed.whole } in
      record { shows = shown; only = λ other k. one_text bytes text other shown k }

  pub tree_cause : (fault : ParseFault) → ((at : ℕ) → fault ≡ parser.Syntax at → IsWrong tokens at) → ((at : ℕ) → fault ≡ parser.TooDeep at → IsTooDeep tokens at)
      → MakeCause (fault_of_parser bytes tokens fault) (Dump Tree) bytes
  tree_cause (parser.Syntax at) wrong deep = (refl, record { tokens = tokens; number = at; listed = listed; place = refl; holds = wrong at refl })
  tree_cause (parser.TooDeep at) wrong deep = (refl, record { tokens = tokens; number = at; listed = listed; place = refl; holds = deep at refl })
  tree_cause parser.OutOfMemory wrong deep = tt

  pub tree_place : (fault : ParseFault) → HasPlace bytes (fault_of_parser bytes tokens fault)
  tree_place (parser.Syntax at) = place_within bytes tokens listed at
  tree_place (parser.TooDeep at) = place_within bytes tokens listed at
  tree_place parser.OutOfMemory = tt

-- ---- bytes with a tree are not refused

module _ (bytes text : List ℕ) (shown : IsTextOfTree bytes text) where
  -- the tree, of each list of the tokens
  derived_of : (tokens : List Token) → HasTokens bytes tokens → IsTreeOf tokens shown.tree
  derived_of tokens h = subst (λ ts. IsTreeOf ts shown.tree) (one_list bytes shown.tokens tokens shown.listed h) shown.derived

  pub has_tree : HasNoLowTree bytes → ⊥
  has_tree h = let high = h.high shown.tree (derived_of h.tokens h.listed) in let low = shown.within in absurd (omega (arith, high, low))

  pub not_wrong : (at : ℕ) → IsAtToken IsWrong bytes at → ⊥
  not_wrong at h = h.holds.no_tree shown.tree (derived_of h.tokens h.listed)

  pub not_deep : (at : ℕ) → IsAtToken IsTooDeep bytes at → ⊥
  not_deep at h =
      let whole = subst (λ ts. IsTreeOf ts shown.tree) (sym (take-append-drop h.number h.tokens)) (derived_of h.tokens h.listed) in
      let high = h.holds.higher (drop h.number h.tokens) shown.tree whole in let low = shown.within in absurd (omega (arith, high, low))
