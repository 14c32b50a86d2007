-- Chains that a loop reads: each link goes on with what is still to be read behind the tree so far.
use Rattle.std.proofs.Common.{◌≡◌, ℕ, zero, suc, ◌+◌, ◌<◌, ◌≤◌, List, length, ap, ◌∙◌, arith}
use Rattle.c_lexer.specs.declared.token.Token.{Token}
use Rattle.c_syntax.specs.Trees.{Tree, height}
use Rattle.c_grammar.specs.Answers.{Answer, found, deep, and_then}
use Rattle.c_parts.specs.declared.budget.Stop.{Stop}
use Rattle.c_grammar.specs.Scopes.{Names}
use Rattle.c_parts.specs.declared.part.Part.{Part}
use Rattle.c_parser.specs.declared.parser.Parser.{Parser}
use Rattle.c_parser.specs.Gives.{Stops, IsRead}
use Rattle.c_parser.proofs.Stopping.{stops_then, stops_same}

-- what a chain reads behind a tree, where so many links more are left at most
abbrev pub Chain : Type 0
Chain = ℕ → Tree → List Token → Answer Tree

-- the whole is what the chain reads behind x, of this height, with links enough for the budget
abbrev pub IsChain : Chain → ℕ → Answer Tree → ℕ → Tree → List Token → Type 0
IsChain chain d whole height x ts = (k : ℕ) × ((d ≤ k + height) × (whole ≡ chain k x ts))

-- what goes on behind one link
abbrev pub behind_link : Chain → ℕ → Tree → List Token → Answer Tree
behind_link chain zero y rest = deep rest
behind_link chain (suc k) y rest = chain k y rest

-- one link, and then the others
abbrev pub Splits : Chain → Tree → List Token → Answer Tree → Type 0
Splits chain x ts link = (k : ℕ) → chain k x ts ≡ and_then link (behind_link chain k)

-- the chain is over
abbrev pub Ends : Chain → Tree → List Token → Type 0
Ends chain x ts = (k : ℕ) → chain k x ts ≡ found x ts

-- what a loop has read of a chain
pub record IsLinked (chain : Chain) (d : ℕ) (whole : Answer Tree) (next : Tree → Names) (under : List Tree) (most : ℕ) (p : Parser) (part : Part) : Type 0 where
  pub tree : Tree
  pub read : IsChain chain d whole part.height tree p.rest.now
  pub is_read : IsRead next tree under p part
  pub low : part.height ≤ d
  pub shorter : length p.rest.now < most

module _ (chain : Chain) (d : ℕ) where
  pub chain_first : (whole first : Answer Tree) (height : ℕ) (x : Tree) (ts : List Token)
      → whole ≡ and_then first (chain d) → first ≡ found x ts → IsChain chain d whole height x ts
  unfolding and_then
  chain_first whole first height x ts e f = (d, (omega arith, e ∙ ap (λ (y : Answer Tree). and_then y (chain d)) f))

  pub chain_next : (whole link : Answer Tree) (height height2 : ℕ) (x y : Tree) (ts rest : List Token)
      → IsChain chain d whole height x ts → Splits chain x ts link → link ≡ found y rest → height < height2 → height2 ≤ d
      → IsChain chain d whole height2 y rest
  unfolding and_then
  chain_next whole link height height2 x y ts rest (k, (enough, e)) splits f higher fits = by k enough e
    where
      by : (k : ℕ) → d ≤ k + height → whole ≡ chain k x ts → IsChain chain d whole height2 y rest
      by zero enough e = absurd (omega (arith, enough, higher, fits))
      by (suc k) enough e = (k, (omega (arith, enough, higher), e ∙ splits (suc k) ∙ ap (λ (z : Answer Tree). and_then z (chain k)) f))

  pub chain_stops : (whole link : Answer Tree) (height : ℕ) (x : Tree) (ts rest : List Token) (s : Stop)
      → IsChain chain d whole height x ts → Splits chain x ts link → Stops link rest s → Stops whole rest s
  chain_stops whole link height x ts rest s (k, (enough, e)) splits h =
      stops_same _ whole rest s (e ∙ splits k) (stops_then link (behind_link chain k) rest s h)

  pub chain_end : (whole : Answer Tree) (height : ℕ) (x : Tree) (ts : List Token)
      → IsChain chain d whole height x ts → Ends chain x ts → whole ≡ found x ts
  chain_end whole height x ts (k, (enough, e)) ends = e ∙ ends k

  -- the same by parts
  pub chain_longer : (whole link : Answer Tree) (x y : Tree) (left longer : Part) (ts rest : List Token)
      → IsChain chain d whole left.height x ts → Splits chain x ts link → link ≡ found y rest → left.height ≡ height x → longer.height ≡ height y → height x < height y → longer.height ≤ d
      → IsChain chain d whole longer.height y rest
  chain_longer whole link x y left longer ts rest chain_is splits f hx hy higher fits =
      chain_next whole link left.height longer.height x y ts rest chain_is splits f (omega (arith, hx, hy, higher)) fits
