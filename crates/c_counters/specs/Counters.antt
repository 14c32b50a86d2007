-- What is counted in the nodes so far.
use Rattle.std.specs.Prelude.{◌≡◌, ℕ, ◌+◌, ◌*◌, ◌≤◌, List, get_or, length, map, sum, take}
use Rattle.c_typing.specs.Names.{Places}
use Rattle.c_typing.specs.Judgements.{Judgement, hidden_in}
use Rattle.c_typing.specs.Expressions.{literals_before}
use Rattle.c_counters.specs.declared.counters.Counters.{Counters}

-- for each node that was judged, and for their number, how many hidden locals the nodes before it take
pub record AreSums (js : List Judgement) (sums : List ℕ) : Type 0 where
  pub long : length sums ≡ length js + 1
  pub are : (k : ℕ) → k ≤ length js → get_or sums k 0 ≡ sum (map hidden_in (take k js))
  pub few : (k : ℕ) → k ≤ length js → get_or sums k 0 ≤ 2 * k

-- the counters, where these are the judgements so far
pub record AreCounted (p : Places) (js : List Judgement) (c : Counters) : Type 0 where
  pub sums : AreSums js c.sums.items
  pub literals : c.literals ≡ literals_before p js
  pub few : c.literals ≤ length js
