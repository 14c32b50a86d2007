use Rattle.std.proofs.Common.{◌≡◌, ◌++◌, take}
use Rattle.std.specs.List.{flat_map}
use Rattle.c_lexer.specs.Dump.{token_text}
use Rattle.c_lexer.proofs.dump.put_tokens.Given as goal

-- what came before is written
abbrev pub invariant-loop-token : goal.invariant-loop-token
invariant-loop-token l = l.out ≡ l.fn.out ++ flat_map token_text (take l.token-index l.tokens)
