use Rattle.std.proofs.Common.{◌≡◌, ◌*◌, ◌++◌, subst, arith}
use Rattle.std.specs.Prelude.{OnOk}
use Rattle.std.proofs.lemmas.List.{take-replicate}
use Rattle.c_syntax.specs.Trees.{max_height}
use Rattle.c_syntax.proofs.text.put_indent.Goals as goal

pub returns : goal.returns
returns c =
    let low = c.requires in
    subst (λ blanks. OnOk c.push_all.result (c.push_all.new.self ≡ c.args.out.now ++ blanks)) (take-replicate (2 * c.args.level) (2 * max_height) 32 (omega (arith, low))) c.push_all.ensures.ok
