use Rattle.std.proofs.Common.{◌≡◌, ◌<◌, ◌^◌, sym, ap, ◌∙◌, subst, arith, Some}
use Rattle.std.specs.Str.{IsUtf8}
use Rattle.std.specs.Fmt.{decimal}
use Rattle.std.proofs.lemmas.Bool.Decides.{Decides-eqb}
use Rattle.std.proofs.lemmas.Slice.Eq.{slice_eq-Decides}
use Rattle.std.proofs.lemmas.Str.{IsUtf8-from_ascii}
use Rattle.std.proofs.lemmas.Fmt.{IsAscii-decimal, parse-decimal}
use Rattle.cp_first.proofs.first_form.number_of.Goals as goal

pub returns-in_default-clause-only : goal.returns-in_default-clause-only
returns-in_default-clause-only c = λ n h e.
    let fits : n < 2 ^ 64 = omega arith in
    absurd (c.in_default.ensures.cases.0 (subst IsUtf8 (sym e) (IsUtf8-from_ascii _ (IsAscii-decimal n fits))))

pub returns-in_default-parse-clause-only : goal.returns-in_default-parse-clause-only
returns-in_default-parse-clause-only c = λ n h e.
    let small : n < 2 ^ 8 = omega arith in
    let fits : n < 2 ^ 64 = omega arith in
    let parsed = parse-decimal 8 n c.in-Ok.text.now c.parse.result small fits (c.in-Ok.ensures.cases.0 ∙ e) c.parse.ensures.value.0 in
    absurd (cc (parsed, c.in_default-parse.is))

pub returns-then-is_shortest-clause-only : goal.returns-then-is_shortest-clause-only
returns-then-is_shortest-clause-only c = λ n h e.
    let small : n < 2 ^ 8 = omega arith in
    let fits : n < 2 ^ 64 = omega arith in
    let parsed = parse-decimal 8 n c.in-Ok.text.now c.parse.result small fits (c.in-Ok.ensures.cases.0 ∙ e) c.parse.ensures.value.0 in
    let same : c.in-Ok-parse.number ≡ n = cc (parsed, c.in-Ok-parse.is) in
    ap Some same

pub returns-else-is_shortest-clause-only : goal.returns-else-is_shortest-clause-only
returns-else-is_shortest-clause-only c = λ n h e.
    let small : n < 2 ^ 8 = omega arith in
    let fits : n < 2 ^ 64 = omega arith in
    let parsed = parse-decimal 8 n c.in-Ok.text.now c.parse.result small fits (c.in-Ok.ensures.cases.0 ∙ e) c.parse.ensures.value.0 in
    let same : c.in-Ok-parse.number ≡ n = cc (parsed, c.in-Ok-parse.is) in
    let tested = slice_eq-Decides Decides-eqb c.as_bytes.result.now c.args.digits.now _ c.eq-is_shortest.ensures in
    let equal = tested.1 (c.as_bytes.ensures.value ∙ c.format.ensures.text ∙ ap decimal same ∙ sym e) in
    absurd (cc (equal, c.if-is_shortest.false))
