use Rattle.std.proofs.Common.{◌≡◌, ◌*◌, ap₂, sym, subst, ◌∙◌, arith}
use Rattle.c_types.specs.declared.kind.TypeKind.TheVariants.{Array}
use Rattle.c_types.specs.Sizes.{Measures, array_measure}
use Rattle.c_types.proofs.ReadLaws.{array_measured}
use Rattle.c_types.proofs.types.Types.array_of.Goals as goal

pub returns-then-size-from-clause-too_big : goal.returns-then-size-from-clause-too_big
returns-then-size-from-clause-too_big c = λ size e.
    let product : c.args.count * c.sized-size.result.size ≡ c.from.result * c.from-2.result = ap₂ (λ a b. a * b) (sym c.from.ensures) (sym c.from-2.ensures) in
    let is : c.from.result * c.from-2.result ≡ size = cc in
    let above = c.if-size-from.true in
    let limit = c.from-3.ensures in
    (array_measure c.args.count c.sized-size.result, array_measured c.args.self.now c.args.element c.args.count c.sized-size.result c.sized-size.ensures, product ∙ is, omega (arith, above, limit, is))

pub returns-clause-known : goal.returns-clause-known
returns-clause-known c =
    let product : c.args.count * c.sized-size.result.size ≡ c.from.result * c.from-2.result = ap₂ (λ a b. a * b) (sym c.from.ensures) (sym c.from-2.ensures) in
    let below = c.if-size-from.false in
    let limit = c.from-3.ensures in (
      subst (λ n. Measures c.args.self.now (Array c.args.element c.args.count) (record { size = n; align = c.sized-size.result.align })) product
          (array_measured c.args.self.now c.args.element c.args.count c.sized-size.result c.sized-size.ensures),
      omega (arith, below, limit),
    )
