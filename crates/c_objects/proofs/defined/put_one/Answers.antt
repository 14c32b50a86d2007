use Rattle.std.proofs.Common.{◌≡◌, ◌∙◌, ap, arith, false, get_or, sym, ◌||◌}
use Rattle.c_typing.specs.Names.{name_of}
use Rattle.c_names.specs.Denoted.{places_in}
use Rattle.c_objects.specs.Objects.{defines_at}
use Rattle.c_objects.proofs.DefinedLaws.{first_below, first_here, none_defined, none_here, one_defined}
use Rattle.c_objects.proofs.defined.put_one.Goals as goal
use Rattle.c_objects.proofs.defined.put_one.Goals.{then-defining-first, else-defining-first}

pub bounds-defining-first : goal.bounds-defining-first
bounds-defining-first c =
    let low = first_below c.args.scoped.now c.args.number c.in-Some.first c.args.firsts.now c.requires.firsts c.requires.within c.in-Some.is in
    let long = c.requires.defining.long in
    omega (arith, low, long)

pub bounds-defining-first-in-Some : goal.bounds-defining-first-in-Some
bounds-defining-first-in-Some c =
    let low = first_below c.args.scoped.now c.args.number c.in-Some.first c.args.firsts.now c.requires.firsts c.requires.within c.in-Some.is in
    let long = c.requires.defining.long in
    omega (arith, low, long)

pub returns-after-defining-first : goal.returns-after-defining-first
returns-after-defining-first c =
    let table = c.args.scoped.now in
    let w = first_here table c.args.number c.in-Some.first c.args.firsts.now c.requires.firsts c.requires.within c.in-Some.is in
    let new : c.if-defining-first.is_defined ≡ (get_or c.args.defining.now c.in-Some.first false || defines_at (places_in table) (name_of (places_in table) c.args.number)) =
    elim c.if-defining-first.branch [
      | then-defining-first w ↦ (w.is_defined-is ∙ (w.if-defining-first.true ∙ sym (ap (λ b. b || defines_at (places_in table) (name_of (places_in table) c.args.number)) w.if-defining-first.true)))
      | else-defining-first w ↦ (w.is_defined-is ∙ (w.defines-is_defined.ensures ∙ sym (ap (λ b. b || defines_at (places_in table) (name_of (places_in table) c.args.number)) w.if-defining-first.false)))
    ] in
    one_defined table c.requires.firsts.derived c.args.number c.requires.within w.0 c.in-Some.first w.1 w.2 c.requires.firsts.nodes c.args.defining.now c.if-defining-first.is_defined new c.requires.defining

pub returns-in_default : goal.returns-in_default
returns-in_default c =
    none_defined c.args.scoped.now c.requires.firsts.derived c.args.number c.requires.within c.args.defining.now
    (none_here c.args.scoped.now c.args.number c.args.firsts.now c.requires.firsts c.requires.within c.in_default.is) c.requires.defining
