-- What declarators build of a type in which no array is without a length.
use Rattle.std.proofs.Common.{◌≡◌, Bool, true, false, not, ◌||◌, List, [], ◌∷◌, refl, true≢false}
use Rattle.c_syntax.specs.declared.kind.SynKind.{SynKind}
use Rattle.c_syntax.specs.declared.kind.SynKind.TheVariants as kind
use Rattle.c_typing.specs.Types.{CType, array, Layout, types_of, unsized}
use Rattle.c_typing.specs.Places.{Node}
use Rattle.c_typing.specs.Judgements.{Fault, PlacedStep, Step, to_pointer, of_array, of_unsized, of_function}
use Rattle.c_typing.specs.Declarators.{adjusted, build, built, stepped_from, with_step}
use Rattle.c_lengths.specs.Lengths.{inside_lacks, lacks_length, one_lacks}

-- the step makes an array without a length, where none is to be given, or a function with a parameter that has one
abbrev pub step_lacks : Bool → Step → Bool
step_lacks given of_unsized = not given
step_lacks given (of_function ts) = one_lacks ts
step_lacks given s = false

-- only the step next to the name may
abbrev pub steps_lack : Bool → List PlacedStep → Bool
steps_lack given [] = false
steps_lack given (s ∷ ss) = step_lacks given s.step || steps_lack false ss

pub record Neither (a b : Bool) : Type 0 where
  pub first : a ≡ false
  pub second : b ≡ false

pub neither : (a b : Bool) → (a || b) ≡ false → Neither a b
neither false b e = record { first = refl; second = e }
neither true b e = absurd (true≢false e)

pub either : (a b : Bool) → a ≡ false → b ≡ false → (a || b) ≡ false
either false b e f = f
either true b e f = absurd (true≢false e)

given_fine : (given : Bool) (s : Step) → step_lacks false s ≡ false → step_lacks given s ≡ false
given_fine given of_unsized e = absurd (true≢false e)
given_fine given to_pointer e = e
given_fine given (of_array n) e = e
given_fine given Step.of_parameter e = e
given_fine given (of_function ts) e = e

pub one_step : (given : Bool) (node : Node) (s : Step) → step_lacks given s ≡ false → steps_lack given (with_step [] node s) ≡ false
one_step given node s e = either (step_lacks given s) false e refl

pub more_steps : (given : Bool) (ss : List PlacedStep) (node : Node) (s : Step) → steps_lack given ss ≡ false → step_lacks false s ≡ false → steps_lack given (with_step ss node s) ≡ false
more_steps given [] node s e f = one_step given node s (given_fine given s f)
more_steps given (x ∷ ss) node s e f =
    let h = neither (step_lacks given x.step) (steps_lack false ss) e in
    either (step_lacks given x.step) (steps_lack false (with_step ss node s)) h.first (more_steps false ss node s h.second f)

pub build_fine : (ls : List Layout) (base : CType) (ss : List PlacedStep) → lacks_length base ≡ false → steps_lack false ss ≡ false → lacks_length (build ls base ss).type ≡ false
build_fine ls base [] h k = h
build_fine ls base (s ∷ ss) h k =
    let b = build ls base ss in
    let fine = neither (step_lacks false s.step) (steps_lack false ss) k in
    by s.step b.type b.faults fine.first (build_fine ls base ss h fine.second)
  where
    by : (k : Step) (t : CType) (fs : List Fault) → step_lacks false k ≡ false → lacks_length t ≡ false → lacks_length (stepped_from ls (record { node = s.node; step = k }) (built t fs)).type ≡ false
    by k t (f ∷ fs) own e = e
    by to_pointer t [] own e = e
    by (of_array n) t [] own e = e
    by of_unsized t [] own e = absurd (true≢false own)
    by Step.of_parameter t [] own e = e
    by (of_function ts) t [] own e = either (lacks_length t) (one_lacks ts) e own

-- but for the outermost array
pub inside_fine : (t : CType) → lacks_length t ≡ false → inside_lacks t ≡ false
inside_fine (unsized t) e = absurd (true≢false e)
inside_fine t e = e

pub build_inside : (given : Bool) (ls : List Layout) (base : CType) (ss : List PlacedStep) → lacks_length base ≡ false → steps_lack given ss ≡ false → inside_lacks (build ls base ss).type ≡ false
build_inside given ls base [] h k = inside_fine base h
build_inside given ls base (s ∷ ss) h k =
    let b = build ls base ss in
    let fine = neither (step_lacks given s.step) (steps_lack false ss) k in
    by s.step b.type b.faults fine.first (build_fine ls base ss h fine.second)
  where
    by : (k : Step) (t : CType) (fs : List Fault) → step_lacks given k ≡ false → lacks_length t ≡ false → inside_lacks (stepped_from ls (record { node = s.node; step = k }) (built t fs)).type ≡ false
    by k t (f ∷ fs) own e = inside_fine t e
    by to_pointer t [] own e = e
    by (of_array n) t [] own e = e
    by of_unsized t [] own e = e
    by Step.of_parameter t [] own e = e
    by (of_function ts) t [] own e = either (lacks_length t) (one_lacks ts) e own

pub adjusted_inside : (k : SynKind) (t : CType) → inside_lacks t ≡ false → inside_lacks (adjusted k t) ≡ false
adjusted_inside kind.Param (array t n) e = e
adjusted_inside k t e = e

pub adjusted_fine : (k : SynKind) (t : CType) → lacks_length t ≡ false → lacks_length (adjusted k t) ≡ false
adjusted_fine kind.Param (array t n) e = e
adjusted_fine k t e = e

-- one of the types
pub data InTypes (t : CType) : List CType → Type 0 where
  at_first : {ts : List CType} → InTypes t (t ∷ ts)
  behind : {u : CType} {ts : List CType} → InTypes t ts → InTypes t (u ∷ ts)

pub all_fine : (ts : List CType) → ((t : CType) → InTypes t ts → lacks_length t ≡ false) → one_lacks (types_of ts) ≡ false
all_fine [] h = refl
all_fine (t ∷ ts) h = either (lacks_length t) (one_lacks (types_of ts)) (h t at_first) (all_fine ts (λ u i. h u (behind i)))
