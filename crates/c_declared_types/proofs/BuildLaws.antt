-- The type of a declarator, built step by step.
use Rattle.std.proofs.Common.{◌≡◌, ◌++◌, ◌*◌, ◌≤◌, ◌^◌, ◌-◌, ℕ, not, if◌then◌else◌, min, List, [], ◌∷◌, Option, Some, None, length, refl, sym, ap, ◌∙◌, subst, append-nil, append_assoc, arith}
use Rattle.std.specs.Prelude.{Result, Ok, Err, unwrap_or, option_map}
use Rattle.std.specs.Option.{is_some}
use Rattle.std.specs.List.{AllByRecursion}
use Rattle.std.proofs.lemmas.Bool.{le-ltb, lt-ltb}
use Rattle.c_types.specs.declared.kind.Measure.{Measure}
use Rattle.c_types.specs.declared.kind.TypeId.{TypeId}
use Rattle.c_types.specs.declared.kind.TheConstants.{MAX_SIZE}
use Rattle.c_types.specs.Sizes.{IsMeasured, IsSized}
use Rattle.c_types.specs.Tables.{IsThere, IsTooBig}
use Rattle.c_typing.specs.Types.{CType, CTypes, pointer, array, function, Layout, measure, no_measure, no_types, a_type}
use Rattle.c_typing.specs.Judgements as rules
use Rattle.c_typing.specs.Judgements.{Fault, rule, too_big, PlacedStep}
use Rattle.c_typing.specs.Rules.{broken_if, size_fault, incomplete_type, bad_result}
use Rattle.c_typing.specs.Declarators.{Built, built, build, stepped_from, stepped_type, array_faults}
use Rattle.c_type_ids.specs.Ids.{Known, Grows, Names, NamesAll, AreLaid}
use Rattle.c_type_ids.proofs.TableLaws.{grows_on, grows_same}
use Rattle.c_type_ids.proofs.MeasureLaws.{names_there, measured_is}
use Rattle.c_values.specs.declared.typings.«Type».{«Type» as TypeForm}
use Rattle.c_values.specs.declared.typings.«Type».TheVariants as type
use Rattle.c_answers.specs.declared.refusal.Refusal.{Refusal}
use Rattle.c_answers.specs.declared.refusal.Refusal.TheVariants as refusal
use Rattle.c_declared_types.specs.declared.steps.Step.TheVariants as step
use Rattle.c_declared_types.specs.declared.steps.PlacedStep.{PlacedStep as CodeStep}
use Rattle.c_answers.specs.Answers.{IsFirst, Settles}
use Rattle.c_declared_types.specs.Steps.{IsStep, ArePlaced, AreFrom, IsBuilt, IsBuiltId}
use Rattle.c_declared_types.proofs.StepLaws.{last_step, step_grows}

pub all_there : (k : Known) (ids : List TypeId) (ts : CTypes) → NamesAll k ids ts → AllByRecursion (IsThere k.table) ids
all_there k [] no_types h = tt
all_there k [] (a_type t ts) h = absurd h
all_there k (id ∷ ids) no_types h = absurd h
all_there k (id ∷ ids) (a_type t ts) h = (names_there k id t h.0, all_there k ids ts h.1)

-- ---- sizes

pub incomplete : (ls : List Layout) (t : CType) (n : ℕ) → None ≡ option_map (λ (m : Measure). m.size) (measure ls t) → incomplete_type ls t n ≡ rule 5 n ∷ []
incomplete ls t n e = by (measure ls t) e
  where
    by : (o : Option Measure) → None ≡ option_map (λ (m : Measure). m.size) o → broken_if (not (is_some o)) 5 n ≡ rule 5 n ∷ []
    by None e = refl
    by (Some m) e = absurd (cc e)

pub complete : (ls : List Layout) (t : CType) (n size : ℕ) → Some size ≡ option_map (λ (m : Measure). m.size) (measure ls t) → incomplete_type ls t n ≡ []
complete ls t n size e = by (measure ls t) e
  where
    by : (o : Option Measure) → Some size ≡ option_map (λ (m : Measure). m.size) o → broken_if (not (is_some o)) 5 n ≡ []
    by None e = absurd (cc e)
    by (Some m) e = refl

-- ---- arrays

module _ (k : Known) (ls : List Layout) (laid : AreLaid k ls) (id : TypeId) (t : CType) (named : Names k id t) (count n : ℕ) where
  -- the faults of an array are those of its size
  size_alone : (m : Measure) → IsMeasured k.table id m → array_faults ls t count n ≡ size_fault (count * m.size) n
  size_alone m measured = ap (λ o. broken_if (not (is_some o)) 5 n ++ size_fault (count * (unwrap_or o no_measure).size) n) (measured_is k ls laid id t m named measured)

  pub array_incomplete : incomplete_type ls t n ≡ rule 5 n ∷ [] → (others : List Fault) × (array_faults ls t count n ≡ rule 5 n ∷ others)
  array_incomplete e = (size_fault (count * (unwrap_or (measure ls t) no_measure).size) n, ap (λ faults. faults ++ size_fault (count * (unwrap_or (measure ls t) no_measure).size) n) e)

  pub array_fits : IsSized k.table id → ((m : Measure) → IsMeasured k.table id m → count * m.size ≤ MAX_SIZE) → array_faults ls t count n ≡ []
  array_fits (m, measured) fits =
      size_alone m measured ∙ ap (λ b. if b then too_big n (min (count * m.size) (2 ^ 64 - 1)) ∷ [] else []) (le-ltb MAX_SIZE (count * m.size) (fits m measured))

  pub array_too_big : (size : ℕ) → (m : Measure) × IsMeasured k.table id m × (size ≡ count * m.size) × IsTooBig size
      → array_faults ls t count n ≡ too_big n (min size (2 ^ 64 - 1)) ∷ []
  array_too_big size (m, measured, e, big) =
      size_alone m measured ∙ ap (λ s. size_fault s n) (sym e) ∙ ap (λ b. if b then too_big n (min size (2 ^ 64 - 1)) ∷ [] else []) (lt-ltb MAX_SIZE size big)

-- ---- one step

module _ (old new : Known) (ls : List Layout) (id : TypeId) (n : ℕ) (t : CType) (r : Result TypeId Refusal) where
  pub by_pointer : (s : rules.Step) → IsStep old step.ToPointer s → Settles (λ made. Names new made (pointer t)) r [] → IsBuiltId new r (stepped_type ls s n t)
  by_pointer rules.to_pointer h f = f
  by_pointer s h f = absurd h

  pub by_array : (count : ℕ) (s : rules.Step) → IsStep old (step.OfArray count) s → Settles (λ made. Names new made (array t count)) r (array_faults ls t count n)
      → IsBuiltId new r (stepped_type ls s n t)
  by_array count (rules.of_array m) e f = subst (λ c. Settles (λ made. Names new made (array t c)) r (array_faults ls t c n)) e f
  by_array count s h f = absurd h

  pub by_parameter : (s : rules.Step) → IsStep old step.OfParameter s → Settles (λ made. Names new made (pointer t)) r (incomplete_type ls t n)
      → IsBuiltId new r (stepped_type ls s n t)
  by_parameter rules.of_parameter h f = f
  by_parameter s h f = absurd h

  pub by_function : (takes : List TypeId) (s : rules.Step) → IsStep old (step.OfFunction takes) s
      → ((ts : CTypes) → NamesAll old takes ts → Settles (λ made. Names new made (function t ts)) r (bad_result t n)) → IsBuiltId new r (stepped_type ls s n t)
  by_function takes (rules.of_function ts) h f = f ts h
  by_function takes s h f = absurd h

-- the parameters of a step that is a function
pub takes_some : (k : Known) (takes : List TypeId) (s : rules.Step) → IsStep k (step.OfFunction takes) s → (ts : CTypes) × NamesAll k takes ts
takes_some k takes (rules.of_function ts) h = (ts, h)
takes_some k takes s h = absurd h

-- ---- all steps

-- a fault stays the first one
passes : (ls : List Layout) (s : PlacedStep) (b : Built) (f : Fault) (fs : List Fault) → b.faults ≡ f ∷ fs → (stepped_from ls s b).faults ≡ f ∷ fs
passes ls s b f fs e =
    let whole : b ≡ built b.type (f ∷ fs) = ap (built b.type) e in
    ap (λ x. (stepped_from ls s x).faults) whole

fault_stays : (ls : List Layout) (t : CType) (front back : List PlacedStep) (f : Fault) (fs : List Fault) → (build ls t back).faults ≡ f ∷ fs → (build ls t (front ++ back)).faults ≡ f ∷ fs
fault_stays ls t [] back f fs e = e
fault_stays ls t (s ∷ front) back f fs e = passes ls s (build ls t (front ++ back)) f fs (fault_stays ls t front back f fs e)

first_stays : (ls : List Layout) (t : CType) (front back : List PlacedStep) (r : Refusal) → IsFirst r (build ls t back).faults → IsFirst r (build ls t (front ++ back)).faults
first_stays ls t front back (refusal.Broken r n) (fs, e) = (fs, fault_stays ls t front back (rule r n) fs e)
first_stays ls t front back (refusal.TooBig n size) (fs, e) = (fs, fault_stays ls t front back (too_big n size) fs e)
first_stays ls t front back refusal.OutOfMemory e = tt

-- one more step on a type
on_type : (ls : List Layout) (t u : CType) (s : PlacedStep) (back : List PlacedStep) → build ls t back ≡ built u [] → build ls t (s ∷ back) ≡ stepped_type ls s.step s.node u
on_type ls t u s back e = ap (stepped_from ls s) e

-- these steps have made a type
pub record Made (k : Known) (ls : List Layout) (t : CType) (id : TypeId) (back : List PlacedStep) : Type 0 where
  pub type : CType
  pub is : build ls t back ≡ built type []
  pub named : Names k id type

-- of all steps, so many are left
pub record IsMade (old k : Known) (ls : List Layout) (t : CType) (id : TypeId) (left : List CodeStep) (ss : List PlacedStep) : Type 0 where
  pub front : List PlacedStep
  pub back : List PlacedStep
  pub parts : ss ≡ front ++ back
  pub placed : ArePlaced old left front
  pub made : Made k ls t id back

pub record SoFar (old k : Known) (base id : TypeId) (all left : List CodeStep) : Type 0 where
  pub grows : Grows old k
  pub there : IsThere k.table id
  pub some : (ss : List PlacedStep) × ArePlaced old left ss
  pub is : (ls : List Layout) (t : CType) (ss : List PlacedStep) → AreLaid old ls → Names old base t → ArePlaced old all ss → IsMade old k ls t id left ss

pub at_first : (k : Known) (base : TypeId) (all : List CodeStep) → IsThere k.table base → (ss : List PlacedStep) × ArePlaced k all ss → SoFar k k base base all all
at_first k base all there some = record {
  grows = grows_same k k refl;
  there = there;
  some = some;
  is = λ ls t ss laid named placed. record { front = ss; back = []; parts = sym (append-nil ss); placed = placed; made = record { type = t; is = refl; named = named } };
}

-- what the next step asks
pub next_some : (old k : Known) (base id : TypeId) (all left rest : List CodeStep) (s : CodeStep) → SoFar old k base id all left → left ≡ rest ++ s ∷ []
    → (r : rules.Step) × IsStep k s.step r
next_some old k base id all left rest s so e =
    let l = last_step old rest s so.some.0 (subst (λ xs. ArePlaced old xs so.some.0) e so.some.1) in
    (l.last.step, step_grows old k so.grows.keeps s.step l.last.step l.step)

abbrev pub Steps : Known → Known → CodeStep → TypeId → Result TypeId Refusal → Type 0
Steps k new s id r = (ls : List Layout) (t : CType) (p : rules.Step) → AreLaid k ls → Names k id t → IsStep k s.step p → IsBuiltId new r (stepped_type ls p s.node t)

module _ (old k new : Known) (base id : TypeId) (all left rest : List CodeStep) (s : CodeStep) (so : SoFar old k base id all left) (e : left ≡ rest ++ s ∷ []) where
  -- the step that is taken, at its place
  record IsTaken (ls : List Layout) (t : CType) (ss : List PlacedStep) (r : Result TypeId Refusal) : Type 0 where
    front : List PlacedStep
    back : List PlacedStep
    parts : ss ≡ front ++ back
    placed : ArePlaced old rest front
    built : IsBuiltId new r (build ls t back)

  taken : (r : Result TypeId Refusal) → Steps k new s id r → (ls : List Layout) (t : CType) (ss : List PlacedStep) → AreLaid old ls → Names old base t → ArePlaced old all ss → IsTaken ls t ss r
  taken r does ls t ss laid named placed =
      let m = so.is ls t ss laid named placed in
      let l = last_step old rest s m.front (subst (λ xs. ArePlaced old xs m.front) e m.placed) in
      let found : IsBuiltId new r (stepped_type ls l.last.step s.node m.made.type) =
      does ls m.made.type l.last.step (so.grows.laid ls laid) m.made.named (step_grows old k so.grows.keeps s.step l.last.step l.step) in
      record {
        front = l.front;
        back = l.last ∷ m.back;
        parts = m.parts ∙ ap (λ xs. xs ++ m.back) l.parts ∙ append_assoc l.front (l.last ∷ []) m.back;
        placed = l.placed;
        built = subst (IsBuiltId new r) (sym (on_type ls t m.made.type l.last m.back m.made.is)) (subst (λ n. IsBuiltId new r (stepped_type ls l.last.step n m.made.type)) l.node found);
      }

  pub after : (made : TypeId) → Grows k new → IsThere new.table made → Steps k new s id (Ok made) → SoFar old new base made all rest
  after made grows there does = record {
    grows = grows_on old k new so.grows grows;
    there = there;
    some = let l = last_step old rest s so.some.0 (subst (λ xs. ArePlaced old xs so.some.0) e so.some.1) in (l.front, l.placed);
    is = λ ls t ss laid named placed.
        let x = taken (Ok made) does ls t ss laid named placed in
        record {
          front = x.front;
          back = x.back;
          parts = x.parts;
          placed = x.placed;
          made = record { type = (build ls t x.back).type; is = ap (built (build ls t x.back).type) x.built.0; named = x.built.1 };
        };
  }

  pub refused : (r : Refusal) → Steps k new s id (Err r) → (ls : List Layout) (t : CType) (ss : List PlacedStep) → AreLaid old ls → Names old base t → ArePlaced old all ss
      → IsFirst r (build ls t ss).faults
  refused r does ls t ss laid named placed =
      let x = taken (Err r) does ls t ss laid named placed in
      subst (λ xs. IsFirst r (build ls t xs).faults) (sym x.parts) (first_stays ls t x.front x.back r x.built)

-- no step is left
pub empty : {A : Type 0} (xs : List A) → length xs ≡ 0 → xs ≡ []
empty [] e = refl
empty (x ∷ xs) e = absurd (omega (arith, e))

none_placed : (k : Known) (left : List CodeStep) (ss : List PlacedStep) → left ≡ [] → ArePlaced k left ss → ss ≡ []
none_placed k [] [] e h = refl
none_placed k [] (s ∷ ss) e h = absurd h
none_placed k (x ∷ left) ss e h = absurd (cc e)

pub at_last : (old k : Known) (base id : TypeId) (all left : List CodeStep) → SoFar old k base id all left → left ≡ [] → (ls : List Layout) (t : CType) (ss : List PlacedStep)
    → AreLaid old ls → Names old base t → ArePlaced old all ss → ((build ls t ss).faults ≡ []) × Names k id (build ls t ss).type
at_last old k base id all left so e ls t ss laid named placed =
    let m = so.is ls t ss laid named placed in
    let whole : m.back ≡ ss = sym (m.parts ∙ ap (λ xs. xs ++ m.back) (none_placed old left m.front e m.placed)) in
    subst (λ xs. ((build ls t xs).faults ≡ []) × Names k id (build ls t xs).type) whole
    (ap (λ (b : Built). b.faults) m.made.is, subst (λ (b : Built). Names k id b.type) (sym m.made.is) m.made.named)

-- ---- an array without a length, next to the name

first_passes : (ls : List Layout) (s : PlacedStep) (b : Built) (r : Refusal) → IsFirst r b.faults → IsFirst r (stepped_from ls s b).faults
first_passes ls s b (refusal.Broken r n) (fs, e) = (fs, passes ls s b (rule r n) fs e)
first_passes ls s b (refusal.TooBig n size) (fs, e) = (fs, passes ls s b (too_big n size) fs e)
first_passes ls s b refusal.OutOfMemory e = tt

module _ (old new : Known) (ls : List Layout) (t : CType) (outer : List CodeStep) where
  abbrev pub Does : Result TypeId Refusal → Type 0
  Does r = (ss : List PlacedStep) → ArePlaced old outer ss → IsBuiltId new r (build ls t ss)

  pub refused_within : (without : Option ℕ) (r : Refusal) → Does (Err r) → (ss : List PlacedStep) → AreFrom old without outer ss → IsFirst r (build ls t ss).faults
  refused_within None r does ss h = does ss h
  refused_within (Some n) r does [] h = absurd h
  refused_within (Some n) r does (s ∷ ss) (e, h) = first_passes ls s (build ls t ss) r (does ss h)

  pub with_length : (id : TypeId) → Does (Ok id) → (ss : List PlacedStep) → AreFrom old None outer ss → IsBuilt new (Ok (type.Known id)) (build ls t ss)
  with_length id does ss h = does ss h

  pub lengthless : (n : ℕ) (id : TypeId) (r : Result TypeForm Refusal) → Does (Ok id)
      → ((u : CType) → Names new id u → IsBuilt new r (stepped_type ls rules.of_unsized n u)) → (ss : List PlacedStep) → AreFrom old (Some n) outer ss → IsBuilt new r (build ls t ss)
  lengthless n id r does next [] h = absurd h
  lengthless n id r does next (s ∷ ss) (e, h) =
      let (none, named) = does ss h in
      let whole : build ls t ss ≡ built (build ls t ss).type [] = ap (built (build ls t ss).type) none in
      subst (IsBuilt new r) (sym (on_type ls t (build ls t ss).type s ss whole))
      (subst (λ (p : PlacedStep). IsBuilt new r (stepped_type ls p.step p.node (build ls t ss).type)) (sym e) (next (build ls t ss).type named))

-- the steps but that one
pub outer_some : (k : Known) (without : Option ℕ) (outer : List CodeStep) → (ss : List PlacedStep) × AreFrom k without outer ss → (ss : List PlacedStep) × ArePlaced k outer ss
outer_some k None outer h = h
outer_some k (Some n) outer ([], h) = absurd h
outer_some k (Some n) outer (s ∷ ss, h) = (ss, h.1)
