-- Steps of declarators.
use Rattle.std.proofs.Common.{◌≡◌, ◌++◌, ℕ, List, [], ◌∷◌, Option, Some, None, refl, ap}
use Rattle.c_typing.specs.Judgements as rules
use Rattle.c_type_ids.specs.Ids.{Known, Keeps}
use Rattle.c_type_ids.proofs.IdLaws.{all_grow, names_grow}
use Rattle.c_typing.specs.Types.{CType}
use Rattle.c_declared_types.specs.declared.specs_words.Given.{Given}
use Rattle.c_declared_types.specs.declared.specs_words.Given.TheVariants as given
use Rattle.c_declared_types.specs.Words.{AreGiven}
use Rattle.c_declared_types.specs.declared.steps.Step.{Step}
use Rattle.c_declared_types.specs.declared.steps.Step.TheVariants as step
use Rattle.c_declared_types.specs.declared.steps.PlacedStep.{PlacedStep}
use Rattle.c_declared_types.specs.declared.steps.Steps.{Steps}
use Rattle.c_declared_types.specs.Steps.{IsStep, ArePlaced, AreFrom, AreSteps}

-- ---- one more step

placed_more : (k : Known) (ss : List PlacedStep) (rs : List rules.PlacedStep) (s : PlacedStep) (r : rules.PlacedStep) → ArePlaced k ss rs → s.node ≡ r.node → IsStep k s.step r.step
    → ArePlaced k (ss ++ s ∷ []) (rs ++ r ∷ [])
placed_more k [] [] s r h e i = (e, i, tt)
placed_more k [] (x ∷ rs) s r h e i = absurd h
placed_more k (x ∷ ss) [] s r h e i = absurd h
placed_more k (x ∷ ss) (y ∷ rs) s r (a, b, h) e i = (a, b, placed_more k ss rs s r h e i)

from_more : (k : Known) (without : Option ℕ) (outer : List PlacedStep) (rs : List rules.PlacedStep) (s : PlacedStep) (r : rules.PlacedStep)
    → AreFrom k without outer rs → s.node ≡ r.node → IsStep k s.step r.step → AreFrom k without (outer ++ s ∷ []) (rs ++ r ∷ [])
from_more k None outer rs s r h e i = placed_more k outer rs s r h e i
from_more k (Some n) outer [] s r h e i = absurd h
from_more k (Some n) outer (x ∷ rs) s r (a, h) e i = (a, placed_more k outer rs s r h e i)

pub steps_more : (k : Known) (old : Steps) (without : Option ℕ) (outer : List PlacedStep) (node : ℕ) (s : Step) (ss : List rules.PlacedStep) (r : rules.Step)
    → without ≡ old.without_length → outer ≡ old.outer.items ++ record { node = node; step = s } ∷ [] → AreSteps k old ss → IsStep k s r
    → AreFrom k without outer (ss ++ record { node = node; step = r } ∷ [])
steps_more k old without outer node s ss r same e h i =
    rw (same, e) (from_more k old.without_length old.outer.items ss (record { node = node; step = s }) (record { node = node; step = r }) h refl i)

-- the last step
pub record IsLast (k : Known) (ss : List PlacedStep) (s : PlacedStep) (rs : List rules.PlacedStep) : Type 0 where
  pub front : List rules.PlacedStep
  pub last : rules.PlacedStep
  pub parts : rs ≡ front ++ last ∷ []
  pub placed : ArePlaced k ss front
  pub node : s.node ≡ last.node
  pub step : IsStep k s.step last.step

pub last_step : (k : Known) (ss : List PlacedStep) (s : PlacedStep) (rs : List rules.PlacedStep) → ArePlaced k (ss ++ s ∷ []) rs → IsLast k ss s rs
last_step k [] s [] h = absurd h
last_step k [] s (r ∷ []) (e, i, h) = record { front = []; last = r; parts = refl; placed = tt; node = e; step = i }
last_step k [] s (r ∷ x ∷ rs) (e, i, h) = absurd h
last_step k (x ∷ ss) s [] h = absurd h
last_step k (x ∷ ss) s (r ∷ rs) (e, i, h) =
    let l = last_step k ss s rs h in
    record { front = r ∷ l.front; last = l.last; parts = ap (λ xs. r ∷ xs) l.parts; placed = (e, i, l.placed); node = l.node; step = l.step }

-- ---- steps stay what they are while the table grows

pub step_grows : (old new : Known) → Keeps old new → (s : Step) (r : rules.Step) → IsStep old s r → IsStep new s r
step_grows old new g step.ToPointer rules.to_pointer h = tt
step_grows old new g (step.OfArray n) (rules.of_array m) h = h
step_grows old new g step.OfParameter rules.of_parameter h = tt
step_grows old new g (step.OfFunction takes) (rules.of_function ts) h = all_grow old new g.types g.structs takes ts h
step_grows old new g s r h = absurd h

placed_grow : (old new : Known) → Keeps old new → (ss : List PlacedStep) (rs : List rules.PlacedStep) → ArePlaced old ss rs → ArePlaced new ss rs
placed_grow old new g [] [] h = tt
placed_grow old new g [] (r ∷ rs) h = absurd h
placed_grow old new g (s ∷ ss) [] h = absurd h
placed_grow old new g (s ∷ ss) (r ∷ rs) (e, i, h) = (e, step_grows old new g s.step r.step i, placed_grow old new g ss rs h)

from_grows : (old new : Known) → Keeps old new → (without : Option ℕ) (outer : List PlacedStep) (rs : List rules.PlacedStep) → AreFrom old without outer rs → AreFrom new without outer rs
from_grows old new g None outer rs h = placed_grow old new g outer rs h
from_grows old new g (Some n) outer [] h = absurd h
from_grows old new g (Some n) outer (r ∷ rs) (e, h) = (e, placed_grow old new g outer rs h)

pub steps_grow : (old new : Known) → Keeps old new → (ss : Steps) (rs : List rules.PlacedStep) → AreSteps old ss rs → AreSteps new ss rs
steps_grow old new g ss rs h = from_grows old new g ss.without_length ss.outer.items rs h

-- and so do the types among specs
pub given_grow : (old new : Known) → Keeps old new → (g : Given) (ts : List CType) → AreGiven old g ts → AreGiven new g ts
given_grow old new g given.None ts h = h
given_grow old new g (given.One id) ts (t, e, named) = (t, e, names_grow old new g.types g.structs id t named)
given_grow old new g given.Many ts h = h
