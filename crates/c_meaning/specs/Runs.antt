-- A run of a unit.
use Rattle.std.specs.Prelude.{ℕ, zero, suc, ◌%◌, if◌then◌else◌, List, [], ◌∷◌, Option, Some, None}
use Rattle.cp_base.specs.declared.layout.Layout.{Layout}
use Rattle.run_model.specs.declared.outcome.Outcome.{Outcome}
use Rattle.run_model.specs.declared.outcome.Outcome.TheVariants.{Ended, Undefined, Deep}
use Rattle.run_model.specs.Stores.{World, first_store}
use Rattle.c_types.specs.declared.tree.Func.{Func}
use Rattle.c_types.specs.declared.tree.Unit.{Unit as Whole}
use Rattle.c_types.specs.Placing.{image}
use Rattle.c_meaning.specs.Steps.{State, Result, Gives, Stops}
use Rattle.c_meaning.specs.Meaning.{Flow, Returns, is_main, first_locals, run}

-- how a run came out, and its output up to there
pub record Ran : Type 0 where
  pub outcome : Outcome
  pub out : List ℕ

abbrev pub main_of : List Func → Option Func
main_of [] = None
main_of (f ∷ fs) = if is_main f then Some f else main_of fs

-- the status of a run whose main ended so: the value that it returned, or 0 (5.1.2.2.3), modulo 256
abbrev pub status_of : Flow → ℕ
status_of (Returns (Some v)) = v % 256
status_of flow = 0

abbrev pub ran : Result Flow → Ran
ran (Gives flow s) = record { outcome = Ended (status_of flow); out = s.store.out }
ran (Stops outcome store) = record { outcome = outcome; out = store.out }

-- where the body of main begins
abbrev pub first_state : Whole → World → ℕ → Func → State
first_state u w turns main = record { store = first_store (image u.objects w.base) turns; locals = first_locals main [] }

abbrev pub run_main : Whole → World → ℕ → Option Func → Ran
run_main u w turns (Some main) = ran (run u w turns main.body (first_state u w turns main))
run_main u w turns None = record { outcome = Undefined; out = [] }

-- the outcome of a run over so many turns, at a depth, and the output up to it. The layout tells where the data is.
unfoldable pub c_run : Whole → Layout → (input : List ℕ) → (depth turns : ℕ) → Ran
c_run u layout input zero turns = record { outcome = Deep; out = [] }
c_run u layout input (suc depth) turns =
    run_main u (record { base = layout.cdata; input = input; depth = suc depth }) turns (main_of u.functions)
