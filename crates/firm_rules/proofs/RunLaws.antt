-- The laws of whole runs.
use Rattle.std.proofs.Common.{◌≡◌, ◌≢◌, sym, refl, ap, ◌∙◌, subst, ℕ, zero, suc, ◌==◌, arith, le_refl, Bool, true, false, ◌⊎◌, inl, inr, List, [], ◌∷◌, Option, Some, None}
use Rattle.std.specs.Prelude.{slice_get, find, cond, codes, unwrap_or, if◌then◌else◌}
use Rattle.std.specs.Str.{bytes_eq}
use Rattle.cp_base.specs.declared.layout.Layout.{Layout}
use Rattle.run_model.specs.Stores.{World, first_store}
use Rattle.firm_rules.specs.Graphs.{Firm, Program}
use Rattle.firm_rules.specs.Lookups.{first_of}
use Rattle.firm_rules.specs.Rules.{chain, Obeys, IsClosed}
use Rattle.firm_rules.specs.Frames.{first_frame}
use Rattle.firm_rules.specs.Runs.{Cause, no_main, no_status, bad_access, no_graph, no_value, malformed, stuck, Result, gives, stops, Runs, run, FirmRan, main_of, ran, run_main, firm_run, RunsProgram, without_depth, without_main, with_main}
use Rattle.firm_rules.proofs.Steps.{Test, alike, apart, test}
use Rattle.firm_rules.proofs.Chains.{chain_acts}
use Rattle.firm_rules.proofs.Agreement.{run_runs, runs_are}
use Rattle.firm_rules.proofs.Stuck.{Fine, FineResult, IsGraph, first_is_block, runs_fine}

-- what is found is in the list
found_in : (t : Firm → Bool) (gs : List Firm) (g : Firm) → find t gs ≡ Some g → (index : ℕ) × (slice_get gs index ≡ Some g)
found_in t [] g e = absurd (nothing e)
  where
    nothing : None ≡ Some g → ⊥
    nothing e = grind arith
found_in t (x ∷ xs) g e = by (t x) (found_in t xs g) e
  where
    by : (b : Bool) → (find t xs ≡ Some g → (index : ℕ) × (slice_get xs index ≡ Some g)) → cond b (Some x) (find t xs) ≡ Some g
        → (index : ℕ) × (slice_get (x ∷ xs) index ≡ Some g)
    by true before e = (0, e)
    by false before e = let rest = before e in (suc rest.0, rest.1)

abbrev pub world : Layout → List ℕ → ℕ → World
world layout input depth = record { base = layout.cdata; input = input; depth = depth }

-- the run of `main` is what the relation says
pub firm_is : (p : Program) (image : List ℕ) (layout : Layout) (input : List ℕ) (depth turns : ℕ) (main : Firm) (r : Result (Option ℕ))
    → main_of p ≡ Some main → main.params ≡ 0
    → Runs p (world layout input (suc depth)) main (first_of main.order) (chain main (first_of main.order)) (first_frame []) (first_store image turns) r
    → firm_run p image layout input (suc depth) turns ≡ ran r
unfolding firm_run
firm_is p image layout input depth turns main r is none one =
    ap (run_main p image (world layout input (suc depth)) turns) is
    ∙ by (test main.params 0)
  where
    by : Test main.params 0 → run_main p image (world layout input (suc depth)) turns (Some main) ≡ ran r
    by (alike _ e) =
        ap (λ b. if b then ran (run p (world layout input (suc depth)) turns main (first_of main.order) (first_frame []) (first_store image turns)) else record { outcome = stuck no_main; out = [] }) e
        ∙ ap ran (runs_are p (world layout input (suc depth)) turns (le_refl turns) one)
    by (apart d _) = absurd (d none)

-- what a run comes to in the relation, the function gives,
pub program_is : (p : Program) (image : List ℕ) (layout : Layout) (input : List ℕ) (depth turns : ℕ) (x : FirmRan)
    → RunsProgram p image layout input depth turns x → firm_run p image layout input depth turns ≡ x
unfolding firm_run
program_is p image layout input zero turns x without_depth = refl
program_is p image layout input (suc depth) turns x (without_main none) = by (main_of p) none
  where
    by : (found : Option Firm) → ((main : Firm) → found ≡ Some main → main.params ≢ 0)
        → run_main p image (world layout input (suc depth)) turns found ≡ record { outcome = stuck no_main; out = [] }
    by None none = refl
    by (Some main) none = here (test main.params 0)
      where
        here : Test main.params 0 → run_main p image (world layout input (suc depth)) turns (Some main) ≡ record { outcome = stuck no_main; out = [] }
        here (alike e _) = absurd (none main refl e)
        here (apart _ e) =
            ap (λ b. if b then ran (run p (world layout input (suc depth)) turns main (first_of main.order) (first_frame []) (first_store image turns)) else record { outcome = stuck no_main; out = [] }) e
program_is p image layout input (suc depth) turns x (with_main {r = r} main is none one) = firm_is p image layout input depth turns main r is none one

-- and it comes to something
pub program_runs : (p : Program) (image : List ℕ) (layout : Layout) (input : List ℕ) (depth turns : ℕ)
    → RunsProgram p image layout input depth turns (firm_run p image layout input depth turns)
unfolding firm_run
program_runs p image layout input zero turns = without_depth
program_runs p image layout input (suc depth) turns = by (main_of p) refl
  where
    nothing : (main : Firm) → None ≡ Some main → ⊥
    nothing main e = grind arith

    same : (one other : Firm) → Some one ≡ Some other → one ≡ other
    same one other e = ap (λ x. unwrap_or x one) e

    by : (found : Option Firm) → main_of p ≡ found → RunsProgram p image layout input (suc depth) turns (run_main p image (world layout input (suc depth)) turns found)
    by None is = without_main (λ main e none. nothing main (sym is ∙ e))
    by (Some main) is = here (test main.params 0)
      where
        result : Result (Option ℕ)
        result = run p (world layout input (suc depth)) turns main (first_of main.order) (first_frame []) (first_store image turns)

        here : Test main.params 0 → RunsProgram p image layout input (suc depth) turns (run_main p image (world layout input (suc depth)) turns (Some main))
        here (alike e t) =
            subst (λ b. RunsProgram p image layout input (suc depth) turns (if b then ran result else record { outcome = stuck no_main; out = [] })) (sym t)
            (with_main main is e (run_runs p (world layout input (suc depth)) turns main (first_of main.order) (first_frame []) (first_store image turns) (le_refl turns)))
        here (apart d t) =
            subst (λ b. RunsProgram p image layout input (suc depth) turns (if b then ran result else record { outcome = stuck no_main; out = [] })) (sym t)
            (without_main (λ other e none. d (ap (λ (x : Firm). x.params) (same main other (sym is ∙ e)) ∙ none)))

fine_ran : (r : Result (Option ℕ)) → FineResult r → Fine (ran r).outcome
fine_ran (gives (Some word) s) fine = tt
fine_ran (gives None s) fine = tt
fine_ran (stops outcome s) fine = fine

-- of a run that is stuck
abbrev pub Meant : Cause → Type 0
Meant c = (c ≡ no_main) ⊎ ((c ≡ no_status) ⊎ ((c ≡ bad_access) ⊎ (c ≡ no_value)))

fine_meant : (c : Cause) → Fine (stuck c) → Meant c
fine_meant no_main fine = inl refl
fine_meant no_status fine = inr (inl refl)
fine_meant bad_access fine = inr (inr (inl refl))
fine_meant no_graph fine = absurd fine
fine_meant no_value fine = inr (inr (inr refl))
fine_meant malformed fine = absurd fine

module _ (p : Program) (closed : IsClosed p) (obeys : (index : ℕ) (g : Firm) → slice_get p.graphs index ≡ Some g → Obeys g) where
  fine_main : (image : List ℕ) (w : World) (turns : ℕ) (main : Option Firm) → main_of p ≡ main → Fine (run_main p image w turns main).outcome
  fine_main image w turns None is = tt
  fine_main image w turns (Some main) is = by (main.params == 0)
    where
      is_graph : IsGraph p main
      is_graph = found_in (λ g. bytes_eq g.name (codes "main")) p.graphs main is

      by : (t : Bool) → Fine (if t
          then ran (run p w turns main (first_of main.order) (first_frame []) (first_store image turns))
          else record { outcome = stuck no_main; out = [] }).outcome
      by true =
          fine_ran (run p w turns main (first_of main.order) (first_frame []) (first_store image turns))
          (runs_fine p w closed obeys (run_runs p w turns main (first_of main.order) (first_frame []) (first_store image turns) (le_refl turns)) is_graph
          (first_is_block main (obeys is_graph.0 main is_graph.1).some_block) (chain_acts main (first_of main.order)))
      by false = tt

  fine_firm : (image : List ℕ) (layout : Layout) (input : List ℕ) (depth turns : ℕ) → Fine (firm_run p image layout input depth turns).outcome
  unfolding firm_run
  fine_firm image layout input zero turns = tt
  fine_firm image layout input (suc depth) turns = fine_main image (world layout input (suc depth)) turns (main_of p) refl

  pub stuck_where : (image : List ℕ) (layout : Layout) (input : List ℕ) (depth turns : ℕ) (c : Cause)
      → (firm_run p image layout input depth turns).outcome ≡ stuck c → Meant c
  stuck_where image layout input depth turns c is = fine_meant c (subst Fine is (fine_firm image layout input depth turns))
