-- What reads and operands mean, from what holds between calls.
use Rattle.std.proofs.Common.{◌≡◌, ℕ, List, [], length, take, Option, Some, refl, sym, ap, ◌∙◌, subst, arith}
use Rattle.std.specs.List.{slice_get}
use Rattle.ssa_core.specs.declared.places.Place.{Place}
use Rattle.ssa_core.specs.declared.notes.Read.{Read}
use Rattle.ssa_core.specs.Places.{place, found}
use Rattle.ssa_core.specs.Shapes.{Shape, Mode, phi}
use Rattle.ssa_core.specs.Walks.{Walk, end, Visits, along, last_with}
use Rattle.ssa_core.specs.Gives.{Gives, written, entered, passed, endless, IsGivenAt, Full, at_start, joined, replaced, Reaches, IsComplete}
use Rattle.ssa_core.specs.Known.{Known, last_write, view, nothing_known}
use Rattle.ssa_core.specs.Building.{Stage, filled, waits, IsSettled, IsNoted, by_made, by_passed, by_lost}
use Rattle.ssa_core.specs.Reads.{IsSound, ArePhisFull, IsOf, of_write, of_made, of_lost, StandsFor, ReadMeans, OperandMeans}
use Rattle.ssa_core.proofs.Among.{found_at_index, written_at, none_is_not_some, some_same}
use Rattle.ssa_core.proofs.Reading.{among_taken}
use Rattle.ssa_core.proofs.Settling.{no_preds}
use Rattle.ssa_core.proofs.Moves.{phi_is_not_unknown, phi_is_not_gone, same_lists}
use Rattle.ssa_core.proofs.GlobalTheorem.{is_last_written, is_on_walk}

module _ {V : Type 0} (modes : ℕ → Mode) (k : Known V) (s : Shape V) (settled : IsSettled modes k s) (sound : IsSound k s) (var : ℕ) (phis : ArePhisFull k s var) where
  complete : IsComplete (view k s var)
  complete = record {
    no_way_back = sound.no_way_back;
    in_block = λ b p is. let at = found_at_index k.made var b p is in (settled.kept.made at.index (place var b) p at.is).home;
    full = λ b p is. let at = found_at_index k.made var b p is in full b p at.index at.is (settled.kept.made at.index (place var b) p at.is).stage;
    reaches = λ b u is walk is_walk at. let w = written_at k.writes var b u is in
        subst (λ x. Visits s walk (s.block (s.current x))) w.value (sound.reaches w.index w.write w.is walk is_walk (at ∙ sym w.of_block));
  }
    where
      full : (b : ℕ) (p : V) (i : ℕ) → slice_get k.made i ≡ Some (place var b, p) → Stage (view k s var) b p → Full (view k s var) b p
      full b p i at (filled flag h) = h
      full b p i at (waits empty own) =
          let none = no_preds (s.preds b) (sym (phis i (place var b) p [] at refl empty)) in
          joined [] empty own (ap (λ qs. length qs) (sym none))
          (λ j pred is. absurd (none_is_not_some pred (ap (λ qs. slice_get qs j) (sym none) ∙ is)))

  -- what was written to the variable
  of_last : (b : ℕ) (u : V) → last_write k.writes var b ≡ Some u → IsOf k s var u
  of_last b u is = let w = written_at k.writes var b u is in of_write w.index w.write w.is w.of_var w.value

  stands : (own : Option V) (b : ℕ) (v : V) → ((u : V) → own ≡ Some u → IsOf k s var u) → Gives (view k s var) own b v → StandsFor k s var v
  stands own b v mine (written u is same) = record { value = u; of_var = mine u is; is = same }
  stands own b v mine (entered p none m same) = record { value = p; of_var = of_made b m; is = same }
  stands own b v mine (passed q none flag preds g) = stands (last_write k.writes var q) q v (λ u is. of_last q u is) g
  stands own b v mine (endless none lost kind chain) = record {
    value = v;
    of_var = of_lost b lost;
    is = sym (settled.kept.lost var b v lost).there.own;
  }

  pub operand_means : (pred : ℕ) (operand : V) → Gives (view k s var) (last_write k.writes var pred) pred operand → OperandMeans k s var pred operand
  unfolding complete
  operand_means pred operand g = record {
    is_last = λ walk is at.
        is_last_written (view k s var) complete walk is (last_write k.writes var (end s walk)) operand (complete.reaches (end s walk))
        (subst (λ b. Gives (view k s var) (last_write k.writes var b) b operand) (sym at) g);
    on_walk = λ walk is at.
        is_on_walk (view k s var) complete walk is (last_write k.writes var (end s walk)) operand (complete.reaches (end s walk))
        (subst (λ b. Gives (view k s var) (last_write k.writes var b) b operand) (sym at) g);
    stands_for = stands (last_write k.writes var pred) pred operand (λ u is. of_last pred u is) g;
  }

  pub read_means : (r : Read V) (index : ℕ) → slice_get k.reads index ≡ Some r → r.var ≡ var → ReadMeans k s r
  unfolding complete
  read_means r index at same = record {
    is_last = λ walk is ends.
        subst (λ x. along s walk (s.current r.value) ≡ last_with s (last_write k.writes x) (last_write (take r.writes k.writes) x r.block) walk) (sym same)
        (is_last_written (view k s var) complete walk is own (s.current r.value) (reaches walk ends) (gives walk ends));
    on_walk = λ walk is ends. is_on_walk (view k s var) complete walk is own (s.current r.value) (reaches walk ends) (gives walk ends);
    stands_for = subst (λ x. StandsFor k s x (s.current r.value)) (sym same) (stands own r.block (s.current r.value) mine given);
  }
    where
      own : Option V
      own = last_write (take r.writes k.writes) var r.block

      given : Gives (view k s var) (last_write (take r.writes k.writes) var r.block) r.block (s.current r.value)
      given = subst (λ x. Gives (view k s x) (last_write (take r.writes k.writes) x r.block) r.block (s.current r.value)) same (settled.reads index r at).gives

      mine : (u : V) → last_write (take r.writes k.writes) var r.block ≡ Some u → IsOf k s var u
      mine u is =
          let w = written_at (take r.writes k.writes) var r.block u is in
          of_write w.index w.write (among_taken k.writes r.writes w.index w.write w.is) w.of_var w.value

      reaches : (walk : Walk) → end s walk ≡ r.block → Reaches s (last_write (take r.writes k.writes) var r.block) (end s walk)
      reaches walk ends u is other is_walk to =
          let w = written_at (take r.writes k.writes) var r.block u is in
          subst (λ x. Visits s other (s.block (s.current x))) w.value
          (sound.reaches w.index w.write (among_taken k.writes r.writes w.index w.write w.is) other is_walk (to ∙ ends ∙ sym w.of_block))

      gives : (walk : Walk) → end s walk ≡ r.block → Gives (view k s var) (last_write (take r.writes k.writes) var r.block) (end s walk) (s.current r.value)
      gives walk ends = subst (λ b. Gives (view k s var) (last_write (take r.writes k.writes) var r.block) b (s.current r.value)) (sym ends) given

module _ {V : Type 0} (modes : ℕ → Mode) (k : Known V) (s : Shape V) (settled : IsSettled modes k s) where
  -- an operand of a made Phi is given at its predecessor
  pub operand_given : (index : ℕ) (home : Place) (p : V) (operands : List V) → slice_get k.made index ≡ Some (home, p) → s.kind p ≡ phi operands
      → (place pred : ℕ) (operand : V) → slice_get (s.preds home.block) place ≡ Some pred → slice_get operands place ≡ Some operand
      → Gives (view k s home.var) (last_write k.writes home.var pred) pred operand
  operand_given index home p operands at kind i pred operand to is = by (settled.kept.made index home p at).stage
    where
      given : (xs : List V) → xs ≡ operands → IsGivenAt (view k s home.var) xs i pred → Gives (view k s home.var) (last_write k.writes home.var pred) pred operand
      given xs same g =
          subst (λ v. Gives (view k s home.var) (last_write k.writes home.var pred) pred v) (some_same g.operand operand (sym g.is ∙ ap (λ ys. slice_get ys i) same ∙ is)) g.gives

      by : Stage (view k s home.var) home.block p → Gives (view k s home.var) (last_write k.writes home.var pred) pred operand
      by (filled flag (at_start is_unknown own f none)) = absurd (phi_is_not_unknown (s.kind p) operands kind is_unknown)
      by (filled flag (joined xs is_phi own size each)) = given xs (same_lists (s.kind p) xs operands is_phi kind) (each i pred to)
      by (filled flag (replaced went q qs preds each)) = absurd (phi_is_not_gone (s.kind p) operands kind went)
      by (waits empty own) =
          absurd (none_is_not_some operand (ap (λ ys. slice_get ys i) (same_lists (s.kind p) [] operands empty kind) ∙ is))

pub nothing_holds : {V : Type 0} (modes : ℕ → Mode) (s : Shape V) → IsSettled modes (nothing_known {V = V}) s
unfolding found
nothing_holds {V} modes s = record {
  kept = record {
    written = λ i w at. absurd (none_is_not_some w at);
    made = λ i home p at. absurd (none_is_not_some (home, p) at);
    once = λ i home p at. absurd (none_is_not_some (home, p) at);
    apart = λ i j x y p operands ati atj is. absurd (none_is_not_some (x, p) ati);
    passed = λ x b stop is. absurd (none_is_not_some stop is);
    lost = λ x b v is. absurd (none_is_not_some v is);
    sealed = λ b is. absurd (grind (arith, is));
  };
  done = λ i home p at flag. absurd (none_is_not_some (home, p) at);
  reads = λ i r at. absurd (none_is_not_some r at);
  counts = λ i r at. absurd (none_is_not_some r at);
  asked = λ x n. absurd (no_notes x n);
}
  where
    no_notes : (x : ℕ) → IsNoted (nothing_known {V = V}) x → ⊥
    no_notes x (by_made b p is) = none_is_not_some p is
    no_notes x (by_passed b n is) = none_is_not_some n is
    no_notes x (by_lost b v is) = none_is_not_some v is
