-- One write more, in a block that is no predecessor of a block, or of a variable that was never read.
use Rattle.std.proofs.Common.{◌≡◌, ℕ, zero, suc, ◌==◌, ◌&&◌, ◌⊎◌, inl, inr, true, false, cond, [], ◌∷◌, ◌++◌, length, take, Option, Some, None, refl, sym, ap, ◌∙◌, subst, arith}
use Rattle.std.proofs.lemmas.Bool.{cases_eq}
use Rattle.std.proofs.lemmas.Bool.Decides.{nat_tests}
use Rattle.std.proofs.lemmas.List.{length-append, take-append-le}
use Rattle.std.specs.List.{slice_get}
use Rattle.ssa_core.specs.declared.places.Place.{Place}
use Rattle.ssa_core.specs.declared.notes.Write.{Write}
use Rattle.ssa_core.specs.Shapes.{Shape, Mode, IsThere}
use Rattle.ssa_core.specs.Gives.{Gives, written, entered, passed, endless, Chain, no_step, step, Full, at_start, joined, replaced}
use Rattle.ssa_core.specs.Known.{Known, last_write, later_of, view}
use Rattle.ssa_core.specs.Back.{Back, stay, back}
use Rattle.ssa_core.specs.Building.{CanGive, Stage, filled, waits, WasRead, IsNoted, by_made, by_passed, by_lost, IsSettled, IsBefore}
use Rattle.ssa_core.proofs.Among.{get_pushed}
use Rattle.ssa_core.proofs.Lookups.{last_write_push, of_write}

module _ {V : Type 0} (k : Known V) (s : Shape V) (w : Write V) where
  abbrev pub with_write : Known V
  with_write = record k { writes = k.writes ++ w ∷ [] }

  -- what is last written in a block is the same, but for the variable in the block of the write
  elsewhere : (x b : ℕ) → (x ≡ w.var → b ≡ w.block → ⊥) → last_write (k.writes ++ w ∷ []) x b ≡ last_write k.writes x b
  unfolding of_write
  elsewhere x b d = last_write_push k.writes w x b ∙ ap (λ t. later_of (last_write k.writes x b) (cond t (Some w.value) None)) (by (cases_eq x w.var))
    where
      by : (x ≡ w.var) ⊎ (x ≡ w.var → ⊥) → ((x == w.var) && (b == w.block)) ≡ false
      by (inl e) = ap (λ t. t && (b == w.block)) (yes x w.var e) ∙ no b w.block (d e)
        where
          yes : (m n : ℕ) → m ≡ n → (m == n) ≡ true
          yes m n h = grind (arith, nat_tests, h)

          no : (m n : ℕ) → (m ≡ n → ⊥) → (m == n) ≡ false
          no m n h = grind (arith, nat_tests, h)
      by (inr n) = ap (λ t. t && (b == w.block)) (nope x w.var n)
        where
          nope : (m n : ℕ) → (m ≡ n → ⊥) → (m == n) ≡ false
          nope m n h = grind (arith, nat_tests, h)

module _ {V : Type 0} (k : Known V) (s : Shape V) (w : Write V) (x : ℕ)
    (same : (b : ℕ) → IsBefore s b → last_write (k.writes ++ w ∷ []) x b ≡ last_write k.writes x b) where
  only_before : (b q : ℕ) → s.preds b ≡ q ∷ [] → IsBefore s q
  only_before b q e = record { later = b; place = 0; is = ap (λ qs. slice_get qs 0) e }

  chain_written : (n b : ℕ) → Chain (view k s x) n b → Chain (view (with_write k s w) s x) n b
  chain_written zero b c = no_step
  chain_written (suc n) b (step q flag preds none c) = step q flag preds (same q (only_before b q preds) ∙ none) (chain_written n q c)

  gives_written : (own : Option V) (b : ℕ) (v : V) → Gives (view k s x) own b v → Gives (view (with_write k s w) s x) own b v
  gives_written own b v (written u is now) = written u is now
  gives_written own b v (entered p none m now) = entered p none m now
  gives_written own b v (passed q none flag preds g) =
      passed q none flag preds
      (subst (λ o. Gives (view (with_write k s w) s x) o q v) (sym (same q (only_before b q preds))) (gives_written (last_write k.writes x q) q v g))
  gives_written own b v (endless none lost kind chain) = endless none lost kind (λ n. chain_written n b (chain n))

  given_before : (q : ℕ) (v : V) → IsBefore s q → Gives (view k s x) (last_write k.writes x q) q v
      → Gives (view (with_write k s w) s x) (last_write (k.writes ++ w ∷ []) x q) q v
  given_before q v h g = subst (λ o. Gives (view (with_write k s w) s x) o q v) (sym (same q h)) (gives_written (last_write k.writes x q) q v g)

  full_written : (b : ℕ) (p : V) → Full (view k s x) b p → Full (view (with_write k s w) s x) b p
  full_written b p (at_start kind own flag none) = at_start kind own flag none
  full_written b p (joined operands kind own size each) =
      joined operands kind own size (λ i q at. let h = each i q at in record {
        operand = h.operand;
        is = h.is;
        gives = given_before q h.operand (record { later = b; place = i; is = at }) h.gives;
      })
  full_written b p (replaced went q qs preds each) =
      replaced went q qs preds (λ i r at. given_before r (s.current p) (record { later = b; place = i; is = at }) (each i r at))

  back_written : (n b stop : ℕ) → IsBefore s b → Back (view k s x) n b stop → Back (view (with_write k s w) s x) n b stop
  back_written zero b stop h stay = stay
  back_written (suc n) b stop h (back q flag none preds way) =
      back q flag (same b h ∙ none) preds (back_written n q stop (only_before b q preds) way)

  stage_written : (b : ℕ) (p : V) → Stage (view k s x) b p → Stage (view (with_write k s w) s x) b p
  stage_written b p (filled flag full) = filled flag (full_written b p full)
  stage_written b p (waits empty own) = waits empty own

module _ {V : Type 0} (modes : ℕ → Mode) (k : Known V) (s : Shape V) (w : Write V) (settled : IsSettled modes k s) (there : IsThere s w.value) (alike : s.mode w.value ≡ modes w.var)
    (last : WasRead k w.var → IsBefore s w.block → ⊥) where
  -- of a variable that was read
  same_before : (x : ℕ) → WasRead k x → (b : ℕ) → IsBefore s b → last_write (k.writes ++ w ∷ []) x b ≡ last_write k.writes x b
  same_before x read b h = elsewhere k s w x b (λ e f. last (subst (λ y. WasRead k y) e read) (subst (λ c. IsBefore s c) f h))

  made_read : (i : ℕ) (home : Place) (p : V) → slice_get k.made i ≡ Some (home, p) → WasRead k home.var
  made_read i home p at = settled.asked home.var (by_made home.block p (settled.kept.once i home p at))

  again : (x : ℕ) → IsNoted (with_write k s w) x → IsNoted k x
  again x (by_made b p is) = by_made b p is
  again x (by_passed b n is) = by_passed b n is
  again x (by_lost b v is) = by_lost b v is

  pub settled_written : IsSettled modes (with_write k s w) s
  unfolding same_before made_read again
  settled_written = record {
    kept = record {
      written = λ i x at. by i x (get_pushed k.writes w x i at);
      made = λ i home p at.
          let h = settled.kept.made i home p at in
          record {
            home = h.home;
            within = h.within;
            alike = h.alike;
            can_give = h.can_give;
            stage = stage_written k s w home.var (same_before home.var (made_read i home p at)) home.block p h.stage;
          };
      once = settled.kept.once;
      apart = settled.kept.apart;
      passed = λ x b stop is.
          let h = settled.kept.passed x b stop is in
          record {
            sealed = h.sealed;
            before = h.before;
            preds = h.preds;
            steps = h.steps;
            way = back_written k s w x (same_before x (settled.asked x (by_passed b stop is))) h.steps h.before stop
                (record { later = b; place = 0; is = ap (λ qs. slice_get qs 0) h.preds }) h.way;
            within = h.within;
          };
      lost = λ x b v is.
          let h = settled.kept.lost x b v is in
          record {
            there = h.there;
            alike = h.alike;
            kind_is = h.kind_is;
            endless = λ n. chain_written k s w x (same_before x (settled.asked x (by_lost b v is))) n b (h.endless n);
          };
      sealed = settled.kept.sealed;
    };
    done = λ i home p at flag.
        full_written k s w home.var (same_before home.var (made_read i home p at)) home.block p (settled.done i home p at flag);
    reads = λ i r at.
        let h = settled.reads i r at in
        record {
          can_give = h.can_give;
          gives =
              subst (λ ws. Gives (view (with_write k s w) s r.var) (last_write ws r.var r.block) r.block (s.current r.value))
              (sym (take-append-le r.writes k.writes (w ∷ []) (settled.counts i r at)))
              (gives_written k s w r.var (same_before r.var (record { index = i; read = r; is = at; of_var = refl })) (last_write (take r.writes k.writes) r.var r.block) r.block
              (s.current r.value) h.gives);
        };
    counts = λ i r at. omega (arith, settled.counts i r at, length-append k.writes (w ∷ []));
    asked = λ x n. let h = settled.asked x (again x n) in record { index = h.index; read = h.read; is = h.is; of_var = h.of_var };
  }
    where
      here : CanGive s (modes w.var) w.value
      here = record { once = there.once; there = subst (λ x. IsThere s x) (sym there.own) there; alike = ap s.mode there.own ∙ alike }

      by : (i : ℕ) (x : Write V) → (slice_get k.writes i ≡ Some x) ⊎ ((x ≡ w) × (i ≡ length k.writes)) → CanGive s (modes x.var) x.value
      by i x (inl at) = settled.kept.written i x at
      by i x (inr e) = subst (λ y. CanGive s (modes y.var) y.value) (sym e.0) here
