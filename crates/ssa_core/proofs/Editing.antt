-- A caller changes the target between calls.
use Rattle.std.proofs.Common.{◌≡◌, ℕ, zero, suc, ◌<◌, ◌⊎◌, inl, inr, true, List, [], ◌∷◌, length, take, Some, refl, sym, ap, ◌∙◌, subst, arith}
use Rattle.std.specs.List.{slice_get}
use Rattle.ssa_core.specs.declared.places.Place.{Place}
use Rattle.ssa_core.specs.declared.notes.Read.{Read}
use Rattle.ssa_core.specs.Places.{place, found}
use Rattle.ssa_core.specs.Shapes.{Shape, Mode, ValueKind, absent, gone, unknown, phi, other, IsThere, HasOnly, IsReplaced, Becomes, KindBecomes, PhiBecomes, AllBecome}
use Rattle.ssa_core.specs.Gives.{Gives, Full}
use Rattle.ssa_core.specs.Known.{Known, last_write, sealed_in, view}
use Rattle.ssa_core.specs.Back.{Back, stay, back}
use Rattle.ssa_core.specs.Building.{CanGive, Stage, filled, waits, IsAmong, IsSettled}
use Rattle.ssa_core.specs.Reads.{IsOfBuilder, was_written_to, was_made_for, was_lost_for, was_read, IsEdited}
use Rattle.ssa_core.proofs.Among.{found_at_index, written_at}
use Rattle.ssa_core.proofs.Reading.{among_taken}
use Rattle.ssa_core.proofs.Keeps.{Extends, chain_extends, gives_extends, full_extends, full_replaced, gives_after, chain_replaced, phi_becomes, unknown_becomes}
use Rattle.ssa_core.proofs.Moves.{phi_is_not_unknown, phi_is_not_gone, same_lists}

module _ {V : Type 0} (modes : ℕ → Mode) (k : Known V) (s t : Shape V) (edit : IsEdited k s t) (settled : IsSettled modes k s) where
  written_of : (x b : ℕ) (u : V) → last_write k.writes x b ≡ Some u → IsOfBuilder k u
  written_of x b u is = let w = written_at k.writes x b u is in was_written_to w.index w.write w.is w.value

  made_of : (x b : ℕ) (p : V) → found k.made x b ≡ Some p → IsAmong k.made p
  made_of x b p is = let at = found_at_index k.made x b p is in record { index = at.index; place = place x b; is = at.is }

  extends : (x : ℕ) → Extends (view k s x) (view k t x)
  extends x = record {
    preds = edit.preds;
    sealed = λ b is. is;
    wrote = λ b. refl;
    wrote_stays = λ b u is. edit.current u (written_of x b u is);
    made = λ b p is. is;
    made_stays = λ b p is. edit.current p (was_made_for (made_of x b p is));
    lost = λ b v is. is;
    unknown_stays = λ b v is kind. (edit.lost x b v is).kind ∙ kind;
  }

  can_give_edited : (mode : Mode) (u : V) → IsOfBuilder k u → CanGive s mode u → CanGive t mode u
  can_give_edited mode u of c = record {
    once = edit.once u of;
    there = subst (λ x. IsThere t x) (sym (edit.current u of)) (edit.there u of);
    alike = ap t.mode (edit.current u of) ∙ edit.alike u of ∙ c.alike;
  }

  full_edited : (x b : ℕ) (p : V) → found k.made x b ≡ Some p → sealed_in k.sealed b ≡ true → Full (view k s x) b p → Full (view k t x) b p
  full_edited x b p is flag full =
      full_extends (view k s x) (view k t x) (extends x) b p is (inl (edit.made p (made_of x b p is)).kind) (edit.preds b flag) full

  stage_edited : (x b : ℕ) (p : V) → found k.made x b ≡ Some p → Stage (view k s x) b p → Stage (view k t x) b p
  stage_edited x b p is (filled flag full) = filled flag (full_edited x b p is flag full)
  stage_edited x b p is (waits empty own) =
      waits ((edit.made p (made_of x b p is)).kind ∙ empty) ((edit.made p (made_of x b p is)).place.current ∙ own)

  back_edited : (x n b stop : ℕ) → Back (view k s x) n b stop → Back (view k t x) n b stop
  back_edited x zero b stop stay = stay
  back_edited x (suc n) b stop (back q flag none preds way) = back q flag none (edit.preds b flag ∙ preds) (back_edited x n q stop way)

  lost_there : (x b : ℕ) (v : V) → found k.lost x b ≡ Some v → IsThere s v → IsThere t v
  lost_there x b v is old = subst (λ y. IsThere t y) old.own (edit.there v (was_lost_for x b is))

  pub settled_edited : IsSettled modes k t
  unfolding extends can_give_edited full_edited stage_edited back_edited lost_there
  settled_edited = record {
    kept = record {
      written = λ i w at. can_give_edited (modes w.var) w.value (was_written_to i w at refl) (settled.kept.written i w at);
      made = λ i home p at.
          let h = settled.kept.made i home p at in
          let same = edit.made p (record { index = i; place = home; is = at }) in
          record {
            home = same.place.block ∙ h.home;
            within = omega (arith, h.within, edit.blocks);
            alike = same.place.mode ∙ h.alike;
            can_give = can_give_edited (modes home.var) p (was_made_for (record { index = i; place = home; is = at })) h.can_give;
            stage = stage_edited home.var home.block p (settled.kept.once i home p at) h.stage;
          };
      once = settled.kept.once;
      apart = λ i j x y p operands ati atj is. settled.kept.apart i j x y p operands ati atj (sym (edit.made p (record { index = i; place = x; is = ati })).kind ∙ is);
      passed = λ x b stop is.
          let h = settled.kept.passed x b stop is in
          record {
            sealed = h.sealed;
            before = h.before;
            preds = edit.preds b h.sealed ∙ h.preds;
            steps = h.steps;
            way = back_edited x h.steps h.before stop h.way;
            within = omega (arith, h.within, edit.blocks);
          };
      lost = λ x b v is.
          let h = settled.kept.lost x b v is in
          record {
            there = lost_there x b v is h.there;
            alike = (edit.lost x b v is).place.mode ∙ h.alike;
            kind_is = (edit.lost x b v is).kind ∙ h.kind_is;
            endless = λ n. chain_extends (view k s x) (view k t x) (extends x) n b (h.endless n);
          };
      sealed = λ b is. omega (arith, settled.kept.sealed b is, edit.blocks);
    };
    done = λ i home p at flag. full_edited home.var home.block p (settled.kept.once i home p at) flag (settled.done i home p at flag);
    reads = λ i r at.
        let h = settled.reads i r at in
        record {
          can_give = can_give_edited (modes r.var) r.value (was_read i r at refl) h.can_give;
          gives =
              subst (λ v. Gives (view k t r.var) (last_write (take r.writes k.writes) r.var r.block) r.block v) (sym (edit.current r.value (was_read i r at refl)))
              (gives_extends (view k s r.var) (view k t r.var) (extends r.var) (last_write (take r.writes k.writes) r.var r.block) r.block (s.current r.value) (own r) h.gives);
        };
    counts = settled.counts;
    asked = settled.asked;
  }
    where
      own : (r : Read V) (u : V) → last_write (take r.writes k.writes) r.var r.block ≡ Some u → t.current u ≡ s.current u
      own r u is =
          let w = written_at (take r.writes k.writes) r.var r.block u is in
          edit.current u (was_written_to w.index w.write (among_taken k.writes r.writes w.index w.write w.is) w.value)

-- ---- a trivial Phi is replaced

record PhiBefore {V : Type 0} (kind : ValueKind V) : Type 0 where
  operands : List V
  is : kind ≡ phi operands

phi_before : {V : Type 0} (old to : V) (kind new : ValueKind V) (operands : List V) → KindBecomes old to kind new → new ≡ phi operands → PhiBefore kind
phi_before old to (phi xs) new operands h e = record { operands = xs; is = refl }
phi_before old to absent new operands h e = absurd (grind (arith, h, e))
phi_before old to gone new operands h e = absurd (grind (arith, h, e))
phi_before old to unknown new operands h e = absurd (grind (arith, h, e))
phi_before old to other new operands h e = absurd (grind (arith, h, e))

absent_before_replaced : {V : Type 0} (old to : V) (kind new : ValueKind V) → KindBecomes old to kind new → new ≡ absent → kind ≡ absent
absent_before_replaced old to (phi xs) new h e = absurd (grind (arith, h.is, e))
absent_before_replaced old to absent new h e = refl
absent_before_replaced old to gone new h e = absurd (grind (arith, h, e))
absent_before_replaced old to unknown new h e = absurd (grind (arith, h, e))
absent_before_replaced old to other new h e = absurd (grind (arith, h, e))

gone_before_replaced : {V : Type 0} (old to : V) (kind new : ValueKind V) → KindBecomes old to kind new → new ≡ gone → kind ≡ gone
gone_before_replaced old to (phi xs) new h e = absurd (grind (arith, h.is, e))
gone_before_replaced old to absent new h e = absurd (grind (arith, h, e))
gone_before_replaced old to gone new h e = refl
gone_before_replaced old to unknown new h e = absurd (grind (arith, h, e))
gone_before_replaced old to other new h e = absurd (grind (arith, h, e))

module _ {V : Type 0} (modes : ℕ → Mode) (k : Known V) (s t : Shape V) (old to : V) (decide : (x y : V) → (x ≡ y) ⊎ (x ≡ y → ⊥)) (only : HasOnly s old to) (to_there : IsThere s to)
    (to_alike : s.mode to ≡ s.mode old) (r : IsReplaced s t old to) (settled : IsSettled modes k s) where
  gone_is_not_absent : (kind : ValueKind V) → kind ≡ gone → kind ≡ absent → ⊥
  gone_is_not_absent kind e f = grind (arith, e, f)

  once_replaced : (v : V) → (s.kind v ≡ absent → ⊥) → t.kind v ≡ absent → ⊥
  once_replaced v some = by (decide v old)
    where
      by : (v ≡ old) ⊎ (v ≡ old → ⊥) → t.kind v ≡ absent → ⊥
      by (inl e) h = gone_is_not_absent (t.kind v) (ap t.kind e ∙ r.went) h
      by (inr d) h = some (absent_before_replaced old to (s.kind v) (t.kind v) (r.kinds v d) h)

  -- a value that is there and is not replaced
  there_other : (v : V) → (v ≡ old → ⊥) → IsThere s v → IsThere t v
  there_other v d h = record {
    once = once_replaced v h.once;
    still = λ e. h.still (gone_before_replaced old to (s.kind v) (t.kind v) (r.kinds v d) e);
    own = by (r.current v);
  }
    where
      by : Becomes old to (s.current v) (t.current v) → t.current v ≡ v
      by (inl e) = absurd (d (sym h.own ∙ e.0))
      by (inr e) = e.1 ∙ h.own

  can_give_replaced : (mode : Mode) (u : V) → CanGive s mode u → CanGive t mode u
  can_give_replaced mode u c = record { once = once_replaced u c.once; there = by (r.current u); alike = alike (r.current u) }
    where
      by : Becomes old to (s.current u) (t.current u) → IsThere t (t.current u)
      by (inl e) = subst (λ x. IsThere t x) (sym e.1) (there_other to only.differs to_there)
      by (inr e) = subst (λ x. IsThere t x) (sym e.1) (there_other (s.current u) e.0 c.there)

      alike : Becomes old to (s.current u) (t.current u) → t.mode (t.current u) ≡ mode
      alike (inl e) = ap t.mode e.1 ∙ r.mode to ∙ to_alike ∙ ap s.mode (sym e.0) ∙ c.alike
      alike (inr e) = ap t.mode e.1 ∙ r.mode (s.current u) ∙ c.alike

  stage_replaced : (x b : ℕ) (p : V) → Stage (view k s x) b p → Stage (view k t x) b p
  stage_replaced x b p (filled flag full) = filled flag (full_replaced (view k s x) t old to only r decide b p full)
  stage_replaced x b p (waits empty own) = waits (kind (phi_becomes old to [] (s.kind p) (t.kind p) empty (r.kinds p differs))) (there_current (r.current p))
    where
      differs : p ≡ old → ⊥
      differs e =
          let none = same_lists (s.kind old) only.operands [] only.kind_is (ap s.kind (sym e) ∙ empty) in
          omega (arith, only.among.1, ap (λ xs. length xs) none)

      kind : PhiBecomes old to [] (t.kind p) → t.kind p ≡ phi []
      kind h = by h.new_operands h.is h.each
        where
          by : (xs : List V) → t.kind p ≡ phi xs → AllBecome old to [] xs → t.kind p ≡ phi []
          by [] is all = is
          by (x ∷ xs) is all = absurd all

      there_current : Becomes old to (s.current p) (t.current p) → t.current p ≡ p
      there_current (inl e) = absurd (differs (sym own ∙ e.0))
      there_current (inr e) = e.1 ∙ own

  back_replaced : (x n b stop : ℕ) → Back (view k s x) n b stop → Back (view k t x) n b stop
  back_replaced x zero b stop stay = stay
  back_replaced x (suc n) b stop (back q flag none preds way) = back q flag none (r.same_blocks.preds b ∙ preds) (back_replaced x n q stop way)

  pub settled_replaced : IsSettled modes k t
  unfolding can_give_replaced stage_replaced back_replaced there_other
  settled_replaced = record {
    kept = record {
      written = λ i w at. can_give_replaced (modes w.var) w.value (settled.kept.written i w at);
      made = λ i home p at.
          let h = settled.kept.made i home p at in
          record {
            home = r.block p ∙ h.home;
            within = subst (λ n. home.block < n) (sym r.same_blocks.blocks) h.within;
            alike = r.mode p ∙ h.alike;
            can_give = can_give_replaced (modes home.var) p h.can_give;
            stage = stage_replaced home.var home.block p h.stage;
          };
      once = settled.kept.once;
      apart = λ i j x y p operands ati atj is. apart i j x y p operands ati atj is (decide p old);
      passed = λ x b stop is.
          let h = settled.kept.passed x b stop is in
          record {
            sealed = h.sealed;
            before = h.before;
            preds = r.same_blocks.preds b ∙ h.preds;
            steps = h.steps;
            way = back_replaced x h.steps h.before stop h.way;
            within = subst (λ n. stop < n) (sym r.same_blocks.blocks) h.within;
          };
      lost = λ x b v is.
          let h = settled.kept.lost x b v is in
          let d : v ≡ old → ⊥ = λ e. phi_is_not_unknown (s.kind old) only.operands only.kind_is (ap s.kind (sym e) ∙ h.kind_is) in
          record {
            there = there_other v d h.there;
            alike = r.mode v ∙ h.alike;
            kind_is = unknown_becomes old to (s.kind v) (t.kind v) h.kind_is (r.kinds v d);
            endless = λ n. chain_replaced (view k s x) t old to only r decide n b (h.endless n);
          };
      sealed = λ b is. subst (λ n. b < n) (sym r.same_blocks.blocks) (settled.kept.sealed b is);
    };
    done = λ i home p at flag. full_replaced (view k s home.var) t old to only r decide home.block p (settled.done i home p at flag);
    reads = λ i x at.
        let h = settled.reads i x at in
        record {
          can_give = can_give_replaced (modes x.var) x.value h.can_give;
          gives =
              gives_after (view k s x.var) t old to only r decide (last_write (take x.writes k.writes) x.var x.block) x.block (s.current x.value) (t.current x.value)
              (r.current x.value) h.gives;
        };
    counts = settled.counts;
    asked = settled.asked;
  }
    where
      apart : (i j : ℕ) (x y : Place) (p : V) (operands : List V) → slice_get k.made i ≡ Some (x, p) → slice_get k.made j ≡ Some (y, p) → t.kind p ≡ phi operands
          → (p ≡ old) ⊎ (p ≡ old → ⊥) → i ≡ j
      apart i j x y p operands ati atj is (inl e) = absurd (phi_is_not_gone (t.kind p) operands is (ap t.kind e ∙ r.went))
      apart i j x y p operands ati atj is (inr d) =
          let h = phi_before old to (s.kind p) (t.kind p) operands (r.kinds p d) is in
          settled.kept.apart i j x y p h.operands ati atj h.is
