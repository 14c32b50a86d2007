use Rattle.std.proofs.Common.{◌≡◌, ◌∙◌, List, ◌++◌, ◌∷◌, [], ap, length, true, sym, arith, refl, subst, get_or, if◌then◌else◌}
use Rattle.std.proofs.lemmas.List.{length_push}
use Rattle.cp_obstack.specs.Lists.{list_of}
use Rattle.firm_tables.specs.declared.nodes.Stored.{Stored}
use Rattle.firm_tables.specs.Nodes.{numbers}
use Rattle.firm_tables.specs.Held.{no_row, is_in}
use Rattle.firm_tables.specs.Leaves.{IsListed}
use Rattle.firm_tables.proofs.LeafLaws.{leaves_kept, leaves_made}
use Rattle.firm_tables.proofs.BlockLaws.{any_err, in_time}
use Rattle.firm_tables.proofs.NodeLaws.{nodes_long, unseen, held_kept, held_made, made_seen, from_ok, from_err}
use Rattle.firm_tables.proofs.MemberLaws.{members_back, is_member, member_made}
use Rattle.firm_tables.proofs.nodes.Nodes.add.Goals as goal

pub returns-in_err-be_own-clause-err : goal.returns-in_err-be_own-clause-err
returns-in_err-be_own-clause-err c =
    any_err c.from_residual-in_err-be_own.result
    (unseen c.self.inside.operands.uses c.self.inside.currents.uses c.self.inside.operands.uses c.be_own.new.currents.uses c.self.inside.rows.items c.reserve.new.self.items c.args.self.now
    c.len-number.result c.self.view_is (omega (arith, c.len-number.ensures)) c.reserve.ensures.items (λ k ne. refl) c.be_own.ensures.others)

pub returns-in_err-push-clause-err : goal.returns-in_err-push-clause-err
returns-in_err-push-clause-err c =
    any_err c.from_residual-in_err-push.result
    (unseen c.self.inside.operands.uses c.self.inside.currents.uses c.self.inside.operands.uses c.be_own.new.currents.uses c.self.inside.rows.items c.reserve.new.self.items c.args.self.now
    c.len-number.result c.self.view_is (omega (arith, c.len-number.ensures)) c.reserve.ensures.items (λ k ne. refl) c.be_own.ensures.others)

pub returns-in_err-enlist-clause-err : goal.returns-in_err-enlist-clause-err
returns-in_err-enlist-clause-err c =
    any_err c.from_residual-in_err-enlist.result
    (unseen c.self.inside.operands.uses c.self.inside.currents.uses c.self.inside.operands.uses c.be_own.new.currents.uses c.self.inside.rows.items c.reserve.new.self.items c.args.self.now
    c.len-number.result c.self.view_is (omega (arith, c.len-number.ensures)) c.reserve.ensures.items (λ k ne. refl) c.be_own.ensures.others)

pub enter-requires-clause-list : goal.enter-requires-clause-list
enter-requires-clause-list c = λ index h.
    omega (arith, c.requires index h, c.len-number.ensures, ap length c.self.view_is, nodes_long 0 c.self.inside.operands.uses c.self.inside.currents.uses c.self.inside.rows.items)

pub remove-requires : goal.remove-requires
remove-requires c = is_member c.self.inside.members c.push.new.self c.args.block c.len-number.result c.in_ok-push.ensures.ok

pub invariant_of-self-then-is_err : goal.invariant_of-self-then-is_err
invariant_of-self-then-is_err c = (
  held_kept _ (length c.reserve.new.self.items) c.len-number.result c.self.inside.operands c.self.inside.currents c.enter.new.operands c.be_own.new.currents c.self.invariant.0 (omega (arith, c.len-number.ensures))
      (ap length c.reserve.ensures.items) c.enter.ensures.covers c.be_own.ensures.covers
      (from_err c.enter.result (sym c.is_err.ensures.value ∙ c.if-is_err.true) c.enter.ensures.err) c.enter.ensures.others c.be_own.ensures.others,
  (
    λ b n. members_back c.self.inside.members c.push.new.self c.remove.new.self c.args.block c.len-number.result c.in_ok-push.ensures.ok c.push.ensures.others c.remove.ensures.this
        c.remove.ensures.others b n
        ∙ c.self.invariant.1.0 b n ∙ ap (λ (rows : List Stored). if is_in (get_or rows n no_row) b then 1 else 0) (sym c.reserve.ensures.items),
    leaves_kept c.self.inside.rows.items c.reserve.new.self.items c.self.inside.leaves c.enlist.new.self c.reserve.ensures.items c.self.invariant.1.1 c.enlist.ensures.kept,
  ),
)

pub returns-then-is_err-clause-err : goal.returns-then-is_err-clause-err
returns-then-is_err-clause-err c =
    unseen c.self.inside.operands.uses c.self.inside.currents.uses c.enter.new.operands.uses c.be_own.new.currents.uses c.self.inside.rows.items c.reserve.new.self.items c.args.self.now
    c.len-number.result c.self.view_is (omega (arith, c.len-number.ensures)) c.reserve.ensures.items c.enter.ensures.others c.be_own.ensures.others

pub invariant_of-self-2 : goal.invariant_of-self-2
invariant_of-self-2 c =
    let rows = c.self.inside.rows.items in
    let row : Stored = record { op = c.args.op; block = c.args.block; there = true } in
    let pushed = in_time c.push-2.result c.push-2.new.self.items c.reserve.new.self.items rows row (c.push-2.ensures.succeeds (omega (arith, c.in_ok-reserve.ensures.ok))) c.push-2.ensures.items
    c.reserve.ensures.items in
    let entered = sym c.is_err.ensures.value ∙ c.if-is_err.false in
    let counted : c.len-number.result ≡ length rows = omega (arith, c.len-number.ensures) in (
      held_made _ (length c.push-2.new.self.items) c.len-number.result c.self.inside.operands c.self.inside.currents c.enter.new.operands c.be_own.new.currents c.self.invariant.0 (omega (arith, c.len-number.ensures))
          (omega (arith, ap length pushed, length_push rows row)) (from_ok c.enter.result entered c.enter.ensures.ok_covers) c.in_ok-be_own.ensures.ok c.in_ok-be_own.ensures.own
          c.enter.ensures.others c.be_own.ensures.others,
      (
        λ b n. member_made rows c.self.inside.members c.push.new.self row c.self.invariant.1.0 refl
            (c.in_ok-push.ensures.ok ∙ ap (λ i. list_of c.self.inside.members c.args.block ++ i ∷ []) counted) c.push.ensures.others b n
            ∙ ap (λ (all : List Stored). if is_in (get_or all n no_row) b then 1 else 0) (sym pushed),
        leaves_made rows c.push-2.new.self.items row c.self.inside.leaves c.enlist.new.self pushed c.self.invariant.1.1 c.enlist.ensures.kept
            (λ code coded. subst (λ k. IsListed c.enlist.new.self code c.args.block k) counted (c.in_ok-enlist.ensures.ok code coded)),
      ),
    )

pub returns-clause-ok : goal.returns-clause-ok
returns-clause-ok c =
    let rows = c.self.inside.rows.items in
    let row : Stored = record { op = c.args.op; block = c.args.block; there = true } in
    let pushed = in_time c.push-2.result c.push-2.new.self.items c.reserve.new.self.items rows row (c.push-2.ensures.succeeds (omega (arith, c.in_ok-reserve.ensures.ok))) c.push-2.ensures.items
    c.reserve.ensures.items in
    let entered = sym c.is_err.ensures.value ∙ c.if-is_err.false in
    made_seen c.self.inside.operands.uses c.self.inside.currents.uses c.enter.new.operands.uses c.be_own.new.currents.uses rows c.push-2.new.self.items c.args.self.now row
    (numbers c.args.operands.now) c.len-number.result c.self.view_is (omega (arith, c.len-number.ensures)) pushed refl (from_ok c.enter.result entered c.enter.ensures.ok) c.in_ok-be_own.ensures.own
    c.enter.ensures.others c.be_own.ensures.others

pub returns-clause-number : goal.returns-clause-number
returns-clause-number c =
    omega (arith, c.len-number.ensures, ap length c.self.view_is, nodes_long 0 c.self.inside.operands.uses c.self.inside.currents.uses c.self.inside.rows.items)
