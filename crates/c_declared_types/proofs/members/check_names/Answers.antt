use Rattle.std.proofs.Common.{ℕ, List, ◌∙◌, ap, sym, arith}
use Rattle.std.proofs.lemmas.List.{drop_all}
use Rattle.c_types.specs.declared.kind.TypeId.{TypeId}
use Rattle.c_declared_types.specs.Members.{named_in, texts_of}
use Rattle.c_declared_types.proofs.MemberLaws.{found_twice, found_once, at_end, stood_twice, stood_once}
use Rattle.c_declared_types.proofs.members.check_names.Goals as goal

pub returns-then-not-branch : goal.returns-then-not-branch
returns-then-not-branch c =
    stood_twice (named_in c.args.members.now c.args.nodes.now) _
    (found_twice c.args.members.now c.args.nodes.now c.loop-k.k c.index-members-k.result c.requires (omega (arith, c.loop-k-test.true)) c.index-members-k.is
    c.as_slice.result.now (c.as_slice.ensures ∙ ap (λ (m : List ℕ × TypeId). m.0) (sym c.index-members-k.is)) (texts_of c.loop-k.names) c.in_ok-is_new.field-0 c.in_ok-is_new.ensures.new c.loop-k.invariant c.if-not-branch.true)

pub loop-k-preserved : goal.loop-k-preserved
loop-k-preserved c =
    found_once c.args.members.now c.args.nodes.now c.loop-k.k c.index-members-k.result c.requires (omega (arith, c.loop-k-test.true)) c.index-members-k.is
    c.as_slice.result.now (c.as_slice.ensures ∙ ap (λ (m : List ℕ × TypeId). m.0) (sym c.index-members-k.is)) (texts_of c.loop-k.names) c.in_ok-is_new.field-0 c.in_ok-is_new.ensures.new c.loop-k.invariant
    (texts_of c.is_new.new.names) c.if-not-branch.false (c.in_ok-is_new.ensures.added c.if-not-branch.false)

pub returns : goal.returns
returns c = λ groups ns is. (
  stood_once (named_in c.args.members.now c.args.nodes.now)
      (at_end c.args.members.now c.args.nodes.now c.loop-k.k (texts_of c.loop-k.names) (drop_all c.loop-k.k c.args.members.now (omega (arith, c.loop-k-test.false))) c.loop-k.invariant)
      groups ns is,
  tt,
)
