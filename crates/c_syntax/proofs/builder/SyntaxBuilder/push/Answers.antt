use Rattle.std.proofs.Common.{◌≡◌, ◌≢◌, ◌-◌, ◌+◌, ◌++◌, ◌∷◌, [], Result, IsOk, is_ok, if◌then◌else◌, List, length, take, drop, suc, ℕ, sym, ap, ap₂, ◌∙◌, arith}
use Rattle.std.specs.Prelude.{reverse}
use Rattle.std.proofs.Math.ListN.{get_or}
use Rattle.std.proofs.Math.Seq.{take-length}
use Rattle.std.proofs.lemmas.List.{length-drop}
use Rattle.c_syntax.specs.declared.syntax.SynId.{SynId}
use Rattle.c_syntax.specs.declared.syntax.SynNode.{SynNode}
use Rattle.c_syntax.specs.declared.label.Label.{Label}
use Rattle.c_syntax.specs.Trees.{Tree, forest_of}
use Rattle.c_syntax.specs.Tables.{stack_of, size, node_of}
use Rattle.c_syntax.proofs.BuilderLaws.{before, none_left, some_left, size_left, stack_now, begun_now}
use Rattle.c_syntax.proofs.builder.SyntaxBuilder.push.Goals.{then-below-eq0, else-below-eq0}
use Rattle.c_syntax.proofs.builder.SyntaxBuilder.push.Goals as goal

one_less : (n m : ℕ) → n ≡ m → n ≢ 0 → suc (n - 1) ≡ m
one_less n m e some = omega (arith, e, some)

pub overflow_add-first : goal.overflow_add-first
overflow_add-first c =
    let ids = c.self.inside.roots.items in
    let at : c.saturating_sub-below.result ≡ length ids - c.args.kids = c.saturating_sub-below.ensures ∙ ap (λ n. n - c.args.kids) (c.len.ensures ∙ c.self.inside.roots.ok.0) in
    let h = some_left c.self.inside.nodes.items c.self.inside.firsts.items ids c.self.invariant c.args.kids (c.saturating_sub-below.result - 1) c.index.result.now (one_less _ _ at c.if-below-eq0.false) in
    let l = size_left c.self.inside.nodes.items c.self.inside.firsts.items ids c.self.invariant c.args.kids in
    let same = c.index.ensures ∙ ap (λ is. get_or is (c.saturating_sub-below.result - 1) c.index.result.now) c.reserve.ensures.items in
    let number = ap (λ (id : SynId). id.number) same in
    let many = c.len-number.ensures ∙ c.self.inside.nodes.ok.0 in
    let small = c.len-number.type_inv in
    omega (arith, h, l, number, many, small)

own_kids : (node : SynNode) (label : Label) (kids ids slice : List SynId) (b n : ℕ) → node ≡ node_of label kids → kids ≡ take (length slice - b) (drop b slice) → slice ≡ ids → b ≡ n → node.kids ≡ drop n ids
own_kids node label kids ids slice b n is_node are is_slice same = ap (λ (m : SynNode). m.kids) is_node ∙ are
    ∙ ap (λ m. take m (drop b slice)) (sym (length-drop b slice)) ∙ take-length (drop b slice) ∙ ap₂ drop same is_slice

-- the trees with a node above the last of them
abbrev grown_by : Label → ℕ → List Tree → List Tree
grown_by label k stack = record { label = label; kids = forest_of (reverse (take k stack)) } ∷ drop k stack

made : {A T E : Type 0} (r : Result T E) (x y z : A) → IsOk r → x ≡ (if is_ok r then y else z) → x ≡ y
made r x y z h e = e ∙ ap (λ b. if b then y else z) h

pub invariant_of-self-2 : goal.invariant_of-self-2
invariant_of-self-2 c =
    let table = c.self.inside.nodes.items in
    let lowest = c.self.inside.firsts.items in
    let ids = c.self.inside.roots.items in
    let k = c.args.kids in
    let root : SynId = record { number = c.len-number.result } in
    let at : c.saturating_sub-below.result ≡ length ids - k = c.saturating_sub-below.ensures ∙ ap (λ n. n - k) (c.len.ensures ∙ c.self.inside.roots.ok.0) in
    let kids_are : c.node_of.result.kids ≡ drop (length ids - k) ids = own_kids c.node_of.result c.args.label c.in_ok-kids.kids ids _ _ _ c.node_of.ensures c.in_ok-kids.ensures c.deref.ensures.value at in
    let first_is : c.if-below-eq0.first ≡ size (before (stack_of table) k) = elim c.if-below-eq0.branch [
      | then-below-eq0 w ↦ w.first-is ∙ sym (none_left table lowest ids c.self.invariant k (sym at ∙ w.if-below-eq0.true))
      | else-below-eq0 w ↦ w.first-is ∙ ap (λ (id : SynId). id.number + 1) (w.index.ensures ∙ ap (λ is. get_or is (c.saturating_sub-below.result - 1) w.index.result.now) c.reserve.ensures.items)
          ∙ some_left table lowest ids c.self.invariant k (c.saturating_sub-below.result - 1) w.index.result.now (one_less _ _ at w.if-below-eq0.false)
    ] in
    let lowest_pushed : c.push-2.new.self.items ≡ lowest ++ c.if-below-eq0.first ∷ [] =
    made c.push-2.result _ _ _ (c.push-2.ensures.succeeds (omega (arith, c.in_ok-reserve-2.ensures.ok))) c.push-2.ensures.items ∙ ap (λ ns. ns ++ c.if-below-eq0.first ∷ []) c.reserve-2.ensures.items in
    let ids_pushed : c.push-3.new.self.items ≡ take (length ids - k) ids ++ root ∷ [] =
    made c.push-3.result _ _ _ (c.push-3.ensures.succeeds (omega (arith, c.truncate.ensures.capacity, c.truncate.ensures.len, c.in_ok-reserve.ensures.ok))) c.push-3.ensures.items
    ∙ ap (λ is. is ++ root ∷ []) (c.truncate.ensures.items ∙ ap₂ take at c.reserve.ensures.items) in
    let pushed = c.in_ok-push.ensures.items ∙ ap (λ n. table ++ n ∷ []) (c.node_of.ensures ∙ ap (node_of c.args.label) (sym (ap (λ (n : SynNode). n.kids) c.node_of.ensures))) in
    begun_now table lowest ids c.self.invariant k c.args.label c.node_of.result.kids kids_are c.push.new.self.items pushed c.if-below-eq0.first root c.push-2.new.self.items
    c.push-3.new.self.items first_is (c.len-number.ensures ∙ c.self.inside.nodes.ok.0) lowest_pushed ids_pushed

pub returns-clause-tree : goal.returns-clause-tree
returns-clause-tree c =
    let table = c.self.inside.nodes.items in
    let ids = c.self.inside.roots.items in
    let k = c.args.kids in
    let at : c.saturating_sub-below.result ≡ length ids - k = c.saturating_sub-below.ensures ∙ ap (λ n. n - k) (c.len.ensures ∙ c.self.inside.roots.ok.0) in
    let kids_are : c.node_of.result.kids ≡ drop (length ids - k) ids = own_kids c.node_of.result c.args.label c.in_ok-kids.kids ids _ _ _ c.node_of.ensures c.in_ok-kids.ensures c.deref.ensures.value at in
    let pushed = c.in_ok-push.ensures.items ∙ ap (λ n. table ++ n ∷ []) (c.node_of.ensures ∙ ap (node_of c.args.label) (sym (ap (λ (n : SynNode). n.kids) c.node_of.ensures))) in
    stack_now table c.self.inside.firsts.items ids c.self.invariant k c.args.label c.node_of.result.kids kids_are c.push.new.self.items pushed
    ∙ ap (λ ns. grown_by c.args.label k (stack_of ns)) c.self.view_is
