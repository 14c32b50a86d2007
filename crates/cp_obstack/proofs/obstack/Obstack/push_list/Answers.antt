use Rattle.std.proofs.Common.{◌≡◌, ◌∷◌, [], ◌++◌, ◌∙◌, ap, length, arith}
use Rattle.cp_obstack.specs.Lists.{Lists}
use Rattle.cp_obstack.specs.Cuts.{cut}
use Rattle.cp_obstack.proofs.CutLaws.{many, made, pushed_numbers, pushed_starts, cut_is, is_cut}
use Rattle.cp_obstack.proofs.obstack.Obstack.push_list.Goals as goal

pub invariant_of-self-2 : goal.invariant_of-self-2
invariant_of-self-2 c =
    let starts = c.self.inside.starts.items in
    let numbers = c.self.inside.numbers.items in
    let pushed : c.push.new.self.items ≡ starts ++ c.len-start.result ∷ [] =
    made c.push.result _ _ _ (c.push.ensures.succeeds (omega (arith, c.in_ok-reserve.ensures.ok))) c.push.ensures.items ∙ ap (λ l. l ++ c.len-start.result ∷ []) c.reserve.ensures.items in
    let starts_now = pushed ∙ ap (λ n. starts ++ n ∷ []) (c.len-start.ensures ∙ c.self.inside.numbers.ok.0) ∙ pushed_starts starts numbers c.args.items.now c.self.invariant in
    is_cut (cut starts numbers ++ c.args.items.now ∷ []) _ _ starts_now (c.in_ok-extend_from_slice.ensures.items ∙ pushed_numbers starts numbers c.args.items.now c.self.invariant)

pub returns-clause-pushed : goal.returns-clause-pushed
returns-clause-pushed c =
    let starts = c.self.inside.starts.items in
    let numbers = c.self.inside.numbers.items in
    let pushed : c.push.new.self.items ≡ starts ++ c.len-start.result ∷ [] =
    made c.push.result _ _ _ (c.push.ensures.succeeds (omega (arith, c.in_ok-reserve.ensures.ok))) c.push.ensures.items ∙ ap (λ l. l ++ c.len-start.result ∷ []) c.reserve.ensures.items in
    let starts_now = pushed ∙ ap (λ n. starts ++ n ∷ []) (c.len-start.ensures ∙ c.self.inside.numbers.ok.0) ∙ pushed_starts starts numbers c.args.items.now c.self.invariant in
    cut_is (cut starts numbers ++ c.args.items.now ∷ []) _ _ starts_now (c.in_ok-extend_from_slice.ensures.items ∙ pushed_numbers starts numbers c.args.items.now c.self.invariant)
    ∙ ap (λ (v : Lists). v.lists ++ c.args.items.now ∷ []) c.self.view_is

pub returns-clause-span : goal.returns-clause-span
returns-clause-span c =
    c.len-number.ensures ∙ c.self.inside.starts.ok.0 ∙ many c.self.inside.starts.items c.self.inside.numbers.items c.self.invariant
    ∙ ap (λ (v : Lists). length v.lists) c.self.view_is
