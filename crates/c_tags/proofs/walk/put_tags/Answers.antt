use Rattle.std.proofs.Common.{◌≡◌, ◌-◌, ◌∙◌, ◌++◌, ℕ, zero, suc, Bool, false, List, [], ap, arith, refl, replicate, subst, sym, take}
use Rattle.c_tags.specs.Chains.{chains_of}
use Rattle.c_tags.specs.Tags.{Stand}
use Rattle.c_tags.proofs.ChainLaws.{empty_at, length-chains}
use Rattle.c_tags.proofs.TagLaws.{none_stand, all_stand}
use Rattle.c_tags.proofs.walk.put_tags.Goals as goal

-- an empty list that is made longer
nothing : (n : ℕ) → take {A = Bool} n [] ≡ []
nothing zero = refl
nothing (suc n) = refl

resized : (n m : ℕ) (old new : List Bool) → old ≡ [] → m ≡ 0 → new ≡ take n old ++ replicate (n - m) false → new ≡ replicate n false
resized n m old new none no_room is =
    is ∙ (ap (λ xs. take n xs ++ replicate (n - m) false) none ∙ (ap (λ xs. xs ++ replicate (n - m) false) (nothing n) ∙ ap (λ k. replicate k false) {x = n - m} {y = n} (omega (arith, no_room))))

pub loop-place-init : goal.loop-place-init
loop-place-init c =
    let n = c.len.result in
    let table = c.args.nodes.now in
    let bodies = resized n c.new-bodies.result.len c.new-bodies.result.items c.resize.new.self.items c.new-bodies.ensures.items c.new-bodies.ensures.len ((c.in_ok-resize.ensures {u = tt}).items) in
    subst (λ xs. Stand table 0 (chains_of c.args.chains.now) xs c.args.found.now) (sym bodies)
    (subst (λ xs. Stand table 0 (chains_of c.args.chains.now) (replicate n false) xs) (sym c.requires.start)
    (none_stand table c.len.ensures.nodes c.len.ensures.numbered (chains_of c.args.chains.now) n c.len.ensures.is (length-chains c.args.chains.now ∙ c.requires.long) (empty_at c.args.chains.now c.requires.empty)))

pub returns : goal.returns
returns c =
    let l = c.loop-place in
    let most = c.loop-place-test.false in
    let is = c.len-place-end.ensures.is in
    all_stand c.args.nodes.now l.place (chains_of l.chains) l.bodies.items l.found (omega (arith, most, is)) l.invariant
