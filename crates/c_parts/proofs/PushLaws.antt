-- Trees on a stack, and the node above them.
use Rattle.std.proofs.Common.{◌≡◌, ℕ, ◌-◌, List, [], ◌∷◌, ◌++◌, length, take, drop, max, Result, Ok, Err, refl, sym, ap, ap₂, ◌∙◌, subst, arith, append_assoc, length-append, true≢false}
use Rattle.std.specs.Prelude.{reverse}
use Rattle.std.proofs.lemmas.List.{reverse-append, reverse-reverse, length-reverse, take_at, drop_at}
use Rattle.c_syntax.specs.declared.kind.SynKind.{SynKind}
use Rattle.c_syntax.specs.Trees.{Tree, text_node, forest_of, forest_height}
use Rattle.c_parts.specs.declared.budget.Stop.{Stop}
use Rattle.c_parts.specs.declared.part.Part.{Part}
use Rattle.c_parts.specs.declared.budget.Stop.TheVariants.{OutOfMemory}
use Rattle.c_parts.specs.declared.declarator.Declarator.{Declarator}
use Rattle.c_parts.specs.Pushed.{IsPushed, ArePushed, Pushes, PushesAbove, PushesDeclarator}
use Rattle.std.specs.Prelude.{IsErr, IsErrAnd}

-- ---- rows of trees

pub no_trees : (stack : List Tree) → ArePushed [] stack stack 0
no_trees stack = record { stack_is = refl; height_is = refl }

pub height_append : (ts us : List Tree) → forest_height (forest_of (ts ++ us)) ≡ max (forest_height (forest_of ts)) (forest_height (forest_of us))
height_append [] us = omega arith
height_append (t ∷ ts) us = let more = height_append ts us in omega (arith, more)

pub same_height : (ts under stack : List Tree) (high high2 : ℕ) → high2 ≡ high → ArePushed ts under stack high → ArePushed ts under stack high2
same_height ts under stack high high2 e row = record { stack_is = row.stack_is; height_is = e ∙ row.height_is }

-- one tree more
pub more_trees : (ts : List Tree) (t : Tree) (under before stack : List Tree) (high : ℕ) (part : Part) → ArePushed ts under before high → IsPushed t before stack part
    → ArePushed (ts ++ t ∷ []) under stack (max high part.height)
more_trees ts t under before stack high part row one_more = record {
  stack_is = one_more.stack_is ∙ ap (λ s. t ∷ s) row.stack_is ∙ ap (λ s. s ++ under) (sym (reverse-append ts (t ∷ [])));
  height_is = let both = height_append ts (t ∷ []) in let a = row.height_is in let b = one_more.height_is in omega (arith, both, a, b);
}

-- a tree, and the trees behind it
pub first_and_more : (t : Tree) (ts under before stack : List Tree) (high : ℕ) (part : Part) → IsPushed t under before part → ArePushed ts before stack high
    → ArePushed (t ∷ ts) under stack (max part.height high)
first_and_more t ts under before stack high part first row = record {
  stack_is = row.stack_is ∙ ap (λ s. reverse ts ++ s) first.stack_is ∙ sym (append_assoc (reverse ts) (t ∷ []) under) ∙ ap (λ s. s ++ under) (sym (reverse-append (t ∷ []) ts));
  height_is = let a = row.height_is in let b = first.height_is in omega (arith, a, b);
}

pub alone : (t : Tree) (under stack : List Tree) (part : Part) → IsPushed t under stack part → ArePushed (t ∷ []) under stack part.height
alone t under stack part first = record { stack_is = first.stack_is; height_is = let b = first.height_is in omega (arith, b) }

-- the mark before the first of them
pub one_less : (t : Tree) (under before : List Tree) (part : Part) (mark : ℕ) → mark ≡ length before → IsPushed t under before part → mark - 1 ≡ length under
one_less t under before part mark e first = let long = ap length first.stack_is in omega (arith, long, e)

-- ---- the node above them

module _ (kind : SynKind) (text : List ℕ) (start high : ℕ) (ts under old stack : List Tree) (row : ArePushed ts under old high) where
  many : length (reverse ts) ≡ length ts
  many = length-reverse ts

  pub node_above : (kids : ℕ) → kids ≡ length ts → (r : Result Part Stop) → PushesAbove kind text start kids high old stack r → Pushes (text_node kind text start (forest_of ts)) under stack r
  node_above kids e (Ok part) h =
      let all = many ∙ sym e in
      let taken = ap (take kids) row.stack_is ∙ take_at (reverse ts) under kids all in
      let left = ap (drop kids) row.stack_is ∙ drop_at (reverse ts) under kids all in
      let made : List Tree → Tree = λ us. text_node kind text start (forest_of (reverse us)) in
      let whole : List Tree → Tree = λ us. text_node kind text start (forest_of us) in
      record {
        stack_is = h.0 ∙ ap₂ (λ us s. made us ∷ s) taken left ∙ ap (λ us. whole us ∷ under) (reverse-reverse ts);
        height_is = ap (λ (p : Part). p.height) h.1 ∙ (let a = row.height_is in omega (arith, a));
        kind_is = ap (λ (p : Part). p.kind) h.1;
        start_is = ap (λ (p : Part). p.start) h.1;
      }
  node_above kids e (Err s) h = h

  -- all behind a mark
  pub behind_mark : (mark : ℕ) → mark ≡ length under → length old - mark ≡ length ts
  behind_mark mark e = let long = ap length row.stack_is ∙ length-append (reverse ts) under in let m = many in omega (arith, long, m, e)

-- a stop that is handed on
pub declarator_stop : (t : Tree) (under stack : List Tree) (r : Result Declarator Stop) (s : Stop) → IsErr r × IsErrAnd r (λ e. e ≡ s) → s ≡ OutOfMemory → PushesDeclarator t under stack r
declarator_stop t under stack (Ok declarator) s h e = absurd (true≢false (sym h.0))
declarator_stop t under stack (Err stop) s h e = h.1 ∙ e

-- the same node by another name
pub same_node : (t u : Tree) (under stack : List Tree) (part : Part) → t ≡ u → IsPushed t under stack part → IsPushed u under stack part
same_node t u under stack part e h = subst (λ (v : Tree). IsPushed v under stack part) e h
