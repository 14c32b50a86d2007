-- Two operations of nodes are the same exactly where `==` finds them so.
use Rattle.std.proofs.Common.{◌≡◌, ℕ, Bool, true, false, ◌==◌, refl, sym, ap, ◌∙◌, true≢false, MatchBool}
use Rattle.std.proofs.lemmas.Bool.Decides.{Decides-eqb}
use Rattle.cp_base.specs.declared.op.Kind.{Kind}
use Rattle.cp_base.specs.declared.op.Kind.TheVariants as k
use Rattle.cp_base.specs.declared.op.Relation.{Relation}
use Rattle.cp_base.specs.declared.op.Relation.TheVariants as r
use Rattle.cp_base.specs.declared.op.To.{To}
use Rattle.cp_base.specs.declared.op.To.TheVariants as t
use Rattle.cp_base.specs.declared.op.Op.{Op}
use Rattle.cp_base.specs.declared.op.Op.TheVariants as o
use Rattle.firm_rules.specs.declared.node.Mode.{Mode}
use Rattle.firm_rules.specs.declared.node.Mode.TheVariants.{Word, Memory, Tuple}
use Rattle.firm_rules.specs.declared.node.NodeOp.{NodeOp}
use Rattle.firm_rules.specs.declared.node.NodeOp.TheVariants as n
use Rattle.firm_rules.specs.contracts.node.NodeOpPartialEq.TheImpl.{eq-value}
use Rattle.firm_rules.specs.contracts.node.ModePartialEq.TheImpl.{eq-value as mode-value}
use Rattle.cp_base.specs.contracts.op.KindPartialEq.TheImpl.{eq-value as kind-value}
use Rattle.cp_base.specs.contracts.op.RelationPartialEq.TheImpl.{eq-value as relation-value}
use Rattle.cp_base.specs.contracts.op.ToPartialEq.TheImpl.{eq-value as to-value}
use Rattle.cp_base.specs.contracts.op.OpPartialEq.TheImpl.{eq-value as op-value}
use Rattle.firm_tables.specs.declared.nodes.Stored.{Stored}
use Rattle.firm_tables.specs.Held.{IsRow}

-- the answer of `==`
abbrev pub equal : NodeOp → NodeOp → Bool
equal a b = eq-value.it a b

same_number : (m n : ℕ) → (m == n) ≡ true → m ≡ n
same_number m n = (Decides-eqb m n).0

own_number : (n : ℕ) → (n == n) ≡ true
own_number n = (Decides-eqb n n).1 refl

same_mode : (a b : Mode) → mode-value.it a b ≡ true → a ≡ b
same_mode Word Word e = refl
same_mode Memory Memory e = refl
same_mode Tuple Tuple e = refl
same_mode a b e = absurd (true≢false (sym e))

own_mode : (a : Mode) → mode-value.it a a ≡ true
own_mode Word = refl
own_mode Memory = refl
own_mode Tuple = refl

same_kind : (a b : Kind) → kind-value.it a b ≡ true → a ≡ b
same_kind k.U8 k.U8 e = refl
same_kind k.I8 k.I8 e = refl
same_kind k.U16 k.U16 e = refl
same_kind k.I16 k.I16 e = refl
same_kind k.W32 k.W32 e = refl
same_kind a b e = absurd (true≢false (sym e))

own_kind : (a : Kind) → kind-value.it a a ≡ true
own_kind k.U8 = refl
own_kind k.I8 = refl
own_kind k.U16 = refl
own_kind k.I16 = refl
own_kind k.W32 = refl

same_relation : (a b : Relation) → relation-value.it a b ≡ true → a ≡ b
same_relation r.Eq r.Eq e = refl
same_relation r.Ne r.Ne e = refl
same_relation r.LtS r.LtS e = refl
same_relation r.LtU r.LtU e = refl
same_relation r.LeS r.LeS e = refl
same_relation r.LeU r.LeU e = refl
same_relation r.GtS r.GtS e = refl
same_relation r.GtU r.GtU e = refl
same_relation r.GeS r.GeS e = refl
same_relation r.GeU r.GeU e = refl
same_relation a b e = absurd (true≢false (sym e))

own_relation : (a : Relation) → relation-value.it a a ≡ true
own_relation r.Eq = refl
own_relation r.Ne = refl
own_relation r.LtS = refl
own_relation r.LtU = refl
own_relation r.LeS = refl
own_relation r.LeU = refl
own_relation r.GtS = refl
own_relation r.GtU = refl
own_relation r.GeS = refl
own_relation r.GeU = refl

same_to : (a b : To) → to-value.it a b ≡ true → a ≡ b
same_to t.U8 t.U8 e = refl
same_to t.I8 t.I8 e = refl
same_to t.U16 t.U16 e = refl
same_to t.I16 t.I16 e = refl
same_to t.Truth t.Truth e = refl
same_to a b e = absurd (true≢false (sym e))

own_to : (a : To) → to-value.it a a ≡ true
own_to t.U8 = refl
own_to t.I8 = refl
own_to t.U16 = refl
own_to t.I16 = refl
own_to t.Truth = refl

same_word_op : (a b : Op) → op-value.it a b ≡ true → a ≡ b
same_word_op o.Add o.Add e = refl
same_word_op o.Sub o.Sub e = refl
same_word_op o.Mul o.Mul e = refl
same_word_op o.DivS o.DivS e = refl
same_word_op o.DivU o.DivU e = refl
same_word_op o.ModS o.ModS e = refl
same_word_op o.ModU o.ModU e = refl
same_word_op o.Shl o.Shl e = refl
same_word_op o.ShrS o.ShrS e = refl
same_word_op o.ShrU o.ShrU e = refl
same_word_op o.And o.And e = refl
same_word_op o.Or o.Or e = refl
same_word_op o.Eor o.Eor e = refl
same_word_op (o.Cmp x) (o.Cmp y) e = ap o.Cmp (same_relation x y e)
same_word_op (o.Conv x) (o.Conv y) e = ap o.Conv (same_to x y e)
same_word_op a b e = absurd (true≢false (sym e))

own_word_op : (a : Op) → op-value.it a a ≡ true
own_word_op (o.Cmp x) = own_relation x
own_word_op (o.Conv x) = own_to x
own_word_op a = refl

pub same_op : (a b : NodeOp) → equal a b ≡ true → a ≡ b
same_op n.Start n.Start e = refl
same_op (n.Param x) (n.Param y) e = ap n.Param (same_number x y e)
same_op (n.Const x) (n.Const y) e = ap n.Const (same_number x y e)
same_op (n.Addr x) (n.Addr y) e = ap n.Addr (same_number x y e)
same_op n.Unknown n.Unknown e = refl
same_op (n.Apply x) (n.Apply y) e = ap n.Apply (same_word_op x y e)
same_op (n.Load x) (n.Load y) e = ap n.Load (same_kind x y e)
same_op (n.Store x) (n.Store y) e = ap n.Store (same_kind x y e)
same_op (n.Call x) (n.Call y) e = ap n.Call (same_number x y e)
same_op n.Get n.Get e = refl
same_op n.Put n.Put e = refl
same_op n.ProjM n.ProjM e = refl
same_op n.ProjR n.ProjR e = refl
same_op (n.Phi x) (n.Phi y) e = ap n.Phi (same_mode x y e)
same_op a b e = absurd (true≢false (sym e))

pub own_op : (a : NodeOp) → equal a a ≡ true
own_op (n.Param x) = own_number x
own_op (n.Const x) = own_number x
own_op (n.Addr x) = own_number x
own_op (n.Apply x) = own_word_op x
own_op (n.Load x) = own_kind x
own_op (n.Store x) = own_kind x
own_op (n.Call x) = own_number x
own_op (n.Phi x) = own_mode x
own_op a = refl

-- ---- the test of a row

pub row_matches : (row : Stored) (op : NodeOp) (b : ℕ) (answer : Bool) → row.there ≡ true → row.block ≡ b → answer ≡ equal row.op op
    → MatchBool answer (IsRow row op b) (IsRow row op b → ⊥)
row_matches row op b true there block e = record { there = there; op_is = same_op row.op op (sym e); block_is = block }
row_matches row op b false there block e = λ r. true≢false (sym (own_op row.op) ∙ ap (equal row.op) r.op_is ∙ sym e)
