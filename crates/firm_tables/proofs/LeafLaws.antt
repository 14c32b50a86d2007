-- Lists of leaves, and the map that numbers them.
use Rattle.std.proofs.Common.{◌≡◌, ◌≢◌, ℕ, ◌==◌, ◌&&◌, ◌+◌, ◌<◌, Bool, true, false, true≢false, if◌then◌else◌, cond, List, [], ◌∷◌, ◌++◌, length, get_or, set, Option, Some, None, refl, sym, ap, subst, ◌∙◌, arith, inl, inr, unwrap_or}
use Rattle.std.specs.Prelude.{Result, Ok, Err, OnOk, OnErr}
use Rattle.std.proofs.lemmas.Bool.{cases_eq, eq-eqb}
use Rattle.std.proofs.lemmas.List.{get_or-set_same, get_or-set_other}
use Rattle.cp_obstack.specs.Lists.{list_of}
use Rattle.firm_uses.specs.Counts.{times}
use Rattle.firm_uses.proofs.CountLaws.{times_push, one_same}
use Rattle.firm_rules.specs.declared.node.NodeOp.{NodeOp}
use Rattle.firm_rules.specs.Graphs.{FirmNode}
use Rattle.firm_tables.specs.declared.nodes.Stored.{Stored}
use Rattle.firm_tables.specs.Nodes.{numbers, node_of, IsLike}
use Rattle.firm_tables.specs.Held.{nodes_from, no_row, is_in, AreMembers}
use Rattle.firm_tables.specs.Leaves.{LeafLists, IsListed, AreLeaves, code_of}
use Rattle.firm_tables.proofs.NodeLaws.{nodes_at}
use Rattle.firm_tables.proofs.MemberLaws.{there_within, there_row, read_old, row_last, in_own}
use Rattle.std.proofs.lemmas.Bool.Decides.{nat_tests}
use Rattle.std.specs.Map.{lookup}
use Rattle.ssa_core.specs.declared.places.Place.{Place}
use Rattle.ssa_core.specs.Places.{is_place, place, found, Puts}

not_place : (var block : ℕ) (q : Place) → (q.var ≡ var → q.block ≡ block → ⊥) → is_place var block q ≡ false
not_place var block q differs = by (var == q.var) refl (block == q.block) refl
  where
    by : (t : Bool) → (var == q.var) ≡ t → (u : Bool) → (block == q.block) ≡ u → is_place var block q ≡ false
    by false e u f = ap (λ t. t && (block == q.block)) e
    by true e false f = ap (λ t. t && (block == q.block)) e ∙ f
    by true e true f = absurd (differs (grind (arith, nat_tests, e)) (grind (arith, nat_tests, f)))

module _ {V : Type 0} where
  pub found_is_lookup : (es : List (Place × V)) (var block : ℕ) → found es var block ≡ lookup (is_place var block) es
  unfolding found
  found_is_lookup [] var block = refl
  found_is_lookup (e ∷ es) var block = ap (λ o. cond (is_place var block e.0) (Some e.1) o) (found_is_lookup es var block)

  pub found_at : (now es : List (Place × V)) (var block : ℕ) (o : Option V) → now ≡ es → o ≡ lookup (is_place var block) es → o ≡ found now var block
  found_at now es var block o same is = is ∙ sym (found_is_lookup es var block) ∙ ap (λ fs. found fs var block) (sym same)

  pub puts_from : (old es new : List (Place × V)) (var block : ℕ) (value : V) → old ≡ es
      → lookup (is_place var block) new ≡ Some value
      → ((q : Place) → is_place var block q ≡ false → lookup (is_place q.var q.block) new ≡ lookup (is_place q.var q.block) es)
      → Puts old new var block value
  puts_from old es new var block value same here others = record {
    here = found_is_lookup new var block ∙ here;
    others = λ x b differs.
        found_is_lookup new x b
        ∙ others (place x b) (not_place var block (place x b) differs)
        ∙ sym (found_is_lookup es x b)
        ∙ ap (λ fs. found fs x b) (sym same);
  }

-- ---- what is listed

same_some : {X : Type 0} (x y : X) → Some x ≡ Some y → x ≡ y
same_some x y e = ap (λ o. unwrap_or o x) e

listed_at : (leaves : LeafLists) (code b n list : ℕ) → IsListed leaves code b n → found leaves.numbers code b ≡ Some list → 0 < times n (list_of leaves.lists list)
listed_at leaves code b n list l e =
    subst (λ i. 0 < times n (list_of leaves.lists i)) (same_some l.list list (sym l.has ∙ e)) l.among

-- where a node is listed that is to go
pub listed_there : (now : LeafLists) (numbers : List (Place × ℕ)) (lists : List (List ℕ)) (given : Option ℕ) (op : Option ℕ) (code b n list : ℕ)
    → record { numbers = numbers; lists = lists } ≡ now → ((c : ℕ) → op ≡ Some c → IsListed now c b n) → op ≡ Some code → given ≡ found numbers code b → given ≡ Some list
    → 0 < times n (list_of lists list)
listed_there now numbers lists given op code b n list view all coded get is =
    listed_at record { numbers = numbers; lists = lists } code b n list (subst (λ l. IsListed l code b n) (sym view) (all code coded)) (sym get ∙ is)

absent : {X : Type 0} (x : X) → None ≡ Some x → ⊥
absent x e = grind arith

pub listed_nowhere : (now : LeafLists) (numbers : List (Place × ℕ)) (lists : List (List ℕ)) (given : Option ℕ) (op : Option ℕ) (code b n : ℕ)
    → record { numbers = numbers; lists = lists } ≡ now → ((c : ℕ) → op ≡ Some c → IsListed now c b n) → op ≡ Some code → given ≡ found numbers code b → given ≡ None
    → ⊥
listed_nowhere now numbers lists given op code b n view all coded get is =
    let l = subst (λ k. IsListed k code b n) (sym view) (all code coded) in
    absent l.list (sym is ∙ get ∙ l.has)

pub listed_now : {T E : Type 0} (r : Result T E) (numbers : List (Place × ℕ)) (before lists : List (List ℕ)) (op : Option ℕ) (code b n list : ℕ) → op ≡ Some code → found numbers code b ≡ Some list
    → OnOk r (list_of lists list ≡ list_of before list ++ n ∷ []) → OnOk r ((c : ℕ) → op ≡ Some c → IsListed record { numbers = numbers; lists = lists } c b n)
listed_now (Ok x) numbers before lists op code b n list coded has ok = λ c e. record {
  list = list;
  has = ap (λ k. found numbers k b) (same_some c code (sym e ∙ coded)) ∙ has;
  among = omega (arith, ap (times n) ok, times_push n (list_of before list) n, one_same n);
}
listed_now (Err x) numbers before lists op code b n list coded has ok = tt

pub listed_still : {T E : Type 0} (r : Result T E) (now : LeafLists) (numbers more : List (Place × ℕ)) (before lists : List (List ℕ)) (list node : ℕ)
    → record { numbers = numbers; lists = before } ≡ now
    → ((c b l : ℕ) → found numbers c b ≡ Some l → found more c b ≡ Some l)
    → OnOk r (list_of lists list ≡ list_of before list ++ node ∷ []) → OnErr r (list_of lists list ≡ list_of before list)
    → ((other : ℕ) → other ≢ list → list_of lists other ≡ list_of before other)
    → (code b n : ℕ) → IsListed now code b n → IsListed record { numbers = more; lists = lists } code b n
listed_still r now numbers more before lists list node view kept ok err others code b n listed =
    let l = subst (λ leaves. IsListed leaves code b n) (sym view) listed in record {
      list = l.list;
      has = kept code b l.list l.has;
      among = elim (cases_eq l.list list) [
        | inl e ↦ subst (λ i. 0 < times n (list_of lists i)) (sym e) (grown r ok err (subst (λ i. 0 < times n (list_of before i)) e l.among))
        | inr ne ↦ subst (λ k. 0 < times n k) (sym (others l.list ne)) l.among
      ];
    } where
      grown : {T E : Type 0} (r : Result T E) → OnOk r (list_of lists list ≡ list_of before list ++ node ∷ []) → OnErr r (list_of lists list ≡ list_of before list)
          → 0 < times n (list_of before list) → 0 < times n (list_of lists list)
      grown (Ok x) ok err h = omega (arith, ap (times n) ok, times_push n (list_of before list) node, h)
      grown (Err x) ok err h = omega (arith, ap (times n) err, h)

-- ---- the rows

pub leaves_kept : (rows all : List Stored) (before after : LeafLists) → all ≡ rows → AreLeaves rows before
    → ((code b n : ℕ) → IsListed before code b n → IsListed after code b n) → AreLeaves all after
leaves_kept rows all before after same a kept =
    subst (λ r. AreLeaves r after) (sym same) (λ n code there coded. kept code (get_or rows n no_row).block n (a n code there coded))

pub leaves_made : (rows all : List Stored) (row : Stored) (before after : LeafLists) → all ≡ rows ++ row ∷ [] → AreLeaves rows before
    → ((code b n : ℕ) → IsListed before code b n → IsListed after code b n)
    → ((code : ℕ) → code_of row.op ≡ Some code → IsListed after code row.block (length rows)) → AreLeaves all after
leaves_made rows all row before after same a kept now = subst (λ r. AreLeaves r after) (sym same) each
  where
    each : AreLeaves (rows ++ row ∷ []) after
    each n code there coded = elim (cases_eq n (length rows)) [
      | inl new ↦
          let read : get_or (rows ++ row ∷ []) n no_row ≡ row = row_last rows row n new in
          subst (λ k. IsListed after code (get_or (rows ++ row ∷ []) n no_row).block k) (sym new)
          (subst (λ (r : Stored). IsListed after code r.block (length rows)) (sym read) (now code (sym (ap (λ (r : Stored). code_of r.op) read) ∙ coded)))
      | inr old ↦
          let read : get_or (rows ++ row ∷ []) n no_row ≡ get_or rows n no_row = read_old rows row n old in
          subst (λ (r : Stored). IsListed after code r.block n) (sym read)
          (kept code (get_or rows n no_row).block n (a n code (sym (ap (λ (r : Stored). r.there) read) ∙ there) (sym (ap (λ (r : Stored). code_of r.op) read) ∙ coded)))
    ]

pub leaves_gone : (rows : List Stored) (number : ℕ) (row : Stored) (before after : LeafLists) → number < length rows → row.there ≡ false → AreLeaves rows before
    → ((code b n : ℕ) → (n ≡ number → ⊥) → IsListed before code b n → IsListed after code b n) → AreLeaves (set rows number row) after
leaves_gone rows number row before after within gone a kept n code there coded = elim (cases_eq n number) [
  | inl this ↦
      let read : get_or (set rows number row) n no_row ≡ row = ap (λ k. get_or (set rows number row) k no_row) this ∙ get_or-set_same rows number row no_row within in
      absurd (true≢false (sym there ∙ ap (λ (r : Stored). r.there) read ∙ gone))
  | inr other ↦
      let read : get_or (set rows number row) n no_row ≡ get_or rows n no_row = get_or-set_other rows number n row no_row other in
      subst (λ (r : Stored). IsListed after code r.block n) (sym read)
      (kept code (get_or rows n no_row).block n other (a n code (sym (ap (λ (r : Stored). r.there) read) ∙ there) (sym (ap (λ (r : Stored). code_of r.op) read) ∙ coded)))
]

pub leaf_of_row : (rows : List Stored) (leaves : LeafLists) (n code : ℕ) (was : Stored) → AreLeaves rows leaves → was ≡ get_or rows n no_row → was.there ≡ true → code_of was.op ≡ Some code
    → IsListed leaves code was.block n
leaf_of_row rows leaves n code was a is there coded =
    subst (λ (r : Stored). IsListed leaves code r.block n) (sym is) (a n code (sym (ap (λ (r : Stored). r.there) is) ∙ there) (sym (ap (λ (r : Stored). code_of r.op) is) ∙ coded))

-- what the row of an equal node has
pub record IsRowLike (rows : List Stored) (op : NodeOp) (b n : ℕ) : Type 0 where
  pub there : (get_or rows n no_row).there ≡ true
  pub op_is : (get_or rows n no_row).op ≡ op
  pub block_is : (get_or rows n no_row).block ≡ b

pub row_like : (os cs : List (List ℕ)) (rows : List Stored) (nodes : List FirmNode) (op : NodeOp) (b n : ℕ) (operands : List ℕ) → nodes_from 0 os cs rows ≡ nodes
    → IsLike nodes op b operands n → IsRowLike rows op b n
row_like os cs rows nodes op b n operands view like =
    let l = subst (λ ns. IsLike ns op b operands n) (sym view) like in
    let there : (get_or rows n no_row).there ≡ true = sym (there_row os cs rows n) ∙ l.there in
    let at = nodes_at os cs rows n (there_within rows n there) in record {
      there = there;
      op_is = sym (ap (λ (node : FirmNode). node.op) at) ∙ l.op_is;
      block_is = sym (ap (λ (node : FirmNode). node.block) at) ∙ l.block_is;
    }

pub alike_listed : (rows : List Stored) (leaves : LeafLists) (op : NodeOp) (b n : ℕ) → AreLeaves rows leaves → IsRowLike rows op b n → (code : ℕ) → code_of op ≡ Some code
    → IsListed leaves code b n
alike_listed rows leaves op b n a like code coded =
    subst (λ k. IsListed leaves code k n) like.block_is (a n code like.there (ap code_of like.op_is ∙ coded))

pub alike_member : (rows : List Stored) (members : List (List ℕ)) (op : NodeOp) (b n : ℕ) → AreMembers rows members → IsRowLike rows op b n → 0 < times n (list_of members b)
alike_member rows members op b n a like = omega (arith, a b n, in_own (get_or rows n no_row) b like.there like.block_is)
