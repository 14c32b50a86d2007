-- Operands that Phis lose.
use Rattle.std.proofs.Common.{◌≡◌, ℕ, zero, suc, ◌+◌, ◌<◌, ◌≤◌, Bool, true, false, ◌&&◌, List, [], ◌∷◌, length, map, take, get_or, refl, sym, ap, ap₂, ◌∙◌, arith, subst, if◌then◌else◌, inl, inr}
use Rattle.std.proofs.lemmas.Bool.{cases_eq, cases_lt}
use Rattle.std.proofs.lemmas.List.{get_or-set_same, get_or-set_other, set-get_or, take_all}
use Rattle.std.proofs.Math.Numerals.{suc-eq-add-one}
use Rattle.std.specs.List.{remove}
use Rattle.cp_obstack.specs.Lists.{list_of}
use Rattle.firm_uses.specs.Tables.{with_list}
use Rattle.firm_uses.specs.Counts.{times, Used}
use Rattle.firm_uses.proofs.CountLaws.{one, one_same, one_other, times_front, times_take_le, times_found}
use Rattle.firm_rules.specs.declared.node.NodeOp.{NodeOp}
use Rattle.firm_rules.specs.Graphs.{FirmNode}
use Rattle.firm_rules.specs.Rules.{is_phi}
use Rattle.firm_tables.specs.declared.nodes.Stored.{Stored}
use Rattle.firm_tables.specs.Nodes.{without_operand}
use Rattle.firm_tables.specs.Held.{node_seen, nodes_from, no_row, is_in, lost_operand, lost_times, AreMembers, Covers, AreHeld}
use Rattle.firm_tables.proofs.MemberLaws.{count, past_rows}

-- ---- one node

-- there is no operand at the place
pub removed_past : (list : List ℕ) (i : ℕ) → length list ≤ i → remove list i ≡ list
removed_past [] zero h = refl
removed_past [] (suc i) h = refl
removed_past (x ∷ list) zero h = absurd (omega arith)
removed_past (x ∷ list) (suc i) h = ap (λ l. x ∷ l) (removed_past list i (omega arith))

pub not_lost : (rows : List (List ℕ)) (op : NodeOp) (node place : ℕ) → is_phi op ≡ false → rows ≡ with_list rows node (lost_operand op place (list_of rows node))
not_lost rows op node place e =
    sym (ap (λ t. with_list rows node (if t then remove (list_of rows node) place else list_of rows node)) e ∙ set-get_or rows node [])

pub not_there : (rows : List (List ℕ)) (op : NodeOp) (node place : ℕ) → length (list_of rows node) ≤ place
    → rows ≡ with_list rows node (lost_operand op place (list_of rows node))
not_there rows op node place h =
    sym (ap (λ l. with_list rows node (if is_phi op then l else list_of rows node)) (removed_past (list_of rows node) place h) ∙ same (is_phi op)) where
      same : (t : Bool) → with_list rows node (if t then list_of rows node else list_of rows node) ≡ rows
      same true = set-get_or rows node []
      same false = set-get_or rows node []

pub is_lost : (rows more : List (List ℕ)) (op : NodeOp) (node place : ℕ) → is_phi op ≡ true → more ≡ with_list rows node (remove (list_of rows node) place)
    → more ≡ with_list rows node (lost_operand op place (list_of rows node))
is_lost rows more op node place e m = m ∙ sym (ap (λ t. with_list rows node (if t then remove (list_of rows node) place else list_of rows node)) e)

-- ---- the nodes of a list, in turn

pub loss_turn : (first now after : List (List ℕ)) (list : List ℕ) (rows : List Stored) (at place n : ℕ) (op : NodeOp) → at < length list → get_or list at 0 < length now
    → ((m : ℕ) → times m list ≤ 1) → op ≡ (get_or rows (get_or list at 0) no_row).op
    → ((m : ℕ) → list_of now m ≡ lost_times (times m (take at list)) (get_or rows m no_row).op place (list_of first m))
    → after ≡ with_list now (get_or list at 0) (lost_operand op place (list_of now (get_or list at 0)))
    → list_of after n ≡ lost_times (times n (take (at + 1) list)) (get_or rows n no_row).op place (list_of first n)
loss_turn first now after list rows at place n op h there once o done a =
    let node = get_or list at 0 in
    let more : times n (take (at + 1) list) ≡ times n (take at list) + one n node = ap (λ k. times n (take k list)) (sym (suc-eq-add-one at)) ∙ times_front n list at 0 h in
    elim (cases_eq n node) [
      | inl same ↦
          let none : times n (take at list) ≡ 0 = omega (arith, once n, times_take_le n list (suc at), times_front n list at 0 h, ap (one n) (sym same), one_same n) in
          let now_one : times n (take (at + 1) list) ≡ suc zero = omega (arith, more, none, ap (one n) (sym same), one_same n) in
          ap (λ m. list_of after m) same ∙ ap (λ ls. list_of ls node) a ∙ get_or-set_same now node (lost_operand op place (list_of now node)) [] there
          ∙ ap (λ m. lost_operand op place (list_of now m)) (sym same)
          ∙ ap₂ (λ x l. lost_operand x place l) (o ∙ ap (λ m. (get_or rows m no_row).op) (sym same))
          (done n ∙ ap (λ k. lost_times k (get_or rows n no_row).op place (list_of first n)) none)
          ∙ sym (ap (λ k. lost_times k (get_or rows n no_row).op place (list_of first n)) now_one)
      | inr ne ↦
          ap (λ ls. list_of ls n) a ∙ get_or-set_other now node n (lost_operand op place (list_of now node)) [] ne ∙ done n
          ∙ ap (λ k. lost_times k (get_or rows n no_row).op place (list_of first n)) (omega (arith, more, one_other n node (λ e. ne (sym e))))
    ]

pub loss_is : (now new : List (List ℕ)) (node read place : ℕ) (op own : NodeOp) → new ≡ with_list now read (lost_operand own place (list_of now read)) → node ≡ read → op ≡ own
    → new ≡ with_list now node (lost_operand op place (list_of now node))
loss_is now new node read place op own e n o =
    e ∙ sym (ap₂ (λ i x. with_list now i (lost_operand x place (list_of now i))) n o)

pub loss_done : (first now : List (List ℕ)) (list : List ℕ) (rows : List Stored) (at place n : ℕ) → length list ≤ at
    → list_of now n ≡ lost_times (times n (take at list)) (get_or rows n no_row).op place (list_of first n)
    → list_of now n ≡ lost_times (times n list) (get_or rows n no_row).op place (list_of first n)
loss_done first now list rows at place n h e =
    e ∙ ap (λ l. lost_times (times n l) (get_or rows n no_row).op place (list_of first n)) (take_all at list h)

-- ---- what is seen

flags : (x : Bool) (op : NodeOp) (place : ℕ) (list : List ℕ) → lost_times (if x then 1 else 0) op place list ≡ (if x && is_phi op then remove list place else list)
flags true op place list = refl
flags false op place list = refl

chosen : (t : Bool) (node : FirmNode) (list : List ℕ) → record node { operands = if t then list else node.operands } ≡ (if t then record node { operands = list } else node)
chosen true node list = refl
chosen false node list = refl

node_lost : (os cs more : List (List ℕ)) (n b place : ℕ) (row : Stored) → list_of more n ≡ lost_times (count row b) row.op place (list_of os n)
    → node_seen more cs n row ≡ without_operand b place (node_seen os cs n row)
node_lost os cs more n b place row e =
    ap (λ (l : List ℕ). record (node_seen os cs n row) { operands = l }) (e ∙ flags (is_in row b) row.op place (list_of os n))
    ∙ chosen (is_in row b && is_phi row.op) (node_seen os cs n row) (remove (list_of os n) place)

lost_from : (n b place : ℕ) (os cs more : List (List ℕ)) (rows : List Stored)
    → ((k m : ℕ) → n + k ≡ m → list_of more m ≡ lost_times (count (get_or rows k no_row) b) (get_or rows k no_row).op place (list_of os m))
    → nodes_from n more cs rows ≡ map (without_operand b place) (nodes_from n os cs rows)
lost_from n b place os cs more [] h = refl
lost_from n b place os cs more (r ∷ rows) h =
    ap₂ (λ x y. x ∷ y) (node_lost os cs more n b place r (h 0 n (omega arith)))
    (lost_from (suc n) b place os cs more rows (λ k m e. h (suc k) m (omega (arith, e))))

pub lost_seen : (b place : ℕ) (os cs more members : List (List ℕ)) (rows : List Stored) (nodes : List FirmNode) (list : List ℕ) → nodes_from 0 os cs rows ≡ nodes → AreMembers rows members
    → list ≡ list_of members b → ((n : ℕ) → list_of more n ≡ lost_times (times n list) (get_or rows n no_row).op place (list_of os n))
    → nodes_from 0 more cs rows ≡ map (without_operand b place) nodes
lost_seen b place os cs more members rows nodes list v a l h =
    lost_from 0 b place os cs more rows (λ k m e.
    let here : k ≡ m = omega (arith, e) in
    h m ∙ ap₂ (λ t i. lost_times t (get_or rows i no_row).op place (list_of os m)) (ap (times m) l ∙ a b m ∙ ap (λ i. count (get_or rows i no_row) b) (sym here)) (sym here))
    ∙ ap (map (without_operand b place)) v

pub held_lost : (b place : ℕ) (rows : List Stored) (members : List (List ℕ)) (operands currents more : Used) (list : List ℕ) → AreHeld (length rows) operands currents → AreMembers rows members
    → list ≡ list_of members b → Covers (length rows) more
    → ((n : ℕ) → list_of more.uses n ≡ lost_times (times n list) (get_or rows n no_row).op place (list_of operands.uses n))
    → AreHeld (length rows) more currents
held_lost b place rows members operands currents more list a m l c h = record {
  operands_cover = c;
  currents_cover = a.currents_cover;
  empty = λ n le. h n
      ∙ ap (λ t. lost_times t (get_or rows n no_row).op place (list_of operands.uses n)) (ap (times n) l ∙ m b n ∙ ap (λ r. count r b) (past_rows rows n le))
      ∙ a.empty n le;
  own = a.own;
}

at_most_one : (t : Bool) → (if t then 1 else 0) ≤ 1
at_most_one true = omega arith
at_most_one false = omega arith

-- each member is listed once, and was made
pub listed_once : (rows : List Stored) (members : List (List ℕ)) (b : ℕ) (list : List ℕ) → AreMembers rows members → list ≡ list_of members b → (n : ℕ) → times n list ≤ 1
listed_once rows members b list a l n = subst (λ k. k ≤ 1) (sym (ap (times n) l ∙ a b n)) (at_most_one (is_in (get_or rows n no_row) b))

pub listed_within : (rows : List Stored) (members : List (List ℕ)) (b : ℕ) (list : List ℕ) → AreMembers rows members → list ≡ list_of members b
    → (index : ℕ) → index < length list → get_or list index 0 < length rows
listed_within rows members b list a l index h =
    let n = get_or list index 0 in
    elim (cases_lt n (length rows)) [
      | inl lt ↦ lt
      | inr le ↦ absurd (omega (arith, times_found n list index 0 h refl, ap (times n) l ∙ a b n ∙ ap (λ r. count r b) (past_rows rows n le)))
    ]
