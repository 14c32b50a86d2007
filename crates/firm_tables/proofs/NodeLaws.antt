-- What a change of the tables does to the nodes that are seen in them.
use Rattle.std.proofs.Common.{◌≡◌, ◌≢◌, ℕ, zero, suc, ◌+◌, ◌<◌, ◌≤◌, Bool, true, false, List, [], ◌∷◌, ◌++◌, length, map, take, get_or, set, refl, sym, ap, ap₂, ◌∙◌, arith, inl, inr, true≢false, Result, Ok, Err, is_err, OnOk, OnErr, MatchBool}
use Rattle.std.proofs.lemmas.List.{length-set, length-map, set-get_or, get_or-set_same, get_or-set_other, get_or_default, take_more}
use Rattle.std.proofs.lemmas.Bool.{cases_eq, cases_lt}
use Rattle.cp_obstack.specs.Lists.{list_of}
use Rattle.firm_uses.specs.Tables.{with_list}
use Rattle.firm_uses.specs.Counts.{renamed, renamed_rows, Used}
use Rattle.firm_rules.specs.declared.node.NodeOp.{NodeOp}
use Rattle.firm_rules.specs.Graphs.{FirmNode}
use Rattle.firm_tables.specs.declared.nodes.Stored.{Stored}
use Rattle.firm_tables.specs.Nodes.{no_node, node_of, IsLike, made, with_operands, gone, without, renamed_node}
use Rattle.firm_tables.specs.Held.{node_seen, nodes_from, no_row, IsRow, Covers, AreHeld}

-- ---- what is seen

pub nodes_long : (n : ℕ) (os cs : List (List ℕ)) (rows : List Stored) → length (nodes_from n os cs rows) ≡ length rows
nodes_long n os cs [] = refl
nodes_long n os cs (r ∷ rows) = ap suc (nodes_long (suc n) os cs rows)

at_more : (n : ℕ) (os cs : List (List ℕ)) (rows : List Stored) (k m : ℕ) → n + k ≡ m → k < length rows
    → node_of (nodes_from n os cs rows) k ≡ node_seen os cs m (get_or rows k no_row)
at_more n os cs [] k m e h = absurd (omega arith)
at_more n os cs (r ∷ rows) zero m e h = ap (λ i. node_seen os cs i r) (omega (arith, e))
at_more n os cs (r ∷ rows) (suc k) m e h = at_more (suc n) os cs rows k m (omega (arith, e)) (omega arith)

pub nodes_at : (os cs : List (List ℕ)) (rows : List Stored) (k : ℕ) → k < length rows
    → node_of (nodes_from 0 os cs rows) k ≡ node_seen os cs k (get_or rows k no_row)
nodes_at os cs rows k h = at_more 0 os cs rows k k (omega arith) h

-- past the nodes there is no operand
past : (nodes : List FirmNode) (k : ℕ) → length nodes ≤ k → node_of nodes k ≡ no_node
past [] k h = refl
past (x ∷ nodes) zero h = absurd (omega arith)
past (x ∷ nodes) (suc k) h = past nodes k (omega arith)

pub past_nodes : (os cs : List (List ℕ)) (rows : List Stored) (k : ℕ) → length rows ≤ k → node_of (nodes_from 0 os cs rows) k ≡ no_node
past_nodes os cs rows k h = past (nodes_from 0 os cs rows) k (omega (arith, h, nodes_long 0 os cs rows))

-- the same lists, the same nodes
pub same_seen : (os cs more others : List (List ℕ)) (n : ℕ) (row : Stored) → list_of more n ≡ list_of os n → list_of others n ≡ list_of cs n
    → node_seen more others n row ≡ node_seen os cs n row
same_seen os cs more others n row o c =
    ap₂ (λ operands currents. record { op = row.op; block = row.block; operands = operands; there = row.there; current = get_or currents 0 0 }) o c

pub nodes_same : (n : ℕ) (os cs more others : List (List ℕ)) (rows : List Stored)
    → ((k : ℕ) → n ≤ k → k < n + length rows → list_of more k ≡ list_of os k)
    → ((k : ℕ) → n ≤ k → k < n + length rows → list_of others k ≡ list_of cs k)
    → nodes_from n more others rows ≡ nodes_from n os cs rows
nodes_same n os cs more others [] o c = refl
nodes_same n os cs more others (r ∷ rows) o c =
    ap₂ (λ a b. a ∷ b) (same_seen os cs more others n r (o n (omega arith) (omega arith)) (c n (omega arith) (omega arith)))
    (nodes_same (suc n) os cs more others rows (λ k lo hi. o k (omega arith) (omega arith)) (λ k lo hi. c k (omega arith) (omega arith)))

-- ---- a new node

pushed_from : (n m : ℕ) (os cs more others : List (List ℕ)) (rows : List Stored) (row : Stored) → n + length rows ≡ m
    → ((k : ℕ) → k ≢ m → list_of more k ≡ list_of os k) → ((k : ℕ) → k ≢ m → list_of others k ≡ list_of cs k)
    → nodes_from n more others (rows ++ row ∷ []) ≡ nodes_from n os cs rows ++ node_seen more others m row ∷ []
pushed_from n m os cs more others [] row e o c = ap (λ i. node_seen more others i row ∷ []) (omega (arith, e))
pushed_from n m os cs more others (r ∷ rows) row e o c =
    ap₂ (λ a b. a ∷ b) (same_seen os cs more others n r (o n (omega (arith, e))) (c n (omega (arith, e))))
    (pushed_from (suc n) m os cs more others rows row (omega (arith, e)) o c)

made_of : (n block : ℕ) (op : NodeOp) (is : Bool) (list uses current : List ℕ) → is ≡ true → uses ≡ list → current ≡ n ∷ []
    → record { op = op; block = block; operands = uses; there = is; current = get_or current 0 0 } ≡ made n op block list
made_of n block op is list uses current a b d =
    ap₂ (λ (i : Bool) (u : List ℕ). record { op = op; block = block; operands = u; there = i; current = get_or current 0 0 }) a b
    ∙ ap (λ (u : List ℕ). record { op = op; block = block; operands = list; there = true; current = get_or u 0 0 }) d

pub node_made : (os cs more others : List (List ℕ)) (rows : List Stored) (row : Stored) (operands : List ℕ) → row.there ≡ true
    → list_of more (length rows) ≡ operands → list_of others (length rows) ≡ length rows ∷ []
    → ((k : ℕ) → k ≢ length rows → list_of more k ≡ list_of os k) → ((k : ℕ) → k ≢ length rows → list_of others k ≡ list_of cs k)
    → nodes_from 0 more others (rows ++ row ∷ []) ≡ nodes_from 0 os cs rows ++ made (length (nodes_from 0 os cs rows)) row.op row.block operands ∷ []
node_made os cs more others rows row operands there now own o c =
    pushed_from 0 (length rows) os cs more others rows row (omega arith) o c
    ∙ ap (λ (node : FirmNode). nodes_from 0 os cs rows ++ node ∷ [])
    (made_of (length rows) row.block row.op row.there operands (list_of more (length rows)) (list_of others (length rows)) there now own
    ∙ ap (λ n. made n row.op row.block operands) (sym (nodes_long 0 os cs rows)))

-- ---- one node changes

set_from : (n m : ℕ) (os cs more : List (List ℕ)) (rows : List Stored) (k : ℕ) (row : Stored) → n + k ≡ m
    → ((j : ℕ) → j ≢ m → list_of more j ≡ list_of os j)
    → nodes_from n more cs (set rows k row) ≡ set (nodes_from n os cs rows) k (node_seen more cs m row)
set_from n m os cs more [] k row e o = refl
set_from n m os cs more (r ∷ rows) zero row e o =
    ap₂ (λ i b. node_seen more cs i row ∷ b) (omega (arith, e))
    (nodes_same (suc n) os cs more cs rows (λ k lo hi. o k (omega (arith, e, lo))) (λ k lo hi. refl))
set_from n m os cs more (r ∷ rows) (suc k) row e o =
    ap₂ (λ a b. a ∷ b) (same_seen os cs more cs n r (o n (omega (arith, e))) refl) (set_from (suc n) m os cs more rows k row (omega (arith, e)) o)

set_own : (rows : List Stored) (k : ℕ) (d : Stored) → set rows k (get_or rows k d) ≡ rows
set_own rows k d = set-get_or rows k d

-- the operands of one node are these
pub operands_are : (os cs more : List (List ℕ)) (rows : List Stored) (k : ℕ) (list : List ℕ) → k < length rows → k < length os
    → more ≡ with_list os k list → nodes_from 0 more cs rows ≡ with_operands (nodes_from 0 os cs rows) k list
operands_are os cs more rows k list h there e =
    let others : (j : ℕ) → j ≢ k → list_of more j ≡ list_of os j = λ j ne. ap (λ ls. list_of ls j) e ∙ get_or-set_other os k j list [] ne in
    let own : list_of more k ≡ list = ap (λ ls. list_of ls k) e ∙ get_or-set_same os k list [] there in
    ap (nodes_from 0 more cs) (sym (set_own rows k no_row)) ∙ set_from 0 k os cs more rows k (get_or rows k no_row) (omega arith) others
    ∙ ap (λ (node : FirmNode). set (nodes_from 0 os cs rows) k node)
    (ap (λ (l : List ℕ). record (node_seen os cs k (get_or rows k no_row)) { operands = l }) own
    ∙ ap (λ (node : FirmNode). record node { operands = list }) (sym (nodes_at os cs rows k h)))

-- one node is gone
pub node_gone : (os cs more : List (List ℕ)) (rows : List Stored) (k : ℕ) (row was : Stored) → k < length rows → k < length os
    → more ≡ with_list os k [] → was ≡ get_or rows k no_row → row ≡ record was { there = false }
    → nodes_from 0 more cs (set rows k row) ≡ without (nodes_from 0 os cs rows) k
node_gone os cs more rows k row was h there e w r =
    let others : (j : ℕ) → j ≢ k → list_of more j ≡ list_of os j = λ j ne. ap (λ ls. list_of ls j) e ∙ get_or-set_other os k j [] [] ne in
    let own : list_of more k ≡ [] = ap (λ ls. list_of ls k) e ∙ get_or-set_same os k [] [] there in
    set_from 0 k os cs more rows k row (omega arith) others
    ∙ ap (λ (node : FirmNode). set (nodes_from 0 os cs rows) k node)
    (ap₂ (λ (l : List ℕ) (s : Stored). record { op = s.op; block = s.block; operands = l; there = s.there; current = get_or (list_of cs k) 0 0 }) own r
    ∙ ap (λ (s : Stored). gone (node_seen os cs k s)) w ∙ ap gone (sym (nodes_at os cs rows k h)))

-- ---- a node in the place of another

renamed_list : (old to : ℕ) (lists : List (List ℕ)) (k : ℕ) → list_of (renamed_rows old to lists) k ≡ map (renamed old to) (list_of lists k)
renamed_list old to [] k = refl
renamed_list old to (l ∷ lists) zero = refl
renamed_list old to (l ∷ lists) (suc k) = renamed_list old to lists k

renamed_current : (old to : ℕ) (list : List ℕ) → length list ≡ 1 → get_or (map (renamed old to) list) 0 0 ≡ renamed old to (get_or list 0 0)
renamed_current old to [] e = absurd (omega (arith, e))
renamed_current old to (x ∷ list) e = refl

pub nodes_renamed : (n old to : ℕ) (os cs : List (List ℕ)) (rows : List Stored) → ((k : ℕ) → n ≤ k → k < n + length rows → length (list_of cs k) ≡ 1)
    → nodes_from n (renamed_rows old to os) (renamed_rows old to cs) rows ≡ map (renamed_node old to) (nodes_from n os cs rows)
nodes_renamed n old to os cs [] h = refl
nodes_renamed n old to os cs (r ∷ rows) h =
    ap₂ (λ a b. a ∷ b)
    (ap₂ (λ (operands : List ℕ) (current : ℕ). record { op = r.op; block = r.block; operands = operands; there = r.there; current = current })
    (renamed_list old to os n)
    (ap (λ l. get_or l 0 0) (renamed_list old to cs n) ∙ renamed_current old to (list_of cs n) (h n (omega arith) (omega arith))))
    (nodes_renamed (suc n) old to os cs rows (λ k lo hi. h k (omega arith) (omega arith)))

-- ---- what always holds

pub covers_set : (count k : ℕ) (list : List ℕ) (used after : Used) → Covers count used → after.uses ≡ with_list used.uses k list
    → length after.loads ≡ length used.loads → Covers count after
covers_set count k list used after c e l = record {
  users = omega (arith, c.users, ap length e, length-set used.uses k list);
  used_ones = omega (arith, c.used_ones, l);
}

pub held_set : (count k : ℕ) (list : List ℕ) (operands currents after : Used) → AreHeld count operands currents → k < count
    → after.uses ≡ with_list operands.uses k list → length after.loads ≡ length operands.loads → AreHeld count after currents
held_set count k list operands currents after a h e l = record {
  operands_cover = covers_set count k list operands after a.operands_cover e l;
  currents_cover = a.currents_cover;
  empty = λ n le. ap (λ ls. list_of ls n) e ∙ get_or-set_other operands.uses k n list [] (omega (arith, h, le)) ∙ a.empty n le;
  own = a.own;
}

renamed_none : (old to : ℕ) (list : List ℕ) → list ≡ [] → map (renamed old to) list ≡ []
renamed_none old to list e = ap (map (renamed old to)) e

pub held_renamed : (count old to : ℕ) (operands currents more others : Used) → AreHeld count operands currents
    → more.uses ≡ renamed_rows old to operands.uses → length more.loads ≡ length operands.loads
    → others.uses ≡ renamed_rows old to currents.uses → length others.loads ≡ length currents.loads → AreHeld count more others
held_renamed count old to operands currents more others a o ol c cl = record {
  operands_cover = record {
    users = omega (arith, a.operands_cover.users, ap length o, length-map operands.uses (map (renamed old to)));
    used_ones = omega (arith, a.operands_cover.used_ones, ol);
  };
  currents_cover = record {
    users = omega (arith, a.currents_cover.users, ap length c, length-map currents.uses (map (renamed old to)));
    used_ones = omega (arith, a.currents_cover.used_ones, cl);
  };
  empty = λ n le. ap (λ ls. list_of ls n) o ∙ renamed_list old to operands.uses n ∙ renamed_none old to (list_of operands.uses n) (a.empty n le);
  own = λ n lt. ap (λ ls. length (list_of ls n)) c ∙ ap length (renamed_list old to currents.uses n) ∙ length-map (list_of currents.uses n) (renamed old to) ∙ a.own n lt;
}

-- ---- what is read

pub node_there : (os cs : List (List ℕ)) (rows : List Stored) (nodes : List FirmNode) (k : ℕ) → nodes_from 0 os cs rows ≡ nodes → k < length nodes → k < length rows
node_there os cs rows nodes k v h = omega (arith, h, ap length v, nodes_long 0 os cs rows)

pub row_is : (rows : List Stored) (k : ℕ) (row : Stored) → k < length rows → row ≡ get_or rows k row → row ≡ get_or rows k no_row
row_is rows k row h e = e ∙ get_or_default rows k row no_row h

pub seen_node : (os cs : List (List ℕ)) (rows : List Stored) (nodes : List FirmNode) (k : ℕ) (row : Stored) → nodes_from 0 os cs rows ≡ nodes → k < length nodes
    → row ≡ get_or rows k row → node_seen os cs k row ≡ node_of nodes k
seen_node os cs rows nodes k row v h e =
    let there = node_there os cs rows nodes k v h in
    ap (λ (r : Stored). node_seen os cs k r) (row_is rows k row there e) ∙ sym (nodes_at os cs rows k there) ∙ ap (λ ns. node_of ns k) v

pub seen_operands : (os cs : List (List ℕ)) (rows : List Stored) (nodes : List FirmNode) (k : ℕ) → nodes_from 0 os cs rows ≡ nodes
    → ((n : ℕ) → length rows ≤ n → list_of os n ≡ []) → list_of os k ≡ (node_of nodes k).operands
seen_operands os cs rows nodes k v none = elim (cases_lt k (length rows)) [
  | inl lt ↦ sym (ap (λ (node : FirmNode). node.operands) (nodes_at os cs rows k lt)) ∙ ap (λ ns. (node_of ns k).operands) v
  | inr le ↦ none k le ∙ sym (ap (λ (node : FirmNode). node.operands) (past_nodes os cs rows k le)) ∙ ap (λ ns. (node_of ns k).operands) v
]

pub seen_current : (os cs : List (List ℕ)) (rows : List Stored) (nodes : List FirmNode) (k : ℕ) → nodes_from 0 os cs rows ≡ nodes → k < length nodes
    → get_or (list_of cs k) 0 0 ≡ (node_of nodes k).current
seen_current os cs rows nodes k v h = sym (ap (λ (node : FirmNode). node.current) (nodes_at os cs rows k (node_there os cs rows nodes k v h))) ∙ ap (λ ns. (node_of ns k).current) v

-- ---- changes that may be refused

pub held_ok : {T E : Type 0} (r : Result T E) (count k : ℕ) (list : List ℕ) (operands currents after : Used) → AreHeld count operands currents → k < count
    → OnOk r (after.uses ≡ with_list operands.uses k list) → OnErr r (after.uses ≡ operands.uses) → length after.loads ≡ length operands.loads
    → AreHeld count after currents
held_ok (Ok x) count k list operands currents after a h o e l = held_set count k list operands currents after a h o l
held_ok (Err x) count k list operands currents after a h o e l =
    held_set count k (list_of operands.uses k) operands currents after a h (e ∙ sym (set-get_or operands.uses k [])) l

-- the operands of one node, as they are seen
pub operands_change : (os cs more : List (List ℕ)) (rows : List Stored) (nodes : List FirmNode) (k : ℕ) (f : List ℕ → List ℕ) → nodes_from 0 os cs rows ≡ nodes → k < length nodes
    → k < length os → ((n : ℕ) → length rows ≤ n → list_of os n ≡ []) → more ≡ with_list os k (f (list_of os k))
    → nodes_from 0 more cs rows ≡ with_operands nodes k (f (node_of nodes k).operands)
operands_change os cs more rows nodes k f v h there none e =
    operands_are os cs more rows k (f (list_of os k)) (node_there os cs rows nodes k v h) there e
    ∙ ap₂ (λ (ns : List FirmNode) (l : List ℕ). with_operands ns k (f l)) v (seen_operands os cs rows nodes k v none)

pub renamed_seen : (old to : ℕ) (os cs more others : List (List ℕ)) (rows : List Stored) (nodes : List FirmNode) → nodes_from 0 os cs rows ≡ nodes
    → ((k : ℕ) → k < length rows → length (list_of cs k) ≡ 1) → more ≡ renamed_rows old to os → others ≡ renamed_rows old to cs
    → nodes_from 0 more others rows ≡ map (renamed_node old to) nodes
renamed_seen old to os cs more others rows nodes v own m o =
    ap₂ (λ a b. nodes_from 0 a b rows) m o ∙ nodes_renamed 0 old to os cs rows (λ k lo hi. own k (omega (arith, hi)))
    ∙ ap (map (renamed_node old to)) v

-- what is renamed is there as before
pub renamed_there : (old to : ℕ) (nodes : List FirmNode) (n : ℕ) → (node_of (map (renamed_node old to) nodes) n).there ≡ (node_of nodes n).there
renamed_there old to [] n = refl
renamed_there old to (x ∷ nodes) zero = refl
renamed_there old to (x ∷ nodes) (suc n) = renamed_there old to nodes n

pub node_within : (nodes : List FirmNode) (n : ℕ) → (node_of nodes n).there ≡ true → n < length nodes
node_within [] n e = absurd (true≢false (sym e))
node_within (x ∷ nodes) zero e = omega arith
node_within (x ∷ nodes) (suc n) e = omega (arith, node_within nodes n e)

-- ---- uses that come

pub covers_push : (count k : ℕ) (list : List ℕ) (used after : Used) → Covers count used → after.uses ≡ with_list used.uses k list
    → length after.loads ≡ length used.loads → Covers count after
covers_push count k list used after c e l = covers_set count k list used after c e l

pub front_pushed : (rows more : List (List ℕ)) (user at number : ℕ) (all : List ℕ) → user < length rows → at < length all
    → list_of rows user ≡ take at all → number ≡ get_or all at 0 → more ≡ with_list rows user (list_of rows user ++ number ∷ [])
    → list_of more user ≡ take (at + 1) all
front_pushed rows more user at number all there h e n m =
    ap (λ ls. list_of ls user) m ∙ get_or-set_same rows user (list_of rows user ++ number ∷ []) [] there
    ∙ ap₂ (λ (l : List ℕ) (x : ℕ). l ++ x ∷ []) e n ∙ sym (take_more all at 0 h)

-- ---- a node that comes, or does not

-- what changes behind the nodes is not seen
pub unseen : (os cs more others : List (List ℕ)) (rows all : List Stored) (nodes : List FirmNode) (number : ℕ) → nodes_from 0 os cs rows ≡ nodes → number ≡ length rows → all ≡ rows
    → ((k : ℕ) → k ≢ number → list_of more k ≡ list_of os k) → ((k : ℕ) → k ≢ number → list_of others k ≡ list_of cs k)
    → nodes_from 0 more others all ≡ nodes
unseen os cs more others rows all nodes number v n r o c =
    ap (nodes_from 0 more others) r ∙ nodes_same 0 os cs more others rows (λ k lo hi. o k (omega (arith, n, hi))) (λ k lo hi. c k (omega (arith, n, hi))) ∙ v

pub held_kept : (count all number : ℕ) (operands currents more others : Used) → AreHeld count operands currents → number ≡ count → all ≡ count
    → Covers number more → Covers number others → list_of more.uses number ≡ []
    → ((k : ℕ) → k ≢ number → list_of more.uses k ≡ list_of operands.uses k) → ((k : ℕ) → k ≢ number → list_of others.uses k ≡ list_of currents.uses k)
    → AreHeld all more others
held_kept count all number operands currents more others a n r m c none o p = record {
  operands_cover = record { users = omega (arith, m.users, n, r); used_ones = omega (arith, m.used_ones, n, r) };
  currents_cover = record { users = omega (arith, c.users, n, r); used_ones = omega (arith, c.used_ones, n, r) };
  empty = λ k le. elim (cases_eq k number) [
    | inl same ↦ ap (list_of more.uses) same ∙ none
    | inr ne ↦ o k ne ∙ a.empty k (omega (arith, le, r))
  ];
  own = λ k lt. ap length (p k (omega (arith, lt, n, r))) ∙ a.own k (omega (arith, lt, r));
}

pub held_made : (count all number : ℕ) (operands currents more others : Used) → AreHeld count operands currents → number ≡ count → all ≡ suc count
    → Covers (suc number) more → Covers (suc number) others → list_of others.uses number ≡ number ∷ []
    → ((k : ℕ) → k ≢ number → list_of more.uses k ≡ list_of operands.uses k) → ((k : ℕ) → k ≢ number → list_of others.uses k ≡ list_of currents.uses k)
    → AreHeld all more others
held_made count all number operands currents more others a n r m c own o p = record {
  operands_cover = record { users = omega (arith, m.users, n, r); used_ones = omega (arith, m.used_ones, n, r) };
  currents_cover = record { users = omega (arith, c.users, n, r); used_ones = omega (arith, c.used_ones, n, r) };
  empty = λ k le. o k (omega (arith, le, n, r)) ∙ a.empty k (omega (arith, le, r));
  own = λ k lt. elim (cases_eq k number) [
    | inl same ↦ ap (λ i. length (list_of others.uses i)) same ∙ ap length own
    | inr ne ↦ ap length (p k ne) ∙ a.own k (omega (arith, lt, n, r, ne))
  ];
}

pub made_seen : (os cs more others : List (List ℕ)) (rows all : List Stored) (nodes : List FirmNode) (row : Stored) (operands : List ℕ) (number : ℕ) → nodes_from 0 os cs rows ≡ nodes
    → number ≡ length rows → all ≡ rows ++ row ∷ [] → row.there ≡ true → list_of more number ≡ operands → list_of others number ≡ number ∷ []
    → ((k : ℕ) → k ≢ number → list_of more k ≡ list_of os k) → ((k : ℕ) → k ≢ number → list_of others k ≡ list_of cs k)
    → nodes_from 0 more others all ≡ nodes ++ made (length nodes) row.op row.block operands ∷ []
made_seen os cs more others rows all nodes row operands number v n r there now own o c =
    ap (nodes_from 0 more others) r
    ∙ node_made os cs more others rows row operands there (ap (list_of more) (sym n) ∙ now) (ap (list_of others) (sym n) ∙ own ∙ ap (λ i. i ∷ []) n)
    (λ k ne. o k (λ e. ne (e ∙ n))) (λ k ne. c k (λ e. ne (e ∙ n)))
    ∙ ap (λ ns. ns ++ made (length ns) row.op row.block operands ∷ []) v

pub from_ok : {T E P : Type 0} (r : Result T E) → is_err r ≡ false → OnOk r P → P
from_ok (Ok x) e p = p
from_ok (Err x) e p = absurd (true≢false e)

pub from_err : {T E P : Type 0} (r : Result T E) → is_err r ≡ true → OnErr r P → P
from_err (Ok x) e p = absurd (true≢false (sym e))
from_err (Err x) e p = p

-- ---- a node that goes

pub gone_seen : (os cs more : List (List ℕ)) (rows : List Stored) (nodes : List FirmNode) (k : ℕ) (was row : Stored) → nodes_from 0 os cs rows ≡ nodes → k < length nodes
    → k < length os → more ≡ with_list os k [] → was ≡ get_or rows k was → row ≡ record was { there = false }
    → nodes_from 0 more cs (set rows k row) ≡ without nodes k
gone_seen os cs more rows nodes k was row v h there e w r =
    let lt = node_there os cs rows nodes k v h in
    node_gone os cs more rows k row was lt there e (row_is rows k was lt w) r ∙ ap (λ ns. without ns k) v

-- ---- a node that is like another

pub like_seen : (os cs : List (List ℕ)) (rows : List Stored) (nodes : List FirmNode) (k : ℕ) (row : Stored) (op : NodeOp) (b : ℕ) (operands list : List ℕ)
    → nodes_from 0 os cs rows ≡ nodes → k < length nodes → row ≡ get_or rows k row → IsRow row op b → list ≡ list_of os k → list ≡ operands → IsLike nodes op b operands k
like_seen os cs rows nodes k row op b operands list v h e r l o =
    let seen = seen_node os cs rows nodes k row v h e in record {
      there = sym (ap (λ (node : FirmNode). node.there) seen) ∙ r.there;
      op_is = sym (ap (λ (node : FirmNode). node.op) seen) ∙ r.op_is;
      block_is = sym (ap (λ (node : FirmNode). node.block) seen) ∙ r.block_is;
      operands_are = sym (ap (λ (node : FirmNode). node.operands) seen) ∙ sym l ∙ o;
    }

pub seen_like : (os cs : List (List ℕ)) (rows : List Stored) (nodes : List FirmNode) (k : ℕ) (row : Stored) (op : NodeOp) (b : ℕ) (operands : List ℕ)
    → nodes_from 0 os cs rows ≡ nodes → k < length nodes → row ≡ get_or rows k row → IsLike nodes op b operands k → IsRow row op b × (list_of os k ≡ operands)
seen_like os cs rows nodes k row op b operands v h e r =
    let seen = seen_node os cs rows nodes k row v h e in (
      record {
        there = ap (λ (node : FirmNode). node.there) seen ∙ r.there;
        op_is = ap (λ (node : FirmNode). node.op) seen ∙ r.op_is;
        block_is = ap (λ (node : FirmNode). node.block) seen ∙ r.block_is;
      },
      ap (λ (node : FirmNode). node.operands) seen ∙ r.operands_are,
    )

pub matches : {P Q : Type 0} (answer : Bool) → MatchBool answer P (P → ⊥) → (P → Q) → (Q → P) → MatchBool answer Q (Q → ⊥)
matches true p f g = f p
matches false p f g = λ q. p (g q)

pub refuses : {P : Type 0} (answer : Bool) → answer ≡ false → MatchBool answer P (P → ⊥) → P → ⊥
refuses true e p = absurd (true≢false e)
refuses false e p = p

pub agrees : {P : Type 0} (answer : Bool) → answer ≡ true → MatchBool answer P (P → ⊥) → P
agrees true e p = p
agrees false e p = absurd (true≢false (sym e))
