-- Where equal nodes stand.
use Rattle.std.proofs.Common.{◌≡◌, ℕ, zero, suc, ◌+◌, ◌<◌, ◌&&◌, List, [], ◌∷◌, ◌++◌, length, get_or, refl, sym, ap, ap₂, ◌∙◌, arith, subst, if◌then◌else◌, cond, inl, inr, map, option_map, unwrap_or, Option, Some, None, IfNone}
use Rattle.std.proofs.lemmas.Bool.{cases_eq, eq-eqb}
use Rattle.std.proofs.lemmas.Option.{slice_get-get_or}
use Rattle.std.proofs.lemmas.List.{length-map}
use Rattle.std.proofs.lemmas.List.FromFn.{length-range_with_len, map-range_with_len_more}
use Rattle.std.specs.List.{slice_get, range_with_len}
use Rattle.firm_uses.specs.Counts.{times}
use Rattle.firm_uses.proofs.CountLaws.{one_same, one_other, times_found}
use Rattle.firm_rules.specs.declared.node.NodeOp.{NodeOp}
use Rattle.firm_rules.specs.declared.node.NodeOp.TheVariants.{Start, Param}
use Rattle.firm_rules.specs.declared.node.NodeId.{NodeId}
use Rattle.firm_rules.specs.declared.node.Mode.{Mode}
use Rattle.firm_rules.specs.declared.node.Mode.TheVariants.{Word, Memory}
use Rattle.firm_rules.specs.Graphs.{FirmNode, Firm, Operands, exactly, memory_and_words, all_of, mode_of}
use Rattle.firm_rules.specs.Lookups.{if_there, mode_at}
use Rattle.firm_rules.specs.Rules.{OperandsFit}
use Rattle.firm_tables.specs.Nodes.{numbers, node_of, made, stands_in, IsLike}
use Rattle.firm_nodes.specs.Calls.{entry, parameter}
use Rattle.firm_tables.proofs.MemberLaws.{numbers_long}

-- what stands in a list stands at some place
pub times_at : (x : ℕ) (list : List ℕ) → 0 < times x list → (i : ℕ) × ((i < length list) × (get_or list i 0 ≡ x))
times_at x [] h = absurd (omega arith)
times_at x (y ∷ list) h = elim (cases_eq y x) [
  | inl same ↦ (0, (omega arith, same))
  | inr ne ↦
      let found = times_at x list (omega (arith, h, one_other x y ne)) in
      (suc found.0, (omega (arith, found.1.0), found.1.1))
]

-- a node with an operand was made
used_within : (nodes : List FirmNode) (n x : ℕ) → 0 < times x (node_of nodes n).operands → n < length nodes
used_within [] n x h = absurd (omega arith)
used_within (node ∷ nodes) zero x h = omega arith
used_within (node ∷ nodes) (suc n) x h = omega (arith, used_within nodes n x h)

abbrev pub AreUsers : List FirmNode → ℕ → List ℕ → Type 0
AreUsers nodes used users = (user : ℕ) → times user users ≡ times used (node_of nodes user).operands

pub users_within : (nodes : List FirmNode) (used : ℕ) (users : List ℕ) (i : ℕ) → AreUsers nodes used users → i < length users → get_or users i 0 < length nodes
users_within nodes used users i u h =
    let user = get_or users i 0 in
    used_within nodes user used (omega (arith, u user, times_found user users i 0 h refl))

-- a node with these operands is among the users of each
pub like_is_user : (nodes : List FirmNode) (op : NodeOp) (b : ℕ) (operands users : List ℕ) (used m : ℕ) → AreUsers nodes used users → 0 < times used operands
    → IsLike nodes op b operands m → (i : ℕ) × ((i < length users) × (get_or users i 0 ≡ m))
like_is_user nodes op b operands users used m u h l = times_at m users (omega (arith, u m, ap (times used) l.operands_are, h))

-- ---- operands that fit

made_within : (nodes : List FirmNode) (n : ℕ) (mode : Mode) → option_map (λ node. mode_of node.op) (if_there (slice_get nodes n)) ≡ Some mode → n < length nodes
made_within [] n mode e = absurd (cc)
made_within (node ∷ nodes) zero mode e = omega arith
made_within (node ∷ nodes) (suc n) mode e = omega (arith, made_within nodes n mode e)

abbrev first_mode : List (Option Mode) → Option Mode
first_mode [] = None
first_mode (x ∷ xs) = x

abbrev other_modes : List (Option Mode) → List (Option Mode)
other_modes [] = []
other_modes (x ∷ xs) = xs

exactly_within : (g : Firm) (list : List ℕ) (modes : List Mode) (index : ℕ) → map (mode_at g) list ≡ map Some modes → index < length list → get_or list index 0 < length g.nodes
exactly_within g [] modes index e h = absurd (omega arith)
exactly_within g (x ∷ list) [] index e h = absurd (cc)
exactly_within g (x ∷ list) (mode ∷ modes) zero e h = made_within g.nodes x mode (ap first_mode e)
exactly_within g (x ∷ list) (mode ∷ modes) (suc index) e h = exactly_within g list modes index (ap other_modes e) (omega arith)

pub fit_within : (g : Firm) (kinds : Operands) (list : List ℕ) (index : ℕ) → OperandsFit g kinds list → index < length list → get_or list index 0 < length g.nodes
fit_within g (exactly modes) list index f h = exactly_within g list modes index f h
fit_within g memory_and_words [] index f h = absurd f
fit_within g memory_and_words (m ∷ list) zero f h = made_within g.nodes m Memory f.0
fit_within g memory_and_words (m ∷ list) (suc index) f h =
    made_within g.nodes (get_or list index 0) Word (f.1 index (get_or list index 0) (slice_get-get_or list index 0 (omega arith)))
fit_within g (all_of mode) list index f h = made_within g.nodes (get_or list index 0) mode (f.1 index (get_or list index 0) (slice_get-get_or list index 0 h))

pub operands_within : (now : Firm) (kinds : Operands) (operands : List NodeId) (count : ℕ) → count ≡ length now.nodes → OperandsFit now kinds (numbers operands)
    → (index : ℕ) → index < length operands → get_or (numbers operands) index 0 < count
operands_within now kinds operands count e f index h = omega (arith, e, fit_within now kinds (numbers operands) index f (omega (arith, h, numbers_long operands)))

-- ---- none is like it

pub none_more : (P : ℕ → Type 0) (at : ℕ) → ((i : ℕ) → i < at → P i → ⊥) → (P at → ⊥) → (i : ℕ) → i < at + 1 → P i → ⊥
none_more P at none this i h p = elim (cases_eq i at) [
  | inl same ↦ this (subst P same p)
  | inr ne ↦ none i (omega (arith, h, ne)) p
]

pub then_none : {T P Q : Type 0} (r : Option T) → IfNone r P → (P → Q) → IfNone r Q
then_none (Some x) p f = tt
then_none None p f = f p

pub no_like_user : (nodes : List FirmNode) (op : NodeOp) (b : ℕ) (operands users : List ℕ) (used : ℕ) → AreUsers nodes used users → 0 < times used operands
    → ((index : ℕ) → index < length users → IsLike nodes op b operands (get_or users index 0) → ⊥) → (m : ℕ) → IsLike nodes op b operands m → ⊥
no_like_user nodes op b operands users used u h none m l =
    let found = like_is_user nodes op b operands users used m u h l in
    none found.0 found.1.0 (subst (λ n. IsLike nodes op b operands n) (sym found.1.1) l)

pub no_like_listed : (nodes : List FirmNode) (op : NodeOp) (b : ℕ) (operands : List ℕ) (alike : List NodeId) → ((n : ℕ) → IsLike nodes op b [] n → 0 < times n (numbers alike)) → operands ≡ []
    → ((index : ℕ) → index < length alike → IsLike nodes op b [] (get_or (numbers alike) index 0) → ⊥) → (m : ℕ) → IsLike nodes op b operands m → ⊥
no_like_listed nodes op b operands alike all e none m like =
    let l : IsLike nodes op b [] m = subst (λ list. IsLike nodes op b list m) e like in
    let found = times_at m (numbers alike) (all m l) in
    none found.0 (omega (arith, found.1.0, numbers_long alike)) (subst (λ n. IsLike nodes op b [] n) (sym found.1.1) l)

-- the first of some operands, or none
pub first_is : (operands : List NodeId) (first : NodeId) → Some first ≡ slice_get operands 0 → (0 < length operands) × (get_or (numbers operands) 0 0 ≡ first.number)
first_is [] first e = absurd (cc)
first_is (x ∷ operands) first e = (omega arith, sym (ap (λ o. (unwrap_or o x).number) e))

pub none_is : (operands : List NodeId) → None ≡ slice_get operands 0 → numbers operands ≡ []
none_is [] e = refl
none_is (x ∷ operands) e = absurd (cc)

-- what stands at some place of the operands
pub record IsOperand (nodes : List FirmNode) (operands : List NodeId) (n : ℕ) : Type 0 where
  pub within : n < length nodes
  pub among : 0 < times n (numbers operands)

pub operand_at : (nodes : List FirmNode) (operands : List NodeId) (i n : ℕ) → ((index : ℕ) → index < length operands → get_or (numbers operands) index 0 < length nodes)
    → i < length operands → get_or (numbers operands) i 0 ≡ n → IsOperand nodes operands n
operand_at nodes operands i n all h is = record {
  within = subst (λ x. x < length nodes) is (all i h);
  among = times_found n (numbers operands) i 0 (omega (arith, h, numbers_long operands)) is;
}

-- ---- the first nodes

pub entry_more : (nodes after : List FirmNode) (i : ℕ) → nodes ≡ entry i → after ≡ nodes ++ made (length nodes) (Param i) 0 [] ∷ [] → after ≡ entry (i + 1)
entry_more nodes after i e a =
    let long : length nodes ≡ suc i = ap length e ∙ ap suc (length-map (range_with_len 0 i) parameter ∙ length-range_with_len 0 i) in
    a ∙ ap₂ (λ (ns : List FirmNode) (n : ℕ). ns ++ made n (Param i) 0 [] ∷ []) e long
    ∙ ap (λ ns. made 0 Start 0 [] ∷ ns) (sym (map-range_with_len_more parameter 0 i i (omega arith)))
