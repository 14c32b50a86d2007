-- Modes of nodes, and the operands that have them.
use Rattle.std.proofs.Common.{◌≡◌, ◌≢◌, ◌==◌, ℕ, zero, suc, ◌+◌, ◌<◌, ◌≤◌, Bool, false, true≢false, List, [], ◌∷◌, length, map, take, get_or, refl, sym, ap, ap₂, ◌∙◌, subst, arith, option_map, unwrap_or, Option, Some, None, inl, inr, ◌⊎◌, MatchBool}
use Rattle.std.proofs.lemmas.Bool.{cases_eq}
use Rattle.std.proofs.lemmas.List.{take_all, length-map}
use Rattle.std.proofs.lemmas.Option.{slice_get-get_or}
use Rattle.std.specs.Prelude.{slice_get}
use Rattle.firm_uses.specs.Counts.{times}
use Rattle.firm_uses.proofs.CountLaws.{one, one_other, times_front}
use Rattle.firm_rules.specs.declared.node.NodeId.{NodeId}
use Rattle.firm_rules.specs.declared.node.NodeOp.{NodeOp}
use Rattle.firm_rules.specs.declared.node.Mode.{Mode}
use Rattle.firm_rules.specs.declared.node.Mode.TheVariants.{Word, Memory}
use Rattle.firm_rules.specs.declared.node.FirmEnd.{FirmEnd}
use Rattle.firm_rules.specs.declared.node.FirmEnd.TheVariants.{Jump, Branch, Return}
use Rattle.firm_rules.specs.Graphs.{FirmNode, Firm, Operands, exactly, memory_and_words, all_of, operands_of, mode_of}
use Rattle.firm_rules.specs.Lookups.{node_at, mode_at, end_of}
use Rattle.firm_rules.specs.Rules.{HaveMode, OperandsFit, EndFits}
use Rattle.firm_tables.specs.Nodes.{numbers, node_of}
use Rattle.firm_tables.proofs.MemberLaws.{number_at, numbers_long}
use Rattle.firm_tables.proofs.NodeLaws.{matches}
use Rattle.firm_nodes.specs.Calls.{IsNode}
use Rattle.firm_verify.specs.Tables.{AreNodes, AreModes, HaveFrom, FitBy, EndFitsBy}
use Rattle.firm_verify.proofs.GraphLaws.{node_seen, node_read}

-- ---- the table

abbrev pub NodeFits : Firm → ℕ → Type 0
NodeFits g n = OperandsFit g (operands_of (node_of g.nodes n).op) (node_of g.nodes n).operands

-- that of some nodes
abbrev pub AreModesOf : Firm → List ℕ → List (Option Mode) → Type 0
AreModesOf g nodes modes = (n : ℕ) → (get_or modes n None ≡ mode_at g n) ⊎ ((get_or modes n None ≡ None) × (times n nodes ≡ 0))

pub no_modes : (g : Firm) (modes : List (Option Mode)) → modes ≡ [] → AreModesOf g [] modes
no_modes g modes e n = inr (ap (λ l. get_or l n None) e, refl)

pub modes_more : (g : Firm) (nodes : List NodeId) (at : ℕ) (d : NodeId) (modes after : List (Option Mode)) (mode : Mode) → AreNodes g (numbers nodes) → at < length nodes
    → IsNode g (get_or nodes at d).number → AreModesOf g (take at (numbers nodes)) modes → mode ≡ mode_of (node_of g.nodes (get_or nodes at d).number).op
    → get_or after (get_or nodes at d).number None ≡ Some mode
    → ((other : ℕ) → other ≢ (get_or nodes at d).number → get_or after other None ≡ get_or modes other None) → AreModesOf g (take (at + 1) (numbers nodes)) after
modes_more g nodes at d modes after mode a h node m is this others n =
    let read = (get_or nodes at d).number in
    elim (cases_eq n read) [
      | inl same ↦ inl (ap (λ k. get_or after k None) same ∙ this ∙ ap Some is
          ∙ sym (ap (option_map (λ (x : FirmNode). mode_of x.op)) (node_seen g read node)) ∙ ap (mode_at g) (sym same))
      | inr ne ↦ elim (m n) [
        | inl given ↦ inl (others n ne ∙ given)
        | inr none ↦ inr (
          others n ne ∙ none.0,
          (let front = times_front n (numbers nodes) at 0 (omega (arith, h, numbers_long nodes)) in
              let is_read = number_at nodes at d h in
              let one_of : one n (get_or (numbers nodes) at 0) ≡ 0 = one_other n (get_or (numbers nodes) at 0) (λ (e : get_or (numbers nodes) at 0 ≡ n). ne (sym e ∙ is_read)) in
              ap (λ k. times n (take k (numbers nodes))) (suc_add at) ∙ front ∙ ap₂ (λ x y. x + y) none.1 one_of),
        )
      ]
    ]
  where
    suc_add : (k : ℕ) → k + 1 ≡ suc k
    suc_add k = omega arith

pub modes_done : (g : Firm) (nodes : List NodeId) (at : ℕ) (modes : List (Option Mode)) → AreNodes g (numbers nodes) → length nodes ≤ at
    → AreModesOf g (take at (numbers nodes)) modes → AreModes g modes
modes_done g nodes at modes a h m n = elim (m n) [
  | inl given ↦ given
  | inr none ↦ none.0 ∙ sym (gone (node_at g n) refl (ap (times n) (sym (take_all at (numbers nodes) (omega (arith, h, numbers_long nodes)))) ∙ none.1))
]
  where
    gone : (found : Option FirmNode) → node_at g n ≡ found → times n (numbers nodes) ≡ 0 → option_map (λ (x : FirmNode). mode_of x.op) found ≡ None
    gone None e no_times = refl
    gone (Some node) e no_times = absurd (omega (arith, no_times, a.all n (node_read g n node e).0))

-- ---- operands

pub map_get : {A B : Type 0} → (f : A → B) (xs : List A) (i : ℕ) (d : A) (e : B) → i < length xs → get_or (map f xs) i e ≡ f (get_or xs i d)
map_get f [] i d e h = absurd (omega arith)
map_get f (x ∷ xs) zero d e h = refl
map_get f (x ∷ xs) (suc i) d e h = map_get f xs i d e (omega arith)

-- two lists are mapped to one
mapped : {A B C : Type 0} → (f : A → C) (g : B → C) (xs : List A) (ys : List B) (d : A) (e : B) → length xs ≡ length ys
    → ((i : ℕ) → i < length ys → f (get_or xs i d) ≡ g (get_or ys i e)) → map f xs ≡ map g ys
mapped f g [] [] d e h each = refl
mapped f g [] (y ∷ ys) d e h each = absurd (omega arith)
mapped f g (x ∷ xs) [] d e h each = absurd (omega arith)
mapped f g (x ∷ xs) (y ∷ ys) d e h each = ap₂ (λ z zs. z ∷ zs) (each 0 (omega arith)) (mapped f g xs ys d e (omega arith) (λ i lt. each (suc i) (omega (arith, lt))))

pub other_count : (look : ℕ → Option Mode) (operands : List ℕ) (wanted : List Mode) → length operands ≢ length wanted → map look operands ≡ map Some wanted → ⊥
other_count look operands wanted ne e = ne (sym (length-map operands look) ∙ ap length e ∙ length-map wanted Some)

pub all_modes : (look : ℕ → Option Mode) (operands : List ℕ) (wanted : List Mode) (at : ℕ) → length operands ≡ length wanted → length wanted ≤ at
    → ((i : ℕ) → i < at → look (get_or operands i 0) ≡ Some (get_or wanted i Word)) → map look operands ≡ map Some wanted
all_modes look operands wanted at long h each = mapped look Some operands wanted 0 Word long (λ i lt. each i (omega (arith, lt, h)))

pub other_mode : (look : ℕ → Option Mode) (operands : List ℕ) (wanted : List Mode) (at : ℕ) (d : Mode) → length operands ≡ length wanted → at < length wanted
    → (look (get_or operands at 0) ≡ Some (get_or wanted at d) → ⊥) → map look operands ≡ map Some wanted → ⊥
other_mode look operands wanted at d long h ne e =
    ne (sym (map_get look operands at 0 None (omega (arith, h, long))) ∙ ap (λ l. get_or l at None) e ∙ map_get Some wanted at d None h)

-- ---- by the graph

pub got : (xs : List ℕ) (i n : ℕ) → slice_get xs i ≡ Some n → (i < length xs) × (get_or xs i 0 ≡ n)
got [] i n e = absurd (cc)
got (x ∷ xs) zero n e = (omega arith, ap (λ o. unwrap_or o x) e)
got (x ∷ xs) (suc i) n e = let rest = got xs i n e in (omega (arith, rest.0), rest.1)

have_from : (g : Firm) (modes : List (Option Mode)) (mode : Mode) (operands : List ℕ) → AreModes g modes
    → HaveFrom (λ n. get_or modes n None) mode 0 operands → HaveMode g mode operands
have_from g modes mode operands m h index n at =
    let is = got operands index n at in
    sym (m n) ∙ ap (λ k. get_or modes k None) (sym is.1) ∙ h index (omega arith) is.0

from_have : (g : Firm) (modes : List (Option Mode)) (mode : Mode) (operands : List ℕ) → AreModes g modes
    → HaveMode g mode operands → HaveFrom (λ n. get_or modes n None) mode 0 operands
from_have g modes mode operands m h index le lt =
    m (get_or operands index 0) ∙ h index (get_or operands index 0) (slice_get-get_or operands index 0 lt)

behind : (look : ℕ → Option Mode) (mode : Mode) (x : ℕ) (operands : List ℕ) → HaveFrom look mode 1 (x ∷ operands) → HaveFrom look mode 0 operands
behind look mode x operands h index le lt = h (suc index) (omega arith) (omega (arith, lt))

before : (look : ℕ → Option Mode) (mode : Mode) (x : ℕ) (operands : List ℕ) → HaveFrom look mode 0 operands → HaveFrom look mode 1 (x ∷ operands)
before look mode x operands h zero le lt = absurd (omega (arith, le))
before look mode x operands h (suc index) le lt = h index (omega arith) (omega (arith, lt))

same_map : (f g : ℕ → Option Mode) (xs : List ℕ) → ((n : ℕ) → f n ≡ g n) → map f xs ≡ map g xs
same_map f g [] e = refl
same_map f g (x ∷ xs) e = ap₂ (λ y ys. y ∷ ys) (e x) (same_map f g xs e)

fit_by : (g : Firm) (modes : List (Option Mode)) (kinds : Operands) (operands : List ℕ) → AreModes g modes
    → FitBy (λ n. get_or modes n None) kinds operands → OperandsFit g kinds operands
fit_by g modes (exactly wanted) operands m h = sym (same_map (λ n. get_or modes n None) (mode_at g) operands m) ∙ h
fit_by g modes memory_and_words [] m h = h
fit_by g modes memory_and_words (x ∷ operands) m h = (sym (m x) ∙ h.0, have_from g modes Word operands m (behind (λ n. get_or modes n None) Word x operands h.1))
fit_by g modes (all_of mode) operands m h = (h.0, have_from g modes mode operands m h.1)

by_fit : (g : Firm) (modes : List (Option Mode)) (kinds : Operands) (operands : List ℕ) → AreModes g modes
    → OperandsFit g kinds operands → FitBy (λ n. get_or modes n None) kinds operands
by_fit g modes (exactly wanted) operands m h = same_map (λ n. get_or modes n None) (mode_at g) operands m ∙ h
by_fit g modes memory_and_words [] m h = h
by_fit g modes memory_and_words (x ∷ operands) m h = (m x ∙ h.0, before (λ n. get_or modes n None) Word x operands (from_have g modes Word operands m h.1))
by_fit g modes (all_of mode) operands m h = (h.0, from_have g modes mode operands m h.1)

pub fit_in : (g : Firm) (modes : List (Option Mode)) (n : ℕ) (op : NodeOp) (operands : List ℕ) (answer : Bool) → AreModes g modes → op ≡ (node_of g.nodes n).op
    → operands ≡ (node_of g.nodes n).operands
    → MatchBool answer (FitBy (λ n. get_or modes n None) (operands_of op) operands) (FitBy (λ n. get_or modes n None) (operands_of op) operands → ⊥)
    → MatchBool answer (NodeFits g n) (NodeFits g n → ⊥)
fit_in g modes n op operands answer m is are h =
    matches answer h
    (λ f. subst (λ o. OperandsFit g (operands_of o) (node_of g.nodes n).operands) is (subst (λ l. OperandsFit g (operands_of op) l) are (fit_by g modes (operands_of op) operands m f)))
    (λ f. by_fit g modes (operands_of op) operands m
    (subst (λ l. OperandsFit g (operands_of op) l) (sym are) (subst (λ o. OperandsFit g (operands_of o) (node_of g.nodes n).operands) (sym is) f)))

end_by : (g : Firm) (modes : List (Option Mode)) (end : Option FirmEnd) → AreModes g modes → EndFitsBy (λ n. get_or modes n None) end → EndFits g end
end_by g modes (Some (Jump b)) m h = tt
end_by g modes (Some (Branch n first second)) m h = sym (m n.number) ∙ h
end_by g modes (Some (Return n (Some value))) m h = (sym (m n.number) ∙ h.0, sym (m value.number) ∙ h.1)
end_by g modes (Some (Return n None)) m h = sym (m n.number) ∙ h.0
end_by g modes None m h = h

by_end : (g : Firm) (modes : List (Option Mode)) (end : Option FirmEnd) → AreModes g modes → EndFits g end → EndFitsBy (λ n. get_or modes n None) end
by_end g modes (Some (Jump b)) m h = tt
by_end g modes (Some (Branch n first second)) m h = m n.number ∙ h
by_end g modes (Some (Return n (Some value))) m h = (m n.number ∙ h.0, m value.number ∙ h.1)
by_end g modes (Some (Return n None)) m h = (m n.number ∙ h, tt)
by_end g modes None m h = h

pub end_in : (g : Firm) (modes : List (Option Mode)) (b : ℕ) (end : Option FirmEnd) (answer : Bool) → AreModes g modes → end ≡ end_of g b
    → MatchBool answer (EndFitsBy (λ n. get_or modes n None) end) (EndFitsBy (λ n. get_or modes n None) end → ⊥)
    → MatchBool answer (EndFits g (end_of g b)) (EndFits g (end_of g b) → ⊥)
end_in g modes b end answer m is h =
    matches answer h (λ f. subst (EndFits g) is (end_by g modes end m f)) (λ f. by_end g modes end m (subst (EndFits g) (sym is) f))

-- a list that begins with a memory
pub begins : (look : ℕ → Option Mode) (operands : List ℕ) (answer : Bool) → 0 < length operands → look (get_or operands 0 0) ≡ Some Memory
    → MatchBool answer (HaveFrom look Word 1 operands) (HaveFrom look Word 1 operands → ⊥) → MatchBool answer (FitBy look memory_and_words operands) (FitBy look memory_and_words operands → ⊥)
begins look [] answer h m have = absurd (omega (arith, h))
begins look (x ∷ operands) answer h m have = matches answer have (λ f. (m, f)) (λ f. f.1)

pub no_beginning : (look : ℕ → Option Mode) (operands : List ℕ) → 0 < length operands → (look (get_or operands 0 0) ≡ Some Memory → ⊥) → FitBy look memory_and_words operands → ⊥
no_beginning look [] h m f = f
no_beginning look (x ∷ operands) h m f = m f.0

pub nothing_begins : (look : ℕ → Option Mode) (operands : List ℕ) → operands ≡ [] → FitBy look memory_and_words operands → ⊥
nothing_begins look [] e f = f
nothing_begins look (x ∷ operands) e f = absurd (cc)

pub some_length : (xs : List ℕ) → false ≡ (length xs == 0) → 0 < length xs
some_length [] e = absurd (true≢false (sym e))
some_length (x ∷ xs) e = omega arith
