-- The faults of initializers and functions name rules and nodes that are there.
use Rattle.std.proofs.Common.{◌≡◌, ℕ, zero, suc, ◌<◌, Bool, true, false, not, ◌||◌, List, [], ◌∷◌, ◌++◌, length, map, Option, Some, None, refl, subst}
use Rattle.std.specs.Prelude.{slice_get, unwrap_or, if◌then◌else◌, flat_map, option_map}
use Rattle.std.specs.List.{range_with_len}
use Rattle.c_syntax.specs.declared.kind.SynKind.{SynKind}
use Rattle.c_syntax.specs.declared.kind.SynKind.TheVariants as kind
use Rattle.c_typing.specs.Types.{CType, unsized, is_array, is_struct, is_scalar, is_unsized, is_text_array, Layout, size_of}
use Rattle.c_typing.specs.Places.{Node, nowhere, kid, has_kid, node_at, kind_at, next_to_name}
use Rattle.c_typing.specs.Names.{Places, Name, is_static, name_of}
use Rattle.c_typing.specs.Judgements.{Typing, Judgement, means, breaks_rules, waits, initial, initialized, fills_array, verdict, all_of, before, typing_at, code_at, type_at, judgement_at, layouts}
use Rattle.c_typing.specs.Conversions.{value_of}
use Rattle.c_typing.specs.Rules.{bad_conversion, not_constant_for, out_of_range, bad_initializer, declared_twice, size_fault, absent_length, is_constant_for}
use Rattle.c_typing.specs.Expressions.{expression, literal}
use Rattle.c_typing.specs.Declarators.{type_before}
use Rattle.c_typing.specs.Initializers.{Part, part, part_of, part_offset, moved, scalar_part, value_part, braced_part, part_by, part_for, kid_part, too_many, init_around, is_static_name, count_in, braces_for, braces_by, braces, fills, target, string, literal_faults, completed_faults, completed, given_count, initialized_object, is_object, init_by, init_declarator, bare_code}
use Rattle.c_typing.specs.Typing.{function_node, unit_node}
use Rattle.c_typing.proofs.BoundsBase.{AllProper, ConstantIn, JudgedIn, both_in, rule_in, size_in, range_in, means_in, breaks_in, verdict_in, besides_in, given_in, AllIn, typing_in, value_in}
use Rattle.c_typing.proofs.BoundsDeclarators.{choice}

module _ (N : ℕ) (p : Places) (js : List Judgement) (nodes : (k : ℕ) → (node_at p.nodes k).id < N) (all : AllIn N js) where
  scalar_in : (ls : List Layout) (static : Bool) (t : CType) (v : Typing) (n : ℕ) → n < N → ConstantIn N v.constant → AllProper N (scalar_part ls static t v n).faults
  scalar_in ls static t v n lt h = both_in N (bad_conversion t v n) (if static then not_constant_for t v.constant n ++ out_of_range v.constant else []) (rule_in N _ 14 n refl lt) (by static)
    where
      by : (b : Bool) → AllProper N (if b then not_constant_for t v.constant n ++ out_of_range v.constant else [])
      by true = both_in N (not_constant_for t v.constant n) (out_of_range v.constant) (rule_in N (not (is_constant_for t v.constant)) 8 n refl lt) (range_in N v.constant h)
      by false = tt

  -- the faults of a part
  abbrev PartIn : Option Part → Type 0
  PartIn o = (q : Part) → o ≡ Some q → AllProper N q.faults

  some_in : (q : Part) → AllProper N q.faults → PartIn (Some q)
  some_in q h r e = subst (λ (x : Part). AllProper N x.faults) (same e) h
    where
      same : {x y : Part} → Some x ≡ Some y → x ≡ y
      same h = cc h

  none_in : PartIn None
  none_in q e = absurd (cc e)

  value_part_in : (ls : List Layout) (static : Bool) (t : CType) (n k : ℕ) → n < N → PartIn (value_part ls static t n (typing_at js k))
  value_part_in ls static t n k lt = by (typing_at js k) (λ x e. typing_in N js k x all e)
    where
      cases : (b : Bool) (x : Typing) → ConstantIn N x.constant → PartIn (if b then Some (part [] (bad_initializer true n)) else Some (scalar_part ls static t (value_of x) n))
      cases true x h = some_in (part [] (bad_initializer true n)) (rule_in N true 24 n refl lt)
      cases false x h = some_in (scalar_part ls static t (value_of x) n) (scalar_in ls static t (value_of x) n lt (value_in N x h))

      by : (o : Option Typing) → ((x : Typing) → o ≡ Some x → ConstantIn N x.constant) → PartIn (value_part ls static t n o)
      by None h = none_in
      by (Some x) h = cases (is_array t || is_struct t) x (h x refl)

  braced_in : (n : ℕ) (again : Bool) (j : Judgement) → n < N → PartIn (braced_part n again j)
  braced_in n again (means (initial count cells)) lt = some_in (part cells (bad_initializer again n)) (rule_in N again 24 n refl lt)
  braced_in n again (means _) lt = none_in
  braced_in n again (breaks_rules f fs) lt = none_in
  braced_in n again waits lt = none_in

  part_in : (static again : Bool) (t : CType) (n : ℕ) → PartIn (part_for p js static again t n)
  part_in static again t n = by (kind_at p.nodes n)
    where
      node : Node
      node = node_at p.nodes n

      text : (b : Bool) (q : Part) → AllProper N q.faults → PartIn (if b then Some q else value_part (layouts js) static t node.id (typing_at js node.id))
      text true q h = some_in q h
      text false q h = value_part_in (layouts js) static t node.id node.id (nodes n)

      by : (k : SynKind) → PartIn (part_by p js static again t node k)
      by kind.Braces = braced_in node.id again (judgement_at js node.id) (nodes n)
      by kind.Str = text (is_text_array t) _ (rule_in N _ 24 node.id refl (nodes n))
      by _ = value_part_in (layouts js) static t node.id node.id (nodes n)

  kid_part_in : (static : Bool) (t : CType) (node : Node) (i : ℕ) → PartIn (kid_part p js static t node i)
  kid_part_in static t node i = by (part_of p (layouts js) node i t)
    where
      mapped : (o : Option Part) → PartIn o → PartIn (option_map (λ (q : Part). record q { cells = map (moved (part_offset (layouts js) t i)) q.cells }) o)
      mapped None h = none_in
      mapped (Some q) h = some_in (record q { cells = map (moved (part_offset (layouts js) t i)) q.cells }) (h q refl)

      by : (o : Option CType) → PartIn (elim o as (λ x. Option Part) [ None ↦ Some (part [] []) | Some u ↦ option_map (λ (q : Part). record q { cells = map (moved (part_offset (layouts js) t i)) q.cells }) (part_for p js static (is_scalar t) u (kid node i)) ])
      by None = some_in (part [] []) tt
      by (Some u) = mapped (part_for p js static (is_scalar t) u (kid node i)) (part_in static (is_scalar t) u (kid node i))

  parts_in : (os : List (Option Part)) → ((k : ℕ) (o : Option Part) → slice_get os k ≡ Some o → PartIn o) → (qs : List Part) → all_of os ≡ Some qs → AllProper N (flat_map (λ (q : Part). q.faults) qs)
  parts_in [] h qs e = subst (λ (x : List Part). AllProper N (flat_map (λ (q : Part). q.faults) x)) (same e) tt
    where
      same : {x y : List Part} → Some x ≡ Some y → x ≡ y
      same h = cc h
  parts_in (None ∷ os) h qs e = absurd (cc e)
  parts_in (Some a ∷ os) h qs e = by (all_of os) (λ rs f. parts_in os (λ k o at. h (suc k) o at) rs f) e
    where
      same : {x y : List Part} → Some x ≡ Some y → x ≡ y
      same h = cc h

      by : (o : Option (List Part)) → ((rs : List Part) → o ≡ Some rs → AllProper N (flat_map (λ (q : Part). q.faults) rs)) → before a o ≡ Some qs → AllProper N (flat_map (λ (q : Part). q.faults) qs)
      by None f e = absurd (cc e)
      by (Some rs) f e = subst (λ (x : List Part). AllProper N (flat_map (λ (q : Part). q.faults) x)) (same e) (both_in N a.faults (flat_map (λ (q : Part). q.faults) rs) (h 0 (Some a) refl a refl) (f rs refl))

  mapped_at : (f : ℕ → Option Part) (ns : List ℕ) → ((n : ℕ) → PartIn (f n)) → (k : ℕ) (o : Option Part) → slice_get (map f ns) k ≡ Some o → PartIn o
  mapped_at f [] h k o e = absurd (cc e)
  mapped_at f (n ∷ ns) h zero o e = subst (λ (x : Option Part). PartIn x) (same e) (h n)
    where
      same : {x y : Option Part} → Some x ≡ Some y → x ≡ y
      same h = cc h
  mapped_at f (n ∷ ns) h (suc k) o e = mapped_at f ns h k o e

  module _ (node : Node) (own : node.id < N) (kids : (i : ℕ) → kid node i < N) (names : (n : ℕ) (e : Name) → name_of p n ≡ Some e → e.node < N) where
    pub string_in : JudgedIn N (string p js node)
    unfolding string
    string_in = choice N (fills (target p js node.id)) _ _ (means_in N fills_array tt) (verdict_in N (literal_faults node) (expression (literal p js node.label.bytes)) (size_in N _ node.id own) tt)

    pub braces_in : JudgedIn N (braces p js node)
    unfolding braces braces_for
    braces_in = by (target p js node.id)
      where
        by : (o : Option CType) → JudgedIn N (braces_by p js node o)
        by None = means_in N (initial 0 []) tt
        by (Some t) =
            let os = map (kid_part p js (is_static_name (init_around p node)) t node) (range_with_len 0 (length node.kids)) in
            besides_in N (too_many p (layouts js) t node) _ (rule_in N _ 24 node.id refl own)
            (given_in N (all_of os) (λ parts. verdict (flat_map (λ (q : Part). q.faults) parts) (initial (count_in p t node) (flat_map (λ (q : Part). q.cells) parts)))
            (λ parts same. verdict_in N (flat_map (λ (q : Part). q.faults) parts) _ (parts_in os (mapped_at (kid_part p js (is_static_name (init_around p node)) t node) (range_with_len 0 (length node.kids)) (λ i. kid_part_in (is_static_name (init_around p node)) t node i)) parts same) tt))

    completed_in : (e : Name) (b t : CType) (n : ℕ) → n < N → e.node < N → AllProper N (completed_faults p js e b t n)
    completed_in e (unsized u) t n lt le =
        both_in N (if is_unsized t then absent_length n else size_fault (size_of (layouts js) t) n) (declared_twice p e t (type_before p js e) e.node) (by (is_unsized t)) (rule_in N _ 3 e.node refl le)
      where
        by : (b : Bool) → AllProper N (if b then absent_length n else size_fault (size_of (layouts js) t) n)
        by true = ((refl, lt), tt)
        by false = size_in N (size_of (layouts js) t) n lt
    completed_in e _ t n lt le = tt

    object_in : (next : (i : ℕ) → (unwrap_or (next_to_name p.nodes i) nowhere).id < N) → (n : ℕ) (e : Name) (b : CType) (q : Part) → e.node < N → AllProper N q.faults → JudgedIn N (initialized_object p js n e b q)
    unfolding initialized_object
    object_in next n e b q le h =
        let t = completed b (given_count p js (node_at p.nodes n) (kind_at p.nodes n)) in
        verdict_in N (q.faults ++ completed_faults p js e b t (unwrap_or (next_to_name p.nodes e.node) nowhere).id) _
        (both_in N q.faults (completed_faults p js e b t (unwrap_or (next_to_name p.nodes e.node) nowhere).id) h (completed_in e b t (unwrap_or (next_to_name p.nodes e.node) nowhere).id (next e.node) le)) tt

    init_in : (next : (i : ℕ) → (unwrap_or (next_to_name p.nodes i) nowhere).id < N) → (t : CType) (e : Name) → e.node < N → JudgedIn N (init_by p js node t e)
    unfolding init_by
    init_in next t e le =
        choice N (has_kid node 1) _ _ (choice N (is_object e.entity) _ _
        (given_in N (part_for p js (is_static e.entity) false t (kid node 1)) (initialized_object p js (kid node 1) e t) (λ q same. object_in next (kid node 1) e t q le (part_in (is_static e.entity) false t (kid node 1) q same)))
        (breaks_in N 24 (kid node 1) refl (kids 1)))
        (means_in N (initialized t (bare_code p e e.entity) []) tt)

    pub initializer_in : (next : (i : ℕ) → (unwrap_or (next_to_name p.nodes i) nowhere).id < N) → JudgedIn N (init_declarator p js node)
    unfolding init_declarator
    initializer_in next =
        given_in N (type_at js (kid node 0)) _ (λ t same. given_in N (name_of p (node_at p.nodes (kid node 0)).first) (init_by p js node t)
        (λ e also. init_in next t e (names (node_at p.nodes (kid node 0)).first e also)))

    pub function_node_in : JudgedIn N (function_node p js node)
    unfolding function_node
    function_node_in =
        given_in N (type_at js (kid node 0)) _ (λ base same. given_in N (type_at js (kid node 1)) _ (λ t also. given_in N (code_at js (kid node 2)) _ (λ body more. means_in N _ tt)))

    pub unit_in_bounds : JudgedIn N (unit_node p node)
    unfolding unit_node
    unit_in_bounds = verdict_in N _ _ (rule_in N _ 22 node.id refl own) tt
