-- The names that are found so far, from node to node.
use Rattle.std.proofs.Common.{◌≡◌, ◌≢◌, ◌⊎◌, inl, inr, ℕ, ◌+◌, ◌<◌, ◌≤◌, true, false, ◌&&◌, List, length, replicate, Option, Some, None, refl, sym, ap, ◌∙◌, subst, arith, true≢false, get_or}
use Rattle.std.specs.Prelude.{slice_set, option_map, nat_lt, nat_eq, if◌then◌else◌, ◌==◌}
use Rattle.std.proofs.lemmas.List.{get_or-set_same, get_or-set_other, get_or-replicate, length-replicate, length-set}
use Rattle.std.proofs.lemmas.Bool.Decides.{eqb_tells}
use Rattle.c_syntax.specs.declared.kind.SynKind.{SynKind}
use Rattle.c_syntax.specs.declared.kind.SynKind.TheVariants as kind
use Rattle.c_syntax.specs.declared.syntax.SynNode.{SynNode}
use Rattle.c_typing.specs.Places.{Node, nodes, node_at, kind_at, text_at, is_word, is_declarator, specs_by, specs_of, scopes_of, scope_at}
use Rattle.c_typing.specs.Names as rules
use Rattle.c_typing.specs.Names.{Name, Entity, enumerator, places, denoted, name_of, entity_by, declares_function, says_function, is_typedef}
use Rattle.c_typing.proofs.MadePlaced.{numbered}
use Rattle.c_typing.proofs.MadeAround.{find_is, equal_so}
use Rattle.c_typing.proofs.MadeNames.{Named, Declares, by_declarator, by_enumerator}
use Rattle.c_typing.proofs.MadeFunctionNames.{names_here}
use Rattle.c_nodes.specs.Parents.{tree_in, nodes_in}
use Rattle.c_nodes.specs.Declarators.{Points, whole_of, whole_number}
use Rattle.c_nodes.specs.Scopes.{scope_of}
use Rattle.c_nodes.proofs.DeclaratorLaws.{points_whole}
use Rattle.c_nodes.proofs.ScopeLaws.{there_by_kind}
use Rattle.c_names.specs.declared.names.DeclaredName.{DeclaredName}
use Rattle.c_names.specs.Denoted.{IsDerived, places_in, Among, Begins, IsBegun, is_enumerator, is_identifier, declares, AreDenoted, node_of, is_use}
use Rattle.c_names.specs.Names.{AreNames, AreBegun, begun_at, entity_of, rule_name, names_function_type, is_function_type}
use Rattle.c_names.proofs.DeclaredLaws as declared
use Rattle.c_names.proofs.DeclaredLaws.{to_in, from_in, Enumerates, Whole}
use Rattle.c_names.proofs.NameLaws.{Declared, declared_at, behind_low, denoted_in}

less_so : (a b : ℕ) → nat_lt a b ≡ true → a < b
less_so a b e = grind arith

so_less : (a b : ℕ) → a < b → nat_lt a b ≡ true
so_less a b h = grind arith

next_less : (a n : ℕ) → (a ≡ n → ⊥) → nat_lt a (n + 1) ≡ nat_lt a n
next_less a n h = grind arith

own_next : (n : ℕ) → nat_lt n (n + 1) ≡ true
own_next n = grind arith

pub some_same : {A : Type 0} {x y : A} → Some x ≡ Some y → x ≡ y
some_same e = cc e

module _ (table : List SynNode) (d : IsDerived table) where
  -- ---- names by their nodes

  record Found (i : ℕ) (e : Name) : Type 0 where
    among : Among e (places_in table).names
    at : e.node ≡ i

  found_of : (i : ℕ) (e : Name) → name_of (places_in table) i ≡ Some e → Found i e
  found_of i e h =
      let f = find_is (λ (a : Name). a.node == i) (places_in table).names e h in
      record { among = from_in e (places_in table).names f.0; at = equal_so e.node i f.1 }

  name_is : (e : Name) → Among e (places_in table).names → name_of (places_in table) e.node ≡ Some e
  unfolding places_in
  name_is e i = declared.name_at d.tokens (tree_in table) d.derived e i

  within_table : (e : Name) → Among e (places_in table).names → length (nodes_in table) ≡ length table → e.behind < length table
  unfolding places_in nodes_in
  within_table e i long = subst (λ n. e.behind < n) long (behind_low d.tokens (tree_in table) d.derived e i).within

  node_within : (x : Name) → Among x (places_in table).names → length (nodes_in table) ≡ length table → x.node < length table
  unfolding places_in nodes_in
  node_within x i long =
      let l = behind_low d.tokens (tree_in table) d.derived x i in
      let low = l.low in
      let high = l.within in
      omega (arith, low, high, long)

  -- ---- one node more

  -- nothing begins behind the node n
  pub begun_none : (n : ℕ) → IsBegun table n None → (i : ℕ) → begun_at (n + 1) (name_of (places_in table) i) ≡ begun_at n (name_of (places_in table) i)
  begun_none n none i = by (name_of (places_in table) i) refl
    where
      by : (o : Option Name) → name_of (places_in table) i ≡ o → begun_at (n + 1) (name_of (places_in table) i) ≡ begun_at n (name_of (places_in table) i)
      by None e = ap (begun_at (n + 1)) e ∙ sym (ap (begun_at n) e)
      by (Some x) e =
          let f = found_of i x e in
          ap (begun_at (n + 1)) e ∙ (ap (λ b. if b then Some x else None) (next_less x.behind n (λ at. none x f.among at)) ∙ sym (ap (begun_at n) e))

  -- another name begins behind it
  pub begun_other : (n node : ℕ) → Begins table n node → (i : ℕ) → (i ≡ node → ⊥) → begun_at (n + 1) (name_of (places_in table) i) ≡ begun_at n (name_of (places_in table) i)
  begun_other n node b i other = by (name_of (places_in table) i) refl
    where
      by : (o : Option Name) → name_of (places_in table) i ≡ o → begun_at (n + 1) (name_of (places_in table) i) ≡ begun_at n (name_of (places_in table) i)
      by None e = ap (begun_at (n + 1)) e ∙ sym (ap (begun_at n) e)
      by (Some y) e =
          let f = found_of i y e in
          ap (begun_at (n + 1)) e ∙ (ap (λ t. if t then Some y else None) (next_less y.behind n (λ at. other (sym f.at ∙ (ap (λ (z : Name). z.node) (b.alone y f.among at) ∙ b.at)))) ∙ sym (ap (begun_at n) e))

  -- this one does
  pub begun_own : (n node : ℕ) (b : Begins table n node) → begun_at (n + 1) (name_of (places_in table) node) ≡ Some b.name
  begun_own n node b =
      ap (λ k. begun_at (n + 1) (name_of (places_in table) k)) (sym b.at)
      ∙ (ap (begun_at (n + 1)) (name_is b.name b.among) ∙ ap (λ t. if t then Some b.name else None) (ap (λ k. nat_lt k (n + 1)) b.behind ∙ own_next n))

  pub put_none : (n : ℕ) (found : List (Option DeclaredName)) → IsBegun table n None → AreBegun table n found → AreBegun table (n + 1) found
  put_none n found none a = record { derived = a.derived; nodes = a.nodes; long = a.long; are = λ i within. begun_none n none i ∙ a.are i within }

  pub put_some : (n node : ℕ) (found : List (Option DeclaredName)) (b : Begins table n node) (x : DeclaredName) → rule_name (nodes_in table) node x ≡ b.name
      → AreBegun table n found → AreBegun table (n + 1) (slice_set found node (Some x))
  put_some n node found b x is a = record { derived = a.derived; nodes = a.nodes; long = length-set found node (Some x) ∙ a.long; are = λ i within. which i within (eqb_tells i node) }
    where
      which : (i : ℕ) → i < length table → ((nat_eq i node ≡ true) × (i ≡ node)) ⊎ ((nat_eq i node ≡ false) × (i ≢ node))
          → begun_at (n + 1) (name_of (places_in table) i) ≡ option_map (rule_name (nodes_in table) i) (get_or (slice_set found node (Some x)) i None)
      which i within (inl (e, same)) =
          ap (λ k. begun_at (n + 1) (name_of (places_in table) k)) same
          ∙ (begun_own n node b
          ∙ (ap Some (sym is)
          ∙ (sym (ap (option_map (rule_name (nodes_in table) node)) (get_or-set_same found node (Some x) None (subst (λ k. node < k) (sym a.long) b.within)))
          ∙ ap (λ k. option_map (rule_name (nodes_in table) k) (get_or (slice_set found node (Some x)) k None)) (sym same))))
      which i within (inr (e, other)) =
          begun_other n node b i other ∙ (a.are i within ∙ ap (option_map (rule_name (nodes_in table) i)) (sym (get_or-set_other found node i (Some x) None other)))

  -- behind the last node all have begun
  pub begun_all : (n : ℕ) → length (nodes_in table) ≡ length table → length table ≤ n → (i : ℕ) → begun_at n (name_of (places_in table) i) ≡ name_of (places_in table) i
  begun_all n long most i = by (name_of (places_in table) i) refl
    where
      by : (o : Option Name) → name_of (places_in table) i ≡ o → begun_at n (name_of (places_in table) i) ≡ name_of (places_in table) i
      by None e = ap (begun_at n) e ∙ sym e
      by (Some x) e =
          let low = within_table x (found_of i x e).among long in
          ap (begun_at n) e ∙ (ap (λ t. if t then Some x else None) (so_less x.behind n (omega (arith, low, most))) ∙ sym e)

  pub begun_first : (o : Option Name) → begun_at 0 o ≡ None
  begun_first None = refl
  begun_first (Some e) = ap (λ t. if t then Some e else None) (none_less e.behind)
    where
      none_less : (a : ℕ) → nat_lt a 0 ≡ false
      none_less a = grind arith

  pub all_begun : (n : ℕ) (found : List (Option DeclaredName)) → length (nodes_in table) ≡ length table → length table ≤ n → AreBegun table n found → AreNames table found
  all_begun n found long most a = record { long = a.long; are = λ i within. sym (begun_all n long most i) ∙ a.are i within }

  pub none_begun : length (nodes_in table) ≡ length table → AreBegun table 0 (replicate (length table) None)
  none_begun nodes = record { derived = d; nodes = nodes; long = length-replicate (length table) None; are = λ i within. begun_first (name_of (places_in table) i) ∙ ap (option_map (rule_name (nodes_in table) i)) (sym (get_or-replicate (length table) i None None within)) }

  -- the name of a node that declares one
  pub named_here : (n node : ℕ) (names : List (Option DeclaredName)) → AreNames table names → (b : Begins table n node) → (o : Option DeclaredName) → get_or names node None ≡ o → Some b.name ≡ option_map (rule_name (nodes_in table) node) o
  named_here n node names a b o e = sym (ap (λ i. name_of (places_in table) i) (sym b.at) ∙ name_is b.name b.among) ∙ (a.are node b.within ∙ ap (option_map (rule_name (nodes_in table) node)) e)

  -- ---- a word that is a typedef name of a function type

  pub word_names : (n k : ℕ) (found : List (Option DeclaredName)) (uses : List (Option ℕ)) → length (nodes_in table) ≡ length table → k < n → n ≤ length table → is_word (kind_at (nodes_in table) k) ≡ true → AreDenoted table uses → AreBegun table n found
      → names_function_type (get_or uses k None) found ≡ rules.names_function_type (denoted (places_in table).names k (text_at (nodes_in table) k))
  word_names n k found uses long less most word u a =
      by (denoted (places_in table).names k (text_at (nodes_in table) k)) refl ((u.are k (omega (arith, less, most))).0 (use_so (kind_at (nodes_in table) k) word))
    where
      use_so : (q : SynKind) → is_word q ≡ true → is_use q ≡ true
      use_so kind.Word e = refl
      use_so _ e = absurd (true≢false (sym e))

      some_of : (i : ℕ) (e : Name) (o : Option DeclaredName) → Some e ≡ option_map (rule_name (nodes_in table) i) o → is_function_type o ≡ is_typedef e.entity && e.is_function
      some_of i e None h = absurd (cc h)
      some_of i e (Some x) h = let same : e ≡ rule_name (nodes_in table) i x = some_same h in ap (λ (y : Name). is_typedef y.entity && y.is_function) (sym same)

      by : (o : Option Name) → denoted (places_in table).names k (text_at (nodes_in table) k) ≡ o → get_or uses k None ≡ node_of (denoted (places_in table).names k (text_at (nodes_in table) k))
          → names_function_type (get_or uses k None) found ≡ rules.names_function_type (denoted (places_in table).names k (text_at (nodes_in table) k))
      by None e told = ap (λ o. names_function_type o found) (told ∙ ap node_of e) ∙ sym (ap rules.names_function_type e)
      by (Some x) e told =
          let q = denoted_in (places_in table).names k (text_at (nodes_in table) k) x e in
          let behind = q.behind in
          let inside = within_table x q.among long in
          ap (λ o. names_function_type o found) (told ∙ ap node_of e)
          ∙ (some_of x.node x (get_or found x.node None)
          (sym (ap (λ t. if t then Some x else None) (so_less x.behind n (omega (arith, behind, less)))) ∙ (sym (ap (begun_at n) (name_is x q.among)) ∙ a.are x.node (node_within x q.among long)))
          ∙ sym (ap rules.names_function_type e))

  -- ---- the name of a node

  -- names with the same parts
  same_name : (s : List Node) (node : ℕ) (x : DeclaredName) (e : Name) → text_at s node ≡ e.text → node ≡ e.node → x.behind ≡ e.behind → x.owner ≡ e.owner → scope_of x.scope ≡ e.scope → entity_of x.entity ≡ e.entity → x.is_function ≡ e.is_function
      → rule_name s node x ≡ e
  same_name s node x e p0 p1 p2 p3 p4 p5 p6 = λ i. record { text = p0 i; node = p1 i; behind = p2 i; owner = p3 i; scope = p4 i; entity = p5 i; is_function = p6 i }

  pub text_of : (e : Name) → Among e (places_in table).names → e.text ≡ text_at (nodes_in table) e.node
  unfolding places_in nodes_in
  text_of e i = (declared.labelled d.tokens (tree_in table) d.derived e i).text

  module _ (n : ℕ) (within : n < length table) (long : length (nodes_in table) ≡ length table) where
    pub enumerator_is : (first : ℕ) (b : Begins table n first) → is_enumerator (kind_at (nodes_in table) n) ≡ true → (x : DeclaredName) → x.behind ≡ n → x.owner ≡ (node_at (nodes_in table) n).parent
        → scope_of x.scope ≡ scope_at (scopes_of (nodes_in table)) n → entity_of x.entity ≡ enumerator → x.is_function ≡ false → rule_name (nodes_in table) first x ≡ b.name
    unfolding places_in nodes_in
    enumerator_is first b e x behind owner scope entity function = by (declared.begins_so d.tokens (tree_in table) d.derived b.name b.among n b.behind) ((names_here d.tokens (tree_in table) d.derived).each b.name (to_in b.name (places_in table).names b.among))
      where
        no_declarator : (k : SynKind) → is_enumerator k ≡ true → is_declarator k ≡ true → ⊥
        no_declarator kind.Enumer e f = true≢false (sym f)
        no_declarator _ e f = true≢false (sym e)

        no_ident : (k : SynKind) → is_enumerator k ≡ true → k ≡ kind.Ident → ⊥
        no_ident k e f = true≢false (sym e ∙ ap is_enumerator f)

        by : Enumerates d.tokens (tree_in table) d.derived n b.name ⊎ Whole d.tokens (tree_in table) d.derived n b.name → Named (nodes (tree_in table)) b.name → rule_name (nodes_in table) first x ≡ b.name
        by (inr w) q = absurd (no_declarator (kind_at (nodes_in table) n) e w.is)
        by (inl q) m = at m m.how
          where
            first_n : first ≡ n
            first_n = sym b.at ∙ q.1

            at : (m : Named (nodes (tree_in table)) b.name) → Declares (nodes (tree_in table)) m.before m.node b.name → rule_name (nodes_in table) first x ≡ b.name
            at m (by_declarator i bh o f y) =
                absurd (no_ident (kind_at (nodes_in table) n) e (ap (kind_at (nodes_in table)) (sym q.1) ∙ (ap (λ (z : Node). z.label.kind) (declared.here d.tokens (tree_in table) d.derived b.name m) ∙ i)))
            at m (by_enumerator i bh o f y) =
                same_name (nodes_in table) first x b.name (ap (text_at (nodes_in table)) (sym b.at) ∙ sym (text_of b.name b.among)) (sym b.at) (behind ∙ sym b.behind)
                (owner ∙ (ap (λ k. (node_at (nodes_in table) k).parent) (sym q.1) ∙ (ap (λ (z : Node). z.parent) (declared.here d.tokens (tree_in table) d.derived b.name m) ∙ sym o)))
                (scope ∙ (ap (scope_at (scopes_of (nodes_in table))) (sym first_n) ∙ sym b.scope)) (entity ∙ sym y) (function ∙ sym f)

    -- the parts of a name that a declarator declares
    pub record Parts (first : ℕ) (b : Begins table n first) : Type 0 where
      pub there : (node_at (nodes_in table) n).parent < length table
      pub numbered : (node_at (nodes_in table) (node_at (nodes_in table) n).parent).id ≡ (node_at (nodes_in table) n).parent
      pub declares_it : declares (kind_at (nodes_in table) (node_at (nodes_in table) n).parent) ≡ true
      pub owner : b.name.owner ≡ (node_at (nodes_in table) n).parent
      pub low : first ≤ n
      pub specs : specs_by (nodes_in table) (node_at (nodes_in table) (node_at (nodes_in table) n).parent) (kind_at (nodes_in table) (node_at (nodes_in table) n).parent) < first
      pub function : b.name.is_function ≡ declares_function (nodes_in table) (places_in table).names first (specs_of (nodes_in table) (node_at (nodes_in table) (node_at (nodes_in table) n).parent))
      pub entity : entity_by (nodes_in table) (node_at (nodes_in table) (node_at (nodes_in table) n).parent) (specs_of (nodes_in table) (node_at (nodes_in table) (node_at (nodes_in table) n).parent))
          (scope_at (scopes_of (nodes_in table)) first) b.name.is_function (kind_at (nodes_in table) (node_at (nodes_in table) n).parent) ≡ Some b.name.entity

    pub parts : (first : ℕ) (b : Begins table n first) → is_enumerator (kind_at (nodes_in table) n) ≡ false → Parts first b
    unfolding places_in nodes_in
    parts first b e = by (declared.begins_so d.tokens (tree_in table) d.derived b.name b.among n b.behind)
      where
        not_empty : (k : SynKind) → declares k ≡ true → k ≢ kind.Empty
        not_empty k e f = true≢false (sym e ∙ ap declares f)

        by : Enumerates d.tokens (tree_in table) d.derived n b.name ⊎ Whole d.tokens (tree_in table) d.derived n b.name → Parts first b
        by (inl q) = absurd (true≢false (sym (ap is_enumerator q.0) ∙ e))
        by (inr w) = record {
          numbered = numbered d.tokens (tree_in table) d.derived (node_at (nodes_in table) n).parent (node_at (nodes_in table) (node_at (nodes_in table) n).parent) (declared.there d.tokens (tree_in table) d.derived (node_at (nodes_in table) n).parent (there_by_kind (nodes_in table) (node_at (nodes_in table) n).parent (not_empty (kind_at (nodes_in table) (node_at (nodes_in table) n).parent) w.owner)));
          there = subst (λ k. (node_at (nodes_in table) n).parent < k) long (there_by_kind (nodes_in table) (node_at (nodes_in table) n).parent (not_empty (kind_at (nodes_in table) (node_at (nodes_in table) n).parent) w.owner));
          declares_it = w.owner;
          owner = owner;
          low = (let q = (behind_low d.tokens (tree_in table) d.derived b.name b.among).low in let at = b.at in let bh = b.behind in omega (arith, q, at, bh));
          specs = subst (λ o. specs_by (nodes_in table) (node_at (nodes_in table) o) (kind_at (nodes_in table) o) < first) x.owner x.specs;
          function = ap (λ (y : Name). y.is_function) same ∙ (x.function ∙ ap (λ o. declares_function (nodes_in table) (places_in table).names first (specs_of (nodes_in table) (node_at (nodes_in table) o))) x.owner);
          entity = subst (λ (y : Name). entity_by (nodes_in table) (node_at (nodes_in table) (node_at (nodes_in table) n).parent) (specs_of (nodes_in table) (node_at (nodes_in table) (node_at (nodes_in table) n).parent)) (scope_at (scopes_of (nodes_in table)) first) y.is_function (kind_at (nodes_in table) (node_at (nodes_in table) n).parent) ≡ Some y.entity) (sym same)
              (subst (λ o. entity_by (nodes_in table) (node_at (nodes_in table) o) (specs_of (nodes_in table) (node_at (nodes_in table) o)) (scope_at (scopes_of (nodes_in table)) first) x.name.is_function (kind_at (nodes_in table) o) ≡ Some x.name.entity) x.owner x.entity);
        }
          where
            first_is : first ≡ (node_at (nodes_in table) n).first
            first_is = sym b.at ∙ w.first

            points : Points (nodes_in table) (whole_number (nodes_in table) first) (whole_of (nodes_in table) first)
            points = points_whole (nodes_in table) (λ k in_it. numbered d.tokens (tree_in table) d.derived k (node_at (nodes_in table) k) (declared.there d.tokens (tree_in table) d.derived k in_it)) first

            number : whole_number (nodes_in table) first ≡ n
            number = w.number (whole_number (nodes_in table) first) (subst (λ k. Points (nodes_in table) (whole_number (nodes_in table) first) (whole_of (nodes_in table) k)) (sym b.at) points)

            x : Declared d.tokens (tree_in table) d.derived n first
            x = declared_at d.tokens (tree_in table) d.derived n (subst (λ k. n < k) (sym long) within) first first_is (subst (λ k. first < k) (sym long) b.within)
                (subst (λ k. Points (nodes_in table) k (whole_of (nodes_in table) first)) number points) (ap is_identifier (ap (kind_at (nodes_in table)) (sym b.at) ∙ w.ident)) w.owner

            same : b.name ≡ x.name
            same = declared.one_node d.tokens (tree_in table) d.derived b.name x.name b.among x.among (b.at ∙ sym x.at)

            owner : b.name.owner ≡ (node_at (nodes_in table) n).parent
            owner = ap (λ (y : Name). y.owner) same ∙ x.owner

    pub declarator_is : (first : ℕ) (b : Begins table n first) (p : Parts first b) (x : DeclaredName) → x.behind ≡ n → x.owner ≡ (node_at (nodes_in table) n).parent
        → scope_of x.scope ≡ scope_at (scopes_of (nodes_in table)) first
        → x.is_function ≡ declares_function (nodes_in table) (places_in table).names first (specs_of (nodes_in table) (node_at (nodes_in table) (node_at (nodes_in table) n).parent))
        → entity_by (nodes_in table) (node_at (nodes_in table) (node_at (nodes_in table) n).parent) (specs_of (nodes_in table) (node_at (nodes_in table) (node_at (nodes_in table) n).parent))
        (scope_of x.scope) x.is_function (kind_at (nodes_in table) (node_at (nodes_in table) n).parent) ≡ Some (entity_of x.entity)
        → rule_name (nodes_in table) first x ≡ b.name
    declarator_is first b p x behind owner scope function entity =
        let same_function = function ∙ sym p.function in
        same_name (nodes_in table) first x b.name (ap (text_at (nodes_in table)) (sym b.at) ∙ sym (text_of b.name b.among)) (sym b.at) (behind ∙ sym b.behind) (owner ∙ sym p.owner) (scope ∙ sym b.scope)
        (some_same (sym entity ∙ (ap (λ c. entity_by (nodes_in table) o specs c x.is_function k) scope ∙ (ap (λ f. entity_by (nodes_in table) o specs (scope_at (scopes_of (nodes_in table)) first) f k) same_function ∙ p.entity))))
        same_function
      where
        o : Node
        o = node_at (nodes_in table) (node_at (nodes_in table) n).parent

        k : SynKind
        k = kind_at (nodes_in table) (node_at (nodes_in table) n).parent

        specs : Node
        specs = specs_of (nodes_in table) o
