-- The chains of all texts, from node to node.
use Rattle.std.proofs.Common.{◌≡◌, ◌≢◌, ◌⊎◌, inl, inr, ℕ, zero, suc, ◌+◌, ◌<◌, true, false, ◌&&◌, List, [], ◌∷◌, ◌++◌, length, Option, Some, None, refl, sym, ap, ◌∙◌, subst, arith, get_or}
use Rattle.std.specs.Prelude.{Vec, slice_set, nat_lt, nat_eq, filter}
use Rattle.std.specs.Str.{bytes_eq}
use Rattle.std.specs.List.{AllByRecursion}
use Rattle.std.specs.declared.alloc.Global.{Global}
use Rattle.std.proofs.lemmas.List.{get_or-set_same, get_or-set_other, get_or-map, length-map}
use Rattle.std.proofs.lemmas.Bool.Decides.{eqb_tells}
use Rattle.std.proofs.lemmas.Slice.Eq.{bytes_eq-Decides}
use Rattle.c_syntax.specs.declared.syntax.SynNode.{SynNode}
use Rattle.c_typing.specs.Places.{Scope, kind_at, text_at, in_scope, scopes_of}
use Rattle.c_typing.specs.Names.{Name, names_at, denoted}
use Rattle.c_typing.proofs.MadeAround.{both_true, and_true}
use Rattle.c_nodes.specs.Parents.{tree_in, nodes_in}
use Rattle.c_names.specs.declared.chain.Entry.{Entry}
use Rattle.c_names.specs.Chains.{chains_of, IsVisible}
use Rattle.c_names.specs.Texts.{first_of}
use Rattle.c_names.specs.Denoted.{IsDerived, places_in, Among, Begins, IsStep, nothing, entered, Sees, node_of, is_use}
use Rattle.c_names.proofs.ChainLaws.{Ascend, innermost_is, none_inside, passed, passes, filter_ascend}
use Rattle.c_names.proofs.StandLaws as stand
use Rattle.c_names.proofs.StandLaws.{EndApart, Stands, Seen, stands_same, stands_more, seen_from}
use Rattle.c_names.proofs.DeclaredLaws as declared
use Rattle.c_names.proofs.EndLaws.{ends_apart}
use Rattle.c_names.proofs.TableLaws.{one_text_in, first_within_in}

-- the name has the text of this number
abbrev pub Has : List SynNode → ℕ → Name → Type 0
Has table text a = first_of (nodes_in table) a.text ≡ Some text

abbrev pub StandAll : List SynNode → ℕ → List (List Entry) → Type 0
StandAll table n chains = (text : ℕ) → text < length table → Stands (places_in table).names (scopes_of (nodes_in table)) (Has table text) n (get_or chains text [])

less_so : (a b : ℕ) → nat_lt a b ≡ true → a < b
less_so a b e = grind arith

so_less : (a b : ℕ) → a < b → nat_lt a b ≡ true
so_less a b h = grind arith

module _ (table : List SynNode) (d : IsDerived table) where
  apart : EndApart (scopes_of (nodes_in table))
  unfolding nodes_in
  apart = ends_apart d.tokens (tree_in table) d.derived

  pub ascend : Ascend (places_in table).names
  unfolding places_in
  ascend = declared.ascend d.tokens (tree_in table) d.derived

  text_of : (a : Name) → Among a (places_in table).names → a.text ≡ text_at (nodes_in table) a.node
  unfolding places_in nodes_in
  text_of a i = (declared.labelled d.tokens (tree_in table) d.derived a i).text

  -- ---- one node more

  -- the name that begins has the text of this number
  begun_has : (n node text : ℕ) (b : Begins table n node) → first_of (nodes_in table) (text_at (nodes_in table) node) ≡ Some text → Has table text b.name
  begun_has n node text b is = ap (first_of (nodes_in table)) (text_of b.name b.among ∙ ap (text_at (nodes_in table)) b.at) ∙ is

  pub step : (n : ℕ) (old new : List (List Entry)) → length old ≡ length table → IsStep table n old new → StandAll table n old → StandAll table (n + 1) new
  step n old new long (nothing same none) s text within =
      stands_same (places_in table).names (scopes_of (nodes_in table)) (Has table text) n (get_or new text [])
      (λ e i has at. none e i at)
      (subst (λ cs. Stands (places_in table).names (scopes_of (nodes_in table)) (Has table text) n (get_or cs text [])) (sym same) (s text within))
  step n old new long (entered entry number chain begins scope known is put changed) s text within = by (eqb_tells text number)
    where
      names : List Name
      names = (places_in table).names

      scopes : List Scope
      scopes = scopes_of (nodes_in table)

      has : Has table number begins.name
      has = begun_has n entry.node number begins is

      same_number : (a b : ℕ) → Some a ≡ Some b → a ≡ b
      same_number a b e = cc e

      by : ((nat_eq text number ≡ true) × (text ≡ number)) ⊎ ((nat_eq text number ≡ false) × (text ≢ number)) → Stands names scopes (Has table text) (n + 1) (get_or new text [])
      by (inl (e, same)) =
          subst (λ k. Stands names scopes (Has table k) (n + 1) (get_or new k [])) (sym same)
          (subst (Stands names scopes (Has table number) (n + 1)) (sym (ap (λ cs. get_or cs number []) changed ∙ get_or-set_same old number chain [] (subst (λ k. number < k) (sym long) (subst (λ k. k < length table) same within))))
          (stands_more names scopes (Has table number) apart n entry begins.name begins.among has begins.at (begins.scope ∙ scope) known begins.behind begins.alone (get_or old number []) chain put
          (s number (subst (λ k. k < length table) same within))))
      by (inr (e, other)) =
          subst (Stands names scopes (Has table text) (n + 1)) (sym (ap (λ cs. get_or cs text []) changed ∙ get_or-set_other old number text chain [] other))
          (stands_same names scopes (Has table text) n (get_or old text [])
          (λ a i has_text at. absurd (other (same_number text number (sym has_text ∙ (ap (λ (b : Name). first_of (nodes_in table) b.text) (begins.alone a i at) ∙ has)))))
          (s text within))

  -- ---- what a use denotes

  module _ (n number : ℕ) (is : first_of (nodes_in table) (text_at (nodes_in table) n) ≡ Some number) where
    abbrev text : List ℕ
    text = text_at (nodes_in table) n

    split : (a : Name) → names_at n text a ≡ true → (bytes_eq a.text text ≡ true) × (nat_lt a.behind n ≡ true) × (in_scope a.scope n ≡ true)
    split a e =
        let p = both_true (bytes_eq a.text text && nat_lt a.behind n) (in_scope a.scope n) e in
        let q = both_true (bytes_eq a.text text) (nat_lt a.behind n) p.0 in
        (q.0, q.1, p.1)

    has_text : (a : Name) → bytes_eq a.text text ≡ true → Has table number a
    has_text a e = ap (first_of (nodes_in table)) ((bytes_eq-Decides a.text text).0 e) ∙ is

    from_seen : (found : Option ℕ) → Seen (places_in table).names (scopes_of (nodes_in table)) (Has table number) n found → found ≡ node_of (denoted (places_in table).names n text)
    from_seen found (stand.nothing absent none) =
        absent ∙ sym (ap node_of (none_inside (filter (names_at n text) (places_in table).names) (λ b i.
        let p = passed (names_at n text) (places_in table).names b i in
        let t = split b p.1 in
        none b p.0 (has_text b t.0) (less_so b.behind n t.1) t.2)))
    from_seen found (stand.best a given among has behind inside first) =
        given ∙ sym (ap node_of (innermost_is a None (filter (names_at n text) (places_in table).names) (filter_ascend (names_at n text) (places_in table).names ascend)
        (passes (names_at n text) (places_in table).names a among
        (and_true (bytes_eq a.text text && nat_lt a.behind n) (in_scope a.scope n) (and_true (bytes_eq a.text text) (nat_lt a.behind n) ((bytes_eq-Decides a.text text).1 (one_text_in table d a.text text number has is)) (so_less a.behind n behind)) inside))
        (λ b i.
        let p = passed (names_at n text) (places_in table).names b i in
        let t = split b p.1 in
        first b p.0 (has_text b t.0) (less_so b.behind n t.1) t.2)
        (λ b e. absurd (cc e))))

    pub denoted_is : (chains : List (List Entry)) (found : Option ℕ) → number < length table → StandAll table n chains → IsVisible n (get_or chains number []) found → found ≡ node_of (denoted (places_in table).names n (text_at (nodes_in table) n))
    denoted_is chains found within s visible = from_seen found (seen_from (places_in table).names (scopes_of (nodes_in table)) (Has table number) n (get_or chains number []) found (s number within) visible)

-- what the chains say of a use
pub sees : (table : List SynNode) (d : IsDerived table) (n : ℕ) (chains : List (List Entry)) (found : Option ℕ) → Sees table n chains found → length (nodes_in table) ≡ length table → StandAll table n chains
    → is_use (kind_at (nodes_in table) n) ≡ true → found ≡ node_of (denoted (places_in table).names n (text_at (nodes_in table) n))
sees table d n chains found says long stand is_one =
    let s = says is_one in
    denoted_is table d n s.0 s.1 chains found (first_within_in table d long (text_at (nodes_in table) n) s.0 s.1) stand s.2

-- ---- chains in vectors

pub chain_at : (chains : List (Vec Entry Global)) (text : ℕ) (d : Vec Entry Global) → text < length chains → get_or (chains_of chains) text [] ≡ (get_or chains text d).items
chain_at chains text d within = get_or-map (λ (chain : Vec Entry Global). chain.items) chains text d [] within

pub with_chain : (chains : List (Vec Entry Global)) (text : ℕ) (chain : Vec Entry Global) → chains_of (slice_set chains text chain) ≡ slice_set (chains_of chains) text chain.items
with_chain [] text chain = refl
with_chain (x ∷ chains) zero chain = refl
with_chain (x ∷ chains) (suc i) chain = ap (λ rest. x.items ∷ rest) (with_chain chains i chain)

pub length-chains : (chains : List (Vec Entry Global)) → length (chains_of chains) ≡ length chains
length-chains chains = length-map chains (λ chain. chain.items)

abbrev pub AreEmpty : List (Vec Entry Global) → Type 0
AreEmpty chains = AllByRecursion (λ (chain : Vec Entry Global). chain.items ≡ []) chains

pub one_more_empty : (chains : List (Vec Entry Global)) (chain : Vec Entry Global) → AreEmpty chains → chain.items ≡ [] → AreEmpty (chains ++ chain ∷ [])
one_more_empty [] chain h e = (e, tt)
one_more_empty (x ∷ chains) chain h e = (h.0, one_more_empty chains chain h.1 e)

pub empty_at : (chains : List (Vec Entry Global)) → AreEmpty chains → (text : ℕ) → get_or (chains_of chains) text [] ≡ []
empty_at [] h text = refl
empty_at (x ∷ chains) h zero = h.0
empty_at (x ∷ chains) h (suc i) = empty_at chains h.1 i

-- ---- the start

pub none_stands : (table : List SynNode) (chains : List (List Entry)) → ((text : ℕ) → text < length table → get_or chains text [] ≡ []) → StandAll table 0 chains
none_stands table chains empty text within =
    subst (Stands (places_in table).names (scopes_of (nodes_in table)) (Has table text) 0) (sym (empty text within))
    (stand.stands_first (places_in table).names (scopes_of (nodes_in table)) (Has table text))
