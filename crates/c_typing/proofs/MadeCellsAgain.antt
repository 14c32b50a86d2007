-- The type of an object has the same size at each of its declarations.
use Rattle.std.proofs.Common.{◌≡◌, ◌⊎◌, inl, inr, ℕ, zero, suc, ◌<◌, Bool, true, false, ◌&&◌, ◌||◌, not, List, [], length, Option, Some, None, refl, sym, ap, ◌∙◌, subst, arith, true≢false}
use Rattle.std.specs.Prelude.{slice_get, take, if◌then◌else◌, option_and_then, nat_lt}
use Rattle.std.specs.Option.{is_some}
use Rattle.std.specs.List.{last_or}
use Rattle.c_lexer.specs.declared.token.Token.{Token}
use Rattle.c_syntax.specs.declared.kind.SynKind.TheVariants as kind
use Rattle.c_syntax.specs.Trees.{Tree}
use Rattle.c_grammar.specs.Derivation.{IsTreeOf}
use Rattle.c_types.specs.declared.kind.Measure.{Measure}
use Rattle.c_typing.specs.Types.{CType, unsized, same, is_unsized, has_size, size_of, measure, Layout}
use Rattle.c_typing.specs.Places.{Node, nodes, node_at, has_kid, is_file_scope}
use Rattle.c_typing.specs.Names.{Entity, function_name, static_object, automatic, Places, places, Name, name_of, is_static, is_typedef, is_again, earlier}
use Rattle.c_typing.specs.Judgements.{Judgement, type_of, type_at, layouts}
use Rattle.c_typing.specs.Rules.{are_functions, agree, agree_with, may_be_again, is_refused, declared_twice, broken_if, absent_length, size_fault}
use Rattle.c_typing.specs.Declarators.{type_before}
use Rattle.c_typing.specs.Expressions.{type_of_name}
use Rattle.c_typing.specs.Initializers.{is_object, completed_faults}
use Rattle.c_typing.specs.ShapesOfNodes.{category_at}
use Rattle.c_typing.specs.Typing.{judgements_at, faults}
use Rattle.c_typing.proofs.ProgressBase.{earlier_at, some_same}
use Rattle.c_typing.proofs.ProgressAll.{found_at, fronts_empty}
use Rattle.c_typing.proofs.ProgressDeclared.{Stands, IsDeclaredName}
use Rattle.c_typing.proofs.ProgressNumbers.{InList, in_filter, from_filter, last_in, split_two}
use Rattle.c_typing.proofs.ProgressObjects.{no_functions, stand, named}
use Rattle.c_typing.proofs.ProgressCompleted.{Completes, completed_other}
use Rattle.c_typing.proofs.ProgressTyped.{Declared, declared}
use Rattle.c_typing.proofs.ProgressSized.{sized}
use Rattle.c_typing.proofs.MadeNodes.{In, in_at, kid_within}
use Rattle.c_typing.proofs.MadeParts.{least_kids}
use Rattle.c_typing.proofs.MadePlaced.{numbered, kid_in}
use Rattle.c_typing.proofs.MadeAround.{and_true}
use Rattle.c_typing.proofs.MadeObjects.{again_back, again_through}
use Rattle.c_typing.proofs.MadeInitials.{ends_before}
use Rattle.c_typing.proofs.MadeCellsApart.{once_kept}
use Rattle.c_typing.proofs.MadeCellsSame.{same_measure}

no : {A : Type 0} → false ≡ true → A
no e = absurd (true≢false (sym e))

-- ---- types that agree

agree_same : (t u : CType) → agree t u ≡ true → is_unsized t ≡ false → is_unsized u ≡ false → same t u ≡ true
agree_same (unsized t) u e f g = absurd (true≢false f)
agree_same t (unsized u) e f g = absurd (true≢false g)
agree_same t u e f g = e

no_unsized : (ls : List Layout) (t : CType) → has_size ls t ≡ true → is_unsized t ≡ false
no_unsized ls (unsized t) e = no e
no_unsized ls _ e = refl

-- what is asked of an array that its initializer completes
completed_twice : (p : Places) (js : List Judgement) (e : Name) (t u : CType) (n : ℕ) → is_unsized t ≡ true → completed_faults p js e t u n ≡ [] → declared_twice p e u (type_before p js e) e.node ≡ []
completed_twice p js e (unsized t) u n f none = (fronts_empty (if is_unsized u then absent_length n else size_fault (size_of (layouts js) u) n) (declared_twice p e u (type_before p js e) e.node) none).1
completed_twice p js e _ u n f none = no f

-- what is asked of a name that was declared before
record Repeats (p : Places) (js : List Judgement) (a b : Name) (u : CType) : Type 0 where
  may : may_be_again p a b ≡ true
  agrees : agree_with u (type_of_name js b) ≡ true

both_kept : (x y : Bool) (n : ℕ) → broken_if (not (x && y)) 3 n ≡ [] → (x ≡ true) × (y ≡ true)
both_kept true true n e = (refl, refl)
both_kept true false n e = absurd (cc e)
both_kept false y n e = absurd (cc e)

repeats : (p : Places) (js : List Judgement) (a b : Name) (u : CType) → last_or None (earlier p a) ≡ Some b → declared_twice p a u (type_before p js a) a.node ≡ [] → Repeats p js a b u
repeats p js a b u last once =
    let kept = both_kept (may_be_again p a b) (agree_with u (type_of_name js b)) a.node (subst (λ o. broken_if (is_refused p a u (option_and_then (type_of_name js) o) o) 3 a.node ≡ []) last once) in
    record { may = kept.0; agrees = kept.1 }

-- an object of the unit that is declared again was one before, and is one
both_static : (p : Places) (a b : Name) → is_object a.entity ≡ true → may_be_again p a b ≡ true → (is_static a.entity ≡ true) × (is_static b.entity ≡ true)
both_static p a b object may = by (are_functions b.entity a.entity) (is_static b.entity) (is_static a.entity) (is_file_scope p.nodes a.scope) _ (none b.entity a.entity object) may
  where
    none : (x y : Entity) → is_object y ≡ true → are_functions x y ≡ false
    none x static_object e = no_functions x
    none function_name automatic e = refl
    none _ automatic e = refl
    none x _ e = no e

    by : (f s u w c : Bool) → f ≡ false → ((f || (s && u && w)) && c) ≡ true → (u ≡ true) × (s ≡ true)
    by true s u w c e g = absurd (true≢false e)
    by false true true w c e g = (refl, refl)
    by false true false w c e g = no g
    by false false u w c e g = no g

lt_from : (a b : ℕ) → nat_lt a b ≡ true → a < b
lt_from a b e = grind arith

low_is : (a b : ℕ) → a < b → nat_lt a b ≡ true
low_is a b lt = grind arith

three : (m n : ℕ) → (m < n) ⊎ ((n < m) ⊎ (m ≡ n))
three m n = grind arith

module _ (tokens : List Token) (t : Tree) (derived : IsTreeOf tokens t) (quiet : faults t ≡ []) where
  -- a name that is declared with an initializer or without one
  pub record Given (e : Name) : Type 0 where
    pub listed : InList (places t).names e
    pub stands : IsDeclaredName (category_at t) (nodes t) e
    pub init : (node_at (nodes t) e.owner).label.kind ≡ kind.InitDecl
    pub declared : Declared tokens t derived quiet e

  pub given_by : (e : Name) → InList (places t).names e → IsDeclaredName (category_at t) (nodes t) e → (node_at (nodes t) e.owner).label.kind ≡ kind.InitDecl → Given e
  given_by e m de init = record { listed = m; stands = de; init = init; declared = declared tokens t derived quiet e m de init }

  pub given_static : (e : Name) → InList (places t).names e → is_static e.entity ≡ true → Given e
  given_static e m static = by (stand tokens t derived quiet e m)
    where
      first : (a b : Bool) → a ≡ true → (a || b) ≡ true
      first true b h = refl
      first false b h = no h

      by : Stands (category_at t) (nodes t) e → Given e
      by (inl en) = no (ap is_static (sym en.entity) ∙ static)
      by (inr de) = given_by e m de (de.init_owner (first (is_static e.entity) (is_typedef e.entity) static))

  pub whole_type : (e : Name) (g : Given e) → type_of_name (judgements_at (places t)) e ≡ Some g.declared.whole
  whole_type e g = ap (λ o. if is_some o then o else type_at (judgements_at (places t)) e.behind) (ap type_of g.declared.means_whole)

  -- the type of a static object has its length
  whole_sized : (e : Name) (g : Given e) → is_static e.entity ≡ true → is_unsized g.declared.whole ≡ false
  whole_sized e g static =
      let s = sized tokens t derived quiet e g.listed static in
      let equal : s.type ≡ g.declared.whole = some_same (sym s.typed ∙ whole_type e g) in
      ap is_unsized (sym equal) ∙ no_unsized (layouts (judgements_at (places t))) s.type s.has

  is_init : (e : Name) (q : Given e) → q.declared.owner.label.kind ≡ kind.InitDecl
  is_init e q = ap (λ (x : Node). x.label.kind) (sym (found_at (nodes t) e.owner q.declared.owner q.declared.at)) ∙ q.init

  kid_there : (e : Name) (q : Given e) → In e.behind q.declared.owner.kids
  kid_there e q = subst (λ k. In k q.declared.owner.kids) q.declared.first (kid_in tokens t derived e.owner q.declared.owner 0 q.declared.at (subst (λ k. 0 < least_kids k) (sym (is_init e q)) (omega arith)))

  owner_behind : (e : Name) (q : Given e) → e.behind < e.owner
  owner_behind e q =
      let number = numbered tokens t derived e.owner q.declared.owner q.declared.at in
      let less = (kid_within t q.declared.owner e.behind (in_at q.declared.owner (nodes t) e.owner q.declared.at) (kid_there e q)).1 in
      omega (arith, number, less)

  -- a declaration ends before the name is declared again
  owner_before : (a b : Name) → Given a → Given b → b.behind < a.behind → b.owner < a.behind
  owner_before a b g h lt =
      let number = numbered tokens t derived b.owner h.declared.owner h.declared.at in
      let ends = ends_before tokens t derived b.behind a.behind h.declared.owner g.declared.owner (in_at h.declared.owner (nodes t) b.owner h.declared.at) (in_at g.declared.owner (nodes t) a.owner g.declared.at)
      (is_init b h) (is_init a g) h.declared.first g.declared.first (kid_there b h) (kid_there a g) lt in
      omega (arith, number, ends)

  type_early : (b : Name) (h : Given b) (n : ℕ) → b.owner < n → type_of_name (take n (judgements_at (places t))) b ≡ Some h.declared.whole
  type_early b h n lt = ap (λ o. if is_some o then o else type_at (take n (judgements_at (places t))) b.behind) (ap type_of (earlier_at (judgements_at (places t)) n b.owner lt) ∙ ap type_of h.declared.means_whole)

  repeats_at : (a b : Name) (g : Given a) → last_or None (earlier (places t) a) ≡ Some b → Repeats (places t) (take a.behind (judgements_at (places t))) a b g.declared.type
  repeats_at a b g last = repeats (places t) (take a.behind (judgements_at (places t))) a b g.declared.type last (once_kept tokens t derived quiet a g.listed g.stands g.init g.declared)

  -- it has the type that it had before
  same_before : (a b : Name) (g : Given a) (h : Given b) → is_static a.entity ≡ true → is_static b.entity ≡ true → last_or None (earlier (places t) a) ≡ Some b → b.behind < a.behind → same g.declared.whole h.declared.whole ≡ true
  same_before a b g h first second last lt = by (is_unsized g.declared.type) refl g.declared.how
    where
      early : b.owner < a.behind
      early = owner_before a b g h lt

      later : a.behind < a.owner
      later = owner_behind a g

      compared : (u : CType) (n : ℕ) → b.owner < n → Repeats (places t) (take n (judgements_at (places t))) a b u → is_unsized u ≡ false → same u h.declared.whole ≡ true
      compared u n lt r length =
          let before : agree u h.declared.whole ≡ true = subst (λ o. agree_with u o ≡ true) (type_early b h n lt) r.agrees in
          agree_same u h.declared.whole before length (whole_sized b h second)

      by : (c : Bool) → is_unsized g.declared.type ≡ c → ((has_kid g.declared.owner 1 ≡ false) × (g.declared.whole ≡ g.declared.type)) ⊎ ((is_object a.entity ≡ true) × Completes (places t) (take a.owner (judgements_at (places t))) a g.declared.type g.declared.whole)
          → same g.declared.whole h.declared.whole ≡ true
      by false length (inl x) = ap (λ u. same u h.declared.whole) x.1 ∙ compared g.declared.type a.behind early (repeats_at a b g last) length
      by false length (inr x) = ap (λ u. same u h.declared.whole) (x.1.is ∙ completed_other g.declared.type x.1.count length) ∙ compared g.declared.type a.behind early (repeats_at a b g last) length
      by true length (inl x) = absurd (true≢false (sym length ∙ (ap is_unsized (sym x.1) ∙ whole_sized a g first)))
      by true length (inr x) =
          compared g.declared.whole a.owner (omega (arith, early, later))
          (repeats (places t) (take a.owner (judgements_at (places t))) a b g.declared.whole last (completed_twice (places t) (take a.owner (judgements_at (places t))) a g.declared.type g.declared.whole x.1.node length x.1.fine))
          (whole_sized a g first)

  -- the first declarations of one object are one
  first_same : (a e : Name) → Given a → Given e → is_again a e ≡ true → earlier (places t) a ≡ [] → earlier (places t) e ≡ [] → a ≡ e
  first_same a e g h again none_a none_e = by (three a.behind e.behind)
    where
      never : (x y : Name) → Given x → is_again x y ≡ true → x.behind < y.behind → earlier (places t) y ≡ [] → ⊥
      never x y q again lt none =
          let m = in_filter (λ (z : Name). is_again z y && nat_lt z.behind y.behind) (places t).names x q.listed (and_true (is_again x y) (nat_lt x.behind y.behind) again (low_is x.behind y.behind lt)) in
          empty (subst (λ xs. InList xs x) none m)
        where
          empty : InList [] x → ⊥
          empty m = cc m.at

      by : (a.behind < e.behind) ⊎ ((e.behind < a.behind) ⊎ (a.behind ≡ e.behind)) → a ≡ e
      by (inl lt) = absurd (never a e g again lt none_e)
      by (inr (inl lt)) = absurd (never e a h (again_back a e again) lt none_a)
      by (inr (inr same)) =
          let whole : g.stands.whole.node ≡ h.stands.whole.node = some_same (sym g.stands.whole.at ∙ (ap (λ n. slice_get (nodes t) n) same ∙ h.stands.whole.at)) in
          let node : a.node ≡ e.node = sym g.stands.first ∙ (ap (λ (m : Node). m.first) whole ∙ h.stands.first) in
          some_same (sym (named tokens t derived quiet a g.listed) ∙ (ap (λ n. name_of (places t) n) node ∙ named tokens t derived quiet e h.listed))

  -- the declaration before one
  record Before (a : Name) : Type 0 where
    name : Name
    last : last_or None (earlier (places t) a) ≡ Some name
    listed : InList (places t).names name
    again : is_again name a ≡ true
    less : name.behind < a.behind

  before : (a : Name) → (earlier (places t) a ≡ []) ⊎ Before a
  before a = by (last_in (earlier (places t) a))
    where
      by : (earlier (places t) a ≡ []) ⊎ ((b : Name) × (last_or None (earlier (places t) a) ≡ Some b) × InList (earlier (places t) a) b) → (earlier (places t) a ≡ []) ⊎ Before a
      by (inl none) = inl none
      by (inr r) =
          let f = from_filter (λ (x : Name). is_again x a && nat_lt x.behind a.behind) (places t).names r.0 r.2 in
          let tests = split_two (is_again r.0 a) (nat_lt r.0.behind a.behind) f.1 in
          inr (record { name = r.0; last = r.1; listed = f.0; again = tests.0; less = lt_from r.0.behind a.behind tests.1 })

  before_static : (a : Name) → Given a → is_object a.entity ≡ true → (b : Before a) → (is_static a.entity ≡ true) × (is_static b.name.entity ≡ true)
  before_static a g object b = both_static (places t) a b.name object (repeats_at a b.name g b.last).may

  static_object_is : (x : Entity) → is_static x ≡ true → is_object x ≡ true
  static_object_is static_object e = refl
  static_object_is _ e = no e

  -- an object that is declared again of a static one is static
  pub static_too : (a e : Name) → Given a → Given e → is_object a.entity ≡ true → is_static e.entity ≡ true → is_again a e ≡ true → earlier (places t) e ≡ [] → is_static a.entity ≡ true
  static_too a e g h object static again alone = by (before a)
    where
      by : (earlier (places t) a ≡ []) ⊎ Before a → is_static a.entity ≡ true
      by (inl none) = ap (λ (x : Name). is_static x.entity) (first_same a e g h again none alone) ∙ static
      by (inr b) = (before_static a g object b).0

  -- its type has the size of the first declaration's
  pub measured_first : (k : ℕ) (a e : Name) → a.behind < k → (g : Given a) (h : Given e) → is_static a.entity ≡ true → is_static e.entity ≡ true → is_again a e ≡ true → earlier (places t) e ≡ []
      → measure (layouts (judgements_at (places t))) g.declared.whole ≡ measure (layouts (judgements_at (places t))) h.declared.whole
  measured_first zero a e lt g h first second again alone = absurd (omega (arith, lt))
  measured_first (suc k) a e lt g h first second again alone = by (before a) (λ b less q static more. measured_first k b e less q h static second more alone)
    where
      by : (earlier (places t) a ≡ []) ⊎ Before a
          → ((b : Name) → b.behind < k → (q : Given b) → is_static b.entity ≡ true → is_again b e ≡ true → measure (layouts (judgements_at (places t))) q.declared.whole ≡ measure (layouts (judgements_at (places t))) h.declared.whole)
          → measure (layouts (judgements_at (places t))) g.declared.whole ≡ measure (layouts (judgements_at (places t))) h.declared.whole
      by (inl none) further = one e h (first_same a e g h again none alone)
        where
          one : (x : Name) (q : Given x) → a ≡ x → measure (layouts (judgements_at (places t))) g.declared.whole ≡ measure (layouts (judgements_at (places t))) q.declared.whole
          one x q equal = ap (λ o. unwrap_measure o) (sym (whole_type a g) ∙ (ap (type_of_name (judgements_at (places t))) equal ∙ whole_type x q))
            where
              unwrap_measure : Option CType → Option Measure
              unwrap_measure None = None
              unwrap_measure (Some u) = measure (layouts (judgements_at (places t))) u
      by (inr b) further =
          let static = (before_static a g (static_object_is a.entity first) b).1 in
          let q = given_static b.name b.listed static in
          let less = b.less in
          same_measure (layouts (judgements_at (places t))) g.declared.whole q.declared.whole (same_before a b.name g q first static b.last b.less)
          ∙ further b.name (omega (arith, less, lt)) q static (again_through b.name a e b.again again)
