-- What the parts of a node mean, where the node has a meaning.
use Rattle.std.proofs.Common.{◌≡◌, inl, inr, ℕ, zero, suc, ◌<◌, ◌≤◌, true, List, [], ◌∷◌, ◌++◌, length, map, Option, Some, None, refl, sym, ap, subst, arith, true≢false, unwrap_or}
use Rattle.std.specs.Prelude.{slice_get, flat_map, option_map, drop}
use Rattle.std.specs.List.{AllByRecursion}
use Rattle.std.specs.Option.{is_some}
use Rattle.c_syntax.specs.declared.kind.SynKind.{SynKind}
use Rattle.c_syntax.specs.declared.kind.SynKind.TheVariants as kind
use Rattle.c_types.specs.declared.tree.Stmt.{Stmt}
use Rattle.c_types.specs.declared.tree.Cell.{Cell}
use Rattle.c_typing.specs.Types.{CType}
use Rattle.c_typing.specs.Places.{Node, kid, has_kid, other_kids}
use Rattle.c_typing.specs.Judgements.{expresses, initialized, performs, Judgement, means, Typing, typing_of, code_of, all_of, before}
use Rattle.c_typing.specs.Statements.{as_one, declarator_code}
use Rattle.c_typing.specs.Shapes as category
use Rattle.c_typing.specs.Shapes.{Category, kids_fit, at_places}
use Rattle.c_typing.specs.ShapesOfNodes.{as_id}
use Rattle.c_typing.proofs.MadeNodes.{In}

-- ---- how many kids a node has at least

abbrev pub least_kids : SynKind → ℕ
least_kids kind.Function = 3
least_kids kind.Declaration = 1
least_kids kind.InitDecl = 1
least_kids kind.Braces = 1
least_kids kind.Pointer = 1
least_kids kind.ArrayOf = 1
least_kids kind.Takes = 1
least_kids kind.ExprStmt = 1
least_kids kind.If = 2
least_kids kind.While = 2
least_kids kind.Do = 2
least_kids kind.For = 4
least_kids kind.Switch = 1
least_kids kind.Case = 1
least_kids kind.Paren = 1
least_kids kind.Unary = 1
least_kids kind.Post = 1
least_kids kind.Binary = 2
least_kids kind.Assign = 2
least_kids kind.Cond = 3
least_kids kind.Comma = 2
least_kids kind.Index = 2
least_kids kind.Call = 1
least_kids kind.Dot = 1
least_kids kind.Arrow = 1
least_kids kind.Cast = 2
least_kids kind.SizeExpr = 1
least_kids k = 0

enough : (k : SynKind) (text : List ℕ) (cs : List Category) → kids_fit k text cs ≡ true → least_kids k ≤ length cs
unfolding kids_fit
enough kind.Function text (category.specifiers ∷ category.declarator ∷ category.block ∷ []) e = omega arith
enough kind.Declaration text (category.specifiers ∷ cs) e = omega arith
enough kind.InitDecl text (category.declarator ∷ cs) e = omega arith
enough kind.Braces text (a ∷ cs) e = omega arith
enough kind.Pointer text (a ∷ []) e = omega arith
enough kind.ArrayOf text (a ∷ cs) e = omega arith
enough kind.Takes text (category.declarator ∷ cs) e = omega arith
enough kind.ExprStmt text (a ∷ []) e = omega arith
enough kind.If text (a ∷ b ∷ []) e = omega arith
enough kind.If text (a ∷ b ∷ c ∷ []) e = omega arith
enough kind.While text (a ∷ b ∷ []) e = omega arith
enough kind.Do text (a ∷ b ∷ []) e = omega arith
enough kind.For text (a ∷ b ∷ c ∷ d ∷ []) e = omega arith
enough kind.Switch text (a ∷ cs) e = omega arith
enough kind.Case text (a ∷ []) e = omega arith
enough kind.Paren text (a ∷ []) e = omega arith
enough kind.Unary text (a ∷ []) e = omega arith
enough kind.Post text (a ∷ []) e = omega arith
enough kind.Binary text (a ∷ b ∷ []) e = omega arith
enough kind.Assign text (a ∷ b ∷ []) e = omega arith
enough kind.Cond text (a ∷ b ∷ c ∷ []) e = omega arith
enough kind.Comma text (a ∷ b ∷ []) e = omega arith
enough kind.Index text (a ∷ b ∷ []) e = omega arith
enough kind.Call text (a ∷ cs) e = omega arith
enough kind.Dot text (a ∷ []) e = omega arith
enough kind.Arrow text (a ∷ []) e = omega arith
enough kind.Cast text (category.type_name ∷ b ∷ []) e = omega arith
enough kind.SizeExpr text (a ∷ []) e = omega arith
enough kind.Function text cs e = absurd (true≢false (sym e))
enough kind.Declaration text cs e = absurd (true≢false (sym e))
enough kind.InitDecl text cs e = absurd (true≢false (sym e))
enough kind.Pointer text cs e = absurd (true≢false (sym e))
enough kind.ArrayOf text cs e = absurd (true≢false (sym e))
enough kind.Takes text cs e = absurd (true≢false (sym e))
enough kind.Braces text cs e = absurd (true≢false (sym e))
enough kind.ExprStmt text cs e = absurd (true≢false (sym e))
enough kind.If text cs e = absurd (true≢false (sym e))
enough kind.While text cs e = absurd (true≢false (sym e))
enough kind.Do text cs e = absurd (true≢false (sym e))
enough kind.For text cs e = absurd (true≢false (sym e))
enough kind.Switch text cs e = absurd (true≢false (sym e))
enough kind.Case text cs e = absurd (true≢false (sym e))
enough kind.Paren text cs e = absurd (true≢false (sym e))
enough kind.Unary text cs e = absurd (true≢false (sym e))
enough kind.Post text cs e = absurd (true≢false (sym e))
enough kind.Binary text cs e = absurd (true≢false (sym e))
enough kind.Assign text cs e = absurd (true≢false (sym e))
enough kind.Cond text cs e = absurd (true≢false (sym e))
enough kind.Comma text cs e = absurd (true≢false (sym e))
enough kind.Index text cs e = absurd (true≢false (sym e))
enough kind.Call text cs e = absurd (true≢false (sym e))
enough kind.Dot text cs e = absurd (true≢false (sym e))
enough kind.Arrow text cs e = absurd (true≢false (sym e))
enough kind.Cast text cs e = absurd (true≢false (sym e))
enough kind.SizeExpr text cs e = absurd (true≢false (sym e))
enough k text cs e = omega arith

long_places : (known : List Category) (ks : List ℕ) → length (at_places known (map as_id ks)) ≡ length ks
long_places known [] = refl
long_places known (k ∷ ks) = ap suc (long_places known ks)

pub kids_enough : (known : List Category) (node : Node) → kids_fit node.label.kind node.label.text (at_places known (map as_id node.kids)) ≡ true → least_kids node.label.kind ≤ length node.kids
kids_enough known node e =
    subst (λ n. least_kids node.label.kind ≤ n) (long_places known node.kids) (enough node.label.kind node.label.text (at_places known (map as_id node.kids)) e)

in_place : (ks : List ℕ) (i : ℕ) → i < length ks → In (unwrap_or (slice_get ks i) 0) ks
in_place [] i lt = absurd (omega (arith, lt))
in_place (k ∷ ks) zero lt = inl refl
in_place (k ∷ ks) (suc i) lt = inr (in_place ks i (omega (arith, lt)))

pub in_kids : (node : Node) (i : ℕ) → i < length node.kids → In (kid node i) node.kids
in_kids node i lt = in_place node.kids i lt

in_some : (ks : List ℕ) (i : ℕ) → is_some (slice_get ks i) ≡ true → In (unwrap_or (slice_get ks i) 0) ks
in_some [] i e = absurd (true≢false (sym e))
in_some (k ∷ ks) zero e = inl refl
in_some (k ∷ ks) (suc i) e = inr (in_some ks i e)

pub in_kids_where : (node : Node) (i : ℕ) → has_kid node i ≡ true → In (kid node i) node.kids
in_kids_where node i e = in_some node.kids i e

behind_first : (ks : List ℕ) (k : ℕ) → In k (drop 1 ks) → In k ks
behind_first [] k h = absurd h
behind_first (x ∷ ks) k h = inr h

pub in_others : (node : Node) (k : ℕ) → In k (other_kids node) → In k node.kids
in_others node k h = behind_first node.kids k h

-- ---- meanings behind what is asked of them

pub typing_meant : (j : Judgement) (x : Typing) → typing_of j ≡ Some x → (h : ℕ) × (j ≡ means (expresses x h))
typing_meant (means (expresses y h)) x e = (h, let same : y ≡ x = cc e in ap (λ z. means (expresses z h)) same)
typing_meant _ x e = absurd (cc e)

pub code_meant : (j : Judgement) (ss : List Stmt) → code_of j ≡ Some ss → j ≡ means (performs ss)
code_meant (means (performs rs)) ss e = let same : rs ≡ ss = cc e in ap (λ z. means (performs z)) same
code_meant _ ss e = absurd (cc e)

pub statement_meant : (j : Judgement) (s : Stmt) → option_map as_one (code_of j) ≡ Some s → (ss : List Stmt) × (j ≡ means (performs ss)) × (as_one ss ≡ s)
statement_meant (means (performs ss)) s e = (ss, refl, cc e)
statement_meant _ s e = absurd (cc e)

pub initialized_meant : (j : Judgement) (ss : List Stmt) → declarator_code j ≡ Some ss → (t : CType) × (cs : List Cell) × (j ≡ means (initialized t ss cs))
initialized_meant (means (initialized t rs cs)) ss e = (t, cs, let same : rs ≡ ss = cc e in ap (λ z. means (initialized t z cs)) same)
initialized_meant _ ss e = absurd (cc e)

-- ---- several parts

module _ {A B : Type 0} (f : A → Option B) (P : B → Type 0) where
  pub before_split : (b : B) (o : Option (List B)) (bs : List B) → before b o ≡ Some bs → (rest : List B) × (o ≡ Some rest) × (bs ≡ b ∷ rest)
  before_split b None bs e = absurd (cc e)
  before_split b (Some rest) bs e = (rest, refl, cc e)

  pub all_parts : (ks : List A) (bs : List B) → ((k : A) (b : B) → In k ks → f k ≡ Some b → P b) → all_of (map f ks) ≡ Some bs → AllByRecursion P bs
  all_parts [] bs each e = let none : [] ≡ bs = cc e in subst (λ xs. AllByRecursion P xs) none tt
  all_parts (k ∷ ks) bs each e = by (f k) refl e (λ rest h. all_parts ks rest (λ i b h2 g. each i b (inr h2) g) h)
    where
      by : (o : Option B) → f k ≡ o → all_of (o ∷ map f ks) ≡ Some bs → ((rest : List B) → all_of (map f ks) ≡ Some rest → AllByRecursion P rest) → AllByRecursion P bs
      by None g e2 more = absurd (cc e2)
      by (Some b) g e2 more =
          let split = before_split b (all_of (map f ks)) bs e2 in
          subst (λ xs. AllByRecursion P xs) (sym split.2) (each k b (inl refl) g, more split.0 split.1)

pub all_joined : {A : Type 0} (P : A → Type 0) (parts : List (List A)) → AllByRecursion (λ part. AllByRecursion P part) parts → AllByRecursion P (flat_map (λ part. part) parts)
all_joined {A} P [] h = tt
all_joined {A} P (part ∷ parts) h = both part h.0 (all_joined P parts h.1)
  where
    both : (xs : List A) → AllByRecursion P xs → AllByRecursion P (flat_map (λ q. q) parts) → AllByRecursion P (xs ++ flat_map (λ q. q) parts)
    both [] a b = b
    both (x ∷ xs) a b = (a.0, both xs a.1 b)
