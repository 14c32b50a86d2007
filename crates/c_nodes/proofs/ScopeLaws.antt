-- Scopes from the numbers of declarators.
use Rattle.std.proofs.Common.{◌≡◌, ◌≢◌, ◌⊎◌, inl, inr, ℕ, zero, suc, ◌+◌, ◌<◌, ◌≤◌, true, false, Bool, ◌&&◌, List, [], ◌∷◌, ◌++◌, length, map, drop, append_assoc, refl, sym, ap, ap₂, ◌∙◌, subst, arith, Option, Some, None}
use Rattle.std.specs.Prelude.{unwrap_or, nat_eq, ◌==◌}
use Rattle.std.proofs.lemmas.Bool.{cases_lt, eq-eqb}
use Rattle.std.proofs.lemmas.Bool.Decides.{eqb_tells}
use Rattle.c_syntax.specs.declared.kind.SynKind.{SynKind}
use Rattle.c_syntax.specs.declared.kind.SynKind.TheVariants as kind
use Rattle.c_typing.specs.Places.{Node, node_at, kind_at, kid, nowhere, is_takes, is_function, next_to_name, own_takes, takes_before, parent_of, whole_declarator, is_next_to_name, belongs_to_block, block_scope, scope_by, scopes_from, scopes_of}
use Rattle.c_nodes.specs.declared.spans.Span.{Span}
use Rattle.c_nodes.specs.Parents.{AreNumbered}
use Rattle.c_nodes.specs.Declarators.{Points, whole_of}
use Rattle.c_nodes.specs.Scopes.{NodeAt, scope_of, listed, plain_span, IsInside}
use Rattle.c_nodes.specs.Spans.{AreWithin}

past_end : (s : List Node) (n : ℕ) → length s ≤ n → node_at s n ≡ nowhere
past_end [] n low = refl
past_end (m ∷ s) zero low = absurd (omega (arith, low))
past_end (m ∷ s) (suc n) low = past_end s n (omega (arith, low))

-- a kind that is not that of an absent node is that of a node
pub there_by_kind : (s : List Node) (n : ℕ) → kind_at s n ≢ kind.Empty → n < length s
there_by_kind s n some = by (cases_lt n (length s))
  where
    by : (n < length s) ⊎ (length s ≤ n) → n < length s
    by (inl within) = within
    by (inr past) = absurd (some (ap (λ (m : Node). m.label.kind) (past_end s n past)))

-- ---- the parameters of a function

own_some : (s : List Node) (f m : Node) → next_to_name s (node_at s (kid f 1)).first ≡ Some m → is_takes m.label.kind ≡ true → own_takes s f ≡ Some m
own_some s f m e k = rw e (rw k refl)

own_other : (s : List Node) (f m : Node) → next_to_name s (node_at s (kid f 1)).first ≡ Some m → is_takes m.label.kind ≡ false → own_takes s f ≡ None
own_other s f m e k = rw e (rw k refl)

own_none : (s : List Node) (f : Node) → next_to_name s (node_at s (kid f 1)).first ≡ None → own_takes s f ≡ None
own_none s f e = rw e refl

pub own_found : (s : List Node) (f : Node) (n : ℕ) → Points s n (next_to_name s (node_at s (kid f 1)).first) → kind_at s n ≡ kind.Takes
    → NodeAt s (Some n) (own_takes s f)
own_found s f n h k = by (next_to_name s (node_at s (kid f 1)).first) refl h
  where
    by : (o : Option Node) → next_to_name s (node_at s (kid f 1)).first ≡ o → Points s n o → NodeAt s (Some n) (own_takes s f)
    by None e at = absurd (cc (sym (ap (λ (m : Node). m.label.kind) (past_end s n (omega (arith, at)))) ∙ k))
    by (Some m) e (within, at) = (within, own_some s f m e (ap is_takes (sym (ap (λ (x : Node). x.label.kind) at) ∙ k)) ∙ ap Some (sym at))

pub own_missing : (s : List Node) (f : Node) (n : ℕ) → Points s n (next_to_name s (node_at s (kid f 1)).first) → is_takes (kind_at s n) ≡ false
    → own_takes s f ≡ None
own_missing s f n h k = by (next_to_name s (node_at s (kid f 1)).first) refl h
  where
    by : (o : Option Node) → next_to_name s (node_at s (kid f 1)).first ≡ o → Points s n o → own_takes s f ≡ None
    by None e at = own_none s f e
    by (Some m) e (within, at) = own_other s f m e (ap (λ (x : Node). is_takes x.label.kind) (sym at) ∙ k)

pub not_takes : (k : SynKind) → k ≢ kind.Takes → is_takes k ≡ false
not_takes kind.Takes other = absurd (other refl)
not_takes k other = refl

pub not_function : (k : SynKind) → k ≢ kind.Function → is_function k ≡ false
not_function kind.Function other = absurd (other refl)
not_function k other = refl

-- the block of this number, whose parent has that one
module _ (s : List Node) (n p : ℕ) (numbered : (node_at s n).id ≡ n) (above : p ≡ (node_at s n).parent) where
  outer : parent_of s (node_at s n).id ≡ node_at s p
  outer = ap (parent_of s) numbered ∙ ap (node_at s) (sym above)

  pub before_function : (o : Option ℕ) → kind_at s p ≡ kind.Function → NodeAt s o (own_takes s (node_at s p)) → NodeAt s o (takes_before s (node_at s n))
  before_function o e h = subst (NodeAt s o) (sym (rw outer (rw e refl))) h

  pub before_other : kind_at s p ≢ kind.Function → takes_before s (node_at s n) ≡ None
  before_other e = rw outer (rw (not_function (kind_at s p) e) refl)

-- ---- the scope of parameters

owner_some : (s : List Node) (i : ℕ) (m : Node) → whole_of s i ≡ Some m → whole_declarator s i ≡ m
owner_some s i m e = ap (λ o. unwrap_or o nowhere) e

pub owner_found : (s : List Node) (i n : ℕ) → Points s n (whole_of s i) → n < length s → (whole_declarator s i).parent ≡ (node_at s n).parent
owner_found s i n h within = by (whole_of s i) h refl
  where
    by : (o : Option Node) → Points s n o → whole_of s i ≡ o → (whole_declarator s i).parent ≡ (node_at s n).parent
    by None e q = absurd (omega (arith, e, within))
    by (Some m) (lt, at) q = ap (λ (x : Node). x.parent) (owner_some s i m q ∙ sym at)

pub owner_missing : (s : List Node) (i n : ℕ) → Points s n (whole_of s i) → length s ≤ n → (whole_declarator s i).parent ≡ 0
owner_missing s i n h past = by (whole_of s i) h refl
  where
    by : (o : Option Node) → Points s n o → whole_of s i ≡ o → (whole_declarator s i).parent ≡ 0
    by None e q = ap (λ o. (unwrap_or o nowhere).parent) q
    by (Some m) (lt, at) q = absurd (omega (arith, lt, past))

-- it is next to its name where the part next to that has its number
pub next_is : (s : List Node) (m : Node) (n : ℕ) → Points s n (next_to_name s m.first) → ((k : ℕ) → k < length s → (node_at s k).id ≡ k) → m.id < length s
    → is_next_to_name s m ≡ (n == m.id)
next_is s m n h numbered within = by (next_to_name s m.first) refl h
  where
    by : (o : Option Node) → next_to_name s m.first ≡ o → Points s n o → is_next_to_name s m ≡ (n == m.id)
    by None e at = rw e (sym (other (eqb_tells n m.id)))
      where
        other : ((nat_eq n m.id ≡ true) × (n ≡ m.id)) ⊎ ((nat_eq n m.id ≡ false) × (n ≢ m.id)) → (n == m.id) ≡ false
        other (inl (a, same)) = absurd (omega (arith, at, same, within))
        other (inr (a, b)) = a
    by (Some x) e (lt, at) = rw e (ap (λ k. k == m.id) (sym (ap (λ (y : Node). y.id) at) ∙ numbered n lt))

-- ---- the scope of a block

-- the block of this number, and its first node
module _ (s : List Node) (n first : ℕ) (numbered : AreNumbered s) (within : n < length s) (lowest : first ≡ (node_at s n).first) where
  pub with_parameters : (takes from : ℕ) (o : Option Node) → NodeAt s (Some takes) o → from ≡ kid (node_at s takes) 0
      → scope_of (record { node = takes; from = from + 1; to = takes; more_from = first; more_to = n }) ∷ [] ≡ block_scope (node_at s n) o
  with_parameters takes from o (there, e) h =
      ap₂ (λ (i : ℕ) (j : ℕ). record { owner = takes; from = i; to = takes; block_from = j; block_to = n } ∷ []) (ap (λ k. k + 1) h) lowest
      ∙ ap₂ (λ (t : ℕ) (b : ℕ). record { owner = t; from = kid (node_at s takes) 0 + 1; to = t; block_from = (node_at s n).first; block_to = b } ∷ []) (sym (numbered takes there)) (sym (numbered n within))
      ∙ ap (block_scope (node_at s n)) (sym e)

  pub alone : (o : Option Node) → NodeAt s None o → scope_of (plain_span n first) ∷ [] ≡ block_scope (node_at s n) o
  alone o e =
      ap₂ (λ (k : ℕ) (f : ℕ). record { owner = k; from = f; to = k; block_from = 1; block_to = 0 } ∷ []) (sym (numbered n within)) lowest
      ∙ ap (block_scope (node_at s n)) (sym e)

-- it is one with its block where it is next to the name of a function
pub of_block : (s : List Node) (n part first owner : ℕ) → AreNumbered s → n < length s → first ≡ (node_at s n).first → Points s part (next_to_name s first)
    → owner ≡ (whole_declarator s first).parent → (part == n) && is_function (kind_at s owner) ≡ belongs_to_block s (node_at s n)
of_block s n part first owner numbered within e h o =
    ap₂ (λ p q. p && q)
    (ap (λ k. part == k) (sym (numbered n within)) ∙ sym (next_is s (node_at s n) part (subst (λ f. Points s part (next_to_name s f)) e h) numbered (subst (λ k. k < length s) (sym (numbered n within)) within)))
    (ap (λ k. is_function (kind_at s k)) (o ∙ ap (λ f. (whole_declarator s f).parent) e))

pub same_number : (a b : ℕ) (q : Bool) → a ≡ b → (a == b) && q ≡ q
same_number a b q e = ap (λ p. p && q) (eq-eqb a b e)

pub other_number : (a b : ℕ) (q : Bool) → a ≢ b → (a == b) && q ≡ (a == b)
other_number a b q e = by (eqb_tells a b)
  where
    by : ((nat_eq a b ≡ true) × (a ≡ b)) ⊎ ((nat_eq a b ≡ false) × (a ≢ b)) → (a == b) && q ≡ (a == b)
    by (inl (x, same)) = absurd (e same)
    by (inr (x, y)) = ap (λ p. p && q) x ∙ sym x

-- ---- all of them

-- one more node
pub next_scope : (s : List Node) (n : ℕ) (m : Node) (rest : List Node) (spans : List Span) (found : Option Span) → drop n s ≡ m ∷ rest
    → listed found ≡ scope_by s m m.label.kind → map scope_of spans ++ scopes_from s (drop n s) ≡ scopes_of s
    → (map scope_of spans ++ listed found) ++ scopes_from s rest ≡ scopes_of s
next_scope s n m rest spans found cut e h =
    append_assoc (map scope_of spans) (listed found) (scopes_from s rest)
    ∙ ap (λ own. map scope_of spans ++ (own ++ scopes_from s rest)) e
    ∙ ap (λ ms. map scope_of spans ++ scopes_from s ms) (sym cut) ∙ h

pub one_scope : (spans : List Span) (span : Span) → map scope_of (spans ++ span ∷ []) ≡ map scope_of spans ++ scope_of span ∷ []
one_scope [] span = refl
one_scope (x ∷ spans) span = ap (λ rest. scope_of x ∷ rest) (one_scope spans span)

pub one_within : (count : ℕ) (spans : List Span) (span : Span) → AreWithin count spans → IsInside count span → AreWithin count (spans ++ span ∷ [])
one_within count [] span h own = (own, tt)
one_within count (x ∷ spans) span h own = (h.0, one_within count spans span h.1 own)

pub cut_at : (s : List Node) (n : ℕ) → n < length s → drop n s ≡ node_at s n ∷ drop (n + 1) s
cut_at [] n within = absurd (omega (arith, within))
cut_at (m ∷ s) zero within = refl
cut_at (m ∷ s) (suc n) within = cut_at s n (omega (arith, within)) ∙ ap (λ k. node_at s n ∷ drop k (m ∷ s)) {x = suc (n + 1)} {y = suc n + 1} (omega arith)
