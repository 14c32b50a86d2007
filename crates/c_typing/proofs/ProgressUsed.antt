-- What the unit of a tree is put together from is there: the types of objects, and what names in expressions name.
use Rattle.std.proofs.Common.{◌≡◌, ℕ, zero, suc, Bool, true, false, not, List, [], ◌∷◌, Option, Some, None, refl, sym, subst, true≢false}
use Rattle.std.specs.Prelude.{slice_get, flat_map}
use Rattle.c_syntax.specs.declared.kind.SynKind.TheVariants as kind
use Rattle.c_typing.specs.Places.{Node}
use Rattle.c_typing.specs.Names.{Entity, Name, Places, denoted, is_typedef, typedef_name}
use Rattle.c_typing.specs.Judgements.{Fault, Judgement, faults_in}
use Rattle.c_typing.proofs.ProgressDeclared.{AllNames}
use Rattle.c_typing.specs.Expressions.{variable, variable_by}
use Rattle.c_typing.specs.Rules.{broken_if}
use Rattle.c_typing.specs.Typing.{judged_by}
use Rattle.c_typing.proofs.ProgressAll.{fronts_empty}

no : {A : Type 0} → false ≡ true → A
no e = absurd (true≢false (sym e))

-- where no node has a fault, this one has none
pub node_empty : (f : Node → List Fault) (ns : List Node) (n : ℕ) (m : Node) → flat_map f ns ≡ [] → slice_get ns n ≡ Some m → f m ≡ []
node_empty f [] n m e at = absurd (cc at)
node_empty f (x ∷ ns) zero m e at = same at
  where
    same : Some x ≡ Some m → f m ≡ []
    same h = let equal : x ≡ m = cc h in subst (λ (y : Node). f y ≡ []) equal (fronts_empty (f x) (flat_map f ns) e).0
node_empty f (x ∷ ns) (suc n) m e at = node_empty f ns n m (fronts_empty (f x) (flat_map f ns) e).1 at

pub not_broken : (b : Bool) (r n : ℕ) → broken_if (not b) r n ≡ [] → b ≡ true
not_broken true r n e = refl
not_broken false r n e = absurd (cc e)

pub record Denotes (p : Places) (m : Node) : Type 0 where
  pub name : Name
  pub is : denoted p.names m.id m.label.text ≡ Some name
  pub value : is_typedef name.entity ≡ false

pub denotes : (p : Places) (js : List Judgement) (m : Node) → faults_in (judged_by p js m kind.Var) ≡ [] → Denotes p m
unfolding judged_by variable variable_by
denotes p js m calm = by (denoted p.names m.id m.label.text) refl calm
  where
    entity : (e : Name) (k : Entity) → faults_in (variable_by p js m e k) ≡ [] → is_typedef k ≡ false
    entity e typedef_name h = absurd (cc h)
    entity e _ h = refl

    by : (o : Option Name) → denoted p.names m.id m.label.text ≡ o → faults_in (variable p js m o) ≡ [] → Denotes p m
    by None same h = absurd (cc h)
    by (Some e) same h = record { name = e; is = same; value = entity e e.entity h }

-- ---- objects

pub at_name : (P : Name → Type 0) (es : List Name) (k : ℕ) (e : Name) → AllNames P es → slice_get es k ≡ Some e → P e
at_name P [] k e h at = absurd (cc at)
at_name P (x ∷ es) zero e h at = same at
  where
    same : Some x ≡ Some e → P e
    same f = let equal : x ≡ e = cc f in subst (λ (y : Name). P y) equal h.0
at_name P (x ∷ es) (suc k) e h at = at_name P es k e h.1 at
