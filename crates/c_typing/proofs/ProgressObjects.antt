-- The objects of a tree where no rule is broken: each name of one has a number.
use Rattle.std.proofs.Common.{◌≡◌, ℕ, suc, ◌<◌, Bool, true, false, not, ◌&&◌, ◌||◌, List, [], ◌∷◌, length, map, Option, Some, None, refl, sym, ap, ap₂, ◌∙◌, arith, true≢false, ◌⊎◌, inl, inr, zero-add}
use Rattle.std.specs.Prelude.{take, find, nat_lt, ◌==◌}
use Rattle.std.specs.Option.{is_some}
use Rattle.std.specs.List.{last_or, list_any}
use Rattle.c_typing.specs.Meant.{has_form}
use Rattle.std.specs.Str.{bytes_eq}
use Rattle.std.proofs.lemmas.Bool.Decides.{nat_tests}
use Rattle.c_lexer.specs.declared.token.Token.{Token}
use Rattle.c_syntax.specs.declared.kind.SynKind.{SynKind}
use Rattle.c_syntax.specs.declared.kind.SynKind.TheVariants as kind
use Rattle.c_syntax.specs.Trees.{Tree}
use Rattle.c_grammar.specs.Derivation.{IsTreeOf}
use Rattle.c_typing.specs.Types.{CType}
use Rattle.c_typing.specs.Places.{Node, nodes, node_at, kind_at, parent_of, is_declarator, is_file_scope}
use Rattle.c_typing.specs.Names.{is_typedef, Entity, function_name, static_object, Name, Places, places, is_again, is_static, is_initialized, earlier, defines_object, is_defined_object, objects_of, object_number, name_of}
use Rattle.c_typing.specs.Judgements.{Judgement, means, breaks_rules, waits, Meaning, declares, judgement_at, layouts}
use Rattle.c_typing.specs.Rules.{broken_if, are_functions, agree_with, may_be_again, is_refused, declared_twice, bad_library_name}
use Rattle.c_typing.specs.Declarators.{object_size, name_faults, declared_faults, whole_by, type_before}
use Rattle.c_typing.specs.Typing.{judgements_at, faults}
use Rattle.c_typing.specs.Shapes as category
use Rattle.c_typing.specs.Shapes.{Category, category_by}
use Rattle.c_typing.specs.ShapesOfNodes.{category_at}
use Rattle.c_typing.proofs.ProgressForms.{Has, fits, split}
use Rattle.c_typing.proofs.ProgressKinds as of
use Rattle.c_typing.proofs.ProgressAll.{fronts_empty, no_fault, all_meant, found_at, by_number}
use Rattle.c_typing.proofs.ProgressPlaces.{AreLinked, are_linked}
use Rattle.c_typing.proofs.ProgressInside.{kind_declares}
use Rattle.c_typing.proofs.ProgressInitials.{specials}
use Rattle.c_typing.proofs.ProgressDeclared.{AllNames, Stands, IsDeclaredName, all_names_stand}
use Rattle.c_typing.proofs.ProgressUsed.{at_name}
use Rattle.c_typing.proofs.ProgressUnique.{InOrder, found_itself, in_order}
use Rattle.c_typing.proofs.ProgressParts.{made_at}
use Rattle.c_typing.proofs.ProgressNumbers.{InList, in_filter, from_filter, last_in, place_of, split_two, again_same, same_again, First}

no : {A : Type 0} → false ≡ true → A
no e = absurd (true≢false (sym e))

is_broken_no : (b : Bool) (r n : ℕ) → broken_if b r n ≡ [] → b ≡ false
is_broken_no true r n e = absurd (cc e)
is_broken_no false r n e = refl

pub static_is : (k : Entity) → is_static k ≡ true → k ≡ static_object
static_is static_object e = refl
static_is _ e = no e

pub no_functions : (k : Entity) → are_functions k static_object ≡ false
no_functions function_name = refl
no_functions _ = refl

not_false : (b : Bool) → not b ≡ false → b ≡ true
not_false true e = refl
not_false false e = absurd (true≢false e)

or_first : (a b : Bool) → a ≡ true → (a || b) ≡ true
or_first true b e = refl
or_first false b e = no e

-- a whole declarator declares a type
pub record DeclaresType (j : Judgement) : Type 0 where
  pub type : CType
  pub is : j ≡ means (declares type)

pub declares_type : (outer own : SynKind) (j : Judgement) → not (is_declarator outer) ≡ true → fits outer own category.declarator j ≡ true → DeclaresType j
declares_type outer own (means m) w f = by m (not (is_declarator outer)) w (split f).0
  where
    by : (m : Meaning) (b : Bool) → b ≡ true → has_form category.declarator own b m ≡ true → DeclaresType (means m)
    by (declares t) true w e = record { type = t; is = refl }
    by _ true w e = no e
    by m false w e = no w
declares_type outer own (breaks_rules f fs) w e = no e
declares_type outer own waits w e = no e

-- the declaration before is one of a static object
before_static : (p : Places) (e a : Name) (t : CType) (o : Option CType) → e.entity ≡ static_object → is_refused p e t o (Some a) ≡ false → is_static a.entity ≡ true
before_static p e a t o same h =
    let may = (split_two (may_be_again p e a) (agree_with t o) (not_false (may_be_again p e a && agree_with t o) h)).0 in
    by (is_static a.entity) (is_static e.entity) (is_file_scope p.nodes e.scope) (is_initialized p e) (ap (λ k. are_functions a.entity k) same ∙ no_functions a.entity) may
  where
    by : (s u f i : Bool) → are_functions a.entity e.entity ≡ false
        → ((are_functions a.entity e.entity || (s && u && f)) && not (i && list_any (is_initialized p) (earlier p e))) ≡ true → s ≡ true
    by true u f i none m = refl
    by false u f i none m = no (sym none ∙ first (are_functions a.entity e.entity) _ m)
      where
        first : (b c : Bool) → ((b || (false && u && f)) && c) ≡ true → b ≡ true
        first true c e = refl
        first false c e = no e

-- ---- a tree where no rule is broken

pub all_listed : (names : List Name) → AllNames (λ e. InList names e) names
all_listed [] = tt
all_listed (e ∷ es) = (record { index = 0; at = refl }, later es (all_listed es))
  where
    later : (xs : List Name) → AllNames (λ x. InList es x) xs → AllNames (λ x. InList (e ∷ es) x) xs
    later [] h = tt
    later (x ∷ xs) h = (record { index = suc h.0.index; at = h.0.at }, later xs h.1)

lt_from : (a b : ℕ) → nat_lt a b ≡ true → a < b
lt_from a b e = grind (arith, nat_tests, e)

module _ (tokens : List Token) (t : Tree) (derived : IsTreeOf tokens t) (quiet : faults t ≡ []) where
  l : AreLinked (category_at t) (nodes t)
  l = are_linked tokens t derived

  pub stand : (e : Name) → InList (places t).names e → Stands (category_at t) (nodes t) e
  stand e m = at_name (Stands (category_at t) (nodes t)) (places t).names m.index e (all_names_stand (category_at t) (nodes t) (are_linked tokens t derived) (places t).scopes) m.at

  pub order : InOrder 0 (places t).names
  order = in_order (nodes t) (places t).scopes [] (nodes t) 0 (λ j m e. (l.shapes.tiled j m e).numbered ∙ sym (zero-add j)) tt tt

  pub named : (e : Name) → InList (places t).names e → name_of (places t) e.node ≡ Some e
  named e m = found_itself 0 (places t).names m.index e order m.at

  -- what is asked of the declarator of a static object
  record ObjectChecked (e : Name) : Type 0 where
    type : CType
    node : ℕ
    keeps : declared_faults (places t) (take e.behind (judgements_at (places t))) e type node false static_object ≡ []

  object_checked : (e : Name) → InList (places t).names e → IsDeclaredName (category_at t) (nodes t) e → is_static e.entity ≡ true → ObjectChecked e
  unfolding category_by
  object_checked e m de static =
      let p = places t in
      let js = judgements_at p in
      let w = de.whole in
      let meant = all_meant (category_at t) p l.shapes (no_fault t quiet).by_node (specials (category_at t) p l (record { names = refl; functions = refl })) e.behind w.node w.at in
      let outer = kind_at (nodes t) w.node.parent in
      let d = declares_type outer w.node.label.kind (judgement_at js e.behind) w.whole (ap (λ c. fits outer w.node.label.kind c (judgement_at js e.behind)) (sym w.is) ∙ meant) in
      let shape = l.shapes.shaped e.behind w.node w.at in
      let declares = kind_declares w.node.label.kind w.node.label.text (map (category_at t) w.node.kids) (ap of.is_declarator_only (sym shape.category ∙ w.is)) in
      let c = made_at tokens t derived quiet e.behind w.node w.at declares d.type d.is in
      let name : name_of p w.node.first ≡ Some e = ap (λ i. name_of p i) de.first ∙ named e m in
      let number = (l.shapes.tiled e.behind w.node w.at).numbered in
      let owner : (parent_of p.nodes w.node.id).label.kind ≡ kind.InitDecl =
      ap (λ i. (node_at p.nodes (node_at p.nodes i).parent).label.kind) number
      ∙ (ap (λ (x : Node). (node_at p.nodes x.parent).label.kind) (found_at p.nodes e.behind w.node w.at)
      ∙ (ap (λ i. (node_at p.nodes i).label.kind) (sym de.owner) ∙ de.init_owner (or_first (is_static e.entity) (is_typedef e.entity) static))) in
      record {
        type = d.type;
        node = w.node.id;
        keeps = ap (λ k. declared_faults p (take e.behind js) e d.type w.node.id false k) (sym (static_is e.entity static))
            ∙ (ap₂ (λ o k. whole_by p (take e.behind js) w.node d.type o k) (sym name) (sym owner) ∙ c.keeps);
      }

  -- the first declaration of an object
  first_of : (n : ℕ) (e : Name) → e.behind ≡ n → InList (places t).names e → is_static e.entity ≡ true → First (places t) e
  first_of n = by_number (λ n. (e : Name) → e.behind ≡ n → InList (places t).names e → is_static e.entity ≡ true → First (places t) e) step n
    where
      step : (n : ℕ) → ((k : ℕ) → k < n → (e : Name) → e.behind ≡ k → InList (places t).names e → is_static e.entity ≡ true → First (places t) e)
          → (e : Name) → e.behind ≡ n → InList (places t).names e → is_static e.entity ≡ true → First (places t) e
      step n f e same m static = by (stand e m) (last_in (earlier (places t) e))
        where
          by : Stands (category_at t) (nodes t) e → (earlier (places t) e ≡ []) ⊎ ((b : Name) × (last_or None (earlier (places t) e) ≡ Some b) × InList (earlier (places t) e) b) → First (places t) e
          by (inl en) o = no (ap is_static (sym en.entity) ∙ static)
          by (inr de) (inl none) = record { name = e; listed = m; static = static; again = same_again e e refl refl; first = none }
          by (inr de) (inr r) =
              let p = places t in
              let js = take e.behind (judgements_at p) in
              let b = r.0 in
              let c = object_checked e m de static in
              let names = (fronts_empty (object_size (layouts js) c.type c.node) (name_faults p js e c.type c.node false) c.keeps).1 in
              let twice = (fronts_empty (declared_twice p e c.type (type_before p js e) e.node) (bad_library_name e.text false c.type c.node) names).0 in
              let fine = is_broken_no (is_refused p e c.type (type_before p js e) (last_or None (earlier p e))) 3 e.node twice in
              let refused = ap (λ o. is_refused p e c.type (type_before p js e) o) (sym r.1) ∙ fine in
              let before = before_static p e b c.type (type_before p js e) (static_is e.entity static) refused in
              let listed = from_filter (λ a. is_again a e && nat_lt a.behind e.behind) p.names b r.2 in
              let tests = split_two (is_again b e) (nat_lt b.behind e.behind) listed.1 in
              let less = lt_from b.behind e.behind tests.1 in
              let g = f b.behind (omega (arith, less, same)) b refl listed.0 before in
              let x = again_same g.name b g.again in
              let y = again_same b e tests.0 in
              record { name = g.name; listed = g.listed; static = g.static; again = same_again g.name e (x.0 ∙ y.0) (x.1 ∙ y.1); first = g.first }

  -- an object that is defined has a number
  pub object_placed : (e : Name) → InList (places t).names e → is_static e.entity ≡ true → is_defined_object (places t) e ≡ true → Has (object_number (places t) e)
  object_placed e m static defined =
      let p = places t in
      let g = first_of e.behind e refl m static in
      let x = again_same g.name e g.again in
      let length_none : (length (earlier p g.name) == 0) ≡ true = ap (λ (es : List Name). length es == 0) g.first in
      let there : is_defined_object p g.name ≡ true =
      ap₂ (λ (text : List ℕ) (owner : ℕ). is_some (find (λ (a : Name). (bytes_eq a.text text && a.scope.owner == owner) && defines_object p a) p.names)) x.0 x.1 ∙ defined in
      place_of (λ a. is_again a e) (objects_of p) g.name (in_filter (λ e. is_static e.entity && length (earlier p e) == 0 && is_defined_object p e) p.names g.name g.listed (three _ _ _ g.static length_none there)) g.again
    where
      three : (a b c : Bool) → a ≡ true → b ≡ true → c ≡ true → (a && b && c) ≡ true
      three true true true h i k = refl
      three true true false h i k = k
      three true false c h i k = no i
      three false b c h i k = no h
