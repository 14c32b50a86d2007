-- Which rules are broken by places alone.
use Rattle.std.proofs.Common.{◌≡◌, ◌≢◌, ℕ, arith, ◌<◌, ◌≤◌, Bool, true, false, ◌&&◌, ◌||◌, List, length, Option, Some, None, refl, sym, ap, ◌∙◌, true≢false, get_or}
use Rattle.std.specs.Prelude.{is_some, not, if◌then◌else◌, [], ◌∷◌}
use Rattle.c_syntax.specs.declared.kind.SynKind.{SynKind}
use Rattle.c_syntax.specs.declared.kind.SynKind.TheVariants as kind
use Rattle.c_syntax.specs.declared.syntax.SynNode.{SynNode}
use Rattle.c_typing.specs.Judgements.{rule}
use Rattle.c_typing.specs.Rules.{SpecsPlace, no_definition, function_in_block, is_getchar, is_inside_function, is_putchar}
use Rattle.c_typing.specs.Places.{Node, is_unit, kind_at, node_at, parent_of, text_at}
use Rattle.c_typing.specs.Names.{Name, Places, denoted, function_number, is_declaration}
use Rattle.c_typing.specs.Declarators.{place_of_specs, specs_place}
use Rattle.c_typing.specs.Typing.{is_there, place_faults_by, stand_before_function, use_faults}
use Rattle.c_nodes.specs.Parents.{AreNumbered, nodes_in}
use Rattle.c_nodes.proofs.ScopeLaws.{there_by_kind}
use Rattle.c_names.specs.declared.names.Entity.{Entity as CodeEntity}
use Rattle.c_names.specs.declared.names.Entity.TheVariants as code
use Rattle.c_names.specs.Denoted.{is_use, places_in}
use Rattle.c_names.specs.Functions as functions
use Rattle.c_names.specs.Names.{entity_of}
use Rattle.c_names.specs.Texts.{has_name}
use Rattle.c_objects.specs.Objects.{AreDefined, defined_at}
use Rattle.c_uses.specs.declared.names.UsedName.{UsedName}
use Rattle.c_uses.specs.Uses.{Denotes, IsUsedName, broken, is_defined, name_used, told}

-- ---- names

-- the fault of a use, by what it denotes
use_fault : (p : Places) (node : Node) (o : Option Name) → use_faults p node o ≡ told (broken 17 (not (is_defined p o))) node.id
use_fault p node None = refl
use_fault p node (Some e) = by (is_there p e e.entity)
  where
    by : (b : Bool) → no_definition b node.id ≡ told (broken 17 (not b)) node.id
    by true = refl
    by false = refl

module _ (table : List SynNode) (n : ℕ) (var : kind_at (nodes_in table) n ≡ kind.Var) where
  abbrev p : Places
  p = places_in table

  abbrev text : List ℕ
  text = text_at (nodes_in table) n

  is_used : is_use (kind_at (nodes_in table) n) ≡ true
  is_used = ap is_use var

  pub nothing_denoted : IsUsedName table n None → true ≡ is_defined p (denoted p.names n text)
  nothing_denoted is = sym (ap (is_defined p) (is.0 is_used))

  pub denotes : (used : UsedName) → IsUsedName table n (Some used) → Denotes table n used
  denotes used is = is.0 is_used

  module _ (used : UsedName) (d : Denotes table n used) where
    by_entity : (entity : CodeEntity) → used.name.entity ≡ entity → is_defined p (denoted p.names n text) ≡ is_there p (name_used table used) (entity_of entity)
    by_entity entity is = ap (is_defined p) d.is ∙ ap (λ e. is_there p (name_used table used) (entity_of e)) is

    pub function_there : used.name.entity ≡ code.Function → (b : Bool) → b ≡ (is_getchar text || is_putchar text || is_some (function_number p text)) → b ≡ is_defined p (denoted p.names n text)
    function_there is b told = told ∙ sym (by_entity code.Function is ∙ ap (λ t. is_getchar t || is_putchar t || is_some (function_number p t)) d.text)

    pub object_there : used.name.entity ≡ code.Static → (defined : List Bool) → AreDefined table defined → get_or defined used.node false ≡ is_defined p (denoted p.names n text)
    object_there is defined a = a.are used.node d.within ∙ (ap (defined_at p) d.declared ∙ sym (by_entity code.Static is))

    pub other_there : (entity : CodeEntity) → used.name.entity ≡ entity → entity ≢ code.Function → entity ≢ code.Static → true ≡ is_defined p (denoted p.names n text)
    other_there entity is no_function no_static = sym (by_entity entity is ∙ by entity no_function no_static)
      where
        by : (e : CodeEntity) → e ≢ code.Function → e ≢ code.Static → is_there p (name_used table used) (entity_of e) ≡ true
        by code.Function f g = absurd (f refl)
        by code.Static f g = absurd (g refl)
        by _ f g = refl

  pub numbered_function : (found : List (Option ℕ)) → functions.AreNumbers table found → n < length table → is_some (get_or found n None) ≡ is_some (function_number p text)
  numbered_function found a within = ap is_some ((a.are n within).0 (ap has_name var))

  pub name_fault : AreNumbered (nodes_in table) → n < length (nodes_in table) → (b : Bool) → b ≡ is_defined p (denoted p.names n text)
      → place_faults_by p (node_at (nodes_in table) n) (kind_at (nodes_in table) n) ≡ told (broken 17 (not b)) n
  name_fault numbered within b is =
      ap (place_faults_by p (node_at (nodes_in table) n)) var
      ∙ (ap (λ k. use_faults p (node_at (nodes_in table) n) (denoted p.names k text)) (numbered n within)
      ∙ (use_fault p (node_at (nodes_in table) n) (denoted p.names n text)
      ∙ (ap (told (broken 17 (not (is_defined p (denoted p.names n text))))) (numbered n within) ∙ ap (λ c. told (broken 17 (not c)) n) (sym is))))

-- ---- functions in blocks

pub specs_fault : (table : List SynNode) (n : ℕ) → kind_at (nodes_in table) n ≡ kind.Specs → AreNumbered (nodes_in table) → n < length (nodes_in table) → (b : Bool)
    → b ≡ (stand_before_function (places_in table) (node_at (nodes_in table) n) && is_inside_function (place_of_specs (places_in table) (node_at (nodes_in table) n)))
    → place_faults_by (places_in table) (node_at (nodes_in table) n) (kind_at (nodes_in table) n) ≡ told (broken 2 b) n
specs_fault table n specs numbered within b is =
    ap (place_faults_by (places_in table) (node_at (nodes_in table) n)) specs
    ∙ (ap (function_in_block place declares) (numbered n within) ∙ (by declares (is_inside_function place) refl ∙ ap (λ c. told (broken 2 c) n) (sym is)))
  where
    place : SpecsPlace
    place = place_of_specs (places_in table) (node_at (nodes_in table) n)

    declares : Bool
    declares = stand_before_function (places_in table) (node_at (nodes_in table) n)

    by : (x y : Bool) → is_inside_function place ≡ y → (if x && is_inside_function place then rule 2 n ∷ [] else []) ≡ told (broken 2 (x && y)) n
    by true true e = ap (λ y. if y then rule 2 n ∷ [] else []) e
    by true false e = ap (λ y. if y then rule 2 n ∷ [] else []) e
    by false y e = refl

pub other_fault : (p : Places) (node : Node) (k : SynKind) → k ≢ kind.Var → k ≢ kind.Specs → (n : ℕ) → place_faults_by p node k ≡ told None n
other_fault p node kind.Var f g n = absurd (f refl)
other_fault p node kind.Specs f g n = absurd (g refl)
other_fault p node _ f g n = refl

-- ---- where specs stand

pub inside_declaration : (owner outer : SynKind) → owner ≡ kind.Declaration → not (is_unit outer) ≡ is_inside_function (specs_place owner outer)
inside_declaration owner outer is = by outer ∙ ap (λ k. is_inside_function (specs_place k outer)) (sym is)
  where
    by : (outer : SynKind) → not (is_unit outer) ≡ is_inside_function (specs_place kind.Declaration outer)
    by kind.Unit = refl
    by kind.For = refl
    by _ = refl

inside_other : (owner outer : SynKind) → owner ≢ kind.Declaration → false ≡ is_inside_function (specs_place owner outer)
inside_other kind.Declaration outer f = absurd (f refl)
inside_other kind.Function outer f = refl
inside_other kind.Param outer f = refl
inside_other _ outer f = refl

no_declaration : kind.Declaration ≡ kind.Empty → ⊥
no_declaration e = true≢false (ap is_declaration e)

module _ (table : List SynNode) (numbered : AreNumbered (nodes_in table)) (n : ℕ) (within : n < length (nodes_in table)) where
  abbrev own : Node
  own = node_at (nodes_in table) n

  -- the place of specs, by the kinds of their parent and of its parent
  place_is : place_of_specs (places_in table) own ≡ specs_place (kind_at (nodes_in table) own.parent) (parent_of (nodes_in table) (node_at (nodes_in table) own.parent).id).label.kind
  unfolding places_in nodes_in
  place_is = ap (λ k. specs_place (parent_of (nodes_in table) k).label.kind (parent_of (nodes_in table) (parent_of (nodes_in table) k).id).label.kind) (numbered n within)

  pub in_declaration : (owner : ℕ) → owner ≡ own.parent → kind_at (nodes_in table) owner ≡ kind.Declaration → (outer : ℕ) → outer ≡ (node_at (nodes_in table) owner).parent
      → not (is_unit (kind_at (nodes_in table) outer)) ≡ is_inside_function (place_of_specs (places_in table) own)
  in_declaration owner at is outer around =
      let there : owner < length (nodes_in table) = there_by_kind (nodes_in table) owner (λ empty. no_declaration (sym is ∙ empty)) in
      ap (λ k. not (is_unit (kind_at (nodes_in table) k))) (around ∙ ap (λ k. (node_at (nodes_in table) k).parent) (sym (numbered owner there)))
      ∙ (inside_declaration (kind_at (nodes_in table) owner) (parent_of (nodes_in table) (node_at (nodes_in table) owner).id).label.kind is
      ∙ sym (ap is_inside_function (place_is ∙ ap (λ k. specs_place (kind_at (nodes_in table) k) (parent_of (nodes_in table) (node_at (nodes_in table) k).id).label.kind) (sym at))))

  pub in_other : (owner : ℕ) → owner ≡ own.parent → kind_at (nodes_in table) owner ≢ kind.Declaration → false ≡ is_inside_function (place_of_specs (places_in table) own)
  in_other owner at other =
      inside_other (kind_at (nodes_in table) owner) (parent_of (nodes_in table) (node_at (nodes_in table) owner).id).label.kind other
      ∙ sym (ap is_inside_function (place_is ∙ ap (λ k. specs_place (kind_at (nodes_in table) k) (parent_of (nodes_in table) (node_at (nodes_in table) k).id).label.kind) (sym at)))

  pub past_all : (owner : ℕ) → owner ≡ own.parent → length (nodes_in table) ≤ owner → false ≡ is_inside_function (place_of_specs (places_in table) own)
  past_all owner at past = in_other owner at (λ is. let there = there_by_kind (nodes_in table) owner (λ empty. no_declaration (sym is ∙ empty)) in omega (arith, there, past))
