-- Automatic objects stand in functions, and have their places there.
use Rattle.std.proofs.Common.{◌≡◌, ℕ, suc, ◌-◌, ◌<◌, ◌≤◌, Bool, true, false, ◌&&◌, ◌||◌, List, [], length, map, Option, Some, None, refl, sym, ap, ◌∙◌, arith, true≢false, ◌⊎◌, inl, inr}
use Rattle.std.specs.Prelude.{slice_get, codes, ◌==◌, if◌then◌else◌}
use Rattle.std.specs.Option.{is_some}
use Rattle.std.proofs.lemmas.Bool.Decides.{Decides-eqb}
use Rattle.c_lexer.specs.declared.token.Token.{Token}
use Rattle.c_syntax.specs.declared.kind.SynKind.{SynKind}
use Rattle.c_syntax.specs.declared.kind.SynKind.TheVariants as kind
use Rattle.c_syntax.specs.Trees.{Tree}
use Rattle.c_grammar.specs.Derivation.{IsTreeOf}
use Rattle.c_typing.specs.Places.{Node, nodes, node_at, kind_at, holds, is_function, whole_declarator, Scope, scopes_of, scope_at, is_file_scope, specs_of, says}
use Rattle.c_typing.specs.Names.{Entity, typedef_name, function_name, static_object, automatic, Name, places, is_automatic, automatics_in, entity_by, name_list, declares_function, names_by}
use Rattle.c_typing.specs.Shapes as category
use Rattle.c_typing.specs.Shapes.{Category, category_by, stands_in}
use Rattle.c_typing.specs.ShapesOfNodes.{category_at}
use Rattle.c_typing.specs.Meant.{IsLocal}
use Rattle.c_typing.proofs.ShapesBase.{both}
use Rattle.c_typing.proofs.ProgressAll.{found_at}
use Rattle.c_typing.proofs.ProgressPlaces.{Linked, AreLinked, are_linked, parent_above, stands, within}
use Rattle.c_typing.proofs.ProgressOwners.{in_declaration}
use Rattle.c_typing.proofs.ProgressAround.{is_body, climb, found_in, le_true, unit_last}
use Rattle.c_typing.proofs.ProgressWhole.{WholeAt, NameIs, whole_of}
use Rattle.c_typing.proofs.ProgressDeclared.{AllNames, all_from}
use Rattle.c_typing.proofs.ProgressUsed.{at_name}
use Rattle.c_typing.proofs.ProgressNumbers.{InList, in_filter, place_of}
use Rattle.c_typing.proofs.ProgressScopes.{OfUnit, file_scope}

no : {A : Type 0} → false ≡ true → A
no e = absurd (true≢false (sym e))

abbrev of_unit : Category → Bool
of_unit category.unit = true
of_unit c = false

-- an automatic object is declared with an initializer or without one, and not in the scope of the unit
record IsAutomatic (cat : ℕ → Category) (ns : List Node) (scopes : List Scope) (i : ℕ) : Type 0 where
  name : Node
  named : slice_get ns i ≡ Some name
  ident : name.label.kind ≡ kind.Ident
  place : ℕ
  whole : WholeAt cat ns place
  first : whole.node.first ≡ i
  from : i ≤ place
  owner : kind_at ns whole.node.parent ≡ kind.InitDecl
  inner : is_file_scope ns (scope_at scopes i) ≡ false

abbrev Automatic : (ℕ → Category) → List Node → List Scope → Name → Type 0
Automatic cat ns scopes e = is_automatic e.entity ≡ true → IsAutomatic cat ns scopes e.node

entity_same : {x y : Entity} → Some x ≡ Some y → x ≡ y
entity_same e = cc e

automatic_by : (s : List Node) (owner specs : Node) (c : Scope) (f : Bool) (k : SynKind) (x : Entity) → entity_by s owner specs c f k ≡ Some x → is_automatic x ≡ true → (k ≡ kind.InitDecl) × (is_file_scope s c ≡ false)
automatic_by s owner specs c f kind.InitDecl x e h =
    (refl, by (says s (codes "typedef") specs) f (is_file_scope s c) (says s (codes "static") specs) (says s (codes "extern") specs) (ap is_automatic (entity_same e) ∙ h))
  where
    by : (a b d st ex : Bool) → is_automatic (if a then typedef_name else if b then function_name else if d || st || ex then static_object else automatic) ≡ true → d ≡ false
    by true b d st ex h = no h
    by false true d st ex h = no h
    by false false true st ex h = no h
    by false false false st ex h = refl
automatic_by s owner specs c f kind.Function x e h = no (ap is_automatic (entity_same e) ∙ h)
automatic_by s owner specs c f kind.Param x e h = no (ap is_automatic (entity_same e) ∙ h)
automatic_by s owner specs c f _ x e h = absurd (cc e)

module _ (cat : ℕ → Category) (ns : List Node) (l : AreLinked cat ns) where
  names_automatic : (scopes : List Scope) (before : List Name) (k : ℕ) (node : Node) → slice_get ns k ≡ Some node → AllNames (Automatic cat ns scopes) (names_by ns scopes before node node.label.kind)
  names_automatic scopes before k node e = by node.label.kind refl
    where
      here : slice_get ns node.id ≡ Some node
      here = ap (λ j. slice_get ns j) (l.shapes.tiled k node e).numbered ∙ e

      listed : (same : node.label.kind ≡ kind.Ident) (w : NameIs cat ns l node.id) (whole : Node) (f : Bool) (o : Option Entity)
          → ((x : Entity) → o ≡ Some x → is_automatic x ≡ true → (kind_at ns w.whole.node.parent ≡ kind.InitDecl) × (is_file_scope ns (scope_at scopes node.id) ≡ false))
          → AllNames (Automatic cat ns scopes) (name_list node whole (scope_at scopes node.id) f o)
      listed same w whole f None h = tt
      listed same w whole f (Some x) h = (
        (λ a. let r = h x refl a in record {
          name = node;
          named = here;
          ident = same;
          place = w.place;
          whole = w.whole;
          first = w.first;
          from = w.from;
          owner = r.0;
          inner = r.1;
        }),
        tt,
      )

      by : (kd : SynKind) → node.label.kind ≡ kd → AllNames (Automatic cat ns scopes) (names_by ns scopes before node kd)
      by kind.Ident same =
          let w = whole_of cat ns l node.id node here same in
          let whole = whole_declarator ns node.id in
          let owner = node_at ns whole.parent in
          let specs = specs_of ns owner in
          let f = declares_function ns before node.id specs in
          listed same w whole f (entity_by ns owner specs (scope_at scopes node.id) f owner.label.kind)
          (λ x e a. let r = automatic_by ns owner specs (scope_at scopes node.id) f owner.label.kind x e a in (ap (λ (v : Node). kind_at ns v.parent) (sym w.is) ∙ r.0, r.1))
      by kind.Enumer same = ((λ a. no a), tt)
      by _ same = tt

  -- ---- the function that it stands in

  unit_or : (k : SynKind) → stands_in category.declaration k ≡ true → (k ≡ kind.Unit) ⊎ ((text : List ℕ) (cs : List Category) → is_body (category_by k text cs) ≡ true)
  unfolding stands_in category_by
  unit_or kind.Unit e = inl refl
  unit_or kind.Block e = inr (λ text cs. refl)
  unit_or kind.For e = inr (λ text cs. refl)
  unit_or _ e = no e

  -- a function whose nodes have the name among them
  record Around (i : ℕ) : Type 0 where
    place : ℕ
    node : Node
    at : slice_get ns place ≡ Some node
    is : node.label.kind ≡ kind.Function
    from : node.first ≤ i
    to : i ≤ place

  around : (i : ℕ) → IsAutomatic cat ns (scopes_of ns) i → Around i
  unfolding category_by stands_in
  around i a = outer (l.linked a.place a.whole.node a.whole.at)
    where
      last_no : (n : ℕ) (m : Node) (c : Category) → slice_get ns n ≡ Some m → cat n ≡ c → of_unit c ≡ false → suc n ≡ length ns → ⊥
      last_no n m c e is other last = true≢false (ap of_unit (sym (l.root n m e last) ∙ is) ∙ other)

      outer : (suc a.place ≡ length ns) ⊎ Linked ns a.place a.whole.node → Around i
      outer (inl last) = absurd (last_no a.place a.whole.node category.declarator a.whole.at a.whole.is refl last)
      outer (inr o) = initial (l.linked a.whole.node.parent o.parent o.at)
        where
          init : o.parent.label.kind ≡ kind.InitDecl
          init = sym (ap (λ (x : Node). x.label.kind) (found_at ns a.whole.node.parent o.parent o.at)) ∙ a.owner

          init_category : cat a.whole.node.parent ≡ category.init_declarator
          init_category = (l.shapes.shaped a.whole.node.parent o.parent o.at).category ∙ ap (λ k. category_by k o.parent.label.text (map cat o.parent.kids)) init

          up : (a.place < a.whole.node.parent) × (o.parent.first ≤ a.whole.node.first)
          up = parent_above cat ns l a.place a.whole.node a.whole.at o

          initial : (suc a.whole.node.parent ≡ length ns) ⊎ Linked ns a.whole.node.parent o.parent → Around i
          initial (inl last) = absurd (last_no a.whole.node.parent o.parent category.init_declarator o.at init_category refl last)
          initial (inr d) = declared (l.linked o.parent.parent d.parent d.at)
            where
              is_declaration : d.parent.label.kind ≡ kind.Declaration
              is_declaration = in_declaration d.parent.label.kind (ap (λ c. stands_in c d.parent.label.kind) (sym init_category) ∙ stands cat ns l a.whole.node.parent o.parent d)

              declaration_category : cat o.parent.parent ≡ category.declaration
              declaration_category = (l.shapes.shaped o.parent.parent d.parent d.at).category ∙ ap (λ k. category_by k d.parent.label.text (map cat d.parent.kids)) is_declaration

              more : (a.whole.node.parent < o.parent.parent) × (d.parent.first ≤ o.parent.first)
              more = parent_above cat ns l a.whole.node.parent o.parent o.at d

              declared : (suc o.parent.parent ≡ length ns) ⊎ Linked ns o.parent.parent d.parent → Around i
              declared (inl last) = absurd (last_no o.parent.parent d.parent category.declaration d.at declaration_category refl last)
              declared (inr q) = by (unit_or q.parent.label.kind (ap (λ c. stands_in c q.parent.label.kind) (sym declaration_category) ∙ stands cat ns l o.parent.parent d.parent q))
                where
                  most : (o.parent.parent < d.parent.parent) × (q.parent.first ≤ d.parent.first)
                  most = parent_above cat ns l o.parent.parent d.parent d.at q

                  low : q.parent.first ≤ i
                  low = let x = up.1 in let y = more.1 in let z = most.1 in let f = a.first in omega (arith, x, y, z, f)

                  by : (q.parent.label.kind ≡ kind.Unit) ⊎ ((text : List ℕ) (cs : List Category) → is_body (category_by q.parent.label.kind text cs) ≡ true) → Around i
                  by (inl unit) =
                      let u : OfUnit ns i = record {
                        name = a.name;
                        named = a.named;
                        ident = a.ident;
                        whole = a.place;
                        declarator = a.whole.node;
                        at_whole = a.whole.at;
                        first = a.first;
                        from = a.from;
                        init = o.parent;
                        at_init = o.at;
                        is_init = init;
                        less_init = up.0;
                        declaration = d.parent;
                        at_declaration = d.at;
                        is_declaration = is_declaration;
                        less_declaration = more.0;
                        unit = q.parent;
                        at_unit = q.at;
                        is_the_unit = unit;
                        less_unit = most.0;
                        last = unit_last cat ns l d.parent.parent q.parent q.at unit;
                        low_unit = low;
                      } in
                      absurd (true≢false (sym (file_scope cat ns l i u) ∙ a.inner))
                  by (inr body) =
                      let w = within ns d.parent.parent q.parent q.at in
                      let c = ap is_body (l.shapes.shaped d.parent.parent q.parent q.at).category ∙ body q.parent.label.text (map cat q.parent.kids) in
                      let r = climb cat ns l (length ns - d.parent.parent) d.parent.parent q.parent (omega (arith, w)) q.at c in
                      let x = up.0 in let y = more.0 in let z = most.0 in let f = a.from in
                      let from = r.from in
                      let to = r.to in
                      record { place = r.place; node = r.node; at = r.at; is = r.is; from = let b = low in omega (arith, from, b); to = omega (arith, f, x, y, z, to) }

pub local_there : (tokens : List Token) (t : Tree) (k : ℕ) (e : Name) → IsTreeOf tokens t → slice_get (places t).names k ≡ Some e → is_automatic e.entity ≡ true → IsLocal t e
local_there tokens t k e derived at auto =
    let ns = nodes t in
    let cat = category_at t in
    let l = are_linked tokens t derived in
    let scopes = scopes_of ns in
    let all = all_from (Automatic cat ns scopes) ns scopes [] ns tt (λ before j node at. names_automatic cat ns l scopes before j node at) in
    let a = at_name (Automatic cat ns scopes) (places t).names k e all at auto in
    let r = around cat ns l e.node a in
    let number = (l.shapes.tiled r.place r.node r.at).numbered in
    let from = r.from in
    let to = r.to in
    let found = found_in ns (λ node. is_function node.label.kind) (λ f. holds f e.node) r.place r.node r.at (ap is_function r.is)
    (both (le_true r.node.first e.node from) (le_true e.node r.node.id (omega (arith, to, number)))) in
    let listed : InList (automatics_in (places t) found.node) e =
    in_filter (λ e. is_automatic e.entity && holds found.node e.node) (places t).names e (record { index = k; at = at }) (both auto found.passes) in
    let place = place_of (λ (a : Name). a.node == e.node) (automatics_in (places t) found.node) e listed ((Decides-eqb e.node e.node).1 refl) in
    record { owner = found.node; around = found.is; is_placed = ap is_some place.is }
