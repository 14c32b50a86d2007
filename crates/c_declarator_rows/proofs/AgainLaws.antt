-- Names that are declared again.
use Rattle.std.proofs.Common.{◌≡◌, ◌⊎◌, inl, inr, Bool, ◌&&◌, ◌||◌, not, List, length, Option, Some, None, refl, sym, ap, ◌∙◌, subst, get_or}
use Rattle.std.specs.Prelude.{nat_lt}
use Rattle.std.specs.List.{last_or, list_any}
use Rattle.c_syntax.specs.declared.syntax.SynNode.{SynNode}
use Rattle.c_typing.specs.Places.{has_kid, is_file_scope, node_at}
use Rattle.c_typing.specs.Names.{Name, earlier, is_again, is_initialized, is_static}
use Rattle.c_typing.specs.Rules.{are_functions, may_be_again}
use Rattle.c_typing.proofs.MadeNodes.{In}
use Rattle.c_typing.proofs.MadeKept.{last_in}
use Rattle.c_nodes.specs.Parents.{nodes_in}
use Rattle.c_nodes.specs.Scopes.{scope_of}
use Rattle.c_names.specs.declared.names.DeclaredName.{DeclaredName}
use Rattle.c_names.specs.declared.declarations.Earlier.{Earlier}
use Rattle.c_names.specs.Denoted.{Among, IsDerived, node_of, places_in}
use Rattle.c_names.specs.Earlier.{Sums}
use Rattle.c_names.specs.Names.{AreNames, entity_of}
use Rattle.c_names.proofs.ChainLaws.{passed}
use Rattle.c_names.proofs.DeclaredLaws.{from_in}
use Rattle.c_declarator_rows.specs.Found.{IsName, named_by}
use Rattle.c_declarator_rows.proofs.FoundLaws.{name_is, named, node_within}

-- ---- may it be declared again

module _ (table : List SynNode) (e a : Name) (x y : DeclaredName) (is : IsName table (Some e) (Some x)) (its : IsName table (Some a) (Some y)) where
  pub may_is : (alike init before : Bool) → alike ≡ (are_functions (entity_of y.entity) (entity_of x.entity) || (is_static (entity_of y.entity) && is_static (entity_of x.entity) && is_file_scope (nodes_in table) (scope_of x.scope)))
      → init ≡ has_kid (node_at (nodes_in table) x.owner) 1 → before ≡ list_any (is_initialized (places_in table)) (earlier (places_in table) e) → (alike && not (init && before)) ≡ may_be_again (places_in table) e a
  unfolding places_in nodes_in
  may_is alike init before q i b =
      ap (λ v. v && not (init && before)) (q
      ∙ ap (λ (n : Name). are_functions (entity_of y.entity) n.entity || (is_static (entity_of y.entity) && is_static n.entity && is_file_scope (nodes_in table) n.scope)) is
      ∙ ap (λ (n : Name). are_functions n.entity e.entity || (is_static n.entity && is_static e.entity && is_file_scope (nodes_in table) e.scope)) its)
      ∙ ap (λ v. (are_functions a.entity e.entity || (is_static a.entity && is_static e.entity && is_file_scope (nodes_in table) e.scope)) && not (v && before)) (i ∙ ap (λ (n : Name). has_kid (node_at (nodes_in table) n.owner) 1) is)
      ∙ ap (λ v. (are_functions a.entity e.entity || (is_static a.entity && is_static e.entity && is_file_scope (nodes_in table) e.scope)) && not (has_kid (node_at (nodes_in table) e.owner) 1 && v)) b

-- ---- the last declaration before a name

module _ (table : List SynNode) (d : IsDerived table) where
  pub last_is : (e : Name) (names : List (Option DeclaredName)) (found : Earlier) → length (nodes_in table) ≡ length table → AreNames table names → Sums table (earlier (places_in table) e) found
      → IsName table (last_or None (earlier (places_in table) e)) (named_by found.last names)
  last_is e names found long a s = by (last_or None (earlier (places_in table) e)) refl s.last
    where
      by : (o : Option Name) → last_or None (earlier (places_in table) e) ≡ o → found.last ≡ node_of (last_or None (earlier (places_in table) e)) → IsName table (last_or None (earlier (places_in table) e)) (named_by found.last names)
      by None q told = subst (λ o. IsName table o (named_by found.last names)) (sym q) (subst (λ i. IsName table None (named_by i names)) (sym (told ∙ ap node_of q)) tt)
      by (Some b) q told =
          let among : Among b (places_in table).names = inside (last_in (earlier (places_in table) e) None b q) in
          subst (λ o. IsName table o (named_by found.last names)) (sym q)
          (subst (λ i. IsName table (Some b) (named_by i names)) (sym (told ∙ ap node_of q)) (named table d b (get_or names b.node None) (sym (name_is table d b among) ∙ a.are b.node (node_within table d b among long))))
        where
          inside : In b (earlier (places_in table) e) ⊎ (None ≡ Some b) → Among b (places_in table).names
          inside (inl i) = (passed (λ (a : Name). is_again a e && nat_lt a.behind e.behind) (places_in table).names b (from_in b (earlier (places_in table) e) i)).0
          inside (inr q) = absurd (cc q)
