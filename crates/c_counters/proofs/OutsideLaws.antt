-- The locals with names of a function that is not there.
use Rattle.std.proofs.Common.{◌≡◌, ℕ, ◌-◌, Bool, true, false, ◌&&◌, List, [], length, refl, sym, ap, ◌∙◌, arith, drop}
use Rattle.std.specs.Prelude.{nat_le}
use Rattle.std.proofs.lemmas.List.{length-drop, length-map}
use Rattle.c_syntax.specs.declared.kind.SynKind.TheVariants as kind
use Rattle.c_syntax.specs.declared.syntax.SynId.{SynId}
use Rattle.c_syntax.specs.declared.syntax.SynNode.{SynNode}
use Rattle.c_typing.specs.Places.{holds, is_takes, kid, kind_at, next_to_name, node_at, nowhere, numbers}
use Rattle.c_typing.specs.Names.{Name, automatics_in, is_automatic, named_locals, parameters_of}
use Rattle.c_nodes.specs.Parents.{nodes_in}
use Rattle.c_nodes.specs.Declarators.{Points}
use Rattle.c_nodes.proofs.ScopeLaws.{own_found, own_missing}
use Rattle.c_names.specs.Denoted.{places_in}
use Rattle.c_locals.proofs.CountLaws.{filter_none}
use Rattle.c_locals.proofs.OwnerLaws.{no_parameters, parameters_are}

module _ (table : List SynNode) where
  no_automatics : automatics_in (places_in table) nowhere ≡ []
  no_automatics = filter_none (λ (e : Name). is_automatic e.entity && holds nowhere e.node) (places_in table).names (λ e i. by (is_automatic e.entity) e.node)
    where
      outside : (n : ℕ) → (nat_le 1 n && nat_le n 0) ≡ false
      outside n = grind arith

      by : (b : Bool) (n : ℕ) → (b && holds nowhere n) ≡ false
      by true n = outside n
      by false n = refl

  named_are : (count : ℕ) → count ≡ length (parameters_of (places_in table) nowhere) → count ≡ named_locals (places_in table) nowhere
  named_are count is = let none = ap length no_automatics in omega (arith, is, none)

  module _ (part : ℕ) (points : Points (nodes_in table) part (next_to_name (nodes_in table) (node_at (nodes_in table) (kid nowhere 1)).first)) where
    pub takes_outside : (kids : List SynId) → kind_at (nodes_in table) part ≡ kind.Takes → numbers kids ≡ (node_at (nodes_in table) part).kids → length kids - 1 ≡ named_locals (places_in table) nowhere
    takes_outside kids is are =
        named_are (length kids - 1)
        (sym (length-drop 1 kids) ∙ (sym (length-map (drop 1 kids) (λ (id : SynId). id.number))
        ∙ ap length (parameters_are table nowhere part kids (drop 1 kids) (own_found (nodes_in table) nowhere part points is).1 are refl)))

    pub none_outside : is_takes (kind_at (nodes_in table) part) ≡ false → 0 ≡ named_locals (places_in table) nowhere
    none_outside other = named_are 0 (sym (ap length (no_parameters table nowhere (own_missing (nodes_in table) nowhere part points other))))
