-- What the vectors of names say of a used.
use Rattle.std.proofs.Common.{◌≡◌, ℕ, ◌<◌, Bool, true, false, ◌&&◌, List, length, Option, Some, None, refl, sym, ap, ◌∙◌, subst, true≢false, get_or}
use Rattle.std.specs.Prelude.{option_map, nat_lt}
use Rattle.std.specs.Str.{bytes_eq}
use Rattle.c_syntax.specs.declared.syntax.SynNode.{SynNode}
use Rattle.c_typing.specs.Places.{in_scope, kind_at, text_at}
use Rattle.c_typing.specs.Names.{Name, denoted, name_of}
use Rattle.c_typing.proofs.MadeAround.{both_true}
use Rattle.c_typing.proofs.MadeObjects.{denoted_in}
use Rattle.c_nodes.specs.Parents.{nodes_in}
use Rattle.c_names.specs.declared.names.DeclaredName.{DeclaredName}
use Rattle.c_names.specs.Denoted.{IsDenoted, IsDerived, is_use, node_of, places_in}
use Rattle.c_names.specs.Names.{AreNames, rule_name}
use Rattle.c_names.proofs.DeclaredLaws.{from_in}
use Rattle.c_names.proofs.TableLaws.{same_bytes}
use Rattle.c_objects.proofs.FirstLaws.{name_at, node_below}
use Rattle.c_uses.specs.Uses.{Denotes, IsUsedName}

some_same : {A : Type 0} {x y : A} → Some x ≡ Some y → x ≡ y
some_same e = cc e

no_node : (o : Option Name) → None ≡ node_of o → o ≡ None
no_node None e = refl
no_node (Some a) e = absurd (cc e)

-- a node that uses no name, or one that denotes nothing
pub none_used : (table : List SynNode) (n : ℕ) (given : Option ℕ) → IsDenoted table n given → given ≡ None → IsUsedName table n None
none_used table n given is none = (λ used. no_node (denoted (places_in table).names n (text_at (nodes_in table) n)) (sym none ∙ is.0 used), λ other. refl)

-- the name that a node uses, by the node that declares it
pub record Found (table : List SynNode) (n node : ℕ) : Type 0 where
  pub name : Name
  pub used : is_use (kind_at (nodes_in table) n) ≡ true
  pub is : denoted (places_in table).names n (text_at (nodes_in table) n) ≡ Some name
  pub text : name.text ≡ text_at (nodes_in table) n
  pub declared : name_of (places_in table) node ≡ Some name
  pub below : node < length table

module _ (table : List SynNode) (d : IsDerived table) (nodes : length (nodes_in table) ≡ length table) (n : ℕ) where
  abbrev names : List Name
  names = (places_in table).names

  abbrev text : List ℕ
  text = text_at (nodes_in table) n

  pub found : (given : Option ℕ) (node : ℕ) → IsDenoted table n given → given ≡ Some node → Found table n node
  found given node is some = by (is_use (kind_at (nodes_in table) n)) refl
    where
      told : is_use (kind_at (nodes_in table) n) ≡ true → (o : Option Name) → denoted names n text ≡ o → Some node ≡ node_of o → Found table n node
      told used None e same = absurd (cc same)
      told used (Some a) e same =
          let in_names = denoted_in names n text a e in
          let among = from_in a names in_names.0 in
          let at : a.node ≡ node = some_same (sym same) in
          let passes = both_true (bytes_eq a.text text && nat_lt a.behind n) (in_scope a.scope n) in_names.1 in
          record {
            name = a;
            used = used;
            is = e;
            text = same_bytes a.text text (both_true (bytes_eq a.text text) (nat_lt a.behind n) passes.0).0;
            declared = name_at table d a node among at;
            below = subst (λ k. k < length table) at (subst (λ l. a.node < l) nodes (node_below table d a among));
          }

      by : (b : Bool) → is_use (kind_at (nodes_in table) n) ≡ b → Found table n node
      by true used = told used (denoted names n text) refl (sym some ∙ is.0 used)
      by false other = absurd (cc (sym some ∙ is.1 other))

  module _ (declared : List (Option DeclaredName)) (a : AreNames table declared) (node : ℕ) (f : Found table n node) where
    pub name_used_is : (x : DeclaredName) → get_or declared node None ≡ Some x → IsUsedName table n (Some (record { node = node; name = x }))
    name_used_is x at = (λ used. denotes, λ other. absurd (true≢false (sym f.used ∙ other)))
      where
        is : name_of (places_in table) node ≡ Some (rule_name (nodes_in table) node x)
        is = a.are node f.below ∙ ap (option_map (rule_name (nodes_in table) node)) at

        same : f.name ≡ rule_name (nodes_in table) node x
        same = some_same (sym f.declared ∙ is)

        denotes : Denotes table n (record { node = node; name = x })
        denotes = record { is = f.is ∙ ap Some same; text = ap (λ (e : Name). e.text) (sym same) ∙ f.text; declared = is; within = f.below }

    pub never_missing : get_or declared node None ≡ None → ⊥
    never_missing at = absurd (cc (sym f.declared ∙ (a.are node f.below ∙ ap (option_map (rule_name (nodes_in table) node)) at)))
