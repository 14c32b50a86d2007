-- Names that are found, and what their types are.
use Rattle.std.proofs.Common.{◌≡◌, ◌≢◌, ℕ, zero, suc, ◌<◌, ◌≤◌, true, false, List, [], ◌∷◌, length, Option, Some, None, refl, sym, ap, ◌∙◌, subst, arith, get_or}
use Rattle.std.specs.Prelude.{Ok, Err, if◌then◌else◌, option_map}
use Rattle.std.specs.Option.{is_some}
use Rattle.c_syntax.specs.declared.syntax.SynNode.{SynNode}
use Rattle.c_syntax.specs.declared.kind.SynKind.TheVariants as kind
use Rattle.c_typing.specs.Types.{CType}
use Rattle.c_typing.specs.Places.{Node, kind_at, text_at}
use Rattle.c_typing.specs.Names.{Name, denoted, is_typedef, name_of}
use Rattle.c_typing.specs.Judgements.{Judgement, rule, a_type, declares, itself, means, given, type_at, verdict}
use Rattle.c_typing.specs.Rules.{bad_type_words}
use Rattle.c_typing.specs.Expressions.{type_of_name}
use Rattle.c_typing.specs.Declarators.{typedef_type}
use Rattle.c_nodes.specs.Parents.{nodes_in, tree_in}
use Rattle.c_names.specs.declared.names.DeclaredName.{DeclaredName}
use Rattle.c_names.specs.Denoted.{Among, AreDenoted, IsDerived, is_use, node_of, places_in}
use Rattle.c_names.specs.Names.{AreNames, entity_of, rule_name}
use Rattle.c_names.proofs.DeclaredLaws as declared
use Rattle.c_names.proofs.NameLaws.{denoted_in}
use Rattle.c_type_ids.specs.Ids.{Known}
use Rattle.c_values.specs.declared.typings.«Type».{«Type» as TypeForm}
use Rattle.c_answers.specs.declared.refusal.Refusal.TheVariants as refusal
use Rattle.c_judgements.specs.declared.judged.Judged.TheVariants as judged
use Rattle.c_meanings.specs.declared.meanings.Meanings.{Meanings}
use Rattle.c_meanings.specs.Meanings.{IsAnswered, IsReady, node_in}
use Rattle.c_meanings.proofs.MeaningLaws.{its_number}
use Rattle.c_declarator_rows.specs.Found.{Finds, IsName, as_declared, as_type, named_by}

-- ---- what a use denotes

module _ (table : List SynNode) (d : IsDerived table) where
  pub name_is : (e : Name) → Among e (places_in table).names → name_of (places_in table) e.node ≡ Some e
  unfolding places_in
  name_is e i = declared.name_at d.tokens (tree_in table) d.derived e i

  pub node_within : (e : Name) → Among e (places_in table).names → length (nodes_in table) ≡ length table → e.node < length table
  unfolding places_in nodes_in
  node_within e i long = subst (λ n. e.node < n) long (declared.name_below d.tokens (tree_in table) d.derived e i)

  pub named : (e : Name) (o : Option DeclaredName) → Some e ≡ option_map (rule_name (nodes_in table) e.node) o → IsName table (Some e) o
  named e None h = absurd (cc h)
  named e (Some x) h = let same : e ≡ rule_name (nodes_in table) e.node x = cc h in sym same

  pub denoted_is : (k : ℕ) (uses : List (Option ℕ)) (names : List (Option DeclaredName)) → length (nodes_in table) ≡ length table → k < length table → is_use (kind_at (nodes_in table) k) ≡ true
      → AreDenoted table uses → AreNames table names → IsName table (denoted (places_in table).names k (text_at (nodes_in table) k)) (named_by (get_or uses k None) names)
  denoted_is k uses names long within is u a = by (denoted (places_in table).names k (text_at (nodes_in table) k)) refl ((u.are k within).0 is)
    where
      by : (o : Option Name) → denoted (places_in table).names k (text_at (nodes_in table) k) ≡ o → get_or uses k None ≡ node_of (denoted (places_in table).names k (text_at (nodes_in table) k))
          → IsName table (denoted (places_in table).names k (text_at (nodes_in table) k)) (named_by (get_or uses k None) names)
      by None e told =
          subst (λ o. IsName table o (named_by (get_or uses k None) names)) (sym e) (subst (λ i. IsName table None (named_by i names)) (sym (told ∙ ap node_of e)) tt)
      by (Some x) e told =
          let among = (denoted_in (places_in table).names k (text_at (nodes_in table) k) x e).among in
          subst (λ o. IsName table o (named_by (get_or uses k None) names)) (sym e)
          (subst (λ i. IsName table (Some x) (named_by i names)) (sym (told ∙ ap node_of e)) (named x (get_or names x.node None) (sym (name_is x among) ∙ a.are x.node (node_within x among long))))

-- the name that a word denotes
pub word_denotes : (table : List SynNode) (n : ℕ) (m : Meanings) (r : IsReady table n 0 m) (within : n < length table) → (node_in table n).label.kind ≡ kind.Word → (uses : List (Option ℕ)) (names : List (Option DeclaredName))
    → AreDenoted table uses → AreNames table names → (x : Option DeclaredName) → x ≡ named_by (get_or uses n None) names → IsName table (denoted (places_in table).names (node_in table n).id (node_in table n).label.text) x
word_denotes table n m r within is uses names u a x e =
    subst (λ i. IsName table (denoted (places_in table).names i (node_in table n).label.text) x) (sym (its_number table n 0 m r within))
    (subst (IsName table (denoted (places_in table).names n (node_in table n).label.text)) (sym e) (denoted_is table r.derived n uses names r.nodes within (ap is_use is) u a))

-- ---- the type of a name

-- a node that has not been judged
pub past_end : (js : List Judgement) (n : ℕ) → length js ≤ n → type_at js n ≡ None
past_end [] n h = refl
past_end (j ∷ js) zero h = absurd (omega (arith, h))
past_end (j ∷ js) (suc n) h = past_end js n (omega (arith, h))

module _ (table : List SynNode) (k : Known) (js : List Judgement) (e : Name) (x : DeclaredName) (is : IsName table (Some e) (Some x)) where
  pub by_owner : (kind : TypeForm) → Finds k (Some kind) (type_at js x.owner) → Finds k (Some kind) (type_of_name js e)
  by_owner kind (t, found, named) =
      (t, ap (λ o. if is_some o then o else type_at js e.behind) (ap (type_at js) (sym (ap (λ (a : Name). a.owner) is)) ∙ found), named)

  pub by_declarator : (found : Option TypeForm) → type_at js x.owner ≡ None → Finds k found (type_at js x.behind) → Finds k found (type_of_name js e)
  by_declarator found none h =
      let same : type_of_name js e ≡ type_at js e.behind = ap (λ o. if is_some o then o else type_at js e.behind) (ap (type_at js) (sym (ap (λ (a : Name). a.owner) is)) ∙ none) in
      subst (Finds k found) (sym (same ∙ ap (type_at js) (sym (ap (λ (a : Name). a.behind) is)))) h

-- ---- answers

pub type_answered : (k : Known) (found : Option TypeForm) (o : Option CType) → Finds k found o → IsAnswered k (Ok (as_type found)) (given o (λ t. means (a_type t)))
type_answered k None o none = subst (λ p. IsAnswered k (Ok judged.Waits) (given p (λ t. means (a_type t)))) (sym none) (refl, tt, refl)
type_answered k (Some kind) o (t, e, is) = subst (λ p. IsAnswered k (Ok (judged.«Type» kind)) (given p (λ t. means (a_type t)))) (sym e) (refl, is, refl)

pub declared_answered : (k : Known) (found : Option TypeForm) (o : Option CType) → Finds k found o → IsAnswered k (Ok (as_declared found)) (given o (λ t. means (declares t)))
declared_answered k None o none = subst (λ p. IsAnswered k (Ok judged.Waits) (given p (λ t. means (declares t)))) (sym none) (refl, tt, refl)
declared_answered k (Some kind) o (t, e, is) = subst (λ p. IsAnswered k (Ok (judged.Declares kind)) (given p (λ t. means (declares t)))) (sym e) (refl, is, refl)

-- a word that is no keyword
module _ (table : List SynNode) (k : Known) (js : List Judgement) (m : Node) where
  no_typedef : (node : ℕ) → m.id ≡ node → IsAnswered k (Err (refusal.Broken 1 node)) (verdict (bad_type_words None m.id) itself)
  no_typedef node own = ([], ap (λ i. rule 1 i ∷ []) own)

  pub nameless : (e : Option Name) (x : Option DeclaredName) (node : ℕ) → ((y : DeclaredName) → x ≢ Some y) → m.id ≡ node → IsName table e x → IsAnswered k (Err (refusal.Broken 1 node)) (typedef_type js m e)
  unfolding typedef_type
  nameless None x node none own is = no_typedef node own
  nameless (Some e) None node none own is = absurd is
  nameless (Some e) (Some y) node none own is = absurd (none y refl)

  pub other_name : (e : Option Name) (x : DeclaredName) (node : ℕ) → m.id ≡ node → IsName table e (Some x) → is_typedef (entity_of x.entity) ≡ false → IsAnswered k (Err (refusal.Broken 1 node)) (typedef_type js m e)
  unfolding typedef_type
  other_name None x node own is other = absurd is
  other_name (Some e) x node own is other =
      subst (λ b. IsAnswered k (Err (refusal.Broken 1 node)) (if b then given (type_of_name js e) (λ t. means (a_type t)) else verdict (bad_type_words None m.id) itself))
      (sym (ap (λ (a : Name). is_typedef a.entity) (sym is) ∙ other)) (no_typedef node own)

  pub typedef_name : (e : Option Name) (x : DeclaredName) (found : Option TypeForm) → IsName table e (Some x) → is_typedef (entity_of x.entity) ≡ true
      → ((e : Name) → IsName table (Some e) (Some x) → Finds k found (type_of_name js e)) → IsAnswered k (Ok (as_type found)) (typedef_type js m e)
  unfolding typedef_type
  typedef_name None x found is same finds = absurd is
  typedef_name (Some e) x found is same finds =
      subst (λ b. IsAnswered k (Ok (as_type found)) (if b then given (type_of_name js e) (λ t. means (a_type t)) else verdict (bad_type_words None m.id) itself))
      (sym (ap (λ (a : Name). is_typedef a.entity) (sym is) ∙ same)) (type_answered k found (type_of_name js e) (finds e is))
