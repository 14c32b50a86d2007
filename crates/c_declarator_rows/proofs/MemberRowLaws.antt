-- What declarations of members mean.
use Rattle.std.proofs.Common.{◌≡◌, ◌≢◌, ℕ, zero, suc, ◌<◌, false, List, [], ◌∷◌, ◌++◌, length, Option, Some, None, refl, sym, ap, subst, arith, get_or}
use Rattle.std.specs.Prelude.{IfOk, IfSome, Result, Ok, Err, map, option_map, slice_get, unwrap_or}
use Rattle.std.specs.List.{AllByRecursion}
use Rattle.std.proofs.lemmas.Bool.{false≢true}
use Rattle.c_syntax.specs.declared.syntax.SynId.{SynId}
use Rattle.c_syntax.specs.declared.syntax.SynNode.{SynNode}
use Rattle.c_syntax.specs.declared.kind.SynKind.TheVariants as kind
use Rattle.c_types.specs.declared.kind.TypeId.{TypeId}
use Rattle.c_typing.specs.Types.{CType, Field, pointer, unsized}
use Rattle.c_typing.specs.Places.{node_at, numbers, other_kids, text_at}
use Rattle.c_typing.specs.Judgements.{Judgement, all_of, given, layout_in, means, members, type_at}
use Rattle.c_typing.specs.Declarators.{member, member_at}
use Rattle.c_typing.specs.Typing.{judged_by}
use Rattle.c_nodes.specs.Parents.{nodes_in}
use Rattle.c_names.specs.Denoted.{places_in}
use Rattle.c_type_ids.specs.Ids.{AreMembers, Known, Names}
use Rattle.c_values.specs.declared.typings.«Type».{«Type» as TypeForm}
use Rattle.c_values.specs.declared.typings.«Type».TheVariants as type
use Rattle.c_judgements.specs.declared.judged.Judged.TheVariants as judged
use Rattle.c_meanings.specs.Meanings.{IsAnswered, judged_at, judged_to, node_in}
use Rattle.c_declarator_rows.specs.Found.{Finds}
use Rattle.c_declarator_rows.specs.Lengths.{FindsAll, FindsId, as_members, known_id, lacks_length}
use Rattle.c_declarator_rows.proofs.SpecLaws.{given_layout}

-- ---- types with their lengths

pub id_found : (k : Known) (kind : TypeForm) (o : Option CType) → IfSome o (λ t. lacks_length t ≡ false) → Finds k (Some kind) o → FindsId k (known_id kind) o
id_found k (type.Known id) o has h = h
id_found k (type.Unsized id) o has (unsized t, e, is) = absurd (false≢true (sym (subst (λ p. IfSome p (λ t. lacks_length t ≡ false)) e has)))
id_found k (type.Unsized id) o has (t, e, is) = absurd is
id_found k (type.ToUnsized id) o has (pointer (unsized t), e, is) = absurd (false≢true (sym (subst (λ p. IfSome p (λ t. lacks_length t ≡ false)) e has)))
id_found k (type.ToUnsized id) o has (pointer t, e, is) = absurd is
id_found k (type.ToUnsized id) o has (t, e, is) = absurd is

pub not_found : (k : Known) (found : Option TypeForm) (o : Option CType) → ((kind : TypeForm) → found ≢ Some kind) → Finds k found o → o ≡ None
not_found k None o none h = h
not_found k (Some kind) o none h = absurd (none kind refl)

-- ---- the kids of a node but for the first

pub kid_all : (P : ℕ → Type 0) (kids : List SynId) (i : ℕ) (d : SynId) → i < length kids → AllByRecursion P (numbers kids) → P (get_or kids i d).number
kid_all P [] i d within h = absurd (omega (arith, within))
kid_all P (k ∷ kids) zero d within h = h.0
kid_all P (k ∷ kids) (suc i) d within h = kid_all P kids i d (omega (arith, within)) h.1

pub by_index : (P : ℕ → Type 0) (ns : List ℕ) → ((i : ℕ) → i < length ns → P (unwrap_or (slice_get ns i) 0)) → AllByRecursion P ns
by_index P [] h = tt
by_index P (n ∷ ns) h = (h 0 (omega arith), by_index P ns (λ i within. h (suc i) (omega (arith, within))))

-- ---- members

pub members_more : (k : Known) (ms : List (List ℕ × TypeId)) (fs : List Field) (m : List ℕ × TypeId) (f : Field) → AreMembers k ms fs → m.0 ≡ f.name → Names k m.1 f.type → AreMembers k (ms ++ m ∷ []) (fs ++ f ∷ [])
members_more k [] [] m f h name named = (name, named, tt)
members_more k (a ∷ ms) (b ∷ fs) m f h name named = (h.0, h.1, members_more k ms fs m f h.2 name named)
members_more k [] (b ∷ fs) m f h name named = absurd h
members_more k (a ∷ ms) [] m f h name named = absurd h

pub members_answered : {E : Type 0} (k : Known) (found : Result (Option (List (List ℕ × TypeId))) E) (o : Option (List Field)) → IfOk found (λ f. FindsAll k f o) → IsAnswered k (as_members found) (given o (λ fields. means (members fields)))
members_answered k (Ok None) o none = subst (λ p. IsAnswered k (Ok judged.Waits) (given p (λ fields. means (members fields)))) (sym none) (refl, tt, refl)
members_answered k (Ok (Some ms)) o (fields, e, are) = subst (λ p. IsAnswered k (Ok (judged.Members ms)) (given p (λ fields. means (members fields)))) (sym e) (refl, are, refl)
members_answered k (Err e) o h = tt

module _ (table : List SynNode) (n : ℕ) where
  abbrev pub its_members : Option (List Field)
  its_members = all_of (map (member_at (places_in table) (judged_to table n)) (other_kids (node_in table n)))

  pub member_is : (node_in table n).label.kind ≡ kind.Member → judged_at table n ≡ given its_members (λ fields. means (members fields))
  unfolding judged_at judged_by member
  member_is is = ap (judged_by (places_in table) (judged_to table n) (node_in table n)) is

  pub member_layout : layout_in (given its_members (λ fields. means (members fields))) ≡ None
  member_layout = given_layout its_members (λ fields. means (members fields)) (λ fields. refl)

-- the member of a declarator with a type
pub field_at : (table : List SynNode) (js : List Judgement) (d : ℕ) (t : CType) → type_at js d ≡ Some t → member_at (places_in table) js d ≡ Some (record { name = text_at (nodes_in table) (node_at (nodes_in table) d).first; type = t; offset = 0 })
unfolding places_in nodes_in
field_at table js d t e = ap (option_map (λ t. record { name = text_at (nodes_in table) (node_at (nodes_in table) d).first; type = t; offset = 0 })) e

pub no_field : (table : List SynNode) (js : List Judgement) (d : ℕ) → type_at js d ≡ None → member_at (places_in table) js d ≡ None
unfolding places_in nodes_in
no_field table js d e = ap (option_map (λ t. record { name = text_at (nodes_in table) (node_at (nodes_in table) d).first; type = t; offset = 0 })) e
