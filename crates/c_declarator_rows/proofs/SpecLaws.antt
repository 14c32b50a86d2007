-- What specs say, word by word and together.
use Rattle.std.proofs.Common.{◌≡◌, ◌≢◌, ℕ, ◌+◌, ◌<◌, true, false, List, [], ◌∷◌, ◌++◌, length, Option, Some, None, refl, sym, ap, ◌∙◌, subst, arith, append-nil, get_or, take}
use Rattle.std.specs.Prelude.{Result, Ok, Err, Bool, filter, flat_map, if◌then◌else◌, map, unwrap_or}
use Rattle.std.proofs.lemmas.List.{length-append}
use Rattle.c_syntax.specs.declared.syntax.SynId.{SynId}
use Rattle.c_syntax.specs.declared.syntax.SynNode.{SynNode}
use Rattle.c_syntax.specs.declared.kind.SynKind.{SynKind}
use Rattle.c_syntax.specs.declared.kind.SynKind.TheVariants as kind
use Rattle.c_grammar.specs.Vocabulary.{is_type_word}
use Rattle.c_types.specs.declared.kind.TypeId.{TypeId}
use Rattle.c_typing.specs.Types.{CType, void, pointer, unsized, struct}
use Rattle.c_typing.specs.Places.{Node, is_word, kind_at, numbers, parent_of, text_at}
use Rattle.c_typing.specs.Judgements.{Fault, rule, Judgement, Meaning, a_struct, a_type, all_of, besides, breaks_rules, faults_in, given, itself, judgement_at, layout_in, means, verdict, waits}
use Rattle.c_typing.specs.Rules.{bad_storage_class, bad_type_words, broken_if, of_member_or_type_name}
use Rattle.c_typing.specs.Declarators.{is_storage, place_of_specs, said_type, spec_meaning, specs, specs_place}
use Rattle.c_typing.specs.Typing.{judged_by}
use Rattle.c_nodes.specs.Parents.{nodes_in}
use Rattle.c_names.specs.Denoted.{places_in}
use Rattle.c_type_ids.specs.Ids.{Keeps, Known, Names}
use Rattle.c_values.specs.declared.typings.«Type».{«Type» as TypeForm}
use Rattle.c_values.specs.declared.typings.«Type».TheVariants as type
use Rattle.c_values.specs.Typings.{IsType}
use Rattle.c_values.proofs.GrowLaws.{type_grows}
use Rattle.c_answers.specs.declared.refusal.Refusal.{Refusal}
use Rattle.c_answers.specs.declared.refusal.Refusal.TheVariants as refusal
use Rattle.c_answers.specs.Answers.{IsFirst, Settles}
use Rattle.c_declared_types.specs.declared.specs_words.Given.{Given}
use Rattle.c_declared_types.specs.declared.specs_words.SpecsWords.{SpecsWords}
use Rattle.c_declared_types.specs.Words.{AreGiven, AreWords}
use Rattle.c_judgements.specs.declared.judged.Judged.{Judged}
use Rattle.c_judgements.specs.declared.judged.Judged.TheVariants as judged
use Rattle.c_judgements.specs.Judged.{IsJudged}
use Rattle.c_meanings.specs.Meanings.{IsAnswered, is_whole, judged_at, judged_to, node_in}
use Rattle.c_declarator_rows.specs.declared.said.Said.{Said}
use Rattle.c_declarator_rows.specs.declared.said.Said.TheVariants as said
use Rattle.c_declarator_rows.specs.Said.{AreSaid, Says, as_answer, as_specs, declaration_place, given_of, words_in}
use Rattle.c_declarator_rows.proofs.ListLaws.{numbers_next}

-- ---- answers

pub faults_verdict : (fs : List Fault) (m : Meaning) → faults_in (verdict fs m) ≡ fs
faults_verdict [] m = refl
faults_verdict (f ∷ fs) m = refl

-- what is settled is answered
pub settled : {A : Type 0} (k : Known) (P : A → Type 0) (slot : A → Judged) (found : Result A Refusal) (fs : List Fault) (m : Meaning) → ((a : A) → P a → IsJudged k (slot a) (means m) × (is_whole (slot a) ≡ true))
    → Settles P found fs → IsAnswered k (as_answer slot found) (verdict fs m)
settled k P slot (Ok a) fs m judge (none, is) =
    let (j, w) = judge a is in subst (λ gs. IsAnswered k (Ok (slot a)) (verdict gs m)) (sym none) (refl, j, w)
settled k P slot (Err r) fs m judge first = subst (IsFirst r) (sym (faults_verdict fs m)) first

-- a rule that is broken beside what a node means
pub besides_broken : (k : Known) (r n : ℕ) (fs gs : List Fault) (j : Judgement) → fs ≡ rule r n ∷ gs → IsAnswered k (Err (refusal.Broken r n)) (besides fs j)
besides_broken k r n fs gs j e = subst (λ hs. IsAnswered k (Err (refusal.Broken r n)) (besides hs j)) (sym e) (by j)
  where
    by : (j : Judgement) → IsAnswered k (Err (refusal.Broken r n)) (besides (rule r n ∷ gs) j)
    by (breaks_rules h hs) = (gs ++ h ∷ hs, refl)
    by (means m) = (gs, refl)
    by waits = (gs, refl)

pub besides_none : (k : Known) (answer : Result Judged Refusal) (fs : List Fault) (j : Judgement) → fs ≡ [] → IsAnswered k answer j → IsAnswered k answer (besides fs j)
besides_none k answer fs j e h = subst (λ gs. IsAnswered k answer (besides gs j)) (sym e) h

pub besides_layout : (fs : List Fault) (j : Judgement) → layout_in j ≡ None → layout_in (besides fs j) ≡ None
besides_layout [] j e = e
besides_layout (f ∷ fs) (breaks_rules g gs) e = refl
besides_layout (f ∷ fs) (means m) e = refl
besides_layout (f ∷ fs) waits e = refl

pub verdict_layout : (fs : List Fault) (m : Meaning) → layout_in (means m) ≡ None → layout_in (verdict fs m) ≡ None
verdict_layout [] m e = e
verdict_layout (f ∷ fs) m e = refl

-- where a part has no meaning
pub given_waits : {A : Type 0} (k : Known) (o : Option A) (f : A → Judgement) → o ≡ None → IsAnswered k (Ok judged.Waits) (given o f)
given_waits k o f e = subst (λ p. IsAnswered k (Ok judged.Waits) (given p f)) (sym e) (refl, tt, refl)

pub given_some : {A : Type 0} (k : Known) (answer : Result Judged Refusal) (o : Option A) (a : A) (f : A → Judgement) → o ≡ Some a → IsAnswered k answer (f a) → IsAnswered k answer (given o f)
given_some k answer o a f e h = subst (λ p. IsAnswered k answer (given p f)) (sym e) h

pub given_layout : {A : Type 0} (o : Option A) (f : A → Judgement) → ((a : A) → layout_in (f a) ≡ None) → layout_in (given o f) ≡ None
given_layout None f h = refl
given_layout (Some a) f h = h a

-- ---- words

pub words_more : (s : List Node) (ns : List ℕ) (n : ℕ) → is_word (kind_at s n) ≡ true → words_in s (ns ++ n ∷ []) ≡ words_in s ns ++ text_at s n ∷ []
words_more s [] n e = ap (λ b. map (text_at s) (if b then n ∷ [] else [])) e
words_more s (m ∷ ns) n e = by (is_word (kind_at s m)) (words_more s ns n e)
  where
    by : (b : Bool) → words_in s (ns ++ n ∷ []) ≡ words_in s ns ++ text_at s n ∷ []
        → map (text_at s) (if b then m ∷ filter (λ k. is_word (kind_at s k)) (ns ++ n ∷ []) else filter (λ k. is_word (kind_at s k)) (ns ++ n ∷ []))
        ≡ map (text_at s) (if b then m ∷ filter (λ k. is_word (kind_at s k)) ns else filter (λ k. is_word (kind_at s k)) ns) ++ text_at s n ∷ []
    by true h = ap (λ ts. text_at s m ∷ ts) h
    by false h = h

pub words_same : (s : List Node) (ns : List ℕ) (n : ℕ) → is_word (kind_at s n) ≡ false → words_in s (ns ++ n ∷ []) ≡ words_in s ns
words_same s [] n e = ap (λ b. map (text_at s) (if b then n ∷ [] else [])) e
words_same s (m ∷ ns) n e = by (is_word (kind_at s m)) (words_same s ns n e)
  where
    by : (b : Bool) → words_in s (ns ++ n ∷ []) ≡ words_in s ns
        → map (text_at s) (if b then m ∷ filter (λ k. is_word (kind_at s k)) (ns ++ n ∷ []) else filter (λ k. is_word (kind_at s k)) (ns ++ n ∷ []))
        ≡ map (text_at s) (if b then m ∷ filter (λ k. is_word (kind_at s k)) ns else filter (λ k. is_word (kind_at s k)) ns)
    by true h = ap (λ ts. text_at s m ∷ ts) h
    by false h = h

module _ (s : List Node) (kids : List SynId) (i : ℕ) (d : SynId) (within : i < length kids) (w : SpecsWords) (so_far : AreWords w (words_in s (take i (numbers kids)))) where
  pub word_next : (v : SpecsWords) (text : List ℕ) → is_word (kind_at s (get_or kids i d).number) ≡ true → text ≡ text_at s (get_or kids i d).number → ((words : List (List ℕ)) → AreWords w words → AreWords v (words ++ text ∷ []))
      → AreWords v (words_in s (take (i + 1) (numbers kids)))
  word_next v text is same with_it =
      subst (AreWords v) (sym (ap (words_in s) (numbers_next kids i d within) ∙ words_more s (take i (numbers kids)) (get_or kids i d).number is))
      (subst (λ t. AreWords v (words_in s (take i (numbers kids)) ++ t ∷ [])) same (with_it (words_in s (take i (numbers kids))) so_far))

  pub other_next : is_word (kind_at s (get_or kids i d).number) ≡ false → AreWords w (words_in s (take (i + 1) (numbers kids)))
  other_next is = subst (AreWords w) (sym (ap (words_in s) (numbers_next kids i d within) ∙ words_same s (take i (numbers kids)) (get_or kids i d).number is)) so_far

-- where specs stand, by the number of the node that they are a kid of
module _ (table : List SynNode) (n owner : ℕ) (own : (node_in table n).id ≡ n) (above : owner ≡ (node_in table n).parent) where
  outer_of : parent_of (nodes_in table) (node_in table n).id ≡ node_in table owner
  outer_of = ap (parent_of (nodes_in table)) own ∙ ap (node_in table) (sym above)

  place_is : place_of_specs (places_in table) (node_in table n) ≡ specs_place (node_in table owner).label.kind (parent_of (nodes_in table) (node_in table owner).id).label.kind
  unfolding places_in nodes_in
  place_is = ap (λ (o : Node). specs_place o.label.kind (parent_of (nodes_in table) o.id).label.kind) outer_of

  pub kind_place : (k : SynKind) → (node_in table owner).label.kind ≡ k → place_of_specs (places_in table) (node_in table n) ≡ specs_place k (parent_of (nodes_in table) (node_in table owner).id).label.kind
  kind_place k e = place_is ∙ ap (λ k. specs_place k (parent_of (nodes_in table) (node_in table owner).id).label.kind) e

  in_declaration : (outer : SynKind) → specs_place kind.Declaration outer ≡ declaration_place outer
  in_declaration kind.Unit = refl
  in_declaration kind.For = refl
  in_declaration _ = refl

  pub declaration_is : (outer : SynKind) → (node_in table owner).label.kind ≡ kind.Declaration → (node_in table owner).id ≡ owner → outer ≡ kind_at (nodes_in table) (node_in table owner).parent
      → declaration_place outer ≡ place_of_specs (places_in table) (node_in table n)
  declaration_is outer e its same =
      sym (kind_place kind.Declaration e ∙ ap (λ i. specs_place kind.Declaration (parent_of (nodes_in table) i).label.kind) its ∙ ap (specs_place kind.Declaration) (sym same) ∙ in_declaration outer)

  pub other_place : (k : SynKind) → k ≢ kind.Function → k ≢ kind.Param → k ≢ kind.Declaration → (node_in table owner).label.kind ≡ k → of_member_or_type_name ≡ place_of_specs (places_in table) (node_in table n)
  other_place k a b c e = sym (kind_place k e ∙ by k (parent_of (nodes_in table) (node_in table owner).id).label.kind a b c)
    where
      by : (k outer : SynKind) → k ≢ kind.Function → k ≢ kind.Param → k ≢ kind.Declaration → specs_place k outer ≡ of_member_or_type_name
      by kind.Function outer a b c = absurd (a refl)
      by kind.Param outer a b c = absurd (b refl)
      by kind.Declaration outer a b c = absurd (c refl)
      by _ outer a b c = refl

-- ---- types among them

pub meaning_said : (k : Known) (kind : TypeForm) (j : Judgement) → IsJudged k (judged.«Type» kind) j → Says k (Some (said.One kind)) (spec_meaning j)
meaning_said k kind (means (a_type t)) is = (t ∷ [], refl, (t, refl, is))
meaning_said k kind (means m) is = absurd is
meaning_said k kind (breaks_rules f fs) is = absurd is
meaning_said k kind waits is = absurd is

pub struct_said : (k : Known) (id : TypeId) (j : Judgement) → IsJudged k (judged.Struct id) j → Says k (Some (said.One (type.Known id))) (spec_meaning j)
struct_said k id (means (a_struct l)) is = (struct l.number ∷ [], refl, (struct l.number, refl, is))
struct_said k id (means m) is = absurd is
struct_said k id (breaks_rules f fs) is = absurd is
struct_said k id waits is = absurd is

pub itself_said : (k : Known) (j : Judgement) → IsJudged k judged.Itself j → Says k (Some said.Nothing) (spec_meaning j)
itself_said k (means itself) is = ([], refl, refl)
itself_said k (means m) is = absurd is
itself_said k (breaks_rules f fs) is = absurd is
itself_said k waits is = absurd is

pub nothing_said : (k : Known) (s : Judged) (j : Judgement) → s ≢ judged.Itself → ((kind : TypeForm) → s ≢ judged.«Type» kind) → ((id : TypeId) → s ≢ judged.Struct id) → IsJudged k s j → spec_meaning j ≡ None
nothing_said k judged.Itself j a b c is = absurd (a refl)
nothing_said k (judged.«Type» kind) j a b c is = absurd (b kind refl)
nothing_said k (judged.Struct id) j a b c is = absurd (c id refl)
nothing_said k judged.Taken (means itself) a b c is = absurd (cc is)
nothing_said k judged.Taken (means (a_type t)) a b c is = absurd (cc is)
nothing_said k judged.Taken (means (a_struct l)) a b c is = absurd (cc is)
nothing_said k s (means itself) a b c is = absurd is
nothing_said k s (means (a_type t)) a b c is = absurd is
nothing_said k s (means (a_struct l)) a b c is = absurd is
nothing_said k s (means m) a b c is = refl
nothing_said k s (breaks_rules f fs) a b c is = refl
nothing_said k s waits a b c is = refl

-- two of them together
pub nothing_and : (k : Known) (s : Said) (ts us : List CType) → AreSaid k said.Nothing ts → AreSaid k s us → AreSaid k s (ts ++ us)
nothing_and k s ts us none is = subst (λ xs. AreSaid k s (xs ++ us)) (sym none) is

pub and_nothing : (k : Known) (s : Said) (ts us : List CType) → AreSaid k s ts → AreSaid k said.Nothing us → AreSaid k s (ts ++ us)
and_nothing k s ts us is none = subst (λ xs. AreSaid k s (ts ++ xs)) (sym none) (subst (AreSaid k s) (sym (append-nil ts)) is)

pub some_said : (k : Known) (s : Said) (ts : List CType) → s ≢ said.Nothing → AreSaid k s ts → 0 < length ts
some_said k said.Nothing ts other is = absurd (other refl)
some_said k (said.One kind) ts other (t, e, is) = subst (λ xs. 0 < length xs) (sym e) (omega arith)
some_said k said.Many ts other is = omega (arith, is)

pub many_said : (k : Known) (a b : Said) (ts us : List CType) → a ≢ said.Nothing → b ≢ said.Nothing → AreSaid k a ts → AreSaid k b us → AreSaid k said.Many (ts ++ us)
many_said k a b ts us some others is its =
    let left = some_said k a ts some is in
    let right = some_said k b us others its in
    let all = length-append ts us in
    omega (arith, left, right, all)

-- ---- by ids alone

pub given_there : (k : Known) (s : Said) (ts : List CType) → AreSaid k s ts → (us : List CType) × AreGiven k (given_of s) us
given_there k said.Nothing ts is = ([], refl)
given_there k (said.One (type.Known id)) ts (t, e, is) = (t ∷ [], (t, refl, is))
given_there k (said.One (type.Unsized id)) ts (unsized t, e, is) = (t ∷ [], (t, refl, is))
given_there k (said.One (type.Unsized id)) ts (t, e, is) = absurd is
given_there k (said.One (type.ToUnsized id)) ts (pointer (unsized t), e, is) = (t ∷ [], (t, refl, is))
given_there k (said.One (type.ToUnsized id)) ts (pointer t, e, is) = absurd is
given_there k (said.One (type.ToUnsized id)) ts (t, e, is) = absurd is
given_there k said.Many ts is = (ts, is)

abbrev pub said_meaning : List (List ℕ) → ℕ → List CType → Judgement
said_meaning words n ts = verdict (bad_type_words (said_type words ts) n) (a_type (unwrap_or (said_type words ts) void))

module _ (old new : Known) (keeps : Keeps old new) (words : List (List ℕ)) (n : ℕ) (found : Result TypeId Refusal) where
  abbrev pub IsSettled : List CType → Type 0
  IsSettled us = Settles (λ id. Names new id (unwrap_or (said_type words us) void)) found (bad_type_words (said_type words us) n)

  same_types : (s : Said) (ts : List CType) → ((id : TypeId) → as_specs s id ≡ judged.«Type» (type.Known id)) → IsSettled ts → IsAnswered new (as_answer (as_specs s) found) (said_meaning words n ts)
  same_types s ts known h =
      settled new (λ id. Names new id (unwrap_or (said_type words ts) void)) (as_specs s) found (bad_type_words (said_type words ts) n) (a_type (unwrap_or (said_type words ts) void))
      (λ id is. (subst (λ x. IsJudged new x (means (a_type (unwrap_or (said_type words ts) void)))) (sym (known id)) is, ap is_whole (known id))) h

  one_type : (kind : TypeForm) (t u : CType) → IsType old kind t → IsSettled (u ∷ []) → IsAnswered new (as_answer (as_specs (said.One kind)) found) (said_meaning words n (t ∷ []))
  one_type kind t u is = by words found
    where
      by : (words : List (List ℕ)) (found : Result TypeId Refusal) → Settles (λ id. Names new id (unwrap_or (said_type words (u ∷ [])) void)) found (bad_type_words (said_type words (u ∷ [])) n)
          → IsAnswered new (as_answer (as_specs (said.One kind)) found) (said_meaning words n (t ∷ []))
      by [] (Ok id) h = (refl, type_grows old new keeps kind t is, refl)
      by [] (Err r) h = h
      by (w ∷ ws) (Ok id) (none, h) = absurd (cc none)
      by (w ∷ ws) (Err r) h = h

  pub specs_answered : (s : Said) (ts : List CType) → AreSaid old s ts → ((us : List CType) → AreGiven old (given_of s) us → IsSettled us) → IsAnswered new (as_answer (as_specs s) found) (said_meaning words n ts)
  specs_answered said.Nothing ts is h = same_types said.Nothing ts (λ id. refl) (h ts is)
  specs_answered (said.One kind) ts (t, e, is) h =
      let (us, u) = given_there old (said.One kind) (t ∷ []) (t, refl, is) in
      let (v, f, named) = u in
      subst (λ xs. IsAnswered new (as_answer (as_specs (said.One kind)) found) (said_meaning words n xs)) (sym e) (one_type kind t v is (h (v ∷ []) (v, refl, named)))
  specs_answered said.Many ts is h = same_types said.Many ts (λ id. refl) (h ts is)

-- ---- specs together

module _ (table : List SynNode) (n : ℕ) where
  abbrev pub its_words : List (List ℕ)
  its_words = words_in (nodes_in table) (node_in table n).kids

  -- by its storage words and by what its kids say
  abbrev pub specs_by : List Fault → Option (List (List CType)) → Judgement
  specs_by fs o = besides fs (given o (λ types. said_meaning (filter is_type_word its_words) (node_in table n).id (flat_map (λ ts. ts) types)))

  abbrev pub its_types : Option (List (List CType))
  its_types = all_of (map (λ i. spec_meaning (judgement_at (judged_to table n) i)) (node_in table n).kids)

  abbrev pub its_storage : List Fault
  its_storage = bad_storage_class (place_of_specs (places_in table) (node_in table n)) (filter is_storage its_words) (node_in table n).id

  pub specs_is : (node_in table n).label.kind ≡ kind.Specs → judged_at table n ≡ specs_by its_storage its_types
  unfolding judged_at judged_by specs places_in nodes_in
  specs_is is = ap (judged_by (places_in table) (judged_to table n) (node_in table n)) is

  pub specs_layout : (fs : List Fault) (o : Option (List (List CType))) → layout_in (specs_by fs o) ≡ None
  specs_layout fs o =
      besides_layout fs (given o (λ types. said_meaning (filter is_type_word its_words) (node_in table n).id (flat_map (λ ts. ts) types)))
      (given_layout o (λ types. said_meaning (filter is_type_word its_words) (node_in table n).id (flat_map (λ ts. ts) types))
      (λ types. verdict_layout (bad_type_words (said_type (filter is_type_word its_words) (flat_map (λ ts. ts) types)) (node_in table n).id) (a_type (unwrap_or (said_type (filter is_type_word its_words) (flat_map (λ ts. ts) types)) void)) refl))

  pub storage_broken : (k : Known) (o : Option (List (List CType))) → (node_in table n).id ≡ n → its_storage ≡ broken_if true 2 (node_in table n).id → IsAnswered k (Err (refusal.Broken 2 n)) (specs_by its_storage o)
  storage_broken k o own e = besides_broken k 2 n its_storage [] (given o (λ types. said_meaning (filter is_type_word its_words) (node_in table n).id (flat_map (λ ts. ts) types))) (e ∙ ap (λ i. rule 2 i ∷ []) own)

  pub specs_waits : (k : Known) → its_storage ≡ [] → its_types ≡ None → IsAnswered k (Ok judged.Waits) (specs_by its_storage its_types)
  specs_waits k e none =
      let f : List (List CType) → Judgement = λ types. said_meaning (filter is_type_word its_words) (node_in table n).id (flat_map (λ ts. ts) types) in
      besides_none k (Ok judged.Waits) its_storage (given its_types f) e (given_waits k its_types f none)

  pub specs_made : (old new : Known) → Keeps old new → (node_in table n).id ≡ n → (found : Result TypeId Refusal) (s : Said) (g : Given) (tss : List (List CType)) → g ≡ given_of s → its_storage ≡ [] → its_types ≡ Some tss
      → AreSaid old s (flat_map (λ ts. ts) tss)
      → ((us : List CType) → AreGiven old g us → Settles (λ id. Names new id (unwrap_or (said_type (filter is_type_word its_words) us) void)) found (bad_type_words (said_type (filter is_type_word its_words) us) n))
      → IsAnswered new (as_answer (as_specs s) found) (specs_by its_storage its_types)
  specs_made old new keeps own found s g tss same e there is h =
      let f : List (List CType) → Judgement = λ types. said_meaning (filter is_type_word its_words) (node_in table n).id (flat_map (λ ts. ts) types) in
      besides_none new (as_answer (as_specs s) found) its_storage (given its_types f) e
      (given_some new (as_answer (as_specs s) found) its_types tss f there
      (specs_answered old new keeps (filter is_type_word its_words) (node_in table n).id found s (flat_map (λ ts. ts) tss) is
      (λ us given. subst (λ i. Settles (λ id. Names new id (unwrap_or (said_type (filter is_type_word its_words) us) void)) found (bad_type_words (said_type (filter is_type_word its_words) us) i)) (sym own)
      (h us (subst (λ x. AreGiven old x us) (sym same) given)))))
