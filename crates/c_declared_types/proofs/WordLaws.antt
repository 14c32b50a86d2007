-- Words among specs.
use Rattle.std.proofs.Common.{◌≡◌, ◌++◌, ◌+◌, ◌<◌, ◌≤◌, ◌&&◌, ◌||◌, ◌==◌, ℕ, Bool, true, false, not, if◌then◌else◌, length, filter, List, [], ◌∷◌, Option, Some, None, refl, sym, ap, ◌∙◌, subst, append_assoc, append-nil, arith, length-append}
use Rattle.std.specs.Prelude.{codes, find, option_map, unwrap_or, nat_le, Result}
use Rattle.std.specs.List.{list_all}
use Rattle.std.specs.Str.{bytes_eq}
use Rattle.std.proofs.lemmas.Bool.{false≢true, le-leb}
use Rattle.std.proofs.lemmas.Bool.Decides.{Decides-eqb}
use Rattle.std.proofs.lemmas.Slice.Eq.{bytes_eq-Decides}
use Rattle.std.proofs.lemmas.List.Elements.{filter-append}
use Rattle.c_grammar.specs.Vocabulary.{is_among, is_type_word, is_storage_word}
use Rattle.c_types.specs.declared.kind.TypeId.{TypeId}
use Rattle.c_typing.specs.Types.{CType, void}
use Rattle.c_typing.specs.Judgements.{Fault, rule}
use Rattle.c_typing.specs.Rules.{bad_type_words}
use Rattle.c_typing.specs.Declarators.{count_of, are_same_words, type_words, said_type, is_storage}
use Rattle.c_type_ids.specs.Ids.{Known, Names}
use Rattle.c_declared_types.specs.declared.type_words.Base.{Base}
use Rattle.c_declared_types.specs.declared.type_words.Base.TheVariants as base
use Rattle.c_declared_types.specs.declared.type_words.Length.{Length}
use Rattle.c_declared_types.specs.declared.type_words.Length.TheVariants as size
use Rattle.c_declared_types.specs.declared.type_words.Sign.{Sign}
use Rattle.c_declared_types.specs.declared.type_words.Sign.TheVariants as sign
use Rattle.c_declared_types.specs.declared.storage.StorageWord.{StorageWord}
use Rattle.c_declared_types.specs.declared.storage.StorageWord.TheVariants as storage
use Rattle.c_declared_types.specs.declared.storage.Storage.{Storage}
use Rattle.c_declared_types.specs.declared.specs_words.SpecsWords.{SpecsWords}
use Rattle.c_declared_types.specs.declared.type_words.TypeWords.{TypeWords}
use Rattle.c_answers.specs.declared.refusal.Refusal.{Refusal}
use Rattle.c_answers.specs.Answers.{Settles}
use Rattle.c_declared_types.proofs.CountLaws.{Texts, NoRow, one_if, count_append, count_cons, count_self, in_middle, names_none, entered, said_same}
use Rattle.c_declared_types.specs.Words.{base_text, length_text, sign_text, one_or_none, texts_in, AreSame, NameNone, SaysBy, Says, AreWords, IsStorage, storage_text}

-- ---- one more word

none_more : (words : Texts) (t : List ℕ) → NameNone words → NameNone (words ++ t ∷ [])
none_more words t h more = ap (λ ws. said_type ws []) (append_assoc words (t ∷ []) more) ∙ h (t ∷ more)

same_more : (xs ys words : Texts) (t : List ℕ) → AreSame (xs ++ ys) words → AreSame (xs ++ t ∷ ys) (words ++ t ∷ [])
same_more xs ys words t s = record {
  long = omega (arith, s.long, length-append xs ys, length-append xs (t ∷ ys), length-append words (t ∷ []));
  often = λ u. omega (arith, s.often u, count_append xs ys u, count_append xs (t ∷ ys) u, count_cons t ys u, count_append words (t ∷ []) u, count_cons t [] u);
}

-- a word of a sort of which none was there
added : (bad : Bool) (old new : TypeWords) (xs ys : Texts) (t : List ℕ) (words : Texts) → texts_in old.base old.length old.sign ≡ xs ++ ys → texts_in new.base new.length new.sign ≡ xs ++ t ∷ ys
    → SaysBy bad old words → SaysBy bad new (words ++ t ∷ [])
added true old new xs ys t words e f h = none_more words t h
added false old new xs ys t words e f h = subst (λ zs. AreSame zs (words ++ t ∷ [])) (sym f) (same_more xs ys words t (subst (λ zs. AreSame zs words) e h))

-- a second word of its sort
twice : (bad : Bool) (w : TypeWords) (xs ys : Texts) (a b : List ℕ) (words : Texts) → texts_in w.base w.length w.sign ≡ xs ++ a ∷ ys → NoRow a b → SaysBy bad w words → NameNone (words ++ b ∷ [])
twice true w xs ys a b words e never h = none_more words b h
twice false w xs ys a b words e never h =
    let same = subst (λ zs. AreSame zs words) e h in
    names_none (words ++ b ∷ []) a b (entered words a b (omega (arith, in_middle xs a ys, same.often a))) never

bases : (a b : Base) → NoRow (base_text a) (base_text b)
bases base.Void base.Void = refl
bases base.Void base.Bool = refl
bases base.Void base.Char = refl
bases base.Void base.Int = refl
bases base.Bool base.Void = refl
bases base.Bool base.Bool = refl
bases base.Bool base.Char = refl
bases base.Bool base.Int = refl
bases base.Char base.Void = refl
bases base.Char base.Bool = refl
bases base.Char base.Char = refl
bases base.Char base.Int = refl
bases base.Int base.Void = refl
bases base.Int base.Bool = refl
bases base.Int base.Char = refl
bases base.Int base.Int = refl

lengths : (a b : Length) → NoRow (length_text a) (length_text b)
lengths size.Short size.Short = refl
lengths size.Short size.Long = refl
lengths size.Long size.Short = refl
lengths size.Long size.Long = refl

signs : (a b : Sign) → NoRow (sign_text a) (sign_text b)
signs sign.Signed sign.Signed = refl
signs sign.Signed sign.Unsigned = refl
signs sign.Unsigned sign.Signed = refl
signs sign.Unsigned sign.Unsigned = refl

module _ (w : TypeWords) (words : Texts) (says : Says w words) where
  pub base_added : (b : Base) → w.base ≡ None → SaysBy w.is_bad (record w { base = Some b }) (words ++ base_text b ∷ [])
  base_added b e =
      added w.is_bad w (record w { base = Some b }) [] (one_or_none length_text w.length ++ one_or_none sign_text w.sign) (base_text b) words
      (ap (λ o. texts_in o w.length w.sign) e) refl says

  pub base_twice : (a b : Base) → w.base ≡ Some a → NameNone (words ++ base_text b ∷ [])
  base_twice a b e =
      twice w.is_bad w [] (one_or_none length_text w.length ++ one_or_none sign_text w.sign) (base_text a) (base_text b) words (ap (λ o. texts_in o w.length w.sign) e) (bases a b) says

  pub length_added : (l : Length) → w.length ≡ None → SaysBy w.is_bad (record w { length = Some l }) (words ++ length_text l ∷ [])
  length_added l e =
      added w.is_bad w (record w { length = Some l }) (one_or_none base_text w.base) (one_or_none sign_text w.sign) (length_text l) words
      (ap (λ o. texts_in w.base o w.sign) e ∙ append_assoc (one_or_none base_text w.base) [] (one_or_none sign_text w.sign)) (append_assoc (one_or_none base_text w.base) (length_text l ∷ []) (one_or_none sign_text w.sign)) says

  pub length_twice : (a b : Length) → w.length ≡ Some a → NameNone (words ++ length_text b ∷ [])
  length_twice a b e =
      twice w.is_bad w (one_or_none base_text w.base) (one_or_none sign_text w.sign) (length_text a) (length_text b) words
      (ap (λ o. texts_in w.base o w.sign) e ∙ append_assoc (one_or_none base_text w.base) (length_text a ∷ []) (one_or_none sign_text w.sign)) (lengths a b) says

  pub sign_added : (s : Sign) → w.sign ≡ None → SaysBy w.is_bad (record w { sign = Some s }) (words ++ sign_text s ∷ [])
  sign_added s e =
      added w.is_bad w (record w { sign = Some s }) (one_or_none base_text w.base ++ one_or_none length_text w.length) [] (sign_text s) words
      (ap (λ o. texts_in w.base w.length o) e) refl says

  pub sign_twice : (a b : Sign) → w.sign ≡ Some a → NameNone (words ++ sign_text b ∷ [])
  sign_twice a b e =
      twice w.is_bad w (one_or_none base_text w.base ++ one_or_none length_text w.length) [] (sign_text a) (sign_text b) words
      (ap (λ o. texts_in w.base w.length o) e) (signs a b) says

  -- the type that they name
  pub bad_said : w.is_bad ≡ true → said_type words [] ≡ None
  bad_said e = ap (λ ws. said_type ws []) (sym (append-nil words)) ∙ subst (λ b. SaysBy b w words) e says []

  pub good_said : w.is_bad ≡ false → said_type (texts_in w.base w.length w.sign) [] ≡ said_type words []
  good_said e = said_same (texts_in w.base w.length w.sign) words (subst (λ b. SaysBy b w words) e says)

-- ---- no word

not_empty : (x : List ℕ) (xs : Texts) → (length (x ∷ xs) == 0) ≡ false
not_empty x xs = by (length (x ∷ xs) == 0) refl
  where
    by : (b : Bool) → (length (x ∷ xs) == 0) ≡ b → b ≡ false
    by true e = absurd (omega (arith, (Decides-eqb (length (x ∷ xs)) 0).0 e))
    by false e = refl

int_alone : said_type (codes "int" ∷ []) [] ≡ None → ⊥
int_alone e = absurd (cc e)

pub bad_words : (w : TypeWords) (words : Texts) → Says w words → w.is_bad ≡ true → false ≡ (length words == 0)
bad_words w words says e = by words (subst (λ b. SaysBy b w words) e says)
  where
    by : (ws : Texts) → NameNone ws → false ≡ (length ws == 0)
    by [] h = absurd (int_alone (h (codes "int" ∷ [])))
    by (x ∷ ws) h = sym (not_empty x ws)

pub good_words : (w : TypeWords) (words : Texts) → Says w words → w.is_bad ≡ false → (length (texts_in w.base w.length w.sign) == 0) ≡ (length words == 0)
good_words w words says e = let same = subst (λ b. SaysBy b w words) e says in ap (λ n. n == 0) same.long

-- ---- all of specs

no_words : (words : Texts) → (length words == 0) ≡ true → words ≡ []
no_words [] e = refl
no_words (x ∷ words) e = absurd (false≢true (sym (not_empty x words) ∙ e))

pub said_one : (words : Texts) (t : CType) → (length words == 0) ≡ true → said_type words (t ∷ []) ≡ Some t
said_one words t e = ap (λ ws. said_type ws (t ∷ [])) (no_words words e)

pub said_not : (words : Texts) (t : CType) → (length words == 0) ≡ false → said_type words (t ∷ []) ≡ None
said_not [] t e = absurd (false≢true (sym e))
said_not (x ∷ words) t e = refl

pub said_many : (words : Texts) (ts : List CType) → 1 < length ts → said_type words ts ≡ None
said_many words [] h = absurd (omega (arith, h))
said_many words (t ∷ []) h = absurd (omega (arith, h))
said_many [] (t ∷ u ∷ ts) h = refl
said_many (x ∷ words) (t ∷ u ∷ ts) h = refl

pub no_type : (said : Option CType) (n : ℕ) → said ≡ None → (others : List Fault) × (bad_type_words said n ≡ rule 1 n ∷ others)
no_type said n e = ([], ap (λ o. bad_type_words o n) e)

pub a_type_said : (k : Known) (said : Option CType) (n : ℕ) (id : TypeId) (t : CType) → said ≡ Some t → Names k id t → (bad_type_words said n ≡ []) × Names k id (unwrap_or said void)
a_type_said k said n id t e h = (ap (λ o. bad_type_words o n) e, subst (λ o. Names k id (unwrap_or o void)) (sym e) h)

-- one more word of specs
pub kept_word : (test : List ℕ → Bool) (words : Texts) (t : List ℕ) → test t ≡ true → filter test (words ++ t ∷ []) ≡ filter test words ++ t ∷ []
kept_word test words t e = filter-append test words (t ∷ []) ∙ ap (λ b. filter test words ++ (if b then t ∷ [] else [])) e

pub left_word : (test : List ℕ → Bool) (words : Texts) (t : List ℕ) → test t ≡ false → filter test (words ++ t ∷ []) ≡ filter test words
left_word test words t e = filter-append test words (t ∷ []) ∙ ap (λ b. filter test words ++ (if b then t ∷ [] else [])) e ∙ append-nil (filter test words)

-- ---- sorts of words

none_same : (a b : List ℕ) → (b ≡ a → ⊥) → bytes_eq a b ≡ false
none_same a b h = by (bytes_eq a b) refl
  where
    by : (t : Bool) → bytes_eq a b ≡ t → t ≡ false
    by true e = absurd (h (sym ((bytes_eq-Decides a b).0 e)))
    by false e = refl

abbrev Differ : List ℕ → Texts → Type 0
Differ t [] = Unit {0}
Differ t (x ∷ xs) = (t ≡ x → ⊥) × Differ t xs

none_among : (t : List ℕ) (xs : Texts) → Differ t xs → is_among xs t ≡ false
none_among t [] h = refl
none_among t (x ∷ xs) h = ap (λ b. b || is_among xs t) (none_same x t h.0) ∙ none_among t xs h.1

pub no_type_word : (t : List ℕ) → (t ≡ codes "void" → ⊥) → (t ≡ codes "char" → ⊥) → (t ≡ codes "short" → ⊥) → (t ≡ codes "int" → ⊥) → (t ≡ codes "long" → ⊥) → (t ≡ codes "signed" → ⊥)
    → (t ≡ codes "unsigned" → ⊥) → (t ≡ codes "_Bool" → ⊥) → is_type_word t ≡ false
no_type_word t a b c d e f g h =
    none_among t (codes "void" ∷ codes "char" ∷ codes "short" ∷ codes "int" ∷ codes "long" ∷ codes "signed" ∷ codes "unsigned" ∷ codes "_Bool" ∷ []) (a, (b, (c, (d, (e, (f, (g, (h, tt))))))))

pub no_storage : (t : List ℕ) → (t ≡ codes "typedef" → ⊥) → (t ≡ codes "extern" → ⊥) → (t ≡ codes "static" → ⊥) → (t ≡ codes "auto" → ⊥) → (t ≡ codes "register" → ⊥) → is_storage t ≡ false
no_storage t a b c d e = by (bytes_eq t (codes "const")) refl
  where
    last : (x : Bool) → (x && false) ≡ false
    last true = refl
    last false = refl

    by : (k : Bool) → bytes_eq t (codes "const") ≡ k → (is_storage_word t && not k) ≡ false
    by true h = last (is_storage_word t)
    by false h =
        ap (λ x. x && true)
        (none_among t (codes "typedef" ∷ codes "extern" ∷ codes "static" ∷ codes "auto" ∷ codes "register" ∷ codes "const" ∷ [])
        (a, (b, (c, (d, (e, ((λ same. false≢true (sym h ∙ (bytes_eq-Decides t (codes "const")).1 same)), tt)))))))

pub base_word : (b : Base) → (is_type_word (base_text b) ≡ true) × (is_storage (base_text b) ≡ false)
base_word base.Void = (refl, refl)
base_word base.Bool = (refl, refl)
base_word base.Char = (refl, refl)
base_word base.Int = (refl, refl)

pub length_word : (l : Length) → (is_type_word (length_text l) ≡ true) × (is_storage (length_text l) ≡ false)
length_word size.Short = (refl, refl)
length_word size.Long = (refl, refl)

pub sign_word : (s : Sign) → (is_type_word (sign_text s) ≡ true) × (is_storage (sign_text s) ≡ false)
sign_word sign.Signed = (refl, refl)
sign_word sign.Unsigned = (refl, refl)

pub storage_word : (s : StorageWord) → (is_type_word (storage_text s) ≡ false) × (is_storage (storage_text s) ≡ true)
storage_word storage.Typedef = (refl, refl)
storage_word storage.Extern = (refl, refl)
storage_word storage.Static = (refl, refl)
storage_word storage.Auto = (refl, refl)
storage_word storage.Register = (refl, refl)

pub type_added : (old : SpecsWords) (new : TypeWords) (words : Texts) (text t : List ℕ) → text ≡ t → (is_type_word t ≡ true) × (is_storage t ≡ false) → AreWords old words
    → Says new (filter is_type_word words ++ t ∷ []) → AreWords (record { types = new; storage = old.storage }) (words ++ text ∷ [])
type_added old new words text t e sort h says =
    rw e (record { types = subst (Says new) (sym (kept_word is_type_word words t sort.0)) says; storage = subst (IsStorage old.storage) (sym (left_word is_storage words t sort.1)) h.storage })

pub storage_added : (old : SpecsWords) (new : Storage) (words : Texts) (text t : List ℕ) → text ≡ t → (is_type_word t ≡ false) × (is_storage t ≡ true) → AreWords old words
    → IsStorage new (filter is_storage words ++ t ∷ []) → AreWords (record { types = old.types; storage = new }) (words ++ text ∷ [])
storage_added old new words text t e sort h is =
    rw e (record { types = subst (Says old.types) (sym (left_word is_type_word words t sort.0)) h.types; storage = subst (IsStorage new) (sym (kept_word is_storage words t sort.1)) is })

pub nothing_added : (old : SpecsWords) (words : Texts) (t : List ℕ) → (is_type_word t ≡ false) × (is_storage t ≡ false) → AreWords old words → AreWords old (words ++ t ∷ [])
nothing_added old words t sort h =
    record { types = subst (Says old.types) (sym (left_word is_type_word words t sort.0)) h.types; storage = subst (IsStorage old.storage) (sym (left_word is_storage words t sort.1)) h.storage }

pub some_said : (k : Known) (said : Option CType) (n : ℕ) (t : CType) (r : Result TypeId Refusal) → said ≡ Some t → Settles (λ id. Names k id t) r []
    → Settles (λ id. Names k id (unwrap_or said void)) r (bad_type_words said n)
some_said k said n t r e h = subst (λ o. Settles (λ id. Names k id (unwrap_or o void)) r (bad_type_words o n)) (sym e) h
