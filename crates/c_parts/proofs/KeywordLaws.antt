-- A word is sought at one slot of the table of keywords.
use Rattle.std.proofs.Common.{◌≡◌, ℕ, zero, suc, Bool, true, false, ◌||◌, ◌&&◌, not, List, [], ◌∷◌, codes, refl, sym, ap, ◌∙◌, subst, map}
use Rattle.std.proofs.Math.ListN.{get_or}
use Rattle.std.specs.List.{list_all}
use Rattle.std.specs.Str.{bytes_eq}
use Rattle.std.proofs.lemmas.Slice.Eq.{bytes_eq-Decides}
use Rattle.c_grammar.specs.Vocabulary.{is_among, is_identifier, keywords, is_type_word, is_storage_word}
use Rattle.c_parts.specs.Slots.{slot_of}
use Rattle.c_parts.specs.declared.words.TheConstants.{KEYWORDS}

both : (a b : Bool) → (a && b) ≡ true → (a ≡ true) × (b ≡ true)
both true b e = (refl, e)
both false b e = absurd (cc e)

same_tests : (a b : Bool) → (a ≡ true → b ≡ true) → (b ≡ true → a ≡ true) → a ≡ b
same_tests true b f g = sym (f refl)
same_tests false true f g = g refl
same_tests false false f g = refl

-- ---- words among others

-- a word among those that pass a test passes it
among_all : (test : List ℕ → Bool) (words : List (List ℕ)) (text : List ℕ) → list_all test words ≡ true → is_among words text ≡ true → test text ≡ true
among_all test [] text all e = absurd (cc e)
among_all test (word ∷ words) text all e = at (bytes_eq word text) refl e (among_all test words text (both (test word) (list_all test words) all).1)
  where
    at : (b : Bool) → bytes_eq word text ≡ b → (b || is_among words text) ≡ true → (is_among words text ≡ true → test text ≡ true) → test text ≡ true
    at true h f later = subst (λ w. test w ≡ true) ((bytes_eq-Decides word text).0 h) (both (test word) (list_all test words) all).0
    at false h f later = later f

-- a word of a list in which all are keywords is one
no_other : (words : List (List ℕ)) (text : List ℕ) → list_all (is_among keywords) words ≡ true → is_identifier text ≡ true → is_among words text ≡ false
no_other words text all e = at (is_among words text) refl
  where
    at : (b : Bool) → is_among words text ≡ b → b ≡ false
    at false h = refl
    at true h = absurd (cc (sym (ap not (among_all (is_among keywords) words text all h)) ∙ e))

pub no_type_word : (text : List ℕ) → is_identifier text ≡ true → is_type_word text ≡ false
no_type_word text = no_other (codes "void" ∷ codes "char" ∷ codes "short" ∷ codes "int" ∷ codes "long" ∷ codes "signed" ∷ codes "unsigned" ∷ codes "_Bool" ∷ []) text refl

pub no_storage_word : (text : List ℕ) → is_identifier text ≡ true → is_storage_word text ≡ false
no_storage_word text = no_other (codes "typedef" ∷ codes "extern" ∷ codes "static" ∷ codes "auto" ∷ codes "register" ∷ codes "const" ∷ []) text refl

-- ---- the table

element_passes : (test : List ℕ → Bool) (words : List (List ℕ)) (i : ℕ) (d : List ℕ) → list_all test words ≡ true → test d ≡ true → test (get_or words i d) ≡ true
element_passes test [] i d all e = e
element_passes test (word ∷ words) zero d all e = (both (test word) (list_all test words) all).0
element_passes test (word ∷ words) (suc i) d all e = element_passes test words i d (both (test word) (list_all test words) all).1 e

-- what stands at a slot: a keyword, or an empty text
abbrev pub keyword_at : ℕ → List ℕ
keyword_at slot = get_or (map (λ k. k.now) KEYWORDS) slot []

is_own_slot : List ℕ → Bool
is_own_slot word = bytes_eq (keyword_at (slot_of word)) word

is_keyword_or_empty : List ℕ → Bool
is_keyword_or_empty word = is_among keywords word || bytes_eq word []

keywords_have_slots : list_all is_own_slot keywords ≡ true
unfolding is_own_slot
keywords_have_slots = refl

slots_have_keywords : list_all is_keyword_or_empty (map (λ k. k.now) KEYWORDS) ≡ true
unfolding is_keyword_or_empty
slots_have_keywords = refl

there : (text : List ℕ) → is_among keywords text ≡ true → bytes_eq (keyword_at (slot_of text)) text ≡ true
unfolding is_own_slot
there text e = among_all is_own_slot keywords text keywords_have_slots e

or_false : (b : Bool) → (b || false) ≡ true → b ≡ true
or_false true e = e
or_false false e = e

only_there : (text : List ℕ) → bytes_eq (keyword_at (slot_of text)) text ≡ true → is_among keywords text ≡ true
unfolding is_keyword_or_empty
only_there [] e = absurd (cc e)
only_there (byte ∷ rest) e =
    let same = (bytes_eq-Decides (keyword_at (slot_of (byte ∷ rest))) (byte ∷ rest)).0 e in
    let here = element_passes is_keyword_or_empty (map (λ k. k.now) KEYWORDS) (slot_of (byte ∷ rest)) [] slots_have_keywords refl in
    or_false (is_among keywords (byte ∷ rest)) (subst (λ word. (is_among keywords word || bytes_eq word []) ≡ true) same here)

pub sought : (text : List ℕ) → bytes_eq (keyword_at (slot_of text)) text ≡ is_among keywords text
sought text = same_tests (bytes_eq (keyword_at (slot_of text)) text) (is_among keywords text) (only_there text) (there text)
