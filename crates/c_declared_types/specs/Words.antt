-- Words among specs as the code has them, and as the rules do.
use Rattle.std.specs.Prelude.{◌≡◌, ℕ, Bool, true, false, List, [], ◌∷◌, ◌++◌, ◌<◌, length, filter, codes, Option, Some, None}
use Rattle.c_grammar.specs.Vocabulary.{is_type_word}
use Rattle.c_typing.specs.Types.{CType, void, integer}
use Rattle.c_typing.specs.Rules as rules
use Rattle.c_typing.specs.Declarators.{count_of, is_storage, said_type}
use Rattle.c_type_ids.specs.Integers.{integer_of}
use Rattle.c_type_ids.specs.Ids.{Known, Names}
use Rattle.c_declared_types.specs.declared.type_words.Base.{Base}
use Rattle.c_declared_types.specs.declared.type_words.Base.TheVariants as base
use Rattle.c_declared_types.specs.declared.type_words.Length.{Length}
use Rattle.c_declared_types.specs.declared.type_words.Length.TheVariants as size
use Rattle.c_declared_types.specs.declared.type_words.Sign.{Sign}
use Rattle.c_declared_types.specs.declared.type_words.Sign.TheVariants as sign
use Rattle.c_declared_types.specs.declared.storage.StorageWord.{StorageWord}
use Rattle.c_declared_types.specs.declared.storage.StorageWord.TheVariants as storage
use Rattle.c_declared_types.specs.declared.specs_words.Word.{Word}
use Rattle.c_declared_types.specs.declared.specs_words.Word.TheVariants as word
use Rattle.c_declared_types.specs.declared.type_words.TypeWords.{TypeWords}
use Rattle.c_declared_types.specs.declared.type_words.Said.{Said}
use Rattle.c_declared_types.specs.declared.type_words.Said.TheVariants as said
use Rattle.c_declared_types.specs.declared.storage.Storage.{Storage}
use Rattle.c_declared_types.specs.declared.storage.Storage.TheVariants as stored
use Rattle.c_declared_types.specs.declared.storage.SpecsPlace.{SpecsPlace}
use Rattle.c_declared_types.specs.declared.storage.SpecsPlace.TheVariants as place
use Rattle.c_declared_types.specs.declared.specs_words.SpecsWords.{SpecsWords}
use Rattle.c_declared_types.specs.declared.specs_words.Given.{Given}
use Rattle.c_declared_types.specs.declared.specs_words.Given.TheVariants as given

-- ---- texts

abbrev pub base_text : Base → List ℕ
base_text base.Void = codes "void"
base_text base.Bool = codes "_Bool"
base_text base.Char = codes "char"
base_text base.Int = codes "int"

abbrev pub length_text : Length → List ℕ
length_text size.Short = codes "short"
length_text size.Long = codes "long"

abbrev pub sign_text : Sign → List ℕ
sign_text sign.Signed = codes "signed"
sign_text sign.Unsigned = codes "unsigned"

abbrev pub storage_text : StorageWord → List ℕ
storage_text storage.Typedef = codes "typedef"
storage_text storage.Extern = codes "extern"
storage_text storage.Static = codes "static"
storage_text storage.Auto = codes "auto"
storage_text storage.Register = codes "register"

abbrev pub IsWord : Word → List ℕ → Type 0
IsWord (word.Base b) text = text ≡ base_text b
IsWord (word.Length l) text = text ≡ length_text l
IsWord (word.Sign s) text = text ≡ sign_text s
IsWord (word.Storage s) text = text ≡ storage_text s
IsWord word.Other text = (is_type_word text ≡ false) × (is_storage text ≡ false)

-- ---- words for types

abbrev pub one_or_none : {A : Type 0} → (A → List ℕ) → Option A → List (List ℕ)
one_or_none text None = []
one_or_none text (Some a) = text a ∷ []

abbrev pub texts_in : Option Base → Option Length → Option Sign → List (List ℕ)
texts_in b l s = one_or_none base_text b ++ one_or_none length_text l ++ one_or_none sign_text s

-- the same words, each as often
pub record AreSame (xs ys : List (List ℕ)) : Type 0 where
  pub long : length xs ≡ length ys
  pub often : (text : List ℕ) → count_of xs text ≡ count_of ys text

-- words that name no type, whatever follows
abbrev pub NameNone : List (List ℕ) → Type 0
NameNone words = (more : List (List ℕ)) → said_type (words ++ more) [] ≡ None

abbrev pub SaysBy : Bool → TypeWords → List (List ℕ) → Type 0
SaysBy true w words = NameNone words
SaysBy false w words = AreSame (texts_in w.base w.length w.sign) words

-- it stands for these words
abbrev pub Says : TypeWords → List (List ℕ) → Type 0
Says w words = SaysBy w.is_bad w words

abbrev pub said_of : Said → CType
said_of said.Void = void
said_of (said.Integer i) = integer (integer_of i)

-- ---- storage words

abbrev pub IsStorage : Storage → List (List ℕ) → Type 0
IsStorage stored.None words = words ≡ []
IsStorage (stored.One s) words = words ≡ storage_text s ∷ []
IsStorage stored.Many words = 1 < length words

abbrev pub place_of : SpecsPlace → rules.SpecsPlace
place_of place.InUnit = rules.in_unit
place_of place.OfDefinition = rules.of_definition
place_of place.InBlock = rules.in_block
place_of place.InFor = rules.in_for
place_of place.OfParameter = rules.of_parameter
place_of place.OfMemberOrTypeName = rules.of_member_or_type_name

-- ---- all of specs

pub record AreWords (w : SpecsWords) (words : List (List ℕ)) : Type 0 where
  pub types : Says w.types (filter is_type_word words)
  pub storage : IsStorage w.storage (filter is_storage words)

-- the types that stand among them
abbrev pub AreGiven : Known → Given → List CType → Type 0
AreGiven k given.None ts = ts ≡ []
AreGiven k (given.One id) ts = (t : CType) × (ts ≡ t ∷ []) × Names k id t
AreGiven k given.Many ts = 1 < length ts
