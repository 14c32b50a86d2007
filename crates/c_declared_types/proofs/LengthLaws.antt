-- Which faults integer constants have.
use Rattle.std.proofs.Common.{◌≡◌, ◌≢◌, ◌++◌, ℕ, false, List, [], ◌∷◌, refl, sym, ap, ◌∙◌, subst}
use Rattle.c_typing.specs.Judgements as rules
use Rattle.c_typing.specs.Judgements.{Fault, rule, Typing, number}
use Rattle.c_typing.specs.Rules.{broken_if, is_bad_length, is_no_int, not_constant, out_of_range, no_int}
use Rattle.c_typing.specs.Declarators.{word_in, length_faults}
use Rattle.c_constants.specs.declared.constants.Constant.{Constant}
use Rattle.c_constants.specs.declared.constants.Constant.TheVariants as constant
use Rattle.c_constants.specs.Constants.{constant_of}

-- what is no integer constant breaks the rule
other : (k : Constant) (n : ℕ) → ((w : ℕ) → k ≢ constant.Number w) → ((part : ℕ) → k ≢ constant.Undefined part)
    → (others : List Fault) × (not_constant (constant_of k) n ++ out_of_range (constant_of k) ≡ rule 8 n ∷ others)
other constant.None n a b = ([], refl)
other (constant.Undefined part) n a b = absurd (b part refl)
other (constant.Number w) n a b = absurd (a w refl)
other constant.NullPointer n a b = ([], refl)
other constant.ZeroPointer n a b = ([], refl)
other (constant.AddressOf o m) n a b = ([], refl)
other (constant.UndefinedAddress part) n a b = (rule 9 part ∷ [], refl)
other (constant.PlaceAt o m named) n a b = ([], refl)

pub no_constant : (k : Constant) (c : rules.Constant) (n : ℕ) → ((w : ℕ) → k ≢ constant.Number w) → ((part : ℕ) → k ≢ constant.Undefined part) → constant_of k ≡ c
    → (others : List Fault) × (not_constant c n ++ out_of_range c ≡ rule 8 n ∷ others)
no_constant k c n a b e = subst (λ d. (others : List Fault) × (not_constant d n ++ out_of_range d ≡ rule 8 n ∷ others)) e (other k n a b)

-- a word is the length of an array where it is above 0
pub good_length : (x : Typing) (w n at : ℕ) → x.constant ≡ number w → is_bad_length x.type (number w) ≡ false
    → (length_faults x n at ≡ []) × (w ≡ word_in x.constant)
good_length x w n at e good =
    (ap (λ c. not_constant c n ++ out_of_range c ++ broken_if (is_bad_length x.type c) 7 at) e ∙ ap (λ b. broken_if b 7 at) good, sym (ap word_in e))

-- and the value of an enumerator where it is an `int`
pub good_enumerator : (x : Typing) (w n : ℕ) → x.constant ≡ number w → is_no_int x.type (number w) ≡ false
    → (not_constant x.constant n ++ out_of_range x.constant ++ no_int x.type x.constant n ≡ []) × (w ≡ word_in x.constant)
good_enumerator x w n e good =
    (ap (λ c. not_constant c n ++ out_of_range c ++ broken_if (is_no_int x.type c) 9 n) e ∙ ap (λ b. broken_if b 9 n) good, sym (ap word_in e))
