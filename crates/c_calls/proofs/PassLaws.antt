-- Arguments that are passed one after the other.
use Rattle.std.proofs.Common.{◌≡◌, ◌+◌, ◌<◌, ℕ, suc, List, [], ◌∷◌, ◌++◌, length, drop, get_or, map, reverse, refl, sym, ap, ap₂, ◌∙◌, subst, append_assoc, append-nil, length-append, drop-cons, arith}
use Rattle.std.specs.Prelude.{Result, Ok, Err}
use Rattle.std.proofs.lemmas.List.{reverse-append}
use Rattle.c_types.specs.declared.kind.TypeId.{TypeId}
use Rattle.c_types.specs.declared.tree.Expr.{Expr}
use Rattle.c_typing.specs.Types.{CType, CTypes, void, function, listed}
use Rattle.c_typing.specs.Judgements as rules
use Rattle.c_typing.specs.Judgements.{Fault, rule, too_big}
use Rattle.c_typing.specs.Rules.{bad_conversion}
use Rattle.c_typing.specs.Conversions.{value_of, converted_to}
use Rattle.c_typing.specs.Expressions.{arguments, argument_faults, passed}
use Rattle.c_type_ids.specs.Ids.{Known, Names, Keeps, Grows}
use Rattle.c_type_ids.proofs.IdLaws.{names_grow}
use Rattle.c_type_ids.proofs.TableLaws.{grows_on, grows_same}
use Rattle.c_values.specs.declared.typings.Typing.{Typing}
use Rattle.c_values.specs.Typings.{Is}
use Rattle.c_answers.specs.declared.refusal.Refusal.{Refusal}
use Rattle.c_answers.specs.declared.refusal.Refusal.TheVariants as refusal
use Rattle.c_answers.specs.Answers.{IsFirst, Settles}
use Rattle.c_values.proofs.GrowLaws.{is_grows}
use Rattle.c_calls.specs.Arguments.{AreTypings}

pub typings_grow : (old new : Known) → Keeps old new → (ts : List Typing) (xs : List rules.Typing) → AreTypings old ts xs → AreTypings new ts xs
typings_grow old new g [] [] h = tt
typings_grow old new g [] (x ∷ xs) h = absurd h
typings_grow old new g (t ∷ ts) [] h = absurd h
typings_grow old new g (t ∷ ts) (x ∷ xs) h = (is_grows old new g t x h.0, typings_grow old new g ts xs h.1)

-- the arguments from a place on
abbrev pub from : ℕ → CTypes → List rules.Typing → List ℕ → List (CType × rules.Typing × ℕ)
from i ts xs nodes = arguments (drop i (listed ts)) (map value_of xs) (drop i nodes)

abbrev pub whole : CTypes → List rules.Typing → List ℕ → List (CType × rules.Typing × ℕ)
whole ts xs nodes = arguments (listed ts) (map value_of xs) nodes

-- so many codes are there, and these arguments are left
pub record Rest (k : Known) (ts : CTypes) (xs : List rules.Typing) (nodes : List ℕ) (left : List Typing) (codes : List Expr) : Type 0 where
  pub others : List rules.Typing
  pub typings : AreTypings k (reverse left) others
  pub faults : argument_faults (whole ts xs nodes) ≡ argument_faults (from (length codes) ts others nodes)
  pub codes_are : map passed (whole ts xs nodes) ≡ codes ++ map passed (from (length codes) ts others nodes)

pub record SoFar (old k : Known) (id : TypeId) (all left : List Typing) (nodes : List ℕ) (codes : List Expr) : Type 0 where
  pub grows : Grows old k
  pub count : length codes + length left ≡ length nodes
  pub is : (r : CType) (ts : CTypes) (xs : List rules.Typing) → Names old id (function r ts) → length (listed ts) ≡ length nodes → AreTypings old (reverse all) xs
      → Rest k ts xs nodes left codes

pub at_first : (k : Known) (id : TypeId) (all : List Typing) (nodes : List ℕ) → length all ≡ length nodes → SoFar k k id all all nodes []
at_first k id all nodes e = record {
  grows = grows_same k k refl;
  count = omega (arith, e);
  is = λ r ts xs named many are. record { others = xs; typings = are; faults = refl; codes_are = refl };
}

-- the argument that is next
pub record Step (k : Known) (ts : CTypes) (xs : List rules.Typing) (nodes : List ℕ) (rest : List Typing) (s : Typing) (codes : List Expr) : Type 0 where
  pub type : CType
  pub argument : rules.Typing
  pub others : List rules.Typing
  pub at : drop (length codes) (listed ts) ≡ type ∷ drop (suc (length codes)) (listed ts)
  pub is : Is k s argument
  pub typings : AreTypings k (reverse rest) others
  pub faults : argument_faults (whole ts xs nodes)
      ≡ bad_conversion type (value_of argument) (get_or nodes (length codes) 0) ++ argument_faults (from (suc (length codes)) ts others nodes)
  pub codes_are : map passed (whole ts xs nodes) ≡ codes ++ converted_to type (value_of argument) ∷ map passed (from (suc (length codes)) ts others nodes)

-- the place of the next argument
pub within : (left rest : List Typing) (s : Typing) (codes : List Expr) (nodes : List ℕ) → left ≡ rest ++ s ∷ [] → length codes + length left ≡ length nodes → length codes < length nodes
within left rest s codes nodes e count =
    let longer : length left ≡ length rest + 1 = ap length e ∙ length-append rest (s ∷ []) in
    omega (arith, count, longer)

pub next_step : (k : Known) (ts : CTypes) (xs : List rules.Typing) (nodes : List ℕ) (left rest : List Typing) (s : Typing) (codes : List Expr) → left ≡ rest ++ s ∷ []
    → length codes + length left ≡ length nodes → length (listed ts) ≡ length nodes → Rest k ts xs nodes left codes → Step k ts xs nodes rest s codes
next_step k ts xs nodes left rest s codes e count many so =
    by so.others (subst (λ l. AreTypings k l so.others) (ap reverse e ∙ reverse-append rest (s ∷ [])) so.typings) so.faults so.codes_are
  where
    place : length codes < length nodes
    place = within left rest s codes nodes e count

    here : length codes < length (listed ts)
    here = omega (arith, place, many)

    split : (x : rules.Typing) (others : List rules.Typing)
        → from (length codes) ts (x ∷ others) nodes ≡ (get_or (listed ts) (length codes) void, value_of x, get_or nodes (length codes) 0) ∷ from (suc (length codes)) ts others nodes
    split x others = ap₂ (λ us ns. arguments us (map value_of (x ∷ others)) ns) (drop-cons (listed ts) (length codes) void here) (drop-cons nodes (length codes) 0 place)

    by : (others : List rules.Typing) → AreTypings k (s ∷ reverse rest) others → argument_faults (whole ts xs nodes) ≡ argument_faults (from (length codes) ts others nodes)
        → map passed (whole ts xs nodes) ≡ codes ++ map passed (from (length codes) ts others nodes) → Step k ts xs nodes rest s codes
    by [] h f c = absurd h
    by (x ∷ others) (is, more) f c = record {
      type = get_or (listed ts) (length codes) void;
      argument = x;
      others = others;
      at = drop-cons (listed ts) (length codes) void here;
      is = is;
      typings = more;
      faults = f ∙ ap argument_faults (split x others);
      codes_are = c ∙ ap (λ args. codes ++ map passed args) (split x others);
    }

module _ (k : Known) (ts : CTypes) (xs : List rules.Typing) (nodes : List ℕ) (rest : List Typing) (s : Typing) (codes : List Expr) (step : Step k ts xs nodes rest s codes) where
  pub after_step : (new : Known) → Keeps k new → (code : Expr) (more : List Expr) → more ≡ codes ++ code ∷ []
      → (bad_conversion step.type (value_of step.argument) (get_or nodes (length codes) 0) ≡ []) × (code ≡ converted_to step.type (value_of step.argument)) → Rest new ts xs nodes rest more
  after_step new g code more e (none, is) =
      let longer : suc (length codes) ≡ length more = omega (arith, ap length e, length-append codes (code ∷ [])) in
      record {
        others = step.others;
        typings = typings_grow k new g (reverse rest) step.others step.typings;
        faults = step.faults ∙ ap (λ fs. fs ++ argument_faults (from (suc (length codes)) ts step.others nodes)) none ∙ ap (λ i. argument_faults (from i ts step.others nodes)) longer;
        codes_are =
            step.codes_are
            ∙ ap (λ x. codes ++ x ∷ map passed (from (suc (length codes)) ts step.others nodes)) (sym is)
            ∙ sym (append_assoc codes (code ∷ []) (map passed (from (suc (length codes)) ts step.others nodes)))
            ∙ ap₂ (λ es i. es ++ map passed (from i ts step.others nodes)) (sym e) longer;
      }

  first_front : (r : Refusal) (fs gs : List Fault) → IsFirst r fs → IsFirst r (fs ++ gs)
  first_front (refusal.Broken i n) fs gs (others, e) = (others ++ gs, ap (λ x. x ++ gs) e)
  first_front (refusal.TooBig n size) fs gs (others, e) = (others ++ gs, ap (λ x. x ++ gs) e)
  first_front refusal.OutOfMemory fs gs h = tt

  pub refused_step : (r : Refusal) → IsFirst r (bad_conversion step.type (value_of step.argument) (get_or nodes (length codes) 0)) → IsFirst r (argument_faults (whole ts xs nodes))
  refused_step r h =
      subst (IsFirst r) (sym step.faults)
      (first_front r (bad_conversion step.type (value_of step.argument) (get_or nodes (length codes) 0)) (argument_faults (from (suc (length codes)) ts step.others nodes)) h)

-- the count that is kept
pub one_less : (left rest : List Typing) (s : Typing) (codes more : List Expr) (code : Expr) (nodes : List ℕ) → left ≡ rest ++ s ∷ [] → more ≡ codes ++ code ∷ []
    → length codes + length left ≡ length nodes → length more + length rest ≡ length nodes
one_less left rest s codes more code nodes e f count =
    let shorter : length left ≡ length rest + 1 = ap length e ∙ length-append rest (s ∷ []) in
    let longer : length more ≡ length codes + 1 = ap length f ∙ length-append codes (code ∷ []) in
    omega (arith, count, shorter, longer)

-- no argument is left
no_argument : (us : List CType) (ns : List ℕ) → arguments us [] ns ≡ []
no_argument [] ns = refl
no_argument (u ∷ us) ns = refl

pub all_passed : (k : Known) (ts : CTypes) (xs : List rules.Typing) (nodes : List ℕ) (left : List Typing) (codes : List Expr) → left ≡ [] → Rest k ts xs nodes left codes
    → (argument_faults (whole ts xs nodes) ≡ []) × (codes ≡ map passed (whole ts xs nodes))
all_passed k ts xs nodes left codes e so = by so.others (subst (λ l. AreTypings k (reverse l) so.others) e so.typings) so.faults so.codes_are
  where
    by : (others : List rules.Typing) → AreTypings k [] others → argument_faults (whole ts xs nodes) ≡ argument_faults (from (length codes) ts others nodes)
        → map passed (whole ts xs nodes) ≡ codes ++ map passed (from (length codes) ts others nodes) → (argument_faults (whole ts xs nodes) ≡ []) × (codes ≡ map passed (whole ts xs nodes))
    by [] h f c =
        let none : from (length codes) ts [] nodes ≡ [] = no_argument (drop (length codes) (listed ts)) (drop (length codes) nodes) in
        (f ∙ ap argument_faults none, sym (c ∙ ap (λ args. codes ++ map passed args) none ∙ append-nil codes))
    by (x ∷ others) h f c = absurd h

pub empty : {A : Type 0} (xs : List A) → length xs ≡ 0 → xs ≡ []
empty [] e = refl
empty (x ∷ xs) e = absurd (omega (arith, e))

-- ---- one turn of the loop

-- this is the type of the parameter at a place
abbrev pub IsParameter : Known → TypeId → ℕ → TypeId → Type 0
IsParameter k id place parameter = (r : CType) (ts : CTypes) (t : CType) (rest : List CType) → Names k id (function r ts) → drop place (listed ts) ≡ t ∷ rest → Names k parameter t

-- this is found for an argument at a node
abbrev pub Passes : Known → TypeId → Typing → ℕ → Result Expr Refusal → Type 0
Passes k parameter s node found = (t : CType) (x : rules.Typing) → Names k parameter t → Is k s x
    → Settles (λ code. code ≡ converted_to t (value_of x)) found (bad_conversion t (value_of x) node)

module _ (old k : Known) (id : TypeId) (all left rest : List Typing) (nodes : List ℕ) (codes : List Expr) (s : Typing) (place : ℕ) (so : SoFar old k id all left nodes codes)
    (e : left ≡ rest ++ s ∷ []) (here : place ≡ length codes) where
  step_at : (r : CType) (ts : CTypes) (xs : List rules.Typing) → Names old id (function r ts) → length (listed ts) ≡ length nodes → AreTypings old (reverse all) xs → Step k ts xs nodes rest s codes
  step_at r ts xs named many are = next_step k ts xs nodes left rest s codes e so.count many (so.is r ts xs named many are)

  pub still_named : (r : CType) (ts : CTypes) → Names old id (function r ts) → Names k id (function r ts)
  still_named r ts named = names_grow old k so.grows.keeps.types so.grows.keeps.structs id (function r ts) named

  pub place_within : (ts : CTypes) → length (listed ts) ≡ length nodes → place < length (listed ts)
  place_within ts many = let before = within left rest s codes nodes e so.count in omega (arith, before, here, many)

  pub argument_there : (r : CType) (ts : CTypes) (xs : List rules.Typing) → Names old id (function r ts) → length (listed ts) ≡ length nodes → AreTypings old (reverse all) xs → (x : rules.Typing) × Is k s x
  argument_there r ts xs named many are = let step = step_at r ts xs named many are in (step.argument, step.is)

  module _ (parameter : TypeId) (is : IsParameter k id place parameter) where
    names_it : (r : CType) (ts : CTypes) (xs : List rules.Typing) → Names old id (function r ts) → (step : Step k ts xs nodes rest s codes) → Names k parameter step.type
    names_it r ts xs named step =
        is r ts step.type (drop (suc (length codes)) (listed ts)) (still_named r ts named) (subst (λ i. drop i (listed ts) ≡ step.type ∷ drop (suc (length codes)) (listed ts)) (sym here) step.at)

    pub parameter_there : (r : CType) (ts : CTypes) (xs : List rules.Typing) → Names old id (function r ts) → length (listed ts) ≡ length nodes → AreTypings old (reverse all) xs → (t : CType) × Names k parameter t
    parameter_there r ts xs named many are = let step = step_at r ts xs named many are in (step.type, names_it r ts xs named step)

    settled : (found : Result Expr Refusal) → Passes k parameter s (get_or nodes place 0) found → (r : CType) (ts : CTypes) (xs : List rules.Typing) → Names old id (function r ts)
        → (step : Step k ts xs nodes rest s codes)
        → Settles (λ code. code ≡ converted_to step.type (value_of step.argument)) found (bad_conversion step.type (value_of step.argument) (get_or nodes (length codes) 0))
    settled found passes r ts xs named step =
        subst (λ i. Settles (λ code. code ≡ converted_to step.type (value_of step.argument)) found (bad_conversion step.type (value_of step.argument) (get_or nodes i 0))) here
        (passes step.type step.argument (names_it r ts xs named step) step.is)

    pub refused : (r : Refusal) → Passes k parameter s (get_or nodes place 0) (Err r) → (gives : CType) (ts : CTypes) (xs : List rules.Typing) → Names old id (function gives ts)
        → length (listed ts) ≡ length nodes → AreTypings old (reverse all) xs → IsFirst r (argument_faults (whole ts xs nodes))
    refused r passes gives ts xs named many are =
        let step = step_at gives ts xs named many are in
        refused_step k ts xs nodes rest s codes step r (settled (Err r) passes gives ts xs named step)

    pub preserved : (new : Known) (code : Expr) (more : List Expr) → Grows k new → more ≡ codes ++ code ∷ [] → Passes k parameter s (get_or nodes place 0) (Ok code) → SoFar old new id all rest nodes more
    preserved new code more grows f passes = record {
      grows = grows_on old k new so.grows grows;
      count = one_less left rest s codes more code nodes e f so.count;
      is = λ r ts xs named many are.
          let step = step_at r ts xs named many are in
          after_step k ts xs nodes rest s codes step new grows.keeps code more f (settled (Ok code) passes r ts xs named step);
    }
