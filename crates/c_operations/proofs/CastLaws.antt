-- Casts.
use Rattle.std.proofs.Common.{◌≡◌, ℕ, true, false, refl, subst}
use Rattle.std.specs.Prelude.{Ok, Err}
use Rattle.std.proofs.lemmas.Bool.{false≢true}
use Rattle.c_types.specs.declared.tree.Expr.{Expr}
use Rattle.c_typing.specs.Types.{CType, struct}
use Rattle.c_typing.specs.Places.{Node}
use Rattle.c_typing.specs.Judgements as rules
use Rattle.c_typing.specs.Judgements.{expresses}
use Rattle.c_typing.specs.Constants.{cast_constant}
use Rattle.c_typing.specs.Conversions.{valued, result, converted_code, is_castable}
use Rattle.c_typing.specs.Expressions.{cast}
use Rattle.c_type_ids.specs.Ids.{Known}
use Rattle.c_values.specs.declared.typings.Typing.{Typing}
use Rattle.c_values.specs.Typings.{Is}
use Rattle.c_answers.specs.declared.refusal.Refusal.TheVariants as refusal
use Rattle.c_answers.specs.Answers.{Answers, Expresses}
use Rattle.c_operations.proofs.OperandLaws.{allowed, refused}

-- what may be cast to is no struct
castable : (t u : CType) (e : Expr) (c : rules.Constant) → is_castable t u ≡ true → valued t e c ≡ result t e c
castable (struct k) u e c h = absurd (false≢true h)
castable t u e c h = refl

pub cast_allowed : (k : Known) (v : Typing) (n : Node) (t : CType) (x : rules.Typing) → is_castable t x.type ≡ true
    → Is k v (valued t (converted_code x.type t x.code) (cast_constant t x.type x.constant)) → Answers (Expresses k 0) (Ok v) (cast n t x)
unfolding cast
cast_allowed k v n t x e is =
    let code = converted_code x.type t x.code in
    let constant = cast_constant t x.type x.constant in
    allowed k v (is_castable t x.type) n.id 0 (result t code constant) e (subst (Is k v) (castable t x.type code constant e) is)

pub cast_refused : (k : Known) (n : Node) (at : ℕ) (t : CType) (x : rules.Typing) → n.id ≡ at → is_castable t x.type ≡ false
    → Answers (Expresses k 0) (Err (refusal.Broken 13 at)) (cast n t x)
unfolding cast
cast_refused k n at t x same e =
    refused k (is_castable t x.type) n.id at 0 (expresses (result t (converted_code x.type t x.code) (cast_constant t x.type x.constant)) 0) same e
