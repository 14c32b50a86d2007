-- An expression stays what it is where the table of types grows, and refusals.
use Rattle.std.proofs.Common.{◌≡◌, ℕ, List, ◌∷◌, ap, ◌∙◌, subst}
use Rattle.std.specs.Prelude.{Result, Err}
use Rattle.c_types.specs.declared.tree.Expr.{Expr}
use Rattle.c_typing.specs.Types.{CType}
use Rattle.c_typing.specs.Judgements as rules
use Rattle.c_typing.specs.Judgements.{Fault, rule, Form, Constant, breaks_rules, means}
use Rattle.c_typing.specs.Expressions.{expression}
use Rattle.c_type_ids.specs.Ids.{Known, Keeps}
use Rattle.c_values.specs.declared.typings.Typing.{Typing}
use Rattle.c_values.proofs.GrowLaws.{is_grows}
use Rattle.c_answers.specs.declared.refusal.Refusal.{Refusal}
use Rattle.c_answers.specs.declared.refusal.Refusal.TheVariants as refusal
use Rattle.c_places.specs.declared.elements.Indexed.{Indexed}
use Rattle.c_places.specs.Places.{IsAnswer, IsIndexed}

pub indexed_grows : (old new : Known) → Keeps old new → (o : Indexed) (x : rules.Typing) → IsIndexed old o x → IsIndexed new o x
indexed_grows old new g o x h = record { value = is_grows old new g o.value _ h.value; constant = h.constant }

-- the rule that is broken first
pub refuses : (k : Known) (r i node : ℕ) (others : List Fault) → i ≡ node → IsAnswer k (Err (refusal.Broken r node)) (breaks_rules (rule r i) others)
refuses k r i node others same = (others, ap (λ j. rule r j ∷ others) same)

-- an expression by its parts
abbrev pub made : CType → Form → Expr → Constant → rules.Typing
made t f e c = record { type = t; form = f; code = e; constant = c }

pub same_parts : (k : Known) (r : Result Typing Refusal) (t : CType) (f g : Form) (d e : Expr) (b c : Constant) → f ≡ g → d ≡ e → b ≡ c
    → IsAnswer k r (means (expression (made t f d b))) → IsAnswer k r (means (expression (made t g e c)))
same_parts k r t f g d e b c p q s h =
    subst (λ (x : rules.Typing). IsAnswer k r (means (expression x))) (ap (λ z. made t z d b) p ∙ ap (λ z. made t g z b) q ∙ ap (λ z. made t g e z) s) h
