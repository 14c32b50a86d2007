-- What is asked of a value that is returned.
use Rattle.std.proofs.Common.{◌≡◌, ℕ, true, false, not, List, [], ◌∷◌, refl, sym, ap, ◌∙◌}
use Rattle.std.proofs.lemmas.Bool.{false≢true}
use Rattle.c_typing.specs.Types.{CType, void, is_void}
use Rattle.c_typing.specs.Places.{Node, kid}
use Rattle.c_typing.specs.Judgements.{Fault, rule, Typing}
use Rattle.c_typing.specs.Conversions.{is_assignable}
use Rattle.c_typing.specs.Rules.{broken_if, bad_conversion}
use Rattle.c_typing.specs.Statements.{return_faults}

pub void_refuses : (t : CType) (x : Typing) (n : Node) (node : ℕ) → is_void t ≡ true → n.id ≡ node → (others : List Fault) × (return_faults t x n ≡ rule 18 node ∷ others)
void_refuses void x n node h e = ([], ap (λ i. rule 18 i ∷ []) e)
void_refuses _ x n node h e = absurd (false≢true h)

others_ask : (t : CType) (x : Typing) (n : Node) → is_void t ≡ false → return_faults t x n ≡ bad_conversion t x (kid n 0)
others_ask void x n h = absurd (false≢true (sym h))
others_ask _ x n h = refl

pub conversion_refuses : (t : CType) (x : Typing) (n : Node) (node : ℕ) → is_void t ≡ false → is_assignable t x ≡ false → kid n 0 ≡ node
    → (others : List Fault) × (return_faults t x n ≡ rule 14 node ∷ others)
conversion_refuses t x n node h a e = ([], others_ask t x n h ∙ ap (λ b. broken_if (not b) 14 (kid n 0)) a ∙ ap (λ i. rule 14 i ∷ []) e)

pub conversion_allows : (t : CType) (x : Typing) (n : Node) → is_void t ≡ false → is_assignable t x ≡ true → return_faults t x n ≡ []
conversion_allows t x n h a = others_ask t x n h ∙ ap (λ b. broken_if (not b) 14 (kid n 0)) a
