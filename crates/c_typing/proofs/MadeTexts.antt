-- No function has the name of a library function.
use Rattle.std.proofs.Common.{◌≡◌, ℕ, zero, suc, Bool, true, false, ◌||◌, ◌&&◌, List, [], ◌∷◌, ◌++◌, map, refl, sym, ap, ◌∙◌, subst, arith, true≢false}
use Rattle.std.specs.Prelude.{codes, filter_map, Contains}
use Rattle.std.specs.List.{AllByRecursion}
use Rattle.c_lexer.specs.declared.token.Token.{Token}
use Rattle.c_syntax.specs.Trees.{Tree}
use Rattle.c_grammar.specs.Derivation.{IsTreeOf}
use Rattle.c_types.specs.declared.tree.Func.{Func}
use Rattle.c_typing.specs.Types.{CType}
use Rattle.c_typing.specs.Places.{Node, nodes, kid, text_at}
use Rattle.c_typing.specs.Names.{function_name, Places, places, Name}
use Rattle.c_typing.specs.Judgements.{Fault, Judgement}
use Rattle.c_typing.specs.Rules.{is_getchar, is_putchar, bad_library_name, bad_main, declared_twice, broken_if}
use Rattle.c_typing.specs.Declarators.{declared_faults, name_faults, type_before}
use Rattle.c_typing.specs.Typing.{judgements_at, defined_in}
use Rattle.c_typing.proofs.MadePlaced.{node_there}
use Rattle.c_typing.proofs.MadeDefined.{Defined, all_defined}
use Rattle.c_typing.proofs.MadeFunctions.{functions_more}
use Rattle.c_typing.proofs.MadeFunctionNames.{FunctionName, kept_of, Anything, no_chains}

pub front_none : (xs ys : List Fault) → xs ++ ys ≡ [] → xs ≡ []
front_none [] ys e = refl
front_none (x ∷ xs) ys e = absurd (cc e)

pub back_none : (xs ys : List Fault) → xs ++ ys ≡ [] → ys ≡ []
back_none [] ys e = e
back_none (x ∷ xs) ys e = absurd (cc e)

-- the faults of a function that is defined, one by one
pub record Faultless (p : Places) (js : List Judgement) (e : Name) (u : CType) (n : ℕ) : Type 0 where
  pub once : declared_twice p e u (type_before p js e) e.node ≡ []
  pub library : bad_library_name e.text false u n ≡ []
  pub main : bad_main e.text u n ≡ []

pub faultless : (p : Places) (js : List Judgement) (e : Name) (u : CType) (n : ℕ) → declared_faults p js e u n true function_name ≡ [] → Faultless p js e u n
faultless p js e u n h =
    let names = front_none (name_faults p js e u n false) (bad_main e.text u n) h in
    record {
      once = front_none (declared_twice p e u (type_before p js e) e.node) (bad_library_name e.text false u n) names;
      library = back_none (declared_twice p e u (type_before p js e) e.node) (bad_library_name e.text false u n) names;
      main = back_none (name_faults p js e u n false) (bad_main e.text u n) h;
    }

no_library : (text : List ℕ) (u : CType) (n : ℕ) → bad_library_name text false u n ≡ [] → (is_getchar text ≡ false) × (is_putchar text ≡ false)
no_library text u n e = by (is_getchar text) refl (is_putchar text) refl e
  where
    by : (a : Bool) → is_getchar text ≡ a → (b : Bool) → is_putchar text ≡ b → (broken_if ((a || b) && true) 23 n ≡ []) → (is_getchar text ≡ false) × (is_putchar text ≡ false)
    by true f b g h = absurd (cc h)
    by false f true g h = absurd (cc h)
    by false f false g h = (f, g)

-- a text is not in a list where no test of it passes
none_there : (test : List ℕ → Bool) (text : List ℕ) → test text ≡ true → (fs : List Func) → AllByRecursion (λ (f : Func). test f.name ≡ false) fs → Contains (map (λ (f : Func). f.name) fs) text → ⊥
none_there test text is [] h (k, lt, e) = absurd (omega (arith, lt))
none_there test text is (f ∷ fs) h (zero, lt, e) = true≢false (sym is ∙ (ap test (sym e) ∙ h.0))
none_there test text is (f ∷ fs) h (suc k, lt, e) = none_there test text is fs h.1 (k, omega (arith, lt), e)

module _ (tokens : List Token) (t : Tree) (derived : IsTreeOf tokens t) where
  -- a function has the text of its name
  pub text_is : (f : Func) (d : Defined t f) (n : FunctionName tokens t derived d.node) → f.name ≡ n.name.text
  text_is f d n =
      let low = node_there tokens t derived (kid d.node 1) n.low n.there in
      d.name ∙ (ap (λ (x : Node). text_at (nodes t) x.first) low ∙ (ap (λ (x : Node). x.label.text) (node_there tokens t derived n.low.first n.ident n.at_first) ∙ sym n.text))

  no_library_name : AllByRecursion (λ (f : Func). (is_getchar f.name ≡ false) × (is_putchar f.name ≡ false)) (filter_map defined_in (judgements_at (places t)))
  no_library_name = functions_more (Defined t) (λ (f : Func). (is_getchar f.name ≡ false) × (is_putchar f.name ≡ false)) (filter_map defined_in (judgements_at (places t)))
      (λ f d. let k = kept_of tokens t derived (Anything tokens t derived) (no_chains tokens t derived) f d in
      let w = faultless (places t) k.whole.js k.names.name d.type k.names.low.id k.kept in
      subst (λ text. (is_getchar text ≡ false) × (is_putchar text ≡ false)) (sym (text_is f d k.names)) (no_library k.names.name.text d.type k.names.low.id w.library)) (all_defined t)

  pub no_getchar : Contains (map (λ (f : Func). f.name) (filter_map defined_in (judgements_at (places t)))) (codes "getchar") → ⊥
  no_getchar h = none_there is_getchar (codes "getchar") refl (filter_map defined_in (judgements_at (places t))) (functions_more (λ (f : Func). (is_getchar f.name ≡ false) × (is_putchar f.name ≡ false)) (λ (f : Func). is_getchar f.name ≡ false) (filter_map defined_in (judgements_at (places t))) (λ f g. g.0) no_library_name) h

  pub no_putchar : Contains (map (λ (f : Func). f.name) (filter_map defined_in (judgements_at (places t)))) (codes "putchar") → ⊥
  no_putchar h = none_there is_putchar (codes "putchar") refl (filter_map defined_in (judgements_at (places t))) (functions_more (λ (f : Func). (is_getchar f.name ≡ false) × (is_putchar f.name ≡ false)) (λ (f : Func). is_putchar f.name ≡ false) (filter_map defined_in (judgements_at (places t))) (λ f g. g.1) no_library_name) h
