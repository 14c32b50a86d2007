-- What the declarators of a unit mean, where they keep the rules.
use Rattle.std.proofs.Common.{◌≡◌, ◌⊎◌, inl, inr, ℕ, zero, suc, ◌<◌, Bool, true, false, ◌||◌, List, [], ◌∷◌, ◌++◌, length, map, Option, Some, None, refl, sym, ap, ◌∙◌, subst, arith, true≢false}
use Rattle.std.specs.Prelude.{slice_get, if◌then◌else◌, ◌==◌}
use Rattle.c_lexer.specs.declared.token.Token.{Token}
use Rattle.c_syntax.specs.declared.kind.SynKind.{SynKind}
use Rattle.c_syntax.specs.declared.kind.SynKind.TheVariants as kind
use Rattle.c_syntax.specs.Trees.{Tree}
use Rattle.c_grammar.specs.Derivation.{IsTreeOf}
use Rattle.c_typing.specs.Types.{CType, types_of}
use Rattle.c_typing.specs.Places.{Node, nodes, kid, other_kids, parent_of, specs_of, is_declarator, is_whole, has_kid}
use Rattle.c_typing.specs.Names.{places, name_of}
use Rattle.c_typing.specs.Judgements.{Step, to_pointer, of_array, of_unsized, of_function, PlacedStep, Meaning, steps, declares, a_type, initialized, Typing, Constant, number, Fault, Judgement, means, verdict, judgement_at, typing_at, type_at, steps_at, steps_of, type_of, layouts, all_of, before}
use Rattle.c_typing.specs.Rules.{absent_length, not_constant, out_of_range, is_negative, is_bad_length, broken_if}
use Rattle.c_typing.specs.Declarators.{Built, built, build, adjusted, whole_by, whole_type, declarator, with_step, pointer_declarator, absent_length_step, length_faults, length_step, array_declarator, function_declarator, is_parameter_length, is_given_by_initializer, word_in}
use Rattle.c_typing.specs.Typing.{in_parentheses, judged_by, judgements_at}
use Rattle.c_typing.proofs.MadeJudged.{Yields, yields_besides, yields_given, IsFront, Known, all_known}
use Rattle.c_typing.proofs.MadeNodes.{In, in_at}
use Rattle.c_typing.proofs.MadeForms.{is_active, is_plain_kind, yields_if, yields_if_so, plain_row, braces_row, struct_row}
use Rattle.c_typing.proofs.MadeParts.{least_kids}
use Rattle.c_typing.proofs.MadePlaced.{Found, numbered, kid_found, kid_in}
use Rattle.c_typing.proofs.MadeAnything.{expression_kind_row}
use Rattle.c_typing.proofs.MadeOthers.{is_statement_kind, statement_row, function_row}
use Rattle.c_typing.proofs.MadeStatements.{is_expression_kind}

-- a type with these steps, which are not those of a part
pub record Whole (t : Tree) (C : Node → List PlacedStep → Type 0) (n : ℕ) (node : Node) (u : CType) : Type 0 where
  pub js : List Judgement
  pub long : length js ≡ n
  pub front : IsFront (places t) js
  pub whole : is_whole (nodes t) node ≡ true
  pub base : CType
  pub based : type_at js (specs_of (nodes t) (parent_of (nodes t) node.id)).id ≡ Some base
  pub steps : List PlacedStep
  pub chain : C node steps
  pub clean : (build (layouts js) base steps).faults ≡ []
  pub is : u ≡ adjusted (parent_of (nodes t) node.id).label.kind (build (layouts js) base steps).type
  pub kept : whole_by (places t) js node u (name_of (places t) node.first) (parent_of (nodes t) node.id).label.kind ≡ []

verdict_kept : (P : Meaning → Type 0) (fs : List Fault) (m : Meaning) → (fs ≡ [] → P m) → Yields P (verdict fs m)
verdict_kept P [] m h = h refl
verdict_kept P (f ∷ fs) m h = tt

-- an array that is made by a step has an element
abbrev pub HasElements : Step → Type 0
HasElements (of_array n) = 0 < n
HasElements s = Unit {0}

-- a length that keeps the rules
counted : (x : Typing) (n at : ℕ) → length_faults x n at ≡ [] → 0 < word_in x.constant
counted x n at e = by x.type x.constant e
  where
    by : (u : CType) (c : Constant) → not_constant c n ++ out_of_range c ++ broken_if (is_bad_length u c) 7 at ≡ [] → 0 < word_in c
    by u (number w) e = cases w (w == 0) refl e
      where
        cases : (v : ℕ) (b : Bool) → (v == 0) ≡ b → broken_if (b || is_negative u w) 7 at ≡ [] → 0 < v
        cases v true f e = absurd (cc e)
        cases zero false f e = absurd (true≢false f)
        cases (suc v) false f e = omega arith
    by u c e = absurd (cc e)

-- what chains say of the steps of a declarator, from the name on
pub record Chains (t : Tree) (C : Node → List PlacedStep → Type 0) : Type 0 where
  pub name : (node : Node) → In node (nodes t) → (node.label.kind ≡ kind.Ident) ⊎ (node.label.kind ≡ kind.NoName) → C node []
  pub step : (node low : Node) (ss : List PlacedStep) (st : Step) → slice_get (nodes t) node.id ≡ Some node → slice_get (nodes t) (kid node 0) ≡ Some low → (node.label.kind ≡ kind.Pointer) ⊎ (node.label.kind ≡ kind.ArrayOf) → HasElements st → C low ss → C node (with_step ss node st)
  pub takes : (node low : Node) (ss : List PlacedStep) (us : List CType) → slice_get (nodes t) node.id ≡ Some node → slice_get (nodes t) (kid node 0) ≡ Some low → node.label.kind ≡ kind.Takes → length us ≡ length (other_kids node) → C low ss → C node (with_step ss node (of_function (types_of us)))
  pub parentheses : (node low : Node) (ss : List PlacedStep) → slice_get (nodes t) node.id ≡ Some node → slice_get (nodes t) (kid node 0) ≡ Some low → node.label.kind ≡ kind.Paren → C low ss → C node ss

-- a declarator around another one
abbrev is_step_kind : SynKind → Bool
is_step_kind kind.Pointer = true
is_step_kind kind.ArrayOf = true
is_step_kind kind.Takes = true
is_step_kind kind.Paren = true
is_step_kind k = false

steps_meant : (j : Judgement) (ss : List PlacedStep) → steps_of j ≡ Some ss → j ≡ means (steps ss)
steps_meant (means (steps rs)) ss e = let same : rs ≡ ss = cc e in ap (λ z. means (steps z)) same
steps_meant _ ss e = absurd (cc e)

pub all_long : {A : Type 0} (os : List (Option A)) (xs : List A) → all_of os ≡ Some xs → length xs ≡ length os
all_long [] xs e = let same : [] ≡ xs = cc e in ap length (sym same)
all_long (None ∷ os) xs e = absurd (cc e)
all_long {A} (Some a ∷ os) xs e = by (all_of os) (all_long os) refl e
  where
    by : (o : Option (List A)) → ((ys : List A) → o ≡ Some ys → length ys ≡ length os) → all_of os ≡ o → before a o ≡ Some xs → length xs ≡ suc (length os)
    by None more g h = absurd (cc h)
    by (Some ys) more g h = let same : a ∷ ys ≡ xs = cc h in ap length (sym same) ∙ ap suc (more ys refl)

pub long-map : {A B : Type 0} (f : A → B) (xs : List A) → length (map f xs) ≡ length xs
long-map f [] = refl
long-map f (x ∷ xs) = ap suc (long-map f xs)

module _ (tokens : List Token) (t : Tree) (derived : IsTreeOf tokens t) (C : Node → List PlacedStep → Type 0) (c : Chains t C) where
  abbrev Holds : ℕ → Meaning → Type 0
  Holds n (steps ss) = (node : Node) → slice_get (nodes t) n ≡ Some node → (is_declarator node.label.kind ≡ true) × C node ss
  Holds n (declares u) = (node : Node) → slice_get (nodes t) n ≡ Some node → is_declarator node.label.kind ≡ true → Whole t C n node u
  Holds n (a_type u) = (node : Node) → slice_get (nodes t) n ≡ Some node → is_declarator node.label.kind ≡ false
  Holds n (initialized u ss cs) = (node : Node) → slice_get (nodes t) n ≡ Some node → is_declarator node.label.kind ≡ false
  Holds n m = Unit {0}

  module _ (js : List Judgement) (node : Node) (there : slice_get (nodes t) (length js) ≡ Some node) (front : IsFront (places t) js) (known : Known (places t) Holds js) where
    same_node : (other : Node) → slice_get (nodes t) (length js) ≡ Some other → node ≡ other
    same_node other e = let same : Some node ≡ Some other = sym there ∙ e in cc same

    built_row : (base : CType) (ss : List PlacedStep) → C node ss → is_whole (nodes t) node ≡ true → type_at js (specs_of (nodes t) (parent_of (nodes t) node.id)).id ≡ Some base
        → (u : CType) (fs : List Fault) → build (layouts js) base ss ≡ built u fs → Yields (Holds (length js)) (whole_type (places t) js node (parent_of (nodes t) node.id) (built u fs))
    unfolding whole_type
    built_row base ss chain whole based u [] e = verdict_kept (Holds (length js)) _ (declares (adjusted (parent_of (nodes t) node.id).label.kind u)) (λ none other g d.
        subst (λ (m : Node). Whole t C (length js) m (adjusted (parent_of (nodes t) node.id).label.kind u)) (same_node other g)
        (record { js = js; long = refl; front = front; whole = whole; base = base; based = based; steps = ss; chain = chain; clean = ap (λ (b : Built). b.faults) e; is = ap (λ (b : Built). adjusted (parent_of (nodes t) node.id).label.kind b.type) (sym e); kept = none }))
    built_row base ss chain whole based u (f ∷ fs) e = tt

    any_built : (base : CType) (ss : List PlacedStep) → C node ss → is_whole (nodes t) node ≡ true → type_at js (specs_of (nodes t) (parent_of (nodes t) node.id)).id ≡ Some base
        → Yields (Holds (length js)) (whole_type (places t) js node (parent_of (nodes t) node.id) (build (layouts js) base ss))
    any_built base ss chain whole based = built_row base ss chain whole based (build (layouts js) base ss).type (build (layouts js) base ss).faults refl

    declarator_row : is_declarator node.label.kind ≡ true → (ss : List PlacedStep) → C node ss → Yields (Holds (length js)) (declarator (places t) js node ss)
    unfolding declarator
    declarator_row own ss chain = yields_if_so (Holds (length js)) (is_whole (nodes t) node) _ _
        (λ whole. yields_given (Holds (length js)) (type_at js (specs_of (nodes t) (parent_of (nodes t) node.id)).id) (λ base. whole_type (places t) js node (parent_of (nodes t) node.id) (build (layouts js) base ss)) (λ base e. any_built base ss chain whole e))
        (λ part other g. subst (λ (m : Node). (is_declarator m.label.kind ≡ true) × C m ss) (same_node other g) (own, chain))

    at_own : slice_get (nodes t) node.id ≡ Some node
    at_own = subst (λ n. slice_get (nodes t) n ≡ Some node) (sym (numbered tokens t derived (length js) node there)) there

    -- the inner declarator
    low : is_step_kind node.label.kind ≡ true → Found t node (kid node 0)
    low e = kid_found tokens t derived (length js) node (kid node 0) there (kid_in tokens t derived (length js) node 0 there (one node.label.kind e))
      where
        one : (k : SynKind) → is_step_kind k ≡ true → 0 < least_kids k
        one kind.Pointer g = omega arith
        one kind.ArrayOf g = omega arith
        one kind.Takes g = omega arith
        one kind.Paren g = omega arith
        one _ g = absurd (true≢false (sym g))

    low_chain : (e : is_step_kind node.label.kind ≡ true) → (ss : List PlacedStep) → steps_at js (kid node 0) ≡ Some ss → C (low e).node ss
    low_chain e ss g = (known (kid node 0) (steps ss) (steps_meant (judgement_at js (kid node 0)) ss g) (low e).node (low e).there).1

    chain_step : (node.label.kind ≡ kind.Pointer) ⊎ (node.label.kind ≡ kind.ArrayOf) → (ss : List PlacedStep) → steps_at js (kid node 0) ≡ Some ss → (st : Step) → HasElements st → C node (with_step ss node st)
    chain_step k ss g st e = c.step node (low (of k)).node ss st at_own (low (of k)).there k e (low_chain (of k) ss g)
      where
        of : (node.label.kind ≡ kind.Pointer) ⊎ (node.label.kind ≡ kind.ArrayOf) → is_step_kind node.label.kind ≡ true
        of (inl e) = ap is_step_kind e
        of (inr e) = ap is_step_kind e

    pointer_row : node.label.kind ≡ kind.Pointer → Yields (Holds (length js)) (pointer_declarator (places t) js node)
    unfolding pointer_declarator
    pointer_row e = yields_given (Holds (length js)) (steps_at js (kid node 0)) (λ ss. declarator (places t) js node (with_step ss node to_pointer)) (λ ss g. declarator_row (ap is_declarator e) (with_step ss node to_pointer) (chain_step (inl e) ss g to_pointer tt))

    absent_row : node.label.kind ≡ kind.ArrayOf → (ss : List PlacedStep) → steps_at js (kid node 0) ≡ Some ss → Yields (Holds (length js)) (absent_length_step (places t) js node ss)
    unfolding absent_length_step
    absent_row e ss g = yields_if (Holds (length js)) (is_parameter_length (places t) node) _ (if is_given_by_initializer (places t) node then declarator (places t) js node (with_step ss node of_unsized) else verdict (absent_length node.id) (steps ss)) (declarator_row (ap is_declarator e) (with_step ss node Step.of_parameter) (chain_step (inr e) ss g Step.of_parameter tt))
        (yields_if (Holds (length js)) (is_given_by_initializer (places t) node) (declarator (places t) js node (with_step ss node of_unsized)) (verdict (absent_length node.id) (steps ss)) (declarator_row (ap is_declarator e) (with_step ss node of_unsized) (chain_step (inr e) ss g of_unsized tt)) tt)

    length_row : node.label.kind ≡ kind.ArrayOf → (ss : List PlacedStep) → steps_at js (kid node 0) ≡ Some ss → (x : Typing) (fs : List Fault) → length_faults x (kid node 1) node.id ≡ fs → Yields (Holds (length js)) (length_step (places t) js node ss x)
    unfolding length_step
    length_row e ss g x [] h = rw h (yields_if (Holds (length js)) (is_parameter_length (places t) node) _ _ (declarator_row (ap is_declarator e) (with_step ss node Step.of_parameter) (chain_step (inr e) ss g Step.of_parameter tt)) (declarator_row (ap is_declarator e) (with_step ss node (of_array (word_in x.constant))) (chain_step (inr e) ss g (of_array (word_in x.constant)) (counted x (kid node 1) node.id h))))
    length_row e ss g x (f ∷ fs) h = rw h (yields_if (Holds (length js)) (is_parameter_length (places t) node) _ _ (declarator_row (ap is_declarator e) (with_step ss node Step.of_parameter) (chain_step (inr e) ss g Step.of_parameter tt)) tt)

    array_row : node.label.kind ≡ kind.ArrayOf → Yields (Holds (length js)) (array_declarator (places t) js node)
    unfolding array_declarator
    array_row e = yields_given (Holds (length js)) (steps_at js (kid node 0)) _ (λ ss g. yields_if (Holds (length js)) (has_kid node 1) _ _
        (yields_given (Holds (length js)) (typing_at js (kid node 1)) (length_step (places t) js node ss) (λ x h. length_row e ss g x (length_faults x (kid node 1) node.id) refl)) (absent_row e ss g))

    takes_row : node.label.kind ≡ kind.Takes → Yields (Holds (length js)) (function_declarator (places t) js node)
    unfolding function_declarator
    takes_row e = yields_besides (Holds (length js)) _ _ (yields_given (Holds (length js)) (steps_at js (kid node 0)) _ (λ ss g. yields_given (Holds (length js)) (all_of (map (type_at js) (other_kids node))) (λ us. declarator (places t) js node (with_step ss node (of_function (types_of us))))
        (λ us h. declarator_row (ap is_declarator e) (with_step ss node (of_function (types_of us))) (c.takes node (low (ap is_step_kind e)).node ss us at_own (low (ap is_step_kind e)).there e
        (all_long (map (type_at js) (other_kids node)) us h ∙ long-map (type_at js) (other_kids node)) (low_chain (ap is_step_kind e) ss g)))))

    paren_row : node.label.kind ≡ kind.Paren → (o : Option Typing) → Yields (Holds (length js)) (in_parentheses (places t) js node o)
    paren_row e (Some x) = tt
    paren_row e None = yields_given (Holds (length js)) (steps_at js (kid node 0)) (declarator (places t) js node) (λ ss g. declarator_row (ap is_declarator e) ss (c.parentheses node (low (ap is_step_kind e)).node ss at_own (low (ap is_step_kind e)).there e (low_chain (ap is_step_kind e) ss g)))

    apart : is_declarator node.label.kind ≡ false → (other : Node) → slice_get (nodes t) (length js) ≡ Some other → is_declarator other.label.kind ≡ false
    apart e other g = ap (λ (m : Node). is_declarator m.label.kind) (sym (same_node other g)) ∙ e

    free : is_declarator node.label.kind ≡ false → (m : Meaning) → is_active m ≡ false → Holds (length js) m
    free e (steps ss) f = absurd (true≢false f)
    free e (declares u) f = λ other g d. absurd (true≢false (sym d ∙ (ap (λ (m : Node). is_declarator m.label.kind) (sym (same_node other g)) ∙ e)))
    free e (a_type u) f = apart e
    free e (initialized u ss cs) f = absurd (true≢false f)
    free e _ f = tt

    no_paren : (k : SynKind) → is_declarator k ≡ false → k ≡ kind.Paren → ⊥
    no_paren k d e = true≢false (sym (ap is_declarator e) ∙ d)

    other_row : (k : SynKind) → node.label.kind ≡ k → is_declarator k ≡ false → (a : Bool) → is_expression_kind k ≡ a → (b : Bool) → is_statement_kind k ≡ b → a || (b || is_plain_kind k) ≡ true → Yields (Holds (length js)) (judged_by (places t) js node k)
    other_row k e d true f b g h = expression_kind_row (Holds (length js)) (free (ap is_declarator e ∙ d)) (λ x n. tt) (places t) js node (λ q. absurd (no_paren k d (sym e ∙ q))) k e f
    other_row k e d false f true g h = statement_row (Holds (length js)) (λ ss. tt) (λ u ss cs. apart (ap is_declarator e ∙ d)) (λ w. tt) (places t) js node (λ q. function_row (Holds (length js)) (λ h2. tt) (places t) js node) k e g
    other_row k e d false f false g h = plain_row (Holds (length js)) (free (ap is_declarator e ∙ d)) (places t) js node k h

    row : (k : SynKind) → node.label.kind ≡ k → Yields (Holds (length js)) (judged_by (places t) js node k)
    unfolding judged_by
    row kind.Ident e = declarator_row (ap is_declarator e) [] (c.name node (in_at node (nodes t) (length js) there) (inl e))
    row kind.NoName e = declarator_row (ap is_declarator e) [] (c.name node (in_at node (nodes t) (length js) there) (inr e))
    row kind.Pointer e = pointer_row e
    row kind.ArrayOf e = array_row e
    row kind.Takes e = takes_row e
    row kind.Paren e = paren_row e (typing_at js (kid node 0))
    row kind.StructSpec e = struct_row (places t) js node (Holds (length js)) (λ fields k. tt) (λ u. apart (ap is_declarator e))
    row kind.Braces e = braces_row (Holds (length js)) (λ n cs. tt) (places t) js node
    row k e = other_row k e refl (is_expression_kind k) refl (is_statement_kind k) refl refl

  pub declared_at : (n : ℕ) (u : CType) → judgement_at (judgements_at (places t)) n ≡ means (declares u) → (node : Node) → slice_get (nodes t) n ≡ Some node → is_declarator node.label.kind ≡ true → Whole t C n node u
  declared_at n u e = all_known (places t) Holds (λ js node there front known. row js node there front known node.label.kind refl) n (declares u) e

  -- the type of a declarator that has one
  pub typed_at : (k : ℕ) (u : CType) (node : Node) → slice_get (nodes t) k ≡ Some node → is_declarator node.label.kind ≡ true → type_of (judgement_at (judgements_at (places t)) k) ≡ Some u → Whole t C k node u
  typed_at k u node there d e = by (judgement_at (judgements_at (places t)) k) refl e
    where
      holds : (m : Meaning) → judgement_at (judgements_at (places t)) k ≡ means m → Holds k m
      holds m g = all_known (places t) Holds (λ js other at front known. row js other at front known other.label.kind refl) k m g

      by : (j : Judgement) → judgement_at (judgements_at (places t)) k ≡ j → type_of j ≡ Some u → Whole t C k node u
      by (means (declares v)) g h = let same : v ≡ u = cc h in subst (λ w. Whole t C k node w) same (holds (declares v) g node there d)
      by (means (a_type v)) g h = absurd (true≢false (sym d ∙ holds (a_type v) g node there))
      by (means (initialized v ss cs)) g h = absurd (true≢false (sym d ∙ holds (initialized v ss cs) g node there))
      by _ g h = absurd (cc h)
