-- Cells of the data: those of literals, of each declaration, and of declarations of which one has cells.
use Rattle.std.proofs.Common.{◌≡◌, ◌⊎◌, inl, inr, ℕ, ◌+◌, ◌≤◌, Bool, true, false, ◌||◌, List, [], ◌∷◌, ◌++◌, length, Some, refl, sym, ap, ◌∙◌, subst, arith, true≢false, append-nil}
use Rattle.std.specs.Prelude.{slice_get, flat_map}
use Rattle.std.specs.List.{AllByRecursion}
use Rattle.c_lexer.specs.declared.token.Token.{Token}
use Rattle.c_syntax.specs.declared.kind.SynKind.{SynKind}
use Rattle.c_syntax.specs.declared.kind.SynKind.TheVariants as kind
use Rattle.c_syntax.specs.Trees.{Tree}
use Rattle.c_grammar.specs.Derivation.{IsTreeOf}
use Rattle.c_types.specs.declared.tree.Cell.{Cell}
use Rattle.c_types.specs.WellMade.{end_of_cell, AllApart}
use Rattle.c_typing.specs.Types.{size_of}
use Rattle.c_typing.specs.Places.{Node, nodes, has_kid}
use Rattle.c_typing.specs.Names.{places}
use Rattle.c_typing.specs.Judgements.{Meaning, initialized, Judgement, means, judgement_at, layouts}
use Rattle.c_typing.specs.Initializers.{text_cells}
use Rattle.c_typing.specs.Typing.{judged_by, judgements_at, faults, cells_in, literal_object}
use Rattle.c_typing.proofs.MadeJudged.{Yields, all_known}
use Rattle.c_typing.proofs.MadeForms.{is_active, is_passive_kind, passive_row, braces_row, struct_row}
use Rattle.c_typing.proofs.MadeAnything.{any_row}
use Rattle.c_typing.proofs.MadeOthers.{is_statement_kind, statement_kind_row, init_row, function_row}
use Rattle.c_typing.proofs.MadeStatements.{is_expression_kind}
use Rattle.c_typing.proofs.MadeCells.{Stand, Between, all_mapped, stand_wider, stand_text}
use Rattle.c_typing.proofs.MadeCellsInitialized.{kept}

pub inside : (low high : ℕ) (cs : List Cell) → Stand low high cs → AllByRecursion (λ c. end_of_cell c ≤ high) cs
inside low high cs s = all_mapped (Between low high) (λ c. end_of_cell c ≤ high) cs (λ c h. h.1) s.within

-- ---- literals

pub literal_stands : (bytes : List ℕ) → Stand 0 (literal_object bytes).size (literal_object bytes).cells
literal_stands bytes = stand_wider 0 (0 + length bytes) 0 (length bytes + 1) (text_cells 0 bytes) (omega arith) (omega arith) (stand_text 0 bytes)

-- ---- lists of which one has cells

none_have : {A : Type 0} (f : A → List Cell) (c : Cell) (cs : List Cell) (xs : List A) → AllByRecursion (λ (b : A). ((c ∷ cs) ≡ []) ⊎ (f b ≡ [])) xs → flat_map f xs ≡ []
none_have {A} f c cs [] h = refl
none_have {A} f c cs (x ∷ xs) h = by h.0 (none_have f c cs xs h.1)
  where
    by : ((c ∷ cs) ≡ []) ⊎ (f x ≡ []) → flat_map f xs ≡ [] → f x ++ flat_map f xs ≡ []
    by (inl e) rest = absurd (cc e)
    by (inr e) rest = ap (λ ys. ys ++ flat_map f xs) e ∙ rest

-- it holds of each and each later one
abbrev pub EachTwo : {A : Type 0} → (A → A → Type 0) → List A → Type 0
EachTwo R [] = Unit {0}
EachTwo R (x ∷ xs) = AllByRecursion (R x) xs × EachTwo R xs

-- of each two, one has no cells
pub one_has : {A : Type 0} (f : A → List Cell) (xs : List A) → AllByRecursion (λ (a : A). AllApart (f a)) xs → EachTwo (λ (a b : A). (f a ≡ []) ⊎ (f b ≡ [])) xs → AllApart (flat_map f xs)
one_has {A} f [] h g = tt
one_has {A} f (x ∷ xs) h g = by (f x) h.0 g.0 (one_has f xs h.1 g.1)
  where
    by : (cs : List Cell) → AllApart cs → AllByRecursion (λ (b : A). (cs ≡ []) ⊎ (f b ≡ [])) xs → AllApart (flat_map f xs) → AllApart (cs ++ flat_map f xs)
    by [] a p rest = rest
    by (c ∷ cs) a p rest = subst (λ ys. AllApart ((c ∷ cs) ++ ys)) (sym (none_have f c cs xs p)) (subst (λ ys. AllApart ys) (sym (append-nil (c ∷ cs))) a)

-- ---- declarations

module _ (tokens : List Token) (t : Tree) (derived : IsTreeOf tokens t) (quiet : faults t ≡ []) where
  -- only a declarator with its initializer means such
  abbrev Only : ℕ → Meaning → Type 0
  Only n (initialized u ss cs) = (node : Node) × (slice_get (nodes t) n ≡ Some node) × (node.label.kind ≡ kind.InitDecl)
  Only n m = Unit {0}

  free : (n : ℕ) (m : Meaning) → is_active m ≡ false → Only n m
  free n (initialized u ss cs) e = absurd (true≢false e)
  free n _ e = tt

  other_row : (js : List Judgement) (node : Node) → slice_get (nodes t) (length js) ≡ Some node → (k : SynKind) → node.label.kind ≡ k → (b : Bool) → is_expression_kind k ≡ b → (c : Bool) → is_statement_kind k ≡ c → b || (c || is_passive_kind k) ≡ true
      → Yields (Only (length js)) (judged_by (places t) js node k)
  other_row js node there k is true e c f g = any_row (Only (length js)) (free (length js)) (λ ss. tt) (λ x h. tt) (places t) js node k is e
  other_row js node there k is false e true f g = statement_kind_row (Only (length js)) (λ ss. tt) (λ w. tt) (places t) js node (λ q. init_row (Only (length js)) (λ u ss cs. (node, there, q)) (places t) js node) (λ q. function_row (Only (length js)) (λ h. tt) (places t) js node) k is f
  other_row js node there k is false e false f g = passive_row (Only (length js)) (free (length js)) (λ ss. tt) (places t) js node k g

  row : (js : List Judgement) (node : Node) → slice_get (nodes t) (length js) ≡ Some node → (k : SynKind) → node.label.kind ≡ k → Yields (Only (length js)) (judged_by (places t) js node k)
  unfolding judged_by
  row js node there kind.StructSpec is = struct_row (places t) js node (Only (length js)) (λ fs k. tt) (λ u. tt)
  row js node there kind.Braces is = braces_row (Only (length js)) (λ n cs. tt) (places t) js node
  row js node there k is = other_row js node there k is (is_expression_kind k) refl (is_statement_kind k) refl refl

  -- the cells of a declaration: none, or those of its initializer, within the size of its type
  abbrev pub CellsOf : ℕ → Judgement → Type 0
  CellsOf n (means (initialized u ss cs)) = (node : Node) × (slice_get (nodes t) n ≡ Some node) × (node.label.kind ≡ kind.InitDecl) × ((cs ≡ []) ⊎ ((has_kid node 1 ≡ true) × Stand 0 (size_of (layouts (judgements_at (places t))) u) cs))
  CellsOf n j = Unit {0}

  pub cells_kept : (n : ℕ) (j : Judgement) → judgement_at (judgements_at (places t)) n ≡ j → CellsOf n j
  cells_kept n (means (initialized u ss cs)) e =
      let h = all_known (places t) Only (λ js node there front known. row js node there node.label.kind refl) n (initialized u ss cs) e in
      (h.0, h.1, h.2, kept tokens t derived quiet n h.0 h.1 h.2 (initialized u ss cs) e)
  cells_kept n _ e = tt

  pub declaration_apart : (n : ℕ) → AllApart (cells_in (judgement_at (judgements_at (places t)) n))
  declaration_apart n = by (judgement_at (judgements_at (places t)) n) (cells_kept n (judgement_at (judgements_at (places t)) n) refl)
    where
      cells : (size : ℕ) (b : Bool) (cs : List Cell) → (cs ≡ []) ⊎ ((b ≡ true) × Stand 0 size cs) → AllApart cs
      cells size b cs (inl e) = subst (λ xs. AllApart xs) (sym e) tt
      cells size b cs (inr s) = s.1.apart

      by : (j : Judgement) → CellsOf n j → AllApart (cells_in j)
      by (means (initialized u ss cs)) h = cells (size_of (layouts (judgements_at (places t))) u) (has_kid h.0 1) cs h.3
      by _ h = tt
