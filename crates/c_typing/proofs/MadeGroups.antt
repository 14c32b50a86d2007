-- The groups of a `switch`: their bodies are its statements, and their labels are its labels, in order.
use Rattle.std.proofs.Common.{◌≡◌, ℕ, suc, ◌≤◌, Bool, true, false, List, [], ◌∷◌, Option, Some, None, refl, sym, ap, ◌∙◌, subst, arith}
use Rattle.std.specs.Prelude.{if◌then◌else◌}
use Rattle.std.specs.List.{AllByRecursion}
use Rattle.c_types.specs.declared.tree.Stmt.{Stmt}
use Rattle.c_types.specs.declared.tree.Group.{Group}
use Rattle.c_types.specs.WellMade.{labels_of, others}
use Rattle.c_types.specs.Forms.{groups, group_row, stmts, stmt_row}
use Rattle.c_typing.specs.Judgements.{performs, labels, Judgement, means, judgement_at}
use Rattle.c_typing.specs.Statements.{as_one, Item, a_label, a_statement, item_at, labelled, groups_of}

-- ---- items

-- a label, or a statement of which it holds
abbrev pub ItemGood : (Stmt → Type 0) → Item → Type 0
ItemGood P (a_label w) = Unit {0}
ItemGood P (a_statement s) = P s

pub data Meant (j : Judgement) : Item → Type 0 where
  label : (w : Option ℕ) → j ≡ means (labels w) → Meant j (a_label w)
  statement : (ss : List Stmt) → j ≡ means (performs ss) → Meant j (a_statement (as_one ss))

pub item_meant : (js : List Judgement) (k : ℕ) (i : Item) (j : Judgement) → judgement_at js k ≡ j → item_at js k ≡ Some i → Meant j i
item_meant js k i (means (labels w)) e h =
    let is : item_at js k ≡ Some (a_label w) = rw e refl in
    let same : a_label w ≡ i = cc (sym is ∙ h) in
    subst (λ x. Meant (means (labels w)) x) same (label w refl)
item_meant js k i (means (performs ss)) e h =
    let is : item_at js k ≡ Some (a_statement (as_one ss)) = rw e refl in
    let same : a_statement (as_one ss) ≡ i = cc (sym is ∙ h) in
    subst (λ x. Meant (means (performs ss)) x) same (statement ss refl)
item_meant js k i _ e h = let is : item_at js k ≡ None = rw e refl in absurd (cc (sym is ∙ h))

-- ---- bodies

module _ (P : Stmt → Type 0) where
  abbrev pub BodiesGood : List Group → Type 0
  BodiesGood gs = AllByRecursion (λ (g : Group). AllByRecursion P g.body) gs

  labelled_good : (w : Option ℕ) (front : List Stmt) (gs : List Group) → AllByRecursion P front → BodiesGood gs → BodiesGood (labelled w front gs)
  labelled_good None [] [] f b = (tt, tt)
  labelled_good (Some w) [] [] f b = (tt, tt)
  labelled_good None [] (g ∷ gs) f b = b
  labelled_good (Some w) [] (g ∷ gs) f b = b
  labelled_good None (s ∷ ss) gs f b = (f, b)
  labelled_good (Some w) (s ∷ ss) gs f b = (f, b)

  grouped_good : (items : List Item) → AllByRecursion (ItemGood P) items → AllByRecursion P (groups_of items).front × BodiesGood (groups_of items).groups
  grouped_good [] h = (tt, tt)
  grouped_good (a_label w ∷ items) h = let below = grouped_good items h.1 in (tt, labelled_good w (groups_of items).front (groups_of items).groups below.0 below.1)
  grouped_good (a_statement s ∷ items) h = let below = grouped_good items h.1 in ((h.0, below.0), below.1)

  pub bodies_good : (items : List Item) → AllByRecursion (ItemGood P) items → BodiesGood (groups_of items).groups
  bodies_good items h = (grouped_good items h).1

-- ---- labels

-- the words of labels, in order
abbrev pub words_of : List Item → List ℕ
words_of [] = []
words_of (a_label (Some w) ∷ items) = w ∷ words_of items
words_of (a_label None ∷ items) = words_of items
words_of (a_statement s ∷ items) = words_of items

-- how many of them are the default
abbrev pub defaults_of : List Item → ℕ
defaults_of [] = 0
defaults_of (a_label None ∷ items) = suc (defaults_of items)
defaults_of (a_label (Some w) ∷ items) = defaults_of items
defaults_of (a_statement s ∷ items) = defaults_of items

labelled_none : (front : List Stmt) (gs : List Group) → labels_of (labelled None front gs) ≡ labels_of gs
labelled_none [] [] = refl
labelled_none [] (g ∷ gs) = refl
labelled_none (s ∷ ss) gs = refl

labelled_some : (w : ℕ) (front : List Stmt) (gs : List Group) → labels_of (labelled (Some w) front gs) ≡ w ∷ labels_of gs
labelled_some w [] [] = refl
labelled_some w [] (g ∷ gs) = refl
labelled_some w (s ∷ ss) gs = refl

pub labels_are : (items : List Item) → labels_of (groups_of items).groups ≡ words_of items
labels_are [] = refl
labels_are (a_label None ∷ items) = labelled_none (groups_of items).front (groups_of items).groups ∙ labels_are items
labels_are (a_label (Some w) ∷ items) = labelled_some w (groups_of items).front (groups_of items).groups ∙ ap (λ ws. w ∷ ws) (labels_are items)
labels_are (a_statement s ∷ items) = labels_are items

more_other : (b : Bool) (n : ℕ) → suc n ≤ suc (if b then suc n else n)
more_other true n = omega arith
more_other false n = omega arith

labelled_default : (front : List Stmt) (gs : List Group) → others (labelled None front gs) ≤ suc (others gs)
labelled_default [] [] = omega arith
labelled_default [] (g ∷ gs) = more_other g.other (others gs)
labelled_default (s ∷ ss) gs = omega arith

labelled_word : (w : ℕ) (front : List Stmt) (gs : List Group) → others (labelled (Some w) front gs) ≤ others gs
labelled_word w [] [] = omega arith
labelled_word w [] (g ∷ gs) = omega arith
labelled_word w (s ∷ ss) gs = omega arith

pub others_are : (items : List Item) → others (groups_of items).groups ≤ defaults_of items
others_are [] = omega arith
others_are (a_label None ∷ items) =
    let a = labelled_default (groups_of items).front (groups_of items).groups in
    let b = others_are items in
    omega (arith, a, b)
others_are (a_label (Some w) ∷ items) =
    let a = labelled_word w (groups_of items).front (groups_of items).groups in
    let b = others_are items in
    omega (arith, a, b)
others_are (a_statement s ∷ items) = others_are items

-- ---- rows of groups, and back

pub stmts_back : (ss : List Stmt) → stmts (stmt_row ss) ≡ ss
stmts_back [] = refl
stmts_back (s ∷ ss) = ap (λ rest. s ∷ rest) (stmts_back ss)

pub groups_back : (gs : List Group) → groups (group_row gs) ≡ gs
groups_back [] = refl
groups_back (g ∷ gs) =
    ap (λ body. record { labels = g.labels; other = g.other; body = body } ∷ groups (group_row gs)) (stmts_back g.body) ∙ ap (λ rest. g ∷ rest) (groups_back gs)
