-- Groups that grow at their end.
use Rattle.std.proofs.Common.{◌≡◌, ◌++◌, ℕ, Bool, true, false, List, [], ◌∷◌, Option, Some, None, refl, sym, ap, ◌∙◌, append_assoc, true≢false}
use Rattle.std.specs.Prelude.{IsTrue, ◌↔◌}
use Rattle.c_types.specs.declared.tree.Stmt.{Stmt}
use Rattle.c_types.specs.declared.tree.Group.{Group}
use Rattle.c_typing.specs.Statements.{Item, a_label, a_statement, Grouped, grouped, label_group, with_label, labelled, with_item, groups_of}
use Rattle.c_statements.specs.Groups.{AreGroups}

-- ---- a statement more

abbrev pub behind : Stmt → Group → Group
behind s g = record g { body = g.body ++ s ∷ [] }

abbrev pub stated : Stmt → List Group → List Group
stated s [] = []
stated s (g ∷ []) = behind s g ∷ []
stated s (g ∷ h ∷ rest) = g ∷ stated s (h ∷ rest)

-- the same of groups with what stands before them
abbrev end_stated : Stmt → List Stmt → List Group → Grouped
end_stated s front [] = grouped (front ++ s ∷ []) []
end_stated s front gs = grouped front (stated s gs)

abbrev ends : Stmt → Grouped → Grouped
ends s q = end_stated s q.front q.groups

label_stated : (w : Option ℕ) (s : Stmt) (front : List Stmt) (gs : List Group) → with_item (a_label w) (end_stated s front gs) ≡ end_stated s [] (labelled w front gs)
label_stated None s [] [] = refl
label_stated (Some w) s [] [] = refl
label_stated None s (r ∷ front) [] = refl
label_stated (Some w) s (r ∷ front) [] = refl
label_stated None s [] (g ∷ []) = refl
label_stated (Some w) s [] (g ∷ []) = refl
label_stated w s [] (g ∷ h ∷ gs) = refl
label_stated w s (r ∷ front) (g ∷ gs) = refl

with_stated : (i : Item) (s : Stmt) (front : List Stmt) (gs : List Group) → with_item i (end_stated s front gs) ≡ ends s (with_item i (grouped front gs))
with_stated (a_statement r) s front [] = refl
with_stated (a_statement r) s front (g ∷ gs) = refl
with_stated (a_label w) s front gs = label_stated w s front gs

all_stated : (items : List Item) (s : Stmt) → groups_of (items ++ a_statement s ∷ []) ≡ ends s (groups_of items)
all_stated [] s = refl
all_stated (i ∷ rest) s = ap (with_item i) (all_stated rest s) ∙ with_stated i s (groups_of rest).front (groups_of rest).groups

groups_stated : (s : Stmt) (front : List Stmt) (gs : List Group) → (end_stated s front gs).groups ≡ stated s gs
groups_stated s front [] = refl
groups_stated s front (g ∷ gs) = refl

pub next_stated : (old new : List Group) (items : List Item) (s : Stmt) → new ≡ stated s old → AreGroups old items → AreGroups new (items ++ a_statement s ∷ [])
next_stated old new items s e are =
    e ∙ ap (stated s) are ∙ sym (groups_stated s (groups_of items).front (groups_of items).groups) ∙ ap (λ (q : Grouped). q.groups) (sym (all_stated items s))

pub last_stated : (gs : List Group) (g : Group) (s : Stmt) → stated s (gs ++ g ∷ []) ≡ gs ++ behind s g ∷ []
last_stated [] g s = refl
last_stated (x ∷ []) g s = refl
last_stated (x ∷ y ∷ rest) g s = ap (λ r. x ∷ r) (last_stated (y ∷ rest) g s)

-- ---- a label more

abbrev pub bare : List Stmt → Bool
bare [] = true
bare (s ∷ ss) = false

abbrev pub beside : Option ℕ → Group → Group
beside None g = record g { other = true }
beside (Some w) g = record g { labels = g.labels ++ w ∷ [] }

abbrev joined : Option ℕ → Group → Bool → List Group
joined w g true = beside w g ∷ []
joined w g false = g ∷ label_group w [] ∷ []

abbrev pub named : Option ℕ → List Group → List Group
named w [] = label_group w [] ∷ []
named w (g ∷ []) = joined w g (bare g.body)
named w (g ∷ h ∷ rest) = g ∷ named w (h ∷ rest)

beside_label : (v w : Option ℕ) (g : Group) → with_label v (beside w g) ≡ beside w (with_label v g)
beside_label None None g = refl
beside_label None (Some b) g = refl
beside_label (Some a) None g = refl
beside_label (Some a) (Some b) g = refl

joined_label : (v w : Option ℕ) (g : Group) (b : Bool) → labelled v [] (joined w g b) ≡ joined w (with_label v g) b
joined_label v w g true = ap (λ h. h ∷ []) (beside_label v w g)
joined_label v w g false = refl

body_stays : (v : Option ℕ) (g : Group) → bare (with_label v g).body ≡ bare g.body
body_stays None g = refl
body_stays (Some v) g = refl

first_label : (v w : Option ℕ) → with_label v (label_group w []) ≡ beside w (label_group v [])
first_label None None = refl
first_label None (Some b) = refl
first_label (Some a) None = refl
first_label (Some a) (Some b) = refl

label_named : (v w : Option ℕ) (front : List Stmt) (gs : List Group) → labelled v front (named w gs) ≡ named w (labelled v front gs)
label_named None None [] [] = refl
label_named None (Some b) [] [] = refl
label_named (Some a) None [] [] = refl
label_named (Some a) (Some b) [] [] = refl
label_named v w [] (g ∷ []) = joined_label v w g (bare g.body) ∙ ap (joined w (with_label v g)) (sym (body_stays v g))
label_named v w [] (g ∷ h ∷ gs) = refl
label_named None w (s ∷ front) [] = refl
label_named (Some a) w (s ∷ front) [] = refl
label_named v w (s ∷ front) (g ∷ gs) = refl

with_named : (i : Item) (w : Option ℕ) (q : Grouped) → with_item i (grouped q.front (named w q.groups)) ≡ grouped (with_item i q).front (named w (with_item i q).groups)
with_named (a_statement s) w q = refl
with_named (a_label v) w q = ap (grouped []) (label_named v w q.front q.groups)

all_named : (items : List Item) (w : Option ℕ) → groups_of (items ++ a_label w ∷ []) ≡ grouped (groups_of items).front (named w (groups_of items).groups)
all_named [] w = refl
all_named (i ∷ rest) w = ap (with_item i) (all_named rest w) ∙ with_named i w (groups_of rest)

pub next_named : (old new : List Group) (items : List Item) (w : Option ℕ) → new ≡ named w old → AreGroups old items → AreGroups new (items ++ a_label w ∷ [])
next_named old new items w e are = e ∙ ap (named w) are ∙ ap (λ (q : Grouped). q.groups) (sym (all_named items w))

last_named : (gs : List Group) (g : Group) (w : Option ℕ) → named w (gs ++ g ∷ []) ≡ gs ++ joined w g (bare g.body)
last_named [] g w = refl
last_named (x ∷ []) g w = refl
last_named (x ∷ y ∷ rest) g w = ap (λ r. x ∷ r) (last_named (y ∷ rest) g w)

-- the last group has no statement yet
pub joins : (gs : List Group) (g : Group) (w : Option ℕ) → g.body ≡ [] → named w (gs ++ g ∷ []) ≡ gs ++ beside w g ∷ []
joins gs g w none = last_named gs g w ∙ ap (λ b. gs ++ joined w g (bare b)) none

-- the last group has statements
pub begins : (gs : List Group) (g : Group) (w : Option ℕ) → bare g.body ≡ false → named w (gs ++ g ∷ []) ≡ gs ++ g ∷ label_group w [] ∷ []
begins gs g w some = last_named gs g w ∙ ap (λ b. gs ++ joined w g b) some

-- ---- as the code has them

pub pushed_statement : (old gs : List Group) (g : Group) (body : List Stmt) (s : Stmt) → old ≡ gs ++ g ∷ [] → body ≡ g.body ++ s ∷ [] → gs ++ record g { body = body } ∷ [] ≡ stated s old
pushed_statement old gs g body s last more = ap (λ b. gs ++ record g { body = b } ∷ []) more ∙ sym (last_stated gs g s) ∙ ap (stated s) (sym last)

pub first_group : (old popped new : List Group) (w : Option ℕ) → old ≡ [] → popped ≡ [] → new ≡ popped ++ label_group w [] ∷ [] → new ≡ named w old
first_group old popped new w none none_left more = more ∙ ap (λ gs. gs ++ label_group w [] ∷ []) none_left ∙ ap (named w) (sym none)

has_body : (body : List Stmt) (b : Bool) → IsTrue b ↔ (body ≡ []) → b ≡ false → bare body ≡ false
has_body [] b h e = absurd (true≢false (sym (h.1 refl) ∙ e))
has_body (s ∷ ss) b h e = refl

pub next_group : (old gs pushed new : List Group) (g : Group) (w : Option ℕ) (b : Bool) → IsTrue b ↔ (g.body ≡ []) → b ≡ false
    → old ≡ gs ++ g ∷ [] → pushed ≡ gs ++ g ∷ [] → new ≡ pushed ++ label_group w [] ∷ [] → new ≡ named w old
next_group old gs pushed new g w b h e last back more =
    more ∙ ap (λ hs. hs ++ label_group w [] ∷ []) back ∙ append_assoc gs (g ∷ []) (label_group w [] ∷ []) ∙ sym (begins gs g w (has_body g.body b h e)) ∙ ap (named w) (sym last)

pub same_group : (old gs new : List Group) (g after : Group) (w : Option ℕ) (b : Bool) → IsTrue b ↔ (g.body ≡ []) → b ≡ true
    → old ≡ gs ++ g ∷ [] → after ≡ beside w g → new ≡ gs ++ after ∷ [] → new ≡ named w old
same_group old gs new g after w b h e last beside_is more =
    more ∙ ap (λ x. gs ++ x ∷ []) beside_is ∙ sym (joins gs g w (h.0 e)) ∙ ap (named w) (sym last)

pub labelled_by : (g : Group) (labels : List ℕ) (w : ℕ) → labels ≡ g.labels ++ w ∷ [] → record g { labels = labels } ≡ beside (Some w) g
labelled_by g labels w more = ap (λ (ls : List ℕ). record g { labels = ls }) more
