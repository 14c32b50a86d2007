-- A tree that has been read, and the node above it and others.
use Rattle.std.proofs.Common.{◌≡◌, ℕ, suc, ◌<◌, ◌≤◌, true, List, [], length, Result, Ok, Err, refl, sym, ap, ◌∙◌, subst, arith}
use Rattle.std.specs.Prelude.{⊤}
use Rattle.c_syntax.specs.declared.kind.SynKind.{SynKind}
use Rattle.c_syntax.specs.Trees.{Tree, Forest, none, one, two, three, ◌then◌, forest_of, text_node, height}
use Rattle.c_syntax.specs.Tables.{stack_of}
use Rattle.c_grammar.specs.Answers.{Answer, found}
use Rattle.c_grammar.specs.Scopes.{Names, after}
use Rattle.c_parts.specs.declared.budget.Stop.{Stop}
use Rattle.c_parts.specs.declared.part.Part.{Part}
use Rattle.c_parts.specs.Pushed.{IsPushed, ArePushed, Pushes, IsBelow}
use Rattle.c_parts.specs.Nodes.{declares_nothing}
use Rattle.c_parts.proofs.NameLaws.{after_node, after_one, after_two, after_three, after_row}
use Rattle.c_parser.specs.declared.parser.Parser.{Parser}
use Rattle.c_parser.specs.Gives.{Gives, Reads, ReadsAll, IsRead, AreRead, Keeps, Stops, itself, behind_all}

-- ---- nothing but the place has changed

pub keeps_same : (p : Parser) → Keeps p p
keeps_same p = record { names_are = refl; trees_are = refl; parameters_are = refl }

pub keeps_then : (p q r : Parser) → Keeps p q → Keeps q r → Keeps p r
keeps_then p q r a b = record { names_are = b.names_are ∙ a.names_are; trees_are = b.trees_are ∙ a.trees_are; parameters_are = b.parameters_are ∙ a.parameters_are }

pub pushed_on : (t : Tree) (under : List Tree) (part : Part) (p q : Parser) → Keeps p q → IsPushed t under (stack_of p.trees) part → IsPushed t under (stack_of q.trees) part
pushed_on t under part p q kept h = subst (λ trees. IsPushed t under (stack_of trees) part) (sym kept.trees_are) h

pub trees_on : (ts under : List Tree) (high : ℕ) (p q : Parser) → Keeps p q → ArePushed ts under (stack_of p.trees) high → ArePushed ts under (stack_of q.trees) high
trees_on ts under high p q kept h = subst (λ trees. ArePushed ts under (stack_of trees) high) (sym kept.trees_are) h

-- the same of a leaf that is put there
pub pushed_leaf : (t : Tree) (p q : Parser) (stack : List Tree) (r : Result Part Stop) → Keeps p q → Pushes t (stack_of q.trees) stack r → Pushes t (stack_of p.trees) stack r
pushed_leaf t p q stack r kept h = subst (λ trees. Pushes t (stack_of trees) stack r) kept.trees_are h

pub read_on : (names : Names) (t : Tree) (under : List Tree) (part : Part) (p q : Parser) → Keeps p q → IsRead (after names) t under p part → IsRead (after names) t under q part
read_on names t under part p q kept h = record { names_are = kept.names_are ∙ h.names_are; pushed = pushed_on t under part p q kept h.pushed }

-- what was read from the kept state on was read from the state before
pub read_from : (e : Answer Tree) (says : Tree → Type 0) (lower most : ℕ) (p q r : Parser) (part : Part) → Keeps p q → Reads e (after q.names) says (stack_of q.trees) lower most r part
    → Reads e (after p.names) says (stack_of p.trees) lower most r part
read_from e says lower most p q r part kept h =
    let stack = ap stack_of kept.trees_are in
    record {
      tree = h.tree;
      found_is = h.found_is;
      read = record {
        names_are = h.read.names_are ∙ ap (λ (n : Names). after n h.tree) kept.names_are;
        pushed = subst (λ under. IsPushed h.tree under (stack_of r.trees) part) stack h.read.pushed;
      };
      said = h.said;
      low = h.low;
      shorter = h.shorter;
    }

pub row_from : (e : Answer Forest) (says : List Tree → Type 0) (lower most : ℕ) (p q r : Parser) (high : ℕ) → Keeps p q
    → ReadsAll e (behind_all q.names) says (stack_of q.trees) lower most r high → ReadsAll e (behind_all p.names) says (stack_of p.trees) lower most r high
row_from e says lower most p q r high kept h =
    let stack = ap stack_of kept.trees_are in
    record {
      trees = h.trees;
      found_is = h.found_is;
      read = record {
        names_are = h.read.names_are ∙ ap (λ (n : Names). behind_all n (forest_of h.trees)) kept.names_are;
        pushed = subst (λ under. ArePushed h.trees under (stack_of r.trees) high) stack h.read.pushed;
      };
      said = h.said;
      low = h.low;
      shorter = h.shorter;
    }

-- what is within the budget
pub lower_fits : {high d lower : ℕ} → IsBelow high d lower → high ≤ lower
lower_fits below_is = let f = below_is.fits in let n = below_is.next in omega (arith, f, n)

-- ---- one tree

-- a tree is put onto the stack, or memory is refused
pub made : (says : Tree → Type 0) (whole : Answer Tree) (next : Tree → Names) (t : Tree) (under : List Tree) (budget most : ℕ) (p : Parser) (r : Result Part Stop)
    → Pushes t under (stack_of p.trees) r → whole ≡ found t p.rest.now → p.names ≡ next t → says t → height t ≤ budget → length p.rest.now < most
    → Gives itself (λ t part. says t) whole next under budget most p r
made says whole next t under budget most p (Ok part) h f n s low shorter = record {
  tree = t;
  found_is = f;
  read = record { names_are = n; pushed = h };
  said = s;
  low = let e = h.height_is in omega (arith, e, low);
  shorter = shorter;
}
made says whole next t under budget most p (Err stop) h f n s low shorter = subst (Stops whole p.rest.now) (sym h) tt

-- what a call gave, of another reading that is the same
pub gives_same : {T : Type 0} (part : T → Part) (says : Tree → T → Type 0) (e f : Answer Tree) (next : Tree → Names) (under : List Tree) (budget most : ℕ) (p : Parser) (r : Result T Stop)
    → f ≡ e → Gives part says e next under budget most p r → Gives part says f next under budget most p r
gives_same part says e f next under budget most p r same h = subst (λ x. Gives part says x next under budget most p r) (sym same) h

-- ---- the node above one tree, two trees, three trees

module _ (kind : SynKind) (text : List ℕ) (start : ℕ) (quiet : declares_nothing kind ≡ true) (says : Tree → Type 0) (whole : Answer Tree) (budget lower most : ℕ) (next_lower : budget ≡ suc lower) where
  pub one_made : (names : Names) (x : Tree) (under : List Tree) (kid : Part) (p q : Parser) (r : Result Part Stop)
      → IsRead (after names) x under p kid → kid.height ≤ lower → q.names ≡ p.names → length q.rest.now < most
      → ((t : Tree) (under : List Tree) → IsPushed t under (stack_of p.trees) kid → Pushes (text_node kind text start (one t)) under (stack_of q.trees) r)
      → whole ≡ found (text_node kind text start (one x)) q.rest.now → says (text_node kind text start (one x))
      → Gives itself (λ t part. says t) whole (after names) under budget most q r
  one_made names x under kid p q r read low n shorter push f s =
      made says whole (after names) (text_node kind text start (one x)) under budget most q r (push x under read.pushed) f
      (n ∙ read.names_are ∙ sym (after_one names kind text start x quiet)) s (let h = read.pushed.height_is in omega (arith, h, low, next_lower)) shorter

  pub two_made : (names : Names) (x : Tree) (under : List Tree) (left right : Part) (p a : Parser) (e : Answer Tree) (says2 : Tree → Type 0) (most2 : ℕ) (b c q : Parser) (r : Result Part Stop)
      → IsRead (after names) x under p left → left.height ≤ lower → Keeps p a → (second : Reads e (after a.names) says2 (stack_of a.trees) lower most2 b right) → Keeps b c
      → q.names ≡ c.names → length q.rest.now < most
      → ((t u : Tree) (under behind : List Tree) → IsPushed t under behind left → IsPushed u behind (stack_of c.trees) right → Pushes (text_node kind text start (two t u)) under (stack_of q.trees) r)
      → whole ≡ found (text_node kind text start (two x second.tree)) q.rest.now → says (text_node kind text start (two x second.tree))
      → Gives itself (λ t part. says t) whole (after names) under budget most q r
  two_made names x under left right p a e says2 most2 b c q r read low kept second kept2 n shorter push f s =
      let y = second.tree in
      made says whole (after names) (text_node kind text start (two x y)) under budget most q r
      (push x y under (stack_of a.trees) (pushed_on x under left p a kept read.pushed) (pushed_on y (stack_of a.trees) right b c kept2 second.read.pushed)) f
      (n ∙ kept2.names_are ∙ second.read.names_are ∙ ap (λ (m : Names). after m y) (kept.names_are ∙ read.names_are) ∙ sym (after_two names kind text start x y quiet)) s
      (let h = read.pushed.height_is in let i = second.read.pushed.height_is in let l = second.low in omega (arith, h, i, l, low, next_lower)) shorter

  pub three_made : (names : Names) (x : Tree) (under : List Tree) (first middle last : Part) (p a : Parser) (e : Answer Tree) (says2 : Tree → Type 0) (most2 : ℕ) (b c : Parser)
      (f : Answer Tree) (says3 : Tree → Type 0) (most3 : ℕ) (d g q : Parser) (r : Result Part Stop)
      → IsRead (after names) x under p first → first.height ≤ lower → Keeps p a → (second : Reads e (after a.names) says2 (stack_of a.trees) lower most2 b middle) → Keeps b c
      → (third : Reads f (after c.names) says3 (stack_of c.trees) lower most3 d last) → Keeps d g
      → q.names ≡ g.names → length q.rest.now < most
      → ((t u v : Tree) (under behind over : List Tree) → IsPushed t under behind first → IsPushed u behind over middle → IsPushed v over (stack_of g.trees) last
      → Pushes (text_node kind text start (three t u v)) under (stack_of q.trees) r)
      → whole ≡ found (text_node kind text start (three x second.tree third.tree)) q.rest.now → says (text_node kind text start (three x second.tree third.tree))
      → Gives itself (λ t part. says t) whole (after names) under budget most q r
  three_made names x under first middle last p a e says2 most2 b c f says3 most3 d g q r read low kept second kept2 third kept3 n shorter push is_found s =
      let y = second.tree in
      let z = third.tree in
      made says whole (after names) (text_node kind text start (three x y z)) under budget most q r
      (push x y z under (stack_of a.trees) (stack_of c.trees) (pushed_on x under first p a kept read.pushed) (pushed_on y (stack_of a.trees) middle b c kept2 second.read.pushed)
      (pushed_on z (stack_of c.trees) last d g kept3 third.read.pushed)) is_found
      (n ∙ kept3.names_are ∙ third.read.names_are
      ∙ ap (λ (m : Names). after m z) (kept2.names_are ∙ second.read.names_are ∙ ap (λ (m : Names). after m y) (kept.names_are ∙ read.names_are))
      ∙ sym (after_three names kind text start x y z quiet)) s
      (let h = read.pushed.height_is in let i = second.read.pushed.height_is in let j = third.read.pushed.height_is in let l = second.low in let m = third.low in omega (arith, h, i, j, l, m, low, next_lower))
      shorter

  -- ---- the node above a row, and above a tree and a row

  pub row_made : (names : Names) (ts under : List Tree) (high : ℕ) (p q : Parser) (r : Result Part Stop)
      → AreRead (behind_all names) ts under p high → high ≤ lower → q.names ≡ p.names → length q.rest.now < most
      → (ArePushed ts under (stack_of p.trees) high → Pushes (text_node kind text start (forest_of ts)) under (stack_of q.trees) r)
      → whole ≡ found (text_node kind text start (forest_of ts)) q.rest.now → says (text_node kind text start (forest_of ts))
      → Gives itself (λ t part. says t) whole (after names) under budget most q r
  row_made names ts under high p q r read low n shorter push f s =
      made says whole (after names) (text_node kind text start (forest_of ts)) under budget most q r (push read.pushed) f
      (n ∙ read.names_are ∙ sym (after_node names kind text start (forest_of ts) quiet)) s (let h = read.pushed.height_is in omega (arith, h, low, next_lower)) shorter

  pub first_made : (names : Names) (x : Tree) (under : List Tree) (first : Part) (p a : Parser) (e : Answer Forest) (says2 : List Tree → Type 0) (most2 high : ℕ) (b c q : Parser) (r : Result Part Stop)
      → IsRead (after names) x under p first → first.height ≤ lower → Keeps p a → (row : ReadsAll e (behind_all a.names) says2 (stack_of a.trees) lower most2 b high) → Keeps b c
      → q.names ≡ c.names → length q.rest.now < most
      → ((t : Tree) (ts under : List Tree) → IsPushed t under (stack_of a.trees) first → ArePushed ts (stack_of a.trees) (stack_of c.trees) high
      → Pushes (text_node kind text start (t then forest_of ts)) under (stack_of q.trees) r)
      → whole ≡ found (text_node kind text start (x then forest_of row.trees)) q.rest.now → says (text_node kind text start (x then forest_of row.trees))
      → Gives itself (λ t part. says t) whole (after names) under budget most q r
  first_made names x under first p a e says2 most2 high b c q r read low kept row kept2 n shorter push f s =
      let ts = row.trees in
      made says whole (after names) (text_node kind text start (x then forest_of ts)) under budget most q r
      (push x ts under (pushed_on x under first p a kept read.pushed) (trees_on ts (stack_of a.trees) high b c kept2 row.read.pushed)) f
      (n ∙ kept2.names_are ∙ row.read.names_are ∙ ap (λ (m : Names). behind_all m (forest_of ts)) (kept.names_are ∙ read.names_are) ∙ sym (after_row names kind text start x (forest_of ts) quiet)) s
      (let h = read.pushed.height_is in let i = row.read.pushed.height_is in let l = row.low in omega (arith, h, i, l, low, next_lower)) shorter

-- no tree at all
pub none_read : (whole : Answer Forest) (next : Forest → Names) (budget most : ℕ) (p : Parser) (under : List Tree) → whole ≡ found none p.rest.now → p.names ≡ next none → stack_of p.trees ≡ under
    → length p.rest.now < most → ReadsAll whole next (λ ts. ⊤) under budget most p 0
none_read whole next budget most p under f n stack shorter = record {
  trees = [];
  found_is = f;
  read = record { names_are = n; pushed = record { stack_is = stack; height_is = refl } };
  said = tt;
  low = omega arith;
  shorter = shorter;
}
