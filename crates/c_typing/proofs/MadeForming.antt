-- What holds of every part of the code of an expression, by the forms that it is made of.
use Rattle.std.proofs.Common.{◌≡◌, ◌<◌, arith, ℕ, ◌+◌, Bool, true, false, List, Option, Some, None, refl}
use Rattle.std.specs.Prelude.{if◌then◌else◌}
use Rattle.cp_base.specs.declared.op.To.{To}
use Rattle.c_types.specs.declared.tree.COp.{COp}
use Rattle.c_types.specs.declared.tree.COp.TheVariants as op
use Rattle.c_types.specs.declared.tree.Expr.{Expr}
use Rattle.c_types.specs.Forms.{const, local, set_local, load, store, binary, convert, both, either, choose, seq, get_char, put_char}
use Rattle.c_types.specs.Every.{EveryExpr}
use Rattle.c_typing.specs.Types.{CType, void, integer, pointer, array, unsized, struct, function, int, same, traits_of, common, promoted, integer_of, Layout, size_of}
use Rattle.c_typing.specs.Judgements.{Form, value, in_local, in_memory, temporary, callee, Typing}
use Rattle.c_typing.specs.Conversions.{access_of, read_by, value_by, value_of, narrowed, converted_code, Class, additive, subtractive, shift, and_then, or_else, Operator, scaled, signs, plain_code, sum_code, difference_code, operator_code}
use Rattle.c_typing.specs.Expressions.{hidden_for, written, written_before, stepped, binary_code, compound_new}

-- forms that name nothing
abbrev pub is_free : Expr → Bool
is_free (const n) = true
is_free (load k e) = true
is_free (store k a e) = true
is_free (binary o l r) = true
is_free (convert to e) = true
is_free (both l r) = true
is_free (either l r) = true
is_free (choose c a b) = true
is_free (seq l r) = true
is_free get_char = true
is_free (put_char e) = true
is_free e = false

module _ (P : Expr → Type 0) (free : (e : Expr) → is_free e ≡ true → P e) where
  abbrev Ev : Expr → Type 0
  Ev e = EveryExpr P e

  read_every : (u : CType) (x : Typing) → Ev x.code → Ev (read_by u x).code
  read_every (array u n) x h = h
  read_every (unsized u) x h = h
  read_every (struct k) x h = h
  read_every void x h = (free (load (access_of void) x.code) refl, h)
  read_every (integer k) x h = (free (load (access_of (integer k)) x.code) refl, h)
  read_every (pointer u) x h = (free (load (access_of (pointer u)) x.code) refl, h)
  read_every (function r ps) x h = (free (load (access_of (function r ps)) x.code) refl, h)

  value_by_every : (f : Form) (x : Typing) → Ev x.code → Ev (value_by f x).code
  value_by_every (in_local k) x h = h
  value_by_every in_memory x h = read_every x.type x h
  value_by_every temporary x h = read_every x.type x h
  value_by_every value x h = h
  value_by_every (callee c) x h = h

  pub value_every : (x : Typing) → Ev x.code → Ev (value_of x).code
  value_every x h = value_by_every x.form x h

  narrowed_every : (o : Option To) (e : Expr) → Ev e → Ev (narrowed o e)
  narrowed_every None e h = h
  narrowed_every (Some to) e h = (free (convert to e) refl, h)

  if_every : (b : Bool) (x y : Expr) → Ev x → Ev y → Ev (if b then x else y)
  if_every true x y h g = h
  if_every false x y h g = g

  pub converted_every : (from to : CType) (e : Expr) → Ev e → Ev (converted_code from to e)
  converted_every from (integer k) e h = if_every (same from (integer k)) e (narrowed (traits_of k).narrowing e) h (narrowed_every (traits_of k).narrowing e h)
  converted_every from void e h = h
  converted_every from (pointer u) e h = h
  converted_every from (array u n) e h = h
  converted_every from (unsized u) e h = h
  converted_every from (struct k) e h = h
  converted_every from (function r ps) e h = h

  pub binary_every : (o : COp) (l r : Expr) → Ev l → Ev r → Ev (binary o l r)
  binary_every o l r h g = (free (binary o l r) refl, h, g)

  pub const_every : (n : ℕ) → Ev (const n)
  const_every n = free (const n) refl

  pub scaled_every : (ls : List Layout) (u : CType) (e : Expr) → Ev e → Ev (scaled ls u e)
  scaled_every ls u e h = binary_every op.MulU e (const (size_of ls u)) h (const_every (size_of ls u))

  module _ (ls : List Layout) where
    plain_every : (u v : CType) (o : Operator) (l r : Expr) → Ev l → Ev r → Ev (plain_code ls u v o l r)
    plain_every (integer a) (integer b) o l r h g = binary_every (signs ls (common a b) o) l r h g
    plain_every u v o l r h g = binary_every o.unsigned l r h g

    sum_every : (u v : CType) (o : Operator) (l r : Expr) → Ev l → Ev r → Ev (sum_code ls u v o l r)
    sum_every (pointer u) v o l r h g = binary_every op.AddU l (scaled ls u r) h (scaled_every ls u r g)
    sum_every u (pointer v) o l r h g = binary_every op.AddU (scaled ls v l) r (scaled_every ls v l h) g
    sum_every u v o l r h g = plain_every u v o l r h g

    difference_every : (u v : CType) (o : Operator) (l r : Expr) → Ev l → Ev r → Ev (difference_code ls u v o l r)
    difference_every (pointer u) (pointer v) o l r h g = binary_every op.DivS (binary op.SubU l r) (const (size_of ls u)) (binary_every op.SubU l r h g) (const_every (size_of ls u))
    difference_every (pointer u) v o l r h g = binary_every op.SubU l (scaled ls u r) h (scaled_every ls u r g)
    difference_every u v o l r h g = plain_every u v o l r h g

    pub operator_every : (c : Class) (u v : CType) (o : Operator) (l r : Expr) → Ev l → Ev r → Ev (operator_code ls c u v o l r)
    operator_every additive u v o l r h g = sum_every u v o l r h g
    operator_every subtractive u v o l r h g = difference_every u v o l r h g
    operator_every shift u v o l r h g = binary_every (signs ls (promoted (integer_of u)) o) l r h g
    operator_every c u v o l r h g = plain_every u v o l r h g

    pub binary_code_every : (o : Operator) (x y : Typing) (c : Class) → Ev x.code → Ev y.code → Ev (binary_code ls o x y c)
    binary_code_every o x y and_then h g = (free (both x.code y.code) refl, h, g)
    binary_code_every o x y or_else h g = (free (either x.code y.code) refl, h, g)
    binary_code_every o x y c h g = operator_every c x.type y.type o x.code y.code h g

    pub stepped_every : (o : Operator) (u : CType) (e : Expr) → Ev e → Ev (stepped ls o u e)
    stepped_every o u e h = converted_every _ u (operator_code ls o.class u (integer int) o e (const 1)) (operator_every o.class u (integer int) o e (const 1) h (const_every 1))

    pub compound_every : (o : Operator) (x y : Typing) (e : Expr) → Ev y.code → Ev e → Ev (compound_new ls o x y e)
    compound_every o x y e g h = converted_every _ x.type (operator_code ls o.class x.type y.type o e y.code) (operator_every o.class x.type y.type o e y.code h g)

  -- ---- what reads and writes

  pub seq_every : (l r : Expr) → Ev l → Ev r → Ev (seq l r)
  seq_every l r h g = (free (seq l r) refl, h, g)

  load_every : (u : CType) (e : Expr) → Ev e → Ev (load (access_of u) e)
  load_every u e h = (free (load (access_of u) e) refl, h)

  store_every : (u : CType) (a e : Expr) → Ev a → Ev e → Ev (store (access_of u) a e)
  store_every u a e h g = (free (store (access_of u) a e) refl, h, g)

  module _ (L : ℕ → Type 0) (is_local : (k : ℕ) → L k → P (local k)) (is_set : (k : ℕ) (e : Expr) → L k → P (set_local k e)) where
    pub set_every : (k : ℕ) (e : Expr) → L k → Ev e → Ev (set_local k e)
    set_every k e l h = (is_set k e l, h)

    in_memory_every : (h : ℕ) (x : Typing) (new : Expr → Expr) → ((e : Expr) → Ev e → Ev (new e)) → Ev x.code → L h → Ev (seq (set_local h x.code) (store (access_of x.type) (local h) (new (load (access_of x.type) (local h)))))
    in_memory_every h x new each c l = seq_every (set_local h x.code) (store (access_of x.type) (local h) (new (load (access_of x.type) (local h)))) (set_every h x.code l c)
        (store_every x.type (local h) (new (load (access_of x.type) (local h))) (is_local h l) (each (load (access_of x.type) (local h)) (load_every x.type (local h) (is_local h l))))

    -- how many hidden locals it takes is said by its form
    pub written_every : (h : ℕ) (x : Typing) (new : Expr → Expr) → ((e : Expr) → Ev e → Ev (new e)) → Ev x.code → (f : Form) → ((k : ℕ) → f ≡ in_local k → L k) → (0 < hidden_for f 0 → L h) → Ev (written h x new f)
    written_every h x new each c (in_local k) l g = set_every k (new (local k)) (l k refl) (each (local k) (is_local k (l k refl)))
    written_every h x new each c value l g = in_memory_every h x new each c (g (omega arith))
    written_every h x new each c in_memory l g = in_memory_every h x new each c (g (omega arith))
    written_every h x new each c temporary l g = in_memory_every h x new each c (g (omega arith))
    written_every h x new each c (callee q) l g = in_memory_every h x new each c (g (omega arith))

    before_every : (h : ℕ) (x : Typing) (new : Expr → Expr) → ((e : Expr) → Ev e → Ev (new e)) → Ev x.code → L h → L (h + 1)
        → Ev (seq (set_local h x.code) (seq (set_local (h + 1) (load (access_of x.type) (local h))) (seq (store (access_of x.type) (local h) (new (local (h + 1)))) (local (h + 1)))))
    before_every h x new each c l m =
        let old = local (h + 1) in
        let kept = store (access_of x.type) (local h) (new old) in
        seq_every (set_local h x.code) (seq (set_local (h + 1) (load (access_of x.type) (local h))) (seq kept old)) (set_every h x.code l c)
        (seq_every (set_local (h + 1) (load (access_of x.type) (local h))) (seq kept old) (set_every (h + 1) (load (access_of x.type) (local h)) m (load_every x.type (local h) (is_local h l)))
        (seq_every kept old (store_every x.type (local h) (new old) (is_local h l) (each old (is_local (h + 1) m))) (is_local (h + 1) m)))

    pub written_before_every : (h : ℕ) (x : Typing) (new : Expr → Expr) → ((e : Expr) → Ev e → Ev (new e)) → Ev x.code → (f : Form) → ((k : ℕ) → f ≡ in_local k → L k) → (0 < hidden_for f 1 → L h) → (1 < hidden_for f 1 → L (h + 1)) → Ev (written_before h x new f)
    written_before_every h x new each c (in_local k) l g m =
        seq_every (set_local h (local k)) (seq (set_local k (new (local h))) (local h)) (set_every h (local k) (g (omega arith)) (is_local k (l k refl)))
        (seq_every (set_local k (new (local h))) (local h) (set_every k (new (local h)) (l k refl) (each (local h) (is_local h (g (omega arith))))) (is_local h (g (omega arith))))
    written_before_every h x new each c value l g m = before_every h x new each c (g (omega arith)) (m (omega arith))
    written_before_every h x new each c in_memory l g m = before_every h x new each c (g (omega arith)) (m (omega arith))
    written_before_every h x new each c temporary l g m = before_every h x new each c (g (omega arith)) (m (omega arith))
    written_before_every h x new each c (callee q) l g m = before_every h x new each c (g (omega arith)) (m (omega arith))
