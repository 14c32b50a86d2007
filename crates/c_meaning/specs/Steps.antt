-- Steps of a run: each goes from a state to a value and the next state, or stops the run.
use Rattle.std.specs.Prelude.{ℕ, zero, suc, Bool, true, false, ◌==◌, not, List, Option, Some, None, slice_get, slice_set}
use Rattle.cp_base.specs.declared.op.Kind.{Kind}
use Rattle.run_model.specs.declared.outcome.Outcome.{Outcome}
use Rattle.run_model.specs.declared.outcome.Outcome.TheVariants.{Running, Undefined}
use Rattle.run_model.specs.Accesses.{loaded, stored, copied}
use Rattle.run_model.specs.Stores.{World, Store, next_byte, byte_read, after_read, after_write, with_bytes}
use Rattle.c_types.specs.declared.tree.COp.{COp}
use Rattle.c_types.specs.Operators.{c_operator}

-- what a run has at a moment: the store, and the locals of the present call, each with its value or unset
pub record State : Type 0 where
  pub store : Store
  pub locals : List (Option ℕ)

abbrev pub with_store : State → Store → State
with_store s store = record s { store = store }

-- what a step comes to
pub data Result (A : Type 0) : Type 0 where
  Gives : A → State → Result A
  Stops : Outcome → Store → Result A

-- the output up to there
abbrev pub out_of : {A : Type 0} → Result A → List ℕ
out_of (Gives a s) = s.store.out
out_of (Stops outcome store) = store.out

abbrev pub Step : Type 0 → Type 0
Step A = State → Result A

-- ---- steps one after the other

abbrev pub pure : {A : Type 0} → A → Step A
pure a s = Gives a s

abbrev pub stop : {A : Type 0} → Outcome → Step A
stop outcome s = Stops outcome s.store

abbrev pub and_then : {A B : Type 0} → Result A → (A → Step B) → Result B
and_then (Gives a s) next = next a s
and_then (Stops outcome store) next = Stops outcome store

infixl 10 ◌>>=◌
abbrev pub ◌>>=◌ : {A B : Type 0} → Step A → (A → Step B) → Step B
step >>= next = λ s. and_then (step s) next

infixl 10 ◌>>◌
abbrev pub ◌>>◌ : {A B : Type 0} → Step A → Step B → Step B
step >> next = step >>= (λ _. next)

abbrev pub choice : {A : Type 0} → Bool → Step A → Step A → Step A
choice true first second = first
choice false first second = second

-- a value that is there; else the run is undefined
abbrev pub known : {A : Type 0} → Option A → Step A
known (Some a) = pure a
known None = stop Undefined

abbrev pub is_true : ℕ → Bool
is_true word = not (word == 0)

-- ---- the turns

-- with one turn less; where none is left the run is cut off
abbrev pub turn_of : {A : Type 0} → ℕ → Step A → Step A
turn_of zero step = stop Running
turn_of (suc turns) step = λ s. step (with_store s (record s.store { turns = turns }))

abbrev pub turn : {A : Type 0} → Step A → Step A
turn step = λ s. turn_of s.store.turns step s

-- ---- the locals (6.2.4, 5: a local has no value before one is written; that reading it then is undefined is this project's)

-- the value of a local that has one
abbrev pub value_at : Option (Option ℕ) → Option ℕ
value_at (Some value) = value
value_at None = None

abbrev pub read_local : ℕ → Step ℕ
read_local x = λ s. known (value_at (slice_get s.locals x)) s

abbrev pub write_local : ℕ → Option ℕ → Step (Unit {0})
write_local x value = λ s. Gives tt (record s { locals = slice_set s.locals x value })

-- ---- the data

abbrev pub change_bytes : Option (List ℕ) → Step (Unit {0})
change_bytes (Some bytes) = λ s. Gives tt (with_store s (with_bytes s.store bytes))
change_bytes None = stop Undefined

module _ (w : World) where
  abbrev pub read_data : Kind → ℕ → Step ℕ
  read_data kind address = λ s. known (loaded w.base s.store.bytes kind address) s

  abbrev pub write_data : Kind → ℕ → ℕ → Step (Unit {0})
  write_data kind address word = λ s. change_bytes (stored w.base s.store.bytes kind address word) s

  abbrev pub copy_data : ℕ → ℕ → ℕ → ℕ → Step (Unit {0})
  copy_data size align to from = λ s. change_bytes (copied w.base s.store.bytes size align to from) s

  -- ---- input and output

  abbrev pub read_byte : Step ℕ
  read_byte = λ s. Gives (byte_read (next_byte w s.store)) (with_store s (after_read w s.store))

abbrev pub write_byte : ℕ → Step (Unit {0})
write_byte word = λ s. Gives tt (with_store s (after_write s.store word))

-- ---- operators

abbrev pub operate : COp → ℕ → ℕ → Step ℕ
operate operator a b = known (c_operator operator a b)
