-- What contracts see of the files and the sink in memory.
use Rattle.std.specs.Prelude.{ℕ, ◌-◌, ◌++◌, min, List, length, map as list_map, Bool, ◌||◌, ◌&&◌, nat_lt, nat_le, ◌==◌, if◌then◌else◌, string_bytes, String, refl}
use Rattle.std.specs.declared.alloc.Global.{Global}
use Rattle.std.specs.List.{list_any}
use Rattle.std.specs.Coded.{Coded, code_by, coded×, coded_ℕ, coded_list}
use Rattle.std.specs.FinMap as map
use Rattle.cp_base.specs.Outside.{Contents, next_count}

-- the files, the numbers of the calls that fail, and how many calls and faults there were
pub record FileStore : Type 0 where
  pub contents : Contents
  pub failing : List ℕ
  pub calls : ℕ
  pub faults : ℕ

abbrev pub store_code : Coded FileStore
store_code =
    code_by (Contents × (List ℕ × (ℕ × ℕ))) (coded× (map.code (coded_list coded_ℕ) (coded_list coded_ℕ)) (coded× (coded_list coded_ℕ) (coded× coded_ℕ coded_ℕ)))
    (λ s. (s.contents, (s.failing, (s.calls, s.faults)))) (λ p. record { contents = p.0; failing = p.1.0; calls = p.1.1.0; faults = p.1.1.1 }) (λ _. refl)

-- the bytes taken, the greatest number of bytes that a call takes and that all calls take together,
-- the numbers of the calls that fail, and how many calls and faults there were
pub record ByteStore : Type 0 where
  pub written : List ℕ
  pub piece : ℕ
  pub room : ℕ
  pub failing : List ℕ
  pub calls : ℕ
  pub faults : ℕ

-- the next call is one that fails
abbrev pub fails_next : List ℕ → ℕ → Bool
fails_next failing calls = list_any (λ n. n == next_count calls) failing

-- the files that a map's entries are, where a name is a string
abbrev pub contents_of : List (String Global × List ℕ) → Contents
contents_of entries = map.from_entries (list_map (λ e. (string_bytes e.0, e.1)) entries)

-- after a call of `take`: it is counted, and a fault where it is one that fails
abbrev pub after_take : FileStore → FileStore
after_take store = record store {
  calls = next_count store.calls;
  faults = if fails_next store.failing store.calls then next_count store.faults else store.faults;
}

-- a call of `put` fails: it is one that will fail, or there is no room
abbrev pub refuses : ByteStore → List ℕ → Bool
refuses store piece = fails_next store.failing store.calls || (nat_lt 0 (length piece) && nat_le store.room (length store.written))

-- how many bytes a call of `put` takes
abbrev pub taken_by : ByteStore → List ℕ → ℕ
taken_by store piece = min (length piece) (min store.piece (store.room - length store.written))

-- after a call of `put` that takes the first bytes of a piece
abbrev pub after_put : ByteStore → List ℕ → ByteStore
after_put store bytes = record store { written = store.written ++ bytes; calls = next_count store.calls }

-- after a call of `put` that fails
abbrev pub after_refusal : ByteStore → ByteStore
after_refusal store = record store { calls = next_count store.calls; faults = next_count store.faults }
