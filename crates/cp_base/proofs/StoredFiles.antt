-- A map from strings to bytes, as a finite map from names.
use Rattle.std.proofs.Common.{◌≡◌, ℕ, List, [], ◌∷◌, map, Some, cond, refl, sym, ap, ◌∙◌}
use Rattle.std.specs.Prelude.{String, string_bytes}
use Rattle.std.specs.declared.alloc.Global.{Global}
use Rattle.std.specs.Ordering.{nat_cmp, is_eq, eq_by_cmp}
use Rattle.std.specs.Cmp.{eq_by_cmp_equiv}
use Rattle.std.specs.Cmp.Lexicographic.{slice_cmp, nat_list_cmp_total}
use Rattle.std.specs.String.{string_cmp}
use Rattle.std.specs.Map.{lookup}
use Rattle.std.specs.BTreeMap.{BTreeMap, is_at, UpdatesBy, get_by_text}
use Rattle.std.specs.FinMap.{get, insert, find, IsAntisymmetric, slice_cmp-IsAntisymmetric, nat_cmp-IsAntisymmetric, get-from_entries, get-insert, same_map}
use Rattle.std.proofs.lemmas.Map.Text.{btree_map_updates_text, is_eq-slice_cmp}
use Rattle.cp_base.specs.Memory.{FileStore, contents_of}

exact : IsAntisymmetric (slice_cmp nat_cmp)
exact = slice_cmp-IsAntisymmetric nat_cmp-IsAntisymmetric

find_text : (es : List (String Global × List ℕ)) (q : List ℕ) → find (slice_cmp nat_cmp) q (map (λ (e : String Global × List ℕ). (string_bytes e.0, e.1)) es) ≡ lookup (is_at (λ k. slice_cmp nat_cmp q (string_bytes k))) es
find_text [] q = refl
find_text (e ∷ es) q = ap (cond (is_eq (slice_cmp nat_cmp q (string_bytes e.0))) (Some e.1)) (find_text es q)

-- the file of a name is what the map has at its bytes
pub get-contents_of : (m : BTreeMap (String Global) (List ℕ)) (q : List ℕ) → get (contents_of m.entries) q ≡ get_by_text m q
get-contents_of m q = get-from_entries nat_list_cmp_total _ q ∙ find_text m.entries q

-- a new value at a name
pub contents_of-insert : (m n : BTreeMap (String Global) (List ℕ)) (name bytes : List ℕ) → UpdatesBy string_cmp (λ k. slice_cmp nat_cmp name (string_bytes k)) m n (Some bytes) → contents_of n.entries ≡ insert (contents_of m.entries) name bytes
contents_of-insert m n name bytes u = same_map nat_list_cmp_total exact _ _ (λ q.
    get-contents_of n q
    ∙ btree_map_updates_text name m n (Some bytes) u q
    ∙ ap (λ b. cond b (Some bytes) (get_by_text m q)) (sym (is_eq-slice_cmp name q) ∙ (eq_by_cmp_equiv nat_list_cmp_total).symm name q)
    ∙ sym (get-insert nat_list_cmp_total (contents_of m.entries) name bytes q ∙ ap (cond (eq_by_cmp (slice_cmp nat_cmp) q name) (Some bytes)) (get-contents_of m q)))

-- a file is stored under equal names, with equal bytes
pub stored : (old now new : FileStore) (name name' bytes bytes' : List ℕ) → new ≡ record old { contents = insert old.contents name bytes } → old ≡ now → name ≡ name' → bytes ≡ bytes' → new ≡ record now { contents = insert now.contents name' bytes' }
stored old now new name name' bytes bytes' is e f g =
    is
    ∙ ap (λ (s : FileStore). record s { contents = insert s.contents name bytes }) e
    ∙ ap (λ n. record now { contents = insert now.contents n bytes }) f
    ∙ ap (λ b. record now { contents = insert now.contents name' b }) g
