-- Files by their names: what a change of the map changes of the files.
use Rattle.std.proofs.Common.{◌≡◌, ℕ, Bool, true, false, cond, List, [], ◌∷◌, map, Option, None, Some, String, Vec, refl, sym, ap, ◌∙◌}
use Rattle.std.specs.Option.{option_map}
use Rattle.std.specs.String.{string_bytes, string_cmp}
use Rattle.std.specs.Global.{Global}
use Rattle.std.specs.Ordering.{nat_cmp, is_eq, eq_by_cmp}
use Rattle.std.specs.Cmp.{eq_by_cmp_equiv}
use Rattle.std.specs.Cmp.Lexicographic.{slice_cmp, nat_list_cmp_total}
use Rattle.std.specs.Str.{bytes_eq}
use Rattle.std.specs.Map.{lookup}
use Rattle.std.specs.BTreeMap.{BTreeMap, UpdatesBy, get_by_text, is_at}
use Rattle.std.specs.FinMap.{get, insert, find, get-insert, get-from_entries, same_map, slice_cmp-IsAntisymmetric, nat_cmp-IsAntisymmetric}
use Rattle.std.proofs.lemmas.Map.Text.{btree_map_updates_text, is_eq-slice_cmp}
use Rattle.qc_io.specs.Outside.{Files}
use Rattle.qc_io.specs.Memory.{files_of}

-- files that hold the same under each name are the same
pub same_files : (m n : Files) → ((name : List ℕ) → get m name ≡ get n name) → m ≡ n
same_files m n same = same_map nat_list_cmp_total (slice_cmp-IsAntisymmetric nat_cmp-IsAntisymmetric) m n same

find_named :
    (es : List (String Global × Vec ℕ Global)) (q : List ℕ)
    → find (slice_cmp nat_cmp) q (map (λ (e : String Global × Vec ℕ Global). (string_bytes e.0, e.1.items)) es)
    ≡ option_map (λ (v : Vec ℕ Global). v.items) (lookup (is_at (λ k. slice_cmp nat_cmp q (string_bytes k))) es)
find_named [] q = refl
find_named (e ∷ es) q =
    elim (is_eq (slice_cmp nat_cmp q (string_bytes e.0))) as (λ b.
    cond b (Some e.1.items) (find (slice_cmp nat_cmp) q (map (λ (e : String Global × Vec ℕ Global). (string_bytes e.0, e.1.items)) es))
    ≡ option_map (λ (v : Vec ℕ Global). v.items) (cond b (Some e.1) (lookup (is_at (λ k. slice_cmp nat_cmp q (string_bytes k))) es))) [
      | true ↦ refl
      | false ↦ find_named es q
    ]

-- the files hold under a name what the map holds under it
pub get-files_of : (m : BTreeMap (String Global) (Vec ℕ Global)) (name : List ℕ) → get (files_of m) name ≡ option_map (λ v. v.items) (get_by_text m name)
get-files_of m name = get-from_entries nat_list_cmp_total _ name ∙ find_named m.entries name

chosen : {A B : Type 0} (f : A → B) (b : Bool) (x : A) (o : Option A) → option_map f (cond b (Some x) o) ≡ cond b (Some (f x)) (option_map f o)
chosen f true x o = refl
chosen f false x o = refl

alike : (a b : List ℕ) → bytes_eq a b ≡ eq_by_cmp (slice_cmp nat_cmp) b a
alike a b = sym (is_eq-slice_cmp a b) ∙ (eq_by_cmp_equiv nat_list_cmp_total).symm a b

-- a value that is set in the map is a file that is put among the files
pub files_of-updates :
    (name : List ℕ) (m n : BTreeMap (String Global) (Vec ℕ Global)) (v : Vec ℕ Global)
    → UpdatesBy string_cmp (λ k. slice_cmp nat_cmp name (string_bytes k)) m n (Some v)
    → files_of n ≡ insert (files_of m) name v.items
files_of-updates name m n v updates =
    same_files _ _ (λ q.
    get-files_of n q
    ∙ ap (option_map (λ w. w.items)) (btree_map_updates_text name m n (Some v) updates q)
    ∙ chosen (λ w. w.items) (bytes_eq name q) v (get_by_text m q)
    ∙ ap (λ b. cond b (Some v.items) (option_map (λ w. w.items) (get_by_text m q))) (alike name q)
    ∙ ap (cond (eq_by_cmp (slice_cmp nat_cmp) q name) (Some v.items)) (sym (get-files_of m q))
    ∙ sym (get-insert nat_list_cmp_total (files_of m) name v.items q))

test_itself : (name : List ℕ) → eq_by_cmp (slice_cmp nat_cmp) name name ≡ true
test_itself name = (eq_by_cmp_equiv nat_list_cmp_total).refl name

-- a file that is put is held
pub get-insert_same : (files : Files) (name bytes : List ℕ) → get (insert files name bytes) name ≡ Some bytes
get-insert_same files name bytes =
    get-insert nat_list_cmp_total files name bytes name ∙ ap (λ b. cond b (Some bytes) (get files name)) (test_itself name)

-- the map's value is the file's bytes
pub held_named : (m : BTreeMap (String Global) (Vec ℕ Global)) (files : Files) (name : List ℕ) (v : Vec ℕ Global) → files_of m ≡ files → Some v ≡ get_by_text m name → get files name ≡ Some v.items
held_named m files name v seen held =
    ap (λ f. get f name) (sym seen) ∙ get-files_of m name ∙ ap (option_map (λ (w : Vec ℕ Global). w.items)) (sym held)

-- a name that the map lacks is no file's
pub missing_named : (m : BTreeMap (String Global) (Vec ℕ Global)) (files : Files) (name : List ℕ) → files_of m ≡ files → None ≡ get_by_text m name → get files name ≡ None
missing_named m files name seen missing =
    ap (λ f. get f name) (sym seen) ∙ get-files_of m name ∙ ap (option_map (λ (w : Vec ℕ Global). w.items)) (sym missing)
