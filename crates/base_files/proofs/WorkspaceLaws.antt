-- A sorted list of files, seen as the workspace that it makes.
use Rattle.std.proofs.Common.{◌≡◌, ℕ, List, [], ◌∷◌, length, refl, sym, ap, ◌∙◌, cond, not, arith, Bool, true, false, IsTrue}
use Rattle.std.specs.Prelude.{Some, None}
use Rattle.std.specs.Cmp.{IsTotalOrder, eq_by_cmp_equiv, alike_right}
use Rattle.std.specs.Cmp.Lexicographic.{nat_list_cmp_total}
use Rattle.std.specs.Ordering.{eq_by_cmp, is_eq}
use Rattle.std.specs.FinMap.{IsAntisymmetric, slice_cmp-IsAntisymmetric, nat_cmp-IsAntisymmetric, find, put, is_sorted, empty, entries, len, len-empty}
use Rattle.std.specs.FinMap.{len-entries}
use Rattle.std.specs.FinMap.{entries-insert, get, insert, remove, from_entries, get-from_entries, get-insert, get-remove, same_map}
use Rattle.std.specs.FinMap.Entries.{find-put, find-where_key}
use Rattle.base_chunks.specs.Entries.{without, Rises}
use Rattle.base_chunks.proofs.Standing.{rises, put_first}
use Rattle.base_files.specs.Workspace.{path_cmp}

pub path_cmp_total : IsTotalOrder path_cmp
path_cmp_total = nat_list_cmp_total

-- paths that compare alike are one
pub path_cmp_exact : IsAntisymmetric path_cmp
path_cmp_exact = slice_cmp-IsAntisymmetric nat_cmp-IsAntisymmetric

-- what the workspace has at a path
pub get_file : (es : List (List ℕ × List ℕ)) (path : List ℕ) → get (from_entries {R = path_cmp} es) path ≡ find path_cmp path es
get_file es path = get-from_entries path_cmp_total es path

-- a text set at a path
pub one_put : (es : List (List ℕ × List ℕ)) (path text : List ℕ) → from_entries {R = path_cmp} (put path_cmp path text es) ≡ insert (from_entries es) path text
one_put es path text = same_map path_cmp_total path_cmp_exact _ _ (λ q.
    get_file (put path_cmp path text es) q ∙ find-put path_cmp path_cmp_total q path text es
    ∙ sym (get-insert path_cmp_total (from_entries es) path text q ∙ ap (cond (eq_by_cmp path_cmp q path) (Some text)) (get_file es q)))

turned : {A : Type 0} (a b : Bool) (x y : A) → a ≡ b → cond (not a) x y ≡ cond b y x
turned true b x y e = ap (λ c. cond c y x) e
turned false b x y e = ap (λ c. cond c y x) e

-- a path taken out
pub one_removed : (es : List (List ℕ × List ℕ)) (path : List ℕ) → from_entries {R = path_cmp} (without path_cmp path es) ≡ remove (from_entries es) path
one_removed es path = same_map path_cmp_total path_cmp_exact _ _ (λ q.
    get_file (without path_cmp path es) q
    ∙ find-where_key path_cmp (λ x. not (eq_by_cmp path_cmp path x)) q (λ x t. ap (λ r. not (is_eq r)) (sym (alike_right path_cmp_total q x path t))) es
    ∙ turned (eq_by_cmp path_cmp path q) (eq_by_cmp path_cmp q path) (find path_cmp q es) None ((eq_by_cmp_equiv path_cmp_total).symm path q)
    ∙ sym (get-remove path_cmp_total (from_entries es) path q ∙ ap (cond (eq_by_cmp path_cmp q path) None) (get_file es q)))

no_entries : (es : List (List ℕ × List ℕ)) → length es ≡ 0 → es ≡ []
no_entries [] h = refl
no_entries (e ∷ es) h = absurd (omega arith)

entries_of_rising : (es : List (List ℕ × List ℕ)) → Rises path_cmp es → entries (from_entries {R = path_cmp} es) ≡ es
entries_of_rising [] h = no_entries _ (sym (len-entries empty) ∙ len-empty path_cmp (List ℕ))
entries_of_rising (e ∷ es) h =
    entries-insert path_cmp_total (from_entries es) e.0 e.1
    ∙ ap (put path_cmp e.0 e.1) (entries_of_rising es h.1)
    ∙ put_first path_cmp e.0 e.1 es h.0

-- entries in the order of their paths are the workspace's
pub entries_in_order : (es : List (List ℕ × List ℕ)) → IsTrue (is_sorted path_cmp es) → entries (from_entries {R = path_cmp} es) ≡ es
entries_in_order es h = entries_of_rising es (rises path_cmp es h)

pub len_in_order : (es : List (List ℕ × List ℕ)) → IsTrue (is_sorted path_cmp es) → len (from_entries {R = path_cmp} es) ≡ length es
len_in_order es h = len-entries _ ∙ ap length (entries_in_order es h)

-- Two sorted lists of entries that make one workspace are equal.
pub same_entries : (es fs : List (List ℕ × List ℕ)) → IsTrue (is_sorted path_cmp es) → IsTrue (is_sorted path_cmp fs)
    → from_entries {R = path_cmp} es ≡ from_entries fs → es ≡ fs
same_entries es fs g h e = sym (entries_in_order es g) ∙ ap entries e ∙ entries_in_order fs h
