-- The bytes of all files, and the limits on them, after a file was set.
use Rattle.std.proofs.Common.{◌≡◌, ◌↔◌, ◌+◌, ◌≤◌, ◌∷◌, [], ℕ, Bool, true, false, List}
use Rattle.std.proofs.Common.{Option, Some, None, cond, length, nat_le, refl, sym, subst, ap, ◌∙◌, arith}
use Rattle.std.specs.Prelude.{IsTrue, is_some, sum_by}
use Rattle.std.specs.FinMap.{empty, entries, entries-insert, entries_sorted, find, get, get-entries, insert, is_sorted, len, len-empty, len-insert, put}
use Rattle.std.specs.FinMap.Entries.{below_all, by_order}
use Rattle.std.specs.List.{list_all}
use Rattle.std.specs.Ordering.{eq_by_cmp, is_eq, is_lt}
use Rattle.std.specs.declared.cmp.Ordering.TheVariants.{Less, Equal, Greater}
use Rattle.std.proofs.lemmas.Bool.{and_from, and_parts}
use Rattle.std.proofs.lemmas.Bool.Decides.{nat_tests}
use Rattle.std.proofs.lemmas.List.Sums.{sum_by-cons}
use Rattle.base_lemmas.proofs.Tests.{less_from_test, true_from_T}
use Rattle.base_files.specs.Workspace.{Workspace, path_cmp}
use Rattle.base_files.specs.declared.limits.Limits.{Limits}
use Rattle.base_files.proofs.WorkspaceLaws.{entries_in_order, path_cmp_total}
use Rattle.workspace_snapshot.specs.Fits.{FilesFit, are_files_within, total_bytes}
use Rattle.tool_disk.specs.Puts.{bytes_at, bytes_of_text}

-- a path before all of these files is that of none
none_before : (path first : List ℕ) (es : List (List ℕ × List ℕ)) → path_cmp path first ≡ Less → below_all path_cmp first es ≡ true →
    find path_cmp path es ≡ None
none_before path first [] less below = refl
none_before path first (e ∷ es) less below =
    let parts = and_parts (is_lt (path_cmp first e.0)) (below_all path_cmp first es) below in
    let here = path_cmp_total.trans path first e.0 less (less_from_test (path_cmp first e.0) parts.0) in
    ap (λ r. cond (is_eq r) (Some e.1) (find path_cmp path es)) here ∙ none_before path first es less parts.1

-- the bytes of the file before are exchanged for those of the text
sum_set : (path text : List ℕ) (es : List (List ℕ × List ℕ)) → is_sorted path_cmp es ≡ true →
    sum_by (λ e. length e.1) (put path_cmp path text es) + bytes_of_text (find path_cmp path es) ≡ sum_by (λ e. length e.1) es + length text
sum_set path text [] sorted = omega arith
sum_set path text (e ∷ es) sorted =
    let parts = and_parts (below_all path_cmp e.0 es) (is_sorted path_cmp es) sorted in
    let whole : sum_by (λ e. length e.1) (e ∷ es) ≡ length e.1 + sum_by (λ e. length e.1) es = sum_by-cons (λ e. length e.1) e es in
    elim (path_cmp path e.0) as (λ r. path_cmp path e.0 ≡ r →
    sum_by (λ e. length e.1) (by_order r ((path, text) ∷ e ∷ es) ((e.0, text) ∷ es) (e ∷ put path_cmp path text es)) +
    bytes_of_text (cond (is_eq r) (Some e.1) (find path_cmp path es)) ≡ sum_by (λ e. length e.1) (e ∷ es) + length text) [
      | Less ↦ λ less.
          let none : bytes_of_text (find path_cmp path es) ≡ 0 = ap bytes_of_text (none_before path e.0 es less parts.0) in
          let more : sum_by (λ e. length e.1) ((path, text) ∷ e ∷ es) ≡ length text + sum_by (λ e. length e.1) (e ∷ es) =
          sum_by-cons (λ e. length e.1) (path, text) (e ∷ es) in
          omega (arith, none, more)
      | Equal ↦ λ tied.
          let new : sum_by (λ e. length e.1) ((e.0, text) ∷ es) ≡ length text + sum_by (λ e. length e.1) es =
          sum_by-cons (λ e. length e.1) (e.0, text) es in
          omega (arith, new, whole)
      | Greater ↦ λ behind.
          let rest = sum_set path text es parts.1 in
          let more : sum_by (λ e. length e.1) (e ∷ put path_cmp path text es) ≡ length e.1 + sum_by (λ e. length e.1) (put path_cmp path text es) =
          sum_by-cons (λ e. length e.1) e (put path_cmp path text es) in
          omega (arith, rest, more, whole)
    ] refl

-- no file has more bytes than all files
found_within : (path : List ℕ) (es : List (List ℕ × List ℕ)) → bytes_of_text (find path_cmp path es) ≤ sum_by (λ e. length e.1) es
found_within path [] = omega arith
found_within path (e ∷ es) =
    let rest = found_within path es in
    let whole : sum_by (λ e. length e.1) (e ∷ es) ≡ length e.1 + sum_by (λ e. length e.1) es = sum_by-cons (λ e. length e.1) e es in
    elim (eq_by_cmp path_cmp path e.0) as (λ b. bytes_of_text (cond b (Some e.1) (find path_cmp path es)) ≤ sum_by (λ e. length e.1) (e ∷ es)) [
      | true ↦ omega (arith, whole)
      | false ↦ omega (arith, rest, whole)
    ]

test_le : (a b : ℕ) → a ≤ b → nat_le a b ≡ true
test_le a b h = grind (arith, nat_tests)

le_test : (a b : ℕ) → nat_le a b ≡ true → a ≤ b
le_test a b h = grind (arith, nat_tests)

module _ (most : ℕ) where
  short_set : (path text : List ℕ) (es : List (List ℕ × List ℕ)) → list_all (λ e. nat_le (length e.1) most) es ≡ true → nat_le (length text) most ≡ true →
      list_all (λ e. nat_le (length e.1) most) (put path_cmp path text es) ≡ true
  short_set path text [] all one = and_from (nat_le (length text) most) true one refl
  short_set path text (e ∷ es) all one =
      let parts = and_parts (nat_le (length e.1) most) (list_all (λ e. nat_le (length e.1) most) es) all in
      elim (path_cmp path e.0) as (λ r. list_all (λ e. nat_le (length e.1) most)
      (by_order r ((path, text) ∷ e ∷ es) ((e.0, text) ∷ es) (e ∷ put path_cmp path text es)) ≡ true) [
        | Less ↦ and_from _ _ one all
        | Equal ↦ and_from _ _ one parts.1
        | Greater ↦ and_from _ _ parts.0 (short_set path text es parts.1 one)
      ]

  short_one : (path text : List ℕ) (es : List (List ℕ × List ℕ)) → list_all (λ e. nat_le (length e.1) most) (put path_cmp path text es) ≡ true →
      nat_le (length text) most ≡ true
  short_one path text [] all = (and_parts (nat_le (length text) most) true all).0
  short_one path text (e ∷ es) all =
      elim (path_cmp path e.0) as (λ r. list_all (λ e. nat_le (length e.1) most)
      (by_order r ((path, text) ∷ e ∷ es) ((e.0, text) ∷ es) (e ∷ put path_cmp path text es)) ≡ true → nat_le (length text) most ≡ true) [
        | Less ↦ λ h. (and_parts _ _ h).0
        | Equal ↦ λ h. (and_parts _ _ h).0
        | Greater ↦ λ h. short_one path text es (and_parts _ _ h).1
      ] all

-- no file is there
nothing_there : entries (empty {X = List ℕ} {R = path_cmp}) ≡ []
nothing_there = entries_in_order [] refl

pub no_bytes : (w : Workspace) → w ≡ empty → total_bytes w ≡ 0
no_bytes w is = ap total_bytes is ∙ ap (sum_by (λ e. length e.1)) nothing_there

pub nothing_fits : (limits : Limits) (w : Workspace) → w ≡ empty → FilesFit limits w
nothing_fits limits w is = record {
  each = ap (are_files_within limits.file_bytes) is ∙ ap (list_all (λ e. nat_le (length e.1) limits.file_bytes)) nothing_there;
  count = omega (arith, ap len is, len-empty path_cmp (List ℕ));
  total = omega (arith, no_bytes w is);
}

module _ (w : Workspace) (path text : List ℕ) where
  -- the bytes of all files then
  pub bytes_then : total_bytes (insert w path text) + bytes_at w path ≡ total_bytes w + length text
  bytes_then =
      ap (λ es. sum_by (λ e. length e.1) es + bytes_at w path) (entries-insert path_cmp_total w path text)
      ∙ ap (λ found. sum_by (λ e. length e.1) (put path_cmp path text (entries w)) + bytes_of_text found) (get-entries w path)
      ∙ sum_set path text (entries w) (true_from_T _ (entries_sorted w))

  pub bytes_within : bytes_at w path ≤ total_bytes w
  bytes_within =
      let found : bytes_at w path ≡ bytes_of_text (find path_cmp path (entries w)) = ap bytes_of_text (get-entries w path) in
      omega (arith, found, found_within path (entries w))

  -- as many files, or one more
  pub count_then : len (insert w path text) ≡ cond (is_some (get w path)) (len w) (len w + 1)
  count_then = len-insert path_cmp_total w path text

  pub fits_then : (limits : Limits) → FilesFit limits w → length text ≤ limits.file_bytes → len (insert w path text) ≤ limits.files →
      total_bytes (insert w path text) ≤ limits.total_bytes → FilesFit limits (insert w path text)
  fits_then limits fit each count total = record {
    each = subst (λ es. list_all (λ e. nat_le (length e.1) limits.file_bytes) es ≡ true) (sym (entries-insert path_cmp_total w path text))
        (short_set limits.file_bytes path text (entries w) fit.each (test_le (length text) limits.file_bytes each));
    count = count;
    total = total;
  }

  pub short_then : (limits : Limits) → FilesFit limits (insert w path text) → length text ≤ limits.file_bytes
  short_then limits fit = le_test (length text) limits.file_bytes (short_one limits.file_bytes path text (entries w)
      (subst (λ es. list_all (λ e. nat_le (length e.1) limits.file_bytes) es ≡ true) (entries-insert path_cmp_total w path text) fit.each))
