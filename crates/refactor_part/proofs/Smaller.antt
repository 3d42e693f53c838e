-- A workspace all of whose files are files of another one keeps the limits that the other one keeps.
use Rattle.std.proofs.Common.{◌≡◌, ◌≢◌, ℕ, ◌+◌, ◌≤◌, nat_le, inl, inr, Bool, true, List, [], ◌∷◌, ◌++◌, length, ◌&&◌, refl, sym, ap, subst, ◌∙◌, arith, Some}
use Rattle.std.specs.Prelude.{Contains, IsTrue, sum_by}
use Rattle.std.specs.Cmp.{IsTotalOrder, tied_itself, on_total}
use Rattle.std.specs.Cmp.Lexicographic.{nat_list_cmp_total}
use Rattle.std.specs.FinMap.{entries, entries_sorted, get, is_sorted, len, len-entries}
use Rattle.std.specs.FinMap.Entries.{below_all}
use Rattle.std.specs.List.{AllByRecursion, list_all}
use Rattle.std.specs.List.Sorted.{IsStrictlySortedBy}
use Rattle.std.specs.declared.cmp.Ordering.{Ordering}
use Rattle.std.specs.declared.cmp.Ordering.TheVariants.{Less, Equal}
use Rattle.std.proofs.lemmas.Bool.{and_from, and_parts}
use Rattle.std.proofs.lemmas.List.Elements.{Contains-append_left, Contains-append_right, Contains-append_cases}
use Rattle.std.proofs.lemmas.List.Sums.{sum_by-cons, sum_by-append}
use Rattle.base_lemmas.proofs.Elements.{nothing_in, first_in, later_in, first_or_later}
use Rattle.base_lemmas.proofs.Tests.{true_from_T, less_from_test}
use Rattle.base_files.specs.Packages.{is_of_package, package_paths, package_files}
use Rattle.base_files.specs.Workspace.{Workspace, path_cmp}
use Rattle.base_files.specs.declared.limits.Limits.{Limits}
use Rattle.base_files.proofs.WorkspaceLaws.{path_cmp_total}
use Rattle.base_edits.proofs.Entries.{entry_of, get_entry}
use Rattle.law_tokens.proofs.HeldBytes.{less_differs}
use Rattle.law_tokens.proofs.OwnPaths.{entry_cmp}
use Rattle.workspace_graph.proofs.ByPath.{has_file}
use Rattle.workspace_graph.proofs.PackagePaths.{paths_sorted}
use Rattle.workspace_check.proofs.Members.{passes, passed}
use Rattle.workspace_check.proofs.PackageFiles.{package_file}
use Rattle.workspace_snapshot.specs.Fits.{FitsLimits, FilesFit, are_files_within}

-- ---- lists all of whose elements are elements of another one
split : {X : Type 0} (x : X) (ys : List X) → Contains ys x → (front : List X) × (behind : List X) × (ys ≡ front ++ x ∷ behind)
split x [] has = absurd (nothing_in x has)
split x (y ∷ ys) has = elim (first_or_later y ys x has) [
  | inl same ↦ ([], ys, ap (λ z. z ∷ ys) same)
  | inr later ↦ (let r = split x ys later in (y ∷ r.0, r.1, ap (λ l. y ∷ l) r.2))
]

left_over : {X : Type 0} (x y : X) (front behind : List X) → (x ≡ y → ⊥) → Contains (front ++ x ∷ behind) y → Contains (front ++ behind) y
left_over x y front behind other has = elim (Contains-append_cases front (x ∷ behind) y has) [
  | inl before ↦ Contains-append_left front behind y before
  | inr after ↦ elim (first_or_later x behind y after) [
    | inl same ↦ absurd (other same)
    | inr later ↦ Contains-append_right front behind y later
  ]
]

below_each : {X : Type 0} (P : X → Type 0) (xs : List X) → AllByRecursion P xs → (y : X) → Contains xs y → P y
below_each P [] all y has = absurd (nothing_in y has)
below_each P (x ∷ xs) all y has = elim (first_or_later x xs y has) [ inl same ↦ subst P same all.0 | inr later ↦ below_each P xs all.1 y later ]

module _ {X : Type 0} {R : X → X → Ordering} (total : IsTotalOrder R) (f : X → ℕ) where
  differs : (x y : X) → R x y ≡ Less → x ≡ y → ⊥
  differs x y below same = less_differs (R x x) (tied_itself total x) (subst (λ z. R x z ≡ Less) (sym same) below)

  pub sum_within : (xs ys : List X) → IsStrictlySortedBy R xs → ((x : X) → Contains xs x → Contains ys x) → sum_by f xs ≤ sum_by f ys
  unfolding IsStrictlySortedBy
  sum_within [] ys sorted sub = omega arith
  sum_within (x ∷ xs) ys sorted sub =
      let s = split x ys (sub x (first_in x xs)) in
      let rest : sum_by f xs ≤ sum_by f (s.0 ++ s.1) = sum_within xs (s.0 ++ s.1) sorted.1 (λ y has.
      left_over x y s.0 s.1 (differs x y (below_each (λ z. R x z ≡ Less) xs sorted.0 y has))
      (subst (λ l. Contains l y) s.2 (sub y (later_in x xs y has)))) in
      let here : sum_by f (x ∷ xs) ≡ f x + sum_by f xs = sum_by-cons f x xs in
      let whole : sum_by f ys ≡ sum_by f s.0 + (f x + sum_by f s.1) =
      ap (sum_by f) s.2 ∙ sum_by-append f s.0 (x ∷ s.1) ∙ ap (λ n. sum_by f s.0 + n) (sum_by-cons f x s.1) in
      let parts : sum_by f (s.0 ++ s.1) ≡ sum_by f s.0 + sum_by f s.1 = sum_by-append f s.0 s.1 in
      omega (arith, rest, here, whole, parts)

ones : {X : Type 0} (xs : List X) → sum_by (λ (x : X). 1) xs ≡ length xs
ones [] = refl
ones (x ∷ xs) = let more = sum_by-cons (λ y. 1) x xs in let rest = ones xs in omega (arith, more, rest)

-- ---- the entries of a workspace
below_entries : (d : List ℕ × List ℕ) (es : List (List ℕ × List ℕ)) → below_all path_cmp d.0 es ≡ true → AllByRecursion (λ e. entry_cmp d e ≡ Less) es
below_entries d [] h = tt
below_entries d (e ∷ es) h = let b = and_parts _ _ h in (less_from_test _ b.0, below_entries d es b.1)

sorted_entries : (es : List (List ℕ × List ℕ)) → is_sorted path_cmp es ≡ true → IsStrictlySortedBy entry_cmp es
unfolding IsStrictlySortedBy
sorted_entries [] h = tt
sorted_entries (e ∷ es) h = let b = and_parts _ _ h in (below_entries e es b.0, sorted_entries es b.1)

entry_total : IsTotalOrder entry_cmp
entry_total = on_total (λ (e : List ℕ × List ℕ). e.0) nat_list_cmp_total

-- ---- the limits
test_each : {X : Type 0} (test : X → Bool) (xs : List X) → ((x : X) → Contains xs x → test x ≡ true) → list_all test xs ≡ true
test_each test [] each = refl
test_each test (x ∷ xs) each = and_from (test x) (list_all test xs) (each x (first_in x xs)) (test_each test xs (λ y has. each y (later_in x xs y has)))

tested : {X : Type 0} (test : X → Bool) (xs : List X) → list_all test xs ≡ true → (x : X) → Contains xs x → test x ≡ true
tested test [] all x has = absurd (nothing_in x has)
tested test (y ∷ ys) all x has =
    let b = and_parts (test y) (list_all test ys) all in
    elim (first_or_later y ys x has) [ inl same ↦ subst (λ z. test z ≡ true) same b.0 | inr later ↦ tested test ys b.1 x later ]

-- Each file of the one is a file of the other.
abbrev pub HasFilesIn : Workspace → Workspace → Type 0
HasFilesIn x y = (path text : List ℕ) → get x path ≡ Some text → get y path ≡ Some text

module _ (x y : Workspace) (within : HasFilesIn x y) where
  entry_there : (e : List ℕ × List ℕ) → Contains (entries x) e → Contains (entries y) e
  entry_there e has = entry_of y e.0 e.1 (within e.0 e.1 (get_entry x e has))

  package_there : (q : List ℕ) → Contains (package_paths x) q → Contains (package_paths y) q
  package_there q has =
      let e = package_file x q has in
      let own = passes (λ d. is_of_package q d.0) (entries x) e.0 e.1 in
      has_file y q e.0 (passed (λ d. is_of_package q d.0) (entries y) e.0 own.0 (entry_there e.0 own.1))

  fewer : length (package_paths x) ≤ length (package_paths y)
  fewer =
      let sums = sum_within path_cmp_total (λ q. 1) (package_paths x) (package_paths y) (paths_sorted x) package_there in
      let here = ones (package_paths x) in
      let there = ones (package_paths y) in
      omega (arith, sums, here, there)

  sum_there : (f : List ℕ × List ℕ → ℕ) → sum_by f (entries x) ≤ sum_by f (entries y)
  sum_there f = sum_within entry_total f (entries x) (entries y) (sorted_entries (entries x) (true_from_T _ (entries_sorted x))) entry_there

  pub fits_within : (limits : Limits) → FitsLimits limits y → FitsLimits limits x
  fits_within limits fits = record {
    files = record {
      each = test_each (λ e. nat_le (length e.1) limits.file_bytes) (entries x)
          (λ e has. tested (λ d. nat_le (length d.1) limits.file_bytes) (entries y) fits.files.each e (entry_there e has));
      count = (
          let sums = sum_there (λ e. 1) in
          let here = ones (entries x) in
          let there = ones (entries y) in
          let mine = len-entries x in
          let other = len-entries y in
          omega (arith, fits.files.count, sums, here, there, mine, other));
      total = (let sums = sum_there (λ e. length e.1) in omega (arith, fits.files.total, sums));
    };
    packages = (let few = fewer in omega (arith, fits.packages, few));
  }
