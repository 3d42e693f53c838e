-- What the part of a workspace holds that has the packages with some numbers.
use Rattle.std.proofs.Common.{◌≡◌, ℕ, ◌+◌, ◌<◌, ◌==◌, inl, inr, Bool, true, cond, List, [], ◌∷◌, length, map, get_or, Option, None, Some, slice_get}
use Rattle.std.proofs.Common.{refl, sym, ap, ap₂, subst, ◌∙◌, option_map, arith}
use Rattle.std.specs.Cmp.Lexicographic.{pointwise, bytes_decides}
use Rattle.std.specs.FinMap.{entries, get, get-retain_keys}
use Rattle.std.specs.List.{Contains, list_any}
use Rattle.std.specs.List.Sorted.{IsStrictlyIncreasing, IsStrictlySortedBy}
use Rattle.std.proofs.lemmas.Bool.{true≢false, and_from, and_parts, cases_Bool, or_cases}
use Rattle.std.proofs.lemmas.List.{length-map}
use Rattle.std.proofs.lemmas.List.Folds.{list_any_at}
use Rattle.std.proofs.lemmas.Map.Keys.{Less-from_sorted, sorted_from_all_adjacent}
use Rattle.std.proofs.lemmas.Option.{none-some, slice_get-get_or, slice_get-map, slice_get_within, get_or_from_slice_get}
use Rattle.base_lemmas.proofs.Elements.{first_in, later_in}
use Rattle.base_files.specs.Path.{folder}
use Rattle.base_files.specs.Packages.{is_go, is_of_package, package_paths, package_files}
use Rattle.base_files.specs.Workspace.{Workspace, path_cmp}
use Rattle.base_files.proofs.PackageFolders.{of_folder}
use Rattle.base_files.proofs.WorkspaceLaws.{path_cmp_total, path_cmp_exact}
use Rattle.base_edits.proofs.Entries.{entry_of, get_entry}
use Rattle.base_edits.proofs.Held.{mapped_from}
use Rattle.workspace_graph.specs.Graphs.{IsPackage}
use Rattle.workspace_graph.specs.Parsed.{AreParsed}
use Rattle.build_unit.specs.Parts.{HasFilesOf, HasNumberIn}
use Rattle.workspace_graph.specs.declared.package.ParsedPackage.{ParsedPackage}
use Rattle.workspace_graph.proofs.PackagePaths.{paths_sorted}
use Rattle.build_unit.proofs.PartPackages.{part_paths, same_package}
use Rattle.workspace_check.proofs.Members.{passes}
use Rattle.build_unit.specs.Inputs.{AreGoFiles, is_file_of, is_file_of_any, part_of}

-- ---- the test
of_found : (found : Option (List ℕ)) (path : List ℕ) → is_file_of found path ≡ true → (p : List ℕ) × (found ≡ Some p) × (is_of_package p path ≡ true)
of_found None path h = absurd (true≢false (sym h))
of_found (Some p) path h = (p, refl, h)

passing : (test : ℕ → Bool) (ns : List ℕ) → list_any test ns ≡ true → (n : ℕ) × Contains ns n × (test n ≡ true)
passing test [] h = absurd (true≢false (sym h))
passing test (n ∷ ns) h = elim (or_cases (test n) (list_any test ns) h) [
  | inl is ↦ (n, first_in n ns, is)
  | inr rest ↦ (let r = passing test ns rest in (r.0, later_in n ns r.0 r.1, r.2))
]

pub own_folder : (path : List ℕ) → is_go path ≡ true → is_of_package (folder path) path ≡ true
own_folder path go = and_from (is_go path) (pointwise ◌==◌ (folder path) (folder path)) go ((bytes_decides (folder path) (folder path)).1 refl)

module _ (w : Workspace) (numbers : List ℕ) where
  abbrev test : List ℕ → Bool
  test = is_file_of_any w numbers

  -- it passes the Go files of the packages with the numbers
  numbered_then : (path : List ℕ) → test path ≡ true → (is_go path ≡ true) × HasNumberIn w numbers (folder path)
  numbered_then path is =
      let n = passing (λ m. is_file_of (slice_get (package_paths w) m) path) numbers is in
      let p = of_found (slice_get (package_paths w) n.0) path n.2 in (
        (and_parts (is_go path) (pointwise ◌==◌ (folder path) p.0) p.2).0,
        record { number = n.0; among = n.1; has_path = p.1 ∙ ap Some (sym (of_folder p.0 path p.2)) },
      )

  numbered_back : (path : List ℕ) → is_go path ≡ true → HasNumberIn w numbers (folder path) → test path ≡ true
  numbered_back path go is =
      let at = is.among in
      list_any_at (λ m. is_file_of (slice_get (package_paths w) m) path) numbers at.0 is.number at.1
      (ap (λ m. is_file_of (slice_get (package_paths w) m) path) at.2 ∙ ap (λ o. is_file_of o path) is.has_path ∙ own_folder path go)

  -- ---- the files
  got : (path : List ℕ) → get (part_of w numbers) path ≡ cond (test path) (get w path) None
  unfolding part_of
  got path = get-retain_keys w test path (λ x tied. ap test (sym (path_cmp_exact path x tied)))

  pub kept : (path : List ℕ) → is_go path ≡ true → HasNumberIn w numbers (folder path) → get (part_of w numbers) path ≡ get w path
  kept path go is = got path ∙ ap (λ b. cond b (get w path) None) (numbered_back path go is)

  -- A file of the part passes the test.
  there : (path text : List ℕ) → get (part_of w numbers) path ≡ Some text → test path ≡ true
  there path text has = elim (cases_Bool (test path)) [
    | inl is ↦ is
    | inr not ↦ absurd (none-some text (sym (got path ∙ ap (λ b. cond b (get w path) None) not) ∙ has))
  ]

  pub from_whole : (e : List ℕ × List ℕ) → Contains (entries (part_of w numbers)) e →
      (is_go e.0 ≡ true) × HasNumberIn w numbers (folder e.0) × Contains (entries w) e
  from_whole e has =
      let in_part = get_entry (part_of w numbers) e has in
      let is = numbered_then e.0 (there e.0 e.1 in_part) in
      (is.0, is.1, entry_of w e.0 e.1 (sym (kept e.0 is.0 is.1) ∙ in_part))

  pub into_part : (e : List ℕ × List ℕ) → is_go e.0 ≡ true → HasNumberIn w numbers (folder e.0) → Contains (entries w) e →
      Contains (entries (part_of w numbers)) e
  into_part e go is has = entry_of (part_of w numbers) e.0 e.1 (kept e.0 go is ∙ get_entry w e has)

  pub part_go : AreGoFiles (part_of w numbers)
  part_go e has = (from_whole e has).0

  -- a file of a package of the part is one of a package with a number
  pub numbered_file : (q : List ℕ) (e : List ℕ × List ℕ) → Contains (package_files (part_of w numbers) q) e → HasNumberIn w numbers q
  numbered_file q e has =
      let file = passes (λ d. is_of_package q d.0) (entries (part_of w numbers)) e has in
      subst (HasNumberIn w numbers) (of_folder q e.0 file.0) (from_whole e file.1).1

  pub part_files : HasFilesOf w numbers (part_of w numbers)
  part_files = record { same = kept; others = numbered_file }

  -- ---- the packages
  abbrev path_of : ℕ → List ℕ
  path_of n = get_or (package_paths w) n []

  abbrev paths : List (List ℕ)
  paths = map path_of numbers

  module _ (within : (n : ℕ) → Contains numbers n → n < length (package_paths w)) (rising : IsStrictlyIncreasing numbers) where
    among : (i : ℕ) → i < length numbers → Contains numbers (get_or numbers i 0)
    among i lt = (i, lt, get_or_from_slice_get numbers i (get_or numbers i 0) (get_or numbers i 0) (slice_get-get_or numbers i 0 lt))

    at_place : (i : ℕ) → i < length numbers → slice_get paths i ≡ Some (path_of (get_or numbers i 0))
    at_place i lt = slice_get-map path_of numbers i ∙ ap (option_map path_of) (slice_get-get_or numbers i 0 lt)

    in_order : IsStrictlySortedBy path_cmp paths
    in_order = sorted_from_all_adjacent path_cmp_total paths [] (λ k below.
        let size : length paths ≡ length numbers = length-map numbers path_of in
        let next : k + 1 < length numbers = omega (arith, below, size) in
        let m = get_or numbers k 0 in
        let n = get_or numbers (k + 1) 0 in
        let here = get_or_from_slice_get paths k (path_of m) [] (at_place k (omega (arith, next))) in
        let behind = get_or_from_slice_get paths (k + 1) (path_of n) [] (at_place (k + 1) next) in
        ap₂ path_cmp here behind ∙ Less-from_sorted path_cmp (package_paths w) m n [] (paths_sorted w) (rising k next) (within n (among (k + 1) next)))

    numbered : (q : List ℕ) → Contains paths q → HasNumberIn w numbers q
    numbered q has =
        let n = mapped_from path_of numbers q has in
        record { number = n.0; among = n.1; has_path = slice_get-get_or (package_paths w) n.0 [] (within n.0 n.1) ∙ ap Some n.2 }

    is_there : (q : List ℕ) → HasNumberIn w numbers q → Contains paths q
    is_there q is =
        let at = is.among in
        let found : slice_get paths at.0 ≡ Some q = at_place at.0 at.1 ∙ ap Some (ap path_of (get_or_number at) ∙
        get_or_from_slice_get (package_paths w) is.number q [] is.has_path) in
        (at.0, slice_get_within paths at.0 q found, get_or_from_slice_get paths at.0 q q found)
      where
        get_or_number : (at : Contains numbers is.number) → get_or numbers at.0 0 ≡ is.number
        get_or_number at = get_or_from_slice_get numbers at.0 is.number 0 (slice_get-get_or numbers at.0 is.number at.1 ∙ ap Some at.2)

    -- they are those with the numbers, in the order of these
    pub part_packages : package_paths (part_of w numbers) ≡ paths
    part_packages = sym (part_paths w (part_of w numbers) numbers part_files paths in_order numbered is_there)

    pub part_size : length (package_paths (part_of w numbers)) ≡ length numbers
    part_size = ap length part_packages ∙ length-map numbers path_of

    pub part_holds : (q : List ℕ) → HasNumberIn w numbers q → Contains (package_paths (part_of w numbers)) q
    part_holds q is = subst (λ l. Contains l q) (sym part_packages) (is_there q is)

    -- each with the same files
    pub part_package : (i : ℕ) (parsed : ParsedPackage) → i < length numbers → IsPackage w (get_or numbers i 0) parsed →
        IsPackage (part_of w numbers) i parsed
    part_package i parsed lt is =
        let n = get_or numbers i 0 in
        let q = parsed.path.items in
        let own : HasNumberIn w numbers q = record { number = n; among = among i lt; has_path = is.path } in
        record {
          path = ap (λ l. slice_get l i) part_packages ∙ at_place i lt ∙ ap Some (get_or_from_slice_get (package_paths w) n q [] is.path);
          files = subst (λ es. AreParsed es parsed.trees.items parsed.faulty.items) (sym (same_package w (part_of w numbers) numbers part_files q own))
              is.files;
        }
