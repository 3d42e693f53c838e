-- The packages with faults among the packages that were passed.
use Rattle.std.proofs.Common.{◌≡◌, ℕ, ◌+◌, ◌<◌, ◌++◌, ◌∷◌, inl, inr, true, false, List, [], map, length, Some, sym, ap, subst, ◌∙◌, arith}
use Rattle.std.specs.Prelude.{Contains, slice_get}
use Rattle.std.specs.FinMap.{entries}
use Rattle.std.proofs.lemmas.Bool.{true≢false, and_from, and_parts, cases_lt}
use Rattle.std.proofs.lemmas.List.{append_assoc}
use Rattle.std.proofs.lemmas.List.Elements.{Contains-append_left, Contains-append_right, Contains-append_cases}
use Rattle.std.proofs.lemmas.Option.{same_Some, slice_get_within}
use Rattle.base_lemmas.proofs.Elements.{nothing_in, first_in, first_or_later, is_mapped}
use Rattle.base_files.specs.Path.{folder}
use Rattle.base_files.specs.Packages.{is_go, package_paths, package_files}
use Rattle.base_files.specs.Workspace.{Workspace}
use Rattle.base_files.proofs.PackageFolders.{of_folder}
use Rattle.base_edits.proofs.Entries.{get_entry}
use Rattle.go_ast.specs.SourceFile.{FileParts}
use Rattle.workspace_graph.specs.FaultyFiles.{FaultyParts}
use Rattle.workspace_graph.specs.Parsed.{AreParsed}
use Rattle.workspace_graph.proofs.ByPath.{at_contains, has_file, number}
use Rattle.workspace_check.specs.Earlier.{tree_file}
use Rattle.workspace_check.specs.Verdicts.{Verdicts}
use Rattle.workspace_check.proofs.PackageFiles.{mapped}
use Rattle.build_unit.proofs.Part.{own_folder}
use Rattle.build_carry.specs.Inputs.{faulty_file}
use Rattle.build_carry.proofs.ChangedFolders.{in_package, package_path}
use Rattle.build_carry.proofs.ParsedFiles.{parsed_files}
use Rattle.refactor_part.specs.FaultlessPart.{is_of_faulty}
use Rattle.refactor_part.specs.LeftOut.{AreFirstLeftOut, IsLeftOut, path_of_tree, path_of_unread}

-- the paths of the files of a package
module _ {es : List (List ℕ × List ℕ)} {ts : List FileParts} {fs : List FaultyParts} (parsed : AreParsed es ts fs) where
  path_of_file : (e : List ℕ × List ℕ) → Contains es e → Contains (map path_of_tree ts ++ map path_of_unread fs) e.0
  path_of_file e has = elim ((parsed_files parsed e).0 has) [
    | inl c ↦ (
        let t = mapped tree_file ts e c in
        Contains-append_left (map path_of_tree ts) (map path_of_unread fs) e.0
        (subst (λ (d : List ℕ × List ℕ). Contains (map path_of_tree ts) d.0) t.1.1 (is_mapped path_of_tree ts t.0 t.1.0)))
    | inr c ↦ (
        let f = mapped faulty_file fs e c in
        Contains-append_right (map path_of_tree ts) (map path_of_unread fs) e.0
        (subst (λ (d : List ℕ × List ℕ). Contains (map path_of_unread fs) d.0) f.1.1 (is_mapped path_of_unread fs f.0 f.1.0)))
  ]

  file_of_path : (path : List ℕ) → Contains (map path_of_tree ts ++ map path_of_unread fs) path →
      (e : List ℕ × List ℕ) × (Contains es e × (e.0 ≡ path))
  file_of_path path has = elim (Contains-append_cases (map path_of_tree ts) (map path_of_unread fs) path has) [
    | inl c ↦ (
        let t = mapped path_of_tree ts path c in
        (tree_file t.0, ((parsed_files parsed (tree_file t.0)).1 (inl (is_mapped tree_file ts t.0 t.1.0)), t.1.1)))
    | inr c ↦ (
        let f = mapped path_of_unread fs path c in
        (faulty_file f.0, ((parsed_files parsed (faulty_file f.0)).1 (inr (is_mapped faulty_file fs f.0 f.1.0)), f.1.1)))
  ]

module _ (w : Workspace) (known : Verdicts) where
  -- a Go file of a package with faults
  of_faulty : (p path : List ℕ) → (known p).faulty ≡ true → (e : List ℕ × List ℕ) → Contains (package_files w p) e → e.0 ≡ path →
      is_of_faulty known path ≡ true
  of_faulty p path faulty e has same =
      let of = package_path w p e has in
      subst (λ q. is_of_faulty known q ≡ true) same
      (and_from (is_go e.0) (known (folder e.0)).faulty (and_parts (is_go e.0) _ of).0 (ap (λ q. (known q).faulty) (of_folder p e.0 of) ∙ faulty))

  pub nothing_left : (folders paths : List (List ℕ)) → folders ≡ [] → paths ≡ [] → AreFirstLeftOut w known 0 folders paths
  nothing_left folders paths none empty = record {
    only_faulty = λ q has. absurd (nothing_in q (subst (λ l. Contains l q) none has));
    each_faulty = λ i q lt. absurd (omega (arith, lt));
    only_files = λ path has. absurd (nothing_in path (subst (λ l. Contains l path) empty has));
    each_file = λ q has. absurd (nothing_in q (subst (λ l. Contains l q) none has));
  }

  module _ (count : ℕ) (folders paths : List (List ℕ)) (p : List ℕ) (at : slice_get (package_paths w) count ≡ Some p)
      (h : AreFirstLeftOut w known count folders paths) where
    next_each : (more : List (List ℕ)) → ((q : List ℕ) → Contains folders q → Contains more q) → ((known p).faulty ≡ true → Contains more p) → (i : ℕ)
        (q : List ℕ) → i < count + 1 → slice_get (package_paths w) i ≡ Some q → (known q).faulty ≡ true → Contains more q
    next_each more kept own i q lt is faulty = elim (cases_lt i count) [
      | inl below ↦ kept q (h.each_faulty i q below is faulty)
      | inr past ↦ (
          let here : i ≡ count = omega (arith, lt, past) in
          let same : p ≡ q = same_Some p q (sym at ∙ ap (slice_get (package_paths w)) (sym here) ∙ is) in
          subst (Contains more) same (own (subst (λ x. (known x).faulty ≡ true) (sym same) faulty)))
    ]

    -- the next package has no fault
    pub next_fine : (known p).faulty ≡ false → AreFirstLeftOut w known (count + 1) folders paths
    next_fine fine = record {
      only_faulty = h.only_faulty;
      each_faulty = next_each folders (λ q has. has) (λ faulty. absurd (true≢false (sym faulty ∙ fine)));
      only_files = h.only_files;
      each_file = h.each_file;
    }

    -- the next package has one
    module _ (faulty : (known p).faulty ≡ true) (ts : List FileParts) (fs : List FaultyParts) (parsed : AreParsed (package_files w p) ts fs)
        (more all : List (List ℕ)) (folders_more : more ≡ folders ++ p ∷ [])
        (paths_more : all ≡ (paths ++ map path_of_tree ts) ++ map path_of_unread fs) where
      abbrev own : List (List ℕ)
      own = map path_of_tree ts ++ map path_of_unread fs

      paths_own : all ≡ paths ++ own
      paths_own = paths_more ∙ append_assoc paths (map path_of_tree ts) (map path_of_unread fs)

      path_before : (path : List ℕ) → Contains paths path → Contains all path
      path_before path has = subst (λ l. Contains l path) (sym paths_own) (Contains-append_left paths own path has)

      path_now : (path : List ℕ) → Contains own path → Contains all path
      path_now path has = subst (λ l. Contains l path) (sym paths_own) (Contains-append_right paths own path has)

      folder_before : (q : List ℕ) → Contains folders q → Contains more q
      folder_before q has = subst (λ l. Contains l q) (sym folders_more) (Contains-append_left folders (p ∷ []) q has)

      folder_now : Contains more p
      folder_now = subst (λ l. Contains l p) (sym folders_more) (Contains-append_right folders (p ∷ []) p (first_in p []))

      pub next_faulty : AreFirstLeftOut w known (count + 1) more all
      next_faulty = record {
        only_faulty = λ q has. elim (Contains-append_cases folders (p ∷ []) q (subst (λ l. Contains l q) folders_more has)) [
          | inl before ↦ h.only_faulty q before
          | inr last ↦ elim (first_or_later p [] q last) [
            | inl same ↦ subst (λ x. Contains (package_paths w) x × ((known x).faulty ≡ true)) same (at_contains w count p at, faulty)
            | inr none ↦ absurd (nothing_in q none)
          ]
        ];
        each_faulty = next_each more folder_before (λ is. folder_now);
        only_files = λ path has. elim (Contains-append_cases paths own path (subst (λ l. Contains l path) paths_own has)) [
          | inl before ↦ h.only_files path before
          | inr now ↦ (let e = file_of_path parsed path now in of_faulty p path faulty e.0 e.1.0 e.1.1)
        ];
        each_file = λ q has e of. elim (Contains-append_cases folders (p ∷ []) q (subst (λ l. Contains l q) folders_more has)) [
          | inl before ↦ path_before e.0 (h.each_file q before e of)
          | inr last ↦ elim (first_or_later p [] q last) [
            | inl same ↦ path_now e.0 (path_of_file parsed e (subst (λ x. Contains (package_files w x) e) (sym same) of))
            | inr none ↦ absurd (nothing_in q none)
          ]
        ];
      }

  -- all packages were passed
  pub all_left : (count : ℕ) (folders paths : List (List ℕ)) → count ≡ length (package_paths w) → AreFirstLeftOut w known count folders paths →
      IsLeftOut w known folders paths
  all_left count folders paths end h = record {
    packages = λ q. (λ has. h.only_faulty q has, λ is. among q is.0 is.1);
    files = record {
      only = h.only_files;
      all = λ e has faulty.
          let parts = and_parts (is_go e.0) (known (folder e.0)).faulty faulty in
          let of = go_entry e has parts.0 in
          h.each_file (folder e.0) (among (folder e.0) (has_file w (folder e.0) e of) parts.1) e of;
    };
  }
    where
      among : (q : List ℕ) → Contains (package_paths w) q → (known q).faulty ≡ true → Contains folders q
      among q has faulty =
          let n = number w q has in
          let lt : n.0 < count = subst (λ k. n.0 < k) (sym end) (slice_get_within (package_paths w) n.0 q n.1) in
          h.each_faulty n.0 q lt n.1 faulty

      go_entry : (e : List ℕ × List ℕ) → Contains (entries w) e → is_go e.0 ≡ true → Contains (package_files w (folder e.0)) e
      go_entry e has go = in_package w (folder e.0) e.0 e.1 (own_folder e.0 go) (get_entry w e has)
