-- The files and packages of the part without faulty packages.
use Rattle.std.proofs.Common.{◌≡◌, ℕ, ◌&&◌, inl, inr, Bool, true, false, not, cond, List, Option, None, Some, refl, sym, ap, ap₂, subst, ◌∙◌, ◌==◌}
use Rattle.std.specs.Prelude.{Contains}
use Rattle.std.specs.Cmp.Lexicographic.{pointwise, bytes_decides}
use Rattle.std.specs.FinMap.{entries, get, get-retain_keys}
use Rattle.std.proofs.lemmas.Bool.{true≢false, and_from, and_parts, cases_Bool}
use Rattle.std.proofs.lemmas.Option.{none-some}
use Rattle.base_files.specs.Path.{folder}
use Rattle.base_files.specs.Packages.{is_go, is_of_package, package_paths, package_files}
use Rattle.base_files.specs.Workspace.{Workspace}
use Rattle.base_files.proofs.PackageFolders.{of_folder}
use Rattle.base_files.proofs.WorkspaceLaws.{path_cmp_exact}
use Rattle.base_edits.proofs.Entries.{entry_of, get_entry, same_files, some_is, none_from}
use Rattle.workspace_graph.proofs.ByPath.{has_file}
use Rattle.workspace_graph.proofs.SameFiles.{one_list}
use Rattle.workspace_check.specs.Verdicts.{Verdicts}
use Rattle.workspace_check.proofs.Members.{passes, passed, cases_contains}
use Rattle.workspace_check.proofs.PackageFiles.{package_file}
use Rattle.refactor_part.specs.FaultlessPart.{faultless_part, is_of_faulty}
use Rattle.refactor_part.specs.LeftOut.{AreOfFaulty, LeavesOut}

module _ (w : Workspace) (known : Verdicts) where
  abbrev part : Workspace
  part = faultless_part w known

  got : (path : List ℕ) → get part path ≡ cond (not (is_of_faulty known path)) (get w path) None
  unfolding faultless_part
  got path = get-retain_keys w (λ q. not (is_of_faulty known q)) path (λ x tied. ap (λ q. not (is_of_faulty known q)) (sym (path_cmp_exact path x tied)))

  pub kept : (path : List ℕ) → is_of_faulty known path ≡ false → get part path ≡ get w path
  kept path is = got path ∙ ap (λ b. cond (not b) (get w path) None) is

  pub gone : (path : List ℕ) → is_of_faulty known path ≡ true → get part path ≡ None
  gone path is = got path ∙ ap (λ b. cond (not b) (get w path) None) is

  -- a file of the part is one of the workspace
  pub stays_there : (path text : List ℕ) → get part path ≡ Some text → (is_of_faulty known path ≡ false) × (get w path ≡ Some text)
  stays_there path text has = elim (cases_Bool (is_of_faulty known path)) [
    | inl faulty ↦ absurd (none-some text (sym (gone path faulty) ∙ has))
    | inr fine ↦ (fine, sym (kept path fine) ∙ has)
  ]

  -- a Go file of a package without faults
  fine_file : (q path : List ℕ) → is_of_package q path ≡ true → (known q).faulty ≡ false → is_of_faulty known path ≡ false
  fine_file q path is fine =
      let go = (and_parts (is_go path) (pointwise ◌==◌ (folder path) q) is).0 in
      ap₂ (λ a b. a && b) go (ap (λ x. (known x).faulty) (of_folder q path is) ∙ fine)

  -- a Go file that is not of a package with faults
  fine_folder : (path : List ℕ) → is_go path ≡ true → is_of_faulty known path ≡ false → (known (folder path)).faulty ≡ false
  fine_folder path go is = sym (ap (λ a. a && (known (folder path)).faulty) go) ∙ is

  -- a package without faults has its files
  pub same_package : (q : List ℕ) → (known q).faulty ≡ false → package_files part q ≡ package_files w q
  same_package q fine = one_list (is_of_package q) w part (λ path is. kept path (fine_file q path is fine))

  -- and no other package has one
  pub fine_package : (q : List ℕ) (e : List ℕ × List ℕ) → Contains (package_files part q) e → (known q).faulty ≡ false
  fine_package q e has =
      let file = passes (λ d. is_of_package q d.0) (entries part) e has in
      let fine = (stays_there e.0 e.1 (get_entry part e file.1)).0 in
      let go = (and_parts (is_go e.0) (pointwise ◌==◌ (folder e.0) q) file.0).0 in
      subst (λ x. (known x).faulty ≡ false) (of_folder q e.0 file.0) (fine_folder e.0 go fine)

  pub from_part : (q : List ℕ) → Contains (package_paths part) q → Contains (package_paths w) q × ((known q).faulty ≡ false)
  from_part q has =
      let file = package_file part q has in
      let fine = fine_package q file.0 file.1 in
      (has_file w q file.0 (subst (λ es. Contains es file.0) (same_package q fine) file.1), fine)

  pub into_part : (q : List ℕ) → Contains (package_paths w) q → (known q).faulty ≡ false → Contains (package_paths part) q
  into_part q has fine =
      let file = package_file w q has in
      has_file part q file.0 (subst (λ es. Contains es file.0) (sym (same_package q fine)) file.1)

  -- the whole is the part where no package has a fault
  pub whole_part : ((q : List ℕ) → Contains (package_paths w) q → (known q).faulty ≡ false) → part ≡ w
  whole_part fine = same_files part w (λ q t has. (stays_there q t has).1)
      (λ q t has. some_is (get part q) t (kept q (all_fine q t has) ∙ has))
    where
      all_fine : (q t : List ℕ) → get w q ≡ Some t → is_of_faulty known q ≡ false
      all_fine q t has = elim (cases_Bool (is_of_faulty known q)) [
        | inr is ↦ is
        | inl faulty ↦ (
            let parts = and_parts (is_go q) (known (folder q)).faulty faulty in
            let of : is_of_package (folder q) q ≡ true = and_from (is_go q) (pointwise ◌==◌ (folder q) (folder q)) parts.0
            ((bytes_decides (folder q) (folder q)).1 refl) in
            let file = passed (λ d. is_of_package (folder q) d.0) (entries w) (q, t) of (entry_of w q t has) in
            absurd (true≢false (sym parts.1 ∙ fine (folder q) (has_file w (folder q) (q, t) file))))
      ]

  -- files that leave out just those of packages with faults
  pub left_part : (paths : List (List ℕ)) (left : Workspace) → AreOfFaulty known (entries w) paths → LeavesOut paths w left → left ≡ part
  left_part paths left are out = same_files left part
      (λ q t has. elim (cases_Bool (is_of_faulty known q)) [
        | inl faulty ↦ absurd (none-some t (sym (left_none q faulty) ∙ has))
        | inr fine ↦ kept q fine ∙ sym (left_same q fine) ∙ has
      ])
      (λ q t has.
      let is = stays_there q t has in
      some_is (get left q) t (left_same q is.0 ∙ is.1))
    where
      left_same : (q : List ℕ) → is_of_faulty known q ≡ false → get left q ≡ get w q
      left_same q fine = out.kept q (λ c. true≢false (sym (are.only q c) ∙ fine))

      left_none : (q : List ℕ) → is_of_faulty known q ≡ true → get left q ≡ None
      left_none q faulty = elim (cases_contains paths q) [
        | inl c ↦ out.out q c
        | inr n ↦ out.kept q n ∙ none_from (get w q) (λ t has. n (are.all (q, t) (entry_of w q t has) faulty))
      ]
