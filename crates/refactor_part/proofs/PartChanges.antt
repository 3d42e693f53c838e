-- In which folders the files of the part differ from those of the workspace, before edits of the part and after them.
use Rattle.std.proofs.Common.{◌≡◌, ℕ, inl, inr, true, List, [], Option, None, Some, refl, sym, ap, subst, ◌∙◌}
use Rattle.std.specs.Prelude.{Contains, IsSome, MatchOption, length}
use Rattle.std.specs.FinMap.{entries, get}
use Rattle.std.proofs.lemmas.Bool.{true≢false, and_from, and_parts, cases_Bool}
use Rattle.std.proofs.lemmas.List.Elements.{All-contains}
use Rattle.std.proofs.lemmas.Option.{none-some, same_Some}
use Rattle.base_lemmas.proofs.Elements.{nothing_in}
use Rattle.base_files.specs.Path.{folder}
use Rattle.base_files.specs.Packages.{is_go, package_paths, package_files}
use Rattle.base_files.specs.Workspace.{Workspace}
use Rattle.base_files.proofs.PackageFolders.{of_folder}
use Rattle.base_edits.specs.Edits.{LieWithin}
use Rattle.base_edits.specs.EditSet.{FileChanges, change_of, edited, file_by}
use Rattle.base_edits.specs.Fits.{Fits, HasSpans, path_after, path_by_change}
use Rattle.base_edits.proofs.Changes.{change_found}
use Rattle.base_edits.proofs.Entries.{entry_of, none_from, some_is, value_of}
use Rattle.base_edits.proofs.FilesAfter.{comes_from, gets}
use Rattle.build_carry.specs.Changes.{AreChanged}
use Rattle.build_carry.proofs.ChangedFolders.{in_package, package_has, package_path}
use Rattle.workspace_check.specs.Verdicts.{Verdicts}
use Rattle.workspace_check.proofs.PackageFiles.{package_file}
use Rattle.workspace_graph.specs.SameGoFiles.{DiffersOnlyAt}
use Rattle.workspace_graph.proofs.ByPath.{has_file}
use Rattle.refactor_part.specs.FaultlessPart.{faultless_part, is_of_faulty}
use Rattle.refactor_part.specs.LeftOut.{IsLeftOut}
use Rattle.refactor_part.proofs.PartEdits.{AreApart, has_old, within}
use Rattle.refactor_part.proofs.PartFiles.{fine_package, gone, kept, same_package, stays_there}

module _ (w : Workspace) (known : Verdicts) where
  -- a Go file of a package with faults is one at this path
  file_of_faulty : (q : List ℕ) (e : List ℕ × List ℕ) → Contains (package_files w q) e → (known q).faulty ≡ true → is_of_faulty known e.0 ≡ true
  file_of_faulty q e has faulty =
      let of = package_path w q e has in
      and_from (is_go e.0) (known (folder e.0)).faulty (and_parts (is_go e.0) _ of).0 (ap (λ p. (known p).faulty) (of_folder q e.0 of) ∙ faulty)

  module _ (folders paths : List (List ℕ)) (left : IsLeftOut w known folders paths) where
    -- the part differs in the folders of packages with faults
    pub part_differs : AreChanged w (faultless_part w known) folders
    part_differs = record {
      changed = λ q has same.
          let is = (left.packages q).0 has in
          let e = package_file w q is.0 in
          true≢false (sym is.1 ∙ fine_package w known q e.0 ((same e.0).0 e.1));
      same = λ q none e. (
        λ has. elim (cases_Bool (known q).faulty) [
          | inl faulty ↦ absurd (none ((left.packages q).1 (has_file w q e has, faulty)))
          | inr fine ↦ subst (λ es. Contains es e) (sym (same_package w known q fine)) has
        ],
        λ has. subst (λ es. Contains es e) (same_package w known q (fine_package w known q e has)) has,
      );
    }

  -- edits that fit the part
  module _ (s : FileChanges) (none : s.added ≡ []) (apart : AreApart s w) (fits : Fits s (faultless_part w known)) where
    abbrev part : Workspace
    part = faultless_part w known

    -- a file of a package with faults has no change
    pub no_change : (path : List ℕ) → is_of_faulty known path ≡ true → change_of s path ≡ None
    no_change path faulty = none_from (change_of s path) (λ c has.
        let found = change_found s.changed path c has in
        let there : get part c.path ≡ None = ap (get part) found.1 ∙ gone w known path faulty in
        subst (λ o. MatchOption o ⊥ (λ t. LieWithin (length t) c.edits)) there (All-contains (HasSpans part) s.changed c fits.there found.0))

    -- it stays at its path
    pub faulty_stays : (old new : List ℕ) → is_of_faulty known old ≡ true → path_after s old ≡ Some new → old ≡ new
    faulty_stays old new faulty goes = same_Some old new (sym (ap (λ o. path_by_change o old) (no_change old faulty)) ∙ goes)

    -- and keeps its text
    faulty_kept : (path text : List ℕ) → is_of_faulty known path ≡ true → get w path ≡ Some text → get (edited s w) path ≡ Some text
    faulty_kept path text faulty has = has_old s w none apart path text
        (path, text, has, ap (λ o. file_by o (path, text)) (no_change path faulty))

    -- no other file comes to its path
    none_there : (path text : List ℕ) → is_of_faulty known path ≡ true → get w path ≡ Some text → get (edited s part) path ≡ None
    none_there path text faulty has = none_from (get (edited s part) path) (λ t is. elim (comes_from s part path t is) [
      | inl new ↦ absurd (nothing_in (path, t) (subst (λ l. Contains l (path, t)) none new))
      | inr o ↦ (
          let there = stays_there w known o.0 o.1 o.2 in
          let goes : path_after s path ≡ Some path = ap (λ c. path_by_change c path) (no_change path faulty) in
          let same : o.0 ≡ path = apart o.0 path path (some_is (get w o.0) o.1 there.1, (gets s part path t o).1) (some_is (get w path) text has, goes) in
          absurd (true≢false (sym faulty ∙ ap (is_of_faulty known) (sym same) ∙ there.0)))
    ])

    -- a file of the edited whole is one of the edited part, or one of a package with faults
    back_to_part : (path text : List ℕ) → get (edited s w) path ≡ Some text → (is_of_faulty known path ≡ true → IsSome (get w path) → ⊥) →
        get (edited s part) path ≡ Some text
    back_to_part path text has not = elim (comes_from s w path text has) [
      | inl new ↦ absurd (nothing_in (path, text) (subst (λ l. Contains l (path, text)) none new))
      | inr o ↦ elim (cases_Bool (is_of_faulty known o.0)) [
        | inl faulty ↦ (
            let same = faulty_stays o.0 path faulty (gets s w path text o).1 in
            absurd (not (sym (ap (is_of_faulty known) same) ∙ faulty) (some_is (get w path) o.1 (sym (ap (get w) same) ∙ o.2))))
        | inr fine ↦ has_old s part none part_apart path text (o.0, o.1, kept w known o.0 fine ∙ o.2, o.3)
      ]
    ]
      where
        up : (q : List ℕ) → IsSome (get part q) → IsSome (get w q)
        up q there = let t = value_of (get part q) there in some_is (get w q) t.0 (stays_there w known q t.0 t.1).1

        part_apart : AreApart s part
        part_apart one other to a b = apart one other to (up one a.0, a.1) (up other b.0, b.1)

    module _ (folders paths : List (List ℕ)) (left : IsLeftOut w known folders paths) where
      -- after the edits the whole has other Go files than the part only at these paths
      pub rest_after : DiffersOnlyAt paths (edited s part) (edited s w)
      rest_after path go out = elim (get (edited s w) path) as (λ o. get (edited s w) path ≡ o → o ≡ get (edited s part) path) [
        | None ↦ λ has. sym (none_from (get (edited s part) path) (λ t is. none-some t (sym has ∙ within w known s none apart path t is)))
        | Some text ↦ λ has. sym (back_to_part path text has (λ faulty there.
            let t = value_of (get w path) there in out (left.files.all (path, t.0) (entry_of w path t.0 t.1) faulty)))
      ] refl

      -- and it differs in the folders of packages with faults
      pub folders_after : AreChanged (edited s part) (edited s w) folders
      folders_after = record {
        changed = λ q has same.
            let is = (left.packages q).0 has in
            let e = package_file w q is.0 in
            let faulty = file_of_faulty q e.0 e.1 is.1 in
            let own = package_has w q e.0 e.1 in
            let here = in_package (edited s w) q e.0.0 e.0.1 (package_path w q e.0 e.1) (faulty_kept e.0.0 e.0.1 faulty own) in
            none-some e.0.1 (sym (none_there e.0.0 e.0.1 faulty own) ∙ package_has (edited s part) q e.0 ((same e.0).1 here));
        same = λ q out e. (
          λ has. in_package (edited s w) q e.0 e.1 (package_path (edited s part) q e has)
              (within w known s none apart e.0 e.1 (package_has (edited s part) q e has)),
          λ has.
              let of = package_path (edited s w) q e has in
              in_package (edited s part) q e.0 e.1 of (back_to_part e.0 e.1 (package_has (edited s w) q e has) (λ faulty there.
              let t = value_of (get w e.0) there in
              let parts = and_parts (is_go e.0) (known (folder e.0)).faulty faulty in
              let in_q = of_folder q e.0 of in
              out ((left.packages q).1 (
                has_file w q (e.0, t.0) (in_package w q e.0 t.0 of t.1),
                sym (ap (λ p. (known p).faulty) in_q) ∙ parts.1,
              )))),
        );
      }
