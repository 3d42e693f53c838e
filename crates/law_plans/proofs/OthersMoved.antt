-- A move keeps the closure of each package that it does not affect.
use Rattle.std.proofs.Common.{◌≡◌, ◌⊎◌, ◌<◌, ℕ, inl, inr, true, List, [], ◌∷◌, map, Option, None, Some, refl, sym, ap, subst, ◌∙◌}
use Rattle.std.specs.Prelude.{Contains, IsSome, MatchOption, is_some, length, slice_get}
use Rattle.std.specs.FinMap.{get}
use Rattle.std.proofs.lemmas.List.Elements.{All-contains}
use Rattle.base_lemmas.proofs.Elements.{first_in}
use Rattle.base_files.specs.Packages.{is_go, package_paths}
use Rattle.base_files.specs.Path.{IsPath, folder}
use Rattle.base_files.specs.Workspace.{Workspace}
use Rattle.base_edits.specs.Edits.{LieWithin}
use Rattle.base_edits.specs.EditSet.{FileChanges, change_of, file_by, edited}
use Rattle.base_edits.specs.Fits.{Fits, HasSpans}
use Rattle.base_edits.specs.Moved.{edits_by}
use Rattle.base_edits.specs.declared.change.FileChange.{FileChange}
use Rattle.base_edits.specs.declared.edit.Edit.{Edit}
use Rattle.base_edits.proofs.Changes.{change_found, file_path}
use Rattle.base_edits.proofs.Entries.{some_is}
use Rattle.go_ast.specs.SourceFile.{SourceFile, source_of}
use Rattle.go_scope.specs.declared.model.Block.TheVariants.{Universe, File}
use Rattle.go_scope.specs.declared.model.Role.{Role}
use Rattle.go_scope.specs.declared.model.Role.TheVariants.{Use, Declaring, LeftName, Implied, NotLexical}
use Rattle.go_scope.specs.Bindings.{may_declare, block_of}
use Rattle.types_declared.specs.Package.{Package}
use Rattle.workspace_graph.specs.Packages.{PackageImports}
use Rattle.workspace_graph.proofs.ByPath.{has_file}
use Rattle.workspace_check.specs.Closures.{HasSameClosure}
use Rattle.workspace_check.specs.Verdicts.{Verdicts}
use Rattle.workspace_check.proofs.Importing.{literal_path}
use Rattle.workspace_check.proofs.PackageFiles.{at_rank, file_among, package_file}
use Rattle.refs_binding.specs.Uses.{IsCheckedPackage}
use Rattle.refs_binding.proofs.Folders.{file_in_folder}
use Rattle.refs_lookup.specs.Reached.{IsReached, start, imported}
use Rattle.law_faultless.proofs.Declared.{may_within}
use Rattle.law_moves.proofs.MovedFolders.{file_under, folder_moves, go_moves}
use Rattle.law_moves.proofs.ImportTokens.{import_is_counted}
use Rattle.refactor_move.specs.Changes.{AreGoEdits}
use Rattle.refactor_move.specs.FileEdits.{IsMoveEditAt, ReplacesPath, ReplacesPackageName}
use Rattle.refactor_move.specs.MoveEdits.{AreMoveEdits, IsFree}
use Rattle.refactor_move.specs.Paths.{IsUnder, HasMovedPackage}
use Rattle.refactor_part.specs.FaultlessPart.{faultless_part}
use Rattle.refactor_part.proofs.PartEdits.{AreApart}
use Rattle.refactor_part.proofs.PartFiles.{from_part, same_package}
use Rattle.refactor_affected.specs.Starts.{BeginsMove, IsAffectedByMove, IsAtOrUnder, moves, imports}
use Rattle.refactor_affected.proofs.MovesApart.{goes}
use Rattle.law_plans.proofs.EditedPart.{file_is, go_file}
use Rattle.law_plans.proofs.MovingFiles.{new_at, old_at}
use Rattle.law_plans.proofs.Unreached.{StaysWhole, NoneComesTo, reached_closed, keeps_closure}

-- an import may declare
may_import : (r : Role) (f : ℕ) → block_of r ≡ File f → may_declare r ≡ true
may_import (Declaring b at) f e = refl
may_import (LeftName b at) f e = refl
may_import (Implied b at) f e = refl
may_import Use f e = let z : Universe ≡ File f = e in cc
may_import (NotLexical p) f e = let z : Universe ≡ File f = e in cc

module _ (w : Workspace) (known : Verdicts) (from to : List ℕ) (by : Verdicts) (s : FileChanges) (are : AreMoveEdits (faultless_part w known) by from to to s)
    (fit : Fits s (faultless_part w known)) where
  abbrev part : Workspace
  part = faultless_part w known

  -- an import of a package of the part is one in the workspace
  up : (p q : List ℕ) → PackageImports part p q → PackageImports w p q
  up p q i =
      let fine = (from_part w known p (has_file part p i.entry i.of_package)).1 in
      record {
        entry = i.entry;
        of_package = subst (λ es. Contains es i.entry) (same_package w known p fine) i.of_package;
        file = i.file;
        parsed = i.parsed;
        imports = i.imports;
      }

  begins_at : (q : List ℕ) → BeginsMove w are.moved.from to q → BeginsMove w from to q
  begins_at q h = subst (λ f. BeginsMove w f to q) are.is_move.source h

  -- a package with an edit begins the move
  module _ (p : Package) (is : IsCheckedPackage part by p) (rank : ℕ) (f : SourceFile) (at : slice_get p.files rank ≡ Some f) where
    by_path : (i : ℕ) (e : Edit) → ReplacesPath f are.moved i e → BeginsMove w are.moved.from to p.path
    by_path i e r =
        let h = is.is_checked in
        let files : p.files ≡ map source_of h.files = ap (λ (x : Package). x.files) h.is_package.is_package in
        let entry = file_among h.parsed f (at_rank (map source_of h.files) rank f (subst (λ fs. slice_get fs rank ≡ Some f) files at)) in
        imports (up p.path r.old (record {
          entry = entry.0;
          of_package = entry.1.0;
          file = f;
          parsed = entry.1.1;
          imports = literal_path f i r.old r.is_import r.stands_for;
        })) (inl (old_at are.moved.from are.moved.to r.old r.new r.moves))

    by_name : (i : ℕ) (e : Edit) → ReplacesPackageName p rank f are.moved i e → BeginsMove w are.moved.from to p.path
    by_name i e r = elim r.names [
      | inl clause ↦ moves (inl clause.0)
      | inr used ↦ (
          let d = used.import in
          let import = used.imports.is_import in
          let lt : d < p.size = may_within part by p.path p is.is_checked d (may_import (p.layout.role d) import.0 import.1) in
          imports (up p.path are.moved.from (import_is_counted part by p.path p is.is_checked d lt are.moved.from used.imports)) (inl (inl refl)))
    ]

    by_edit : (i : ℕ) (e : Edit) → IsMoveEditAt p rank f are.moved i e → BeginsMove w are.moved.from to p.path
    by_edit i e (inl r) = by_path i e r
    by_edit i e (inr r) = by_name i e r

  in_part : (c : FileChange) → HasSpans part c → IsSome (get part c.path)
  in_part c h = elim (get part c.path) as (λ o. MatchOption o ⊥ (λ text. LieWithin (length text) c.edits) → is_some o ≡ true) [
    | None ↦ λ k. absurd k
    | Some t ↦ λ k. refl
  ] h

  pub edited_begins : (path : List ℕ) (c : FileChange) (e : Edit) (rest : List Edit) → is_go path ≡ true → change_of s path ≡ Some c → c.edits ≡ e ∷ rest →
      BeginsMove w from to (folder path)
  edited_begins path c e rest go is edits =
      let found = change_found s.changed path c is in
      let there : IsSome (get part path) = subst (λ p. IsSome (get part p)) found.1 (in_part c (All-contains (HasSpans part) s.changed c fit.there found.0)) in
      let g : AreGoEdits part by are.moved path c.edits = subst (λ o. AreGoEdits part by are.moved path (edits_by o)) is ((are.edits path there).go go) in
      let one = (g.are.each e).0 (subst (λ l. Contains l e) (sym edits) (first_in e rest)) in
      let here = by_edit g.inside g.is_package g.rank g.source g.has_rank one.0 e one.1 in
      let in_folder : g.inside.path ≡ folder path = sym (file_in_folder part by g.inside g.is_package g.rank g.source g.has_rank) ∙ ap folder g.of_path in
      subst (BeginsMove w from to) in_folder (begins_at g.inside.path here)

  -- ---- packages that the move does not affect
  module _ (target : IsPath 1 to) (free : IsFree w to) (apart : AreApart s w) (p : List ℕ) (own : Contains (package_paths w) p)
      (not : IsAffectedByMove w from to p → ⊥) where
    -- a package of the closure from which the effects begin
    none_begins : (q : List ℕ) → IsReached w p q → Contains (package_paths w) q → BeginsMove w from to q → ⊥
    none_begins q r has b = not (record { start = q; begins = b; in_closure = reached_closed w p q r has })

    whole_file : (q : List ℕ) → IsReached w p q → StaysWhole w s q
    whole_file q r path text has at go = by_change (change_of s path) refl
      where
        there : Contains (package_paths w) (folder path)
        there = has_file w (folder path) (path, text) (go_file w path text has go)

        reached : IsReached w p (folder path)
        reached = subst (IsReached w p) (sym at) r

        none_here : BeginsMove w from to (folder path) → ⊥
        none_here = none_begins (folder path) reached there

        not_edited : (c : FileChange) → change_of s path ≡ Some c → (edits : List Edit) → c.edits ≡ edits → (edits ≡ [] → ⊥) → ⊥
        not_edited c is [] e some = some refl
        not_edited c is (x ∷ rest) e some = none_here (edited_begins path c x rest go is e)

        by_change : (o : Option FileChange) → change_of s path ≡ o → file_by o (path, text) ≡ Some (path, text)
        by_change None is = refl
        by_change (Some c) is = absurd (elim (are.only c (change_found s.changed path c is).0) [
          | inl moved ↦ (
              let here = (change_found s.changed path c is).1 in
              let at_old = old_at are.moved.from are.moved.to (folder c.path) (folder moved.0) (folder_moves are.moved.from are.moved.to c.path moved.0
              moved.1.0.moved) in
              none_here (begins_at (folder path) (moves (subst (λ x. IsAtOrUnder are.moved.from (folder x)) here at_old))))
          | inr stays ↦ not_edited c is c.edits refl stays.1.1
        ])

    -- no package moves to a folder that the closure reaches
    comes : (q : List ℕ) → IsReached w p q → (old : List ℕ) → HasMovedPackage from to old q → Contains (package_paths w) old → ⊥
    comes _ start old m has =
        let c = package_file w p own in
        let e = file_is w p c.0 c.1 in
        let at : (folder c.0.0 ≡ to) ⊎ IsUnder to (folder c.0.0) =
        subst (λ x. (x ≡ to) ⊎ IsUnder to x) (sym e.in_folder) (new_at from to old p m) in
        free c.0.0 (some_is (get w c.0.0) c.0.1 e.has) (file_under to c.0.0 target at)
    comes q (imported {r = x} closed i) old m has =
        not (record { start = x; begins = imports i (inr (record { old = old; is_package = has; moves = m })); in_closure = closed })

    none_new : (q : List ℕ) → IsReached w p q → NoneComesTo w s q
    none_new q r old before path text has made at go = elim (goes are.moved s are.only old path (file_path s old before path text made)) [
      | inr stays ↦ sym stays
      | inl moved ↦ (
          let old_go : is_go old ≡ true = sym (go_moves are.moved.from are.moved.to old path moved.moved) ∙ go in
          let is_package = has_file w (folder old) (old, before) (go_file w old before has old_go) in
          let m = folder_moves are.moved.from are.moved.to old path moved.moved in
          let there : HasMovedPackage from to (folder old) q = subst (λ x. HasMovedPackage from to (folder old) x) at
          (subst (λ x. HasMovedPackage x to (folder old) (folder path)) are.is_move.source
          (subst (λ x. HasMovedPackage are.moved.from x (folder old) (folder path)) are.is_move.target m)) in
          absurd (comes q r (folder old) there is_package))
    ]

    pub others_moved : HasSameClosure w (edited s w) p
    others_moved = keeps_closure w s are.none_added apart p whole_file none_new
