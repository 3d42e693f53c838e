-- A rename keeps the closure of each package that it does not affect.
use Rattle.std.proofs.Common.{◌≡◌, ℕ, inl, inr, List, [], ◌∷◌, Option, None, Some, refl, sym, ap, subst, ◌∙◌}
use Rattle.std.specs.Prelude.{Contains, slice_get}
use Rattle.std.specs.Option.{option_map}
use Rattle.std.proofs.lemmas.Option.{none-some, same_Some}
use Rattle.base_lemmas.proofs.Elements.{first_in}
use Rattle.base_files.specs.Packages.{package_paths}
use Rattle.base_files.specs.Path.{folder}
use Rattle.base_files.specs.Workspace.{Workspace}
use Rattle.base_files.specs.declared.place.Place.{Place}
use Rattle.go_ast.specs.SourceFile.{SourceFile}
use Rattle.base_edits.specs.Edits.{edited_text}
use Rattle.base_edits.specs.EditSet.{FileChanges, change_of, file_by, path_by, edited}
use Rattle.base_edits.specs.Moved.{edits_by}
use Rattle.base_edits.specs.declared.change.FileChange.{FileChange}
use Rattle.base_edits.specs.declared.change.Fate.TheVariants.{Stays}
use Rattle.base_edits.specs.declared.edit.Edit.{Edit}
use Rattle.base_edits.proofs.Changes.{change_found, file_path}
use Rattle.workspace_graph.specs.Packages.{IsInClosure, itself}
use Rattle.workspace_graph.proofs.ByPath.{has_file}
use Rattle.workspace_check.specs.Closures.{HasSameClosure}
use Rattle.workspace_check.specs.Verdicts.{Verdicts, AreVerdicts}
use Rattle.workspace_check.proofs.Closed.{in_closure_then}
use Rattle.refs_binding.specs.declared.declaration.Declaration.{Declaration}
use Rattle.refs_binding.specs.declared.declaration.Declaration.TheVariants.{Predeclared, Declared, Field, Method}
use Rattle.refs_binding.specs.Uses.{IsCheckedPackage}
use Rattle.refs_binding.proofs.Folders.{file_in_folder}
use Rattle.refs_lookup.specs.Reached.{IsReached}
use Rattle.refs_lookup.specs.Within.{IsDeclaredWithin, predeclared, stands}
use Rattle.refs_places.specs.Homes.{IsHomeOfSome}
use Rattle.refs_places.specs.Outside.{declaring_path}
use Rattle.refactor_preserve.proofs.Unaffected.{declared_folder, use_within}
use Rattle.refactor_rename.specs.declared.renamed.Literal.{Literal}
use Rattle.refactor_rename.specs.FileEdits.{AreFileEdits, IsLiteralAt}
use Rattle.refactor_rename.specs.Literals.{IsTokenOf, IsPathLiteralOf, IsLiteralFound}
use Rattle.refactor_rename.specs.RenameEdits.{AreRenameEdits}
use Rattle.refactor_part.proofs.PartEdits.{AreApart}
use Rattle.law_plans.proofs.EditedPart.{go_file}
use Rattle.law_plans.proofs.StayingFiles.{same_path}
use Rattle.law_plans.proofs.Unreached.{StaysWhole, NoneComesTo, reached_closed, keeps_closure}

-- a file with the literal of an import
literal_file : (o : Option SourceFile) (token : ℕ) (l : Literal) → IsTokenOf o token l → (f : SourceFile) × ((o ≡ Some f) × (l.path ≡ f.path))
literal_file None token l h = absurd h
literal_file (Some f) token l h = (f, (refl, h.0))

-- a package that sees a declaration reaches its package
module _ (v : Workspace) (known : Verdicts) (home : List ℕ) where
  pub declared_reaches : (q : List ℕ) (e : Declaration) → declaring_path e ≡ Some home → IsDeclaredWithin v known q e → IsInClosure v q home
  declared_reaches q _ is (predeclared h) = absurd (none-some home is)
  declared_reaches q e is (stands place h) =
      subst (IsInClosure v q) (declared_folder v known place e home is h.declared).in_folder h.in_closure

-- a package that has an edit reaches the package of a declaration that is renamed
module _ (v : Workspace) (known : Verdicts) (right : AreVerdicts v known) (d : Declaration) (set : List Declaration) (name : List ℕ) (s : FileChanges)
    (are : AreRenameEdits v known d set name s) (home : List ℕ) (declares : declaring_path d ≡ Some home) where
  -- the literal stands in the package of the import
  of_literal : (e : Declaration) → declaring_path e ≡ Some home → (l : Literal) → IsPathLiteralOf (IsCheckedPackage v known) e l →
      IsInClosure v (folder l.path) home
  of_literal (Predeclared n) is l h = absurd h
  of_literal (Declared path n) is l h =
      let p = h.inside in
      let f = literal_file (slice_get p.files (p.layout.place n).file) (p.layout.place n).index l h.holds.2 in
      let at : folder l.path ≡ home =
      ap folder f.1.1 ∙ file_in_folder v known p h.is_package (p.layout.place n).file f.0 f.1.0 ∙ h.of_path ∙ same_Some path home is in
      let has : Contains (package_paths v) home = subst (Contains (package_paths v)) (h.of_path ∙ same_Some path home is) h.is_package.of_workspace in
      subst (λ q. IsInClosure v q home) (sym at) (itself has)
  of_literal (Field m) is l h = absurd h
  of_literal (Method m) is l h = absurd h

  pub by_literal : (f : SourceFile) (i : ℕ) (o : Option Literal) → IsLiteralFound (IsPathLiteralOf (IsCheckedPackage v known) d) o → IsLiteralAt o f.path i →
      IsInClosure v (folder f.path) home
  by_literal f i None found at = absurd at
  by_literal f i (Some l) found at = subst (λ x. IsInClosure v (folder x) home) at.0 (of_literal d declares l found)

  -- The package at the path reaches one of the declarations of the set.
  abbrev ReachesSome : List ℕ → Type 0
  ReachesSome q = (start : List ℕ) × (IsHomeOfSome set start × IsInClosure v q start)

  pub edited_reaches : Contains set d → ((x : Declaration) → Contains set x → (start : List ℕ) × (declaring_path x ≡ Some start)) → (path : List ℕ)
      (c : FileChange) (e : Edit) (rest : List Edit) → change_of s path ≡ Some c → c.edits ≡ e ∷ rest →
      (start : List ℕ) × (IsHomeOfSome set start × IsInClosure v (folder path) start)
  edited_reaches has homes path c e rest is edits =
      let found = change_found s.changed path c is in
      let source = are.edits.only c found.0 in
      let f = source.source in
      let at : f.path ≡ path = source.of_path ∙ found.1 in
      let r = are.renamed in
      let here : AreFileEdits f r c.edits =
      subst (λ o. AreFileEdits f r (edits_by o)) (ap (change_of s) at ∙ is) (are.edits.each f source.is_source) in
      let one = (here.each e).0 (subst (λ l. Contains l e) (sym edits) (first_in e rest)) in
      subst (λ x. ReachesSome (folder x)) at (elim one.1 [
        | inl inserts ↦ (
          home,
          (
            record { declaration = d; among = has; declares = declares },
            by_literal f one.0 r.literal are.is_renamed.literal inserts.is_literal,
          ),
        )
        | inr renames ↦ (
            let place : Place = record { path = f.path; offset = renames.token.span.start } in
            let u = (are.is_renamed.uses.each place).0 renames.among in
            let start = homes u.declaration u.among in (
              start.0,
              (
                record { declaration = u.declaration; among = u.among; declares = start.1 },
                declared_reaches v known start.0 (folder f.path) u.declaration start.1 (use_within v known right u.declaration place u.is_use),
              ),
            ))
      ])

-- ---- packages that the rename does not affect
module _ (w : Workspace) (s : FileChanges) (none : s.added ≡ []) (apart : AreApart s w) (stay : (c : FileChange) → Contains s.changed c → c.fate ≡ Stays)
    (Home : List ℕ → Type 0)
    (reaches : (path : List ℕ) (c : FileChange) (e : Edit) (rest : List Edit) → change_of s path ≡ Some c → c.edits ≡ e ∷ rest →
    (home : List ℕ) × (Home home × IsInClosure w (folder path) home))
    (p : List ℕ) (not : (home : List ℕ) → Home home → IsInClosure w p home → ⊥) where
  whole_file : (q : List ℕ) → IsReached w p q → StaysWhole w s q
  whole_file q r path text has at go = by_change (change_of s path) refl
    where
      there : IsInClosure w p (folder path)
      there = subst (IsInClosure w p) (sym at)
          (reached_closed w p q r (subst (Contains (package_paths w)) at (has_file w (folder path) (path, text) (go_file w path text has go))))

      no_edit : (c : FileChange) → change_of s path ≡ Some c → (edits : List Edit) → c.edits ≡ edits → edited_text c.edits text ≡ text
      no_edit c is [] e = ap (λ l. edited_text l text) e
      no_edit c is (x ∷ rest) e =
          let k = reaches path c x rest is e in
          absurd (not k.0 k.1.0 (in_closure_then w p (folder path) k.0 there k.1.1))

      by_change : (o : Option FileChange) → change_of s path ≡ o → file_by o (path, text) ≡ Some (path, text)
      by_change None is = refl
      by_change (Some c) is =
          ap (λ f. option_map {U = List ℕ × List ℕ} (λ x. (x, edited_text c.edits text)) (path_by f path)) (stay c (change_found s.changed path c is).0)
          ∙ ap (λ t. Some (path, t)) (no_edit c is c.edits refl)

  none_new : (q : List ℕ) → IsReached w p q → NoneComesTo w s q
  none_new q r old before path text has made at go = same_path s stay old path (file_path s old before path text made)

  pub others_renamed : HasSameClosure w (edited s w) p
  others_renamed = keeps_closure w s none apart p whole_file none_new
