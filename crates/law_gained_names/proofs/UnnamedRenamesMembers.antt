-- The rename of an import edits no identifier but those that are bound to it. So the names of members stay, and what is bound to members.
use Rattle.std.proofs.Common.{ℕ, ◌≡◌, ◌<◌, ◌==◌, inl, inr, true, List, Option, Some, None, eqb-true, refl, sym, ap, subst, ◌∙◌, arith}
use Rattle.std.specs.Prelude.{Contains, find, nat_lt}
use Rattle.std.proofs.lemmas.Bool.{ltb-true}
use Rattle.base_files.specs.Workspace.{Workspace}
use Rattle.base_files.specs.declared.place.Place.{Place}
use Rattle.base_files.specs.declared.place.Span.{Span}
use Rattle.base_edits.specs.EditSet.{FileChanges, change_of}
use Rattle.base_edits.specs.Moved.{edits_by}
use Rattle.base_edits.specs.Revisions.{Revision}
use Rattle.base_edits.specs.RevisionsOfEdits.{replaces_at, revision_of, text_or}
use Rattle.base_edits.specs.declared.edit.Edit.{Edit}
use Rattle.go_ast.specs.SourceFile.{SourceFile}
use Rattle.go_scope.specs.declared.model.Block.TheVariants.{File}
use Rattle.go_scope.specs.declared.model.Block.TheVariants.{Package as PackageBlock}
use Rattle.go_scope.specs.Bindings.{IsImport, IsPackageLevel}
use Rattle.law_typing.proofs.Tests.{and_first, and_second}
use Rattle.types_declared.specs.Package.{Package}
use Rattle.workspace_check.specs.Verdicts.{Verdicts}
use Rattle.workspace_check.proofs.PackageFiles.{at_rank}
use Rattle.refs_binding.specs.declared.declaration.Declaration.TheVariants.{Declared}
use Rattle.refs_binding.specs.Binding.{by_member, by_name, by_package, by_scope}
use Rattle.refs_binding.specs.Identifiers.{BeginsAt, file_of}
use Rattle.refs_binding.specs.Uses.{IsBoundToDeclaration, IsCheckedPackage, IsUseOf}
use Rattle.refs_binding.proofs.Folders.{some_file}
use Rattle.refs_binding.proofs.PlaceOrder.{place_is}
use Rattle.refs_binding.proofs.Units.{one_package}
use Rattle.refs_lookup.proofs.OneDeclaration.{same_package}
use Rattle.refs_lookup.proofs.OnePlace.{one_begins}
use Rattle.refactor_rename.specs.FileEdits.{AreFileEdits, IsEditAt, RenamesToken}
use Rattle.refactor_conflict.specs.Staying.{StaysByMember, StaysByName}
use Rattle.law_moves.specs.KeptNames.{IsBoundToImport, KeepsOtherNames}
use Rattle.law_moves.proofs.MembersStay.{name_kept, use_kept}
use Rattle.law_moves.proofs.NewSpelled.{found_in}
use Rattle.law_renamed_workspaces.proofs.OwnNames.{member_is_none}
use Rattle.law_renamed_workspaces.proofs.RenamedSets.{own_alone}
use Rattle.law_agreement.proofs.RenamedAlone.{use_of_alone}
use Rattle.law_gained_names.specs.UnnamedRenames.{IsUnnamedRename}

empty_span : (start end at : ℕ) → start ≡ at → end ≡ at → start < end → ⊥
empty_span start end at a b less = omega (arith, a, b, less)

module _ (w : Workspace) (known : Verdicts) (p : Package) (n : ℕ) (name : List ℕ) (s : FileChanges) (h : IsUnnamedRename w known p n name s) where
  abbrev r : Revision
  r = revision_of w s

  no_level : (x : Package) → x ≡ p → IsPackageLevel x.layout n → ⊥
  no_level x same level =
      let import : IsImport x.layout n = subst (λ (y : Package). IsImport y.layout n) (sym same) h.unnamed.0 in
      let z : PackageBlock ≡ File import.0 = sym level ∙ import.1 in cc

  -- what is bound to the import is so by scopes
  to_import : (y : Package) → IsCheckedPackage w known y → (u : ℕ) → IsBoundToDeclaration w known y u (Declared p.path n) → IsBoundToImport y u
  to_import y is u (by_scope b) =
      let same : y ≡ p = one_package w known y p is h.is_package (sym b.0) in
      record { import = n; is_import = subst (λ (x : Package). IsImport x.layout n) (sym same) h.unnamed.0; bound = b.2 }
  to_import y is u (by_package b) = absurd (no_level b.other (one_package w known b.other p b.is_package h.is_package b.of_path) b.seen.package_level)
  to_import y is u (by_member b) = absurd (member_is_none b.member p.path n b.declares)
  to_import y is u (by_name b) = absurd b

  module _ (y : Package) (is : IsCheckedPackage w known y) (u : ℕ) (place : Place) (begins : BeginsAt y place.path place.offset u) where
    source : (f : SourceFile) × ((file_of y u ≡ Some f) × (f.path ≡ place.path))
    source = some_file (file_of y u) (y.layout.place u).index place.path place.offset begins.1

    are : AreFileEdits source.0 h.rename.edits.renamed (edits_by (change_of s source.0.path))
    are =
        h.rename.edits.edits.each source.0
        (record { inside = y; is_package = is; has = at_rank y.files (y.layout.place u).file source.0 source.1.0 })

    -- an identifier whose name is replaced is bound to the import
    replaced : (t : IsUseOf w known (Declared p.path n) place) → IsBoundToImport y u
    replaced t =
        let same : t.used_in ≡ y = same_package w known place t.used_in y t.is_package is t.user u t.begins begins in
        let there : BeginsAt y place.path place.offset t.user = subst (λ (x : Package). BeginsAt x place.path place.offset t.user) same t.begins in
        let one : t.user ≡ u = one_begins w known y.path y is.is_checked place.path place.offset t.user u there begins in
        to_import y is u
        (subst (λ k. IsBoundToDeclaration w known y k (Declared p.path n)) one
        (subst (λ (x : Package). IsBoundToDeclaration w known x t.user (Declared p.path n)) same t.bound))

    by_token : (i : ℕ) (e : Edit) → RenamesToken source.0 h.rename.edits.renamed i e → e.span.start ≡ place.offset → IsBoundToImport y u
    by_token i e k start =
        let begun : k.token.span.start ≡ place.offset = sym (ap (λ (x : Edit). x.span.start) k.is_edit) ∙ start in
        let here : record { path = source.0.path; offset = k.token.span.start } ≡ place =
        place_is (record { path = source.0.path; offset = k.token.span.start }) place source.1.1 begun in
        replaced (use_of_alone w known (Declared p.path n) h.rename.set
        (own_alone (IsCheckedPackage w known) (Declared p.path n) h.rename.set h.rename.is_set (λ m. m)) place
        ((h.rename.edits.is_renamed.uses.each place).0 (subst (Contains h.rename.edits.renamed.places) here k.among)))

    by_kind : (i : ℕ) (e : Edit) → IsEditAt source.0 h.rename.edits.renamed i e → e.span.start ≡ place.offset → e.span.start < e.span.end → IsBoundToImport y u
    by_kind i e (inl k) start less =
        absurd (empty_span e.span.start e.span.end k.token.span.start (ap (λ (x : Span). x.start) k.span) (ap (λ (x : Span). x.end) k.span) less)
    by_kind i e (inr k) start less = by_token i e k start

    by_edit : (e : Edit) → Contains (edits_by (change_of s place.path)) e → replaces_at place.offset e ≡ true → IsBoundToImport y u
    by_edit e has test =
        let there : Contains (edits_by (change_of s source.0.path)) e = subst (λ k. Contains (edits_by (change_of s k)) e) (sym source.1.1) has in
        let at = (are.each e).0 there in
        by_kind at.0 e at.1 (eqb-true e.span.start place.offset (and_first (e.span.start == place.offset) (nat_lt e.span.start e.span.end) test))
        (ltb-true e.span.start e.span.end (and_second (e.span.start == place.offset) (nat_lt e.span.start e.span.end) test))

    by_found : (IsBoundToImport y u → ⊥) → (old : List ℕ) (o : Option Edit) → find (replaces_at place.offset) (edits_by (change_of s place.path)) ≡ o →
        r.called place old ≡ old
    by_found other old None e = ap (text_or old) e
    by_found other old (Some x) e =
        let k = found_in (replaces_at place.offset) (edits_by (change_of s place.path)) x e in absurd (other (by_edit x k.0 k.1))

  pub keeps_names : KeepsOtherNames w known r
  keeps_names y is u place begins other clause old =
      by_found y is u place begins other old (find (replaces_at place.offset) (edits_by (change_of s place.path))) refl

  pub members : (y : Package) → IsCheckedPackage w known y → (u : ℕ) (place : Place) → BeginsAt y place.path place.offset u →
      StaysByMember w known r y u place × StaysByName w known r y u place
  members y is u place begins = (
    use_kept w known r keeps_names h.rename.sound h.rename.right y is u place begins,
    name_kept w known r keeps_names h.rename.sound h.rename.right y is u place begins,
  )
