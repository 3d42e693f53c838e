-- The tokens of a package after a plain rename begin where the change moves them, and each declaration of scopes has a place.
use Rattle.std.proofs.Common.{ℕ, ◌≡◌, ◌<◌, List, refl, sym, ap, subst, ◌∙◌}
use Rattle.std.specs.Prelude.{Option, Some, None, option_map, slice_get}
use Rattle.std.proofs.lemmas.Option.{slice_get-map}
use Rattle.base_files.specs.Workspace.{Workspace}
use Rattle.base_files.specs.declared.place.Place.{Place}
use Rattle.base_edits.specs.EditSet.{FileChanges, change_of, edited}
use Rattle.base_edits.specs.Moved.{moved, edits_by}
use Rattle.base_edits.specs.RevisionsOfEdits.{revision_of}
use Rattle.base_edits.specs.declared.edit.Edit.{Edit}
use Rattle.go_scanner.specs.CutText.{tokens_in}
use Rattle.go_scanner.specs.declared.piece.Piece.{Piece}
use Rattle.go_ast.specs.SourceFile.{SourceFile, source_of, offset_of}
use Rattle.go_scope.specs.declared.model.Position.{Position}
use Rattle.go_scope.specs.Bindings.{Layout, IsIdentifier}
use Rattle.go_respelled.specs.Renamings.{moved_piece}
use Rattle.go_respelled.specs.Trees.{renamed_file}
use Rattle.go_respelled.proofs.MovedTokens.{tokens_moved}
use Rattle.types_declared.specs.Laid.{literal_of}
use Rattle.types_declared.specs.Package.{Package}
use Rattle.workspace_check.specs.Verdicts.{Verdicts}
use Rattle.refs_binding.specs.declared.declaration.Declaration.{Declaration}
use Rattle.refs_binding.specs.DeclaringPlaces.{TokenAt, TokenBegins}
use Rattle.refs_binding.specs.Identifiers.{BeginsAt, IsNameToken, NameBegins, file_of}
use Rattle.refs_binding.specs.Uses.{IsCheckedPackage}
use Rattle.refs_lookup.proofs.BoundUsedMembers.{file_at}
use Rattle.law_renamed_workspaces.specs.Layouts.{IsRelaid}
use Rattle.law_renamed_workspaces.specs.Renames.{IsPlainRename}
use Rattle.law_renamed_workspaces.proofs.Replaced as replaced
use Rattle.law_renamed_workspaces.proofs.Apart.{literal_stands, name_token}
use Rattle.law_renamed_workspaces.proofs.FilesAfter.{file_after, token_moves}
use Rattle.law_renamed_workspaces.proofs.Standing.{in_package}
use Rattle.law_renamed_workspaces.specs.ScopedPackages.{HasMovedTokens, DeclarationsHavePlaces}

-- a declaration that counts has a place
pub have_places : DeclarationsHavePlaces
have_places w known p is d counts other =
    let h = is.is_checked in
    let literal = literal_stands w known p.path p h d counts other in
    let at : Position = p.layout.place (literal_of p.layout d) in
    let t = file_at w known p.path p h at (literal_of p.layout d) literal.0 (literal.1, refl, refl) in
    let place : Place = record { path = t.0.path; offset = offset_of (source_of t.0) at.index } in
    (place, subst (λ o. TokenBegins o at.index place) (sym (in_package w known p.path p h at t.0 t.1)) (refl, refl))

-- a name stays a name
moved_name : (edits : List Edit) (o : Option Piece) → IsNameToken o → IsNameToken (option_map (moved_piece edits) o)
moved_name edits None h = absurd h
moved_name edits (Some t) h = h

-- A package that is checked after a plain rename, and was relaid.
module _ (w : Workspace) (known after : Verdicts) (d : Declaration) (name : List ℕ) (s : FileChanges) (h : IsPlainRename w known d name s)
    (p q : Package) (is : IsCheckedPackage w known p) (also : IsCheckedPackage (edited s w) after q) (relaid : IsRelaid (revision_of w s) p q) where
  abbrev edits : SourceFile → List Edit
  edits f = edits_by (change_of s f.path)

  name_there : (k i : ℕ) (f : SourceFile) → slice_get p.files k ≡ Some f → IsNameToken (slice_get (tokens_in f.cut) i) →
      IsNameToken (slice_get (tokens_in (renamed_file (edits f) f).cut) i)
  name_there k i f at named =
      let tokens = tokens_moved f.cut (edits f) (replaced.is_file w known d name s h p is k f at).is_cut (replaced.are w known d name s h p is k f at) in
      subst IsNameToken (sym (ap (λ ts. slice_get ts i) tokens ∙ slice_get-map (moved_piece (edits f)) (tokens_in f.cut) i))
      (moved_name (edits f) (slice_get (tokens_in f.cut) i) named)

  begins_by : (k i : ℕ) (place : Place) (o : Option SourceFile) → slice_get p.files k ≡ o → NameBegins o i place.path place.offset →
      NameBegins (slice_get q.files k) i (moved s place).path (moved s place).offset
  begins_by k i place None e b = absurd b
  begins_by k i place (Some f) e b =
      let new = file_after w known after d name s h p q is also relaid.path k f e in
      let token : TokenAt p (record { file = k; index = i }) place = subst (λ o. TokenBegins o i place) (sym e) (name_token (Some f) i place b) in
      let there : TokenAt q (record { file = k; index = i }) (moved s place) =
      token_moves w known after d name s h p q is also relaid.path (record { file = k; index = i }) place token in
      let begins : TokenBegins (Some (renamed_file (edits f) f)) i (moved s place) = subst (λ o. TokenBegins o i (moved s place)) new there in
      subst (λ o. NameBegins o i (moved s place).path (moved s place).offset) (sym new) (name_there k i f e b.0, begins.0, begins.1)

  begins_moved : (u : ℕ) (place : Place) → BeginsAt p place.path place.offset u → BeginsAt q (moved s place).path (moved s place).offset u
  begins_moved u place b =
      let at = p.layout.place u in
      let new = begins_by at.file at.index place (file_of p u) refl b.1 in (
        (subst (λ n. u < n) (sym relaid.size) b.0.0, subst (λ (l : Layout). IsIdentifier l u) (sym relaid.layout) b.0.1),
        subst (λ (l : Layout). NameBegins (slice_get q.files (l.place u).file) (l.place u).index (moved s place).path (moved s place).offset)
            (sym relaid.layout) new,
      )

  pub moved_tokens : HasMovedTokens (revision_of w s) p q
  moved_tokens = record { tokens = token_moves w known after d name s h p q is also relaid.path; names = begins_moved }
