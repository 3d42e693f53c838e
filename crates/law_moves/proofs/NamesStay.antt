-- A move edits no identifier but names in package clauses and those that are bound to imports. So it leaves the names of all others.
use Rattle.std.proofs.Common.{ℕ, ◌≡◌, ◌<◌, inl, inr, List, Option, Some, None, refl, sym, ap, subst, ◌∙◌}
use Rattle.std.specs.Prelude.{Contains, slice_get, find}
use Rattle.std.proofs.lemmas.Option.{same_Some, get_or_from_slice_get}
use Rattle.base_files.specs.Workspace.{Workspace}
use Rattle.base_files.specs.declared.place.Place.{Place}
use Rattle.base_files.specs.declared.place.Span.{Span}
use Rattle.base_edits.specs.EditSet.{FileChanges, change_of}
use Rattle.base_edits.specs.Moved.{edits_by}
use Rattle.base_edits.specs.RevisionsOfEdits.{revision_of, replaces_at, text_or}
use Rattle.base_edits.specs.declared.edit.Edit.{Edit}
use Rattle.go_scanner.specs.declared.piece.Class.{Class}
use Rattle.go_scanner.specs.declared.piece.Class.TheVariants.{Name, InterpretedString, RawString}
use Rattle.go_scanner.specs.declared.piece.Piece.{Piece}
use Rattle.go_scanner.specs.CutText.{tokens_in}
use Rattle.go_scanner.specs.TokenValues.{IsStringClass}
use Rattle.go_scanner.specs.Tokens.{semicolon}
use Rattle.go_ast.specs.SourceFile.{SourceFile, offset_of}
use Rattle.go_scope.specs.declared.model.Purpose.TheVariants as purpose
use Rattle.go_scope.specs.declared.model.Role.TheVariants.{NotLexical}
use Rattle.go_scope.specs.FileSites.{file_sites}
use Rattle.go_scope.specs.Bindings.{IsBoundTo}
use Rattle.go_scope.specs.Table.{LiesAt}
use Rattle.types_declared.specs.Package.{Package}
use Rattle.workspace_check.specs.Verdicts.{Verdicts}
use Rattle.refs_binding.specs.Identifiers.{BeginsAt, IsNameToken, NameBegins, file_of}
use Rattle.refs_binding.specs.Uses.{IsCheckedPackage}
use Rattle.refs_lookup.proofs.OnePlace.{one_begins}
use Rattle.refactor_move.specs.FileEdits.{IsMoveEditAt, IsImportUse, IsClauseNameToken, ReplacesPath}
use Rattle.refactor_move.specs.declared.moved.Moved.{Moved}
use Rattle.law_faultless.proofs.TypesBound.{Stands, all_kept}
use Rattle.law_moves.specs.Moves.{IsMove}
use Rattle.law_moves.proofs.MoveEdits.{edited_file, edit_of, is_file, k, replaces, replacements, word_of}
use Rattle.law_moves.proofs.NewSpelled.{found_edit, is_piece, one_number}
use Rattle.law_moves.specs.KeptNames.{IsBoundToImport, MovesKeepNames}

named_token : (o : Option Piece) → IsNameToken o → (t : Piece) × ((o ≡ Some t) × (t.class ≡ Name))
named_token None h = absurd h
named_token (Some t) h = (t, (refl, h))

file_at : (o : Option SourceFile) (i : ℕ) (path : List ℕ) (offset : ℕ) → NameBegins o i path offset → (f : SourceFile) × (o ≡ Some f)
file_at None i path offset h = absurd h
file_at (Some f) i path offset h = (f, refl)

no_string : (c : Class) → c ≡ Name → IsStringClass c → ⊥
no_string c e (inl s) = let same : Name ≡ InterpretedString = sym e ∙ s in let z : ⊥ = cc in z
no_string c e (inr s) = let same : Name ≡ RawString = sym e ∙ s in let z : ⊥ = cc in z

module _ (w : Workspace) (known : Verdicts) (from to : List ℕ) (s : FileChanges) (h : IsMove w known from to s) (p : Package)
    (is : IsCheckedPackage w known p) (u : ℕ) (place : Place) (begins : BeginsAt p place.path place.offset u) where
  abbrev rank : ℕ
  rank = (p.layout.place u).file

  abbrev i : ℕ
  i = (p.layout.place u).index

  abbrev m : Moved
  m = h.edits.moved

  in_file : (f : SourceFile) × (file_of p u ≡ Some f)
  in_file = file_at (file_of p u) i place.path place.offset begins.1

  abbrev f : SourceFile
  f = in_file.0

  at : slice_get p.files rank ≡ Some f
  at = in_file.1

  there : NameBegins (Some f) i place.path place.offset
  there = subst (λ o. NameBegins o i place.path place.offset) at begins.1

  abbrev edits : List Edit
  edits = edits_by (change_of s f.path)

  token : (t : Piece) × ((slice_get (tokens_in f.cut) i ≡ Some t) × (t.class ≡ Name))
  token = named_token (slice_get (tokens_in f.cut) i) there.0

  -- an edit of its token replaces the name of a package
  module _ (j : ℕ) (e : Edit) (one : IsMoveEditAt p (k w known from to s h p is rank f at) f m j e) (span : e.span ≡ token.0.span) where
    same_token : j ≡ i
    same_token =
        let good = is_file w known from to s h p is rank f at in
        let are = replacements w known from to s h p is rank f at in
        let d = edit_of w known from to s h p is rank f at j e one in
        let word = word_of w known from to s h p is rank f at j e d in
        one_number f.path f edits good are j i d.token token.0 d.held token.1.0
        (is_piece f.path f edits good are j d.token d.held word)
        (is_piece f.path f edits good are i token.0 token.1.0 (inl token.1.1))
        (ap (λ (x : Span). x.start) (sym d.span ∙ span))

    no_path : ReplacesPath f m j e → ⊥
    no_path r =
        let here : slice_get (tokens_in f.cut) i ≡ Some r.token = subst (λ n. slice_get (tokens_in f.cut) n ≡ Some r.token) same_token r.at in
        let same : r.token ≡ token.0 = same_Some r.token token.0 (sym here ∙ token.1.0) in
        let string : IsStringClass r.token.class =
        subst (λ (x : Piece). IsStringClass x.class) (get_or_from_slice_get (tokens_in f.cut) j r.token (semicolon 0) r.at) r.stands_for.is_string in
        no_string token.0.class token.1.1 (subst (λ (x : Piece). IsStringClass x.class) same string)

  clause_stands : Stands p rank f.tree.name (NotLexical purpose.PackageClause)
  unfolding file_sites
  clause_stands = (all_kept w known p.path p is.is_checked rank f at).0 refl

  -- an identifier of the file that stands at the token begins at the place
  one_there : (v : ℕ) → v < p.size → LiesAt p.layout (record { file = rank; index = i }) v → v ≡ u
  one_there v lt stands =
      let named : NameBegins (slice_get p.files (p.layout.place v).file) (p.layout.place v).index place.path place.offset =
      subst (λ n. NameBegins (slice_get p.files n) (p.layout.place v).index place.path place.offset) (sym stands.1)
      (subst (λ n. NameBegins (slice_get p.files rank) n place.path place.offset) (sym stands.2) begins.1) in
      one_begins w known p.path p is.is_checked place.path place.offset v u ((lt, stands.0), named) begins

  no_edit : (IsBoundToImport p u → ⊥) → (p.layout.role u ≡ NotLexical purpose.PackageClause → ⊥) → (e : Edit) → Contains edits e → e.span ≡ token.0.span → ⊥
  no_edit apart other e has span =
      let x = replaces w known from to s h p is rank f at e has in by_way x.0 x.1
    where
      clause : (j : ℕ) → IsClauseNameToken p f m j → j ≡ i → ⊥
      clause j c same =
          let v = clause_stands in
          let here : LiesAt p.layout (record { file = rank; index = i }) v.0 =
          subst (λ n. LiesAt p.layout (record { file = rank; index = n }) v.0) (c.1 ∙ same) v.1.1.0 in
          other (ap p.layout.role (sym (one_there v.0 v.1.0 here)) ∙ v.1.1.1)

      import_use : (j : ℕ) → IsImportUse p (k w known from to s h p is rank f at) m j → j ≡ i → ⊥
      import_use j r same =
          let v = r.binds.identifier in
          let there = edited_file w known from to s h p is rank f at in
          let stands : LiesAt p.layout (record { file = there.rank_there; index = i }) v =
          subst (λ n. LiesAt p.layout (record { file = there.rank_there; index = n }) v) same r.binds.found.holds in
          let file : slice_get p.files (p.layout.place v).file ≡ slice_get p.files rank = ap (slice_get p.files) stands.1 ∙ there.at_there ∙ sym at in
          let named : NameBegins (slice_get p.files (p.layout.place v).file) (p.layout.place v).index place.path place.offset =
          subst (λ o. NameBegins o (p.layout.place v).index place.path place.offset) (sym file)
          (subst (λ n. NameBegins (slice_get p.files rank) n place.path place.offset) (sym stands.2) begins.1) in
          let one : v ≡ u =
          one_begins w known p.path p is.is_checked place.path place.offset v u ((r.binds.found.within, stands.0), named) begins in
          apart (record { import = r.import; is_import = r.imports.is_import; bound = subst (λ n. IsBoundTo p.layout p.names n r.import) one r.binds.bound })

      by_way : (j : ℕ) → IsMoveEditAt p (k w known from to s h p is rank f at) f m j e → ⊥
      by_way j (inl r) = no_path j e (inl r) span r
      by_way j (inr r) = elim r.names [
        | inl c ↦ clause j c (same_token j e (inr r) span)
        | inr c ↦ import_use j c (same_token j e (inr r) span)
      ]

  none_found : (IsBoundToImport p u → ⊥) → (p.layout.role u ≡ NotLexical purpose.PackageClause → ⊥) → find (replaces_at (offset_of f i)) edits ≡ None
  none_found apart other = by_found (find (replaces_at (offset_of f i)) edits) refl
    where
      by_found : (o : Option Edit) → find (replaces_at (offset_of f i)) edits ≡ o → find (replaces_at (offset_of f i)) edits ≡ None
      by_found None e = e
      by_found (Some x) e =
          let good = is_file w known from to s h p is rank f at in
          let are = replacements w known from to s h p is rank f at in
          let d = found_edit f.path f edits good are i token.0 token.1.0 (is_piece f.path f edits good are i token.0 token.1.0 (inl token.1.1)) x e in
          absurd (no_edit apart other x d.0 d.1)

  kept : (IsBoundToImport p u → ⊥) → (p.layout.role u ≡ NotLexical purpose.PackageClause → ⊥) → (name : List ℕ) → (revision_of w s).called place name ≡ name
  kept apart other name =
      ap (λ n. text_or name (find (replaces_at n) (edits_by (change_of s place.path)))) (sym there.2)
      ∙ ap (λ path. text_or name (find (replaces_at (offset_of f i)) (edits_by (change_of s path)))) (sym there.1)
      ∙ ap (text_or name) (none_found apart other)

pub names_kept : MovesKeepNames
names_kept w known from to s h p is u place begins apart other name = kept w known from to s h p is u place begins apart other name
