-- The imports of a package that get the new name in a move: their names, and that they are renamed at once.
use Rattle.std.proofs.Common.{ℕ, ◌≡◌, ◌⊎◌, inl, inr, true, false, List, [], Option, Some, None, refl, sym, ap, subst, ◌∙◌}
use Rattle.std.specs.Prelude.{slice_get, unwrap_or}
use Rattle.std.proofs.lemmas.Option.{get_or_from_slice_get, none-some, same_Some}
use Rattle.base_files.specs.Workspace.{Workspace}
use Rattle.base_edits.specs.EditSet.{FileChanges}
use Rattle.base_edits.specs.RevisionsOfEdits.{revision_of}
use Rattle.go_scanner.specs.CutText.{tokens_in, token_at}
use Rattle.go_scanner.specs.Tokens.{semicolon}
use Rattle.go_scanner.specs.TokenValues.{IsStringClass}
use Rattle.go_scanner.specs.declared.piece.Piece.{Piece}
use Rattle.go_ast.specs.SourceFile.{SourceFile}
use Rattle.go_scope.specs.declared.model.Block.TheVariants.{Universe, File}
use Rattle.go_scope.specs.Bindings.{Declares, IsImport, is_implied, may_declare}
use Rattle.go_scope.proofs.Uniqueness.{same_or_not}
use Rattle.law_moves.specs.OneNewName.{RenamesImports}
use Rattle.law_moves.proofs.AtOnce.{keep_all}
use Rattle.law_moves.proofs.NearFiles.{may_lexical}
use Rattle.types_declared.proofs.ByteKeys.{cases_bytes}
use Rattle.types_declared.specs.Files.{package_name}
use Rattle.types_declared.specs.Laid.{literal_of}
use Rattle.types_declared.specs.Package.{Package}
use Rattle.types_declared.specs.Written.{DeclaresImport}
use Rattle.types_declared.proofs.Naming.{one_import_path}
use Rattle.workspace_check.specs.Verdicts.{Verdicts}
use Rattle.workspace_check.proofs.OnePackage.{layout_formed}
use Rattle.refs_binding.specs.Identifiers.{IsNameToken}
use Rattle.refs_binding.specs.Uses.{IsCheckedPackage}
use Rattle.refs_binding.proofs.Units.{one_package}
use Rattle.refactor_move.specs.declared.moved.Moved.{Moved}
use Rattle.refactor_move.specs.Paths.{last_of}
use Rattle.law_faultless.proofs.PackageWorlds.{strings_known}
use Rattle.law_faultless.proofs.TypesDecided.{path}
use Rattle.law_renamed_workspaces.proofs.Literals.{no_name}
use Rattle.law_renamed_workspaces.proofs.OwnNames.{identifies, in_universe}
use Rattle.law_renamed_workspaces.proofs.SameBindings.{uses_bound}
use Rattle.law_renamed_workspaces.proofs.Standing.{StandsAtName}
use Rattle.law_moves.specs.Moves.{IsMove}
use Rattle.law_moves.proofs.MoveEdits.{new_name}
use Rattle.law_moves.specs.MoveConflicts.{MovesRenameImports, MovedBindingsAreSame}
use Rattle.law_moves.specs.ThereMoved.{IsFollowingImport, IsMovedWith, followed_name}
use Rattle.law_moves.proofs.AfterMove.{named_package}
use Rattle.law_moves.proofs.NamesAt.{name_token}
use Rattle.law_moves.proofs.NamesMove.{all_count, checked_old, import_may, import_within, laid_path, name_or_import, no_left_import}

module _ (w : Workspace) (known : Verdicts) (from to : List ℕ) (s : FileChanges) (h : IsMove w known from to s) (p : Package)
    (is : IsCheckedPackage w known p) where
  abbrev m : Moved
  m = h.edits.moved

  abbrev Follows : ℕ → Type 0
  Follows d = IsFollowingImport m p d

  not_predeclared : (d : ℕ) → IsImport p.layout d → is_implied (p.layout.role d) ≡ false
  not_predeclared d import = identifies w known p.path p is.is_checked d (λ lt.
      let z : Universe ≡ File import.0 = sym (in_universe w known p.path p is.is_checked d lt) ∙ import.1 in no z)
    where
      no : Universe ≡ File import.0 → ⊥
      no e = cc

  -- a string is no name
  no_string : (d : ℕ) → (i : DeclaresImport p d m.from) → literal_of p.layout d ≡ d → StandsAtName p d → ⊥
  no_string d i unnamed stands =
      let at = p.layout.place d in
      let f = i.of_path.source in
      let same : stands.source ≡ f = same_Some stands.source f (sym stands.of_rank ∙ i.of_path.is_file) in
      let x = name_token (slice_get (tokens_in f.cut) at.index)
      (subst (λ (g : SourceFile). IsNameToken (slice_get (tokens_in g.cut) at.index)) same stands.is_name) in
      let token : token_at f.cut at.index ≡ x.0 = get_or_from_slice_get (tokens_in f.cut) at.index x.0 (semicolon 0) x.1.0 in
      let string : IsStringClass (token_at f.cut at.index).class =
      subst (λ n. IsStringClass (token_at f.cut (p.layout.place n).index).class) unnamed i.of_path.has_literal.is_string in
      no_name x.0.class (subst (λ (y : Piece). IsStringClass y.class) token string) x.1.1

  may : (d : ℕ) → Follows d → may_declare (p.layout.role d) ≡ true
  may d follows = import_may w known from to s h p is (p.layout.role d) follows.imports.is_import.0 follows.imports.is_import.1

  laid : (d : ℕ) → Follows d → checked_old w known from to s h p is d
  laid d follows =
      let import = follows.imports.is_import in
      elim (name_or_import w known from to s h p is d (may_lexical (p.layout.role d) (may d follows)) (import_within w known from to s h p is d import)
      (not_predeclared d import)) [
        | inl stands ↦ absurd (no_string d follows.imports follows.unnamed stands)
        | inr bare_one ↦ bare_one.0
      ]

  -- its name before is that of the package
  named : (d : ℕ) → Follows d → p.names d ≡ (known m.from).export_data.name
  named d follows =
      (laid_path w known from to s h p is d (import_within w known from to s h p is d follows.imports.is_import) (laid d follows) m.from follows.imports).0

  last_name : (d : ℕ) → Follows d → (p.names d ≡ last_of from) × ((followed_name m ≡ last_of from) → ⊥)
  last_name d follows =
      let new = new_name w known from to s h (followed_name m) follows.follows in
      let was = new.0.was in
      let x = named_package w known from to s h from h.is_package in
      let one : was.inside ≡ x.inside = one_package w known was.inside x.inside was.is_package x.is_package (was.of_path ∙ sym x.of_path) in
      let source : m.from ≡ from = h.edits.is_move.source in (
        named d follows ∙ ap (λ q. (known q).export_data.name) source ∙ x.named ∙ ap (λ (y : Package). package_name y.files) (sym one) ∙ was.holds,
        λ same. new.0.other (sym new.1 ∙ same),
      )

  pub other_name : (d : ℕ) → Follows d → p.names d ≡ followed_name m → ⊥
  other_name d follows same = let x = last_name d follows in x.1 (sym same ∙ x.0)

  declared : (d : ℕ) → Follows d → Declares p.layout p.names d
  declared d follows = record {
    may = may d follows;
    is_new = λ left. absurd (no_left_import w known from to s h p is d follows.imports.is_import left);
  }

  by_path : (d : ℕ) → m.name ≡ Some (followed_name m) → literal_of p.layout d ≡ d → Follows d ⊎ (Follows d → ⊥)
  by_path d follows unnamed = elim (path p (layout_formed w known p.path p is.is_checked) (strings_known w h.sound known h.right p is) d) [
    | inr none ↦ inr (λ k. none m.from k.imports)
    | inl found ↦ elim (cases_bytes found.0 m.from) [
      | inl same ↦ inl (record { follows = follows; imports = subst (DeclaresImport p d) same found.1; unnamed = unnamed })
      | inr other ↦ inr (λ k. other (one_import_path p d found.0 m.from found.1 k.imports))
    ]
  ]

  by_name : (d : ℕ) → (o : Option (List ℕ)) → m.name ≡ o → Follows d ⊎ (Follows d → ⊥)
  by_name d None e = inr (λ k. none-some (followed_name m) (sym e ∙ k.follows))
  by_name d (Some name) e = elim (same_or_not (literal_of p.layout d) d) [
    | inl unnamed ↦ by_path d (e ∙ ap Some (sym (ap (λ o. unwrap_or o []) e))) unnamed
    | inr other ↦ inr (λ k. other k.unnamed)
  ]

  pub renames : (q : Package) → IsMovedWith m (revision_of w s) p q → RenamesImports p.layout p.names Follows (followed_name m) q.names
  renames q moved = record {
    well_formed = layout_formed w known p.path p is.is_checked;
    all_count = all_count w known from to s h p is;
    uses_bound = uses_bound w h.sound known h.right p is;
    size = p.size;
    within = λ d follows. import_within w known from to s h p is d follows.imports.is_import;
    decided = λ d. by_name d m.name refl;
    imports = λ d follows. follows.imports.is_import;
    declared = declared;
    other_name = other_name;
    alike = λ d e one other. named d one ∙ sym (named e other);
    renaming = moved.names;
  }

pub rename_imports : MovesRenameImports
rename_imports w known from to s h p is q moved = renames w known from to s h p is q moved

pub same_bindings : MovedBindingsAreSame
same_bindings w known from to s h p is q moved =
    keep_all p.layout p.names (IsFollowingImport h.edits.moved p) (followed_name h.edits.moved) q.names (renames w known from to s h p is q moved)
