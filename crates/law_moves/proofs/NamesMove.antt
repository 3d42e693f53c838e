-- The names and tokens of a package after a move.
use Rattle.std.proofs.Common.{ℕ, ◌≡◌, ◌<◌, ◌⊎◌, inl, inr, true, false, List, [], ◌∷◌, Option, Some, None, cond, length, map, refl, sym, ap, subst, ◌∙◌}
use Rattle.std.proofs.Common.{arith}
use Rattle.std.specs.Prelude.{Contains, bytes_eq, option_map, slice_get, unwrap_or}
use Rattle.std.specs.Cmp.Lexicographic.{bytes_decides}
use Rattle.std.proofs.lemmas.Bool.{cases_Bool, cases_lt, false_from_ne_true, true≢false}
use Rattle.std.proofs.lemmas.Option.{none-some, same_Some, slice_get-map}
use Rattle.base_lemmas.proofs.Elements.{nothing_in, first_in}
use Rattle.base_files.specs.Packages.{package_files}
use Rattle.base_files.specs.Workspace.{Workspace}
use Rattle.base_files.specs.declared.fault_kind.FaultKind.TheVariants as kind
use Rattle.base_files.specs.declared.place.Place.{Place}
use Rattle.base_edits.specs.EditSet.{FileChanges, change_of}
use Rattle.base_edits.specs.Fits.{path_after}
use Rattle.base_edits.specs.Moved.{edits_by, moved_offset}
use Rattle.base_edits.specs.Revisions.{PackageMovesTo}
use Rattle.base_edits.specs.RevisionsOfEdits.{new_name_at, revision_of}
use Rattle.base_edits.specs.declared.edit.Edit.{Edit}
use Rattle.go_scanner.specs.declared.piece.Piece.{Piece}
use Rattle.go_scanner.specs.CutText.{tokens_in}
use Rattle.go_ast.specs.SourceFile.{SourceFile, FileParts, source_of, offset_of, spelling_of}
use Rattle.go_scope.specs.declared.model.Block.TheVariants.{Universe, File, Inner}
use Rattle.go_scope.specs.declared.model.Position.{Position}
use Rattle.go_scope.specs.declared.model.Purpose.TheVariants as purpose
use Rattle.go_scope.specs.declared.model.Role.{Role}
use Rattle.go_scope.specs.declared.model.Role.TheVariants.{Use, Declaring, LeftName, Implied, NotLexical}
use Rattle.go_scope.specs.Bindings.{Layout, AllCount, IsBoundTo, IsImport, use_bound, own, block_of, is_implied, is_left_name, is_use, may_declare}
use Rattle.go_scope.specs.FileSites.{universe}
use Rattle.go_scope.specs.Named.{is_unnamed_import}
use Rattle.go_scope.specs.Numbering.{IsLexical, is_lexical}
use Rattle.go_scope.specs.Packages.{scoped}
use Rattle.go_scope.specs.Site.{Site}
use Rattle.go_scope.specs.Table.{LiesAt}
use Rattle.law_changed_types.specs.SameBindings.{trees_of, paths_of}
use Rattle.law_tokens.proofs.Ordered.{same_length}
use Rattle.law_tokens.proofs.OwnPaths.{part_at}
use Rattle.law_moves.specs.OneNewName.{AreRenamedTo}
use Rattle.law_moves.proofs.NearFiles.{bound_lexical}
use Rattle.law_rename.proofs.Exactness.{same_bytes}
use Rattle.workspace_graph.specs.FileImports.{import_literals}
use Rattle.workspace_graph.specs.Packages.{PackageImports}
use Rattle.types_declared.proofs.ByteKeys.{cases_bytes}
use Rattle.types_declared.specs.Files.{HasLiteral}
use Rattle.types_declared.specs.Laid.{literal_of}
use Rattle.types_declared.specs.Package.{Package, spelled, spelled_at}
use Rattle.types_declared.specs.Written.{DeclaresImport}
use Rattle.workspace_check.specs.Verdicts.{Verdicts}
use Rattle.workspace_check.proofs.OnePackage.{layout_formed}
use Rattle.workspace_check.proofs.PackageFiles.{in_folder, package_file}
use Rattle.refs_binding.specs.DeclaringPlaces.{TokenBegins}
use Rattle.refs_binding.specs.Identifiers.{BeginsAt, IsInFiles, IsNameToken, NameBegins, file_of}
use Rattle.refs_binding.specs.Uses.{IsCheckedPackage}
use Rattle.refs_lookup.proofs.Faultless.{no_fault_later}
use Rattle.refs_lookup.proofs.OnePlace.{same_files, same_size as same_size_in}
use Rattle.types_resolve.specs.Scoping.{fault_at}
use Rattle.refactor_move.specs.declared.moved.Moved.{Moved}
use Rattle.law_faultless.proofs.Declared.{given, kept, may_within, new_site, old_site, role_is, sites}
use Rattle.law_faultless.proofs.Numbers.{IsKept, IsTold, laid, plain, universal}
use Rattle.law_faultless.proofs.TypesDecided.{string_class}
use Rattle.law_renamed_workspaces.specs.Layouts.{IsToken}
use Rattle.law_renamed_workspaces.proofs.NameTokens.{named_as_spelled}
use Rattle.law_renamed_workspaces.proofs.OwnNames.{identifies, in_universe, role_inside}
use Rattle.law_renamed_workspaces.proofs.ScopedAgain.{imported}
use Rattle.law_renamed_workspaces.proofs.Standing.{IsLaid, StandsAtName, declared_stands, laid_literal, use_stands}
use Rattle.law_renamed_workspaces.specs.ScopedPackages.{HasMovedTokens}
use Rattle.law_moves.specs.Moves.{IsMove, moved_entry}
use Rattle.law_moves.specs.MovedPackages.{name_after}
use Rattle.law_moves.specs.Replacements.{is_replaced, new_piece}
use Rattle.law_moves.proofs.Clauses.{IsNameAt}
use Rattle.law_moves.proofs.Literals.{are, literal_back, literal_moves, string_edit}
use Rattle.law_moves.proofs.MovedFiles.{file_there}
use Rattle.law_moves.proofs.MoveEdits.{edits, is_file}
use Rattle.law_moves.proofs.NewFiles.{imported_there, new_parts}
use Rattle.law_moves.proofs.NewLayout.{file_at, moved_paths, same_trees, source_at}
use Rattle.law_moves.proofs.NewSpelled.{IsWordClass, is_piece, offset_moved, other_kept, spelled_kept, token_of}
use Rattle.law_moves.proofs.OneEdit.{name_kept}
use Rattle.law_moves.specs.ThereMoved.{HasMovedImports, IsFollowingImport, IsMovedWith, IsThereMoved, ScopedPackagesMove, followed_name}
use Rattle.law_moves.proofs.AfterMove.{after, bare_after, checked, checked_name, goes, goes_by, is_checked, is_scoped, layout_same, m}
use Rattle.law_moves.proofs.AfterMove.{moved, new_name, new_name_is, old_name, old_value, size_same, universe_same, v}
use Rattle.law_moves.proofs.ImportTokens.{declares_name, has_path, literal_among, to_plain}
use Rattle.law_moves.proofs.NamesAt.{called_so, name_put, name_stays, name_token}
use Rattle.law_renamed_workspaces.proofs.There.{first_file}

split_lexical : (r : Role) → is_lexical r ≡ true → (is_use r ≡ true) ⊎ (may_declare r ≡ true)
split_lexical Use e = inl refl
split_lexical (Declaring b s) e = inr refl
split_lexical (LeftName b s) e = inr refl
split_lexical (Implied b s) e = inr refl
split_lexical (NotLexical p) e = absurd (true≢false (sym e))

no_clause_lexical : (r : Role) → is_lexical r ≡ true → r ≡ NotLexical purpose.PackageClause → ⊥
no_clause_lexical r e same = true≢false (sym e ∙ ap is_lexical same)

pub implied_use : (r : Role) → is_implied r ≡ true → is_use r ≡ true → ⊥
implied_use (Implied b s) e k = true≢false (sym k)
implied_use Use e k = true≢false (sym e)
implied_use (Declaring b s) e k = true≢false (sym e)
implied_use (LeftName b s) e k = true≢false (sym e)
implied_use (NotLexical p) e k = true≢false (sym e)

pub implied_left : (r : Role) → is_implied r ≡ true → is_left_name r ≡ true → ⊥
implied_left (Implied b s) e k = true≢false (sym k)
implied_left Use e k = true≢false (sym e)
implied_left (Declaring b s) e k = true≢false (sym e)
implied_left (LeftName b s) e k = true≢false (sym e)
implied_left (NotLexical p) e k = true≢false (sym e)

unnamed_may : (r : Role) → is_unnamed_import r ≡ true → may_declare r ≡ true → ⊥
unnamed_may (NotLexical purpose.UnnamedImport) e k = true≢false (sym k)
unnamed_may r e k = true≢false (sym e)

-- In a workspace without faults no declaration is repeated.
pub all_count : (w : Workspace) (known : Verdicts) (from to : List ℕ) (s : FileChanges) → IsMove w known from to s → (p : Package) →
    IsCheckedPackage w known p → AllCount p.layout p.names
all_count w known from to s h p is d declares = record {
  declares = declares;
  first = λ e also named displaces.
      no_fault_later w h.sound known h.right p is (fault_at p.layout d kind.Repeated)
      (inl (inl (inl (
        d,
        may_within w known p.path p is.is_checked d declares.may,
        inr (inl (record { at = refl; repeats = inl (declares, λ counts. counts.first e also named displaces) })),
      ))));
}

module _ (w : Workspace) (known : Verdicts) (from to : List ℕ) (s : FileChanges) (h : IsMove w known from to s) (p : Package)
    (is : IsCheckedPackage w known p) where
  abbrev pub q : Package
  q = moved w known from to s h p is

  abbrev pub move : Moved
  move = m w known from to s h

  abbrev pub ts : List FileParts
  ts = is.is_checked.files

  abbrev path_of : FileParts → List ℕ
  path_of t = unwrap_or (path_after s t.path) t.path

  -- the tree of a file
  pub tree_at : (k : ℕ) (f : SourceFile) → slice_get p.files k ≡ Some f → (t : FileParts) × ((slice_get ts k ≡ Some t) × (source_of t ≡ f))
  tree_at k f e = part_at ts k f (subst (λ fs. slice_get fs k ≡ Some f) (same_files w known p.path p is.is_checked) e)

  spelled_new : (k : ℕ) (t : FileParts) → slice_get ts k ≡ Some t → (i : ℕ) → spelled q k i ≡ spelling_of (source_of (new_parts s t)) i
  spelled_new k t e i = ap (λ o. spelled_at o i) (file_at s ts k (Some t) e)

  spelled_old : (k : ℕ) (t : FileParts) → slice_get ts k ≡ Some t → (i : ℕ) → spelled p k i ≡ spelling_of (source_of t) i
  spelled_old k t e i = ap (λ o. spelled_at o i) (source_at w known from to s h p is k t e)

  module _ (k : ℕ) (t : FileParts) (e : slice_get ts k ≡ Some t) where
    abbrev f : SourceFile
    f = source_of t

    at : slice_get p.files k ≡ Some f
    at = source_at w known from to s h p is k t e

    abbrev es : List Edit
    es = edits w known from to s h p is k f at

    abbrev NameAt : ℕ → Type 0
    NameAt i = IsNameAt w known from to s h p is k f at (path_of t) i

    name_at : (i : ℕ) → IsNameToken (slice_get (tokens_in f.cut) i) → NameAt i
    name_at i named = let x = name_token (slice_get (tokens_in f.cut) i) named in record { piece = x.0; held = x.1.0; is_name = x.1.1 }

    -- a name is called afterwards as the change has it
    token_called : (i : ℕ) (place : Place) → IsNameToken (slice_get (tokens_in f.cut) i) → TokenBegins (Some f) i place →
        spelled q k i ≡ new_name_at s place (spelled p k i)
    token_called i place named begins =
        spelled_new k t e i ∙ sym (called_so w known from to s h p is k f at (path_of t) i (name_at i named) place begins)
        ∙ ap (new_name_at s place) (sym (spelled_old k t e i))

    name_there : (i : ℕ) → IsNameToken (slice_get (tokens_in f.cut) i) → IsNameToken (slice_get (tokens_in (source_of (new_parts s t)).cut) i)
    name_there i named =
        let x = name_token (slice_get (tokens_in f.cut) i) named in
        let good = are w known from to s h p is k f at (path_of t) in
        let held : slice_get (tokens_in (source_of (new_parts s t)).cut) i ≡ Some (new_piece es x.0) =
        token_of (path_of t) f es (is_file w known from to s h p is k f at) good i ∙ ap (option_map (new_piece es)) x.1.0 in
        subst IsNameToken (sym held) (name_kept x.0.class (is_replaced es x.0) x.1.1)

    -- what is neither a name nor the literal of an import stays as it is
    other_by : (i : ℕ) → (IsNameToken (slice_get (tokens_in f.cut) i) → ⊥) → (Contains (import_literals f.tree) i → ⊥) → (o : Option Piece) →
        slice_get (tokens_in f.cut) i ≡ o → spelling_of (source_of (new_parts s t)) i ≡ spelling_of f i
    other_by i no_name no_literal None at_token =
        other_kept (path_of t) f es (is_file w known from to s h p is k f at) (are w known from to s h p is k f at (path_of t)) i
        (λ x held word. none-some x (sym at_token ∙ held))
    other_by i no_name no_literal (Some x) at_token = elim (string_class x.class) [
      | inl string ↦
          let good = are w known from to s h p is k f at (path_of t) in
          let file = is_file w known from to s h p is k f at in
          spelled_kept (path_of t) f es file good i x at_token (is_piece (path_of t) f es file good i x at_token (inr string))
          (λ edit has same. no_literal (string_edit w known from to s h p is k f at (path_of t) i x at_token string edit has same).is_import)
      | inr not ↦
          other_kept (path_of t) f es (is_file w known from to s h p is k f at) (are w known from to s h p is k f at (path_of t)) i
          (λ y held word.
          let same : x ≡ y = same_Some x y (sym at_token ∙ held) in
          elim (subst (λ (z : Piece). IsWordClass z.class) (sym same) word) [
            | inl name ↦ no_name (subst IsNameToken (sym at_token) name)
            | inr string ↦ not string
          ])
    ]

  -- tokens

  tokens_are : (at : Position) (place : Place) → IsToken p at place → spelled q at.file at.index ≡ new_name_at s place (spelled p at.file at.index)
  tokens_are at place token =
      let t = tree_at at.file token.file token.of_rank in
      let begins : TokenBegins (Some token.file) at.index place = subst (λ o. TokenBegins o at.index place) token.of_rank token.begins in
      token_called at.file t.0 t.1.0 at.index place
      (subst (λ (x : SourceFile). IsNameToken (slice_get (tokens_in x.cut) at.index)) (sym t.1.1) token.is_name)
      (subst (λ (x : SourceFile). TokenBegins (Some x) at.index place) (sym t.1.1) begins)

  others_are : (at : Position) (f : SourceFile) → slice_get p.files at.file ≡ Some f → (IsNameToken (slice_get (tokens_in f.cut) at.index) → ⊥) →
      (Contains (import_literals f.tree) at.index → ⊥) → spelled q at.file at.index ≡ spelled p at.file at.index
  others_are at f of_rank no_name no_literal =
      let t = tree_at at.file f of_rank in
      spelled_new at.file t.0 t.1.0 at.index
      ∙ other_by at.file t.0 t.1.0 at.index
      (λ named. no_name (subst (λ (x : SourceFile). IsNameToken (slice_get (tokens_in x.cut) at.index)) t.1.1 named))
      (λ literal. no_literal (subst (λ (x : SourceFile). Contains (import_literals x.tree) at.index) t.1.1 literal))
      (slice_get (tokens_in (source_of t.0).cut) at.index) refl
      ∙ sym (spelled_old at.file t.0 t.1.0 at.index)

  -- where tokens begin

  token_moves : (k i : ℕ) (place : Place) → TokenBegins (slice_get p.files k) i place → TokenBegins (slice_get q.files k) i ((revision_of w s).moved place)
  token_moves k i place b = by_file (slice_get p.files k) refl b
    where
      by_file : (o : Option SourceFile) → slice_get p.files k ≡ o → TokenBegins o i place →
          TokenBegins (slice_get q.files k) i ((revision_of w s).moved place)
      by_file None e b = absurd b
      by_file (Some f) e b =
          let t = tree_at k f e in
          let x = source_of t.0 in
          let own : TokenBegins (Some x) i place = subst (λ (y : SourceFile). TokenBegins (Some y) i place) (sym t.1.1) b in
          let here = source_at w known from to s h p is k t.0 t.1.0 in
          let offset = offset_moved (path_of t.0) x (edits w known from to s h p is k x here) (is_file w known from to s h p is k x here)
          (are w known from to s h p is k x here (path_of t.0)) i in
          subst (λ o. TokenBegins o i ((revision_of w s).moved place)) (sym (file_at s ts k (Some t.0) t.1.0))
          (by_path t.0 place own.0 (offset_of (source_of (new_parts s t.0)) i) (offset_of x i) offset own.1)
        where
          by_path : (t : FileParts) (place : Place) → t.path ≡ place.path → (new old : ℕ) → new ≡ moved_offset (edits_by (change_of s t.path)) old →
              old ≡ place.offset → (path_of t ≡ ((revision_of w s).moved place).path) × (new ≡ ((revision_of w s).moved place).offset)
          by_path t place path new old moves offset = (
            ap (λ (z : List ℕ). unwrap_or (path_after s z) z) path,
            moves ∙ ap (λ (z : List ℕ). moved_offset (edits_by (change_of s z)) old) path
                ∙ ap (moved_offset (edits_by (change_of s place.path))) offset,
          )

  inside_new : (u : ℕ) → IsInFiles p u → IsInFiles q u
  inside_new u i = (
    subst (λ n. u < n) (sym (size_same w known from to s h p is)) i.0,
    subst (λ (l : Layout). is_implied (l.role u) ≡ false) (sym (layout_same w known from to s h p is)) i.1,
  )

  begins_moved : (u : ℕ) (place : Place) → BeginsAt p place.path place.offset u →
      BeginsAt q ((revision_of w s).moved place).path ((revision_of w s).moved place).offset u
  begins_moved u place b =
      let at = p.layout.place u in
      let token = token_moves at.file at.index place (name_begins (file_of p u) at.index place b.1) in
      let x = by_file (file_of p u) refl b.1 token in (
        inside_new u b.0,
        subst (λ (l : Layout). NameBegins (slice_get q.files (l.place u).file) (l.place u).index ((revision_of w s).moved place).path
            ((revision_of w s).moved place).offset) (sym (layout_same w known from to s h p is)) x,
      )
    where
      name_begins : (o : Option SourceFile) (i : ℕ) (place : Place) → NameBegins o i place.path place.offset → TokenBegins o i place
      name_begins None i place b = absurd b
      name_begins (Some f) i place b = (b.1, b.2)

      by_file : (o : Option SourceFile) → slice_get p.files (p.layout.place u).file ≡ o → NameBegins o (p.layout.place u).index place.path place.offset →
          TokenBegins (slice_get q.files (p.layout.place u).file) (p.layout.place u).index ((revision_of w s).moved place) →
          NameBegins (slice_get q.files (p.layout.place u).file) (p.layout.place u).index ((revision_of w s).moved place).path
          ((revision_of w s).moved place).offset
      by_file None e b token = absurd b
      by_file (Some f) e b token =
          let at = p.layout.place u in
          let t = tree_at at.file f e in
          let named = name_there at.file t.0 t.1.0 at.index
          (subst (λ (x : SourceFile). IsNameToken (slice_get (tokens_in x.cut) at.index)) (sym t.1.1) b.0) in
          let file = file_at s ts at.file (Some t.0) t.1.0 in
          let here : TokenBegins (Some (source_of (new_parts s t.0))) at.index ((revision_of w s).moved place) =
          subst (λ o. TokenBegins o at.index ((revision_of w s).moved place)) file token in
          subst (λ o. NameBegins o at.index ((revision_of w s).moved place).path ((revision_of w s).moved place).offset) (sym file) (named, here.0, here.1)

  pub has_moved : HasMovedTokens (revision_of w s) p q
  has_moved = record { tokens = λ at place b. token_moves at.file at.index place b; names = begins_moved }

  -- names of identifiers

  named_new : (u : ℕ) → IsInFiles p u → (t : FileParts) → slice_get ts (p.layout.place u).file ≡ Some t →
      IsNameToken (slice_get (tokens_in t.cut) (p.layout.place u).index) → q.names u ≡ spelled q (p.layout.place u).file (p.layout.place u).index
  named_new u i t e named =
      let at = p.layout.place u in
      let x = source_of (new_parts s t) in
      let place : q.layout.place u ≡ at = ap (λ (l : Layout). l.place u) (layout_same w known from to s h p is) in
      let file : slice_get q.files (q.layout.place u).file ≡ Some x =
      ap (λ (a : Position). slice_get q.files a.file) place ∙ file_at s ts at.file (Some t) e in
      let there = name_there at.file t e at.index named in
      named_as_spelled (v w known from to s h) (after w known from to s h) (goes w known from to s h p.path) (checked w known from to s h p is)
      (is_checked w known from to s h p is) u (inside_new u i) x file
      (subst (λ (a : Position). IsNameToken (slice_get (tokens_in x.cut) a.index)) (sym place) there)
      ∙ ap (λ (a : Position). spelling_of x a.index) place ∙ sym (spelled_new at.file t e at.index)

  pub named_old : (u : ℕ) → IsInFiles p u → (f : SourceFile) → slice_get p.files (p.layout.place u).file ≡ Some f →
      IsNameToken (slice_get (tokens_in f.cut) (p.layout.place u).index) → p.names u ≡ spelled p (p.layout.place u).file (p.layout.place u).index
  named_old u i f e named =
      named_as_spelled w known p.path p is.is_checked u i f e named ∙ sym (ap (λ o. spelled_at o (p.layout.place u).index) e)

  name_called : (u : ℕ) (place : Place) → IsInFiles p u → (o : Option SourceFile) → slice_get p.files (p.layout.place u).file ≡ o →
      NameBegins o (p.layout.place u).index place.path place.offset → q.names u ≡ new_name_at s place (p.names u)
  name_called u place i None e b = absurd b
  name_called u place i (Some f) e b =
      let at = p.layout.place u in
      let t = tree_at at.file f e in
      let named : IsNameToken (slice_get (tokens_in t.0.cut) at.index) =
      subst (λ (x : SourceFile). IsNameToken (slice_get (tokens_in x.cut) at.index)) (sym t.1.1) b.0 in
      named_new u i t.0 t.1.0 named
      ∙ token_called at.file t.0 t.1.0 at.index place named (subst (λ (x : SourceFile). TokenBegins (Some x) at.index place) (sym t.1.1) (b.1, b.2))
      ∙ ap (new_name_at s place) (sym (named_old u i f e b.0))

  pub called : (u : ℕ) (place : Place) → BeginsAt p place.path place.offset u → q.names u ≡ new_name_at s place (p.names u)
  called u place b = name_called u place b.0 (file_of p u) refl b.1

  -- imports

  pub among : (u : ℕ) → u < p.size → (r : List ℕ) → (i : DeclaresImport p u r) →
      Contains (import_literals i.of_path.source.tree) (p.layout.place (literal_of p.layout u)).index
  among u lt r i = literal_among w known p.path p is.is_checked u lt i.is_import i.of_path.source i.of_path.is_file i.of_path.has_literal.is_string

  pub import_may : (r : Role) (f : ℕ) → block_of r ≡ File f → may_declare r ≡ true
  import_may (Declaring b s) f e = refl
  import_may (LeftName b s) f e = refl
  import_may (Implied b s) f e = refl
  import_may Use f e = let z : Universe ≡ File f = e in cc
  import_may (NotLexical p) f e = let z : Universe ≡ File f = e in cc

  pub import_within : (u : ℕ) → IsImport p.layout u → u < p.size
  import_within u i = may_within w known p.path p is.is_checked u (import_may (p.layout.role u) i.0 i.1)

  abbrev token : ℕ → ℕ
  token u = (p.layout.place (literal_of p.layout u)).index

  imports_moved : (u : ℕ) (r : List ℕ) → DeclaresImport p u r → DeclaresImport q u (goes w known from to s h r)
  imports_moved u r i =
      let k = (p.layout.place u).file in
      let f = i.of_path.source in
      let t = tree_at k f i.of_path.is_file in
      let x = source_of t.0 in
      let here = source_at w known from to s h p is k t.0 t.1.0 in
      let l : HasLiteral x (token u) r = subst (λ (y : SourceFile). HasLiteral y (token u) r) (sym t.1.1) i.of_path.has_literal in
      let a : Contains (import_literals x.tree) (token u) =
      subst (λ (y : SourceFile). Contains (import_literals y.tree) (token u)) (sym t.1.1) (among u (import_within u i.is_import) r i) in
      let new = literal_moves w known from to s h p is k x here (path_of t.0) (token u) r a l in
      let l_same = sym (layout_same w known from to s h p is) in
      record {
        is_import = subst (λ (y : Layout). IsImport y u) l_same i.is_import;
        of_path = record {
          source = source_of (new_parts s t.0);
          is_file = subst (λ (y : Layout). slice_get q.files (y.place u).file ≡ Some (source_of (new_parts s t.0))) l_same
              (file_at s ts k (Some t.0) t.1.0);
          has_literal = subst (λ (y : Layout). HasLiteral (source_of (new_parts s t.0)) (y.place (literal_of y u)).index (goes w known from to s h r))
              l_same new;
        };
      }

  imports_back : (u : ℕ) (x : List ℕ) → DeclaresImport q u x → (r : List ℕ) × (DeclaresImport p u r × (x ≡ goes w known from to s h r))
  imports_back u x i =
      let l = layout_same w known from to s h p is in
      let import : IsImport p.layout u = subst (λ (y : Layout). IsImport y u) l i.is_import in
      let k = (p.layout.place u).file in
      let file : slice_get q.files k ≡ Some i.of_path.source =
      subst (λ (y : Layout). slice_get q.files (y.place u).file ≡ Some i.of_path.source) l i.of_path.is_file in
      let literal : HasLiteral i.of_path.source (token u) x =
      subst (λ (y : Layout). HasLiteral i.of_path.source (y.place (literal_of y u)).index x) l i.of_path.has_literal in
      by_part import k refl i.of_path.source file literal
    where
      by_part : IsImport p.layout u → (k : ℕ) → (p.layout.place u).file ≡ k → (g : SourceFile) → slice_get q.files k ≡ Some g → HasLiteral g (token u) x →
          (r : List ℕ) × (DeclaresImport p u r × (x ≡ goes w known from to s h r))
      by_part import k is_k g file literal =
          let n = part_at (map (new_parts s) ts) k g file in
          by_old (slice_get ts k) refl n.0 (sym (slice_get-map (new_parts s) ts k) ∙ n.1.0)
          (subst (λ (y : SourceFile). HasLiteral y (token u) x) (sym n.1.1) literal)
        where
          by_old : (o : Option FileParts) → slice_get ts k ≡ o → (y : FileParts) → option_map (new_parts s) o ≡ Some y →
              HasLiteral (source_of y) (token u) x → (r : List ℕ) × (DeclaresImport p u r × (x ≡ goes w known from to s h r))
          by_old None e y same l = absurd (none-some y same)
          by_old (Some t) e y same l =
              let here = source_at w known from to s h p is k t e in
              let new : HasLiteral (source_of (new_parts s t)) (token u) x =
              subst (λ (z : FileParts). HasLiteral (source_of z) (token u) x) (sym (same_Some (new_parts s t) y same)) l in
              let old = (old_value w known from to s h p is k t e (token u) x new).1.is_string in
              let at_file : slice_get p.files (p.layout.place u).file ≡ Some (source_of t) =
              subst (λ j. slice_get p.files j ≡ Some (source_of t)) (sym is_k) here in
              let a = literal_among w known p.path p is.is_checked u (import_within u import) import (source_of t) at_file old in
              let r = literal_back w known from to s h p is k (source_of t) here (path_of t) (token u) x a new in (
                r.old,
                (
                  record { is_import = import; of_path = record { source = source_of t; is_file = at_file; has_literal = r.was } },
                  r.goes_there,
                ),
              )

  pub has_moved_imports : HasMovedImports move p q
  has_moved_imports = record {
    moved = λ u r i. subst (DeclaresImport q u) (sym (goes_by w known from to s h r)) (imports_moved u r i);
    back = λ u x i.
        let r = imports_back u x i in
        (r.0, (r.1.0, r.1.1 ∙ sym (goes_by w known from to s h r.0)));
  }

  -- an identifier whose name is looked up

  abbrev pub checked_old : ℕ → Type 0
  checked_old u = IsLaid w known p.path p is.is_checked u

  -- it stands at a name, or is an import without a name
  laid_or_not : (u : ℕ) → checked_old u ⊎ (checked_old u → ⊥)
  laid_or_not u = elim (cases_Bool (is_unnamed_import (old_site w known p.path p is.is_checked u).role)) [
    | inr not ↦ inr (λ bare_one. true≢false (sym bare_one.0 ∙ not))
    | inl bare ↦ by_given bare (given w known p.path p is.is_checked u) refl
  ]
    where
      by_given : is_unnamed_import (old_site w known p.path p is.is_checked u).role ≡ true → (o : Option (List ℕ)) →
          given w known p.path p is.is_checked u ≡ o → checked_old u ⊎ (checked_old u → ⊥)
      by_given bare None e = inr (λ bare_one. none-some bare_one.1.0 (sym e ∙ bare_one.1.1))
      by_given bare (Some name) e = inl (bare, (name, e))

  pub name_or_import : (u : ℕ) → IsLexical p.layout u → u < p.size → is_implied (p.layout.role u) ≡ false →
      StandsAtName p u ⊎ (checked_old u × (may_declare (p.layout.role u) ≡ true))
  name_or_import u lexical lt identifier = elim (split_lexical (p.layout.role u) lexical) [
    | inl use_of ↦ inl (use_stands w known p.path p is.is_checked u lt use_of)
    | inr may ↦ elim (laid_or_not u) [
      | inl bare_one ↦ inr (bare_one, may)
      | inr not ↦ inl (declared_stands w known p.path p is.is_checked u lt may identifier (λ bare_one import. not bare_one))
    ]
  ]

  pub lexical_within : (u : ℕ) → IsLexical p.layout u → u < p.size
  lexical_within u lexical = role_inside w known p.path p is.is_checked u (split_lexical (p.layout.role u) lexical)

  -- predeclared names

  pub predeclared : (u : ℕ) → is_implied (p.layout.role u) ≡ true → u < length universe
  predeclared u implied = elim (cases_lt u (length universe)) [
    | inl lt ↦ lt
    | inr ge ↦ absurd (true≢false (sym implied ∙ identifies w known p.path p is.is_checked u (λ lt. omega (arith, lt, ge))))
  ]

  predeclared_unbound : (u d : ℕ) → is_implied (p.layout.role u) ≡ true → IsImport p.layout d → IsBoundTo p.layout p.names u d → ⊥
  predeclared_unbound u d implied import (use_bound (inl used) x) = implied_use (p.layout.role u) implied used
  predeclared_unbound u d implied import (use_bound (inr left) x) = implied_left (p.layout.role u) implied left.0
  predeclared_unbound u d implied import (own same c) =
      let known_block : block_of (p.layout.role u) ≡ Universe = in_universe w known p.path p is.is_checked u (predeclared u implied) in
      let z : Universe ≡ File import.0 = sym known_block ∙ ap (λ k. block_of (p.layout.role k)) same ∙ import.1 in
      cc

  -- an import without a name

  pub no_left_import : (u : ℕ) → IsImport p.layout u → is_left_name (p.layout.role u) ≡ true → ⊥
  no_left_import u import left =
      let i = (layout_formed w known p.path p is.is_checked).left_inner u left in
      let z : File import.0 ≡ Inner i.0 i.1 i.2 = sym import.1 ∙ i.3 in never import.0 i.0 i.1 i.2 z
    where
      never : (f g a b : ℕ) → File f ≡ Inner g a b → ⊥
      never f g a b e = cc

  abbrev pub Follows : ℕ → Type 0
  Follows d = IsFollowingImport move p d

  pub laid_import : (u : ℕ) → u < p.size → is_implied (p.layout.role u) ≡ false → checked_old u → may_declare (p.layout.role u) ≡ true → IsImport p.layout u
  laid_import u lt identifier is_laid may = by_kind (kept w known p.path p is.is_checked u lt)
    where
      role : p.layout.role u ≡ (new_site w known p.path p is.is_checked u).role
      role = role_is w known p.path p is.is_checked u

      by_kind : IsKept (IsTold 0 is.is_checked.files) universe (given w known p.path p is.is_checked u) (old_site w known p.path p is.is_checked u)
          (new_site w known p.path p is.is_checked u) → IsImport p.layout u
      by_kind (universal r n) = absurd (true≢false (sym (ap is_implied (role ∙ r)) ∙ identifier))
      by_kind (plain e t) =
          absurd (unnamed_may (old_site w known p.path p is.is_checked u).role is_laid.0
          (ap (λ (x : Site). may_declare x.role) e ∙ sym (ap may_declare role) ∙ may))
      by_kind (laid g e r) = (_, ap block_of (role ∙ r))

  pub laid_path : (u : ℕ) → u < p.size → checked_old u → (r : List ℕ) → DeclaresImport p u r →
      (p.names u ≡ (known r).export_data.name) × (q.names u ≡ name_after move r (known r).export_data.name)
  laid_path u lt is_laid r i =
      let c = is.is_checked in
      let size : u < length (scoped ts).sites = subst (λ n. u < n) (same_length (given w known p.path p c) (sites w known p.path p c))
      (subst (λ n. u < n) (same_size_in w known p.path p c) lt) in
      let imports : PackageImports w p.path r = imported w p.path ts c.parsed u size is_laid.0 r (to_plain w known p.path p c u r i) in
      let there = imported_there w known from to s h p.path r imports in (
        declares_name w known p.path p c u lt is_laid.0 r i (known r).export_data.name (old_name w known from to s h p is r imports),
        declares_name (v w known from to s h) (after w known from to s h) (goes w known from to s h p.path) (checked w known from to s h p is)
            (is_checked w known from to s h p is) u (subst (λ n. u < n) (sym (size_same w known from to s h p is)) lt)
            (bare_after w known from to s h p is u is_laid.0) (goes w known from to s h r) (checked_imports u r i)
            (new_name w known from to s h (goes w known from to s h r)) (checked_name w known from to s h p is r imports)
            ∙ new_name_is w known from to s h r there,
      )
    where
      checked_imports : (u : ℕ) (r : List ℕ) → DeclaresImport p u r → DeclaresImport (checked w known from to s h p is) u (goes w known from to s h r)
      checked_imports u r i = let x = imports_moved u r i in record { is_import = x.is_import; of_path = x.of_path }

  follows_at : (r name : List ℕ) → move.name ≡ Some name → r ≡ move.from → (n : List ℕ) → name_after move r n ≡ name
  follows_at r name follows same n =
      ap (λ b. cond b (unwrap_or move.name n) n) ((bytes_decides r move.from).1 same) ∙ ap (λ o. unwrap_or o n) follows

  laid_stays : (u : ℕ) → u < p.size → is_implied (p.layout.role u) ≡ false → checked_old u → may_declare (p.layout.role u) ≡ true →
      ((d : ℕ) → Follows d → IsBoundTo p.layout p.names u d → ⊥) → q.names u ≡ p.names u
  laid_stays u lt identifier is_laid may none =
      same_bytes (q.names u) (p.names u) (λ ne.
      has_path w known p.path p is.is_checked u lt import is_laid.0 is_laid.1.0 is_laid.1.1 (λ r i.
      let x = laid_path u lt is_laid r i in
      ne (x.1 ∙ same_name r i (known r).export_data.name ∙ sym x.0)))
    where
      import : IsImport p.layout u
      import = laid_import u lt identifier is_laid may

      itself : IsBoundTo p.layout p.names u u
      itself = own refl (all_count w known from to s h p is u (record { may = may; is_new = λ left. absurd (no_left_import u import left) }))

      by_name : (r : List ℕ) → DeclaresImport p u r → (n : List ℕ) → (o : Option (List ℕ)) → move.name ≡ o → r ≡ move.from →
          cond true (unwrap_or o n) n ≡ n
      by_name r i n None e same = refl
      by_name r i n (Some name) e same =
          absurd (none u (record {
            follows = e ∙ ap Some (sym (ap (λ o. unwrap_or o []) e));
            imports = subst (DeclaresImport p u) same i;
            unnamed = laid_literal w known p.path p is.is_checked u lt is_laid;
          }) itself)

      same_name : (r : List ℕ) → DeclaresImport p u r → (n : List ℕ) → name_after move r n ≡ n
      same_name r i n = elim (cases_bytes r move.from) [
        | inl same ↦ ap (λ b. cond b (unwrap_or move.name n) n) ((bytes_decides r move.from).1 same) ∙ by_name r i n move.name refl same
        | inr other ↦ ap (λ b. cond b (unwrap_or move.name n) n) (false_from_ne_true (bytes_eq r move.from) (λ e. other ((bytes_decides r move.from).0 e)))
      ]

  -- at a name

  at_name : (u : ℕ) → u < p.size → is_implied (p.layout.role u) ≡ false → StandsAtName p u → (P : List ℕ → Type 0) →
      ((k i : ℕ) (t : FileParts) (e : slice_get ts k ≡ Some t) → (n : NameAt k t e i) →
      LiesAt p.layout (record { file = k; index = i }) u → p.names u ≡ spelling_of (source_of t) i →
      P (spelling_of (source_of (new_parts s t)) i)) → P (q.names u)
  at_name u lt identifier stands P each =
      let at = p.layout.place u in
      let t = tree_at at.file stands.source stands.of_rank in
      let named : IsNameToken (slice_get (tokens_in (source_of t.0).cut) at.index) =
      subst (λ (x : SourceFile). IsNameToken (slice_get (tokens_in x.cut) at.index)) (sym t.1.1) stands.is_name in
      let old : p.names u ≡ spelling_of (source_of t.0) at.index =
      named_old u (lt, identifier) stands.source stands.of_rank stands.is_name ∙ spelled_old at.file t.0 t.1.0 at.index in
      let new : q.names u ≡ spelling_of (source_of (new_parts s t.0)) at.index =
      named_new u (lt, identifier) t.0 t.1.0 named ∙ spelled_new at.file t.0 t.1.0 at.index in
      subst P (sym new) (each at.file at.index t.0 t.1.0 (name_at at.file t.0 t.1.0 at.index named) (identifier, refl, refl) old)

  name_kept_at : (u : ℕ) → IsLexical p.layout u → u < p.size → is_implied (p.layout.role u) ≡ false → StandsAtName p u →
      ((d : ℕ) → Follows d → IsBoundTo p.layout p.names u d → ⊥) → q.names u ≡ p.names u
  unfolding at
  name_kept_at u lexical lt identifier stands none =
      at_name u lt identifier stands (λ n. n ≡ p.names u) (λ k i t e n lies old.
      name_stays w known from to s h p is k (source_of t) (source_at w known from to s h p is k t e) (path_of t) i n u lt lies
      (no_clause_lexical (p.layout.role u) lexical) none ∙ sym old)

  name_put_at : (u d : ℕ) → u < p.size → is_implied (p.layout.role u) ≡ false → StandsAtName p u → Follows d → IsBoundTo p.layout p.names u d →
      q.names u ≡ followed_name move
  unfolding at
  name_put_at u d lt identifier stands follows bound =
      at_name u lt identifier stands (λ n. n ≡ followed_name move) (λ k i t e n lies old.
      name_put w known from to s h p is k (source_of t) (source_at w known from to s h p is k t e) (path_of t) i n u lt lies d follows bound)

  -- together

  keeps : (u : ℕ) → IsLexical p.layout u → ((d : ℕ) → Follows d → IsBoundTo p.layout p.names u d → ⊥) → q.names u ≡ p.names u
  keeps u lexical none = elim (cases_Bool (is_implied (p.layout.role u))) [
    | inl implied ↦ universe_same w known from to s h p is u (predeclared u implied)
    | inr identifier ↦
        let lt = lexical_within u lexical in
        elim (name_or_import u lexical lt identifier) [
          | inl stands ↦ name_kept_at u lexical lt identifier stands none
          | inr bare_one ↦ laid_stays u lt identifier bare_one.0 bare_one.1 none
        ]
  ]

  own_of_laid : (u d : ℕ) → checked_old u → may_declare (p.layout.role u) ≡ true → IsImport p.layout u → IsBoundTo p.layout p.names u d → u ≡ d
  own_of_laid u d is_laid may import (own same c) = same
  own_of_laid u d is_laid may import (use_bound (inl used) x) = absurd (may_use (p.layout.role u) used may)
    where
      may_use : (r : Role) → is_use r ≡ true → may_declare r ≡ true → ⊥
      may_use Use e k = true≢false (sym k)
      may_use (Declaring b s) e k = true≢false (sym e)
      may_use (LeftName b s) e k = true≢false (sym e)
      may_use (Implied b s) e k = true≢false (sym e)
      may_use (NotLexical p) e k = true≢false (sym e)
  own_of_laid u d is_laid may import (use_bound (inr left) x) = absurd (no_left_import u import left.0)

  renames : (u d : ℕ) → Follows d → IsBoundTo p.layout p.names u d → q.names u ≡ followed_name move
  renames u d follows bound = elim (cases_Bool (is_implied (p.layout.role u))) [
    | inl implied ↦ absurd (predeclared_unbound u d implied follows.imports.is_import bound)
    | inr identifier ↦
        let lexical = bound_lexical p.layout p.names u d bound in
        let lt = lexical_within u lexical in
        elim (name_or_import u lexical lt identifier) [
          | inl stands ↦ name_put_at u d lt identifier stands follows bound
          | inr bare_one ↦
              let same : u ≡ d = own_of_laid u d bare_one.0 bare_one.1 (laid_import u lt identifier bare_one.0 bare_one.1) bound in
              let i : DeclaresImport p u move.from = subst (λ k. DeclaresImport p k move.from) (sym same) follows.imports in
              (laid_path u lt bare_one.0 move.from i).1 ∙ follows_at move.from (followed_name move) follows.follows refl (known move.from).export_data.name
        ]
  ]

  are_renamed : AreRenamedTo p.layout p.names Follows (followed_name move) q.names
  are_renamed = record { renamed = renames; kept = keeps }

  moved_with : IsMovedWith move (revision_of w s) p q
  moved_with = record {
    path = sym (goes_by w known from to s h p.path);
    size = size_same w known from to s h p is;
    layout = layout_same w known from to s h p is;
    trees = same_trees s ts ∙ sym (ap trees_of (same_files w known p.path p is.is_checked));
    paths = moved_paths s ts ∙ sym (ap (λ fs. map (λ path. ((revision_of w s).moved (record { path = path; offset = 0 })).path) (paths_of fs))
        (same_files w known p.path p is.is_checked));
    names = are_renamed;
    called = called;
    tokens = tokens_are;
    other_tokens = others_are;
  }

  goes_there : PackageMovesTo w (revision_of w s) p.path q.path
  goes_there =
      let some = package_file w p.path is.of_workspace in
      let first = first_file w p.path some.0 some.1 (package_files w p.path) refl in
      let has : Contains (package_files w p.path) first.0 = subst (λ es. Contains es first.0) (sym first.1.1) (first_in first.0 first.1.0) in
      let new = file_there w known from to s h p.path first.0 has in
      record {
        first = first.0;
        others = first.1.0;
        files = first.1.1;
        goes = sym (in_folder (v w known from to s h) (goes w known from to s h p.path) (moved_entry s first.0) new);
      }

  pub is_there : IsThereMoved w move (revision_of w s) p q
  is_there = record {
    is_scoped = is_scoped w known from to s h p is;
    moved = moved_with;
    imports = has_moved_imports;
    begins = has_moved;
    goes = goes_there;
  }

pub scoped_move : ScopedPackagesMove
scoped_move w known from to s h p is = (moved w known from to s h p is, is_there w known from to s h p is)
