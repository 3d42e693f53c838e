-- The files of a package after a move, with their trees, and what packages import and build on.
use Rattle.std.proofs.Common.{ℕ, ◌≡◌, inl, inr, List, [], map, Some, ap, sym, subst, refl}
use Rattle.std.specs.Prelude.{Contains, slice_get, unwrap_or, ◌↔◌}
use Rattle.std.proofs.Math.Path.{ap₂}
use Rattle.base_lemmas.proofs.Elements.{first_in, later_in, is_mapped}
use Rattle.base_files.specs.Packages.{package_files, package_paths}
use Rattle.base_files.specs.Workspace.{Workspace}
use Rattle.base_edits.specs.Edits.{edited_text}
use Rattle.base_edits.specs.EditSet.{FileChanges, change_of, edited}
use Rattle.base_edits.specs.Fits.{path_after}
use Rattle.base_edits.specs.Moved.{edits_by}
use Rattle.go_ast.specs.SourceFile.{FileParts, SourceFile, source_of}
use Rattle.workspace_graph.specs.FileImports.{import_literals}
use Rattle.workspace_graph.specs.Packages.{IsParsed, ImportsPath, PackageImports, IsInClosure, itself, through}
use Rattle.workspace_graph.specs.Parsed.{AreParsed, none, tree}
use Rattle.workspace_graph.proofs.ByPath.{has_file as package_of_file}
use Rattle.workspace_graph.proofs.OneFile.{one_file}
use Rattle.types_declared.specs.Files.{HasLiteral}
use Rattle.types_declared.specs.Package.{Package}
use Rattle.workspace_check.specs.Verdicts.{Verdicts, BuildsOn}
use Rattle.workspace_check.proofs.Closed.{to_package}
use Rattle.workspace_check.proofs.Members.{cases_contains}
use Rattle.refs_binding.specs.Uses.{IsCheckedPackage}
use Rattle.refs_lookup.proofs.OnePlace.{same_files}
use Rattle.refactor_rename.specs.RenameEdits.{IsSourceIn}
use Rattle.law_renamed_workspaces.proofs.Literals.{from_string, to_string}
use Rattle.law_renamed_workspaces.proofs.NameEdits.{ranked}
use Rattle.law_renamed_workspaces.proofs.Packages.{package_there, tree_of}
use Rattle.law_renamed_workspaces.proofs.GoodImports.{imports_are_good}
use Rattle.law_moves.specs.Moves.{IsMove, moved_entry, moved_path}
use Rattle.law_moves.specs.MovedPackages.{PackageImportsMove}
use Rattle.law_moves.specs.Replacements.{AreReplacedPieces, KeepNameKinds, replaced}
use Rattle.law_moves.proofs.Literals.{literal_back, literal_moves}
use Rattle.law_moves.proofs.MovedFiles.{file_there, file_was, files_move, stay_apart, package_there as moved_there}
use Rattle.law_moves.proofs.MoveEdits.{moves_are}
use Rattle.law_moves.proofs.NewTokens.{file_stays}

-- a file at its new path, with its edited text and its old tree
abbrev pub new_parts : FileChanges → FileParts → FileParts
new_parts s t = record { path = unwrap_or (path_after s t.path) t.path; cut = replaced (edits_by (change_of s t.path)) t.cut; file = t.file }

abbrev IsReplaced : FileChanges → FileParts → Type 0
IsReplaced s t = AreReplacedPieces t.cut.pieces (edits_by (change_of s t.path)) × KeepNameKinds t.cut (edits_by (change_of s t.path))

new_parsed : (s : FileChanges) (e : List ℕ × List ℕ) (t : FileParts) → IsParsed e.0 e.1 (source_of t) → IsReplaced s t →
    IsParsed (moved_entry s e).0 (moved_entry s e).1 (source_of (new_parts s t))
new_parsed s e t is are = record {
  of_path = ap (λ path. unwrap_or (path_after s path) path) is.of_path;
  of_text = ap₂ (λ path text. edited_text (edits_by (change_of s path)) text) is.of_path is.of_text;
  is_file = file_stays (unwrap_or (path_after s t.path) t.path) (source_of t) (edits_by (change_of s t.path)) is.is_file are.0 are.1;
}

all_parsed : (s : FileChanges) {es : List (List ℕ × List ℕ)} {ts : List FileParts} → AreParsed es ts [] → ((t : FileParts) → Contains ts t → IsReplaced s t) →
    AreParsed (map (moved_entry s) es) (map (new_parts s) ts) []
all_parsed s none each = none
all_parsed s (tree {e = e} {t = t} {ts = ts} is rest) each =
    tree (new_parsed s e t is (each t (first_in t ts))) (all_parsed s rest (λ u has. each u (later_in t ts u has)))

-- imports by literals

imports_literal : (f : SourceFile) (path : List ℕ) → (i : ImportsPath f path) → HasLiteral f i.token path
imports_literal f path i = from_string f i.token path (record { piece = i.piece; at = i.at; is_string = i.is_string; has_value = i.value })

literal_imports : (f : SourceFile) (n : ℕ) (path : List ℕ) → Contains (import_literals f.tree) n → HasLiteral f n path →
    ImportsPath f path
literal_imports f n path among l =
    let x = to_string f n path l in
    record { token = n; literal = among; piece = x.piece; at = x.at; is_string = x.is_string; value = x.has_value }

module _ (w : Workspace) (known : Verdicts) (from to : List ℕ) (s : FileChanges) (h : IsMove w known from to s) where
  abbrev pub v : Workspace
  v = edited s w

  abbrev pub goes : List ℕ → List ℕ
  goes = moved_path from to

  -- the files of a package
  module _ (p : Package) (is : IsCheckedPackage w known p) where
    abbrev pub trees : List FileParts
    trees = is.is_checked.files

    pub source_in : (t : FileParts) → Contains trees t → IsSourceIn w known (source_of t)
    source_in t has = record {
      inside = p;
      is_package = is;
      has = subst (λ fs. Contains fs (source_of t)) (sym (same_files w known p.path p is.is_checked)) (is_mapped source_of trees t has);
    }

    are_replaced : (t : FileParts) → Contains trees t → IsReplaced s t
    are_replaced t has = moves_are w known from to s h (source_of t) (source_in t has)

    -- afterwards they have their old trees
    pub new_trees : AreParsed (package_files v (goes p.path)) (map (new_parts s) trees) []
    new_trees = subst (λ es. AreParsed es (map (new_parts s) trees) []) (sym (files_move w known from to s h p.path is.of_workspace))
        (all_parsed s is.is_checked.parsed are_replaced)

    -- a file of the package, by its entry
    record IsFileOf (e : List ℕ × List ℕ) : Type 0 where
      part : FileParts
      rank : ℕ
      at : slice_get p.files rank ≡ Some (source_of part)
      was : IsParsed e.0 e.1 (source_of part)
      now : IsParsed (moved_entry s e).0 (moved_entry s e).1 (source_of (new_parts s part))

    file_of : (e : List ℕ × List ℕ) → Contains (package_files w p.path) e → IsFileOf e
    unfolding source_in
    file_of e has =
        let t = tree_of is.is_checked.parsed e has in
        let k = ranked p.files (source_of t.0) (source_in t.0 t.1.0).has in
        record { part = t.0; rank = k.0; at = k.1; was = t.1.1; now = new_parsed s e t.0 t.1.1 (are_replaced t.0 t.1.0) }

    pub to_imports : (q : List ℕ) → PackageImports w p.path q → PackageImports v (goes p.path) (goes q)
    to_imports q i =
        let f = file_of i.entry i.of_package in
        let old = source_of f.part in
        let same : i.file ≡ old = one_file i.entry.0 i.entry.1 i.file old i.parsed f.was in
        let x : ImportsPath old q = subst (λ g. ImportsPath g q) same i.imports in
        let path = unwrap_or (path_after s f.part.path) f.part.path in
        record {
          entry = moved_entry s i.entry;
          of_package = file_there w known from to s h p.path i.entry i.of_package;
          file = source_of (new_parts s f.part);
          parsed = f.now;
          imports = literal_imports (source_of (new_parts s f.part)) x.token (goes q) x.literal
              (literal_moves w known from to s h p is f.rank old f.at path x.token q x.literal (imports_literal old q x));
        }

    -- what it imports afterwards it imported
    pub record DidImport (q : List ℕ) : Type 0 where
      pub old : List ℕ
      pub imports : PackageImports w p.path old
      pub goes_there : q ≡ goes old

    pub from_imports : (q : List ℕ) → PackageImports v (goes p.path) q → DidImport q
    from_imports q i =
        let e = file_was w known from to s h (goes p.path) i.entry i.of_package in
        let same_path : e.path ≡ p.path = stay_apart w known from to s h e.path p.path (package_of_file w e.path e.old e.of_package) is.of_workspace
        (sym e.at) in
        let among : Contains (package_files w p.path) e.old = subst (λ x. Contains (package_files w x) e.old) same_path e.of_package in
        let f = file_of e.old among in
        let old = source_of f.part in
        let new = source_of (new_parts s f.part) in
        let parsed : IsParsed (moved_entry s e.old).0 (moved_entry s e.old).1 i.file =
        subst (λ (x : List ℕ × List ℕ). IsParsed x.0 x.1 i.file) (sym e.new) i.parsed in
        let same : i.file ≡ new = one_file (moved_entry s e.old).0 (moved_entry s e.old).1 i.file new parsed f.now in
        let x : ImportsPath new q = subst (λ g. ImportsPath g q) same i.imports in
        let path = unwrap_or (path_after s f.part.path) f.part.path in
        let was = literal_back w known from to s h p is f.rank old f.at path x.token q x.literal (imports_literal new q x) in
        record {
          old = was.old;
          imports = record {
            entry = e.old;
            of_package = among;
            file = old;
            parsed = f.was;
            imports = literal_imports old x.token was.old x.literal was.was;
          };
          goes_there = was.goes_there;
        }

  -- by path

  imports_move : (p q : List ℕ) → PackageImports w p q → PackageImports v (goes p) (goes q)
  imports_move p q i =
      let x = package_there w h.sound known h.right p (package_of_file w p i.entry i.of_package) in
      subst (λ r. PackageImports v (goes r) (goes q)) x.1.1 (to_imports x.0 x.1.0 q (subst (λ r. PackageImports w r q) (sym x.1.1) i))

  imports_were : (p q : List ℕ) → Contains (package_paths w) p → PackageImports v (goes p) q → (old : List ℕ) × (PackageImports w p old × (q ≡ goes old))
  imports_were p q has i =
      let x = package_there w h.sound known h.right p has in
      let d = from_imports x.0 x.1.0 q (subst (λ r. PackageImports v (goes r) q) (sym x.1.1) i) in
      (d.old, (subst (λ r. PackageImports w r d.old) x.1.1 d.imports, d.goes_there))

  closed_move : (p q : List ℕ) → IsInClosure w p q → IsInClosure v (goes p) (goes q)
  closed_move p _ (itself has) = itself (moved_there w known from to s h p has)
  closed_move p r (through {q = middle} i rest) = through (imports_move p middle i) (closed_move middle r rest)

  -- what is imported is there
  pub imported_there : (p q : List ℕ) → PackageImports w p q → Contains (package_paths w) q
  imported_there p q i =
      let x = package_there w h.sound known h.right p (package_of_file w p i.entry i.of_package) in
      elim (cases_contains (package_paths w) q) [
        | inl there ↦ there
        | inr nowhere ↦ absurd (imports_are_good w h.sound known h.right x.0 x.1.0 q (subst (λ r. PackageImports w r q) (sym x.1.1) i)
            (λ on. nowhere (to_package w x.0.path q on.imported)))
      ]

  -- a closure afterwards is one of before, of the paths that moved there
  closed_were : (a b : List ℕ) → IsInClosure v a b → (p : List ℕ) → Contains (package_paths w) p → a ≡ goes p →
      (q : List ℕ) × (IsInClosure w p q × (b ≡ goes q))
  closed_were a _ (itself has) p there same = (p, (itself there, same))
  closed_were a b (through {q = middle} i rest) p there same =
      let old = imports_were p middle there (subst (λ r. PackageImports v r middle) same i) in
      let r = closed_were middle b rest old.0 (imported_there p old.0 old.1.0) old.1.1 in
      (r.0, (through old.1.0 r.1.0, r.1.1))

  closed_back : (p q : List ℕ) → Contains (package_paths w) p → Contains (package_paths w) q → IsInClosure v (goes p) (goes q) → IsInClosure w p q
  closed_back p q there other i =
      let r = closed_were (goes p) (goes q) i p there refl in
      subst (IsInClosure w p) (sym (stay_apart w known from to s h q r.0 other (to_package w p r.0 r.1.0) r.1.1)) r.1.0

  pub builds_move : (p q : List ℕ) → Contains (package_paths w) p → Contains (package_paths w) q → BuildsOn w p q → BuildsOn v (goes p) (goes q)
  builds_move p q there other on = record {
    imported = closed_move p q on.imported;
    not_back = λ back. on.not_back (closed_back q p other there back);
  }

  pub builds_were : (p q : List ℕ) → Contains (package_paths w) p → Contains (package_paths w) q → BuildsOn v (goes p) (goes q) → BuildsOn w p q
  builds_were p q there other on = record {
    imported = closed_back p q there other on.imported;
    not_back = λ back. on.not_back (closed_move q p back);
  }

  imports_back : (p q : List ℕ) → Contains (package_paths w) p → Contains (package_paths w) q → PackageImports v (goes p) (goes q) → PackageImports w p q
  imports_back p q there other i =
      let r = imports_were p (goes q) there i in
      subst (PackageImports w p) (sym (stay_apart w known from to s h q r.0 other (imported_there p r.0 r.1.0) r.1.1)) r.1.0

  pub both_move : (p q : List ℕ) → Contains (package_paths w) p → Contains (package_paths w) q →
      (PackageImports w p q ↔ PackageImports v (goes p) (goes q)) × (BuildsOn w p q ↔ BuildsOn v (goes p) (goes q))
  both_move p q there other =
      ((imports_move p q, imports_back p q there other), (builds_move p q there other, builds_were p q there other))

pub package_imports_move : PackageImportsMove
package_imports_move w known from to s h p q there other = both_move w known from to s h p q there other
