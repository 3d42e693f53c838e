-- The packages of a workspace after a plain rename: the same paths, files of the same trees, and the same imports.
use Rattle.std.proofs.Common.{ℕ, ◌≡◌, inl, inr, List, [], map, ap, sym, subst}
use Rattle.std.specs.Prelude.{Contains}
use Rattle.std.proofs.Math.Path.{ap₂}
use Rattle.base_lemmas.proofs.Elements.{nothing_in, first_in, later_in, first_or_later, is_mapped}
use Rattle.base_files.specs.Packages.{package_files, package_paths}
use Rattle.base_files.specs.Workspace.{Workspace}
use Rattle.go_ast.specs.SourceFile.{FileParts, source_of}
use Rattle.base_edits.specs.Edits.{edited_text}
use Rattle.base_edits.specs.EditSet.{FileChanges, change_of, edited}
use Rattle.base_edits.specs.Moved.{edits_by}
use Rattle.base_edits.specs.declared.change.FileChange.{FileChange}
use Rattle.base_edits.specs.declared.change.Fate.TheVariants.{Stays}
use Rattle.base_edits.proofs.Held.{mapped_from}
use Rattle.workspace_graph.specs.Packages.{IsParsed, ImportsPath, PackageImports}
use Rattle.workspace_graph.specs.Parsed.{AreParsed, none, tree}
use Rattle.workspace_graph.proofs.ByPath.{has_file}
use Rattle.workspace_graph.proofs.OneFile.{one_file}
use Rattle.go_respelled.specs.Renamings.{AreNameEdits, recut}
use Rattle.go_respelled.specs.Trees.{KeepKinds}
use Rattle.go_respelled.proofs.Trees.{file_stays}
use Rattle.types_declared.specs.Package.{Package}
use Rattle.workspace_check.specs.Earlier.{HaveSameImports}
use Rattle.workspace_check.specs.FaultLists.{ListsFaults}
use Rattle.workspace_check.specs.Verdicts.{Verdicts, AreVerdicts, IsPackageIn}
use Rattle.workspace_check.proofs.OneList.{checked_package}
use Rattle.refs_binding.specs.declared.declaration.Declaration.{Declaration}
use Rattle.refs_binding.specs.Uses.{IsCheckedPackage}
use Rattle.refs_binding.proofs.Alike.{package_for}
use Rattle.refs_lookup.proofs.OnePlace.{same_files}
use Rattle.refactor_rename.specs.RenameEdits.{IsSourceIn}
use Rattle.law_renamed_workspaces.specs.Renames.{IsPlainRename}
use Rattle.law_renamed_workspaces.proofs.EditedEntries.{new_entry, files_edited, paths_edited}
use Rattle.law_renamed_workspaces.proofs.Literals.{imports_stay, imports_were}
use Rattle.law_renamed_workspaces.proofs.NameEdits.{name_edits, keep_kinds}

-- in a workspace without faults there is a package at each path
pub package_there : (w : Workspace) → ListsFaults w [] → (known : Verdicts) → AreVerdicts w known → (path : List ℕ) → Contains (package_paths w) path →
    (p : Package) × (IsCheckedPackage w known p × (p.path ≡ path))
package_there w sound known right path has =
    let x = checked_package w sound path has in
    let same : x.checked.path ≡ path = ap (λ (c : Package). c.path) x.is_package.is_package.is_package in (
      x.checked,
      (
        package_for w sound.known known sound.right right x.checked (record {
          of_workspace = subst (Contains (package_paths w)) (sym same) has;
          is_checked = subst (λ q. IsPackageIn w sound.known q x.checked) (sym same) x.is_package;
        }),
        same,
      ),
    )

-- the tree of a file
pub tree_of : {es : List (List ℕ × List ℕ)} {ts : List FileParts} → AreParsed es ts [] → (e : List ℕ × List ℕ) → Contains es e →
    (t : FileParts) × (Contains ts t × IsParsed e.0 e.1 (source_of t))
tree_of none e has = absurd (nothing_in e has)
tree_of (tree {e = d} {es = es} {t = t} {ts = ts} is rest) e has = elim (first_or_later d es e has) [
  | inl same ↦ (t, (first_in t ts, subst (λ (x : List ℕ × List ℕ). IsParsed x.0 x.1 (source_of t)) same is))
  | inr later ↦ (let r = tree_of rest e later in (r.0, (later_in t ts r.0 r.1.0, r.1.1)))
]

-- a file with its edited text and its old tree
abbrev pub new_parts : FileChanges → FileParts → FileParts
new_parts s t = record { path = t.path; cut = recut (edits_by (change_of s t.path)) t.cut; file = t.file }

new_parsed : (s : FileChanges) (e : List ℕ × List ℕ) (t : FileParts) → IsParsed e.0 e.1 (source_of t) →
    AreNameEdits t.cut.pieces (edits_by (change_of s t.path)) → KeepKinds t.cut.text (edits_by (change_of s t.path)) →
    IsParsed (new_entry s e).0 (new_entry s e).1 (source_of (new_parts s t))
new_parsed s e t is are keep = record {
  of_path = is.of_path;
  of_text = ap₂ (λ path text. edited_text (edits_by (change_of s path)) text) is.of_path is.of_text;
  is_file = file_stays (source_of t) (edits_by (change_of s t.path)) is.is_file are keep;
}

abbrev IsNamed : FileChanges → FileParts → Type 0
IsNamed s t = AreNameEdits t.cut.pieces (edits_by (change_of s t.path)) × KeepKinds t.cut.text (edits_by (change_of s t.path))

all_parsed : (s : FileChanges) {es : List (List ℕ × List ℕ)} {ts : List FileParts} → AreParsed es ts [] → ((t : FileParts) → Contains ts t → IsNamed s t) →
    AreParsed (map (new_entry s) es) (map (new_parts s) ts) []
all_parsed s none each = none
all_parsed s (tree {e = e} {t = t} {ts = ts} is rest) each =
    let own = each t (first_in t ts) in
    tree (new_parsed s e t is own.0 own.1) (all_parsed s rest (λ u has. each u (later_in t ts u has)))

module _ (w : Workspace) (known : Verdicts) (d : Declaration) (name : List ℕ) (s : FileChanges) (h : IsPlainRename w known d name s) where
  stays : (c : FileChange) → Contains s.changed c → c.fate ≡ Stays
  stays c has = (h.rename.edits.edits.only c has).stays

  pub new_files : (path : List ℕ) → package_files (edited s w) path ≡ map (new_entry s) (package_files w path)
  new_files path = files_edited s h.rename.edits.edits.none_added stays w path

  pub new_paths : package_paths (edited s w) ≡ package_paths w
  new_paths = paths_edited s h.rename.edits.edits.none_added stays w

  -- the files of a package
  module _ (p : Package) (is : IsCheckedPackage w known p) where
    abbrev pub trees : List FileParts
    trees = is.is_checked.files

    pub source_in : (t : FileParts) → Contains trees t → IsSourceIn w known (source_of t)
    source_in t has = record {
      inside = p;
      is_package = is;
      has = subst (λ fs. Contains fs (source_of t)) (sym (same_files w known p.path p is.is_checked)) (is_mapped source_of trees t has);
    }

    named : (t : FileParts) → Contains trees t → IsNamed s t
    named t has =
        (name_edits w known d name s h (source_of t) (source_in t has), keep_kinds w known d name s h (source_of t) (source_in t has))

    -- afterwards they have their old trees
    pub new_trees : AreParsed (package_files (edited s w) p.path) (map (new_parts s) trees) []
    new_trees = subst (λ es. AreParsed es (map (new_parts s) trees) []) (sym (new_files p.path)) (all_parsed s is.is_checked.parsed named)

    -- a file of the package, by its entry
    record IsFileOf (e : List ℕ × List ℕ) : Type 0 where
      part : FileParts
      among : Contains trees part
      was : IsParsed e.0 e.1 (source_of part)
      are : AreNameEdits part.cut.pieces (edits_by (change_of s part.path))
      now : IsParsed (new_entry s e).0 (new_entry s e).1 (source_of (new_parts s part))

    file_of : (e : List ℕ × List ℕ) → Contains (package_files w p.path) e → IsFileOf e
    file_of e has =
        let t = tree_of is.is_checked.parsed e has in
        let own = named t.0 t.1.0 in
        record { part = t.0; among = t.1.0; was = t.1.1; are = own.0; now = new_parsed s e t.0 t.1.1 own.0 own.1 }

    pub to_imports : (q : List ℕ) → PackageImports w p.path q → PackageImports (edited s w) p.path q
    to_imports q i =
        let f = file_of i.entry i.of_package in
        let same : i.file ≡ source_of f.part = one_file i.entry.0 i.entry.1 i.file (source_of f.part) i.parsed f.was in
        record {
          entry = new_entry s i.entry;
          of_package = subst (λ es. Contains es (new_entry s i.entry)) (sym (new_files p.path))
              (is_mapped (new_entry s) (package_files w p.path) i.entry i.of_package);
          file = source_of (new_parts s f.part);
          parsed = f.now;
          imports =
              imports_stay (source_of f.part) (edits_by (change_of s f.part.path)) f.was.is_file f.are q
              (subst (λ x. ImportsPath x q) same i.imports);
        }

    from_imports : (q : List ℕ) → PackageImports (edited s w) p.path q → PackageImports w p.path q
    from_imports q i =
        let e = mapped_from (new_entry s) (package_files w p.path) i.entry (subst (λ es. Contains es i.entry) (new_files p.path) i.of_package) in
        let f = file_of e.0 e.1 in
        let parsed : IsParsed (new_entry s e.0).0 (new_entry s e.0).1 i.file =
        subst (λ (x : List ℕ × List ℕ). IsParsed x.0 x.1 i.file) (sym e.2) i.parsed in
        let same : i.file ≡ source_of (new_parts s f.part) =
        one_file (new_entry s e.0).0 (new_entry s e.0).1 i.file (source_of (new_parts s f.part)) parsed f.now in
        record {
          entry = e.0;
          of_package = e.1;
          file = source_of f.part;
          parsed = f.was;
          imports =
              imports_were (source_of f.part) (edits_by (change_of s f.part.path)) f.was.is_file f.are q
              (subst (λ x. ImportsPath x q) same i.imports);
        }

  -- a package imports what it imported

  pub same_imports : HaveSameImports w (edited s w)
  same_imports = record {
    paths = sym new_paths;
    imports = λ p q has. (
      λ i.
          let x = package_there w h.rename.sound known h.rename.right p (has_file w p i.entry i.of_package) in
          subst (λ r. PackageImports (edited s w) r q) x.1.1 (to_imports x.0 x.1.0 q (subst (λ r. PackageImports w r q) (sym x.1.1) i)),
      λ i.
          let there : Contains (package_paths w) p = subst (λ ps. Contains ps p) new_paths (has_file (edited s w) p i.entry i.of_package) in
          let x = package_there w h.rename.sound known h.rename.right p there in
          subst (λ r. PackageImports w r q) x.1.1 (from_imports x.0 x.1.0 q (subst (λ r. PackageImports (edited s w) r q) (sym x.1.1) i)),
    );
  }
