-- Drafts: packages of which single files are set or removed.
use Rattle.std.specs.Prelude.{IfSome, ◌≡◌, ◌⊎◌, ℕ, true, List, [], ◌∷◌, map, Option, Some, None, Vec}
use Rattle.std.specs.Arc.{arc_value}
use Rattle.std.specs.FinMap as files
use Rattle.std.specs.List.{All, Contains}
use Rattle.std.specs.List.Sorted.{IsStrictlySortedBy}
use Rattle.base_files.specs.Packages.{is_of_package}
use Rattle.base_files.specs.Workspace.{Workspace, path_cmp}
use Rattle.go_ast.specs.SourceFile.{FileParts, source_of}
use Rattle.workspace_graph.specs.FaultyFiles.{FaultyParts}
use Rattle.workspace_graph.specs.Graphs.{IsEmpty}
use Rattle.workspace_graph.specs.InFolder.{AreInFolder, fault_path, fault_paths, tree_path, tree_paths}
use Rattle.workspace_graph.specs.ImportPaths.{ListsPaths, AnyImports, AnyIsOfPath, bytes_of_paths}
use Rattle.workspace_graph.specs.ChangedFiles.{ArePackages, SetsAt}
use Rattle.workspace_graph.specs.Packages.{ImportsPath}
use Rattle.workspace_graph.specs.Updated.{SetsIn, Removes}
use Rattle.workspace_graph.specs.declared.file_imports.FileImport.{FileImport}
use Rattle.workspace_graph.specs.declared.package.ParsedPackage.{ParsedPackage}
use Rattle.workspace_graph.specs.declared.drafts.Draft.{Draft}

-- ---- the paths that a package imports, after one of its files changed

-- There is a removed tree, and its file imported the path.
abbrev pub GoneImports : Option FileParts → List ℕ → Type 0
GoneImports None q = ⊥
GoneImports (Some t) q = ImportsPath (source_of t) q

-- Each path of which `P` holds is still imported: by one of the new imports `come`, or by one of the files.
abbrev pub Survive : (List ℕ → Type 0) → List FileImport → List FileParts → Type 0
Survive P come trees = (q : List ℕ) → P q → AnyIsOfPath come q ⊎ AnyImports trees q

-- `keys` are the paths that the files imported before the tree `gone` was removed and a file with the imports `come` was added. All other
-- files stayed.
pub record WereImports {Z : Type 0} (keys : List (Vec ℕ Z)) (gone : Option FileParts) (come : List FileImport) (trees : List FileParts) : Type 0 where
  pub before : (q : List ℕ) → Contains (bytes_of_paths keys) q → AnyImports trees q ⊎ GoneImports gone q
  pub now : (q : List ℕ) → AnyImports trees q → Contains (bytes_of_paths keys) q ⊎ AnyIsOfPath come q
  pub came : (q : List ℕ) → AnyIsOfPath come q → AnyImports trees q

-- ---- a package while files are set

-- If one of the trees has the path, it is the removed tree.
abbrev pub WasTaken : List ℕ → List FileParts → Option FileParts → Type 0
WasTaken path trees gone = (t : FileParts) → Contains trees t → t.path ≡ path → gone ≡ Some t

-- The trees and the faulty files are sorted by path, and `keys` are exactly the paths that the trees import.
pub record IsPackageParts {Z : Type 0} (p : ParsedPackage) (keys : List (Vec ℕ Z)) : Type 0 where
  pub trees : IsStrictlySortedBy path_cmp (tree_paths p.trees.items)
  pub faulty : IsStrictlySortedBy path_cmp (fault_paths p.faulty.items)
  pub imports : ListsPaths (AnyImports p.trees.items) keys

-- If the draft knows its import paths, they are exactly those that its trees import.
abbrev pub KnowsImports : Draft → Type 0
KnowsImports d = IfSome d.imports (λ paths. ListsPaths (AnyImports d.package.trees.items) (arc_value paths).keys)

-- If the draft knows import paths, they are those before the change. The change removed the tree `gone` and added one with the imports
-- `come`.
abbrev pub MayKnowBefore : Draft → Option FileParts → List FileImport → Type 0
MayKnowBefore d gone come = IfSome d.imports (λ paths. WereImports (arc_value paths).keys gone come d.package.trees.items)

-- The trees and the faulty files of the draft are sorted by path, and its import paths are right where they are known.
pub record IsDraft (d : Draft) : Type 0 where
  pub trees : IsStrictlySortedBy path_cmp (tree_paths d.package.trees.items)
  pub faulty : IsStrictlySortedBy path_cmp (fault_paths d.package.faulty.items)
  pub imports : KnowsImports d

-- Both packages have the same path and the same files.
pub record IsSamePackage (p q : ParsedPackage) : Type 0 where
  pub path : p.path.items ≡ q.path.items
  pub trees : p.trees.items ≡ q.trees.items
  pub faulty : p.faulty.items ≡ q.faulty.items

-- The draft has exactly the Go files that the workspace `w` has in the draft's folder.
abbrev pub HasFolderFiles : Workspace → Draft → Type 0
HasFolderFiles w d = AreInFolder w d.package.path.items d.package.trees.items d.package.faulty.items

-- The tree `t` replaced the tree at its path, or was added. Nothing else of the package changed, and import paths are right where known.
pub record PutsTree (t : FileParts) (old new : Draft) : Type 0 where
  pub path : new.package.path.items ≡ old.package.path.items
  pub trees : SetsIn tree_path t old.package.trees.items new.package.trees.items
  pub faulty : new.package.faulty.items ≡ old.package.faulty.items
  pub imports : KnowsImports new

-- The tree `t` replaced the file at its path, or was added.
pub record SetsTree (t : FileParts) (old new : Draft) : Type 0 where
  pub path : new.package.path.items ≡ old.package.path.items
  pub draft : IsDraft new
  pub trees : SetsIn tree_path t old.package.trees.items new.package.trees.items
  pub place : ℕ
  pub faulty : Removes fault_path t.path old.package.faulty.items new.package.faulty.items place

-- The faulty file `f` replaced the file at its path, or was added.
pub record SetsFaulty (f : FaultyParts) (old new : Draft) : Type 0 where
  pub path : new.package.path.items ≡ old.package.path.items
  pub draft : IsDraft new
  pub faulty : SetsIn fault_path f old.package.faulty.items new.package.faulty.items
  pub place : ℕ
  pub trees : Removes tree_path f.path old.package.trees.items new.package.trees.items place

-- The file at the path, if there was one, was removed.
pub record RemovesFile (path : List ℕ) (old new : Draft) : Type 0 where
  pub same_path : new.package.path.items ≡ old.package.path.items
  pub draft : IsDraft new
  pub tree_place : ℕ
  pub trees : Removes tree_path path old.package.trees.items new.package.trees.items tree_place
  pub fault_place : ℕ
  pub faulty : Removes fault_path path old.package.faulty.items new.package.faulty.items fault_place

-- One of the files, with or without a tree, has the path and the text.
abbrev pub HasText : List FileParts → List FaultyParts → List ℕ → List ℕ → Type 0
HasText trees faulty path text = ((t : FileParts) × Contains trees t × (t.path ≡ path) × (t.cut.text ≡ text)) ⊎
    ((f : FaultyParts) × Contains faulty f × (f.path ≡ path) × (f.text ≡ text))

-- The file at the path was set to that of the workspace `w`, or removed where `w` has none.
pub record SetsFile (w : Workspace) (path : List ℕ) (old new : Draft) : Type 0 where
  pub same_path : new.package.path.items ≡ old.package.path.items
  pub draft : IsDraft new
  pub files : (v u : Workspace) → SetsAt w (path ∷ []) v u → HasFolderFiles v old → HasFolderFiles u new

-- The file at the path was set to the text, for a path of a Go file in the package's folder.
abbrev pub SetsText : List ℕ → List ℕ → Draft → Draft → Type 0
SetsText path text old new = (w : Workspace) → files.get w path ≡ Some text → is_of_package old.package.path.items path ≡ true → SetsFile w path old new

-- ---- several packages

-- The packages of drafts.
abbrev pub packages_of : List Draft → List ParsedPackage
packages_of drafts = map (λ d. d.package) drafts

-- The path of a draft's package.
abbrev pub draft_path : Draft → List ℕ
draft_path d = d.package.path.items

-- The paths of the packages of drafts.
abbrev pub draft_paths : List Draft → List (List ℕ)
draft_paths drafts = map draft_path drafts

-- In the drafts, the files at the paths were set to those of the workspace `w`, or removed where `w` has none.
pub record SetsFiles (w : Workspace) (paths : List (List ℕ)) (old new : List Draft) : Type 0 where
  pub same_paths : draft_paths new ≡ draft_paths old
  pub drafts : All IsDraft new
  pub files : (v u : Workspace) → SetsAt w paths v u → All (HasFolderFiles v) old → All (HasFolderFiles u) new

-- The draft is a package at the folder that has no file.
pub record IsEmptyAt (folder : List ℕ) (d : Draft) : Type 0 where
  pub path : d.package.path.items ≡ folder
  pub empty : IsEmpty d.package
  pub draft : IsDraft d

-- The draft is the package that `packages` have at the folder. Where they have none, it has no file.
pub record IsDraftAt (packages : List ParsedPackage) (folder : List ℕ) (d : Draft) : Type 0 where
  pub path : d.package.path.items ≡ folder
  pub draft : IsDraft d
  pub files : (v : Workspace) → ArePackages v packages → HasFolderFiles v d

-- The drafts are the packages at the folders, which are sorted. A draft has no file where `packages` have none at its folder.
pub record AreDraftsAt (packages : List ParsedPackage) (folders : List (List ℕ)) (ds : List Draft) : Type 0 where
  pub paths : draft_paths ds ≡ folders
  pub sorted : IsStrictlySortedBy path_cmp folders
  pub drafts : All IsDraft ds
  pub files : (v : Workspace) → ArePackages v packages → All (HasFolderFiles v) ds
