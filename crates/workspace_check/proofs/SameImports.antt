-- Two workspaces with equal packages and equal imports.
use Rattle.std.proofs.Common.{ℕ, ◌≡◌, List, [], ◌∷◌, map, refl, sym, subst, ◌∙◌}
use Rattle.std.specs.Prelude.{Contains, slice_get, Some}
use Rattle.std.proofs.Math.Path.{ap₂}
use Rattle.base_files.specs.Workspace.{Workspace}
use Rattle.base_files.specs.Packages.{package_paths, package_files}
use Rattle.go_ast.specs.SourceFile.{FileParts, source_of}
use Rattle.workspace_graph.specs.Imports.{LinkTable}
use Rattle.workspace_graph.specs.Packages.{IsParsed, AreLinksOf, IsInClosure, itself, through}
use Rattle.workspace_graph.specs.Parsed.{AreParsed, none, tree}
use Rattle.workspace_graph.proofs.ByPath.{has_file, number}
use Rattle.workspace_check.specs.Verdicts.{BuildsOn}
use Rattle.workspace_check.specs.Earlier.{HaveSameImports, tree_file}
use Rattle.workspace_check.proofs.Closed.{from_package}
use Rattle.workspace_check.proofs.StandsAlike.{StandsAlike}

-- the same links and paths
pub by_links : (v w : Workspace) (g h : LinkTable) → package_paths v ≡ package_paths w → AreLinksOf v g → AreLinksOf w h → g ≡ h → HaveSameImports v w
by_links v w g h paths a b e = record {
  paths = paths;
  imports = λ p q has. (
    λ i.
        let n = number v p (has_file v p i.entry i.of_package) in
        let m = number v q has in
        (b.each n.0 m.0 p q (subst (λ ps. slice_get ps n.0 ≡ Some p) paths n.1) (subst (λ ps. slice_get ps m.0 ≡ Some q) paths m.1)).0
        (subst (λ (l : LinkTable). Rattle.workspace_graph.specs.Imports.Imports l n.0 m.0) e ((a.each n.0 m.0 p q n.1 m.1).1 i)),
    λ i.
        let here : Contains (package_paths w) q = subst (λ ps. Contains ps q) paths has in
        let n = number w p (has_file w p i.entry i.of_package) in
        let m = number w q here in
        (a.each n.0 m.0 p q (subst (λ ps. slice_get ps n.0 ≡ Some p) (sym paths) n.1) (subst (λ ps. slice_get ps m.0 ≡ Some q) (sym paths) m.1)).0
        (subst (λ (l : LinkTable). Rattle.workspace_graph.specs.Imports.Imports l n.0 m.0) (sym e) ((b.each n.0 m.0 p q n.1 m.1).1 i)),
  );
}

pub imports_back : (v w : Workspace) → HaveSameImports v w → HaveSameImports w v
imports_back v w same = record {
  paths = sym same.paths;
  imports = λ p q has. (let both = same.imports p q (subst (λ ps. Contains ps q) (sym same.paths) has) in (both.1, both.0));
}

pub closed_by : (v w : Workspace) → HaveSameImports v w → (p q : List ℕ) → IsInClosure v p q → IsInClosure w p q
closed_by v w same p _ (itself has) = itself (subst (λ ps. Contains ps p) same.paths has)
closed_by v w same p r (through {q = m} i rest) = through ((same.imports p m (from_package v m r rest)).0 i) (closed_by v w same m r rest)

pub builds_by : (v w : Workspace) → HaveSameImports v w → (p q : List ℕ) → BuildsOn v p q → BuildsOn w p q
builds_by v w same p q on = record {
  imported = closed_by v w same p q on.imported;
  not_back = λ back. on.not_back (closed_by w v (imports_back v w same) q p back);
}

-- a package with the same files stands alike
pub stands_by : (v w : Workspace) → HaveSameImports v w → (p : List ℕ) → package_files v p ≡ package_files w p → StandsAlike v w p
stands_by v w same p files = record {
  files = files;
  missing = λ q i none has. none (subst (λ ps. Contains ps q) (sym same.paths) has);
  round = λ q i round. closed_by v w same q p round;
  builds = λ q. builds_by v w same p q;
  back = λ q. builds_by w v (imports_back v w same) p q;
}

-- the files of a package of which each has a tree

entry_of : (e : List ℕ × List ℕ) (t : FileParts) → IsParsed e.0 e.1 (source_of t) → e ≡ tree_file t
entry_of e t is = ap₂ (λ (path text : List ℕ). (path, text)) (sym is.of_path) (sym is.of_text)

entries_of : {es : List (List ℕ × List ℕ)} {ts : List FileParts} → AreParsed es ts [] → es ≡ map tree_file ts
entries_of none = refl
entries_of (tree {e = e} {t = t} is more) = ap₂ (λ (x : List ℕ × List ℕ) (xs : List (List ℕ × List ℕ)). x ∷ xs) (entry_of e t is) (entries_of more)

pub same_files : {es ds : List (List ℕ × List ℕ)} {ts us : List FileParts} → AreParsed es ts [] → AreParsed ds us [] → map tree_file ts ≡ map tree_file us →
    es ≡ ds
same_files a b e = entries_of a ∙ e ∙ sym (entries_of b)
