-- Each Go file of a workspace without faults is one of a package, with its tree.
use Rattle.std.proofs.Common.{ℕ, suc, ◌≡◌, ◌<◌, true, List, [], length, Some, refl, sym, ap, subst, ◌∙◌, ⊎_elim}
use Rattle.std.specs.Prelude.{Contains, map, slice_get, ◌==◌}
use Rattle.std.specs.FinMap.{entries, get}
use Rattle.std.specs.Cmp.Lexicographic.{pointwise, bytes_decides}
use Rattle.std.proofs.lemmas.Bool.{and_from}
use Rattle.std.proofs.lemmas.Option.{same_Some, slice_get_within}
use Rattle.base_lemmas.proofs.Elements.{nothing_in, first_or_later}
use Rattle.base_files.specs.Packages.{is_go, is_of_package, package_paths, package_files}
use Rattle.base_files.specs.Path.{folder}
use Rattle.base_files.specs.Workspace.{Workspace}
use Rattle.go_ast.specs.SourceFile.{SourceFile, FileParts, source_of}
use Rattle.workspace_graph.specs.Parsed.{AreParsed, none, tree}
use Rattle.workspace_graph.proofs.ByPath.{has_file, number}
use Rattle.types_declared.specs.Package.{Package}
use Rattle.workspace_check.specs.declared.findings.Findings.{Findings}
use Rattle.workspace_check.specs.Verdicts.{Verdicts}
use Rattle.workspace_check.proofs.Members.{passed}
use Rattle.workspace_check.proofs.PackageFiles.{at_rank}
use Rattle.base_edits.proofs.Entries.{entry_of}
use Rattle.refs_binding.specs.Uses.{IsCheckedPackage}
use Rattle.refs_binding.specs.Workspaces.{IsFaultless, IsPackageAt, known_in}
use Rattle.refs_lookup.proofs.OnePlace.{same_files}
use Rattle.refs_binding.proofs.PackageNumbers.{package_there}
use Rattle.refactor_rename.proofs.Sources.{source_text}
use Rattle.refactor_move.specs.Steps.{HasFileIn}

-- a file and its tree

record HasTree (ts : List FileParts) (e : List ℕ × List ℕ) : Type 0 where
  rank : ℕ
  source : SourceFile
  at : slice_get (map source_of ts) rank ≡ Some source
  of_path : source.path ≡ e.0

tree_of : {es : List (List ℕ × List ℕ)} {ts : List FileParts} → AreParsed es ts [] → (e : List ℕ × List ℕ) → Contains es e → HasTree ts e
tree_of none e has = absurd (nothing_in e has)
tree_of (tree {e = d} {es = es} {t = t} is rest) e has = ⊎_elim
    (λ (same : d ≡ e). record { rank = 0; source = source_of t; at = refl; of_path = is.of_path ∙ ap (λ (x : List ℕ × List ℕ). x.0) same })
    (λ (later : Contains es e). let h = tree_of rest e later in record { rank = suc h.rank; source = h.source; at = h.at; of_path = h.of_path })
    (first_or_later d es e has)

-- the file of a package is one of the workspace

pub text_of_file : (w : Workspace) (known : Verdicts) (p : Package) → IsCheckedPackage w known p → (rank : ℕ) (f : SourceFile) →
    slice_get p.files rank ≡ Some f →
    get w f.path ≡ Some f.cut.text
text_of_file w known p is rank f at = source_text w known f (record { inside = p; is_package = is; has = at_rank p.files rank f at })

-- a Go file of the workspace is one of a package

pub record HasPackage (w : Workspace) (known : Verdicts) (path : List ℕ) : Type 0 where
  pub number : ℕ
  pub inside : Package
  pub is_package : IsPackageAt w known number inside
  pub within : number < length (package_paths w)
  pub has : HasFileIn inside path

pub package_of_file : (w : Workspace) (found : Findings) → IsFaultless w found → (path text : List ℕ) → get w path ≡ Some text → is_go path ≡ true →
    HasPackage w (known_in found) path
package_of_file w found sound path text at go =
    let known = known_in found in
    let own : is_of_package (folder path) path ≡ true = and_from (is_go path) (pointwise ◌==◌ (folder path) (folder path)) go
    ((bytes_decides (folder path) (folder path)).1 refl) in
    let has : Contains (package_files w (folder path)) (path, text) = passed (λ (e : List ℕ × List ℕ). is_of_package (folder path) e.0) (entries w)
    (path, text) own (entry_of w path text at) in
    let n = number w (folder path) (has_file w (folder path) (path, text) has) in
    let lt = slice_get_within (package_paths w) n.0 (folder path) n.1 in
    let x = package_there w found sound n.0 lt in
    let p = x.0 in
    let same : folder path ≡ p.path = same_Some (folder path) p.path (sym n.1 ∙ x.1.has_number) in
    let h = x.1.is_package.is_checked in
    let t = tree_of h.parsed (path, text) (subst (λ q. Contains (package_files w q) (path, text)) same has) in
    record {
      number = n.0;
      inside = p;
      is_package = x.1;
      within = lt;
      has = (
        t.rank,
        record {
          source = t.source;
          has_rank = subst (λ (fs : List SourceFile). slice_get fs t.rank ≡ Some t.source) (sym (same_files w known
              p.path p h)) t.at;
          of_path = t.of_path;
        },
      );
    }
