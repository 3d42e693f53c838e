-- The packages of the other graph are put among those before.
use Rattle.std.proofs.Common.{◌≡◌, ℕ, List, Some, slice_get, ap, sym, subst, ◌∙◌}
use Rattle.std.specs.List.Sorted.{IsStrictlySortedBy}
use Rattle.base_files.specs.Packages.{package_paths}
use Rattle.base_files.specs.Workspace.{Workspace, path_cmp}
use Rattle.workspace_graph.specs.Graphs.{paths_of}
use Rattle.workspace_graph.specs.ChangedFiles.{CoverChanges, ArePackages}
use Rattle.workspace_graph.specs.SameGoFiles.{HasFiles}
use Rattle.workspace_graph.specs.declared.package.ParsedPackage.{ParsedPackage}
use Rattle.workspace_graph.proofs.PackagePaths.{paths_sorted}
use Rattle.workspace_graph.proofs.SharedFolders.{cover_other}
use Rattle.workspace_graph.proofs.StayingPackages.{all_at}
use Rattle.workspace_graph.proofs.UpdatedPackages.{updated_files, updated_paths}
use Rattle.workspace_graph.proofs.graph.Graph.with_packages.Goals as goal

pub updated-requires : goal.updated-requires
updated-requires c =
    let paths : paths_of c.deref-old.result.now.packages.items ≡ package_paths c.args.before.now =
    ap (λ parts. paths_of parts.packages.items) c.deref-old.ensures ∙ c.before-2.invariant.paths ∙ ap package_paths c.before-2.view_is in
    let others : paths_of c.deref.result.now ≡ package_paths c.args.other.now = ap paths_of c.deref.ensures.value ∙
    ap (λ parts. paths_of parts.packages.items) c.deref-fresh.ensures ∙ c.other.invariant.paths ∙ ap package_paths c.other.view_is in
    record {
      before = subst (IsStrictlySortedBy path_cmp) (sym paths) (paths_sorted c.args.before.now);
      fresh = subst (IsStrictlySortedBy path_cmp) (sym others) (paths_sorted c.args.other.now);
    }

pub made-requires : goal.made-requires
made-requires c =
    let v = c.args.before.now in
    let u = c.args.other.now in
    let w = c.args.files in
    let old = c.deref-old.result.now.packages.items in
    let fresh = c.deref.result.now in
    let each : (i : ℕ) (p : ParsedPackage) → slice_get old i ≡ Some p → HasFiles v p = λ i p at.
    subst (λ (x : Workspace). HasFiles x p) c.before-2.view_is (c.before-2.invariant.each i p (subst (λ (ps : List ParsedPackage). slice_get ps i ≡ Some p)
    (ap (λ parts. parts.packages.items) c.deref-old.ensures) at)) in
    let there : ArePackages v old = record {
      paths = ap (λ parts. paths_of parts.packages.items) c.deref-old.ensures ∙ c.before-2.invariant.paths ∙ ap package_paths c.before-2.view_is;
      files = all_at (HasFiles v) old each;
    } in
    let each_other : (i : ℕ) (p : ParsedPackage) → slice_get fresh i ≡ Some p → HasFiles u p = λ i p at.
    subst (λ (x : Workspace). HasFiles x p) c.other.view_is (c.other.invariant.each i p (subst (λ (ps : List ParsedPackage). slice_get ps i ≡ Some p)
    (c.deref.ensures.value ∙ ap (λ parts. parts.packages.items) c.deref-fresh.ensures) at)) in
    let others : ArePackages u fresh = record {
      paths = ap paths_of c.deref.ensures.value ∙ ap (λ parts. paths_of parts.packages.items) c.deref-fresh.ensures ∙ c.other.invariant.paths ∙
          ap package_paths c.other.view_is;
      files = all_at (HasFiles u) fresh each_other;
    } in
    let cover : CoverChanges v w fresh = cover_other v u w fresh others c.requires.same c.requires.differs in
    record {
      paths = updated_paths v w old fresh c.in_ok-packages.packages.items there cover c.in_ok-packages.ensures;
      files = updated_files v w old fresh c.in_ok-packages.packages.items there cover c.in_ok-packages.ensures;
    }
