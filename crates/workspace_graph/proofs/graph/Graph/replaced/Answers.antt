-- The packages of the folders stand in the place of what was there, and the links stay where these import what they did.
use Rattle.std.proofs.Common.{◌≡◌, List, length, ap, sym, subst, ◌∙◌}
use Rattle.std.specs.List.{All}
use Rattle.base_files.specs.Packages.{package_paths}
use Rattle.base_files.specs.Workspace.{Workspace}
use Rattle.workspace_graph.specs.Changed.{HasRow}
use Rattle.workspace_graph.specs.Graphs.{paths_of, IsGraph}
use Rattle.workspace_graph.specs.Imports.{LinkTable}
use Rattle.workspace_graph.specs.declared.package.ParsedPackage.{ParsedPackage}
use Rattle.workspace_graph.proofs.ChangedPackages.{graph_stays, packages_paths, packages_files}
use Rattle.workspace_graph.proofs.PackagePaths.{paths_sorted}
use Rattle.workspace_graph.proofs.graph.Graph.replaced.Goals as goal

pub replaced-requires : goal.replaced-requires
replaced-requires c =
    let v = c.args.before.now in
    let paths : paths_of c.deref-old.result.now.packages.items ≡ package_paths v = ap (λ parts. paths_of parts.packages.items) c.deref-old.ensures ∙
    c.before-2.invariant.paths ∙ ap package_paths c.before-2.view_is in
    rw paths (paths_sorted v)

pub keep_rows-requires : goal.keep_rows-requires
keep_rows-requires c =
    let v = c.args.before.now in
    let old = c.deref-old.result.now in
    let whole = subst (λ parts. IsGraph parts.files parts.packages.items parts.links) (sym c.deref-old.ensures) c.before-2.invariant in
    let graph = subst (λ (x : Workspace). IsGraph x old.packages.items old.links) (ap (λ parts. parts.files) c.deref-old.ensures ∙ c.before-2.view_is) whole in
    let paths : paths_of c.deref.result.now ≡ package_paths v = ap paths_of c.deref.ensures.value ∙ c.in_ok-packages.ensures.paths ∙ graph.paths in
    record {
      sorted = rw paths (paths_sorted v);
      size = ap length c.links.ensures ∙ graph.linked.size ∙ ap length (sym paths);
    }

pub made-requires : goal.made-requires
made-requires c =
    let v = c.args.before.now in
    let w = c.args.files in
    let fresh = c.args.fresh.now in
    let packages = c.in_ok-packages.packages.items in
    let old = c.deref-old.result.now in
    let whole = subst (λ parts. IsGraph parts.files parts.packages.items parts.links) (sym c.deref-old.ensures) c.before-2.invariant in
    let graph = subst (λ (x : Workspace). IsGraph x old.packages.items old.links) (ap (λ parts. parts.files) c.deref-old.ensures ∙ c.before-2.view_is) whole in
    record {
      paths = packages_paths v w old.packages.items fresh packages old.links graph c.requires.differs c.requires.fresh c.requires.kept c.in_ok-packages.ensures;
      files = packages_files v w old.packages.items fresh packages old.links graph c.requires.differs c.requires.fresh c.requires.kept c.in_ok-packages.ensures;
    }

pub invariant_of-result : goal.invariant_of-result
invariant_of-result c =
    let v = c.args.before.now in
    let w = c.args.files in
    let fresh = c.args.fresh.now in
    let packages = c.in_ok-packages.packages.items in
    let old = c.deref-old.result.now in
    let whole = subst (λ parts. IsGraph parts.files parts.packages.items parts.links) (sym c.deref-old.ensures) c.before-2.invariant in
    let graph = subst (λ (x : Workspace). IsGraph x old.packages.items old.links) (ap (λ parts. parts.files) c.deref-old.ensures ∙ c.before-2.view_is) whole in
    let told = c.in_ok-keep_rows.ensures c.if-not-branch.false in
    let rows = subst (λ (g : LinkTable). All (HasRow (paths_of packages) g) fresh) c.links.ensures
    (subst (λ (ps : List ParsedPackage). All (HasRow (paths_of ps) c.links.result.now) fresh) c.deref.ensures.value told) in
    rw (c.in_ok-new.ensures.ok, c.in_ok-links.ensures.cases)
    (graph_stays v w old.packages.items fresh packages old.links graph c.requires.differs c.requires.fresh c.requires.kept c.in_ok-packages.ensures rows)
