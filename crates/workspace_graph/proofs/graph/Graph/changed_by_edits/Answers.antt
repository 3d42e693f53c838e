-- The packages before are those of the graph, and the others are put among them.
use Rattle.std.proofs.Common.{◌≡◌, ℕ, List, Some, slice_get, ap, sym, subst, ◌∙◌}
use Rattle.std.specs.List.{All}
use Rattle.std.specs.List.Sorted.{IsStrictlySortedBy}
use Rattle.base_files.specs.Packages.{package_paths}
use Rattle.base_files.specs.Workspace.{Workspace, path_cmp}
use Rattle.workspace_graph.specs.Changed.{KeepsPath}
use Rattle.workspace_graph.specs.Graphs.{paths_of}
use Rattle.workspace_graph.specs.ChangedFiles.{CoverChanges, ArePackages}
use Rattle.workspace_graph.specs.SameGoFiles.{DiffersOnlyIn, HasFiles}
use Rattle.workspace_graph.specs.Updated.{IsPlace}
use Rattle.workspace_graph.specs.declared.package.ParsedPackage.{ParsedPackage}
use Rattle.workspace_graph.proofs.PackagePaths.{paths_sorted}
use Rattle.workspace_graph.proofs.KnownEdits.{edits_make_of}
use Rattle.workspace_graph.proofs.StayingPackages.{all_at}
use Rattle.workspace_graph.proofs.UpdatedPackages.{updated_files, updated_paths}
use Rattle.workspace_graph.proofs.graph.Graph.changed_by_edits.Goals as goal

pub packages_with-requires-clause-before : goal.packages_with-requires-clause-before
packages_with-requires-clause-before c =
    let paths : paths_of c.deref.result.now ≡ package_paths c.args.before.now = ap paths_of c.deref.ensures.value ∙
    ap (λ parts. paths_of parts.packages.items) c.deref-old.ensures ∙ c.before-2.invariant.paths ∙ ap package_paths c.before-2.view_is in
    rw paths (paths_sorted c.args.before.now)

pub packages_with-requires-clause-edits : goal.packages_with-requires-clause-edits
packages_with-requires-clause-edits c =
    let v = c.args.before.now in
    let w = c.args.files in
    let each : (i : ℕ) (p : ParsedPackage) → slice_get c.deref.result.now i ≡ Some p → HasFiles v p = λ i p at.
    subst (λ (x : Workspace). HasFiles x p) c.before-2.view_is (c.before-2.invariant.each i p (subst (λ (ps : List ParsedPackage). slice_get ps i ≡ Some p)
    (c.deref.ensures.value ∙ ap (λ parts. parts.packages.items) c.deref-old.ensures) at)) in
    edits_make_of v w c.deref.result.now c.args.changed.now (all_at (HasFiles v) c.deref.result.now each) c.requires.edits

pub keep_paths-requires : goal.keep_paths-requires
keep_paths-requires c =
    let paths : paths_of c.deref-2.result.now ≡ package_paths c.args.before.now = ap paths_of c.deref-2.ensures.value ∙
    ap (λ parts. paths_of parts.packages.items) c.deref-old.ensures ∙ c.before-2.invariant.paths ∙ ap package_paths c.before-2.view_is in
    rw paths (paths_sorted c.args.before.now)

pub replaced-requires : goal.replaced-requires
replaced-requires c =
    let v = c.args.before.now in
    let w = c.args.files in
    let fresh = c.deref-then-keep_paths.ensures.value in
    let paths : paths_of c.deref-2.result.now ≡ package_paths v = ap paths_of c.deref-2.ensures.value ∙
    ap (λ parts. paths_of parts.packages.items) c.deref-old.ensures ∙ c.before-2.invariant.paths ∙ ap package_paths c.before-2.view_is in
    let each : (i : ℕ) (p : ParsedPackage) → slice_get c.deref.result.now i ≡ Some p → HasFiles v p = λ i p at.
    subst (λ (x : Workspace). HasFiles x p) c.before-2.view_is (c.before-2.invariant.each i p (subst (λ (ps : List ParsedPackage). slice_get ps i ≡ Some p)
    (c.deref.ensures.value ∙ ap (λ parts. parts.packages.items) c.deref-old.ensures) at)) in
    let are : ArePackages v c.deref.result.now = record {
      paths = ap paths_of c.deref.ensures.value ∙ ap (λ parts. paths_of parts.packages.items) c.deref-old.ensures ∙ c.before-2.invariant.paths ∙
          ap package_paths c.before-2.view_is;
      files = all_at (HasFiles v) c.deref.result.now each;
    } in
    let made : CoverChanges v w c.in_ok-fresh.fresh.items = c.in_ok-fresh.ensures v are c.requires.differs in
    record {
      differs = subst (λ (ps : List ParsedPackage). DiffersOnlyIn (paths_of ps) v w) (sym fresh) made.differs;
      fresh = subst (All (HasFiles w)) (sym fresh) made.files;
      kept = subst (λ (l : List (List ℕ)). All (KeepsPath l) c.deref-then-keep_paths.result.now) paths
          (subst (λ (ps : List ParsedPackage). All (KeepsPath (paths_of c.deref-2.result.now)) ps) (c.deref-3.ensures.value ∙ sym fresh)
          (c.keep_paths.ensures c.if-keep_paths.true));
    }

pub one_that_comes-requires : goal.one_that_comes-requires
one_that_comes-requires c =
    let paths : paths_of c.deref-4.result.now ≡ package_paths c.args.before.now = ap paths_of c.deref-4.ensures.value ∙
    ap (λ parts. paths_of parts.packages.items) c.deref-old.ensures ∙ c.before-2.invariant.paths ∙ ap package_paths c.before-2.view_is in
    rw paths (paths_sorted c.args.before.now)

pub grown-requires : goal.grown-requires
grown-requires c =
    let v = c.args.before.now in
    let w = c.args.files in
    let paths : paths_of c.deref-4.result.now ≡ package_paths v = ap paths_of c.deref-4.ensures.value ∙
    ap (λ parts. paths_of parts.packages.items) c.deref-old.ensures ∙ c.before-2.invariant.paths ∙ ap package_paths c.before-2.view_is in
    let each : (i : ℕ) (p : ParsedPackage) → slice_get c.deref.result.now i ≡ Some p → HasFiles v p = λ i p at.
    subst (λ (x : Workspace). HasFiles x p) c.before-2.view_is (c.before-2.invariant.each i p (subst (λ (ps : List ParsedPackage). slice_get ps i ≡ Some p)
    (c.deref.ensures.value ∙ ap (λ parts. parts.packages.items) c.deref-old.ensures) at)) in
    let are : ArePackages v c.deref.result.now = record {
      paths = ap paths_of c.deref.ensures.value ∙ ap (λ parts. paths_of parts.packages.items) c.deref-old.ensures ∙ c.before-2.invariant.paths ∙
          ap package_paths c.before-2.view_is;
      files = all_at (HasFiles v) c.deref.result.now each;
    } in
    let made : CoverChanges v w c.in_ok-fresh.fresh.items = c.in_ok-fresh.ensures v are c.requires.differs in
    record {
      fresh = subst (CoverChanges v w) (sym c.deref-5.ensures.value ∙ c.in-Some.ensures.alone) made;
      file = c.in-Some.ensures.file;
      stands = subst (λ (ks : List (List ℕ)). IsPlace ks c.in-Some.coming.one.now.path.items c.in-Some.coming.place) paths c.in-Some.ensures.stands;
    }

pub updated-requires : goal.updated-requires
updated-requires c =
    let v = c.args.before.now in
    let w = c.args.files in
    let each : (i : ℕ) (p : ParsedPackage) → slice_get c.deref.result.now i ≡ Some p → HasFiles v p = λ i p at.
    subst (λ (x : Workspace). HasFiles x p) c.before-2.view_is (c.before-2.invariant.each i p (subst (λ (ps : List ParsedPackage). slice_get ps i ≡ Some p)
    (c.deref.ensures.value ∙ ap (λ parts. parts.packages.items) c.deref-old.ensures) at)) in
    let are : ArePackages v c.deref.result.now = record {
      paths = ap paths_of c.deref.ensures.value ∙ ap (λ parts. paths_of parts.packages.items) c.deref-old.ensures ∙ c.before-2.invariant.paths ∙
          ap package_paths c.before-2.view_is;
      files = all_at (HasFiles v) c.deref.result.now each;
    } in
    let made : CoverChanges v w c.in_ok-fresh.fresh.items = c.in_ok-fresh.ensures v are c.requires.differs in
    record {
      before = subst (λ (ps : List ParsedPackage). IsStrictlySortedBy path_cmp (paths_of ps)) c.deref.ensures.value
          (subst (IsStrictlySortedBy path_cmp) (sym are.paths) (paths_sorted v));
      fresh = subst (λ (ps : List ParsedPackage). IsStrictlySortedBy path_cmp (paths_of ps)) (sym c.deref-6.ensures.value) made.sorted;
    }

pub made-requires : goal.made-requires
made-requires c =
    let v = c.args.before.now in
    let w = c.args.files in
    let each : (i : ℕ) (p : ParsedPackage) → slice_get c.deref.result.now i ≡ Some p → HasFiles v p = λ i p at.
    subst (λ (x : Workspace). HasFiles x p) c.before-2.view_is (c.before-2.invariant.each i p (subst (λ (ps : List ParsedPackage). slice_get ps i ≡ Some p)
    (c.deref.ensures.value ∙ ap (λ parts. parts.packages.items) c.deref-old.ensures) at)) in
    let are : ArePackages v c.deref.result.now = record {
      paths = ap paths_of c.deref.ensures.value ∙ ap (λ parts. paths_of parts.packages.items) c.deref-old.ensures ∙ c.before-2.invariant.paths ∙
          ap package_paths c.before-2.view_is;
      files = all_at (HasFiles v) c.deref.result.now each;
    } in
    let made : CoverChanges v w c.in_ok-fresh.fresh.items = c.in_ok-fresh.ensures v are c.requires.differs in
    let old = c.deref-old.result.now.packages.items in
    let there : ArePackages v old = subst (ArePackages v) c.deref.ensures.value are in
    let fresh : CoverChanges v w c.deref-6.result.now = subst (CoverChanges v w) (sym c.deref-6.ensures.value) made in
    record {
      paths = updated_paths v w old c.deref-6.result.now c.in_ok-packages.packages.items there fresh c.in_ok-packages.ensures;
      files = updated_files v w old c.deref-6.result.now c.in_ok-packages.packages.items there fresh c.in_ok-packages.ensures;
    }
