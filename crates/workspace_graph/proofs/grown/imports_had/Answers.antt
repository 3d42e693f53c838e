-- Its row before, and the paths that its files import.
use Rattle.std.proofs.Common.{ℕ, ◌≡◌, ◌≤◌, List, length, get_or, Some, slice_get, sym, ap, subst, ◌∙◌}
use Rattle.std.proofs.lemmas.Option.{same_Some, slice_get-get_or}
use Rattle.workspace_graph.specs.ImportPaths.{AnyImports}
use Rattle.workspace_graph.specs.declared.package.ParsedPackage.{ParsedPackage}
use Rattle.workspace_graph.proofs.CountedImports.{none_left}
use Rattle.workspace_graph.proofs.GrownLinks.{before_inside}
use Rattle.workspace_graph.proofs.grown.imports_had.Goals as goal

pub imports-row-requires : goal.imports-row-requires
imports-row-requires c =
    before_inside c.args.grown.packages.now c.args.grown.links.now c.args.grown.place c.requires.grown c.args.number c.in-Some.before c.in-Some.ensures
    c.requires.number

pub returns : goal.returns
returns c = λ yes path here imports.
    let packages = c.args.grown.packages.now in
    let links = c.args.grown.links.now in
    let place = c.args.grown.place in
    let n = c.args.number in
    let p : ParsedPackage = get_or packages n c.index-grown-number.result in
    let at : slice_get packages n ≡ Some p = slice_get-get_or packages n c.index-grown-number.result c.requires.number in
    let same : imports.0 ≡ p = same_Some imports.0 p (sym imports.1.0 ∙ at) in
    none_left packages links place c.requires.grown c.requires.sorted c.in-Some.before p c.imports-imports.result.now.keys path
    (ap (slice_get packages) c.in-Some.ensures ∙ at) c.imports-imports.ensures
    (subst (λ (row : List ℕ). length c.imports-imports.result.now.keys ≤ length row) c.imports-row.ensures
    (subst (λ (count : ℕ). count ≤ length c.imports-row.result.now) c.len.ensures.len c.if-len-row.false))
    here (subst (λ (x : ParsedPackage). AnyImports x.trees.items path) same imports.1.1)
