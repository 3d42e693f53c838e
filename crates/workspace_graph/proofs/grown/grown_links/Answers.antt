-- The row of the one that came, and what imports it.
use Rattle.std.proofs.Common.{ℕ, ◌≡◌, List, length, get_or, Some, sym, ap, subst, ◌∙◌}
use Rattle.std.proofs.lemmas.Option.{same_Some, slice_get-get_or}
use Rattle.workspace_graph.specs.Graphs.{paths_of}
use Rattle.workspace_graph.specs.Growth.{ImportsAt}
use Rattle.workspace_graph.specs.Imports.{ListsBelow}
use Rattle.workspace_graph.specs.Rows.{IsRow}
use Rattle.workspace_graph.specs.declared.package.ParsedPackage.{ParsedPackage}
use Rattle.workspace_graph.proofs.Filled.{path_at}
use Rattle.workspace_graph.proofs.GrownLinks.{place_inside}
use Rattle.workspace_graph.proofs.grown.grown_links.Goals as goal

pub importing-requires-clause-path : goal.importing-requires-clause-path
importing-requires-clause-path c =
    let packages = c.args.grown.packages.now in
    let place = c.args.grown.place in
    let inside = place_inside packages c.args.grown.links.now place c.requires.grown in
    let one : ParsedPackage = get_or packages place c.index-grown-grown.result in
    path_at packages place one (slice_get-get_or packages place c.index-grown-grown.result inside) ∙ ap Some (sym c.path.ensures)

pub grown_by-requires-clause-own : goal.grown_by-requires-clause-own
grown_by-requires-clause-own c = λ p at.
    let packages = c.args.grown.packages.now in
    let place = c.args.grown.place in
    let inside = place_inside packages c.args.grown.links.now place c.requires.grown in
    let one : ParsedPackage = get_or packages place c.index-grown-grown.result in
    let same : one ≡ p = same_Some one p (sym (slice_get-get_or packages place c.index-grown-grown.result inside) ∙ at) in
    subst (λ (x : ParsedPackage). IsRow (paths_of packages) x.trees.items c.deref.result.now) same
    (subst (λ (l : List ℕ). IsRow (paths_of packages) one.trees.items l) (sym c.deref.ensures.value) c.in_ok-fill_row.ensures)

pub grown_by-requires-clause-importing : goal.grown_by-requires-clause-importing
grown_by-requires-clause-importing c = λ path at.
    let packages = c.args.grown.packages.now in
    let place = c.args.grown.place in
    let inside = place_inside packages c.args.grown.links.now place c.requires.grown in
    let one : ParsedPackage = get_or packages place c.index-grown-grown.result in
    let has = path_at packages place one (slice_get-get_or packages place c.index-grown-grown.result inside) in
    let same : c.path.result.now ≡ path = c.path.ensures ∙ same_Some one.path.items path (sym has ∙ at) in
    subst (λ (l : List ℕ). ListsBelow (ImportsAt packages path) (length packages) l) (sym c.deref-2.ensures.value)
    (subst (λ (q : List ℕ). ListsBelow (ImportsAt packages q) (length packages) c.in_ok-importing.importing.items) same c.in_ok-importing.ensures)
