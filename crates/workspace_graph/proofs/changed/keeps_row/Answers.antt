-- The row is that of the links where they are equal.
use Rattle.std.proofs.Common.{◌≡◌, ℕ, sym, ap, subst, ◌∙◌, arith, Some}
use Rattle.std.specs.Cmp.Lexicographic.{bytes_decides}
use Rattle.std.proofs.lemmas.Option.{slice_get_within}
use Rattle.workspace_graph.specs.Graphs.{paths_of}
use Rattle.workspace_graph.specs.Imports.{row_of}
use Rattle.workspace_graph.specs.Rows.{IsRow}
use Rattle.workspace_graph.proofs.ChangedPackages.{at_path}
use Rattle.workspace_graph.proofs.PackagePaths.{one_number}
use Rattle.workspace_graph.proofs.changed.keeps_row.Goals as goal

pub returns-in_default : goal.returns-in_default
returns-in_default c = λ _ n at. absurd (c.in_default.ensures (at_path (paths_of c.args.packages.now) n c.path.result.now (at ∙ ap Some (sym c.path.ensures))))

pub imports-earlier-requires : goal.imports-earlier-requires
imports-earlier-requires c = omega (
  arith,
  slice_get_within (paths_of c.args.packages.now) c.in-Some.number c.path.result.now c.in-Some.ensures,
  c.requires.size,
)

pub returns : goal.returns
returns c = λ t n at.
    let paths = paths_of c.args.packages.now in
    let path = ap Some (sym c.path.ensures) in
    let same : n ≡ c.in-Some.number = one_number paths c.requires.sorted n c.in-Some.number c.path.result.now (at ∙ path) c.in-Some.ensures in
    let trees = c.args.one.now.trees.items in
    let row : c.fill_row.new.row.items ≡ row_of c.args.links.now c.in-Some.number = sym c.as_slice.ensures.value ∙
    (bytes_decides _ _).0 (sym c.eq.ensures ∙ t) ∙
    c.imports-earlier.ensures in
    subst (λ (k : ℕ). IsRow paths trees (row_of c.args.links.now k)) (sym same) (subst (IsRow paths trees) row c.in_ok-fill_row.ensures)
