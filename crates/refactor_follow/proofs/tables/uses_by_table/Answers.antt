-- The answers to the goals of `tables::uses_by_table`.
use Rattle.std.proofs.Common.{◌≡◌, length, sym, subst, ◌∙◌, arith}
use Rattle.std.specs.Prelude.{Some, map, slice_get}
use Rattle.std.proofs.lemmas.List.{length-map}
use Rattle.std.proofs.lemmas.Option.{same_Some}
use Rattle.go_ast.specs.SourceFile.{SourceFile, source_of}
use Rattle.types_declared.proofs.PathParts.{source_at}
use Rattle.types_declared.specs.PackageView.{package_of}
use Rattle.refactor_follow.proofs.MarkedRows.{IsRowOf, all_rows, next_row, no_rows}
use Rattle.refactor_follow.proofs.tables.uses_by_table.Goals as goal

pub loop-rank-init : goal.loop-rank-init
loop-rank-init c = no_rows (package_of c.args.unit) c.args.path.now c.new-rows.result.items c.new-rows.ensures.items

pub loop-rank-preserved : goal.loop-rank-preserved
loop-rank-preserved c =
    let p = package_of c.args.unit in
    let path = c.args.path.now in
    let rank = c.loop-rank.rank in
    let file = c.index-files-rank.result in
    let at : slice_get (map source_of c.args.unit.files.now) rank ≡ Some (source_of file) =
    source_at c.args.unit.files.now rank file c.loop-rank-test.true c.index-files-rank.is in
    next_row p path rank c.loop-rank.rows.items c.push.new.self.items c.in_ok-row_by_table.field-0 c.loop-rank.invariant c.in_ok-push.ensures.items
    (λ f is. subst (λ (g : SourceFile). IsRowOf p path rank g c.in_ok-row_by_table.field-0.items) (same_Some (source_of file) f (sym at ∙ is))
    c.in_ok-row_by_table.ensures)

pub returns : goal.returns
returns c =
    let size = length-map c.args.unit.files.now source_of in
    let end : c.loop-rank.rank ≡ length (map source_of c.args.unit.files.now) = omega (arith, size) in
    all_rows (package_of c.args.unit) c.args.path.now c.loop-rank.rank c.loop-rank.rows.items end c.loop-rank.invariant
