-- The table is made of the export data that `all` has at the package's number.
use Rattle.std.proofs.Common.{◌≡◌, ◌<◌, length, sym, subst, refl, ◌∙◌}
use Rattle.std.specs.Prelude.{slice_get, Some}
use Rattle.std.proofs.lemmas.Option.{same_Some, slice_get_read}
use Rattle.std.proofs.lemmas.Result.{IfOk-weaker}
use Rattle.types_declared.specs.declared.export_tables.ExportTable.{ExportTable}
use Rattle.refs_binding.specs.Packages.{IsTableOf, IsTableAs}
use Rattle.refs_binding.specs.Workspaces.{known_in}
use Rattle.refs_binding.proofs.packages.table_of.Goals as goal

pub bounds-all-number : goal.bounds-all-number
bounds-all-number c = subst (λ m. c.args.number < m) (sym c.requires.seen.size) c.requires.in_range

pub read_table-requires-clause-seen : goal.read_table-requires-clause-seen
read_table-requires-clause-seen c =
    let n = c.args.number in
    let all = c.args.all.now in
    let here = c.index-all-number.result in
    let lt : n < length all = subst (λ m. n < m) (sym c.requires.seen.size) c.requires.in_range in
    c.requires.seen.each n here (slice_get_read all (length all) n here refl lt c.index-all-number.is)

pub returns : goal.returns
returns c =
    let w = c.args.workspace.now.graph in
    let known = known_in c.args.workspace.now.findings in
    let n = c.args.number in
    let all = c.args.all.now in
    let here = c.index-all-number.result in
    let lt : n < length all = subst (λ m. n < m) (sym c.requires.seen.size) c.requires.in_range in
    let at : slice_get all n ≡ Some here = slice_get_read all (length all) n here refl lt c.index-all-number.is in
    IfOk-weaker c.read_table.result (λ laid. IsTableAs w known n laid here) (IsTableOf w known all n)
    (λ laid is seen has. subst (λ (i : ExportTable). IsTableAs w known n laid i) (same_Some here seen (sym at ∙ has)) is) c.read_table.ensures
