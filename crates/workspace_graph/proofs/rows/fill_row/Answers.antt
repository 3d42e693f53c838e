-- The row in order.
use Rattle.std.proofs.Common.{subst}
use Rattle.std.specs.List.Sorted.{IsStrictlyIncreasing}
use Rattle.std.proofs.lemmas.List.Filters.{dedup_is}
use Rattle.workspace_graph.specs.Graphs.{paths_of}
use Rattle.workspace_graph.proofs.Collected.{row_is, numbers_held}
use Rattle.workspace_graph.proofs.rows.fill_row.Goals as goal

pub returns-then-not-is_rising : goal.returns-then-not-is_rising
returns-then-not-is_rising c =
    let paths = paths_of c.args.packages.now in
    let files = c.args.importer.now.trees.items in
    let found = c.fill_numbers.new.row.items in
    let holds = numbers_held paths files c.imports.result.now.keys found c.imports.ensures c.in_ok-fill_numbers.ensures in
    row_is paths files found c.sort_unstable.new.self.items c.dedup.new.self.items holds
    c.sort_unstable.ensures.permutation c.sort_unstable.ensures.sorted (dedup_is _ _ _ c.dedup.ensures.filtered)

pub returns-else-not-is_rising : goal.returns-else-not-is_rising
returns-else-not-is_rising c =
    let paths = paths_of c.args.packages.now in
    let files = c.args.importer.now.trees.items in
    let found = c.fill_numbers.new.row.items in
    record {
      each = numbers_held paths files c.imports.result.now.keys found c.imports.ensures c.in_ok-fill_numbers.ensures;
      rising = subst IsStrictlyIncreasing c.deref.ensures.value (c.is_rising.ensures c.if-not-is_rising.false);
    }
