-- The answers to the goals of `table::ScopeTable::resolve`.
use Rattle.std.proofs.Common.{length}
use Rattle.go_scope.specs.Packages.{IsBoundIn, IsAtPlace}
use Rattle.go_scope.proofs.Tables.{resolved}
use Rattle.go_scope.proofs.table.ScopeTable.resolve.Goals as goal

pub returns-in-Some : goal.returns-in-Some
returns-in-Some c =
    resolved (IsAtPlace c.args.self.now c.args.place.now.path c.args.place.now.offset) (IsBoundIn c.args.self.now) (length c.args.self.now.sites)
    c.in-Some.u c.binding.result c.in-Some.ensures c.binding.ensures
