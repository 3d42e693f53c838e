-- The answers to the goals of `ranks::note_rank`.
use Rattle.std.proofs.Common.{◌<◌, arith, length}
use Rattle.go_scope.specs.Packages.{layout_in}
use Rattle.types_declared.proofs.Ranking.{notes_at, notes_nowhere}
use Rattle.types_declared.proofs.ranks.note_rank.Goals as goal

pub returns-in-None : goal.returns-in-None
returns-in-None c = notes_nowhere (layout_in c.args.table.now) (length c.args.table.now.sites) c.args.place c.args.rank c.args.ranks.now.items c.in-None.ensures

pub note_free-requires : goal.note_free-requires
note_free-requires c = let lt : c.in-Some.u < length c.args.table.now.sites = c.in-Some.ensures.within in omega (arith, lt, c.requires)

pub returns-in-Some : goal.returns-in-Some
returns-in-Some c =
    notes_at (layout_in c.args.table.now) (length c.args.table.now.sites) c.args.place c.args.rank c.args.ranks.now.items c.note_free.new.ranks.items
    c.in-Some.u c.are_apart.ensures c.in-Some.ensures c.requires c.note_free.ensures
