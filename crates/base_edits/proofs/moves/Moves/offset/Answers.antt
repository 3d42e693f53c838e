-- The answers to the goals of `moves::Moves::offset`.
use Rattle.std.specs.Prelude.{◌<◌, ◌^◌, OkIff}
use Rattle.base_edits.specs.FilesMoved.{HasEnds}
use Rattle.base_edits.proofs.Ending.{some_ends, first_at, moved_in}
use Rattle.base_edits.proofs.moves.Moves.offset.Goals as goal

pub moved_past-requires-clause-some : goal.moved_past-requires-clause-some
moved_past-requires-clause-some c =
    let has : HasEnds c.args.self.now c.args.file.old.now c.in-Some.ends.now = rw c.in-Some.is at c.requires.ends in
    some_ends c.args.self.now c.args.file.old.now c.in-Some.ends.now has

pub moved_past-requires-clause-first : goal.moved_past-requires-clause-first
moved_past-requires-clause-first c =
    let has : HasEnds c.args.self.now c.args.file.old.now c.in-Some.ends.now = rw c.in-Some.is at c.requires.ends in
    first_at c.args.self.now c.args.file.old.now c.in-Some.ends.now has

pub returns-in-Some : goal.returns-in-Some
returns-in-Some c =
    let s = c.args.self.now in
    let path = c.args.file.old.now in
    let ends = c.in-Some.ends.now in
    let has : HasEnds s path ends = rw c.in-Some.is at c.requires.ends in
    moved_in s path ends c.args.offset (λ n. OkIff c.moved_past.result (n < 2 ^ 64) n) has c.moved_past.ensures
