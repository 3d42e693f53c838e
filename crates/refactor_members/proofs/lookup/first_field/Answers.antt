-- The answers to the goals of `lookup::first_field`.
use Rattle.std.proofs.Common.{subst, sym}
use Rattle.refactor_conflict.specs.MembersFound.{IsRankFound}
use Rattle.refactor_members.specs.Renames.{by}
use Rattle.refactor_members.proofs.Renamed as renamed
use Rattle.refactor_members.proofs.lookup.first_field.Goals as goal

pub returns : goal.returns
returns c = λ edits knows.
    let m = by c.args.m.now edits in
    let s = c.args.of.now in
    let sound = c.has_no_faults.ensures in
    subst (IsRankFound (renamed.FirstField m sound knows s)) (sym c.earlier.ensures)
    (renamed.field_ranked m sound knows s c.old_field.result c.renamed_field.result c.old_field.ensures.old c.old_field.ensures.there c.renamed_field.ensures)
