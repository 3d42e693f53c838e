-- The answers to the goals of `lookup::own_method`.
use Rattle.std.proofs.Common.{subst, sym}
use Rattle.refactor_conflict.specs.MembersFound.{IsRankFound}
use Rattle.refactor_members.specs.Renames.{by}
use Rattle.refactor_members.proofs.Renamed as renamed
use Rattle.refactor_members.proofs.lookup.own_method.Goals as goal

pub returns : goal.returns
returns c = λ edits knows.
    let m = by c.args.m.now edits in
    let s = c.args.of.now in
    let sound = c.has_no_faults.ensures in
    subst (IsRankFound (renamed.FirstMethod m sound knows s)) (sym c.earlier.ensures)
    (renamed.method_ranked m sound knows s c.old_method.result c.renamed_method.result c.old_method.ensures.old c.old_method.ensures.there
    c.renamed_method.ensures)
