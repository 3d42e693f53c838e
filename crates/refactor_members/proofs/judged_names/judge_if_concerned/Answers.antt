-- The answers to the goals of `judged_names::judge_if_concerned`.
use Rattle.std.proofs.Common.{length, refl}
use Rattle.std.proofs.lemmas.Option.{slice_get_read}
use Rattle.std.proofs.lemmas.Result.{on_ok_weaker}
use Rattle.refactor_conflict.specs.Conflicts.{IsConflictIn}
use Rattle.refactor_members.specs.Judging.{NamesStayOf}
use Rattle.refactor_members.specs.Renames.{by, rename_revision, verdicts_in, workspace_before}
use Rattle.refactor_members.proofs.Unconcerned.{unnamed_stay}
use Rattle.refactor_members.proofs.Faultless.{all_count}
use Rattle.refactor_members.proofs.Judged.{judged_none}
use Rattle.refactor_members.proofs.judged_names.judge_if_concerned.Goals as goal

pub returns-then-concerns_definition : goal.returns-then-concerns_definition
returns-then-concerns_definition c = on_ok_weaker c.judge_definition.result (λ h edits p is are. h edits p is) c.judge_definition.ensures

pub returns-else-concerns_definition : goal.returns-else-concerns_definition
returns-else-concerns_definition c = λ edits p is are.
    let m = by c.args.m.now edits in
    let w = workspace_before m.of in
    let own = c.args.own.now in
    let none = c.if-concerns_definition.false in
    let tells = c.concerns_definition.ensures in
    let here = slice_get_read own (length own) c.args.rank c.index-own-rank.result refl c.requires.rank c.index-own-rank.is in
    judged_none m (IsConflictIn w (verdicts_in m.of) (rename_revision m) p) (NamesStayOf m p c.args.rank) c.args.first.now
    (λ knows place. unnamed_stay m knows p is.is_package (all_count w m.of.workspace.now.findings c.has_no_faults.ensures p is.is_package) own are c.args.rank
    c.index-own-rank.result here (tells.field none) (tells.method none) (tells.other none) place)
