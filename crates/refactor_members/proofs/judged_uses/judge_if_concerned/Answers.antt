-- The answers to the goals of `judged_uses::judge_if_concerned`.
use Rattle.std.proofs.Common.{List, map, subst}
use Rattle.std.specs.Prelude.{slice_get}
use Rattle.std.proofs.lemmas.Option.{slice_get_within, get_or_from_slice_get}
use Rattle.go_ast.specs.SourceFile.{SourceFile}
use Rattle.types_expr.specs.Found.{use_of}
use Rattle.workspace_check.proofs.OnePackage.{layout_formed}
use Rattle.refs_binding.specs.Members.{definitions_known}
use Rattle.refactor_conflict.specs.Conflicts.{IsMemberConflictIn, UsesStay}
use Rattle.refactor_members.specs.Judging.{IsUncalled}
use Rattle.refactor_members.specs.Renames.{by, packages_before, rename_revision, verdicts_in, workspace_before}
use Rattle.refactor_members.proofs.Judged.{judged_none}
use Rattle.refactor_members.proofs.UsesStay.{uncalled_stays}
use Rattle.refactor_members.proofs.judged_uses.judge_if_concerned.Goals as goal

pub returns-else-concerns_at : goal.returns-else-concerns_at
returns-else-concerns_at c = λ edits p known us.
    let m = by c.args.m.now edits in
    let Known = packages_before m.of in
    let r = rename_revision m in
    let ds = definitions_known c.args.of.now.types in
    let file = c.args.file in
    let uses = map use_of c.args.uses.now in
    let formed = layout_formed (workspace_before m.of) (verdicts_in m.of) p.path p known.is_package.is_checked in
    judged_none m (IsMemberConflictIn Known r ds p file uses) (UsesStay Known r ds p file uses) c.args.first.now
    (λ knows place k x at.
    let uncalled : IsUncalled m.of (slice_get p.files file) x.place =
    subst (λ (fs : List SourceFile). IsUncalled m.of (slice_get fs file) x.place) known.files
    (c.concerns_at.ensures c.if-concerns_at.false k x at) in
    uncalled_stays m p known.is_package formed ds known.definitions file x knows (record {
      uses = uses;
      judged = us;
      among = (k, slice_get_within uses k x at, get_or_from_slice_get uses k x x at);
    }) place uncalled)
