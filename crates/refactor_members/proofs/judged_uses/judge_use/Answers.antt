-- The answers to the goals of `judged_uses::judge_use`.
use Rattle.std.proofs.Common.{◌≡◌, List, ap, ◌∙◌}
use Rattle.std.specs.Prelude.{slice_get}
use Rattle.go_ast.specs.SourceFile.{SourceFile}
use Rattle.types_expr.specs.Found.{use_of}
use Rattle.types_declared.specs.Package.{spelled_at}
use Rattle.workspace_check.proofs.OnePackage.{layout_formed}
use Rattle.refs_binding.specs.Members.{definitions_known}
use Rattle.refactor_conflict.specs.Conflicts.{IsMemberConflict, UseStays}
use Rattle.refactor_members.specs.Judging.{IsUncalled}
use Rattle.refactor_members.specs.Renames.{by, packages_before, rename_revision, verdicts_in, workspace_before}
use Rattle.refactor_members.proofs.Judged.{judged_none}
use Rattle.refactor_members.proofs.UsesStay.{uncalled_stays}
use Rattle.refactor_members.proofs.judged_uses.judge_use.Goals as goal

pub returns-else-may_be_called : goal.returns-else-may_be_called
returns-else-may_be_called c = λ edits p k one.
    let m = by c.args.m.now edits in
    let x = use_of c.args.found.now in
    let ds = definitions_known c.args.of.now.types in
    let not = c.may_be_called.ensures c.if-may_be_called.false in
    let spelling : c.spelling_at-spelling.result.now ≡ spelled_at (slice_get p.files c.args.file) x.place =
    c.spelling_at-spelling.ensures ∙ ap (λ (fs : List SourceFile). spelled_at (slice_get fs c.args.file) x.place) k.files in
    let uncalled : IsUncalled m.of (slice_get p.files c.args.file) x.place = record {
      not_new = λ e. not.0 (spelling ∙ e);
      old = not.1.0;
      has_old = not.1.1.0;
      not_old = λ e. not.1.1.1 (spelling ∙ e);
    } in
    judged_none m (IsMemberConflict (packages_before m.of) (rename_revision m) ds p c.args.file x) (UseStays (packages_before m.of) (rename_revision m) ds p
    c.args.file x)
    c.args.first.now
    (λ knows place. uncalled_stays m p k.is_package (layout_formed (workspace_before m.of) (verdicts_in m.of) p.path p k.is_package.is_checked) ds k.definitions
    c.args.file x knows one place uncalled)
