-- The answers to the goals of `judged_uses::note_use`.
use Rattle.std.proofs.Common.{◌≡◌, subst}
use Rattle.std.specs.Prelude.{Some}
use Rattle.types_expr.specs.View.{type_of}
use Rattle.types_expr.specs.WorldView.{member_of}
use Rattle.refs_binding.specs.Binding.{declaration_of}
use Rattle.refs_binding.specs.Members.{definitions_known}
use Rattle.refactor_conflict.specs.MembersAfter.{IsMemberAfter}
use Rattle.refactor_conflict.specs.Conflicts.{IsOtherMember, IsPlaceBefore}
use Rattle.refactor_conflict.proofs.Conflicts.{found_so, other_found}
use Rattle.refactor_conflict.proofs.KeepingFirst.{takes_as, call_both}
use Rattle.refactor_conflict.proofs.OneMember.{one_member_after}
use Rattle.refactor_members.specs.Renames.{by, packages_before, rename_revision, verdicts_in, workspace_before}
use Rattle.refactor_members.proofs.judged_uses.note_use.Goals as goal

pub returns : goal.returns
returns c =
    call_both c.note_member.result (λ takes stays edits knows.
    let m = by c.args.m.now edits in
    let Known = packages_before m.of in
    let r = rename_revision m in
    let path = c.args.types.path.now in
    let ds = definitions_known c.args.types in
    let t = type_of c.args.before.now in
    let place = c.args.place in
    let old = declaration_of (member_of c.args.old) in
    let now = c.in_ok-now.now in
    let K = IsMemberAfter Known r path m.of.name.now (λ s. (ds s).underlying) t in
    let is = c.in_ok-now.ensures edits knows in (
      takes_as (IsOtherMember Known (λ e. now ≡ Some e) place old) (IsOtherMember Known K place old) c.args.first.now c.note_member.new.first
          (other_found Known K place old now is (one_member_after (workspace_before m.of) (verdicts_in m.of) r path m.of.name.now (λ s. (ds s).underlying)
          t)) takes,
      (λ other ahead same. found_so K now is old (stays (subst (IsPlaceBefore c.note_member.new.first) same ahead))),
    )) c.note_member.ensures.takes c.note_member.ensures.stays
