-- The answers to the goals of `judged_uses::note_member`.
use Rattle.std.proofs.Common.{◌≡◌, ◌∙◌, ap, sym}
use Rattle.std.specs.Prelude.{Some, None}
use Rattle.std.proofs.lemmas.Option.{same_Some}
use Rattle.std.proofs.lemmas.Result.{on_ok_weaker}
use Rattle.types_expr.specs.WorldView.{member_of}
use Rattle.refs_binding.specs.Binding.{declaration_of}
use Rattle.refs_binding.specs.Uses.{IsCheckedPackage}
use Rattle.refs_binding.specs.Workspaces.{known_in}
use Rattle.refactor_conflict.specs.Conflicts.{IsConflictBy, IsOtherMember}
use Rattle.refactor_conflict.proofs.KeepingFirst.{takes_as, call_takes}
use Rattle.refactor_conflict.proofs.Conflicts.{other_lost, other_as}
use Rattle.refactor_members.proofs.judged_uses.note_member.Goals as goal

pub returns-in-None-clause-takes : goal.returns-in-None-clause-takes
returns-in-None-clause-takes c =
    let Known = IsCheckedPackage c.args.workspace.now.graph (known_in c.args.workspace.now.findings) in
    let now = c.args.now in
    let old = declaration_of (member_of c.args.old) in
    takes_as (IsConflictBy c.args.used None) (IsOtherMember Known (λ e. now ≡ Some e) c.args.used old) c.args.first.now c.keep.new.first
    (other_lost Known c.args.used old now c.in-None.is) c.keep.ensures.takes

pub returns-in-Some-clause-takes : goal.returns-in-Some-clause-takes
returns-in-Some-clause-takes c =
    let Known = IsCheckedPackage c.args.workspace.now.graph (known_in c.args.workspace.now.findings) in
    let now = c.args.now in
    let old = declaration_of (member_of c.args.old) in
    let d = c.in-Some.declaration in
    call_takes (IsOtherMember Known (λ e. e ≡ d) c.args.used old) (IsOtherMember Known (λ e. now ≡ Some e) c.args.used old)
    c.args.first.now c.note_other_member.new.first c.note_other_member.result
    (other_as Known (λ e. e ≡ d) (λ e. now ≡ Some e) c.args.used old (λ e same. c.in-Some.is ∙ ap Some (sym same))
    (λ e some. same_Some e d (sym some ∙ c.in-Some.is))) c.note_other_member.ensures.takes

pub returns-in-None-clause-stays : goal.returns-in-None-clause-stays
returns-in-None-clause-stays c = λ ahead. absurd (c.keep.ensures.behind ahead)

pub returns-in-Some-clause-stays : goal.returns-in-Some-clause-stays
returns-in-Some-clause-stays c =
    on_ok_weaker c.note_other_member.result (λ same ahead. c.in-Some.is ∙ ap Some (sym (same ahead))) c.note_other_member.ensures.stays
