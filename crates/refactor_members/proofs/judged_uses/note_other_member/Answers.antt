-- The answers to the goals of `judged_uses::note_other_member`.
use Rattle.std.proofs.Common.{◌≡◌, sym, ◌∙◌}
use Rattle.std.specs.Prelude.{Some}
use Rattle.std.proofs.lemmas.Bool.{false≢true}
use Rattle.types_expr.specs.WorldView.{member_of}
use Rattle.refs_binding.specs.Binding.{declaration_of}
use Rattle.refs_binding.specs.Uses.{IsCheckedPackage}
use Rattle.refs_binding.specs.Workspaces.{known_in}
use Rattle.refactor_conflict.specs.Conflicts.{IsConflictBy, IsOtherMember}
use Rattle.refactor_conflict.proofs.KeepingFirst.{takes_as}
use Rattle.refactor_conflict.proofs.Conflicts.{other_told}
use Rattle.refactor_members.proofs.judged_uses.note_other_member.Goals as goal

pub returns-clause-takes : goal.returns-clause-takes
returns-clause-takes c =
    let Known = IsCheckedPackage c.args.workspace.now.graph (known_in c.args.workspace.now.findings) in
    let old = declaration_of (member_of c.args.old) in
    takes_as (IsConflictBy c.args.used (Some c.in_ok-by.by)) (IsOtherMember Known (λ e. e ≡ c.args.now.now) c.args.used old)
    c.args.first.now c.keep.new.first
    (other_told Known c.args.used old c.args.now.now c.in_ok-by.by (λ e. false≢true (sym c.if-is_of.false ∙ c.is_of.ensures.1 e))
    c.in_ok-by.ensures) c.keep.ensures.takes

pub returns-then-is_of-clause-stays : goal.returns-then-is_of-clause-stays
returns-then-is_of-clause-stays c = λ ahead. c.is_of.ensures.0 c.if-is_of.true

pub returns-clause-stays : goal.returns-clause-stays
returns-clause-stays c = λ ahead. absurd (c.keep.ensures.behind ahead)
