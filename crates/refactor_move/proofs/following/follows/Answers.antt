-- The answers to the goals of `following::follows`.
use Rattle.std.proofs.Common.{◌≡◌, sym, ◌∙◌}
use Rattle.std.proofs.lemmas.Bool.{false≢true}
use Rattle.refs_binding.specs.Uses.{IsCheckedPackage}
use Rattle.refs_binding.specs.Workspaces.{known_in}
use Rattle.refactor_move.specs.Paths.{last_of}
use Rattle.refactor_move.proofs.Naming.{follows_with, may_from}
use Rattle.refactor_move.proofs.following.follows.Goals as goal

pub returns-then-may_follow : goal.returns-then-may_follow
returns-then-may_follow c =
    let from = c.args.from.now in
    let to = c.args.to.now in
    let last : c.last_of-last.result.now ≡ last_of from = (cc) in
    let named : c.last_of-name.result.now ≡ last_of to = (cc) in (
      (λ t. follows_with (IsCheckedPackage c.args.workspace.now.graph (known_in c.args.workspace.now.findings)) from to c.last_of-last.result.now
          c.last_of-name.result.now last named
          (c.may_follow.ensures.0 c.if-may_follow.true) (c.is_called_so.ensures.0 t)),
      (λ h. c.is_called_so.ensures.1 h.was),
    )

pub returns-else-may_follow : goal.returns-else-may_follow
returns-else-may_follow c =
    let from = c.args.from.now in
    let to = c.args.to.now in
    let last : c.last_of-last.result.now ≡ last_of from = (cc) in
    let named : c.last_of-name.result.now ≡ last_of to = (cc) in (
      (λ t. absurd (false≢true (sym c.if-may_follow.false ∙ t))),
      (λ h. c.may_follow.ensures.1 (may_from (IsCheckedPackage c.args.workspace.now.graph (known_in c.args.workspace.now.findings)) from to
          c.last_of-last.result.now
          c.last_of-name.result.now last named h)),
    )
