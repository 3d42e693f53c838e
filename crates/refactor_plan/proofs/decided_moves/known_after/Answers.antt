-- The answers to the goals of `decided_moves::known_after`.
use Rattle.std.proofs.Common.{◌∙◌}
use Rattle.std.proofs.lemmas.Result.{IfOk-weaker}
use Rattle.refactor_plan.proofs.DecidedMoves.{all_moved}
use Rattle.refactor_plan.proofs.decided_moves.known_after.Goals as goal

pub returns : goal.returns
returns c =
    let p = c.args.proposal.now in
    let b = c.before_move-before in
    IfOk-weaker c.moved_known.result _ _ (λ rest are. record {
      name = c.in_ok-name.name;
      follows = c.in_ok-name.ensures;
      moved = all_moved p.path.now c.args.to.now p.workspace.now.graph c.args.after.now p.known.now rest c.in_ok-name.name c.in_ok-swap.swap
          c.in_ok-swap.ensures _
          (b.ensures.name ∙ c.bytes.ensures) _ b.ensures.graph _ b.ensures.known are;
    }) c.moved_known.ensures
