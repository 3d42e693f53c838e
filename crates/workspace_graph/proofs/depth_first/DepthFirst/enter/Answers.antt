-- One mark more, and one more on the path.
use Rattle.std.proofs.Common.{true, arith}
use Rattle.std.proofs.Math.ListN.{set}
use Rattle.std.proofs.lemmas.List.{length-set, length_push}
use Rattle.std.proofs.lemmas.List.Sums.{count_by-le-length}
use Rattle.workspace_graph.proofs.SearchSteps.{counted_set}
use Rattle.workspace_graph.proofs.depth_first.DepthFirst.enter.Goals as goal

pub returns-clause-steps : goal.returns-clause-steps
returns-clause-steps c =
    let marks = c.args.self.now.marks.items in
    let path = c.args.self.now.path.items in
    let counted = counted_set marks c.args.number c.requires.within c.requires.clear in
    let size = length-set marks c.args.number true in
    let most = count_by-le-length (λ b. b) (set marks c.args.number true) in
    rw c.in_ok-push.ensures.items (let long = length_push path (record { number = c.args.number; next = 0 }) in omega arith)
