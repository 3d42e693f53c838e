-- One number fewer to find, and one more on the path.
use Rattle.std.proofs.Common.{arith}
use Rattle.std.proofs.lemmas.List.{length_push}
use Rattle.types_members.proofs.SearchTurns.{found_one}
use Rattle.types_members.proofs.search.DepthSearch.enter.Goals as goal

pub returns : goal.returns
returns c =
    let turns = c.args.self.now.turns.items in
    let path = c.args.self.now.path.items in
    let one = found_one turns c.args.number c.args.turn c.requires.missing c.requires.turn in
    rw c.in_ok-push.ensures.items (let long = length_push path (record { from = c.args.number; place = 0 }) in omega arith)
