-- One share more, and all at the end.
use Rattle.std.proofs.Common.{◌<◌, length, sym, subst, arith}
use Rattle.workspace_parsing.specs.Shares.{GivesShare}
use Rattle.workspace_parsing.proofs.JoinedParts.{all_files, no_files}
use Rattle.workspace_parsing.proofs.together.all_shares.Goals as goal

pub loop-number-init : goal.loop-number-init
loop-number-init c = no_files c.args.files.now c.in_ok-graph.graph c.in_ok-graph.ensures

pub add_share-requires : goal.add_share-requires
add_share-requires c =
    let w = c.args.files.now in
    let n = c.loop-number.number in
    let one = c.index-shares-number.result in
    let below : n < length c.args.shares.now = omega (arith, c.loop-number-test.true) in
    record {
      number = omega (arith, c.loop-number-test.true, c.requires.size);
      below = c.loop-number.invariant;
      share = subst (GivesShare w n) (sym c.index-shares-number.is) (c.requires.shares n one below);
    }

pub returns : goal.returns
returns c = all_files c.args.files.now c.loop-number.graph c.loop-number.number (omega (
  arith,
  c.loop-number-test.false,
  c.loop-number.auto.number-end,
  c.requires.size,
)) c.loop-number.invariant
