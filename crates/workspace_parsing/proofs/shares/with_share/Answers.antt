-- The share takes the place of its folders.
use Rattle.std.proofs.Common.{◌+◌}
use Rattle.workspace_parsing.proofs.JoinedParts.{same_inside, stays_outside}
use Rattle.workspace_parsing.proofs.Kept.{part_given}
use Rattle.workspace_parsing.proofs.shares.with_share.Goals as goal

pub with_packages-requires : goal.with_packages-requires
with_packages-requires c =
    let w = c.args.files.now in
    let n = c.args.number in
    record {
      differs = stays_outside w n c.args.below.now c.args.share.now c.in_ok-part.part c.requires.below c.requires.share c.in_ok-part.ensures;
      same = same_inside w n c.args.below.now c.args.share.now c.in_ok-part.part c.requires.below c.requires.share c.in_ok-part.ensures;
    }

pub returns : goal.returns
returns c = part_given c.args.files.now c.in_ok-part.part 0 (c.args.number + 1) c.with_packages.result c.in_ok-part.ensures c.with_packages.ensures
