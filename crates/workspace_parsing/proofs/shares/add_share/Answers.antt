-- The share is given.
use Rattle.std.proofs.Common.{subst}
use Rattle.workspace_parsing.specs.Shares.{GivesShare}
use Rattle.workspace_parsing.proofs.shares.add_share.Goals as goal

pub with_share-requires : goal.with_share-requires
with_share-requires c = record {
  number = c.requires.number;
  below = c.requires.below;
  share = subst (GivesShare c.args.files.now c.args.number) c.in-Ok.is c.requires.share;
}
