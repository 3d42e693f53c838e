-- The share is that of the bytes that were passed.
use Rattle.std.proofs.Common.{◌≡◌, ◌<◌, take}
use Rattle.workspace_parsing.specs.Shares.{share_count, share_of}
use Rattle.workspace_parsing.proofs.shares.share_of.Given as goal

abbrev pub invariant-loop-byte : goal.invariant-loop-byte
invariant-loop-byte l = record {
  is : l.share ≡ share_of (take l.byte-index l.folder);
  below : l.share < share_count;
}
