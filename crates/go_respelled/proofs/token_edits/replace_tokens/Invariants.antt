-- The edits passed replace tokens. If those behind them are in order, all are.
use Rattle.std.proofs.Common.{drop, take}
use Rattle.std.specs.List.{All}
use Rattle.base_edits.specs.Edits.{AreInOrder}
use Rattle.go_respelled.specs.Replaced.{ReplacesToken}
use Rattle.go_respelled.proofs.token_edits.replace_tokens.Given as goal

abbrev pub invariant-loop-edit : goal.invariant-loop-edit
invariant-loop-edit l = record {
  order : AreInOrder l.at (drop l.edit-index l.edits) → AreInOrder 0 l.edits;
  tokens : All (ReplacesToken l.old) (take l.edit-index l.edits);
}
