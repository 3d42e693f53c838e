-- The invariants of the loops of `moving::move_first`.
use Rattle.std.proofs.Common.{◌≡◌, drop}
use Rattle.serde_json.specs.View.{items_view}
use Rattle.lsp_requests.proofs.MovedFiles.{TellsLeft}
use Rattle.lsp_requests.proofs.moving.move_first.Given as goal

-- the renames that are left tell the answer, and the desk is as it was
abbrev pub invariant-loop-file : goal.invariant-loop-file
invariant-loop-file g l = record {
  left : TellsLeft l.sight.telling l.sight.view.now.snapshot (items_view l.files) (items_view (drop l.file-index l.files));
  same : l.desk ≡ l.initial.desk;
}
