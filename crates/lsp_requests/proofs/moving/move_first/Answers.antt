-- The answers to the goals of `moving::move_first`.
use Rattle.std.proofs.Common.{◌∙◌, arith, refl, rules, sym, subst}
use Rattle.std.specs.Prelude.{Err, Ok, Some}
use Rattle.serde_json.specs.View.{items_view, view}
use Rattle.lsp_requests.specs.FolderMoves.{MovesOne}
use Rattle.lsp_requests.proofs.MovedFiles.{all_left, next_left, no_move_left, one_told}
use Rattle.lsp_requests.proofs.moving.move_first.Goals as goal

pub loop-file-init : goal.loop-file-init
loop-file-init g c = record {
  left = all_left c.args.sight.telling c.args.sight.view.now.snapshot (items_view c.args.files.now);
  same = refl;
}

pub move_one-requires : goal.move_one-requires
move_one-requires g c =
    subst (λ d. g.D.Desk.sees d c.args.sight.view.now.snapshot.files) (sym c.loop-file.invariant.same) c.requires

pub loop-file-preserved : goal.loop-file-preserved
loop-file-preserved g c = record {
  left = next_left c.args.sight.telling c.args.sight.view.now.snapshot c.args.files.now c.loop-file.file-index c.file-item.result
      c.loop-file-test.true c.file-item.is c.loop-file.invariant.left
      (subst (λ edits. MovesOne c.args.sight.telling c.args.sight.view.now.snapshot (view c.file-item.result) (Ok edits)) c.in-None.is
      c.in_ok-edits.ensures.told);
  same = c.move_one.ensures.same ∙ c.loop-file.invariant.same;
}

pub returns-in_err-edits-clause-told : goal.returns-in_err-edits-clause-told
returns-in_err-edits-clause-told g c =
    one_told c.args.sight.telling c.args.sight.view.now.snapshot c.args.files.now c.loop-file.file-index c.file-item.result c.loop-file-test.true
    c.file-item.is c.loop-file.invariant.left (Err c.in_err-edits.field-0.0) c.from_residual.result c.in_err-edits.ensures.told (search rules)

pub returns-in-Some-clause-told : goal.returns-in-Some-clause-told
returns-in-Some-clause-told g c =
    one_told c.args.sight.telling c.args.sight.view.now.snapshot c.args.files.now c.loop-file.file-index c.file-item.result c.loop-file-test.true
    c.file-item.is c.loop-file.invariant.left (Ok (Some c.in-Some.edits)) (Ok c.in-Some.edits)
    (subst (λ edits. MovesOne c.args.sight.telling c.args.sight.view.now.snapshot (view c.file-item.result) (Ok edits)) c.in-Some.is
    c.in_ok-edits.ensures.told) refl

pub returns-clause-told : goal.returns-clause-told
returns-clause-told g c =
    no_move_left c.args.sight.telling c.args.sight.view.now.snapshot c.args.files.now c.loop-file.file-index
    c.nothing_told.result (omega (arith, c.loop-file-test.false)) c.loop-file.invariant.left c.nothing_told.ensures
