-- The token goes where the edits move it.
use Rattle.std.proofs.Common.{◌≡◌, ◌≤◌, sym, ap, subst, ◌∙◌}
use Rattle.go_scanner.specs.declared.piece.Piece.{Piece}
use Rattle.base_edits.specs.PassedEdits.{ArePast}
use Rattle.go_respelled.specs.Renamings.{moved_piece}
use Rattle.go_respelled.specs.Replaced.{passed}
use Rattle.go_respelled.proofs.moved.move_next.Goals as goal

pub compact-requires : goal.compact-requires
compact-requires c =
    let is : c.move_token-step.result.1 ≡ moved_piece c.args.edits.now c.args.token.now =
    c.move_token-step.ensures.token ∙ ap (moved_piece c.args.edits.now) c.piece.ensures in
    subst (λ (p : Piece). p.span.start ≤ p.span.end) (sym is) c.requires.fits.0

pub returns-clause-token : goal.returns-clause-token
returns-clause-token c = c.in_ok-token.ensures ∙ c.move_token-step.ensures.token ∙ ap (moved_piece c.args.edits.now) c.piece.ensures

pub returns-clause-past : goal.returns-clause-past
returns-clause-past c = subst (λ (p : Piece). ArePast c.args.edits.now p.span.end (passed c.move_token-step.result.0)) c.piece.ensures
    c.move_token-step.ensures.past
