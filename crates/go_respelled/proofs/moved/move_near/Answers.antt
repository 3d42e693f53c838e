-- The cursor moves the token.
use Rattle.go_respelled.proofs.Walked.{fits_near, moved_near, past_near}
use Rattle.go_respelled.proofs.moved.move_near.Goals as goal

pub moved_by-requires-clause-fits : goal.moved_by-requires-clause-fits
moved_by-requires-clause-fits c = fits_near c.args.edits.now c.args.at.cursor c.args.at.limit c.args.token.now c.requires.past c.requires.order
    c.requires.near c.requires.moves c.requires.fits

pub returns-clause-token : goal.returns-clause-token
returns-clause-token c = moved_near c.args.edits.now c.args.at.cursor c.args.at.limit c.args.token.now c.in_ok-moved.moved c.requires.past c.requires.order
    c.requires.near c.requires.moves c.in_ok-moved.ensures
