-- The inverse fits the files of the current state, and what is kept at rest is of the files that it makes.
use Rattle.std.proofs.Common.{sym, subst}
use Rattle.base_edits.specs.Fits.{Fits}
use Rattle.history_machine.specs.State.{State}
use Rattle.history_book.proofs.states.make_move.Goals as goal

pub graph_after-requires-clause-fits : goal.graph_after-requires-clause-fits
graph_after-requires-clause-fits c = subst (λ (s : State). Fits c.args.way.now s.files) (sym c.current.view_is) c.requires.fits
