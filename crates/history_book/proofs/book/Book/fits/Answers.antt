-- The current files are those of the content.
use Rattle.std.proofs.Common.{◌↔◌, IsTrue, subst}
use Rattle.base_edits.specs.Fits.{Fits}
use Rattle.history_machine.specs.Machine.{Machine}
use Rattle.history_book.proofs.book.Book.fits.Goals as goal

pub returns : goal.returns
returns c = subst (λ (m : Machine). IsTrue c.fits.result ↔ Fits c.args.edits.now m.current.files) c.self.view_is c.fits.ensures
