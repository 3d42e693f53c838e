-- The current files are those of the content.
use Rattle.std.proofs.Common.{◌↔◌, IsTrue, subst}
use Rattle.base_edits.specs.Fits.{Fits}
use Rattle.history_machine.specs.Machine.{Content}
use Rattle.history_book.proofs.content.Content.fits.Goals as goal

pub returns : goal.returns
returns c =
    subst (λ (x : Content). IsTrue c.fit_state.result ↔ Fits c.args.edits.now x.current.files) c.self.view_is c.fit_state.ensures
