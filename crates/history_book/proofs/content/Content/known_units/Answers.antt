-- What is known is of the files of the current state.
use Rattle.std.proofs.Common.{◌≡◌, [], IfOk, sym, subst}
use Rattle.build_kept.specs.KnownUnits.{AreKnownUnits}
use Rattle.history_machine.specs.Machine.{Content}
use Rattle.history_book.proofs.content.Content.known_units.Goals as goal

pub units_in-requires : goal.units_in-requires
units_in-requires c = record {
  ready = c.self.invariant.2;
  finished = subst (λ (m : Content). AreKnownUnits m.current.files [] m.current.finished) (sym c.self.view_is) c.requires;
}

pub returns : goal.returns
returns c = subst (λ (m : Content). IfOk c.units_in.result (λ units. units ≡ m.current.files)) c.self.view_is c.units_in.ensures
