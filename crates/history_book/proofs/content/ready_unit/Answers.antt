-- What is known is of the files of the state.
use Rattle.std.proofs.Common.{◌≡◌, IfOk, subst}
use Rattle.base_files.specs.Workspace.{Workspace}
use Rattle.build_unit.specs.Units.{IsUnitAt}
use Rattle.build_kept.proofs.KnownBefore.{none_told}
use Rattle.history_book.specs.CurrentUnits.{AreKnownIn}
use Rattle.history_book.proofs.content.ready_unit.Goals as goal

pub returns-in-Some : goal.returns-in-Some
returns-in-Some c =
    let same : c.in-Some.known ≡ c.args.state.now.files = subst (AreKnownIn c.args.state.now.files) c.in-Some.is c.requires in
    subst (λ (w : Workspace). IfOk c.unit.result (IsUnitAt w c.args.number)) same c.unit.ensures

pub returns-in-None : goal.returns-in-None
returns-in-None c = none_told c.args.state.now.files c.args.number
