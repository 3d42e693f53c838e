-- The current state gets the table and what is known after the delivery, both of its own packages.
use Rattle.std.proofs.Common.{◌≡◌, length, sym, subst}
use Rattle.base_files.specs.Packages.{package_paths}
use Rattle.workspace_check.specs.Found.{KnowsVerdicts}
use Rattle.history_machine.specs.State.{State}
use Rattle.history_book.specs.Outcomes.{FitsState}
use Rattle.history_book.proofs.handed.take_in.Goals as goal

pub invariant_of-current : goal.invariant_of-current
invariant_of-current c =
    let has = subst (FitsState c.args.current.now) c.in-Entered.is c.requires in
    subst (λ (x : State). (length c.in-Entered.finished ≡ length (package_paths x.files)) × KnowsVerdicts x.files c.in-Entered.known) (sym c.current.view_is)
    has
