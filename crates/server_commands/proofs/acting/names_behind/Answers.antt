-- The names carry units over the rename that is planned on the view's snapshot.
use Rattle.std.proofs.Common.{sym, subst}
use Rattle.std.specs.Prelude.{IfSome}
use Rattle.workspace_check.specs.Found.{IsFound}
use Rattle.workspace_snapshot.specs.declared.snapshot.Snapshot.{Snapshot}
use Rattle.refactor_units.specs.CarriedNames.{CarriesPlanned}
use Rattle.server_commands.proofs.acting.names_behind.Goals as goal

pub carried_names-requires : goal.carried_names-requires
carried_names-requires c = subst (λ (s : Snapshot). IsFound s.files c.args.asked.found.now) (sym c.get.ensures) c.requires

pub returns-in-Ok : goal.returns-in-Ok
returns-in-Ok c =
    let asked = c.args.asked in
    subst (λ (s : Snapshot). IfSome c.in-Ok.names (λ given. CarriesPlanned s asked.path.now asked.offset asked.name.now given.items))
    c.get.ensures c.in-Ok.ensures.carries
