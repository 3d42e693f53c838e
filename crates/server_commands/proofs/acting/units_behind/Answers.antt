-- The names carry the units of the view's files to those of the change.
use Rattle.std.proofs.Common.{◌≡◌, List, sym, subst}
use Rattle.base_files.specs.Workspace.{Workspace}
use Rattle.workspace_snapshot.specs.declared.change.Change.{Change}
use Rattle.build_names.specs.Words.{NameChange}
use Rattle.build_kept.specs.KnownUnits.{CarriesUnits}
use Rattle.history_book.specs.CurrentUnits.{AreKnownIn}
use Rattle.server_commands.proofs.CarriedAlong.{carries_along}
use Rattle.server_commands.proofs.acting.units_behind.Goals as goal

pub carried-requires : goal.carried-requires
carried-requires c =
    let asked = c.args.asked in
    let snapshot = asked.view.now.snapshot in
    let change = c.args.planned.now.change in
    let names = c.in-Some-names_behind.names in
    let from : c.in-Some.units ≡ snapshot.files = subst (AreKnownIn snapshot.files) c.in-Some.is c.requires.known in
    let along = carries_along snapshot asked.path.now asked.offset asked.name.now names.items change c.in-Some-names_behind.ensures c.requires.planned in
    subst (λ (w : Workspace). CarriesUnits w c.get.result.now.files c.deref.result.now) (sym from)
    (subst (λ (x : Change). CarriesUnits snapshot.files x.files c.deref.result.now) (sym c.get.ensures)
    (subst (λ (cs : List NameChange). CarriesUnits snapshot.files change.files cs) (sym c.deref.ensures.value) along))

pub returns : goal.returns
returns c = subst (λ (x : Change). AreKnownIn x.files c.carried.result) c.get.ensures c.carried.ensures
