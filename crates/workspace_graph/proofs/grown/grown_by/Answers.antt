-- The rows and the importers after one came.
use Rattle.std.proofs.Common.{◌≡◌, ◌+◌, length, sym, ap, subst, ◌∙◌, arith}
use Rattle.workspace_graph.specs.Growth.{AreGrown, AreRows, IsGrowing}
use Rattle.workspace_graph.specs.Imports.{LinkTable, row_of}
use Rattle.workspace_graph.proofs.GrownLinks.{first_all, growing_importers, growing_imports, importers_grown, one_more}
use Rattle.workspace_graph.proofs.GrownLinks.{place_inside, place_one, place_path, rows_grown}
use Rattle.workspace_graph.proofs.Linked.{rows_linked}
use Rattle.workspace_graph.proofs.grown.grown_by.Goals as goal

pub grow-requires : goal.grow-requires
grow-requires c =
    let packages = c.args.grown.packages.now in
    let links = c.args.grown.links.now in
    let place = c.args.grown.place in
    let grows = c.requires.grown in
    let own = c.args.own.now in
    let importing = c.args.importing.now in
    let holds = c.requires.importing grows.one.path.items (place_path packages links place grows) in
    subst (λ (g : LinkTable). IsGrowing g place importing) (sym c.import_rows.ensures) (growing_imports packages links place grows importing holds)

pub grow-requires-2 : goal.grow-requires-2
grow-requires-2 c =
    let packages = c.args.grown.packages.now in
    let links = c.args.grown.links.now in
    let place = c.args.grown.place in
    let grows = c.requires.grown in
    let own = c.args.own.now in
    growing_importers packages links place grows c.importer_rows.result.now own grows.one c.importer_rows.ensures
    (c.requires.own grows.one (place_one packages links place grows))

pub with_importers-requires : goal.with_importers-requires
with_importers-requires c =
    let packages = c.args.grown.packages.now in
    let links = c.args.grown.links.now in
    let place = c.args.grown.place in
    let grows = c.requires.grown in
    let own = c.args.own.now in
    let importing = c.args.importing.now in
    let holds = c.requires.importing grows.one.path.items (place_path packages links place grows) in
    let grown : AreGrown place own importing links c.in_ok-imports.imports =
    subst (λ g. AreGrown place own importing g c.in_ok-imports.imports) c.import_rows.ensures c.in_ok-imports.ensures.grown in
    let count : length c.in_ok-imports.imports ≡ length links + 1 = c.in_ok-imports.ensures.count ∙ ap (λ g. length g + 1) c.import_rows.ensures in
    let rows : AreRows packages c.in_ok-imports.imports =
    rows_grown packages links place grows own importing c.in_ok-imports.imports grown count c.requires.own holds in
    let inside = place_inside packages links place grows in
    let linked = rows_linked packages c.in_ok-imports.imports rows in
    let own_is : own ≡ row_of c.in_ok-imports.imports place = sym (grown.own_row (omega (arith, inside, count, one_more packages links place grows))) in
    record {
      linked = linked;
      importers = first_all c.in_ok-imports.imports c.in_ok-importers.importers linked
          (importers_grown packages links place grows c.in_ok-imports.imports rows c.importer_rows.result.now c.in_ok-importers.importers own importing
          c.importer_rows.ensures c.in_ok-importers.ensures.grown c.in_ok-importers.ensures.count own_is holds);
    }

pub returns : goal.returns
returns c =
    let packages = c.args.grown.packages.now in
    let links = c.args.grown.links.now in
    let place = c.args.grown.place in
    let grows = c.requires.grown in
    let own = c.args.own.now in
    let importing = c.args.importing.now in
    let holds = c.requires.importing grows.one.path.items (place_path packages links place grows) in
    let grown : AreGrown place own importing links c.in_ok-imports.imports =
    subst (λ g. AreGrown place own importing g c.in_ok-imports.imports) c.import_rows.ensures c.in_ok-imports.ensures.grown in
    let count : length c.in_ok-imports.imports ≡ length links + 1 = c.in_ok-imports.ensures.count ∙ ap (λ g. length g + 1) c.import_rows.ensures in
    let rows : AreRows packages c.in_ok-imports.imports =
    rows_grown packages links place grows own importing c.in_ok-imports.imports grown count c.requires.own holds in
    subst (AreRows packages) (sym c.with_importers.ensures) rows
