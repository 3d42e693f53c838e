-- The answers to the goals of `placing::add_placed`.
use Rattle.std.proofs.Common.{refl, sym, ap, ◌∙◌}
use Rattle.std.specs.Prelude.{Some, length}
use Rattle.std.proofs.lemmas.Option.{slice_get-get_or, slice_get_past}
use Rattle.base_lemmas.proofs.Tests.{not_below}
use Rattle.go_ast.specs.SourceFile.{source_of}
use Rattle.workspace_check.proofs.Placed.{placed_as, placed_nowhere, placed_here}
use Rattle.workspace_check.proofs.placing.add_placed.Goals as goal

pub returns-in-None : goal.returns-in-None
returns-in-None c = placed_nowhere c.args.files.now c.args.fault.now c.args.found.now.items
    (slice_get_past c.args.files.now c.args.fault.now.file (not_below c.args.fault.now.file (length c.args.files.now) c.in-None.ensures.lookup.2))

pub returns-in_ok-push-in-Some : goal.returns-in_ok-push-in-Some
returns-in_ok-push-in-Some c =
    let files = c.args.files.now in
    let x = c.args.fault.now in
    let file = c.in-Some.file.now in
    placed_here files x file c.args.found.now.items c.push.new.self.items _
    (slice_get-get_or files x.file file c.in-Some.ensures.lookup.3.0 ∙ ap Some (sym c.in-Some.ensures.lookup.1))
    (placed_as (source_of file) x _ (c.in_ok-path-in-Some.ensures.cases ∙ c.path.ensures) c.offset-offset.ensures refl) c.in_ok-push-in-Some.ensures.items
