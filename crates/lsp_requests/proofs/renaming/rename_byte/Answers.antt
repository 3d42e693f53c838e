-- The answers to the goals of `renaming::rename_byte`.
use Rattle.std.proofs.Common.{sym, subst}
use Rattle.std.specs.Prelude.{Err, Ok}
use Rattle.std.proofs.lemmas.Result.{IfOk-at_ok}
use Rattle.refactor_affected.specs.Renames.{PlansAffectedRename}
use Rattle.refactor_preserve.specs.declared.planned.Planned.{Planned}
use Rattle.server_commands.proofs.Based.{known_rename_based}
use Rattle.lsp_requests.specs.Committing.{CommitsTold}
use Rattle.lsp_requests.proofs.renaming.rename_byte.Goals as goal

pub commit_told-requires-clause-seen : goal.commit_told-requires-clause-seen
commit_told-requires-clause-seen g c =
    let shown = c.args.sight.view.now.snapshot in
    let sees = g.D.Desk.sees c.rename_plan.new.desk in
    IfOk-at_ok (λ (p : Planned). sees p.change.base) c.in-Ok.is
    (known_rename_based sees shown (subst (λ d. g.D.Desk.sees d shown.files) (sym c.rename_plan.ensures.same) c.requires) c.as_str.result.now
    c.args.at.now.offset c.args.name.now c.rename_plan.result c.rename_plan.ensures.planned)

pub returns-in-Ok : goal.returns-in-Ok
returns-in-Ok g c =
    let change = c.in-Ok.planned.change in (
      Ok change,
      subst (λ path. PlansAffectedRename c.args.sight.view.now.snapshot path c.args.at.now.offset c.args.name.now (Ok change)) c.as_str.ensures.text
          c.in-Ok.ensures.planned,
      subst (λ d. CommitsTold g.D.Desk.steps d c.args.sight.telling c.args.sight.view.now (Ok change) c.commit_told.result c.commit_told.new.desk)
          c.rename_plan.ensures.same c.commit_told.ensures,
    )

pub returns-in-Err : goal.returns-in-Err
returns-in-Err g c = (
  Err c.in-Err.refusal,
  subst (λ path. PlansAffectedRename c.args.sight.view.now.snapshot path c.args.at.now.offset c.args.name.now (Err c.in-Err.refusal))
      c.as_str.ensures.text c.in-Err.ensures.planned,
  ((cc), c.rename_plan.ensures.same),
)
