-- The answers to the goals of `preparing::prepare_named`.
use Rattle.std.proofs.Common.{subst}
use Rattle.refactor_affected.specs.Renames.{PlansAffectedRename}
use Rattle.refactor_preserve.specs.Planned.{change_in}
use Rattle.lsp_requests.proofs.preparing.prepare_named.Goals as goal

pub returns-clause-told : goal.returns-clause-told
returns-clause-told g c =
    let planned = change_in c.rename_plan-planned.result in (
      planned,
      subst (λ path. PlansAffectedRename c.args.sight.view.now.snapshot path c.args.at.now.offset c.args.name.now planned) c.as_str.ensures.text
          c.rename_plan-planned.ensures.planned,
      c.told_whether.ensures,
    )
