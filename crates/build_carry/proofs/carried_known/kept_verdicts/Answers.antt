-- Where nothing was known nothing is; and what was known before changes nothing of what is known.
use Rattle.std.proofs.lemmas.Result.{IfOk-weaker}
use Rattle.base_files.specs.Workspace.{Workspace}
use Rattle.workspace_check.specs.Found.{KnowsVerdicts}
use Rattle.workspace_check.proofs.Telling.{known_still}
use Rattle.build_carry.proofs.carried_known.kept_verdicts.Goals as goal

pub returns-then-is_empty : goal.returns-then-is_empty
returns-then-is_empty c =
    let after = c.args.after.now in
    IfOk-weaker c.no_verdicts.result (λ nothing. (w : Workspace) → KnowsVerdicts w nothing) (KnowsVerdicts after) (λ nothing right. right after)
    c.no_verdicts.ensures

pub returns : goal.returns
returns c = known_still c.args.after.now c.in_ok-carried.carried c.keep_earlier.new.self c.keep_earlier.ensures c.in_ok-carried.ensures
