-- The answers to the goals of `judging::judge`.
use Rattle.std.proofs.Common.{ℕ}
use Rattle.std.proofs.lemmas.Result.{IfOk-weaker}
use Rattle.base_files.specs.Workspace.{Workspace}
use Rattle.workspace_graph.specs.Graphs.{IsPackage, OfPackage}
use Rattle.workspace_check.specs.Verdicts.{Verdicts}
use Rattle.workspace_check.specs.KnownFindings.{verdicts_by}
use Rattle.workspace_check.specs.Steps.{IsJudged}
use Rattle.workspace_check.proofs.Members.{vec_empty, vec_holds}
use Rattle.workspace_check.proofs.judging.judge.Goals as goal

pub judge_read-requires : goal.judge_read-requires
judge_read-requires c = record {
  in_range = c.requires.in_range;
  files = c.package-files.ensures;
  read = vec_empty c.package-files.result.now.faulty c.is_empty.result c.is_empty.ensures c.if-is_empty.true;
  path = c.requires.path;
  cycles = c.requires.cycles;
  whole = c.requires.whole;
}

pub judge_unread-requires : goal.judge_unread-requires
judge_unread-requires c = vec_holds c.package-files.result.now.faulty c.is_empty.result c.is_empty.ensures c.if-is_empty.false

pub returns-else-is_empty : goal.returns-else-is_empty
returns-else-is_empty c =
    let w = c.args.graph.now in
    let n = c.args.number in
    IfOk-weaker c.judge_unread.result (λ j. (x : Workspace) → (m : ℕ) → (known : Verdicts) → IsPackage x m c.package-files.result.now →
    OfPackage x m (λ p. IsJudged x known p j))
    (λ j. OfPackage w n (λ p. IsJudged w (verdicts_by c.args.all.now) p j)) (λ j h. h w n (verdicts_by c.args.all.now) c.package-files.ensures)
    c.judge_unread.ensures
