-- The answers to the goals of `progress::Progress::import_states`.
use Rattle.std.proofs.Common.{sym, subst}
use Rattle.workspace_graph.specs.Reaching.{AreBackMarks}
use Rattle.workspace_check.proofs.progress.Progress.import_states.Goals as goal

pub import_states-requires : goal.import_states-requires
import_states-requires c = record {
  in_range = c.requires.in_range;
  back = λ p at. subst (AreBackMarks c.args.graph.now p) (sym c.deref.ensures.value) (c.requires.right.back p at);
}
