-- What is found by the marks of what the package reaches.
use Rattle.std.proofs.Common.{◌<◌, ℕ, sym, subst, ◌∙◌}
use Rattle.std.proofs.lemmas.Result.{IfOk-weaker}
use Rattle.workspace_graph.specs.Search.{UnmarksBelow}
use Rattle.workspace_graph.proofs.Reached.{noted_linked}
use Rattle.workspace_graph.proofs.closure.back_marks.Goals as goal

pub back_from-requires : goal.back_from-requires
back_from-requires c =
    let size = c.requires.back.size in
    record {
      linked = noted_linked c.args.imports.now c.args.importers.now c.requires.linked c.requires.back;
      number = subst (λ (n : ℕ). c.args.number < n) (sym size) c.requires.number;
      size = c.in_ok-reached.ensures.size ∙ sym size;
    }

pub returns : goal.returns
returns c =
    let g = c.args.imports.now in
    IfOk-weaker c.back_from.result _ (λ back. UnmarksBelow g c.args.number back.items)
    (λ back tells. tells g c.requires.linked c.requires.back c.in_ok-reached.ensures.reached) c.back_from.ensures
