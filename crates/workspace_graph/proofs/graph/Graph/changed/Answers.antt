-- No edits are known.
use Rattle.std.proofs.lemmas.List.Elements.{All-nil}
use Rattle.workspace_graph.specs.KnownEdits.{EditsMake}
use Rattle.workspace_graph.proofs.graph.Graph.changed.Goals as goal

pub changed_by_edits-requires-clause-edits : goal.changed_by_edits-requires-clause-edits
changed_by_edits-requires-clause-edits c = All-nil (EditsMake c.args.before.now c.args.files)
