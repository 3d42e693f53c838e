-- The change itself.
use Rattle.std.proofs.Common.{refl, sym, ◌∙◌}
use Rattle.workspace_graph.proofs.known_edits.staying_at.Goals as goal

pub returns-then-keeps_its_path : goal.returns-then-keeps_its_path
returns-then-keeps_its_path c = (
  refl,
  c.changes_path.ensures c.if-not-changes_path.false,
  sym c.keeps_its_path.ensures ∙ c.if-keeps_its_path.true,
)
