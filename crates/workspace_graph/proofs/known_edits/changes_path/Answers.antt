-- Paths that compare equal are equal.
use Rattle.std.proofs.Common.{sym, ◌∙◌}
use Rattle.std.specs.Cmp.Lexicographic.{bytes_decides}
use Rattle.workspace_graph.proofs.known_edits.changes_path.Goals as goal

pub returns : goal.returns
returns c same = (bytes_decides _ _).0 (sym c.eq.ensures ∙ same)
