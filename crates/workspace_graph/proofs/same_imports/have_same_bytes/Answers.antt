-- Bytes that compare equal are equal.
use Rattle.std.proofs.Common.{sym, ◌∙◌}
use Rattle.std.specs.Cmp.Lexicographic.{bytes_decides}
use Rattle.workspace_graph.proofs.same_imports.have_same_bytes.Goals as goal

pub returns : goal.returns
returns c same = (bytes_decides _ _).0 (sym c.eq.ensures ∙ same)
