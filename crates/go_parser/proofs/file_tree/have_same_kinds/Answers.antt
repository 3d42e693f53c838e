-- The answers to the goals of `file_tree::have_same_kinds`.
use Rattle.std.proofs.Common.{sym, ◌∙◌}
use Rattle.go_parser.proofs.SameKinds.{same_tokens}
use Rattle.go_parser.proofs.file_tree.have_same_kinds.Goals as goal

pub returns : goal.returns
returns c t = sym c.in_ok-before.ensures ∙ same_tokens _ _ (sym c.eq.ensures ∙ t) ∙ c.in_ok-after.ensures
