-- What the loop of `plain::is_plain_file` keeps: the tokens that were passed are plain.
use Rattle.std.proofs.Common.{ℕ, ◌<◌}
use Rattle.go_ast.specs.SourceFile.{source_of}
use Rattle.refactor_move.specs.Uses.{mark_at}
use Rattle.refactor_follow.specs.PlainPackages.{IsPlainToken}
use Rattle.refactor_follow.proofs.plain.is_plain_file.Given as goal

abbrev pub invariant-loop-token : goal.invariant-loop-token
invariant-loop-token l = (i : ℕ) → i < l.token → IsPlainToken (source_of l.file) l.of.name.now l.of.old.now i (mark_at l.of.rows.now l.rank i)
