-- What the loop of `plain::are_plain` keeps: the files that were passed are plain.
use Rattle.std.proofs.Common.{ℕ, ◌≡◌, ◌<◌, Some, map}
use Rattle.std.specs.Prelude.{slice_get}
use Rattle.go_ast.specs.SourceFile.{SourceFile, source_of}
use Rattle.refactor_follow.specs.PlainPackages.{IsPlainFile}
use Rattle.refactor_follow.proofs.plain.are_plain.Given as goal

abbrev pub invariant-loop-rank : goal.invariant-loop-rank
invariant-loop-rank l = (rank : ℕ) → rank < l.rank → (f : SourceFile) → slice_get (map source_of l.files) rank ≡ Some f →
    IsPlainFile f l.of.name.now l.of.old.now rank l.of.rows.now
