-- The invariants of the loops of `concerned::concerns`.
use Rattle.std.specs.Prelude.{map}
use Rattle.go_ast.specs.SourceFile.{source_of}
use Rattle.refactor_members.specs.Judging.{AreUncalled}
use Rattle.refactor_members.proofs.concerned.concerns.Given as goal

-- no use in the files that were passed has one of the two names
abbrev pub invariant-loop-file : goal.invariant-loop-file
invariant-loop-file l = AreUncalled l.m (map source_of l.files) l.file l.members
