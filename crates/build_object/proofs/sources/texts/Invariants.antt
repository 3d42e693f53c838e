-- The invariants of the loops of `sources::texts`.
use Rattle.std.specs.Prelude.{None, option_map}
use Rattle.go_ast.specs.SourceFile.{source_of}
use Rattle.build_object.specs.Sources.{IsTextAt}
use Rattle.build_object.proofs.Tables.{IsTableBelow}
use Rattle.build_object.proofs.sources.texts.Given as goal

abbrev pub invariant-loop-token : goal.invariant-loop-token
invariant-loop-token l = IsTableBelow (λ token value. IsTextAt (source_of l.file) token (option_map (λ v. v.items) value)) None l.token l.texts.items
