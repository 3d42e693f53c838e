-- What was passed is declared before the rank.
use Rattle.std.proofs.Common.{◌≡◌, ◌+◌, length, map, take}
use Rattle.std.specs.List.{flat_map, enumerate_from}
use Rattle.go_ast.specs.SourceFile.{source_of}
use Rattle.types_declared.specs.Package.{types_in}
use Rattle.build_object.proofs.walks.type_at.Given as goal

abbrev pub invariant-loop-file : goal.invariant-loop-file
invariant-loop-file l = l.rank ≡ length (flat_map types_in (take l.file (enumerate_from 0 (map source_of l.files)))) + l.rest
