-- What was passed is written before the rank.
use Rattle.std.proofs.Common.{◌≡◌, ◌+◌, length, map, take}
use Rattle.std.specs.List.{flat_map, enumerate_from}
use Rattle.go_ast.specs.SourceFile.{source_of}
use Rattle.build_object.specs.RankLookup.{file_asked}
use Rattle.build_object.proofs.walks.asked_at.Given as goal

abbrev pub invariant-loop-file : goal.invariant-loop-file
invariant-loop-file l = l.rank ≡ length (flat_map (file_asked l.path (map source_of l.files)) (take l.file (enumerate_from 0 (map source_of l.files)))) + l.rest
