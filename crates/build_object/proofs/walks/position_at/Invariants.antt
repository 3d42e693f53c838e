-- What was passed stands before the rank.
use Rattle.std.proofs.Common.{◌≡◌, ◌+◌, length, take}
use Rattle.std.specs.List.{flat_map}
use Rattle.go_ast.specs.SourceFile.{source_of}
use Rattle.build_object.specs.RankLookup.{file_positions}
use Rattle.build_object.proofs.walks.position_at.Given as goal

abbrev pub invariant-loop-tree : goal.invariant-loop-tree
invariant-loop-tree l = l.rank ≡ length (flat_map (λ t. file_positions (source_of t)) (take l.tree-index l.files)) + l.rest
