-- What was passed stands before the rank.
use Rattle.std.proofs.Common.{◌≡◌, ◌+◌, length, take}
use Rattle.std.specs.List.{flat_map}
use Rattle.go_ast.specs.FileView.{decl_view}
use Rattle.build_object.specs.RankLookup.{decl_positions}
use Rattle.build_object.proofs.walks.position_in_file.Given as goal

abbrev pub invariant-loop-decl : goal.invariant-loop-decl
invariant-loop-decl l = l.rank ≡ length (flat_map (λ d. decl_positions (decl_view d)) (take l.decl-index l.decl-items)) + l.rest
