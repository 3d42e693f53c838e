-- What was passed stands before the rank.
use Rattle.std.proofs.Common.{◌≡◌, ◌+◌, length, map, take}
use Rattle.std.specs.List.{flat_map}
use Rattle.go_ast.specs.FileView.{decl_view}
use Rattle.go_ast.specs.SourceFile.{source_of}
use Rattle.build_object.specs.RankLookup.{decl_asked}
use Rattle.build_object.proofs.walks.asked_in_tree.Given as goal

abbrev pub invariant-loop-decl : goal.invariant-loop-decl
invariant-loop-decl l = l.rank ≡ length (flat_map (λ d. decl_asked l.place.path.now (map source_of l.place.files.now) l.place.file (decl_view d))
    (take l.decl-index l.decl-items)) + l.rest
