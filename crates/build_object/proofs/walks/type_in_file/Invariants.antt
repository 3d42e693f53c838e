-- What was passed is declared before the rank.
use Rattle.std.proofs.Common.{◌≡◌, ◌+◌, length, take}
use Rattle.std.specs.List.{flat_map}
use Rattle.go_ast.specs.FileView.{decl_view}
use Rattle.types_declared.specs.Package.{decl_types}
use Rattle.build_object.proofs.walks.type_in_file.Given as goal

abbrev pub invariant-loop-decl : goal.invariant-loop-decl
invariant-loop-decl l = l.rank ≡ length (flat_map (λ d. decl_types l.file (decl_view d)) (take l.decl-index l.decl-items)) + l.rest
