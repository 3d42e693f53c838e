-- What was passed stands before the rank.
use Rattle.std.proofs.Common.{◌≡◌, ◌+◌, length, map, take}
use Rattle.std.specs.List.{flat_map}
use Rattle.go_ast.specs.FileView.{type_spec_view}
use Rattle.go_ast.specs.SourceFile.{source_of}
use Rattle.types_declared.specs.Package.{placed_type}
use Rattle.build_object.specs.Names.{asked_names_in}
use Rattle.build_object.proofs.walks.asked_in_items.Given as goal

abbrev pub invariant-loop-item : goal.invariant-loop-item
invariant-loop-item l = l.rank ≡ length (flat_map (λ i. asked_names_in l.place.path.now (map source_of l.place.files.now)
    (placed_type l.place.file (type_spec_view i.value))) (take l.item-index l.items)) + l.rest
