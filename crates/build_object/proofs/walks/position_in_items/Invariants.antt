-- What was passed stands before the rank.
use Rattle.std.proofs.Common.{◌≡◌, ◌+◌, length, take}
use Rattle.std.specs.List.{flat_map}
use Rattle.go_ast.specs.FileView.{type_spec_view}
use Rattle.build_object.specs.RankLookup.{spec_positions}
use Rattle.build_object.proofs.walks.position_in_items.Given as goal

abbrev pub invariant-loop-item : goal.invariant-loop-item
invariant-loop-item l = l.rank ≡ length (flat_map (λ i. spec_positions (type_spec_view i.value)) (take l.item-index l.items)) + l.rest
