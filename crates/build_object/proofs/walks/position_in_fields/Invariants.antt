-- What was passed is named before the rank.
use Rattle.std.proofs.Common.{◌≡◌, ◌+◌, length, take}
use Rattle.std.specs.List.{flat_map}
use Rattle.build_object.proofs.Walking.{field_names}
use Rattle.build_object.proofs.walks.position_in_fields.Given as goal

abbrev pub invariant-loop-field : goal.invariant-loop-field
invariant-loop-field l = l.rank ≡ length (flat_map field_names (take l.field-index l.fields)) + l.rest
