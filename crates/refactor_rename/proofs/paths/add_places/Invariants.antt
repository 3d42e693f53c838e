-- What the loop of `paths::add_places` keeps.
use Rattle.std.proofs.Common.{take}
use Rattle.refs_binding.specs.Bindings.{AddsAll}
use Rattle.refactor_rename.specs.Changes.{IsPathOfPlace}
use Rattle.refactor_rename.proofs.paths.add_places.Given as goal

abbrev pub invariant-loop-place : goal.invariant-loop-place
invariant-loop-place l = AddsAll l.initial.paths.items l.paths.items (IsPathOfPlace (take l.place-index l.places))
