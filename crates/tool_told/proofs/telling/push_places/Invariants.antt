-- The invariants of the loops of `telling::push_places`.
use Rattle.std.proofs.Common.{◌≡◌, ◌++◌, take}
use Rattle.tool_told.specs.Telling.{places_text}
use Rattle.tool_told.proofs.telling.push_places.Given as goal

abbrev pub invariant-loop-place : goal.invariant-loop-place
invariant-loop-place l = l.text.items ≡ l.fn.text.items ++ places_text l.naming (take l.place-index l.places)
