-- What the loop of `here::end_from` keeps.
use Rattle.std.proofs.Common.{◌≡◌, ◌-◌, ◌≤◌, length}
use Rattle.std.specs.List.{AllWithin}
use Rattle.refactor_rename.proofs.here.end_from.Given as goal

-- the places that were passed lie in the file
abbrev pub invariant-loop-end : goal.invariant-loop-end
invariant-loop-end l = (l.first ≤ l.end) × (l.end ≤ length l.places) × AllWithin (λ p. p.path ≡ l.path) l.places l.first l.end

abbrev pub decreases-loop-end : goal.decreases-loop-end
decreases-loop-end l = length l.places - l.end
