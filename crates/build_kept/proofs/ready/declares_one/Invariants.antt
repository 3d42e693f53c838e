-- The invariants of the loops of `ready::declares_one`.
use Rattle.std.proofs.Common.{◌≡◌, take}
use Rattle.std.specs.List.{Contains}
use Rattle.build_names.specs.Words.{NameChange}
use Rattle.build_kept.proofs.ready.declares_one.Given as goal

-- no name before this one is given in the package
abbrev pub invariant-loop-given : goal.invariant-loop-given
invariant-loop-given l = (d : NameChange) → Contains (take l.given-index l.names) d → d.path ≡ l.path → ⊥
