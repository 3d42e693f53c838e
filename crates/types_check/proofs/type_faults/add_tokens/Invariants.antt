-- The invariants of the loops of `type_faults::add_tokens`.
use Rattle.std.proofs.Common.{take}
use Rattle.types_declared.specs.Listing.{AddsFaults}
use Rattle.types_check.specs.TypesView.{IsAtToken}
use Rattle.types_check.proofs.type_faults.add_tokens.Given as goal

abbrev pub invariant-loop-token : goal.invariant-loop-token
invariant-loop-token l = AddsFaults l.initial.found.items l.found.items (IsAtToken l.file (take l.token-index l.tokens))
