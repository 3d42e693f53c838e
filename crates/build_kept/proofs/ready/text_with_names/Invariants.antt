-- The invariants of the loops of `ready::text_with_names`.
use Rattle.std.proofs.Common.{◌≡◌, drop}
use Rattle.build_kept.specs.KnownUnits.{text_with_names}
use Rattle.build_kept.proofs.ready.text_with_names.Given as goal

-- the names that are left make the whole new text
abbrev pub invariant-loop-given : goal.invariant-loop-given
invariant-loop-given l = text_with_names (drop l.given-index l.names) l.renamed.items ≡ text_with_names l.names l.text
