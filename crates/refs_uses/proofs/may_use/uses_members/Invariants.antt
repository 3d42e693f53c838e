-- What the loop of `may_use::uses_members` keeps.
use Rattle.std.proofs.Common.{ℕ, ◌≡◌, ◌<◌, []}
use Rattle.std.specs.Prelude.{slice_get}
use Rattle.refs_binding.specs.Members.{uses_or_none}
use Rattle.refs_uses.proofs.may_use.uses_members.Given as goal

-- the files that were passed use no member
abbrev pub invariant-loop-uses : goal.invariant-loop-uses
invariant-loop-uses l = (file : ℕ) → file < l.uses-index → uses_or_none (slice_get l.members file) ≡ []
