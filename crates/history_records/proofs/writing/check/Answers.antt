-- The first bytes of the digest.
use Rattle.std.proofs.Common.{List, ℕ, ap, take, ◌∙◌}
use Rattle.history_records.specs.Records.{check_of}
use Rattle.history_records.proofs.writing.check.Goals as goal

pub returns : goal.returns
unfolding check_of
returns c = c.copy_from_slice.ensures.after ∙ ap (λ (x : List ℕ). take 8 x) c.digest-digest.ensures
