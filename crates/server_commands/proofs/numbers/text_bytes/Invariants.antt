-- The bytes that are counted, and those of the texts that are left, are those of all texts.
use Rattle.std.specs.Prelude.{◌≡◌, ◌+◌, ◌-◌, ◌≤◌, ◌^◌, length, sum_by}
use Rattle.std.specs.Io.Iter.{u64_saturate}
use Rattle.workspace_snapshot.specs.Fits.{total_bytes}
use Rattle.server_commands.proofs.numbers.text_bytes.Given as goal

abbrev pub invariant-loop-text : goal.invariant-loop-text
invariant-loop-text l =
    (u64_saturate (total_bytes l.files) ≡ u64_saturate (l.bytes + sum_by (λ e. length e.1) l.text-iterator)) × (l.bytes ≤ 2 ^ 64 - 1)
