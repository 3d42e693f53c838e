-- The invariants of the loops of `go_mod::without_back`.
use Rattle.std.proofs.Common.{◌≡◌, ◌+◌, ◌≤◌, length, take}
use Rattle.std.specs.List.{suffix_len}
use Rattle.tool_text.specs.GoMod.{is_padding}
use Rattle.tool_text.proofs.go_mod.without_back.Given as goal

abbrev pub invariant-loop-end : goal.invariant-loop-end
invariant-loop-end l = record {
  within : l.end ≤ length l.text;
  passed : suffix_len is_padding l.text + l.end ≡ suffix_len is_padding (take l.end l.text) + length l.text;
}

abbrev pub decreases-loop-end : goal.decreases-loop-end
decreases-loop-end l = l.end
