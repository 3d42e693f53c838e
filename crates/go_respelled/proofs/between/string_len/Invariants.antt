-- What is left becomes less.
use Rattle.std.proofs.Common.{◌-◌, length}
use Rattle.go_respelled.proofs.between.string_len.Given as goal

abbrev pub decreases-loop-n : goal.decreases-loop-n
decreases-loop-n l = length l.bytes - l.n
