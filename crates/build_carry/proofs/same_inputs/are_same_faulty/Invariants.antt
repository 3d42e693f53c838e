-- The files that were passed have equal paths and texts.
use Rattle.std.proofs.Common.{◌≡◌, take, map}
use Rattle.build_carry.specs.Inputs.{faulty_file}
use Rattle.build_carry.proofs.same_inputs.are_same_faulty.Given as goal

abbrev pub invariant-loop-place : goal.invariant-loop-place
invariant-loop-place l = map faulty_file (take l.place l.faulty) ≡ map faulty_file (take l.place l.others)
