-- The packages of both that were passed are those with the numbers of their places.
use Rattle.build_carry.proofs.SameInputs.{AreAlike}
use Rattle.build_carry.proofs.same_inputs.are_packages_of_both.Given as goal

abbrev pub invariant-loop-place : goal.invariant-loop-place
invariant-loop-place l = record {
  first : AreAlike l.graph l.numbers l.first l.place;
  second : AreAlike l.graph l.numbers l.second l.place;
}
