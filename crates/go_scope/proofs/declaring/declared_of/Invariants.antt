-- The invariants of the loops of `declaring::declared_of`.
use Rattle.go_scope.specs.Contents.{AreDeclaredUpTo}
use Rattle.go_scope.proofs.declaring.declared_of.Given as goal

abbrev pub invariant-loop-d : goal.invariant-loop-d
invariant-loop-d l = AreDeclaredUpTo l.identifiers l.names l.d l.declared
