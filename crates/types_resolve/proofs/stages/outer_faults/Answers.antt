-- The answers to the goals of `stages::outer_faults`.
use Rattle.types_declared.proofs.Stages.{same_listed}
use Rattle.std.proofs.Common.{map}
use Rattle.go_ast.specs.SourceFile.{source_of}
use Rattle.types_declared.specs.States.{state_in}
use Rattle.types_resolve.specs.Stages.{IsOuterFault}
use Rattle.types_resolve.proofs.stages.outer_faults.Goals as goal

pub returns-clause-listed : goal.returns-clause-listed
returns-clause-listed c = same_listed (IsOuterFault (state_in c.args.states.now) (map source_of c.args.files.now)) c.in_ok-found.found.items
    c.sort.new.found.items c.in_ok-found.ensures c.sort.ensures.same
