-- The answers to the goals of `laws::machine_is_exact`.
use Rattle.go_parser.proofs.EndOfText.{file_stops}
use Rattle.go_parser.proofs.Predictive.{accepts, file_deep}
use Rattle.go_parser.proofs.Shallow.{file_shallow}
use Rattle.go_parser.proofs.laws.machine_is_exact.Goals as goal

pub returns-clause-taken : goal.returns-clause-taken
returns-clause-taken c = λ ts r. accepts r

pub returns-clause-stopped : goal.returns-clause-stopped
returns-clause-stopped c = λ ts left r. file_stops r

pub returns-clause-nested : goal.returns-clause-nested
returns-clause-nested c = λ ts left r. file_deep r

pub returns-clause-shallow : goal.returns-clause-shallow
returns-clause-shallow c = λ ts r x. file_shallow r x
