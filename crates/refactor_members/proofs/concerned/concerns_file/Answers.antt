-- The answers to the goals of `concerned::concerns_file`.
use Rattle.std.proofs.Common.{ap}
use Rattle.go_scope.specs.Named.{name_value}
use Rattle.refactor_members.proofs.concerned.concerns_file.Goals as goal

pub returns-else-has_name : goal.returns-else-has_name
returns-else-has_name c = λ none k x at. record {
  not_new = c.has_name-else-has_name.ensures none k x at;
  old = c.in-Some.called.now;
  has_old = ap name_value c.in-Some.is;
  not_old = c.has_name.ensures c.if-has_name.false k x at;
}
