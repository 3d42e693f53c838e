-- The answers to the goals of `declare::declare`.
use Rattle.go_scope.proofs.NamedSites.{declared_laid_out}
use Rattle.go_scope.proofs.declare.declare.Goals as goal

pub new-requires : goal.new-requires
new-requires c = declared_laid_out c.in_ok-list.list.items _ c.in_ok-list.ensures.sites c.in_ok-list.ensures.numbered
