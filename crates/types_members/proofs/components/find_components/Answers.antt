-- The answers to the goals of `components::find_components`.
use Rattle.std.proofs.Common.{sym, subst}
use Rattle.types_members.specs.Cycles.{IsReversed}
use Rattle.types_members.proofs.components.find_components.Goals as goal

pub components_of-requires : goal.components_of-requires
components_of-requires c = subst (IsReversed c.args.links.now) (sym c.deref.ensures.value) c.in_ok-back.ensures
