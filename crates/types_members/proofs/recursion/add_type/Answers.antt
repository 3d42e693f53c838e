-- The answers to the goals of `recursion::add_type`.
use Rattle.types_members.proofs.Holding.{items_none, items_one}
use Rattle.types_members.proofs.recursion.add_type.Goals as goal

pub returns-in-None : goal.returns-in-None
returns-in-None c = items_none c.args.found.now.items _ c.in-None.ensures

pub returns-in_ok-push-in-Some : goal.returns-in_ok-push-in-Some
returns-in_ok-push-in-Some c = items_one c.args.found.now.items c.push.new.self.items c.in-Some.rank _ c.in_ok-push-in-Some.ensures.items
    c.in-Some.ensures.0 c.in-Some.ensures.1
