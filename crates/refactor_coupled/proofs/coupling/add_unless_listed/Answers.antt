-- The answers to the goals of `coupling::add_unless_listed`.
use Rattle.std.proofs.Common.{rules, ◌≡◌}
use Rattle.refactor_coupled.specs.Reached.{is_listed}
use Rattle.refactor_coupled.proofs.Listed.{nothing_added, one_added}
use Rattle.std.specs.Prelude.{true}
use Rattle.refactor_coupled.proofs.coupling.add_unless_listed.Goals as goal

pub returns-then-is_listed : goal.returns-then-is_listed
returns-then-is_listed c =
    let listed : is_listed c.args.set.now.items c.args.declaration ≡ true = search rules in
    nothing_added c.args.set.now.items c.args.declaration listed

pub returns : goal.returns
returns c = one_added c.args.set.now.items c.push.new.self.items c.args.declaration c.in_ok-push.ensures.items
