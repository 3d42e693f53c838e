-- The answers to the goals of `set_uses::add_names`.
use Rattle.refs_binding.specs.Binding.{DeclaresMember}
use Rattle.refs_binding.specs.Steps.{UsesIn}
use Rattle.refs_binding.specs.Workspaces.{known_in}
use Rattle.refs_binding.proofs.Adding.{adds_none}
use Rattle.refs_uses.specs.SoughtMembers.{IsPlaceOfSome}
use Rattle.refs_uses.proofs.SomeMembers.{none_declared}
use Rattle.refs_uses.proofs.set_uses.add_names.Goals as goal

pub returns-then-are_abroad : goal.returns-then-are_abroad
returns-then-are_abroad c = λ p is.
    adds_none c.args.spots.now.items (IsPlaceOfSome c.args.set.now (λ d. UsesIn p (λ u. DeclaresMember p u d)))
    (λ place x. none_declared c.args.at.workspace.now.graph (known_in c.args.at.workspace.now.findings) c.args.at.number p is x.declaration
    (c.are_abroad.ensures c.if-are_abroad.true x.declaration x.among) x.holds.0 x.holds.1.1)
