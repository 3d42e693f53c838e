-- The answers to the goals of `scope_uses::add_bound`.
use Rattle.std.proofs.lemmas.Bool.{false≢true}
use Rattle.std.proofs.Common.{sym, ◌∙◌}
use Rattle.types_declared.specs.PackageView.{package_of}
use Rattle.refs_binding.specs.Identifiers.{BeginsAt}
use Rattle.refs_binding.proofs.Adding.{adds_none, call_adds}
use Rattle.refs_uses.proofs.scope_uses.add_bound.Goals as goal

pub returns-then-is_bound_to : goal.returns-then-is_bound_to
returns-then-is_bound_to c =
    let p = package_of c.args.unit in
    call_adds c.args.found.now.items c.add_identifier.new.found.items (λ place. BeginsAt p place.path place.offset c.args.u) _ c.add_identifier.result
    (λ place b. (b, c.is_bound_to.ensures.0 c.if-is_bound_to.true)) (λ place q. q.0) c.add_identifier.ensures

pub returns-else-is_bound_to : goal.returns-else-is_bound_to
returns-else-is_bound_to c = adds_none c.args.found.now.items _ (λ place q. false≢true (sym c.if-is_bound_to.false ∙ c.is_bound_to.ensures.1 q.1))
