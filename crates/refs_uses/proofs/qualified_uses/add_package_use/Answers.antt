-- The answers to the goals of `qualified_uses::add_package_use`.
use Rattle.std.proofs.Common.{sym, ◌∙◌}
use Rattle.std.proofs.lemmas.Bool.{false≢true}
use Rattle.types_declared.specs.PackageView.{package_of}
use Rattle.refs_binding.specs.Identifiers.{BeginsAt}
use Rattle.refs_binding.proofs.Adding.{adds_none, call_adds}
use Rattle.refs_uses.proofs.qualified_uses.add_package_use.Goals as goal

pub returns-then-is_package_use : goal.returns-then-is_package_use
returns-then-is_package_use c =
    let p = package_of c.args.unit in
    call_adds c.args.found.now.items c.add_identifier.new.found.items (λ place. BeginsAt p place.path place.offset c.args.u) _ c.add_identifier.result
    (λ place b. (b, c.is_package_use.ensures.0 c.if-is_package_use.true)) (λ place q. q.0) c.add_identifier.ensures

pub returns-else-is_package_use : goal.returns-else-is_package_use
returns-else-is_package_use c = adds_none c.args.found.now.items _ (λ place q. false≢true (sym c.if-is_package_use.false ∙ c.is_package_use.ensures.1 q.1))
