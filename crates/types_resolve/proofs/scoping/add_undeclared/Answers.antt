-- The answers to the goals of `scoping::add_undeclared`.
use Rattle.std.proofs.Common.{◌≡◌, ◌∙◌, sym, IsTrue}
use Rattle.types_declared.proofs.Listings.{call_adds}
use Rattle.types_resolve.specs.Scoping.{IsUndeclared}
use Rattle.types_declared.specs.Laid.{laid_in}
use Rattle.types_resolve.proofs.scoping.add_undeclared.Goals as goal

pub returns : goal.returns
returns c =
    call_adds c.args.found.now.items c.push_if.new.found.items (λ f. IsTrue c.is_undeclared.result × (f ≡ c.fault_at-fault.result))
    (IsUndeclared (laid_in c.args.table.now) c.args.u)
    c.push_if.result c.push_if.ensures
    (λ f h. let b = c.is_undeclared.ensures.0 h.0 in record { at = h.1 ∙ c.fault_at-fault.ensures; is_use = b.0; unbound = b.1 })
    (λ f h. (c.is_undeclared.ensures.1 (h.is_use, h.unbound), h.at ∙ sym c.fault_at-fault.ensures))
