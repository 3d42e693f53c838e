-- The answers to the goals of `scoping::add_repeated`.
use Rattle.std.proofs.Common.{◌≡◌, ◌∙◌, sym, IsTrue}
use Rattle.types_declared.proofs.Listings.{call_adds}
use Rattle.types_resolve.specs.Scoping.{IsRepeated}
use Rattle.types_declared.specs.Laid.{laid_in}
use Rattle.types_resolve.proofs.scoping.add_repeated.Goals as goal

pub returns : goal.returns
returns c =
    call_adds c.args.found.now.items c.push_if.new.found.items (λ f. IsTrue c.is_repetition.result × (f ≡ c.fault_at-fault.result))
    (IsRepeated (laid_in c.args.table.now) c.args.u)
    c.push_if.result c.push_if.ensures
    (λ f h. record { at = h.1 ∙ c.fault_at-fault.ensures; repeats = c.is_repetition.ensures.0 h.0 })
    (λ f h. (c.is_repetition.ensures.1 h.repeats, h.at ∙ sym c.fault_at-fault.ensures))
