-- The answers to the goals of `scoping::add_unused`.
use Rattle.std.proofs.Common.{◌≡◌, ◌∙◌, sym, ap, IsTrue}
use Rattle.base_files.specs.declared.fault_kind.FaultKind.TheVariants as kind
use Rattle.types_declared.proofs.Listings.{call_adds}
use Rattle.types_resolve.specs.Scoping.{fault_at, IsUnused}
use Rattle.types_declared.specs.Laid.{laid_in}
use Rattle.types_resolve.proofs.scoping.add_unused.Goals as goal

pub returns : goal.returns
returns c =
    let same = c.fault_at-fault.ensures ∙ ap (λ u. fault_at (laid_in c.args.table.now).layout u kind.Unused) c.literal_of.ensures.literal in
    call_adds c.args.found.now.items c.push_if.new.found.items (λ f. IsTrue c.is_unused.result × (f ≡ c.fault_at-fault.result))
    (IsUnused (laid_in c.args.table.now) c.args.d)
    c.push_if.result c.push_if.ensures
    (λ f h. let b = c.is_unused.ensures.0 h.0 in record { at = h.1 ∙ same; is_import = b.0; unused = b.1 })
    (λ f h. (c.is_unused.ensures.1 (h.is_import, h.unused), h.at ∙ sym same))
