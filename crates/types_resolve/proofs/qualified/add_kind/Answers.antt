-- The answers to the goals of `qualified::add_kind`.
use Rattle.std.proofs.Common.{◌≡◌, ◌∙◌, ap, sym}
use Rattle.std.specs.Prelude.{Some}
use Rattle.base_files.specs.declared.fault_kind.FaultKind.{FaultKind}
use Rattle.types_declared.proofs.Listings.{call_adds, fault_from}
use Rattle.types_declared.specs.Laid.{laid_in}
use Rattle.types_resolve.specs.QualifiedParts.{IsFaultOfKind}
use Rattle.types_resolve.proofs.qualified.add_kind.Goals as goal

same_kind : (k j : FaultKind) → Some k ≡ Some j → k ≡ j
same_kind k j e = cc

pub returns-in-Some : goal.returns-in-Some
returns-in-Some c =
    let p = laid_in c.args.table.now in
    let at = p.layout.place c.args.u in
    call_adds c.args.found.now.items c.push.new.found.items (λ f. f ≡ c.fault_at.result) (IsFaultOfKind p c.args.u c.args.kind) c.push.result c.push.ensures
    (λ f e. let is = e ∙ c.fault_at.ensures in record {
      file = ap (λ x. x.file) is;
      token = ap (λ x. x.token) is;
      is_kind = c.in-Some.is ∙
          ap (λ x. Some x.kind) (sym is);
    })
    (λ f h. fault_from f at.file at.index c.in-Some.kind h.file h.token (same_kind f.kind c.in-Some.kind (sym h.is_kind ∙ c.in-Some.is)) ∙
    sym c.fault_at.ensures)
