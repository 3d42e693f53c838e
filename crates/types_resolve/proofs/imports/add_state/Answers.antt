-- The answers to the goals of `imports::add_state`.
use Rattle.std.proofs.Common.{◌≡◌, ◌∙◌, ap, sym}
use Rattle.std.specs.Prelude.{Some}
use Rattle.base_files.specs.declared.fault_kind.FaultKind.{FaultKind}
use Rattle.types_declared.proofs.Listings.{call_adds, make, fault_from}
use Rattle.types_resolve.specs.Imports.{IsFaultOfState}
use Rattle.types_declared.specs.States.{import_fault}
use Rattle.types_resolve.proofs.imports.add_state.Goals as goal

same_kind : (k j : FaultKind) → Some k ≡ Some j → k ≡ j
same_kind k j e = cc

pub returns-in-Some : goal.returns-in-Some
returns-in-Some c =
    let some : import_fault c.args.state ≡ Some c.in-Some.kind = sym c.fault.ensures ∙ c.in-Some.is in
    call_adds c.args.found.now.items c.push.new.found.items (λ f. f ≡ make c.args.rank c.args.token c.in-Some.kind)
    (IsFaultOfState c.args.rank c.args.token c.args.state) c.push.result c.push.ensures
    (λ f e. record { in_file = ap (λ x. x.file) e; at_token = ap (λ x. x.token) e; kind = some ∙ ap (λ x. Some x.kind) (sym e) })
    (λ f h. fault_from f c.args.rank c.args.token c.in-Some.kind h.in_file h.at_token (same_kind f.kind c.in-Some.kind (sym h.kind ∙ some)))
