-- The answers to the goals of `swap::Swap::verdict`.
use Rattle.std.proofs.Common.{◌≡◌, ap, sym, subst, ◌∙◌}
use Rattle.std.specs.Prelude.{IfSome, Some, option_copied}
use Rattle.types_declared.specs.ExportTablesView.{export_data_in, export_data_of, name_in}
use Rattle.refactor_known.specs.MovedData.{moved_data}
use Rattle.refactor_known.specs.MovedKnown.{IsMovedFinding}
use Rattle.refactor_known.specs.Swaps.{map_of}
use Rattle.refactor_known.proofs.Verdicts.{verdict_is}
use Rattle.refactor_known.proofs.swap.Swap.verdict.Goals as goal

pub returns : goal.returns
returns c =
    let from = c.args.self.now.from in
    let name = option_copied c.args.name in
    let g = map_of c.args.self.now in
    let own = c.in-Some.own.now in
    let moved = c.in_ok-own.own in
    let finding = c.in-Some-2.finding in
    let table = c.in_ok-table.table in
    verdict_is from name g c.args.one.now own moved finding table c.in_ok-new.field-0
    (sym c.known.ensures ∙ sym c.get.ensures ∙ ap option_copied c.in-Some.is)
    (subst (λ f. IsMovedFinding g f finding) c.finding.ensures
    (subst (λ o. IfSome o (λ x. IsMovedFinding g c.finding.result.now x)) c.in-Some-2.is c.in_ok-finding.ensures))
    (subst (λ r. export_data_of (g r) moved ≡ moved_data from name g r (export_data_of r own)) (c.path-2.ensures ∙ c.path.ensures) c.in_ok-own.ensures)
    (subst (λ r. export_data_in table r ≡ export_data_of r moved) c.path-3.ensures c.in_ok-table.ensures.own)
    (subst (λ r. name_in table r ≡ Some moved.scope.name.items) c.path-3.ensures c.in_ok-table.ensures.name) c.in_ok-new.ensures.finding
    c.in_ok-new.ensures.known
