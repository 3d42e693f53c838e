-- The answers to the goals of `found_package::found_package`.
use Rattle.std.proofs.Common.{refl, sym, ap, ◌∙◌}
use Rattle.std.specs.Prelude.{Some}
use Rattle.workspace_check.specs.declared.finding.Finding.{Finding}
use Rattle.workspace_check.proofs.found_package.found_package.Goals as goal

pub returns : goal.returns
returns c = record {
  finding = c.finding_there.ensures ∙ ap (λ (f : Finding). Some (Some f)) (sym c.in_ok-finding.ensures.cases);
  export_table = refl;
  found = refl;
}
