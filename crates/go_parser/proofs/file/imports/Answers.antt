-- The answers to the goals of `file::imports`.
use Rattle.std.proofs.Common.{sym, ◌∙◌}
use Rattle.go_parser.specs.Machine.{last, later}
use Rattle.go_ast.specs.FileView.{imports_view}
use Rattle.go_parser.specs.Spelling.{imports_spelled}
use Rattle.go_parser.proofs.MachineSteps.{exits, fails_leads}
use Rattle.go_parser.proofs.StatementSteps.{leads_next, leads_none, leads_push}
use Rattle.go_parser.proofs.ListedSteps.{all_none, all_push}
use Rattle.go_ast.specs.WellFormed.{IsImports}
use Rattle.go_parser.proofs.file.imports.Goals as goal

pub imports-init : goal.imports-init
imports-init c = record {
  leads = leads_none imports_spelled _ c.new-imports.ensures.items;
  formed =
      all_none (λ i. IsImports (imports_view i)) _ c.new-imports.ensures.items;
}

pub imports-preserved : goal.imports-preserved
imports-preserved c = record {
  leads = leads_push imports_spelled _ _ _ c.imports.invariant.leads c.in_ok-next.ensures.exact c.in_ok-push.ensures.items;
  formed = all_push (λ i. IsImports (imports_view i)) _ _ _ c.imports.invariant.formed c.in_ok-next.ensures.formed c.in_ok-push.ensures.items;
}

pub returns-in_err-next-clause-exact : goal.returns-in_err-next-clause-exact
returns-in_err-next-clause-exact c = exits _ _ _ _ c.in_err-next.field-0.0 c.from_residual.result c.from_residual.ensures.1
    (fails_leads c.imports.invariant.leads c.in_err-next.ensures.exact)

pub returns-clause-exact : goal.returns-clause-exact
returns-clause-exact c = leads_next c.imports.invariant.leads (later (sym c.at.ensures ∙ c.imports-test.false) last)

pub returns-clause-formed : goal.returns-clause-formed
returns-clause-formed c = c.imports.invariant.formed
