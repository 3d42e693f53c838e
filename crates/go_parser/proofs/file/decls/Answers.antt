-- The answers to the goals of `file::decls`.
use Rattle.go_parser.specs.Machine.{last, later}
use Rattle.go_ast.specs.FileView.{decl_view}
use Rattle.go_parser.specs.Spelling.{decl_spelled}
use Rattle.go_parser.proofs.MachineSteps.{exits, fails_leads, leads_to_end}
use Rattle.go_parser.proofs.StatementSteps.{leads_none, leads_push}
use Rattle.go_parser.proofs.ListedSteps.{all_none, all_push}
use Rattle.go_ast.specs.WellFormed.{IsDecl}
use Rattle.go_parser.proofs.file.decls.Goals as goal

pub decls-init : goal.decls-init
decls-init c = record { leads = leads_none decl_spelled _ c.new-decls.ensures.items; formed = all_none (λ d. IsDecl (decl_view d)) _ c.new-decls.ensures.items }

pub decls-preserved : goal.decls-preserved
decls-preserved c = record {
  leads = leads_push decl_spelled _ _ _ c.decls.invariant.leads c.in_ok-next.ensures.exact c.in_ok-push.ensures.items;
  formed = all_push (λ d. IsDecl (decl_view d)) _ _ _ c.decls.invariant.formed c.in_ok-next.ensures.formed c.in_ok-push.ensures.items;
}

pub returns-in_err-next-clause-exact : goal.returns-in_err-next-clause-exact
returns-in_err-next-clause-exact c = exits _ _ _ _ c.in_err-next.field-0.0 c.from_residual.result c.from_residual.ensures.1
    (fails_leads c.decls.invariant.leads c.in_err-next.ensures.exact)

pub returns-clause-exact : goal.returns-clause-exact
returns-clause-exact c = leads_to_end c.decls.invariant.leads
    (later (c.begins_decl.ensures.var c.decls-test.false)
    (later (c.begins_decl.ensures.type_word c.decls-test.false) (later (c.begins_decl.ensures.func c.decls-test.false) last)))

pub returns-clause-formed : goal.returns-clause-formed
returns-clause-formed c = c.decls.invariant.formed
