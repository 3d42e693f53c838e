-- The answers to the goals of `parsed::faulty`.
use Rattle.std.proofs.Common.{sym, subst}
use Rattle.go_scanner.specs.declared.refusal.TextFault.{TextFault}
use Rattle.go_ast.specs.Faults.{IsFaultOf}
use Rattle.workspace_graph.proofs.parsed.faulty.Goals as goal

pub returns : goal.returns
returns c = record {
  of_path = c.in_ok-file.ensures.path;
  of_text = c.in_ok-file.ensures.text;
  is_fault = subst (λ (fault : TextFault). IsFaultOf c.args.text.now fault) (sym c.in_ok-file.ensures.fault) c.requires;
}
