-- The answers to the goals of `faults::faults_seen`.
use Rattle.lsp_requests.proofs.faults.faults_seen.Goals as goal

pub returns-clause-faults : goal.returns-clause-faults
returns-clause-faults g c = c.in_ok-list.ensures c.args.view.now.snapshot.files c.in_ok-found.ensures.findings
