-- The faults are those of the packages' findings.
use Rattle.server_commands.proofs.acting.find_faults.Goals as goal

pub returns-clause-faults : goal.returns-clause-faults
returns-clause-faults g c = rw c.new.ensures (c.in_ok-faults.ensures c.args.view.now.snapshot.files c.in_ok-found.ensures.findings)
