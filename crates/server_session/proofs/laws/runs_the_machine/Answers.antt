-- The answers to the goals of `laws::runs_the_machine`.
use Rattle.server_session.proofs.Runs.{exchange_runs, cut_runs}
use Rattle.server_session.proofs.laws.runs_the_machine.Goals as goal

pub returns-clause-whole : goal.returns-clause-whole
returns-clause-whole c = exchange_runs

pub returns-clause-cut : goal.returns-clause-cut
returns-clause-cut c = cut_runs
