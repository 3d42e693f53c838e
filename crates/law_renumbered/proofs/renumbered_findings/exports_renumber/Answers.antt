-- The answers to the goals of `renumbered_findings::exports_renumber`.
use Rattle.law_renumbered.proofs.Laws.{exports_renumber}
use Rattle.law_renumbered.proofs.renumbered_findings.exports_renumber.Goals as goal

pub returns : goal.returns
returns c = exports_renumber
