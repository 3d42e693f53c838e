-- The answers to the goals of `reuse::PassedPackages::is_marked_below`.
use Rattle.std.proofs.Common.{not, sym, ap, ◌∙◌}
use Rattle.std.proofs.lemmas.Bool.{false≢true}
use Rattle.workspace_check.proofs.reuse.PassedPackages.is_marked_below.Goals as goal

pub returns : goal.returns
returns c = λ t affected. false≢true (sym (ap not (c.is_marked.ensures.1 (rw c.deref.ensures.value affected))) ∙ t)
