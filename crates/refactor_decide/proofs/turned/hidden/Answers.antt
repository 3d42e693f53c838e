-- The answers to the goals of `turned::hidden`.
use Rattle.std.proofs.Common.{sym, ◌∙◌}
use Rattle.std.proofs.lemmas.Bool.{false≢true}
use Rattle.types_declared.specs.PackageView.{package_of}
use Rattle.refactor_decide.proofs.Turning.{lost, unseen}
use Rattle.refactor_decide.proofs.turned.hidden.Goals as goal

pub returns-then-is_seen : goal.returns-then-is_seen
returns-then-is_seen c = lost (package_of c.args.unit) c.args.n c.args.name.now c.requires.exported

pub returns-else-is_seen : goal.returns-else-is_seen
returns-else-is_seen c =
    unseen (package_of c.args.unit) c.args.n c.args.name.now c.requires.exported (λ seen. false≢true (sym c.if-is_seen.false ∙ c.is_seen.ensures.1 seen))
