-- The answers to the goals of `definition::owners_if_marked`.
use Rattle.std.proofs.Common.{sym, ◌∙◌}
use Rattle.std.proofs.lemmas.Bool.{false≢true}
use Rattle.refactor_members.proofs.definition.owners_if_marked.Goals as goal

pub returns-then-not-is_marked : goal.returns-then-not-is_marked
returns-then-not-is_marked c = λ marked. false≢true (sym c.if-not-is_marked.true ∙ c.is_marked.ensures.1 marked)
