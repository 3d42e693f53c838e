-- The answers to the goals of `definition::definition_by`.
use Rattle.std.proofs.Common.{sym, subst, ◌∙◌}
use Rattle.std.proofs.lemmas.Option.{none-some, same_Some}
use Rattle.refactor_members.specs.Owning.{AreOwnersIn}
use Rattle.refactor_members.proofs.definition.definition_by.Goals as goal

pub returns-in-None : goal.returns-in-None
returns-in-None c = λ owners is p are. absurd (none-some owners (sym c.in-None.is ∙ is))

pub returns-in-Some : goal.returns-in-Some
returns-in-Some c = λ owners is p are.
    c.of.ensures p (subst (AreOwnersIn p) (same_Some owners c.in-Some.owners (sym is ∙ c.in-Some.is)) are)
