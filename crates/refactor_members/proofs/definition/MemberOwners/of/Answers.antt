-- The answers to the goals of `definition::MemberOwners::of`.
use Rattle.std.proofs.Common.{sym, subst, ap, ◌∙◌}
use Rattle.std.specs.Prelude.{None, slice_get, slice_index_or}
use Rattle.refactor_conflict.specs.MembersFound.{IsRankFound}
use Rattle.refactor_members.specs.Renames.{IsDefinitionIn, IsFieldOfDefinition, IsMethodOfDefinition}
use Rattle.refactor_members.proofs.definition.MemberOwners.of.Goals as goal

pub returns-in-Field : goal.returns-in-Field
returns-in-Field c = λ p are.
    let rank = c.in-Field.symbol.rank in
    subst (λ d. IsRankFound (IsDefinitionIn p d) c.listed_definition.result) (sym c.in-Field.is)
    (subst (IsRankFound (IsFieldOfDefinition p rank)) (sym (c.listed_definition.ensures ∙ ap (λ l. slice_get l rank) c.deref.ensures.value)) (are.fields rank))

pub returns-in-Method : goal.returns-in-Method
returns-in-Method c = λ p are.
    let rank = c.in-Method.symbol.rank in
    subst (λ d. IsRankFound (IsDefinitionIn p d) c.listed_owner.result) (sym c.in-Method.is)
    (subst (IsRankFound (IsMethodOfDefinition p rank)) (sym (c.listed_owner.ensures ∙ ap (λ l. slice_index_or l rank None) c.deref-in-Method.ensures.value))
    (are.methods rank))
