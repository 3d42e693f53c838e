-- The answers to the goals of `qualifiers::qualifier_of_name`.
use Rattle.std.proofs.Common.{sym, ◌∙◌}
use Rattle.std.proofs.lemmas.Bool.{false≢true}
use Rattle.types_info.proofs.qualifiers.qualifier_of_name.Goals as goal

pub name_qualifier-requires-clause-selected : goal.name_qualifier-requires-clause-selected
name_qualifier-requires-clause-selected c = sym c.role.ensures ∙ c.is_selected.ensures.0 c.if-is_selected.true

pub returns-else-is_selected : goal.returns-else-is_selected
returns-else-is_selected c = record {
  before = λ path h. false≢true (sym c.if-is_selected.false ∙ c.is_selected.ensures.1 (c.role.ensures ∙ h.selected));
  in_range = tt;
}
