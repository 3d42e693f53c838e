-- The answers to the goals of `gained::bindings_stay_where_an_import_gains_a_name`.
use Rattle.law_rename.proofs.Bound.{bound_gained, bound_to_nothing, counts_gained, import_named, names_stay, nothing_bound}
use Rattle.law_rename.proofs.gained.bindings_stay_where_an_import_gains_a_name.Goals as goal

pub returns-clause-bound : goal.returns-clause-bound
returns-clause-bound c = bound_gained

pub returns-clause-counts : goal.returns-clause-counts
returns-clause-counts c = counts_gained

pub returns-clause-literal_bound : goal.returns-clause-literal_bound
returns-clause-literal_bound c = nothing_bound

pub returns-clause-bound_to_literal : goal.returns-clause-bound_to_literal
returns-clause-bound_to_literal c = bound_to_nothing

pub returns-clause-names : goal.returns-clause-names
returns-clause-names c = names_stay

pub returns-clause-import_name : goal.returns-clause-import_name
returns-clause-import_name c = import_named
