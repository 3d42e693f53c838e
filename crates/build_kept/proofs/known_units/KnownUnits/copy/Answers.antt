-- The copies are what is copied.
use Rattle.std.proofs.Common.{◌++◌, List, [], ap, ◌∙◌}
use Rattle.build_names.specs.Words.{NameChange}
use Rattle.build_kept.proofs.Names.{copied_units}
use Rattle.build_kept.proofs.known_units.KnownUnits.copy.Goals as goal

pub invariant_of-result : goal.invariant_of-result
invariant_of-result c =
    copied_units c.self.inside.files c.in_ok-files.files c.self.inside.names.items c.in_ok-names.names.items c.self.inside.units c.in_ok-units.units
    c.self.invariant c.in_ok-files.ensures.cases (c.in_ok-names.ensures ∙ ap (λ (l : List NameChange). l ++ []) c.deref.ensures.value)
    c.in_ok-units.ensures.cases
