-- The type has all that is asked for exactly where it has what is left to ask.
use Rattle.std.specs.Prelude.{◌≡◌, map}
use Rattle.std.specs.List.{list_all}
use Rattle.refactor_coupled.specs.RenamedTypesView.{has_after, rename_of}
use Rattle.refactor_coupled.proofs.renamed_types.RenamedTypes.has_each.Given as goal

abbrev pub invariant-loop-name : goal.invariant-loop-name
invariant-loop-name l =
    list_all (has_after l.self.types.now (rename_of l.self.rename) l.behind_star l.symbol l.interface) (map (λ entry. entry.0.items) l.name-iterator)
    ≡ list_all (has_after l.self.types.now (rename_of l.self.rename) l.behind_star l.symbol l.interface)
    (map (λ entry. entry.0.items) l.interface.fields.entries)
