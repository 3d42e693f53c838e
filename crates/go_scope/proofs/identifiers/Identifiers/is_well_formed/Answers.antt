-- The answers to the goals of `identifiers::Identifiers::is_well_formed`.
use Rattle.std.proofs.Common.{ap, refl}
use Rattle.go_scope.specs.WellFormed.{WellFormed}
use Rattle.go_scope.proofs.Tables.{of_table}
use Rattle.go_scope.proofs.identifiers.Identifiers.is_well_formed.Goals as goal

pub returns : goal.returns
returns c =
    of_table (λ files l names n. WellFormed l)
    c.self.inside.list.items c.self.inside.list.items c.self.inside.files.now c.args.self.now refl (ap (λ p. p.files) c.self.view_is)
    (ap (λ p. p.sites) c.self.view_is) c.self.invariant.well_formed
