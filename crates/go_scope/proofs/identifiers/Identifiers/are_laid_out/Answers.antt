-- The answers to the goals of `identifiers::Identifiers::are_laid_out`.
use Rattle.std.proofs.Common.{ap, refl}
use Rattle.go_scope.specs.WellFormed.{IsLaidOut}
use Rattle.go_scope.proofs.Tables.{of_table}
use Rattle.go_scope.proofs.identifiers.Identifiers.are_laid_out.Goals as goal

pub returns : goal.returns
returns c =
    of_table (λ files l names n. IsLaidOut l n)
    c.self.inside.list.items c.self.inside.list.items c.self.inside.files.now c.args.self.now refl (ap (λ p. p.files) c.self.view_is)
    (ap (λ p. p.sites) c.self.view_is) c.self.invariant
