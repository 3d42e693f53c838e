-- The names are appended, and the files carry the units over.
use Rattle.std.proofs.Common.{◌++◌, List, sym, ap, subst, ◌∙◌}
use Rattle.base_files.specs.Workspace.{Workspace}
use Rattle.build_names.specs.Words.{NameChange}
use Rattle.build_kept.specs.KnownUnits.{CarriesUnits}
use Rattle.build_kept.proofs.Names.{carried_over}
use Rattle.build_kept.proofs.known_units.KnownUnits.carried.Goals as goal

pub invariant_of-result : goal.invariant_of-result
invariant_of-result c =
    carried_over c.self.inside.files c.args.files.now c.in_ok-files.files c.self.inside.names.items c.args.later.now c.in_ok-names.names.items
    c.self.inside.units c.in_ok-units.units c.self.invariant
    (subst (λ (w : Workspace). CarriesUnits w c.args.files.now c.args.later.now) (sym c.self.view_is) c.requires) c.in_ok-files.ensures.cases
    (c.in_ok-names.ensures ∙ ap (λ (l : List NameChange). l ++ c.args.later.now) c.deref.ensures.value) c.in_ok-units.ensures.cases
