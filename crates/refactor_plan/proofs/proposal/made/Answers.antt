-- The answers to the goals of `proposal::made`.
use Rattle.std.proofs.Common.{◌≡◌, sym, subst}
use Rattle.std.specs.Prelude.{IfOk}
use Rattle.base_files.specs.Workspace.{Workspace}
use Rattle.base_edits.specs.EditSet.{edited}
use Rattle.base_edits.specs.Fits.{Fits}
use Rattle.refactor_plan.proofs.proposal.made.Goals as goal

pub of-requires : goal.of-requires
of-requires c = subst (Fits c.args.edits) c.requires.proposed.same c.requires.fits

pub returns : goal.returns
returns c =
    subst (λ (g : Workspace). IfOk c.of.result (λ x. x ≡ record { base = g; kind = c.args.kind; edits = c.args.edits; files = edited c.args.edits g }))
    (sym c.requires.proposed.same) c.of.ensures
