-- Without names the unit stays.
use Rattle.std.proofs.Common.{◌≡◌, sym, subst, ◌∙◌}
use Rattle.std.proofs.lemmas.Result.{MatchResult-weaker}
use Rattle.base_files.specs.Workspace.{Workspace}
use Rattle.build_unit.specs.Units.{IsUnitOf}
use Rattle.build_unit.specs.declared.unit.Unit.{Unit as PackageUnit}
use Rattle.build_kept.proofs.KnownBefore.{no_names, unnamed_unit}
use Rattle.build_kept.proofs.ready.unit_with_names.Goals as goal

pub returns-then-is_empty : goal.returns-then-is_empty
returns-then-is_empty c =
    MatchResult-weaker c.clone.result c.clone.ensures.cases
    (λ (made : PackageUnit) (same : made ≡ c.args.unit.now) (w : Workspace) is. subst (IsUnitOf w c.args.path.now) (sym same)
    (unnamed_unit w c.args.names.now c.args.path.now c.args.unit.now (no_names c.args.names.now (sym c.is_empty.ensures ∙ c.if-is_empty.true)) is))
    (λ e lacks. tt)
