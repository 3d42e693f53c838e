-- A planned change and its limits.
use Rattle.std.specs.Prelude.{◌≡◌, Result, Ok, Err}
use Rattle.base_files.specs.declared.limits.Limits.{Limits}
use Rattle.base_files.specs.declared.refusal.Refusal.{Refusal}
use Rattle.base_files.specs.declared.refusal.Refusal.TheVariants.{TooLarge}
use Rattle.workspace_snapshot.specs.Fits.{FitsLimits}
use Rattle.workspace_snapshot.specs.declared.change.Change.{Change}
use Rattle.refactor_preserve.specs.declared.planned.Planned.{Planned}

-- The change that was planned, or the refusal.
abbrev pub change_in : Result Planned Refusal → Result Change Refusal
change_in (Ok planned) = Ok planned.change
change_in (Err refusal) = Err refusal

-- The change, or `TooLarge` where its files exceed a limit.
abbrev pub KeepsLimits : Limits → Change → Result Change Refusal → Type 0
KeepsLimits limits change (Ok same) = (same ≡ change) × FitsLimits limits change.files
KeepsLimits limits change (Err TooLarge) = ¬ (FitsLimits limits change.files)
KeepsLimits limits change (Err refusal) = ⊥
