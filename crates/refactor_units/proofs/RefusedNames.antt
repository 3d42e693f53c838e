-- Why no names are answered.
use Rattle.std.proofs.Common.{ℕ, ◌≡◌, List, sym, subst}
use Rattle.std.specs.Prelude.{Err}
use Rattle.base_files.specs.PathRead.{ReadsPath}
use Rattle.base_files.specs.Workspace.{Workspace}
use Rattle.base_files.specs.declared.refusal.Refusal.{Refusal}
use Rattle.base_files.specs.declared.refusal.Refusal.TheVariants.{BadPath, Faulty, Memory}
use Rattle.workspace_check.specs.declared.findings.Findings.{Findings}
use Rattle.refs_binding.specs.Workspaces.{RefusesFaults}
use Rattle.refactor_units.specs.CarriedNames.{RefusesCarried}

pub refused_path : (w : Workspace) (path : List ℕ) (r : Refusal) → ReadsPath 2 path (Err r) → RefusesCarried w path r
refused_path w path BadPath h = h
refused_path w path Memory h = tt
refused_path w path r h = absurd h

pub refused_fault : (w : Workspace) (path : List ℕ) (found : Findings) (r : Refusal) → RefusesFaults w found (Err r) → RefusesCarried w path r
refused_fault w path found (Faulty place kind) h = h
refused_fault w path found Memory h = tt
refused_fault w path found r h = absurd h

pub refused_for_memory : (w : Workspace) (path : List ℕ) (r : Refusal) → r ≡ Memory → RefusesCarried w path r
refused_for_memory w path r same = subst (RefusesCarried w path) (sym same) tt
