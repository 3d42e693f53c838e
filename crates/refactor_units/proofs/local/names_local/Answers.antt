-- Where there is no package, no declaration is local.
use Rattle.std.proofs.Common.{ℕ, List, subst}
use Rattle.std.specs.Prelude.{Contains}
use Rattle.std.proofs.lemmas.Bool.{false≢true}
use Rattle.base_files.specs.Packages.{package_paths}
use Rattle.refactor_units.proofs.Missed.{not_local}
use Rattle.refactor_units.proofs.local.names_local.Goals as goal

pub returns-in-None : goal.returns-in-None
returns-in-None c = (
  (λ t. absurd (false≢true t)),
  (λ local.
      let w = c.args.workspace.now.graph in
      let none = subst (λ (p : List ℕ). Contains (package_paths w) p → ⊥) c.folder.ensures c.in-None.ensures in
      absurd (not_local w c.args.path.now c.args.offset none local)),
)
