-- The answer to the goal of `imports::is_bare_import`.
use Rattle.std.proofs.Common.{sym, ◌∙◌}
use Rattle.types_declared.specs.PackageView.{package_of}
use Rattle.refactor_follow.proofs.Paths.{path_found}
use Rattle.refactor_follow.proofs.imports.is_bare_import.Goals as goal

pub returns-in_ok-found : goal.returns-in_ok-found
returns-in_ok-found c =
    let import = c.is_import.ensures.0 c.if-is_import.true in
    let x = path_found (package_of c.args.unit) c.args.d import c.in_ok-found.found c.args.path.now c.in_ok-found.ensures in (
      (λ t. record { imports = x.0 (c.is_path.ensures.0 t); unnamed = sym c.literal_of.ensures.literal ∙ c.if-literal_of-d.true }),
      (λ h. c.is_path.ensures.1 (x.1 h.imports)),
    )
