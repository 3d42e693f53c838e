-- The answers to the goals of `sources::imported_global`.
use Rattle.std.proofs.Common.{refl}
use Rattle.types_declared.specs.PackageView.{package_of}
use Rattle.build_object.specs.Sources.{imported}
use Rattle.build_object.proofs.Bindings.{global_as, no_global}
use Rattle.build_object.proofs.sources.imported_global.Goals as goal

pub returns-in-None : goal.returns-in-None
returns-in-None c = no_global (package_of c.args.unit) c.args.file c.args.token (λ d binds level. c.requires.unbound d binds) c.in-None.ensures

pub returns-in-Some : goal.returns-in-Some
returns-in-Some c = global_as (package_of c.args.unit) c.args.file c.args.token _ _ _ _ refl c.spelling.ensures (imported c.in-Some.ensures)
