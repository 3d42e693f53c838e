-- The answers to the goals of `sources::import_at`.
use Rattle.types_declared.specs.PackageView.{package_of}
use Rattle.build_object.proofs.Bindings.{import_by}
use Rattle.build_object.proofs.sources.import_at.Goals as goal

pub returns-in-None : goal.returns-in-None
returns-in-None c = λ d path binds i. c.in-None.ensures.bound d binds

pub returns-in-Some : goal.returns-in-Some
returns-in-Some c = import_by (package_of c.args.unit) c.args.file c.args.token c.in-Some.d c.path.result c.in-Some.ensures.bound c.in-Some.ensures.only
    c.path.ensures
