-- The answers to the goals of `written::local_type`.
use Rattle.std.specs.Prelude.{option_map}
use Rattle.std.proofs.lemmas.Result.{IfOk-weaker}
use Rattle.types_expr.specs.View.{type_of}
use Rattle.types_declared.specs.PackageView.{package_of}
use Rattle.types_declared.proofs.WrittenTypes.{names_nothing, named_by}
use Rattle.types_declared.proofs.written.local_type.Goals as goal

pub returns-in-None : goal.returns-in-None
returns-in-None c = names_nothing (package_of c.args.pkg) c.args.file c.args.name c.in-None.ensures.bound

pub returns-in-Some : goal.returns-in-Some
returns-in-Some c =
    IfOk-weaker c.declared_type.result _ _
    (λ o h. named_by (package_of c.args.pkg) c.args.file c.args.name c.in-Some.d (option_map type_of o) c.in-Some.ensures.bound c.in-Some.ensures.only h)
    c.declared_type.ensures
