-- The answers to the goals of `methods::owner`.
use Rattle.std.proofs.Common.{ap}
use Rattle.go_ast.specs.View.{option_view}
use Rattle.go_ast.specs.FileView.{func_view, receiver_view}
use Rattle.types_declared.specs.DeclaredView.{function_of}
use Rattle.types_declared.specs.PackageView.{package_of}
use Rattle.types_members.proofs.Owning.{no_receiver, owned_by}
use Rattle.types_members.proofs.methods.owner.Goals as goal

pub returns-in-None : goal.returns-in-None
unfolding func_view
returns-in-None c = no_receiver (package_of c.args.pkg) (function_of c.args.function) (ap (option_view receiver_view) c.in-None.is)

pub returns-in-Some : goal.returns-in-Some
unfolding func_view receiver_view
returns-in-Some c =
    owned_by (package_of c.args.pkg) (function_of c.args.function) (receiver_view c.in-Some.receiver) c.local_definition.result
    (ap (option_view receiver_view) c.in-Some.is) c.local_definition.ensures
