-- The answers to the goals of `method_marks::note_function`.
use Rattle.std.proofs.Common.{refl}
use Rattle.std.proofs.lemmas.Result.{IfOk-weaker}
use Rattle.go_ast.specs.FileView.{func_view}
use Rattle.types_members.specs.MemberNames.{is_noted}
use Rattle.types_members.specs.MethodsView.{no_method}
use Rattle.types_declared.specs.PackageView.{package_of}
use Rattle.types_members.proofs.MethodNames.{noted_method}
use Rattle.types_members.proofs.method_marks.note_function.Goals as goal

pub returns-in-None : goal.returns-in-None
returns-in-None c = no_method c.in-None.is (λ d n. refl) refl

pub returns-in-Some : goal.returns-in-Some
unfolding func_view
returns-in-Some c =
    let p = package_of c.args.pkg in
    IfOk-weaker c.note_method.result _ _
    (λ counts h. noted_method p _ c.args.owned.owner c.in-Some.definition c.spelling-name.result.now (is_noted c.args.names.now)
    (is_noted c.note_method.new.names) counts c.in-Some.is c.spelling-name.ensures h.0 h.1)
    c.note_method.ensures
