-- The answers to the goals of `broken::note_type`.
use Rattle.std.proofs.Common.{◌≡◌, subst}
use Rattle.std.specs.Prelude.{Some}
use Rattle.std.proofs.lemmas.Result.{on_ok_weaker}
use Rattle.go_ast.specs.View.{type_view}
use Rattle.types_declared.specs.PackageView.{package_of}
use Rattle.types_declared.specs.Broken.{IsTarget, IsOneTarget}
use Rattle.types_declared.proofs.Mentioning.{adds_as, note_one}
use Rattle.types_declared.proofs.broken.note_type.Goals as goal

pub returns-in-Some : goal.returns-in-Some
returns-in-Some c =
    let p = package_of c.args.pkg in
    let tree = type_view c.args.written.now in
    let one : IsOneTarget p c.args.at.file tree (Some c.in-Some.to) = subst (IsOneTarget p c.args.at.file tree) c.in-Some.is c.in_ok-target.ensures in
    on_ok_weaker c.note.result
    (λ h. adds_as c.args.links.now.items c.note.new.links.items c.args.at.rank (λ a. a ≡ c.in-Some.to) (IsTarget p c.args.at.file tree)
    (λ a e. note_one p c.args.at.file tree c.in-Some.to a one.1.0 one.1.1 e) (λ a t. one.1.1 a t) h)
    c.note.ensures
