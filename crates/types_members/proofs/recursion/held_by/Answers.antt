-- The answers to the goals of `recursion::held_by`.
use Rattle.go_ast.specs.FileView.{body_view}
use Rattle.types_declared.specs.PackageView.{package_of}
use Rattle.types_declared.specs.Written.{contained_types}
use Rattle.types_members.specs.Recursion.{HasBareName}
use Rattle.types_members.proofs.Holding.{items_all}
use Rattle.types_members.proofs.recursion.held_by.Goals as goal

pub returns : goal.returns
returns c =
    items_all c.new-found.result.items c.add_body.new.found.items
    (HasBareName (package_of c.args.pkg) c.args.definition.file (contained_types (body_view c.args.definition.spec.now.body))) c.new-found.ensures.items
    c.in_ok-add_body.ensures
