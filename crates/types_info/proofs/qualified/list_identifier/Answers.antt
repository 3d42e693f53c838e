-- The answers to the goals of `qualified::list_identifier`.
use Rattle.std.proofs.Common.{sym}
use Rattle.types_declared.specs.PackageView.{package_of}
use Rattle.types_info.proofs.Gathered.{not_listed, is_listed}
use Rattle.types_info.proofs.qualified.list_identifier.Goals as goal

pub returns-in_ok-list : goal.returns-in_ok-list
returns-in_ok-list c =
    let added = c.in_ok-list.ensures in
    is_listed (package_of c.args.pkg) c.args.u c.in-Some.d c.place.result c.args.lists.now c.list.new.self c.requires.lists c.in-Some.ensures.in_range
    (sym c.place.ensures) c.in-Some.ensures.before added.within added.kept added.listed

pub returns-in_default : goal.returns-in_default
returns-in_default c = not_listed (package_of c.args.pkg) c.args.u c.args.lists.now c.requires.lists c.in_default.ensures.before
