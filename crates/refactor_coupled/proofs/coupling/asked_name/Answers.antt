-- The answers to the goals of `coupling::asked_name`.
use Rattle.std.proofs.Common.{◌≡◌, rules}
use Rattle.std.specs.Prelude.{Some, None}
use Rattle.types_expr.specs.WorldView.{definitions_at}
use Rattle.refactor_coupled.specs.RenamedTypesView.{types_of}
use Rattle.refactor_coupled.proofs.Asked.{asked_name_told, no_package_asked}
use Rattle.refactor_coupled.proofs.coupling.asked_name.Goals as goal

pub returns-in-None : goal.returns-in-None
returns-in-None c =
    let s = c.args.symbol.now in
    let none : definitions_at (types_of c.args.workspace.now) s.package ≡ None = search rules in
    no_package_asked (definitions_at (types_of c.args.workspace.now) s.package) s none

pub returns-in-Some : goal.returns-in-Some
returns-in-Some c =
    let s = c.args.symbol.now in
    let is : definitions_at (types_of c.args.workspace.now) s.package ≡ Some c.in-Some.own.now = search rules in
    asked_name_told (types_of c.args.workspace.now) s c.in-Some.own.now is c.asked_name_among.result c.asked_name_among.ensures
