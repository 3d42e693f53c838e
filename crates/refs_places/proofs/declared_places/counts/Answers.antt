-- The answers to the goals of `declared_places::counts`.
use Rattle.go_scope.specs.Packages.{layout_in, names_in}
use Rattle.refs_places.proofs.Declared.{not_declared, not_bound, own_bound}
use Rattle.refs_places.proofs.declared_places.counts.Goals as goal

pub returns-then-not-declares : goal.returns-then-not-declares
returns-then-not-declares c =
    not_declared (layout_in c.args.table.now) (names_in c.args.table.now) c.args.d c.declares.result c.if-not-declares.true c.declares.ensures

pub returns-in-None : goal.returns-in-None
returns-in-None c = not_bound (layout_in c.args.table.now) (names_in c.args.table.now) c.args.d c.in-None.ensures

pub returns-in-Some : goal.returns-in-Some
returns-in-Some c =
    own_bound (layout_in c.args.table.now) (names_in c.args.table.now) c.args.d c.in-Some.field-0 (c.declares.ensures.0 c.if-not-declares.false)
    c.in-Some.ensures
