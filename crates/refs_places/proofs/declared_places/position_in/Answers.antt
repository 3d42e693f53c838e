-- The answers to the goals of `declared_places::position_in`.
use Rattle.types_declared.specs.PackageView.{package_of}
use Rattle.refs_places.proofs.Declared.{predeclared_nowhere, uncounted_nowhere, counted_at}
use Rattle.refs_places.proofs.declared_places.position_in.Goals as goal

pub returns-then-d-lt-PREDECLARED : goal.returns-then-d-lt-PREDECLARED
returns-then-d-lt-PREDECLARED c = predeclared_nowhere (package_of c.args.unit) c.args.d c.if-d-lt-PREDECLARED.true

pub returns-then-counts : goal.returns-then-counts
returns-then-counts c =
    counted_at (package_of c.args.unit) c.args.d c.literal_of.result c.place.result c.if-d-lt-PREDECLARED.false (c.counts.ensures.0 c.if-counts.true)
    c.literal_of.ensures.literal c.place.ensures

pub returns-else-counts : goal.returns-else-counts
returns-else-counts c = uncounted_nowhere (package_of c.args.unit) c.args.d c.counts.result c.if-counts.false c.counts.ensures
