-- The answers to the goals of `resolved_types::mentions_broken`.
use Rattle.std.proofs.Common.{◌<◌, length, arith}
use Rattle.go_ast.specs.View.{type_view}
use Rattle.types_declared.specs.PackageView.{package_of}
use Rattle.types_info.proofs.ResolvedTypes.{marked_broken, broken_marked, mention_marked}
use Rattle.types_info.proofs.resolved_types.mentions_broken.Goals as goal

pub returns-then-rank-broken : goal.returns-then-rank-broken
returns-then-rank-broken c =
    let p = package_of c.args.pkg in
    let tree = type_view c.args.written.now in (
      marked_broken p c.args.file tree c.args.broken.now c.in-Some.rank c.requires.broken c.in-Some.ensures.0,
      broken_marked p c.args.file tree c.args.broken.now c.in-Some.rank c.requires.broken c.in-Some.ensures.1,
    )

pub returns-else-rank-broken : goal.returns-else-rank-broken
returns-else-rank-broken c =
    let below : c.in-Some.rank < length c.args.broken.now =
    mention_marked (package_of c.args.pkg) c.args.file (type_view c.args.written.now) c.args.broken.now c.in-Some.rank c.requires.broken c.in-Some.ensures.0 in
    absurd (omega (arith, c.if-rank-broken.false))
