-- The answers to the goals of `underlying::own_step`.
use Rattle.std.proofs.Common.{◌≡◌, length, refl, arith}
use Rattle.types_declared.specs.Package.{package_types}
use Rattle.types_declared.specs.PackageView.{package_of}
use Rattle.types_declared.proofs.Breaking.{definition_count}
use Rattle.types_members.proofs.Steps.{own_beyond}
use Rattle.types_members.proofs.underlying.own_step.Goals as goal

pub returns-then-rank-len : goal.returns-then-rank-len
returns-then-rank-len c =
    let items = c.args.index.now.declared.types.items in
    let count : length items ≡ length (package_types (package_of c.args.pkg)) = definition_count (package_of c.args.pkg) items c.requires.types in
    (refl, omega arith)

pub returns-else-rank-len : goal.returns-else-rank-len
returns-else-rank-len c =
    let items = c.args.index.now.declared.types.items in
    let count : length items ≡ length (package_types (package_of c.args.pkg)) = definition_count (package_of c.args.pkg) items c.requires.types in
    own_beyond (package_of c.args.pkg) c.args.rank (omega arith)
