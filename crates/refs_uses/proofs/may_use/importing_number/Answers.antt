-- The answers to the goals of `may_use::importing_number`.
use Rattle.std.proofs.Common.{◌<◌, length, arith}
use Rattle.std.proofs.lemmas.Option.{slice_get_within}
use Rattle.base_files.specs.Packages.{package_paths}
use Rattle.refs_uses.proofs.may_use.importing_number.Goals as goal

pub returns-else-number-len : goal.returns-else-number-len
returns-else-number-len c = λ q at.
    let paths = package_paths c.args.workspace.now.graph in
    let within : c.args.number < length paths = slice_get_within paths c.args.number q at in
    absurd (omega (arith, within, c.len.ensures, c.if-number-len.false))

pub returns-then-number-len : goal.returns-then-number-len
returns-then-number-len c = rw (← c.workspace.view_is) c.importing.ensures
