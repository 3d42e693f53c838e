-- The answers to the goals of `identifiers::add_place`.
use Rattle.std.proofs.Common.{◌≤◌, length, arith}
use Rattle.refs_binding.proofs.Files.{name_in_file, no_place}
use Rattle.refs_binding.proofs.identifiers.add_place.Goals as goal

pub returns-then-at-files : goal.returns-then-at-files
returns-then-at-files c =
    name_in_file c.args.found.now.items c.add_name.new.found.items c.add_name.result c.args.files.now c.args.at.file c.args.at.index c.index-files-at.result
    c.if-at-files.true c.index-files-at.is c.add_name.ensures

pub returns-else-at-files : goal.returns-else-at-files
returns-else-at-files c =
    no_place c.args.found.now.items c.args.files.now c.args.at.file c.args.at.index (let le : length c.args.files.now ≤ c.args.at.file = omega arith in le)
