-- The answers to the goals of `exports::add_number`.
use Rattle.std.proofs.Common.{sym, ◌∙◌}
use Rattle.std.proofs.lemmas.Bool.{false≢true}
use Rattle.types_declared.specs.PackageView.{package_of}
use Rattle.refs_binding.specs.Exports.{number_named}
use Rattle.refs_binding.proofs.ExportNumbers.{one_more_number, same_numbers}
use Rattle.refs_binding.proofs.exports.add_number.Goals as goal

pub returns-in_ok-insert : goal.returns-in_ok-insert
returns-in_ok-insert c =
    one_more_number (package_of c.args.unit) c.args.d c.args.numbers.now c.insert.new.self c.in_ok-name.name (c.in_ok-name.ensures.items ∙ c.name.ensures)
    c.in_ok-insert.ensures.updates
    (c.is_seen.ensures.0 c.if-is_seen.true)

pub returns-else-is_seen : goal.returns-else-is_seen
returns-else-is_seen c =
    same_numbers (package_of c.args.unit) c.args.d (number_named c.args.numbers.now) (λ seen. false≢true (sym c.if-is_seen.false ∙ c.is_seen.ensures.1 seen))
