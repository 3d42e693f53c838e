-- The answers to the goals of `exports::numbers`.
use Rattle.std.proofs.Common.{◌≡◌, ◌<◌, length, sym, subst, arith}
use Rattle.types_declared.specs.PackageView.{package_of}
use Rattle.refs_binding.specs.Exports.{number_named}
use Rattle.refs_binding.proofs.Bound.{seen_within}
use Rattle.refs_binding.proofs.ExportNumbers.{all_numbers_of}
use Rattle.refs_binding.proofs.exports.numbers.Goals as goal

pub returns : goal.returns
returns c =
    let end : c.loop-d.d ≡ length c.args.unit.table.now.sites = omega (arith, c.len-d-end.ensures) in
    all_numbers_of (package_of c.args.unit) c.loop-d.d (number_named c.loop-d.numbers)
    (λ d seen. subst (λ n. d < n) (sym end) (seen_within c.args.unit.table.now.sites d seen.counts)) c.loop-d.invariant
