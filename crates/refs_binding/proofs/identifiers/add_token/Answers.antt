-- The answers to the goals of `identifiers::add_token`.
use Rattle.std.proofs.Common.{sym, ◌∙◌}
use Rattle.types_declared.specs.PackageView.{package_of}
use Rattle.types_declared.proofs.Binding.{found_at}
use Rattle.refs_binding.proofs.Tokens.{no_token, a_token}
use Rattle.refs_binding.proofs.identifiers.add_token.Goals as goal

pub returns-in-None : goal.returns-in-None
returns-in-None c =
    no_token (package_of c.args.unit) c.args.at c.args.found.now.items _ (sym c.get.ensures ∙ c.in-None.is)
    (c.requires.identifiers c.args.at.file c.args.at.index)

pub returns-in-Some : goal.returns-in-Some
returns-in-Some c =
    let p = package_of c.args.unit in
    let found = found_at p c.args.at.file c.args.at.index c.in-Some.field-0 _ (sym c.get.ensures ∙ c.in-Some.is)
    (c.requires.identifiers c.args.at.file c.args.at.index) in
    a_token p c.in-Some.field-0 c.args.at c.args.found.now.items c.add_place.new.found.items c.add_place.result found c.add_place.ensures
