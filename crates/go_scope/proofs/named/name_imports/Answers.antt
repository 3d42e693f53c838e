-- The answers to the goals of `named::name_imports`.
use Rattle.std.proofs.Common.{◌∙◌, ap}
use Rattle.go_scope.specs.Named.{name_given, named_sites}
use Rattle.go_scope.proofs.NamedSites.{named_list_laid_out}
use Rattle.go_scope.proofs.named.name_imports.Goals as goal

pub new-requires : goal.new-requires
new-requires c =
    let names = name_given c.args.names.now in
    named_list_laid_out names c.name_identifiers.new.identifiers.items c.args.plain.sites
    (c.name_identifiers.ensures ∙ ap (named_sites names) c.into_list-list.ensures)
    c.are_laid_out.ensures
