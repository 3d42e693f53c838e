-- The answers to the goals of `named::name_numbered`.
use Rattle.std.proofs.Common.{map, refl, set, subst, sym, Some}
use Rattle.go_scope.specs.IdentifierViews.{site_of}
use Rattle.go_scope.specs.Named.{name_value, NamesSite}
use Rattle.go_scope.proofs.NamedSites.{names_nothing, names_one}
use Rattle.go_scope.proofs.named.name_numbered.Goals as goal

pub returns-in-None : goal.returns-in-None
returns-in-None c =
    let xs = map site_of c.args.identifiers.now.items in
    subst (λ n. NamesSite xs xs c.args.u (name_value n)) (sym c.in-None.is) (names_nothing xs c.args.u)

pub returns-in-Some : goal.returns-in-Some
returns-in-Some c =
    let old = c.args.identifiers.now.items in
    let new = set old c.args.u c.name_identifier.new.identifier in
    subst (λ n. NamesSite (map site_of old) (map site_of new) c.args.u (name_value n)) (sym c.in-Some.is)
    (names_one old new c.args.u c.index_mut.result.now c.name_identifier.new.identifier (Some c.in-Some.name.now) c.requires c.index_mut.ensures.value refl
    c.name_identifier.ensures)
