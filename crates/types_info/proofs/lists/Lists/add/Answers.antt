-- The answers to the goals of `lists::Lists::add`.
use Rattle.std.proofs.Common.{sym, subst, length, ◌≡◌, ◌∙◌}
use Rattle.go_scope.specs.Named.{name_value}
use Rattle.types_info.specs.declared.lists.Lists.{Lists}
use Rattle.types_info.specs.Lists.{AddsDeclaration}
use Rattle.types_info.proofs.Listing.{added_list}
use Rattle.types_info.proofs.lists.Lists.add.Goals as goal

pub returns-in_ok-push-in-Some : goal.returns-in_ok-push-in-Some
returns-in_ok-push-in-Some c =
    let old = c.args.self.now in
    let new : Lists = record { all = c.add_list.new.all; numbers = c.push-in-Some.new.self } in
    let at : c.len-number.result ≡ length old.all.items = c.len-number.ensures ∙ old.all.ok.0 in
    subst (λ o. AddsDeclaration old new (name_value o)) (sym c.in-Some.is)
    (added_list old c.add_list.new.all c.push-in-Some.new.self c.in-Some.path.now c.len-number.result c.requires at
    c.in_ok-add_list-in-Some.ensures c.in_ok-push-in-Some.ensures.items)
