-- The answers to the goals of `lists::Lists::list`.
use Rattle.std.proofs.Common.{subst}
use Rattle.std.proofs.lemmas.Result.{on_ok_weaker}
use Rattle.types_info.specs.Lists.{AddsUnder, listed_path}
use Rattle.types_info.proofs.Listing.{added_place}
use Rattle.types_info.proofs.lists.Lists.list.Goals as goal

pub returns-in-Some-clause-listed : goal.returns-in-Some-clause-listed
returns-in-Some-clause-listed c =
    let old = c.args.self.now.all.items in
    let new = c.add_place.new.all.items in
    on_ok_weaker c.add_place.result (λ adds. subst (λ o. AddsUnder old new (listed_path old o) c.args.at) c.in-Some.ensures
    (added_place old new c.in-Some.number c.args.at adds)) c.add_place.ensures
