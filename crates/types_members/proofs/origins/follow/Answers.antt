-- The answers to the goals of `origins::follow`.
use Rattle.std.proofs.Common.{refl, sym, subst, arith}
use Rattle.std.specs.Prelude.{Contains}
use Rattle.std.proofs.lemmas.List.Elements.{Contains-get_or}
use Rattle.types_declared.specs.Reachability.{LinksTo}
use Rattle.types_members.proofs.Reaching.{origins_next}
use Rattle.types_members.proofs.origins.follow.Goals as goal

pub returns-then-link-origins : goal.returns-then-link-origins
returns-then-link-origins c =
    let row = c.row.result.now in
    let to = c.in-Some.to.now in
    let held : Contains row to = subst (Contains row) (sym c.in-Some.ensures.lookup.1)
    (Contains-get_or row c.args.link.place to c.in-Some.ensures.lookup.3.0) in
    let leads : LinksTo c.args.links.now c.args.link.from to = subst (λ xs. Contains xs to) c.row.ensures held in
    origins_next c.args.links.now c.args.origins.now c.args.link.from to _ leads (omega arith) (omega arith) refl c.requires
