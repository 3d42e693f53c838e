-- The answers to the goals of `sorting::places`.
use Rattle.std.proofs.Common.{◌≡◌, map}
use Rattle.std.proofs.lemmas.Result.{IfOk-weaker}
use Rattle.refs_binding.specs.Steps.{place_of}
use Rattle.refs_uses.proofs.Spots.{held_as}
use Rattle.refs_uses.proofs.sorting.places.Goals as goal

pub returns-clause-each : goal.returns-clause-each
returns-clause-each c =
    IfOk-weaker c.places_of.result (λ places. places.items ≡ map place_of c.sort.new.spots.items) _
    (λ places e s. held_as places.items c.sort.new.spots.items c.args.spots.items s e (c.sort.ensures.keeps s) (c.sort.ensures.only s)) c.places_of.ensures
