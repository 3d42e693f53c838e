-- The answers to the goals of `laws::identifiers_cover_tokens`.
use Rattle.law_tokens.proofs.Places.{place_has_one, one_has_place}
use Rattle.law_tokens.proofs.laws.identifiers_cover_tokens.Goals as goal

pub returns : goal.returns
returns c = λ files w at. (place_has_one files w at, one_has_place files w at)
