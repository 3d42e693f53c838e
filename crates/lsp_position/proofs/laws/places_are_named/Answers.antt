-- The answers to the goals of `laws::places_are_named`.
use Rattle.lsp_position.proofs.Rising.{places_named}
use Rattle.lsp_position.proofs.laws.places_are_named.Goals as goal

pub returns : goal.returns
returns c = places_named
