-- The answers to the goals of `places::place_of`.
use Rattle.types_expr.proofs.Trees.{chain_stands, named_chain_stands}
use Rattle.types_expr.proofs.places.place_of.Goals as goal

pub returns-in-Chain : goal.returns-in-Chain
returns-in-Chain c = cc (chain_stands c.in-Chain.first c.in-Chain.links)

pub returns-in-NamedChain : goal.returns-in-NamedChain
returns-in-NamedChain c = cc (named_chain_stands c.in-NamedChain.name c.in-NamedChain.links)
