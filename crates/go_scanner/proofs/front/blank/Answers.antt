-- The answers to the goals of `front::blank`.
use Rattle.go_scanner.proofs.FrontLemmas.{blank_stands}
use Rattle.go_scanner.proofs.front.blank.Goals as goal

pub returns : goal.returns
returns c = blank_stands c.args.bytes.now c.requires.some c.requires.first
