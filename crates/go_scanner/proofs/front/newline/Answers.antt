-- The answers to the goals of `front::newline`.
use Rattle.go_scanner.proofs.FrontLemmas.{newline_stands}
use Rattle.go_scanner.proofs.front.newline.Goals as goal

pub returns : goal.returns
returns c = newline_stands c.args.bytes.now c.requires.some c.requires.first
