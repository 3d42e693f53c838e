-- The answers to the goals of `strings::raw_string`.
use Rattle.std.proofs.Common.{refl, inr}
use Rattle.std.proofs.lemmas.List.{take_rest}
use Rattle.go_scanner.proofs.FrontLemmas.{raw_stands, raw_breaks}
use Rattle.go_scanner.proofs.strings.raw_string.Goals as goal

pub returns-in-Some : goal.returns-in-Some
returns-in-Some c = raw_stands c.args.bytes.now _ c.in-Some.body c.requires.some c.requires.first (take_rest c.args.bytes.now 1) c.in-Some.ensures

pub returns-in-None : goal.returns-in-None
returns-in-None c = inr (refl, raw_breaks c.args.bytes.now _ c.requires.some c.requires.first (take_rest c.args.bytes.now 1) c.in-None.ensures)
