-- The answers to the goals of `front::name_len`.
use Rattle.std.proofs.Common.{sym}
use Rattle.go_scanner.specs.declared.piece.Class.TheVariants.{Name}
use Rattle.go_scanner.proofs.OneCutLemmas.{one_piece}
use Rattle.go_scanner.proofs.front.name_len.Goals as goal

pub returns-in_default : goal.returns-in_default
returns-in_default c n stands =
    c.in_default.not-Name (sym (one_piece c.args.bytes.now Name c.in-Ok.class n c.in-Ok.size stands c.in-Ok.ensures).1)
