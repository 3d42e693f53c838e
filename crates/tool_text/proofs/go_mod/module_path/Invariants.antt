-- The invariants of the loops of `go_mod::module_path`.
use Rattle.std.proofs.Common.{◌≡◌}
use Rattle.tool_text.specs.GoMod.{first_module, module_path}
use Rattle.tool_text.specs.Parts.{parts_left}
use Rattle.tool_text.proofs.Cuts.{left_len}
use Rattle.tool_text.proofs.go_mod.module_path.Given as goal

abbrev pub invariant-lines : goal.invariant-lines
invariant-lines l = module_path l.text ≡ first_module (parts_left 10 l.rest)

abbrev pub decreases-lines : goal.decreases-lines
decreases-lines l = left_len l.rest
