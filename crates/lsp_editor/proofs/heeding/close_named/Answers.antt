-- The answers to the goals of `heeding::close_named`.
use Rattle.std.proofs.Common.{refl}
use Rattle.lsp_editor.proofs.heeding.close_named.Goals as goal

pub returns : goal.returns
returns c = (c.close.new.self, c.close.ensures, refl)
