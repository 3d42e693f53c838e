-- The answers to the goals of `outcomes::told_asked`.
use Rattle.std.proofs.Common.{string_bytes}
use Rattle.lsp_service.proofs.outcomes.told_asked.Goals as goal

pub returns : goal.returns
returns g c = (string_bytes c.in_ok-words.words, c.in_ok-words.ensures, cc c.code_of-code.ensures)
