-- The answers to the goals of `command_line::with_option`.
use Rattle.std.proofs.Common.{refl}
use Rattle.server_words.proofs.Options.{last_local, with_last}
use Rattle.server_words.proofs.command_line.with_option.Goals as goal

pub returns-clause-app : goal.returns-clause-app
returns-clause-app c = with_last _ _ _ _ _ c.arg.ensures refl refl c.requires.local

pub returns-clause-local : goal.returns-clause-local
returns-clause-local c = last_local _ _ _ c.arg.ensures c.requires.before c.requires.local
