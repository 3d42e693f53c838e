-- Which messages end a session.
use Rattle.std.specs.Prelude.{Bool, true, false}
use Rattle.server_read.specs.declared.message.Message.{Message}
use Rattle.server_read.specs.declared.message.Message.TheVariants.{Ask, Unknown, CutShort}

-- whether the session ends after this message
abbrev pub is_last : Message → Bool
is_last (Ask command) = false
is_last Unknown = false
is_last CutShort = true
