-- The answers to the goals of `seeing::import_states`.
use Rattle.workspace_check.proofs.seeing.import_states.Goals as goal

pub note_imports-requires : goal.note_imports-requires
note_imports-requires c = record { in_range = c.requires.in_range; back = c.requires.back; nothing = c.new-noted.ensures.states }

pub returns : goal.returns
returns c = c.in_ok-note_imports.ensures.states
