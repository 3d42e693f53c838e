-- The answers to the goals of `publishing::is_document_waiting`.
use Rattle.lsp_service.proofs.publishing.is_document_waiting.Goals as goal

pub returns : goal.returns
returns g c = (c.differ.result, c.differ.ensures, c.is_waiting_by-waits.ensures, c.note_seen.ensures)
