-- The answers to the goals of `parsed::parse`.
use Rattle.workspace_graph.proofs.parsed.parse.Goals as goal

pub returns-in-Ok : goal.returns-in-Ok
returns-in-Ok c = record { of_path = c.in-Ok.ensures.path; of_text = c.in-Ok.ensures.text; is_file = c.is_source_file.ensures }
