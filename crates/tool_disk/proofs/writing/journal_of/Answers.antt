-- The answers to the goals of `writing::journal_of`.
use Rattle.std.proofs.Common.{◌∙◌, ◌++◌, ℕ, List, [], ◌∷◌, ap}
use Rattle.std.specs.List.{flat_map}
use Rattle.tool_text.specs.Journal.{lines_text}
use Rattle.tool_disk.proofs.RunJournals.{lines_text_bare}
use Rattle.tool_disk.proofs.writing.journal_of.Goals as goal

pub returns : goal.returns
returns c =
    c.in_ok-push_lines.ensures
    ∙ (ap (λ l. l ++ lines_text c.as_slice.result.now) c.new-text.ensures.items
    ∙ (ap lines_text c.as_slice.ensures.value
    ∙ (lines_text_bare c.in_ok-lines.lines.items ∙ ap (flat_map (λ (line : List ℕ). line ++ 10 ∷ [])) c.in_ok-lines.ensures)))
