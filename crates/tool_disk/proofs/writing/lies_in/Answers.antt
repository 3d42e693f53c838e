-- The answers to the goals of `writing::lies_in`.
use Rattle.std.proofs.Common.{◌∙◌, ◌++◌, ◌∷◌, ap, sym}
use Rattle.std.proofs.lemmas.Bool.{false≢true}
use Rattle.tool_disk.proofs.RunJournals.{lies_found}
use Rattle.tool_disk.proofs.writing.lies_in.Goals as goal

pub returns-in-Some : goal.returns-in-Some
returns-in-Some c =
    lies_found c.args.folder.now c.args.path.now c.in-Some.rest.now c.is_slash_first.result
    (sym c.as_bytes.ensures.value ∙ (c.in-Some.ensures ∙ ap (λ l. l ++ c.in-Some.rest.now) c.as_bytes-2.ensures.value)) c.is_slash_first.ensures

pub returns-in-None : goal.returns-in-None
returns-in-None c = (
  (λ is. absurd (false≢true is)),
  (λ lies. absurd (c.in-None.ensures (47 ∷ lies.0)
      (c.as_bytes.ensures.value ∙ (lies.1 ∙ ap (λ l. l ++ 47 ∷ lies.0) (sym c.as_bytes-2.ensures.value))))),
)
