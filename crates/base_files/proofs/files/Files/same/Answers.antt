-- The answers to the goals of `files::Files::same`.
use Rattle.std.proofs.Common.{length, ap, sym, ◌∙◌, eq-eqb}
use Rattle.std.proofs.lemmas.Bool.Decides.{Decides-eqb}
use Rattle.std.specs.FinMap as map
use Rattle.base_files.proofs.WorkspaceLaws.{same_entries}
use Rattle.base_files.proofs.files.Files.same.Goals as goal

pub returns-then-len : goal.returns-then-len
returns-then-len c =
    let one = c.self.inside.texts in
    let two = c.other.inside.texts in (
      λ t. sym c.self.view_is ∙ ap map.from_entries (c.same.ensures.0 t) ∙ c.other.view_is,
      λ e. c.same.ensures.1 (same_entries one two c.len-2.ensures.ordered c.len.ensures.ordered (c.self.view_is ∙ e ∙ sym c.other.view_is)),
    )

pub returns-else-len : goal.returns-else-len
returns-else-len c =
    let one = c.self.inside.texts in
    let two = c.other.inside.texts in (
      λ t. absurd (c.if-len.false ((Decides-eqb _ _).0 t)),
      λ e.
          eq-eqb _ _ (c.len.ensures.len
          ∙ sym (ap length (same_entries one two c.len-2.ensures.ordered c.len.ensures.ordered (c.self.view_is ∙ e ∙ sym c.other.view_is)))
          ∙ sym c.len-2.ensures.len),
    )
