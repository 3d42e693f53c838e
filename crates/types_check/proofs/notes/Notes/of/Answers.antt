-- The answers to the goals of `notes::Notes::of`.
use Rattle.std.proofs.Common.{[], ◌∷◌, ◌∙◌, ◌++◌, ap, sym}
use Rattle.types_expr.specs.Found.{noted_of}
use Rattle.types_expr.specs.Judge.{enterings_of, members_of}
use Rattle.types_check.proofs.NotesInTurn.{members_snoc, enterings_snoc}
use Rattle.types_check.proofs.notes.Notes.of.Goals as goal

pub loop-note-preserved : goal.loop-note-preserved
loop-note-preserved c = record {
  members = c.in_ok-add.ensures.members ∙ (ap (λ x. x ++ members_of (noted_of c.in-Some.note ∷ [])) c.loop-note.invariant.members
      ∙ sym (members_snoc c.loop-note.yielded c.in-Some.note));
  enterings = c.in_ok-add.ensures.enterings ∙ (ap (λ x. x ++ enterings_of (noted_of c.in-Some.note ∷ [])) c.loop-note.invariant.enterings
      ∙ sym (enterings_snoc c.loop-note.yielded c.in-Some.note));
}
