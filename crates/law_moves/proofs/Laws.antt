-- The laws of this crate.
use Rattle.base_edits.specs.RevisionsOfEdits.{revision_of}
use Rattle.law_moves.specs.KeptNames.{MovesKeepNames, MovesKeepMembers}
use Rattle.law_moves.proofs.MembersStay.{use_kept, name_kept}
use Rattle.law_moves.proofs.NamesStay.{names_kept}

pub moves_keep_names : MovesKeepNames
moves_keep_names = names_kept

members_by : MovesKeepNames → MovesKeepMembers
members_by names w known from to s h p is u place begins = (
  use_kept w known (revision_of w s) (names w known from to s h) h.sound h.right p is u place begins,
  name_kept w known (revision_of w s) (names w known from to s h) h.sound h.right p is u place begins,
)

pub moves_keep_members : MovesKeepMembers
moves_keep_members = members_by names_kept
