-- A rename that is planned in the part of a workspace.
use Rattle.std.specs.Prelude.{◌≡◌}
use Rattle.workspace_check.specs.Found.{IsFound}
use Rattle.workspace_check.specs.KnownFindings.{verdicts_by}
use Rattle.workspace_graph.specs.Borrows.{names}
use Rattle.refactor_part.specs.FaultlessPart.{part_of_snapshot}
use Rattle.refactor_part.specs.LeftOut.{IsLeftOut}
use Rattle.refactor_plan.specs.Proposals.{IsProposed}
use Rattle.refactor_plan.specs.declared.proposal.Proposal.{Proposal}
use Rattle.refactor_affected.specs.Renames.{IsAskedInSound}
use Rattle.refactor_affected.specs.declared.in_part.RenameInPart.{RenameInPart}

-- The findings are those of the snapshot and of its part, and what the part leaves out are the packages with faults. The file exists, the name
-- has its form, and the file's own package has no fault.
pub record IsInPart (r : RenameInPart) : Type 0 where
  pub found : IsFound r.asked.now.snapshot.now.files r.asked.now.found.now
  pub asked : IsAskedInSound r.asked.now.snapshot.now.files r.asked.now.file.now r.asked.now.name.now
  pub part : r.part.now.snapshot ≡ part_of_snapshot r.asked.now.snapshot.now (verdicts_by r.asked.now.found.now.findings.export_table)
  pub part_found : IsFound r.part.now.snapshot.files r.part.now.found
  pub left : IsLeftOut r.asked.now.snapshot.now.files (verdicts_by r.asked.now.found.now.findings.export_table) (names r.left.now.folders.items)
      (names r.left.now.paths.items)

-- It is proposed for the part, the file and the byte.
pub record IsProposedIn (r : RenameInPart) (p : Proposal) : Type 0 where
  pub proposed : IsProposed p
  pub snapshot : p.snapshot.now ≡ r.part.now.snapshot
  pub file : p.path.now ≡ r.asked.now.file.now
  pub offset : p.offset ≡ r.asked.now.offset
