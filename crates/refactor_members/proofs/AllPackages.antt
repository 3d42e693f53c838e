-- All packages of a workspace, by number.
use Rattle.std.proofs.Common.{ℕ, ◌≡◌, ◌<◌, ◌≤◌, ◌+◌, length, subst, arith}
use Rattle.std.specs.Prelude.{Option, None}
use Rattle.base_files.specs.Packages.{package_paths}
use Rattle.base_files.specs.declared.place.Place.{Place}
use Rattle.types_declared.specs.Package.{Package}
use Rattle.refs_binding.specs.Workspaces.{IsFaultless, IsPackageAt}
use Rattle.refs_binding.proofs.Units.{number_within, numbered, one_at, package_there}
use Rattle.refactor_conflict.specs.Conflicts.{IsConflict, IsConflictIn}
use Rattle.refactor_conflict.specs.declared.conflict.Conflict.{Conflict}
use Rattle.refactor_conflict.proofs.Conflicts.{in_package}
use Rattle.refactor_conflict.proofs.MembersStay.{Below}
use Rattle.refactor_members.specs.Judging.{Judges, JudgesIn, AllMembersStayAt, MembersStayThere}
use Rattle.refactor_members.specs.Renames.{EditedRename, rename_revision, verdicts_in, workspace_before}
use Rattle.refactor_members.proofs.Judged.{judged_all, judged_as, judged_next}

-- Members stay in the package of a number.
abbrev pub NumberStays : EditedRename → ℕ → Place → Type 0
NumberStays m number place = (p : Package) → IsPackageAt (workspace_before m.of) (verdicts_in m.of) number p → MembersStayThere m p place

module _ (m : EditedRename) (sound : IsFaultless (workspace_before m.of) m.of.workspace.now.findings) where
  abbrev pub Told : Conflict → Type 0
  Told = IsConflict (workspace_before m.of) (verdicts_in m.of) (rename_revision m)

  pub next_package : (number : ℕ) → number < length (package_paths (workspace_before m.of)) → (a b : Option Conflict) →
      Judges m Told (Below (NumberStays m) number) None a →
      ((p : Package) → IsPackageAt (workspace_before m.of) (verdicts_in m.of) number p → JudgesIn m p (MembersStayThere m p) a b) →
      Judges m Told (Below (NumberStays m) (number + 1)) None b
  next_package number lt a b h k =
      let x = package_there (workspace_before m.of) m.of.workspace.now.findings sound number lt in
      let p = x.0 in
      judged_next m Told (NumberStays m) number None a b h
      (judged_as m (IsConflictIn (workspace_before m.of) (verdicts_in m.of) (rename_revision m) p) Told (MembersStayThere m p) (NumberStays m number) a b
      (λ knows c. in_package (workspace_before m.of) (verdicts_in m.of) (rename_revision m) number p x.1 c)
      (λ knows place stay q is. subst (λ (y : Package). MembersStayThere m y place) (one_at (workspace_before m.of) (verdicts_in m.of) number p q x.1 is) stay)
      (k p x.1))

  pub all_packages : (number : ℕ) → number ≡ length (package_paths (workspace_before m.of)) → (a : Option Conflict) →
      Judges m Told (Below (NumberStays m) number) None a → Judges m Told (AllMembersStayAt m) None a
  all_packages number end a h =
      judged_all m Told (NumberStays m) number None a (AllMembersStayAt m)
      (λ knows place stay p is. let n = numbered (workspace_before m.of) (verdicts_in m.of) p is in stay n.0 p n.1)
      (λ knows k place le p is.
      let within : k < length (package_paths (workspace_before m.of)) = number_within (workspace_before m.of) (verdicts_in m.of) k p is in
      let more : number ≤ k = le in absurd (omega (arith, within, more, end))) h
