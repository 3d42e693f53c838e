-- What is known of packages, after a move: the old findings and verdicts with moved symbols. The order of packages changes with their paths,
-- and so do their numbers.
use Rattle.std.specs.Prelude.{ℕ, ◌≡◌, false, List, [], Option, Some, map, slice_get}
use Rattle.go_scope.specs.declared.model.Position.{Position}
use Rattle.types_declared.specs.ExportTablesView.{export_data_known}
use Rattle.types_info.specs.declared.lists.Qualified.{Qualified}
use Rattle.types_info.specs.MemberUses.{enterings_in, uses_in}
use Rattle.workspace_check.specs.declared.finding.Finding.{Finding}
use Rattle.workspace_check.specs.declared.known.Known.{Known}
use Rattle.workspace_check.specs.declared.known.KnownVerdict.{KnownVerdict}
use Rattle.workspace_check.specs.KnownFindings.{verdict_from}
use Rattle.law_changed_types.specs.Moved.{PathMap, moved_entering, moved_use}
use Rattle.refactor_known.specs.MovedData.{moved_data}

-- The positions of names that an import qualifies, with its path; and so after a move.
abbrev pub listed : Qualified → List ℕ × List Position
listed q = (q.path.items, q.places.items)

abbrev pub moved_listed : PathMap → List ℕ × List Position → List ℕ × List Position
moved_listed g l = (g l.0, l.1)

-- The finding `now` is `was` after the move: at the moved path, without faults, with moved uses of members and moved entries, and with the
-- same qualified identifiers under moved paths.
pub record IsMovedFinding (g : PathMap) (was now : Finding) : Type 0 where
  pub path : now.path ≡ g was.path
  pub faultless : was.faults.items ≡ []
  pub still_faultless : now.faults.items ≡ []
  pub members : map uses_in now.members.items ≡ map (map (moved_use g)) (map uses_in was.members.items)
  pub enterings : map enterings_in now.enterings.items ≡ map (map (moved_entering g)) (map enterings_in was.enterings.items)
  pub qualified : map listed now.qualified.items ≡ map (moved_listed g) (map listed was.qualified.items)

-- The known verdict `now` is `was` after the move of the package `from`, which may get another name. Its finding is moved, it has no fault,
-- and its export data are moved.
pub record IsMovedKnown (from : List ℕ) (name : Option (List ℕ)) (g : PathMap) (was now : KnownVerdict) : Type 0 where
  pub finding : IsMovedFinding g was.finding now.finding
  pub verdict : verdict_from (g was.finding.path) now.known ≡
      record { faulty = false; export_data = moved_data from name g was.finding.path (export_data_known was.finding.path was.known) }

-- The known verdict `now` on the package at the path is one of the old known verdicts after the move. `paths`: those of packages before it,
-- by number.
pub record IsMovedFrom (from : List ℕ) (name : Option (List ℕ)) (g : PathMap) (paths : List (List ℕ)) (known : Known) (path : List ℕ)
    (now : KnownVerdict) : Type 0 where
  pub number : ℕ
  pub old : List ℕ
  pub of_number : slice_get paths number ≡ Some old
  pub goes : path ≡ g old
  pub was : KnownVerdict
  pub at_number : slice_get known.verdicts.items number ≡ Some (Some was)
  pub moved : IsMovedKnown from name g was now

-- Each verdict in `rest` is one of `known` after the move, at the number of the moved path. `before` and `after`: the paths of packages
-- before and after it, by number.
abbrev pub AreMovedKnown : (from : List ℕ) (name : Option (List ℕ)) → PathMap → (before after : List (List ℕ)) → (known rest : Known) → Type 0
AreMovedKnown from name g before after known rest = (n : ℕ) (path : List ℕ) (now : KnownVerdict) → slice_get after n ≡ Some path →
    slice_get rest.verdicts.items n ≡ Some (Some now) → IsMovedFrom from name g before known path now
