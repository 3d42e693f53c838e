-- The laws of this crate. Members stay, the crate below tells.
use Rattle.law_moves.specs.KeptNames.{MovesKeepMembers}
use Rattle.law_moves.proofs.Laws.{moves_keep_members}
use Rattle.law_moves.specs.MoveConflicts.{FirstImportConflictsAreTold, ImportConflictsAreConflicts, MoveConflictsAreOfImports}
use Rattle.law_moves.specs.MoveConflicts.{NamesThatStayHaveNoConflict, NoneLostIsSame, PlacesStayWithoutConflict}
use Rattle.law_moves.proofs.ConflictsTold.{conflict_is, conflict_was, place_free, place_stays}
use Rattle.law_moves.proofs.Firsts.{all_free, first_told, lost_none, none_followed}

pub conflicts : ImportConflictsAreConflicts
conflicts w known from to s h p is c k = conflict_is w known from to s h p is c k

only_by : MovesKeepMembers → MoveConflictsAreOfImports
only_by members w known from to s h p is c k free = conflict_was w known from to s h (members w known from to s h) p is c k free

pub only : MoveConflictsAreOfImports
only = only_by moves_keep_members

stay_by : MovesKeepMembers → PlacesStayWithoutConflict
stay_by members w known from to s h p is place =
    (place_free w known from to s h p is place, place_stays w known from to s h (members w known from to s h) p is place)

pub stay : PlacesStayWithoutConflict
stay = stay_by moves_keep_members

first_by : MovesKeepMembers → FirstImportConflictsAreTold
first_by members w known from to s h told first = first_told w known from to s h (members w known from to s h) told first

pub first : FirstImportConflictsAreTold
first = first_by moves_keep_members

none_by : MovesKeepMembers → NamesThatStayHaveNoConflict
none_by members w known from to s h none = none_followed w known from to s h (members w known from to s h) none

pub none : NamesThatStayHaveNoConflict
none = none_by moves_keep_members

lost_by : MovesKeepMembers → NoneLostIsSame
lost_by members w known from to s h = (all_free w known from to s h, lost_none w known from to s h (members w known from to s h))

pub lost : NoneLostIsSame
lost = lost_by moves_keep_members
