-- A move that the workspace before it decides: its first conflict is refused, and without one it preserves bindings.
use Rattle.std.proofs.Common.{ℕ, ◌≡◌, inl, inr, List, [], Option, Some, None, refl, sym, ap, subst, ◌∙◌}
use Rattle.std.specs.Prelude.{Err}
use Rattle.base_files.specs.Packages.{package_paths}
use Rattle.base_files.specs.Workspace.{Workspace}
use Rattle.base_files.specs.declared.refusal.Refusal.TheVariants.{TooLarge}
use Rattle.base_edits.specs.EditSet.{FileChanges, edited}
use Rattle.base_edits.specs.Fits.{Fits}
use Rattle.base_edits.specs.RevisionsOfEdits.{revision_of}
use Rattle.types_declared.specs.Package.{Package}
use Rattle.workspace_check.specs.declared.known.Known.{Known}
use Rattle.workspace_check.specs.Found.{KnowsVerdicts}
use Rattle.workspace_check.specs.FaultLists.{ListsFaults}
use Rattle.workspace_check.specs.Verdicts.{Verdicts, AreVerdicts}
use Rattle.workspace_snapshot.specs.declared.change.ChangeKind.{ChangeKind}
use Rattle.workspace_snapshot.specs.declared.snapshot.Snapshot.{Snapshot}
use Rattle.refs_binding.specs.Uses.{IsCheckedPackage}
use Rattle.refactor_move.specs.Following.{IsFollowingName}
use Rattle.refactor_move.specs.MoveEdits.{AreMoveEdits}
use Rattle.refactor_preserve.specs.Preserved.{Preserves}
use Rattle.refactor_conflict.specs.declared.conflict.Conflict.{Conflict}
use Rattle.refactor_conflict.specs.ConflictRefusal.{refusal_for}
use Rattle.refactor_conflict.specs.Conflicts.{IsFirstConflict}
use Rattle.law_moves.specs.Moves.{IsMove}
use Rattle.law_moves.specs.MovedFindings.{AllKnownMove}
use Rattle.law_moves.specs.MovedVerdicts.{FreeTargetsSwap, PackagesStayBound, SameTargetsSwap}
use Rattle.law_moves.proofs.MovedVerdictsLaws.{all_known}
use Rattle.law_moves.proofs.Swapped.{free_swap, same_target}
use Rattle.law_moves.specs.Agreement.{FirstConflictsDecideMoves, IsPlannedTarget}
use Rattle.law_moves.proofs.FromVerdicts.{swaps}
use Rattle.law_moves.proofs.MovesDecideLaws.{bound, decide}
use Rattle.refactor_follow.specs.MoveConflicts.{TellsMoveConflict}
use Rattle.refactor_known.specs.MovedKnown.{AreMovedKnown}
use Rattle.refactor_known.specs.declared.swap.Swap.{Swap}
use Rattle.refactor_known.specs.Swaps.{map_of, swapped}
use Rattle.refactor_plan.specs.DecidedMoves.{IsPlannedMove, KnowsMoved}
use Rattle.refactor_plan.specs.MovePlan.{IsMovable, NamesMovedPackage}
use Rattle.refactor_plan.specs.MoveSteps.{RefusesLength}
use Rattle.refactor_plan.specs.Proposals.{IsConflictRefusal, PlansChange}
use Rattle.refactor_plan.proofs.MovePlanned.{conflict_of_length, spared_by_free}
use Rattle.refactor_plan.proofs.Proposed.{conflict_named, conflict_planned}

-- the moves that are planned

module _ (w : Workspace) (sound : ListsFaults w []) (known : Verdicts) (right : AreVerdicts w known) (from to : List ℕ) (s : FileChanges)
    (fit : Fits s w) where
  -- the package goes to a free path
  pub moves_there : IsMovable w from to → AreMoveEdits w known from to to s → IsPlannedMove w known from to to s
  moves_there is edits =
      let asked = is.beside.elsewhere.asked in record {
        move = record {
          right = right;
          sound = sound;
          source = asked.source;
          target = asked.target;
          is_package = asked.is_package;
          only_moved = spared_by_free w from to is.free;
          called = to;
          edits = edits;
          fit = fit;
        };
        follows = refl;
        allowed = inl (record { other = is.beside.elsewhere.other; outside = is.beside.outside; free = is.free });
      }

  -- it only gets the name that it has at that path
  pub names_there : NamesMovedPackage w from to → AreMoveEdits w known from from to s → IsPlannedMove w known from from to s
  names_there asked edits = record {
    move = record {
      right = right;
      sound = sound;
      source = asked.source;
      target = asked.source;
      is_package = asked.is_package;
      only_moved = λ path is under. under;
      called = to;
      edits = edits;
      fit = fit;
    };
    follows = refl;
    allowed = inr refl;
  }

module _ (law : FirstConflictsDecideMoves) (snapshot : Snapshot) (known : Verdicts) (from to : List ℕ) (s : FileChanges)
    (move : IsMove snapshot.files known from to s) (allowed : IsPlannedTarget snapshot.files from to) where
  conflict_told : (c : Conflict) → IsFirstConflict snapshot.files known (revision_of snapshot.files s) (Some c) →
      IsConflictRefusal snapshot.files known s (refusal_for c.by c.used)
  conflict_told c tells =
      let refused = law snapshot.files known from to s move allowed (Some c) tells in
      conflict_named snapshot.files known s refused c tells.0 tells.1

  -- a conflict is refused
  move_refused : (kind : ChangeKind) (c : Conflict) → IsFirstConflict snapshot.files known (revision_of snapshot.files s) (Some c) →
      PlansChange snapshot known kind s (Err (refusal_for c.by c.used))
  move_refused kind c tells = conflict_planned snapshot known kind s c.by c.used (conflict_told c tells)

  name_refused : (c : Conflict) → IsFirstConflict snapshot.files known (revision_of snapshot.files s) (Some c) →
      RefusesLength snapshot.files known s (Err (refusal_for c.by c.used))
  name_refused c tells = conflict_of_length snapshot.files known s c.by c.used (conflict_told c tells)

  -- without a conflict
  move_kept : IsFirstConflict snapshot.files known (revision_of snapshot.files s) None → Preserves snapshot.files (revision_of snapshot.files s)
  move_kept tells = law snapshot.files known from to s move allowed None tells

  name_kept : IsFirstConflict snapshot.files known (revision_of snapshot.files s) None → RefusesLength snapshot.files known s (Err TooLarge)
  name_kept tells = move_kept tells

-- by what the workspace before it tells
module _ (snapshot : Snapshot) (known : Verdicts) (from to : List ℕ) (s : FileChanges) where
  pub conflict_refused : (kind : ChangeKind) → IsPlannedMove snapshot.files known from to to s → (c : Conflict) →
      TellsMoveConflict snapshot.files known from to (Some c) → PlansChange snapshot known kind s (Err (refusal_for c.by c.used))
  conflict_refused kind m c tells = move_refused decide snapshot known from to s m.move m.allowed kind c (tells to s m.move m.follows)

  pub preserved : IsPlannedMove snapshot.files known from to to s → IsFirstConflict snapshot.files known (revision_of snapshot.files s) None →
      Preserves snapshot.files (revision_of snapshot.files s)
  preserved m tells = move_kept decide snapshot known from to s m.move m.allowed tells

  pub name_conflict_refused : IsPlannedMove snapshot.files known from from to s → (c : Conflict) → TellsMoveConflict snapshot.files known from to (Some c) →
      RefusesLength snapshot.files known s (Err (refusal_for c.by c.used))
  name_conflict_refused m c tells = name_refused decide snapshot known from from s m.move m.allowed c (tells from s m.move m.follows)

  pub too_long : IsPlannedMove snapshot.files known from from to s → TellsMoveConflict snapshot.files known from to None →
      RefusesLength snapshot.files known s (Err TooLarge)
  too_long m tells = name_kept decide snapshot known from from s m.move m.allowed (tells from s m.move m.follows)

-- what is known of packages

-- a package has one new name
one_name : (K : Package → Type 0) (from to : List ℕ) (a b : Option (List ℕ)) → IsFollowingName K from to a → IsFollowingName K from to b → a ≡ b
one_name K from to None None h k = refl
one_name K from to None (Some n) h k = absurd (h k.0)
one_name K from to (Some n) None h k = absurd (k h.0)
one_name K from to (Some n) (Some m) h k = ap Some (h.1 ∙ sym k.1)

module _ (w : Workspace) (known : Verdicts) (from to : List ℕ) (s : FileChanges) (m : IsPlannedMove w known from to to s) (old rest : Known)
    (knows : KnowsVerdicts w old) (tells : IsFirstConflict w known (revision_of w s) None) where
  abbrev Names : (start : List ℕ) (name : Option (List ℕ)) → Type 0
  Names start name = AreMovedKnown start name (swapped from to) (package_paths w) (package_paths (edited s w)) old rest

  same_name : (name : Option (List ℕ)) → IsFollowingName (IsCheckedPackage w known) from to name → name ≡ m.move.edits.moved.name
  same_name name is =
      one_name (IsCheckedPackage w known) from to name m.move.edits.moved.name is
      (subst (λ c. IsFollowingName (IsCheckedPackage w known) from c m.move.edits.moved.name) m.follows m.move.edits.is_move.name)

  known_by : AllKnownMove → FreeTargetsSwap → SameTargetsSwap → KnowsMoved w (edited s w) known from to old rest → KnowsVerdicts (edited s w) rest
  known_by law free same k =
      law w known from to s m.move (swaps free same w known from to s m.move m.allowed) tells old rest knows
      (subst (λ start. Names start m.move.edits.moved.name) (sym m.move.edits.is_move.source)
      (subst (Names from) (same_name k.name k.follows) k.moved))

known_law : (PackagesStayBound → AllKnownMove) → PackagesStayBound → AllKnownMove
known_law law bound = law bound

pub kept : (w : Workspace) (known : Verdicts) (from to : List ℕ) (s : FileChanges) → IsPlannedMove w known from to to s → (old rest : Known) →
    KnowsVerdicts w old → IsFirstConflict w known (revision_of w s) None → KnowsMoved w (edited s w) known from to old rest → KnowsVerdicts (edited s w) rest
kept w known from to s m old rest knows tells k =
    known_by w known from to s m old rest knows tells (known_law all_known bound) free_swap same_target k

-- as it is told of the code's values
pub all_moved : (from to : List ℕ) (w after : Workspace) (old rest : Known) (name : Option (List ℕ)) (swap : Swap) → swap ≡ record { from = from; to = to } →
    (n : Option (List ℕ)) → n ≡ name → (g : Workspace) → g ≡ w → (k : Known) → k ≡ old →
    AreMovedKnown swap.from n (map_of swap) (package_paths g) (package_paths after) k rest →
    AreMovedKnown from name (swapped from to) (package_paths w) (package_paths after) old rest
all_moved from to w after old rest name swap swaps_them n is_name g is_before k is_known are =
    subst (λ (x : Known). AreMovedKnown from name (swapped from to) (package_paths w) (package_paths after) x rest) is_known
    (subst (λ (x : Workspace). AreMovedKnown from name (swapped from to) (package_paths x) (package_paths after) k rest) is_before
    (subst (λ (x : Option (List ℕ)). AreMovedKnown from x (swapped from to) (package_paths g) (package_paths after) k rest) is_name
    (subst (λ (x : Swap). AreMovedKnown x.from n (map_of x) (package_paths g) (package_paths after) k rest) swaps_them are)))
