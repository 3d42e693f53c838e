-- A rename is decided by the workspace before it: its obstacle is refused. Without one it preserves bindings and implementing types, and keeps known
-- verdicts.
use Rattle.std.proofs.Common.{ℕ, ◌≡◌, ◌<◌, true, false, Bool, List, Option, Some, None, refl, sym, subst}
use Rattle.std.specs.Prelude.{[], Err, IsTrue, option_map, slice_get}
use Rattle.std.proofs.lemmas.Bool.{false≢true}
use Rattle.base_files.specs.Packages.{package_paths}
use Rattle.base_files.specs.Workspace.{Workspace}
use Rattle.base_files.specs.declared.place.Place.{Place}
use Rattle.base_edits.specs.EditSet.{FileChanges, edited}
use Rattle.base_edits.specs.Fits.{Fits}
use Rattle.base_edits.specs.RevisionsOfEdits.{revision_of}
use Rattle.go_ast.specs.SourceFile.{SourceFile, source_of}
use Rattle.types_declared.specs.Package.{Package}
use Rattle.workspace_check.specs.declared.known.Known.{Known}
use Rattle.workspace_check.specs.FaultLists.{ListsFaults}
use Rattle.workspace_check.specs.Found.{KnowsVerdicts}
use Rattle.workspace_check.specs.Verdicts.{Verdicts, AreVerdicts}
use Rattle.workspace_check.proofs.Telling.{known_same}
use Rattle.workspace_graph.proofs.ByPath.{number as number_of_path}
use Rattle.refs_binding.specs.declared.declaration.Declaration.{Declaration}
use Rattle.refs_binding.specs.declared.declaration.Declaration.TheVariants.{Predeclared, Declared, Field, Method}
use Rattle.refs_binding.specs.Uses.{IsCheckedPackage, IsUseOf}
use Rattle.refs_binding.proofs.Units.{one_package}
use Rattle.refs_lookup.proofs.BoundUsedMembers.{file_at}
use Rattle.refs_uses.specs.UsesOfEach.{IsUseOfSome}
use Rattle.law_faultless.proofs.Declared.{may_within}
use Rattle.refactor_rename.specs.declared.renamed.Literal.{Literal}
use Rattle.refactor_rename.specs.Literals.{IsLiteralFound, IsPathLiteralIn, IsPathLiteralOf, IsTokenOf, IsUnnamedImport}
use Rattle.workspace_snapshot.specs.declared.snapshot.Snapshot.{Snapshot}
use Rattle.refactor_preserve.specs.Preserved.{Preserves}
use Rattle.refactor_conflict.specs.Conflicts.{IsFirstConflict}
use Rattle.refactor_coupled.specs.CoupledEdits.{AreCoupledEdits}
use Rattle.refactor_coupled.specs.ObstacleRefusal.{refusal_of_obstacle}
use Rattle.refactor_coupled.specs.Obstacles.{HasNoObstacle, IsFirstObstacle, PreservesAll}
use Rattle.refactor_coupled.specs.declared.obstacle.Obstacle.{Obstacle}
use Rattle.refactor_coupled.specs.declared.obstacle.Obstacle.TheVariants as obstacle
use Rattle.law_renamed_workspaces.specs.Renames.{IsMember, IsPlainRename, IsSetWith}
use Rattle.law_renamed_workspaces.proofs.RenamedSets.{own_alone}
use Rattle.law_renamed_workspaces.proofs.OwnNames.{identifies}
use Rattle.law_renamed_workspaces.proofs.Standing.{in_package}
use Rattle.law_renamed_workspaces.specs.MemberRenames.{IsMemberRename}
use Rattle.law_renamed_workspaces.specs.KnownVerdicts.{HoldVerdictsBut, IsHidden, IsHomeNumber, IsKeptRename, HiddenRenamesKeepVerdicts, OtherKnownVerdictsStay}
use Rattle.law_renamed_workspaces.proofs.KnownVerdictsLaws.{all_others, hidden as all_hidden}
use Rattle.law_agreement.specs.ScopeConflicts.{FirstConflictsAreTold}
use Rattle.law_agreement.proofs.Whole.{first_told as conflicts_told}
use Rattle.law_gained_names.specs.UnnamedRenames.{IsUnnamedRename, UnnamedConflictsAreTold}
use Rattle.law_gained_names.specs.UnnamedRenames.{UnnamedRenamesHaveSteps, UnnamedRenamesKeepOthers}
use Rattle.law_gained_names.proofs.UnnamedRenamesWhole.{unnamed_conflicts_are_told, unnamed_renames_keep_others}
use Rattle.law_implementing.specs.Obstacles.{NoObstacleIsHarmless, ObstaclesDecide, ScopeRenamesTurnNone}
use Rattle.law_implementing.specs.UnnamedObstacles.{UnnamedObstaclesDecide, UnnamedRenamesTurnNone}
use Rattle.refactor_decide.specs.Deciding.{Decides}
use Rattle.refactor_decide.specs.Own.{CanRename}
use Rattle.refactor_decide.specs.declared.decision.ScopeDecision.{ScopeDecision}
use Rattle.refactor_decide.proofs.Told.{first_told, is_hidden as hidden_told, no_literal, plain, plain_set}
use Rattle.refactor_plan.specs.Decided.{DecidesRenames, IsDecided, IsLegalFor, KeepsKnown, obstacles_of}
use Rattle.refactor_plan.specs.Proposals.{PlansRenaming}
use Rattle.refactor_plan.proofs.ImportUses.{import_used}
use Rattle.refactor_plan.proofs.Premises.{have_steps, no_obstacle_is_harmless, obstacles_decide, scope_renames_turn_none, sets_are_called_alike}
use Rattle.refactor_plan.proofs.Premises.{unnamed_obstacles_decide, unnamed_renames_turn_none}
use Rattle.refactor_plan.proofs.ProposedRenames.{obstacle_named, obstacle_planned, scope_obstacle, stands_against}

-- Each lemma takes the laws that it rests on as arguments.

-- a field or method has no string literal
no_member_literal : (K : Package → Type 0) (d : Declaration) → IsMember d → (l : Literal) → IsPathLiteralOf K d l → ⊥
no_member_literal K (Predeclared n) is l h = is
no_member_literal K (Declared path n) is l h = is
no_member_literal K (Field s) is l h = h
no_member_literal K (Method s) is l h = h

-- A plain rename

module _ (decide : ObstaclesDecide) (harmless : NoObstacleIsHarmless) (all : HiddenRenamesKeepVerdicts) (others : OtherKnownVerdictsStay) (w : Workspace)
    (known : Verdicts) (d : Declaration) (name : List ℕ) (s : FileChanges) (rename : IsPlainRename w known d name s) where
  abbrev set : List Declaration
  set = rename.rename.set

  kept_by : HasNoObstacle w known (revision_of w s) → Preserves w (revision_of w s) → (is_hidden : Bool) → (IsTrue is_hidden → IsHidden w known d name) →
      (old new : Known) → KnowsVerdicts w old → KeepsKnown w set is_hidden old new → KnowsVerdicts (edited s w) new
  kept_by none after true hidden old new knows keeps =
      let kept : IsKeptRename w known d name s = record { plain = rename; kept = harmless w known d name s rename none } in
      known_same (edited s w) old new keeps (all w known after.after d name s kept after.right_after (hidden refl) old knows)
  kept_by none after false hidden old new knows keeps =
      let kept : IsKeptRename w known d name s = record { plain = rename; kept = harmless w known d name s rename none } in
      others w known after.after d name s kept after.right_after old new knows keeps

  plain_by : (is_hidden : Bool) → (IsTrue is_hidden → IsHidden w known d name) → (told : Option Obstacle) → IsFirstObstacle w known (revision_of w s) told →
      IsDecided w known set is_hidden told s
  plain_by is_hidden hidden told first =
      let same = decide w known d name s rename in
      record { first = first; agrees = same; keeps = λ none. kept_by none (same.0 none).bindings is_hidden hidden }

plain_decided : (w : Workspace) (known : Verdicts) (d : Declaration) (name : List ℕ) (s : FileChanges) (rename : IsPlainRename w known d name s) →
    (is_hidden : Bool) → (IsTrue is_hidden → IsHidden w known d name) → (told : Option Obstacle) → IsFirstObstacle w known (revision_of w s) told →
    IsDecided w known rename.rename.set is_hidden told s
plain_decided = plain_by obstacles_decide no_obstacle_is_harmless all_hidden all_others

-- what is told of the rename of fields or methods decides its edits
pub member_decided : (w : Workspace) → ListsFaults w [] → (known : Verdicts) → AreVerdicts w known → (d : Declaration) (set : List Declaration)
    (name : List ℕ) (s : FileChanges) → IsLegalFor w known d name → AreCoupledEdits w known d set name s → Fits s w → IsMember d → (told : Option Obstacle) →
    (IsMemberRename w known d set name s → IsFirstObstacle w known (revision_of w s) told) → IsDecided w known set false told s
member_decided w sound known right d set name s legal edits fit member told tells =
    let rename : IsPlainRename w known d name s = record {
      rename = record {
        right = right;
        sound = sound;
        form = legal.form;
        renamable = legal.renamable;
        allowed = legal.allowed;
        other = legal.other;
        used = legal.used member;
        set = set;
        is_set = sets_are_called_alike w known d set right sound edits.is_set;
        edits = edits.edits;
        fit = fit;
      };
      plain = no_literal (IsPathLiteralOf (IsCheckedPackage w known) d) (no_member_literal (IsCheckedPackage w known) d member)
          edits.edits.renamed.literal edits.edits.is_renamed.literal;
    } in
    plain_decided w known d name s rename false (λ is. absurd (false≢true is)) told (tells (record { rename = rename; of_set = refl; member = member }))

-- A rename of a declaration of scopes

module _ (w : Workspace) (sound : ListsFaults w []) (known : Verdicts) (right : AreVerdicts w known) (p : Package) (is : IsCheckedPackage w known p) (n : ℕ)
    (name : List ℕ) (can : CanRename p n name) where
  abbrev d : Declaration
  d = Declared p.path n

  -- where its edits have no literal, it is no import without a name
  named_by : ((l : Literal) → IsPathLiteralOf (IsCheckedPackage w known) d l → ⊥) → IsUnnamedImport p n → ⊥
  named_by none unnamed =
      let at = p.layout.place n in
      let t = file_at w known p.path p is.is_checked at n can.within (identifies w known p.path p is.is_checked n can.own, refl, refl) in
      let f : SourceFile = source_of t.0 in
      let there : slice_get p.files at.file ≡ Some f = in_package w known p.path p is.is_checked at t.0 t.1 in
      let one : Literal = record { path = f.path; token = at.index } in
      none one (record {
        inside = p;
        is_package = is;
        of_path = refl;
        holds = (can.within, unnamed, subst (λ o. IsTokenOf o at.index one) (sym there) (refl, refl));
      })

  unnamed_by : (l : Literal) → IsPathLiteralOf (IsCheckedPackage w known) d l → IsUnnamedImport p n
  unnamed_by l literal =
      let here : IsPathLiteralIn p n l =
      subst (λ (x : Package). IsPathLiteralIn x n l) (one_package w known literal.inside p literal.is_package is literal.of_path) literal.holds in
      here.1

  -- it is renamed alone

  module _ (set : List Declaration) (is_set : IsSetWith (IsCheckedPackage w known) d set) where
    one_use : (place : Place) → IsUseOfSome w known set place → IsUseOf w known d place
    one_use place used =
        subst (λ e. IsUseOf w known e place) (own_alone (IsCheckedPackage w known) d set is_set (λ member. member) used.declaration used.among) used.is_use

    use_of_one : (place : Place) → IsUseOf w known d place → IsUseOfSome w known set place
    use_of_one place used = record { declaration = d; among = is_set.has_it; is_use = used }

    home_number : (number : ℕ) → slice_get (package_paths w) number ≡ Some p.path → IsHomeNumber w set number
    home_number number at = record {
      path = p.path;
      has_number = at;
      is_home = record { declaration = d; among = is_set.has_it; declares = refl };
    }

    all_but_home : (number : ℕ) → slice_get (package_paths w) number ≡ Some p.path → (old new : Known) → KeepsKnown w set false old new →
        HoldVerdictsBut (λ k. k ≡ number) old.verdicts.items new.verdicts.items
    all_but_home number at old new keeps n one is =
        let kept = keeps n one is in
        ((λ same. kept.0 (subst (IsHomeNumber w set) (sym same) (home_number number at))), kept.1)

  -- decided

  module _ (steps : UnnamedRenamesHaveSteps) (keep : UnnamedRenamesKeepOthers) (tell : UnnamedConflictsAreTold) (turn : UnnamedRenamesTurnNone)
      (agree : UnnamedObstaclesDecide) (s : FileChanges) (u : IsUnnamedRename w known p n name s) where
    abbrev unnamed_set : List Declaration
    unnamed_set = u.rename.set

    unnamed_keeps : HasNoObstacle w known (revision_of w s) → (old new : Known) → KnowsVerdicts w old → KeepsKnown w unnamed_set false old new →
        KnowsVerdicts (edited s w) new
    unnamed_keeps none old new knows keeps =
        let number = number_of_path w p.path is.of_workspace in
        keep w known p n name s u (steps w known p n name s u).0 none.0 number.0 number.1 old new knows
        (all_but_home unnamed_set u.rename.is_set number.0 number.1 old new keeps)

    unnamed_decided : (x : ScopeDecision) → Decides w known p n name x → (is_hidden : Bool) → x.is_hidden ≡ is_hidden →
        IsDecided w known unnamed_set is_hidden (option_map obstacle.Conflict x.conflict) s
    unnamed_decided x h true hidden = absurd (h.has_name hidden u.unnamed)
    unnamed_decided x h false hidden =
        let f = steps w known p n name s u in
        record {
          first = scope_obstacle w known (revision_of w s) (turn w known p n name s u f.0) x.conflict
              (subst (IsFirstConflict w known (revision_of w s)) (sym h.first.is_told)
              (tell w known p n name s u f.0 h.first.own h.first.behind h.first.first_own h.first.first_behind));
          agrees = agree w known p n name s u f.0 f.1;
          keeps = unnamed_keeps;
        }

  module _ (law : FirstConflictsAreTold) (none : ScopeRenamesTurnNone) (steps : UnnamedRenamesHaveSteps) (keep : UnnamedRenamesKeepOthers)
      (tell : UnnamedConflictsAreTold) (turn : UnnamedRenamesTurnNone) (agree : UnnamedObstaclesDecide) (legal : IsLegalFor w known d name)
      (x : ScopeDecision) (h : Decides w known p n name x) (set : List Declaration) (s : FileChanges) (edits : AreCoupledEdits w known d set name s)
      (fit : Fits s w) where
    is_set : IsSetWith (IsCheckedPackage w known) d set
    is_set = sets_are_called_alike w known d set right sound edits.is_set

    by_literal : (o : Option Literal) → edits.edits.renamed.literal ≡ o → IsLiteralFound (IsPathLiteralOf (IsCheckedPackage w known) d) o →
        IsDecided w known set x.is_hidden (option_map obstacle.Conflict x.conflict) s
    by_literal None e no_literal_found =
        let named = named_by no_literal_found in
        let rename = plain w known p is n name x h sound right named s legal.form legal.renamable legal.allowed legal.other set is_set edits.edits fit in
        subst (λ l. IsDecided w known l x.is_hidden (option_map obstacle.Conflict x.conflict) s)
        (plain_set w known p is n name x h sound right named s legal.form legal.renamable legal.allowed legal.other set is_set edits.edits fit)
        (plain_decided w known d name s rename x.is_hidden (λ hidden. hidden_told w known p is n name x h (h.hidden hidden))
        (option_map obstacle.Conflict x.conflict)
        (scope_obstacle w known (revision_of w s) (none w known p n name s (record { rename = rename; is_package = is })) x.conflict
        (first_told w known p is n name x h law s rename)))
    by_literal (Some l) e literal =
        let unnamed = unnamed_by l literal in
        let uses = edits.edits.is_renamed.uses in
        unnamed_decided steps keep tell turn agree s (record {
          rename = record {
            right = right;
            sound = sound;
            form = legal.form;
            renamable = legal.renamable;
            allowed = legal.allowed;
            other = legal.other;
            used = import_used w sound known right p is n unnamed.0 h.can.declares h.can.own edits.edits.renamed.places
                (λ place used. (uses.each place).1 (use_of_one set is_set place used)) (λ place has. one_use set is_set place ((uses.each place).0 has));
            set = set;
            is_set = is_set;
            edits = edits.edits;
            fit = fit;
          };
          is_package = is;
          unnamed = unnamed;
        }) x h x.is_hidden refl

    by_edits : IsDecided w known set x.is_hidden (option_map obstacle.Conflict x.conflict) s
    by_edits = by_literal edits.edits.renamed.literal refl edits.edits.is_renamed.literal

scope_decided : (w : Workspace) → ListsFaults w [] → (known : Verdicts) → AreVerdicts w known → (p : Package) → IsCheckedPackage w known p → (n : ℕ)
    (set : List Declaration) (name : List ℕ) → IsLegalFor w known (Declared p.path n) name → (x : ScopeDecision) → Decides w known p n name x →
    DecidesRenames w known (Declared p.path n) set name (obstacles_of x)
scope_decided w sound known right p is n set name legal x h = λ s edits fit.
    by_edits w sound known right p is n name h.can conflicts_told scope_renames_turn_none have_steps unnamed_renames_keep_others
    unnamed_conflicts_are_told unnamed_renames_turn_none unnamed_obstacles_decide legal x h set s edits fit

pub scoped_decided : (w : Workspace) → ListsFaults w [] → (known : Verdicts) → AreVerdicts w known → (p : Package) → IsCheckedPackage w known p → (n : ℕ)
    (d : Declaration) → d ≡ Declared p.path n → (set : List Declaration) (name : List ℕ) → IsLegalFor w known d name → (x : ScopeDecision) →
    Decides w known p n name x → DecidesRenames w known d set name (obstacles_of x)
scoped_decided w sound known right p is n d same set name legal x h =
    subst (λ e. DecidesRenames w known e set name (obstacles_of x)) (sym same)
    (scope_decided w sound known right p is n set name (subst (λ e. IsLegalFor w known e name) same legal) x h)

-- a declaration that may get the name can be renamed
pub can_rename : (w : Workspace) (known : Verdicts) (p : Package) → IsCheckedPackage w known p → (n : ℕ) (d : Declaration) → d ≡ Declared p.path n →
    (name : List ℕ) → IsLegalFor w known d name → CanRename p n name
can_rename w known p is n d same name legal =
    let k = legal.counts p n is same in
    let within : n < p.size = may_within w known p.path p is.is_checked n k.counts.declares.may in
    let here : IsLegalFor w known (Declared p.path n) name = subst (λ e. IsLegalFor w known e name) same legal in
    record {
      within = within;
      own = k.own;
      declares = k.counts.declares;
      other_name = λ e. here.other (record { inside = p; is_package = is; of_path = refl; holds = (within, e) });
    }

-- An obstacle is refused.
pub obstacle_refused : (snapshot : Snapshot) (known : Verdicts) (set : List Declaration) (s : FileChanges) (is_hidden : Bool) (o : Obstacle) →
    IsDecided snapshot.files known set is_hidden (Some o) s → PlansRenaming snapshot known s (Err (refusal_of_obstacle o))
obstacle_refused snapshot known set s is_hidden o h =
    let w = snapshot.files in
    obstacle_planned snapshot known s o
    (obstacle_named w known s (λ keeps. stands_against w known (revision_of w s) o h.first (h.agrees.1 keeps)) o h.first)

-- without an obstacle
module _ (w : Workspace) (known : Verdicts) (set : List Declaration) (s : FileChanges) (is_hidden : Bool) (h : IsDecided w known set is_hidden None s) where
  pub preserved : PreservesAll w (revision_of w s)
  preserved = h.agrees.0 h.first

  pub kept : (old new : Known) → KnowsVerdicts w old → KeepsKnown w set is_hidden old new → KnowsVerdicts (edited s w) new
  kept = h.keeps h.first
