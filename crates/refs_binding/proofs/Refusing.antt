-- Refusals of workspaces with faults, and refusals in workspaces without faults.
use Rattle.std.proofs.Common.{ℕ, List, []}
use Rattle.std.specs.Prelude.{Result, Ok, Err, IfOk}
use Rattle.base_files.specs.Workspace.{Workspace}
use Rattle.base_files.specs.declared.place.Place.{Place}
use Rattle.base_files.specs.declared.refusal.Refusal.{Refusal}
use Rattle.base_files.specs.declared.refusal.Refusal.TheVariants as refusal
use Rattle.workspace_check.specs.declared.findings.Findings.{Findings}
use Rattle.workspace_check.specs.Found.{AreFindings}
use Rattle.workspace_check.specs.FaultLists.{ListsFaults}
use Rattle.refs_binding.specs.Uses.{HasFileAt, AnswersUses, AnswersUsesAt}
use Rattle.refs_binding.specs.Workspaces.{IsFaultless, RefusesFirst, RefusesFaults, AnswersUsesIn}
use Rattle.refs_binding.proofs.Units.{sound_by_list}

-- where something was found, the first fault of the list, if there is one

pub refusal_first : (w : Workspace) (found : Findings) (r : Refusal) → RefusesFirst w (Err r) → RefusesFaults w found (Err r)
refusal_first w found refusal.Memory h = h
refusal_first w found refusal.BadCommand h = absurd h
refusal_first w found refusal.BadPath h = absurd h
refusal_first w found refusal.NoFile h = absurd h
refusal_first w found refusal.TooLarge h = absurd h
refusal_first w found (refusal.Moved a) h = absurd h
refusal_first w found refusal.NothingToUndo h = absurd h
refusal_first w found refusal.NothingToRedo h = absurd h
refusal_first w found (refusal.Faulty a b) h = h
refusal_first w found refusal.NoIdentifier h = absurd h
refusal_first w found refusal.NotRenamable h = absurd h
refusal_first w found refusal.BadName h = absurd h
refusal_first w found refusal.Same h = absurd h
refusal_first w found (refusal.Captured a b) h = absurd h
refusal_first w found (refusal.Lost a) h = absurd h
refusal_first w found refusal.NoPackage h = absurd h
refusal_first w found refusal.TargetTaken h = absurd h
refusal_first w found refusal.InsideItself h = absurd h
refusal_first w found refusal.JournalFull h = absurd h
refusal_first w found (refusal.Pending a) h = absurd h
refusal_first w found (refusal.Stale a) h = absurd h
refusal_first w found refusal.Already h = absurd h
refusal_first w found refusal.NoJob h = absurd h
refusal_first w found refusal.BodyShort h = absurd h
refusal_first w found (refusal.Coupled place) h = absurd h
refusal_first w found refusal.Disk h = absurd h

-- without a first fault there is none
pub sound_unless_refused : (w : Workspace) (found : Findings) → AreFindings w found → (r : Result (Unit {0}) Refusal) → RefusesFirst w r →
    IfOk r (λ _. IsFaultless w found)
sound_unless_refused w found are (Ok done) h = sound_by_list w found are h
sound_unless_refused w found are (Err r) h = tt

-- the first fault is why there are no uses
pub faults_refused : (w : Workspace) (found : Findings) (path : List ℕ) (offset : ℕ) (r : Refusal) → RefusesFaults w found (Err r) →
    AnswersUsesIn w path offset (Err r)
faults_refused w found path offset refusal.Memory h = h
faults_refused w found path offset refusal.BadCommand h = absurd h
faults_refused w found path offset refusal.BadPath h = absurd h
faults_refused w found path offset refusal.NoFile h = absurd h
faults_refused w found path offset refusal.TooLarge h = absurd h
faults_refused w found path offset (refusal.Moved a) h = absurd h
faults_refused w found path offset refusal.NothingToUndo h = absurd h
faults_refused w found path offset refusal.NothingToRedo h = absurd h
faults_refused w found path offset (refusal.Faulty a b) h = h
faults_refused w found path offset refusal.NoIdentifier h = absurd h
faults_refused w found path offset refusal.NotRenamable h = absurd h
faults_refused w found path offset refusal.BadName h = absurd h
faults_refused w found path offset refusal.Same h = absurd h
faults_refused w found path offset (refusal.Captured a b) h = absurd h
faults_refused w found path offset (refusal.Lost a) h = absurd h
faults_refused w found path offset refusal.NoPackage h = absurd h
faults_refused w found path offset refusal.TargetTaken h = absurd h
faults_refused w found path offset refusal.InsideItself h = absurd h
faults_refused w found path offset refusal.JournalFull h = absurd h
faults_refused w found path offset (refusal.Pending a) h = absurd h
faults_refused w found path offset (refusal.Stale a) h = absurd h
faults_refused w found path offset refusal.Already h = absurd h
faults_refused w found path offset refusal.NoJob h = absurd h
faults_refused w found path offset refusal.BodyShort h = absurd h
faults_refused w found path offset (refusal.Coupled place) h = absurd h
faults_refused w found path offset refusal.Disk h = absurd h

-- a workspace without faults

refusal_told : (w : Workspace) (path : List ℕ) (offset : ℕ) → ListsFaults w [] → (r : Refusal) → AnswersUsesAt w path offset (Err r) →
    AnswersUsesIn w path offset (Err r)
refusal_told w path offset list refusal.Memory h = h
refusal_told w path offset list refusal.BadCommand h = absurd h
refusal_told w path offset list refusal.BadPath h = absurd h
refusal_told w path offset list refusal.NoFile h = absurd h
refusal_told w path offset list refusal.TooLarge h = absurd h
refusal_told w path offset list (refusal.Moved a) h = absurd h
refusal_told w path offset list refusal.NothingToUndo h = absurd h
refusal_told w path offset list refusal.NothingToRedo h = absurd h
refusal_told w path offset list (refusal.Faulty a b) h = absurd h
refusal_told w path offset list refusal.NoIdentifier h = (list, h)
refusal_told w path offset list refusal.NotRenamable h = (list, h)
refusal_told w path offset list refusal.BadName h = absurd h
refusal_told w path offset list refusal.Same h = absurd h
refusal_told w path offset list (refusal.Captured a b) h = absurd h
refusal_told w path offset list (refusal.Lost a) h = absurd h
refusal_told w path offset list refusal.NoPackage h = absurd h
refusal_told w path offset list refusal.TargetTaken h = absurd h
refusal_told w path offset list refusal.InsideItself h = absurd h
refusal_told w path offset list refusal.JournalFull h = absurd h
refusal_told w path offset list (refusal.Pending a) h = absurd h
refusal_told w path offset list (refusal.Stale a) h = absurd h
refusal_told w path offset list refusal.Already h = absurd h
refusal_told w path offset list refusal.NoJob h = absurd h
refusal_told w path offset list refusal.BodyShort h = absurd h
refusal_told w path offset list (refusal.Coupled place) h = absurd h
refusal_told w path offset list refusal.Disk h = absurd h

pub uses_told : (w : Workspace) (path : List ℕ) (offset : ℕ) → ListsFaults w [] → (r : Result (List Place) Refusal) → AnswersUsesAt w path offset r →
    AnswersUsesIn w path offset r
uses_told w path offset list (Ok places) h = (list, h)
uses_told w path offset list (Err r) h = refusal_told w path offset list r h

-- a file of the workspace

refusal_of_file : (w : Workspace) (path : List ℕ) (offset : ℕ) → HasFileAt w path → (r : Refusal) → AnswersUsesIn w path offset (Err r) →
    AnswersUses w path offset (Err r)
refusal_of_file w path offset is refusal.Memory h = h
refusal_of_file w path offset is refusal.BadCommand h = absurd h
refusal_of_file w path offset is refusal.BadPath h = absurd h
refusal_of_file w path offset is refusal.NoFile h = absurd h
refusal_of_file w path offset is refusal.TooLarge h = absurd h
refusal_of_file w path offset is (refusal.Moved a) h = absurd h
refusal_of_file w path offset is refusal.NothingToUndo h = absurd h
refusal_of_file w path offset is refusal.NothingToRedo h = absurd h
refusal_of_file w path offset is (refusal.Faulty a b) h = (is, h)
refusal_of_file w path offset is refusal.NoIdentifier h = (is, h.0, h.1)
refusal_of_file w path offset is refusal.NotRenamable h = (is, h.0, h.1)
refusal_of_file w path offset is refusal.BadName h = absurd h
refusal_of_file w path offset is refusal.Same h = absurd h
refusal_of_file w path offset is (refusal.Captured a b) h = absurd h
refusal_of_file w path offset is (refusal.Lost a) h = absurd h
refusal_of_file w path offset is refusal.NoPackage h = absurd h
refusal_of_file w path offset is refusal.TargetTaken h = absurd h
refusal_of_file w path offset is refusal.InsideItself h = absurd h
refusal_of_file w path offset is refusal.JournalFull h = absurd h
refusal_of_file w path offset is (refusal.Pending a) h = absurd h
refusal_of_file w path offset is (refusal.Stale a) h = absurd h
refusal_of_file w path offset is refusal.Already h = absurd h
refusal_of_file w path offset is refusal.NoJob h = absurd h
refusal_of_file w path offset is refusal.BodyShort h = absurd h
refusal_of_file w path offset is (refusal.Coupled place) h = absurd h
refusal_of_file w path offset is refusal.Disk h = absurd h

pub uses_of_file : (w : Workspace) (path : List ℕ) (offset : ℕ) → HasFileAt w path → (r : Result (List Place) Refusal) → AnswersUsesIn w path offset r →
    AnswersUses w path offset r
uses_of_file w path offset is (Ok places) h = (is, h.0, h.1)
uses_of_file w path offset is (Err r) h = refusal_of_file w path offset is r h
