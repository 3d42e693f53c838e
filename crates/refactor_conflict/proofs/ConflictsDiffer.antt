-- An identifier that is in conflict does not stay bound.
use Rattle.std.proofs.Common.{ℕ}
use Rattle.std.specs.Prelude.{Option, Some, None}
use Rattle.base_files.specs.Workspace.{Workspace}
use Rattle.types_declared.specs.Package.{Package}
use Rattle.workspace_check.specs.Verdicts.{Verdicts}
use Rattle.base_edits.specs.Revisions.{Revision}
use Rattle.refs_binding.specs.declared.declaration.Declaration.{Declaration}
use Rattle.refs_binding.specs.Uses.{IsCheckedPackage}
use Rattle.refactor_conflict.specs.BoundAfter.{HasBecome, IsBoundByScopes, IsBoundByPackage, IsBoundByMember}
use Rattle.refactor_conflict.specs.Conflicts.{LostOrCaptured, is_lost, is_captured, LosesMember, ChangesBinding}
use Rattle.refactor_conflict.specs.Conflicts.{by_scope, by_package, by_member, by_name, IsConflict}
use Rattle.refactor_conflict.specs.Staying.{StaysBound, Stays, StaysAt}
use Rattle.refactor_conflict.specs.declared.conflict.Capturer.{Capturer}
use Rattle.refactor_conflict.specs.declared.conflict.Conflict.{Conflict}

not_bound : (Becomes : Declaration → Declaration → Type 0) (Known : Package → Type 0) (E : Declaration → Type 0) (old : Declaration)
    (by : Option Capturer) → LostOrCaptured Becomes Known E old by → StaysBound Becomes E old → ⊥
not_bound Becomes Known E old by (is_lost none) s = none s.declaration old s.bound s.become
not_bound Becomes Known E old by (is_captured e c is become told not) s = not s.declaration s.bound s.become

not_same : (Known : Package → Type 0) (E : Declaration → Type 0) (old : Declaration) (by : Option Capturer) → LosesMember Known E old by → E old → ⊥
not_same Known E old None h = h old
not_same Known E old (Some by) h = h.other

turned : (w : Workspace) (known : Verdicts) (r : Revision) (p : Package) (u : ℕ) (c : Conflict) → ChangesBinding w known r p u c →
    Stays w known r p u c.used → ⊥
turned w known r p u c (by_scope old was tells) s =
    not_bound (HasBecome w known r) (IsCheckedPackage w known) (IsBoundByScopes r c.used) old c.by tells (s.by_scope old was)
turned w known r p u c (by_package old was tells) s =
    not_bound (HasBecome w known r) (IsCheckedPackage w known) (IsBoundByPackage w r c.used p u) old c.by tells (s.by_package old was)
turned w known r p u c (by_member old was tells) s =
    not_same (IsCheckedPackage w known) (IsBoundByMember (IsCheckedPackage w known) r c.used p u old was) old c.by tells (s.by_member old was)
turned w known r p u c (by_name old was not none) s = not (s.by_name old was)

pub not_staying : (w : Workspace) (known : Verdicts) (r : Revision) (c : Conflict) → IsConflict w known r c → StaysAt w known r c.used → ⊥
not_staying w known r c h stays =
    let x = h.conflict in
    turned w known r h.used_in x.user c x.turned (stays h.used_in h.is_package x.user x.begins)
