-- What a workspace learns of its packages from verdicts that were found in another workspace.
use Rattle.std.specs.Prelude.{◌≡◌, ℕ, ◌<◌, List, length, Some, slice_get}
use Rattle.base_files.specs.Packages.{package_paths}
use Rattle.base_files.specs.Workspace.{Workspace}
use Rattle.workspace_check.specs.Closures.{HasSameClosure}
use Rattle.workspace_check.specs.Found.{KnowsVerdicts}
use Rattle.workspace_check.specs.declared.known.Known.{Known}
use Rattle.workspace_check.specs.declared.known.KnownVerdict.{KnownVerdict}
use Rattle.build_carry.specs.Changes.{MarkChanges}
use Rattle.build_carry.specs.declared.learning.FoundElsewhere.{FoundElsewhere}

-- A verdict stands at the number.
abbrev pub HasVerdictAt : Known → ℕ → Type 0
HasVerdictAt known n = (one : KnownVerdict) × (slice_get known.verdicts.items n ≡ Some (Some one))

-- Each verdict of `old` stands at its number in `new`.
abbrev pub KeepsVerdicts : (old new : Known) → Type 0
KeepsVerdicts old new = (n : ℕ) (one : KnownVerdict) → slice_get old.verdicts.items n ≡ Some (Some one) → slice_get new.verdicts.items n ≡ Some (Some one)

-- `known` has a verdict on the package p of v, and the closure of p has the same texts in w.
pub record HasKeptVerdict (v : Workspace) (known : Known) (w : Workspace) (p : List ℕ) : Type 0 where
  pub number : ℕ
  pub of_path : slice_get (package_paths v) number ≡ Some p
  pub verdict : HasVerdictAt known number
  pub same : HasSameClosure v w p

-- The verdicts are right where they were found, and the marks are those of the change from there to w.
pub record IsFoundElsewhere (w : Workspace) (from : FoundElsewhere) : Type 0 where
  pub right : KnowsVerdicts from.judged.now from.found.now
  pub before : MarkChanges from.judged.now w from.marks.now.before.items
  pub after : MarkChanges w from.judged.now from.marks.now.after.items

-- `new` is right of w. It has each verdict of `own`, and one on each of the first `count` packages on which `found` has one that w keeps.
-- `found` has verdicts on packages of v.
pub record LearnsFirst (w : Workspace) (own : Known) (v : Workspace) (found : Known) (count : ℕ) (new : Known) : Type 0 where
  pub right : KnowsVerdicts w new
  pub kept : KeepsVerdicts own new
  pub learned : (n : ℕ) (p : List ℕ) → n < count → slice_get (package_paths w) n ≡ Some p → HasKeptVerdict v found w p → HasVerdictAt new n

-- So it is with all packages of w.
abbrev pub LearnsFrom : Workspace → (own : Known) → Workspace → (found : Known) → (new : Known) → Type 0
LearnsFrom w own v found new = LearnsFirst w own v found (length (package_paths w)) new
