-- Steps that judge a rename, one after another.
use Rattle.std.proofs.Common.{ℕ, ◌≤◌, ◌+◌}
use Rattle.std.specs.Prelude.{Option}
use Rattle.base_files.specs.declared.place.Place.{Place}
use Rattle.refactor_conflict.specs.declared.conflict.Conflict.{Conflict}
use Rattle.refactor_conflict.proofs.KeepingFirst.{takes_none, takes_as, takes_then, still_holds, holds_as}
use Rattle.refactor_conflict.proofs.MembersStay.{Below, none_below, next_below, all_below}
use Rattle.refactor_members.specs.Judging.{Judges}
use Rattle.refactor_members.specs.Renames.{EditedRename, KnowsRename}

module _ (m : EditedRename) (P : Conflict → Type 0) where
  -- A step that finds nothing, where all that it judges stays.
  pub judged_none : (K : Place → Type 0) (a : Option Conflict) → (KnowsRename m → (place : Place) → K place) → Judges m P K a a
  judged_none K a k = λ knows. (takes_none P a, λ place ahead. k knows place)

  -- A step, with weaker statements.
  pub judged_as : (Q : Conflict → Type 0) (K L : Place → Type 0) (a b : Option Conflict) → (KnowsRename m → (c : Conflict) → P c → Q c) →
      (KnowsRename m → (place : Place) → K place → L place) → Judges m P K a b → Judges m Q L a b
  judged_as Q K L a b p k h = λ knows. let x = h knows in (takes_as P Q a b (p knows) x.0, holds_as K L b (k knows) x.1)

  -- Two steps.
  pub judged_both : (K L M : Place → Type 0) (a b c : Option Conflict) → (KnowsRename m → (place : Place) → K place → L place → M place) →
      Judges m P K a b → Judges m P L b c → Judges m P M a c
  judged_both K L M a b c to h k = λ knows.
      let x = h knows in
      let y = k knows in
      (takes_then P a b c x.0 y.0, λ place ahead. to knows place (still_holds P K b c y.0 x.1 place ahead) (y.1 place ahead))

  -- Steps of a loop.
  pub judged_begin : (K : ℕ → Place → Type 0) (a : Option Conflict) → Judges m P (Below K 0) a a
  judged_begin K a = λ knows. (takes_none P a, none_below K a)

  pub judged_next : (K : ℕ → Place → Type 0) (n : ℕ) (a b c : Option Conflict) → Judges m P (Below K n) a b → Judges m P (K n) b c →
      Judges m P (Below K (n + 1)) a c
  judged_next K n a b c h k = λ knows.
      let x = h knows in
      let y = k knows in
      (takes_then P a b c x.0 y.0, next_below K n c (still_holds P (Below K n) b c y.0 x.1) y.1)

  pub judged_all : (K : ℕ → Place → Type 0) (n : ℕ) (a b : Option Conflict) (L : Place → Type 0) →
      (KnowsRename m → (place : Place) → ((k : ℕ) → K k place) → L place) → (KnowsRename m → (k : ℕ) (place : Place) → n ≤ k → K k place) →
      Judges m P (Below K n) a b → Judges m P L a b
  judged_all K n a b L to past h = λ knows.
      let x = h knows in
      (x.0, holds_as (λ place. (k : ℕ) → K k place) L b (to knows) (all_below K n b (past knows) x.1))
