-- Whether some file lies in a folder.
use Rattle.std.proofs.Common.{ℕ, ◌≡◌, List, [], ◌∷◌, sym, subst, ⊎_elim}
use Rattle.std.specs.Prelude.{Contains}
use Rattle.std.specs.FinMap.{entries, get}
use Rattle.base_lemmas.proofs.Elements.{nothing_in, first_in, later_in, first_or_later}
use Rattle.base_files.specs.Workspace.{Workspace}
use Rattle.base_edits.proofs.Entries.{entry_of, get_entry, value_of, some_is}
use Rattle.refactor_move.specs.Paths.{IsUnder}
use Rattle.refactor_move.specs.MoveEdits.{IsFree}
use Rattle.refactor_plan.specs.MovePlan.{HasFileUnder}

-- The files left in the list have all those that lie in the folder.
pub record AreLeft (folder : List ℕ) (all left : List (List ℕ × List ℕ)) : Type 0 where
  pub within : (e : List ℕ × List ℕ) → Contains left e → Contains all e
  pub under : (e : List ℕ × List ℕ) → Contains all e → IsUnder folder e.0 → Contains left e

pub all_left : (folder : List ℕ) (all left : List (List ℕ × List ℕ)) → left ≡ all → AreLeft folder all left
all_left folder all left is = record { within = λ e h. subst (λ l. Contains l e) is h; under = λ e h u. subst (λ l. Contains l e) (sym is) h }

pub next_left : (folder : List ℕ) (all left rest : List (List ℕ × List ℕ)) (d : List ℕ × List ℕ) → left ≡ d ∷ rest → (IsUnder folder d.0 → ⊥) →
    AreLeft folder all left → AreLeft folder all rest
next_left folder all left rest d is outside h = record {
  within = λ e k. h.within e (subst (λ l. Contains l e) (sym is) (later_in d rest e k));
  under = λ e k u. ⊎_elim
      (λ (same : d ≡ e). absurd (outside (subst (λ (x : List ℕ × List ℕ). IsUnder folder x.0) (sym same) u)))
      (λ (later : Contains rest e). later)
      (first_or_later d rest e (subst (λ l. Contains l e) is (h.under e k u)));
}

pub one_taken : (folder : List ℕ) (w : Workspace) (left rest : List (List ℕ × List ℕ)) (d : List ℕ × List ℕ) → left ≡ d ∷ rest → IsUnder folder d.0 →
    AreLeft folder (entries w) left → HasFileUnder w folder
one_taken folder w left rest d is under h =
    let has = h.within d (subst (λ l. Contains l d) (sym is) (first_in d rest)) in
    record { path = d.0; is_file = some_is (get w d.0) d.1 (get_entry w d has); under = under }

pub none_taken : (folder : List ℕ) (w : Workspace) (left : List (List ℕ × List ℕ)) → left ≡ [] → AreLeft folder (entries w) left → IsFree w folder
none_taken folder w left none h = λ path is under.
    let v = value_of (get w path) is in
    nothing_in (path, v.0) (subst (λ l. Contains l (path, v.0)) none (h.under (path, v.0) (entry_of w path v.0 v.1) under))
