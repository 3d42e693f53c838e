-- The map of paths that swaps two folders: it is its own inverse, and moves packages as the move does.
use Rattle.std.proofs.Common.{ℕ, ◌≡◌, ◌⊎◌, inl, inr, [], ◌∷◌, ◌++◌, true, false, cond, List, length, drop, refl, sym, ap, subst, ◌∙◌}
use Rattle.std.proofs.Common.{arith, get_or, length-append}
use Rattle.std.specs.FinMap.{entries, get}
use Rattle.std.specs.Prelude.{Contains, ◌≢◌}
use Rattle.std.proofs.Math.Path.{ap₂}
use Rattle.std.proofs.lemmas.Bool.{cases_Bool}
use Rattle.base_files.specs.Packages.{is_of_package, package_paths}
use Rattle.base_files.specs.Path.{IsPath}
use Rattle.base_files.specs.Workspace.{Workspace}
use Rattle.base_edits.proofs.Entries.{get_entry, some_is}
use Rattle.workspace_check.proofs.Members.{passes}
use Rattle.workspace_check.proofs.PackageFiles.{package_file, in_folder}
use Rattle.refactor_move.specs.MoveEdits.{IsFree}
use Rattle.refactor_move.specs.Paths.{IsUnder, HasMovedPackage}
use Rattle.refactor_move.proofs.PathParts.{moves_behind}
use Rattle.law_changed_types.specs.Moved.{IsInjective}
use Rattle.law_moves.specs.Moves.{is_moving, moved_path}
use Rattle.law_moves.proofs.MovedFolders.{folder_stays}
use Rattle.law_moves.proofs.MovedPaths.{IsOutside, cases_moving, in_target, moves_to, stays_at}
use Rattle.refactor_known.specs.Swaps.{swapped}
use Rattle.law_moves.specs.MovedVerdicts.{FreeTargetsSwap, MovesBySwap, SameTargetsSwap}

-- whether a path moves, by the test

-- a test that is false sends the path to itself, wherever the folder goes
untouched : (from to path : List ℕ) → is_moving from path ≡ false → moved_path from to path ≡ path
unfolding moved_path
untouched from to path e = ap (λ t. cond t (to ++ drop (length from) path) path) e

touched : (from to path : List ℕ) → is_moving from path ≡ true → moved_path from to path ≡ to ++ drop (length from) path
unfolding moved_path
touched from to path e = ap (λ t. cond t (to ++ drop (length from) path) path) e

one_longer : (from path a b x y : List ℕ) → path ≡ from ++ a → path ≡ from ++ b → x ≡ path → y ≡ path → x ≡ a → y ≡ 0 ∷ b → ⊥
one_longer from path a b x y one other p q r t =
    omega (arith, ap length one, ap length other, ap length p, ap length q, ap length r, ap length t, length-append from a, length-append from b)

pub is_test : (from path : List ℕ) → (IsOutside from path → ⊥) → is_moving from path ≡ true
is_test from path inside = elim (cases_Bool (is_moving from path)) [
  | inl is ↦ is
  | inr not ↦ elim (cases_moving from [] path) [
    | inr out ↦ absurd (inside out)
    | inl a ↦ elim (cases_moving from (0 ∷ []) path) [
      | inr out ↦ absurd (inside out)
      | inl b ↦
          let x = moves_behind from [] path a.0 a.1 in
          let y = moves_behind from (0 ∷ []) path b.0 b.1 in
          absurd (one_longer from path x.rest y.rest a.0 b.0 x.was y.was (sym (moves_to from [] path a.0 a.1) ∙ untouched from [] path not)
          (sym (moves_to from (0 ∷ []) path b.0 b.1) ∙ untouched from (0 ∷ []) path not) x.is y.is)
    ]
  ]
]

pub no_test : (from path : List ℕ) → IsOutside from path → is_moving from path ≡ false
no_test from path out = elim (cases_Bool (is_moving from path)) [
  | inl is ↦
      let rest = drop (length from) path in
      absurd (never rest (sym (touched from [] path is) ∙ stays_at from [] path out) (sym (touched from (0 ∷ []) path is) ∙ stays_at from (0 ∷ []) path out))
  | inr not ↦ not
]
  where
    never : (rest : List ℕ) → rest ≡ path → 0 ∷ rest ≡ path → ⊥
    never rest a b = omega (arith, ap length a, ap length b)

-- where the map sends a path

-- the map, by the paths of the move
by_moves : (from to path : List ℕ) → swapped from to path ≡ cond (is_moving from path) (moved_path from to path) (moved_path to from path)
unfolding swapped moved_path
by_moves from to path = elim (cases_Bool (is_moving from path)) [
  | inl is ↦
      ap (λ t. cond t (to ++ drop (length from) path) (cond (is_moving to path) (from ++ drop (length to) path) path)) is
      ∙ sym (ap (λ t. cond t (cond t (to ++ drop (length from) path) path) (cond (is_moving to path) (from ++ drop (length to) path) path)) is)
  | inr not ↦
      ap (λ t. cond t (to ++ drop (length from) path) (cond (is_moving to path) (from ++ drop (length to) path) path)) not
      ∙ sym (ap (λ t. cond t (cond t (to ++ drop (length from) path) path) (cond (is_moving to path) (from ++ drop (length to) path) path)) not)
]

pub swaps_to : (from to path new : List ℕ) → HasMovedPackage from to path new → swapped from to path ≡ new
swaps_to from to path new h =
    by_moves from to path ∙ ap (λ t. cond t (moved_path from to path) (moved_path to from path)) (is_test from path (inside h)) ∙ moves_to from to path new h
  where
    inside : HasMovedPackage from to path new → IsOutside from path → ⊥
    inside (inl e) out = out.other e.0
    inside (inr m) out = out.outside (m.rest, m.was)

pub swaps_other : (from to path : List ℕ) → IsOutside from path → swapped from to path ≡ moved_path to from path
swaps_other from to path out = by_moves from to path ∙ ap (λ t. cond t (moved_path from to path) (moved_path to from path)) (no_test from path out)

turned : (from to old new : List ℕ) → HasMovedPackage from to old new → HasMovedPackage to from new old
turned from to old new (inl e) = inl (e.1, e.0)
turned from to old new (inr m) = inr (record { rest = m.rest; was = m.is; is = m.was })

module _ (from to : List ℕ) (other : (path : List ℕ) → (path ≡ to) → IsOutside from path)
    (under : (path : List ℕ) → IsUnder to path → IsOutside from path) where
  -- what lies in the one folder is outside of the other
  outside : (old new : List ℕ) → HasMovedPackage from to old new → IsOutside from new
  outside old new h = elim (in_target from to old new h) [ inl e ↦ other new e | inr u ↦ under new u ]

  pub own_inverse : (path : List ℕ) → swapped from to (swapped from to path) ≡ path
  own_inverse path = elim (cases_moving from to path) [
    | inl a ↦
        ap (swapped from to) (swaps_to from to path a.0 a.1) ∙ swaps_other from to a.0 (outside path a.0 a.1)
        ∙ moves_to to from a.0 path (turned from to path a.0 a.1)
    | inr out ↦ elim (cases_moving to from path) [
      | inl b ↦
          ap (swapped from to) (swaps_other from to path out ∙ moves_to to from path b.0 b.1)
          ∙ swaps_to from to b.0 path (turned to from path b.0 b.1)
      | inr away ↦
          let stays : swapped from to path ≡ path = swaps_other from to path out ∙ stays_at to from path away in
          ap (swapped from to) stays ∙ stays
    ]
  ]

-- of two folders in which one path lies, one is the other or lies in it
nested : (x y a b : List ℕ) → x ++ 47 ∷ a ≡ y ++ 47 ∷ b → (x ≡ y) ⊎ (IsUnder x y ⊎ IsUnder y x)
nested [] [] a b e = inl refl
nested [] (d ∷ y) a b e = inr (inl (y, ap (λ c. c ∷ y) (sym (ap (λ l. get_or l 0 0) e))))
nested (c ∷ x) [] a b e = inr (inr (x, ap (λ d. d ∷ x) (ap (λ l. get_or l 0 0) e)))
nested (c ∷ x) (d ∷ y) a b e =
    let head : c ≡ d = ap (λ l. get_or l 0 0) e in
    elim (nested x y a b (ap (drop 1) e)) [
      | inl same ↦ inl (ap₂ (λ (k : ℕ) (l : List ℕ). k ∷ l) head same)
      | inr apart ↦ elim apart [
        | inl u ↦ inr (inl (u.0, ap₂ (λ (k : ℕ) (l : List ℕ). k ∷ l) (sym head) u.1))
        | inr u ↦ inr (inr (u.0, ap₂ (λ (k : ℕ) (l : List ℕ). k ∷ l) head u.1))
      ]
    ]

module _ (w : Workspace) (from to : List ℕ) (target : IsPath 1 to) (is_package : Contains (package_paths w) from) (other : to ≢ from)
    (outside_of : IsUnder from to → ⊥) (free : IsFree w to) where
  -- no package lies in the free folder
  not_in_target : (q : List ℕ) → Contains (package_paths w) q → IsOutside to q
  not_in_target q has =
      let some = package_file w q has in
      let own = (passes (λ (d : List ℕ × List ℕ). is_of_package q d.0) (entries w) some.0 some.1).1 in
      subst (IsOutside to) (in_folder w q some.0 some.1)
      (folder_stays to some.0.0 target (free some.0.0 (some_is (get w some.0.0) some.0.1 (get_entry w some.0 own))))

  to_outside : (path : List ℕ) → (path ≡ to) → IsOutside from path
  to_outside path e = record { other = λ same. other (sym e ∙ same); outside = λ u. outside_of (u.0, sym e ∙ u.1) }

  both_under : (path : List ℕ) → IsUnder to path → IsUnder from path → ⊥
  both_under path a b = elim (nested to from a.0 b.0 (sym a.1 ∙ b.1)) [
    | inl same ↦ other same
    | inr apart ↦ elim apart [ inl u ↦ (not_in_target from is_package).outside u | inr u ↦ outside_of u ]
  ]

  under_outside : (path : List ℕ) → IsUnder to path → IsOutside from path
  under_outside path u = record {
    other = λ same. (not_in_target from is_package).outside (u.0, sym same ∙ u.1);
    outside = both_under path u;
  }

  -- packages go where the move sends them
  goes : (path : List ℕ) → Contains (package_paths w) path → swapped from to path ≡ moved_path from to path
  goes path has = elim (cases_moving from to path) [
    | inl a ↦ swaps_to from to path a.0 a.1 ∙ sym (moves_to from to path a.0 a.1)
    | inr out ↦ swaps_other from to path out ∙ stays_at to from path (not_in_target path has) ∙ sym (stays_at from to path out)
  ]

  by_free : MovesBySwap w from to
  by_free = record { inverse = own_inverse from to to_outside under_outside; goes = goes }

pub free_swap : FreeTargetsSwap
free_swap w from to target is_package other outside_of free = by_free w from to target is_package other outside_of free

-- where both folders are one

same_stays : (from path : List ℕ) → moved_path from from path ≡ path
same_stays from path = elim (cases_moving from from path) [
  | inl a ↦ moves_to from from path a.0 a.1 ∙ same_new a.0 a.1
  | inr out ↦ stays_at from from path out
]
  where
    same_new : (new : List ℕ) → HasMovedPackage from from path new → new ≡ path
    same_new new (inl e) = e.1 ∙ sym e.0
    same_new new (inr m) = m.is ∙ sym m.was

same_swap : (from path : List ℕ) → swapped from from path ≡ path
same_swap from path = elim (cases_moving from from path) [
  | inl a ↦ swaps_to from from path a.0 a.1 ∙ sym (moves_to from from path a.0 a.1) ∙ same_stays from path
  | inr out ↦ swaps_other from from path out ∙ same_stays from path
]

pub same_target : SameTargetsSwap
same_target w from = record {
  inverse = λ path. ap (swapped from from) (same_swap from path) ∙ same_swap from path;
  goes = λ path has. same_swap from path ∙ sym (same_stays from path);
}

pub injective : (w : Workspace) (from to : List ℕ) → MovesBySwap w from to → IsInjective (swapped from to)
injective w from to swap a b e = sym (swap.inverse a) ∙ ap (swapped from to) e ∙ swap.inverse b
