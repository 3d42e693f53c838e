-- The paths that files move to.
use Rattle.std.proofs.Common.{ℕ, ◌≡◌, ◌==◌, inl, inr, true, false, List, [], ◌∷◌, ◌++◌, Option, Some, None, refl, sym, ap, subst, ◌∙◌}
use Rattle.std.specs.Prelude.{Contains}
use Rattle.std.specs.List.{AllByRecursion, IsDistinct, filter_map, cons_option}
use Rattle.std.specs.List.Sorted.{IsStrictlySortedBy}
use Rattle.std.specs.Cmp.{tied_itself}
use Rattle.std.specs.Cmp.Lexicographic.{pointwise, bytes_decides}
use Rattle.std.specs.Ordering.{is_lt}
use Rattle.std.specs.declared.cmp.Ordering.TheVariants.{Less}
use Rattle.std.proofs.lemmas.Bool.{true≢false, false_from_ne_true}
use Rattle.std.proofs.lemmas.List.{append-nil}
use Rattle.base_lemmas.proofs.Elements.{first_in, later_in}
use Rattle.base_files.specs.Workspace.{path_cmp}
use Rattle.base_files.proofs.WorkspaceLaws.{path_cmp_total}
use Rattle.base_edits.specs.EditSet.{paths_of}
use Rattle.base_edits.specs.Fits.{new_path}
use Rattle.base_edits.specs.declared.change.FileChange.{FileChange}
use Rattle.refactor_move.specs.declared.moved.Moved.{Moved}
use Rattle.refactor_move.specs.Paths.{HasMoved}
use Rattle.refactor_move.specs.Changes.{MovesOrEdits}
use Rattle.refactor_move.proofs.PathParts.{one_source}

abbrev target : FileChange → Option (List ℕ)
target c = new_path c.fate

-- where a change moves its file
moves_to : (m : Moved) (c : FileChange) (new : List ℕ) → MovesOrEdits m c → target c ≡ Some new → HasMoved m.from m.to c.path new
moves_to m c new (inl h) e = let same : Some h.0 ≡ Some new = ap new_path (sym h.1.1) ∙ e in let x : h.0 ≡ new = (cc) in subst (HasMoved m.from m.to c.path)
    x h.1.0.moved
moves_to m c new (inr h) e = let never : None ≡ Some new = ap new_path (sym h.1.0) ∙ e in absurd (cc)

less_apart : (x y : List ℕ) → path_cmp x y ≡ Less → x ≡ y → ⊥
less_apart x y less same = true≢false (ap is_lt (sym less ∙ ap (path_cmp x) (sym same) ∙ tied_itself path_cmp_total x))

apart_from : (m : Moved) (path new : List ℕ) → HasMoved m.from m.to path new → (cs : List FileChange) →
    ((d : FileChange) → Contains cs d → MovesOrEdits m d) → AllByRecursion (λ k. path_cmp path k ≡ Less) (paths_of cs) →
    AllByRecursion (λ y. pointwise ◌==◌ new y ≡ false) (filter_map target cs)
apart_from m path new moves [] all below = tt
apart_from m path new moves (c ∷ cs) all below =
    let rest = apart_from m path new moves cs (λ d has. all d (later_in c cs d has)) below.1 in
    elim (target c) as (λ o. target c ≡ o → AllByRecursion (λ y. pointwise ◌==◌ new y ≡ false) (cons_option o (filter_map target cs))) [
      | None ↦ λ e. rest
      | Some y ↦ λ e. (
        false_from_ne_true (pointwise ◌==◌ new y) (λ tied.
            let same : new ≡ y = (bytes_decides new y).0 tied in
            less_apart path c.path below.0 (one_source m.from m.to path c.path y (subst (HasMoved m.from m.to path) same moves) (moves_to m c y (all c
            (first_in c cs)) e))),
        rest,
      )
    ] refl

targets_differ : (m : Moved) (cs : List FileChange) → ((d : FileChange) → Contains cs d → MovesOrEdits m d) → IsStrictlySortedBy path_cmp (paths_of cs) →
    IsDistinct (pointwise ◌==◌) (filter_map target cs)
unfolding IsDistinct IsStrictlySortedBy
targets_differ m [] all sorted = tt
targets_differ m (c ∷ cs) all sorted =
    let rest = targets_differ m cs (λ d has. all d (later_in c cs d has)) sorted.1 in
    elim (target c) as (λ o. target c ≡ o → IsDistinct (pointwise ◌==◌) (cons_option o (filter_map target cs))) [
      | None ↦ λ e. rest
      | Some y ↦ λ e. (apart_from m c.path y (moves_to m c y (all c (first_in c cs)) e) cs (λ d has. all d (later_in c cs d has)) sorted.0, rest)
    ] refl

pub targets_are_distinct : (m : Moved) (cs : List FileChange) → ((d : FileChange) → Contains cs d → MovesOrEdits m d) →
    IsStrictlySortedBy path_cmp (paths_of cs) → IsDistinct (pointwise ◌==◌) (filter_map target cs ++ [])
targets_are_distinct m cs all sorted = subst (IsDistinct (pointwise ◌==◌)) (sym (append-nil (filter_map target cs))) (targets_differ m cs all sorted)
