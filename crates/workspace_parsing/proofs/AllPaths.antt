-- The paths of all files of a workspace.
use Rattle.std.proofs.Common.{◌≡◌, ◌⊎◌, ℕ, List, [], ◌∷◌, ◌++◌, Option, Some, None, Bor, inl, inr, refl, sym, subst, ⊎_elim}
use Rattle.std.specs.FinMap.{entries, get}
use Rattle.std.specs.List.{Contains}
use Rattle.std.proofs.lemmas.List.{map_push}
use Rattle.std.proofs.lemmas.List.Elements.{Contains-append_left, Contains-push}
use Rattle.base_lemmas.proofs.Elements.{nothing_in, first_or_later}
use Rattle.base_files.specs.Workspace.{Workspace}
use Rattle.base_edits.proofs.Entries.{entry_of}
use Rattle.workspace_graph.specs.Borrows.{names}

abbrev Entry : Type 0
Entry = List ℕ × List ℕ

-- Each file is among those that are left, or its path among the paths.
abbrev pub ArePassed : Workspace → (left : List Entry) → (paths : List (Bor (List ℕ))) → Type 0
ArePassed w left paths = (e : Entry) → Contains (entries w) e → Contains left e ⊎ Contains (names paths) e.0

pub none_passed : (w : Workspace) (left : List Entry) (paths : List (Bor (List ℕ))) → left ≡ entries w → ArePassed w left paths
none_passed w left paths all e has = inl (subst (λ l. Contains l e) (sym all) has)

pub one_passed : (w : Workspace) (left rest : List Entry) (paths : List (Bor (List ℕ))) (path : Bor (List ℕ)) (text : List ℕ) →
    left ≡ (path.now, text) ∷ rest → ArePassed w left paths → ArePassed w rest (paths ++ path ∷ [])
one_passed w left rest paths path text is h e has =
    let names_now = map_push (λ (p : Bor (List ℕ)). p.now) paths path in
    ⊎_elim
    (λ (among : Contains left e). ⊎_elim
    (λ (here : (path.now, text) ≡ e). inr (subst (λ (x : Entry). Contains (names (paths ++ path ∷ [])) x.0) here
    (subst (λ l. Contains l path.now) (sym names_now) (Contains-push (names paths) path.now))))
    (λ (later : Contains rest e). inl later)
    (first_or_later (path.now, text) rest e (subst (λ l. Contains l e) is among)))
    (λ (passed : Contains (names paths) e.0). inr (subst (λ l. Contains l e.0) (sym names_now)
    (Contains-append_left (names paths) (path.now ∷ []) e.0 passed)))
    (h e has)

pub all_passed : (w : Workspace) (left : List Entry) (paths : List (Bor (List ℕ))) → left ≡ [] → ArePassed w left paths → (path : List ℕ) →
    (Contains (names paths) path → ⊥) → get w path ≡ None
all_passed w left paths none h path apart = elim (get w path) as (λ o. get w path ≡ o → o ≡ None) [
  | Some text ↦ λ there. absurd (⊎_elim
      (λ (among : Contains left (path, text)). nothing_in (path, text) (subst (λ l. Contains l (path, text)) none among))
      apart
      (h (path, text) (entry_of w path text there)))
  | None ↦ λ there. refl
] refl
