-- Which edit sets fit, by the paths that files keep.
use Rattle.std.proofs.Common.{◌≡◌, ◌==◌, ℕ, ◌⊎◌, inl, inr, Bool, true, false, List, [], ◌∷◌, ◌++◌, map, Option, Some, None, IsSome, refl, sym, ap, subst}
use Rattle.std.proofs.Common.{◌∙◌, ⊎_elim}
use Rattle.std.specs.Prelude.{IfSome}
use Rattle.std.specs.Cmp.Lexicographic.{pointwise, bytes_decides}
use Rattle.std.specs.List.{All, Contains, IsDistinct, filter_map, cons_option}
use Rattle.std.specs.FinMap.{get}
use Rattle.std.proofs.lemmas.Bool.{true≢false}
use Rattle.std.proofs.lemmas.Option.{none-some, same_Some}
use Rattle.std.proofs.lemmas.Map.Keys.{IsDistinct-head, IsDistinct-tail}
use Rattle.std.proofs.lemmas.List.Elements.{All-contains, All-from_recursion, All-contains_itself, All-weaker, Contains-append_left, Contains-append_right}
use Rattle.base_lemmas.proofs.Elements.{nothing_in, first_or_later, is_mapped}
use Rattle.base_files.specs.Workspace.{Workspace}
use Rattle.base_edits.specs.EditSet.{FileChanges, path_by, change_in, change_of}
use Rattle.base_edits.specs.Fits.{IsEditSet, HasSpans, Remains, AreFree, Fits, MovesTo, new_path, is_staying, stays, path_by_change}
use Rattle.base_edits.specs.Inverse.{AreChanges}
use Rattle.base_edits.specs.declared.change.FileChange.{FileChange}
use Rattle.base_edits.specs.declared.change.Fate.{Fate}
use Rattle.base_edits.specs.declared.change.Fate.TheVariants.{Stays, Moves, Dropped}
use Rattle.base_edits.proofs.Held.{is_given}
use Rattle.base_edits.proofs.Entries.{some_is}
use Rattle.base_edits.proofs.Changes.{change_found, change_held}
use Rattle.base_edits.proofs.Searched.{one_way_sorted}
use Rattle.base_edits.proofs.Turned.{file_there}

abbrev path_eq : List ℕ → List ℕ → Bool
path_eq = pointwise ◌==◌

-- ---- lists whose paths differ
head_differs : (p : List ℕ) (ps : List (List ℕ)) → IsDistinct path_eq (p ∷ ps) → Contains ps p → ⊥
head_differs p ps distinct has =
    let apart : path_eq p p ≡ false = All-contains (λ y. path_eq p y ≡ false) ps p
    (All-from_recursion (λ y. path_eq p y ≡ false) ps (IsDistinct-head path_eq p ps distinct)) has in
    true≢false (sym ((bytes_decides p p).1 refl) ∙ apart)

right_distinct : (xs ys : List (List ℕ)) → IsDistinct path_eq (xs ++ ys) → IsDistinct path_eq ys
right_distinct [] ys distinct = distinct
right_distinct (x ∷ xs) ys distinct = right_distinct xs ys (IsDistinct-tail path_eq x (xs ++ ys) distinct)

left_apart : (xs ys : List (List ℕ)) (p : List ℕ) → IsDistinct path_eq (xs ++ ys) → Contains xs p → Contains ys p → ⊥
left_apart [] ys p distinct left right = nothing_in p left
left_apart (x ∷ xs) ys p distinct left right =
    ⊎_elim
    (λ (first : x ≡ p). head_differs x (xs ++ ys) distinct (subst (Contains (xs ++ ys)) (sym first) (Contains-append_right xs ys p right)))
    (λ (later : Contains xs p). left_apart xs ys p (IsDistinct-tail path_eq x (xs ++ ys) distinct) later right)
    (first_or_later x xs p left)

-- of files whose paths differ one at most has a path
once_listed : (es : List (List ℕ × List ℕ)) → IsDistinct path_eq (map (λ e. e.0) es) → (one other : List ℕ × List ℕ) → Contains es one → Contains es other →
    one.0 ≡ other.0 → one ≡ other
once_listed [] distinct one other a b same = absurd (nothing_in one a)
once_listed (e ∷ es) distinct one other a b same =
    let rest = map (λ (x : List ℕ × List ℕ). x.0) es in
    ⊎_elim
    (λ (first : e ≡ one). ⊎_elim
    (λ (second : e ≡ other). sym first ∙ second)
    (λ (later : Contains es other). let x : one ≡ other = absurd (head_differs e.0 rest distinct
    (subst (Contains rest) (sym (ap (λ (y : List ℕ × List ℕ). y.0) first ∙ same)) (is_mapped (λ (y : List ℕ × List ℕ). y.0) es other later))) in x)
    (first_or_later e es other b))
    (λ (after : Contains es one). ⊎_elim
    (λ (second : e ≡ other). let x : one ≡ other = absurd (head_differs e.0 rest distinct
    (subst (Contains rest) (same ∙ sym (ap (λ (y : List ℕ × List ℕ). y.0) second)) (is_mapped (λ (y : List ℕ × List ℕ). y.0) es one after))) in x)
    (λ (later : Contains es other). once_listed es (IsDistinct-tail path_eq e.0 rest distinct) one other after later same)
    (first_or_later e es other b))
    (first_or_later e es one a)

abbrev target : FileChange → Option (List ℕ)
target c = new_path c.fate

-- of changes whose targets differ one at most has a target
one_target : (cs : List FileChange) (ys : List (List ℕ)) → IsDistinct path_eq (filter_map target cs ++ ys) → (one other : FileChange) (p : List ℕ) →
    Contains cs one → Contains cs other
    → target one ≡ Some p → target other ≡ Some p → one ≡ other
one_target [] ys distinct one other p a b first second = absurd (nothing_in one a)
one_target (c ∷ cs) ys distinct one other p a b first second =
    ⊎_elim
    (λ (here : c ≡ one). ⊎_elim
    (λ (also : c ≡ other). sym here ∙ also)
    (λ (later : Contains cs other). let x : one ≡ other = absurd (twice (target c) cs ys distinct p other (ap target here ∙ first) later second) in x)
    (first_or_later c cs other b))
    (λ (after : Contains cs one). ⊎_elim
    (λ (also : c ≡ other). let x : one ≡ other = absurd (twice (target c) cs ys distinct p one (ap target also ∙ second) after first) in x)
    (λ (later : Contains cs other). one_target cs ys (rest_distinct (target c) cs ys distinct) one other p after later first second)
    (first_or_later c cs other b))
    (first_or_later c cs one a)
  where
    twice : (o : Option (List ℕ)) (cs : List FileChange) (ys : List (List ℕ)) → IsDistinct path_eq (cons_option o (filter_map target cs) ++ ys) →
        (p : List ℕ) (d : FileChange) → o ≡ Some p → Contains cs d → target d ≡ Some p → ⊥
    twice None cs ys distinct p d is has at = none-some p is
    twice (Some q) cs ys distinct p d is has at =
        head_differs q (filter_map target cs ++ ys) distinct (subst (Contains (filter_map target cs ++ ys)) (sym (same_Some q p is))
        (Contains-append_left (filter_map target cs) ys p (is_given target cs d p has at)))

    rest_distinct : (o : Option (List ℕ)) (cs : List FileChange) (ys : List (List ℕ)) → IsDistinct path_eq (cons_option o (filter_map target cs) ++ ys) →
        IsDistinct path_eq (filter_map target cs ++ ys)
    rest_distinct None cs ys distinct = distinct
    rest_distinct (Some q) cs ys distinct = IsDistinct-tail path_eq q (filter_map target cs ++ ys) distinct

-- ---- a file keeps its path or is moved to a target
stays_or_moves : (f : Fate) (old path : List ℕ) → path_by f old ≡ Some path → ((old ≡ path) × (is_staying f ≡ true)) ⊎ (new_path f ≡ Some path)
stays_or_moves Stays old path h = inl (same_Some old path h, refl)
stays_or_moves (Moves new) old path h = inr h
stays_or_moves Dropped old path h = absurd (none-some path h)

stays_at : (f : Fate) (path : List ℕ) → is_staying f ≡ true → path_by f path ≡ Some path
stays_at Stays path h = refl
stays_at (Moves new) path h = absurd (true≢false (sym h))
stays_at Dropped path h = absurd (true≢false (sym h))

moves_not : (f : Fate) (path : List ℕ) → new_path f ≡ Some path → is_staying f ≡ true → ⊥
moves_not Stays path h k = none-some path h
moves_not (Moves new) path h k = true≢false (sym k)
moves_not Dropped path h k = none-some path h

moves_to : (f : Fate) (old path : List ℕ) → new_path f ≡ Some path → path_by f old ≡ Some path
moves_to Stays old path h = absurd (none-some path h)
moves_to (Moves new) old path h = h
moves_to Dropped old path h = absurd (none-some path h)

abbrev IsMoved : FileChanges → List ℕ → List ℕ → Type 0
IsMoved s old path = (c : FileChange) × Contains s.changed c × (c.path ≡ old) × (target c ≡ Some path)

gets_by : (s : FileChanges) (w : Workspace) (old path : List ℕ) (o : Option FileChange) → change_of s old ≡ o → IsSome (get w old) →
    path_by_change o old ≡ Some path
    → ((old ≡ path) × Remains s.changed w path) ⊎ IsMoved s old path
gets_by s w old path None is there goes =
    let same = same_Some old path goes in
    inl (same, (subst (λ (p : List ℕ). IsSome (get w p)) same there, subst (λ (p : List ℕ). stays (change_in s.changed p) ≡ true) same (ap stays is)))
gets_by s w old path (Some c) is there goes =
    let found = change_found s.changed old c is in
    ⊎_elim
    (λ (kept : (old ≡ path) × (is_staying c.fate ≡ true)).
    inl (
      kept.0,
      (
        subst (λ (p : List ℕ). IsSome (get w p)) kept.0 there,
        subst (λ (p : List ℕ). stays (change_in s.changed p) ≡ true) kept.0 (ap stays is ∙ kept.1),
      ),
    ))
    (λ (moved : new_path c.fate ≡ Some path). inr (c, found.0, found.1, moved))
    (stays_or_moves c.fate old path goes)

kept_gets_by : (s : FileChanges) (path : List ℕ) (o : Option FileChange) → stays o ≡ true → path_by_change o path ≡ Some path
kept_gets_by s path None h = refl
kept_gets_by s path (Some c) h = stays_at c.fate path h

kept_gets : (s : FileChanges) (w : Workspace) (path : List ℕ) → Remains s.changed w path → MovesTo s w path path
kept_gets s w path kept = (kept.0, kept_gets_by s path (change_of s path) kept.1)

if_some : (o : Option (List ℕ)) (P : List ℕ → Type 0) (p : List ℕ) → o ≡ Some p → IfSome o P → P p
if_some None P p is h = absurd (none-some p is)
if_some (Some q) P p is h = subst P (same_Some q p is) h

for_some : (o : Option (List ℕ)) (P : List ℕ → Type 0) → ((p : List ℕ) → o ≡ Some p → P p) → IfSome o P
for_some None P h = tt
for_some (Some q) P h = h q refl

all_held : {X : Type 0} (P : X → Type 0) (xs : List X) → ((x : X) → Contains xs x → P x) → All P xs
all_held P xs each = All-weaker (Contains xs) P each xs (All-contains_itself xs)

pub set_changes : (s : FileChanges) → IsEditSet s → AreChanges s
set_changes s set = record { in_order = set.in_order; one_way = one_way_sorted s.changed set.by_path }

module _ (s : FileChanges) (w : Workspace) (set : IsEditSet s) (there : All (HasSpans w) s.changed) where
  abbrev added_paths : List (List ℕ)
  added_paths = map (λ file. file.0) s.added

  not_kept : (path : List ℕ) → AreFree s w → (c : FileChange) → Contains s.changed c → target c ≡ Some path → Remains s.changed w path → ⊥
  not_kept path free c has at kept = if_some (target c) (λ p. ¬ (Remains s.changed w p)) path at
      (All-contains (λ (x : FileChange). IfSome (target x) (λ p. ¬ (Remains s.changed w p))) s.changed c free.0 has) kept

  apart : AreFree s w → (one other path : List ℕ) → MovesTo s w one path → MovesTo s w other path → one ≡ other
  apart free one other path a b =
      ⊎_elim
      (λ (x : (one ≡ path) × Remains s.changed w path). ⊎_elim
      (λ (y : (other ≡ path) × Remains s.changed w path). x.0 ∙ sym y.0)
      (λ (y : IsMoved s other path). let z : one ≡ other = absurd (not_kept path free y.0 y.1 y.3 x.1) in z)
      (gets_by s w other path (change_of s other) refl b.0 b.1))
      (λ (x : IsMoved s one path). ⊎_elim
      (λ (y : (other ≡ path) × Remains s.changed w path). let z : one ≡ other = absurd (not_kept path free x.0 x.1 x.3 y.1) in z)
      (λ (y : IsMoved s other path). sym x.2 ∙ ap (λ (c : FileChange). c.path) (one_target s.changed added_paths set.differ x.0 y.0 path x.1 y.1 x.3 y.3) ∙ y.2)
      (gets_by s w other path (change_of s other) refl b.0 b.1))
      (gets_by s w one path (change_of s one) refl a.0 a.1)

  added_free : AreFree s w → (old : List ℕ) (file : List ℕ × List ℕ) → Contains s.added file → MovesTo s w old file.0 → ⊥
  added_free free old file has a =
      ⊎_elim
      (λ (x : (old ≡ file.0) × Remains s.changed w file.0). All-contains (λ (f : List ℕ × List ℕ). ¬ (Remains s.changed w f.0)) s.added file free.1 has x.1)
      (λ (x : IsMoved s old file.0). left_apart (filter_map target s.changed) added_paths file.0 set.differ (is_given target s.changed x.0 file.0 x.1 x.3)
      (is_mapped (λ (f : List ℕ × List ℕ). f.0) s.added file has))
      (gets_by s w old file.0 (change_of s old) refl a.0 a.1)

  pub fits_from : AreFree s w → Fits s w
  fits_from free = record {
    there = there;
    apart = apart free;
    free = added_free free;
    once = once_listed s.added (right_distinct (filter_map target s.changed) added_paths set.differ);
  }

  pub free_from : Fits s w → AreFree s w
  free_from fits = (
    all_held (λ (c : FileChange). IfSome (target c) (λ p. ¬ (Remains s.changed w p))) s.changed
        (λ c has. for_some (target c) (λ p. ¬ (Remains s.changed w p)) (λ p at kept.
        let file = file_there w c (All-contains (HasSpans w) s.changed c there has) in
        let own : change_of s c.path ≡ Some c = change_held s.changed (one_way_sorted s.changed set.by_path) c.path c has refl in
        let goes : MovesTo s w c.path p = (some_is (get w c.path) file.0 file.1, ap (λ o. path_by_change o c.path) own ∙ moves_to c.fate c.path p at) in
        let same : c.path ≡ p = fits.apart c.path p p goes (kept_gets s w p kept) in
        moves_not c.fate p at (sym (ap stays own) ∙ ap (λ (x : List ℕ). stays (change_in s.changed x)) same ∙ kept.1))),
    all_held (λ (f : List ℕ × List ℕ). ¬ (Remains s.changed w f.0)) s.added (λ file has kept. fits.free file.0 file has (kept_gets s w file.0 kept)),
  )
