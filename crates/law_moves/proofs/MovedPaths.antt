-- Paths of packages and files, and their folders, where a package moves.
use Rattle.std.proofs.Common.{ℕ, zero, suc, ◌≡◌, ◌+◌, ◌-◌, ◌<◌, ◌⊎◌, inl, inr, ◌||◌, not, Bool, true, false, cond, List, [], ◌∷◌, ◌++◌, length, take, drop}
use Rattle.std.proofs.Common.{get_or, refl, sym, ap, ◌∙◌, arith, append_assoc, length-append, take-append-drop, eqb}
use Rattle.std.specs.Prelude.{nat_eq, bytes_eq}
use Rattle.std.specs.Cmp.Lexicographic.{bytes_decides, same_text}
use Rattle.std.specs.List.{starts_with, suffix_len}
use Rattle.std.proofs.lemmas.Bool.{true≢false, cases_Bool}
use Rattle.std.proofs.lemmas.Bool.Decides.{nat_tests}
use Rattle.std.proofs.lemmas.List.{append_cancel_left, get_or_at, get_or-append_right}
use Rattle.std.proofs.lemmas.List.Sums.{suffix_len_is}
use Rattle.std.proofs.Math.Seq.{drop-append_seam, take-append_seam}
use Rattle.types_declared.proofs.ByteKeys.{cases_bytes}
use Rattle.base_files.specs.Path.{folder}
use Rattle.refactor_move.specs.Paths.{IsUnder, HasMovedPackage}
use Rattle.refactor_move.proofs.PathParts.{moves_behind}
use Rattle.law_moves.specs.Moves.{is_moving, moved_path}

-- whether a path lies in a folder

under_test : (folder path : List ℕ) → starts_with nat_eq path (folder ++ 47 ∷ []) ≡ true → IsUnder folder path
under_test folder path is =
    let front : List ℕ = folder ++ 47 ∷ [] in
    let same : front ≡ take (length front) path = same_text front (take (length front) path) (sym is) in (
      drop (length front) path,
      sym (take-append-drop (length front) path) ∙ ap (λ l. l ++ drop (length front) path) (sym same)
          ∙ append_assoc folder (47 ∷ []) (drop (length front) path),
    )

test_under : (folder path : List ℕ) → IsUnder folder path → starts_with nat_eq path (folder ++ 47 ∷ []) ≡ true
test_under folder path under =
    let front : List ℕ = folder ++ 47 ∷ [] in
    let whole : path ≡ front ++ under.0 = under.1 ∙ sym (append_assoc folder (47 ∷ []) under.0) in
    let same : front ≡ take (length front) path = sym (ap (take (length front)) whole ∙ take-append_seam front under.0) in
    (bytes_decides front (take (length front) path)).1 same

pub cases_under : (folder path : List ℕ) → IsUnder folder path ⊎ (IsUnder folder path → ⊥)
cases_under folder path = elim (cases_Bool (starts_with nat_eq path (folder ++ 47 ∷ []))) [
  | inl is ↦ inl (under_test folder path is)
  | inr not ↦ inr (λ under. true≢false (sym (test_under folder path under) ∙ not))
]

-- where it goes

-- the path is neither the folder nor in it
pub record IsOutside (folder path : List ℕ) : Type 0 where
  pub other : path ≡ folder → ⊥
  pub outside : IsUnder folder path → ⊥

or_true : (a b : Bool) → (a ≡ true) ⊎ (b ≡ true) → (a || b) ≡ true
or_true true b h = refl
or_true false b (inl h) = absurd (true≢false (sym h))
or_true false b (inr h) = h

or_false : (a b : Bool) → (a ≡ true → ⊥) → (b ≡ true → ⊥) → (a || b) ≡ false
or_false true b f g = absurd (f refl)
or_false false true f g = absurd (g refl)
or_false false false f g = refl

pub moves_to : (from to old new : List ℕ) → HasMovedPackage from to old new → moved_path from to old ≡ new
unfolding moved_path
moves_to from to old new h =
    let b = moves_behind from to old new h in
    let test : is_moving from old ≡ true = or_true (bytes_eq old from) (starts_with nat_eq old (from ++ 47 ∷ []))
    (elim h [ inl e ↦ inl ((bytes_decides old from).1 e.0) | inr m ↦ inr (test_under from old (m.rest, m.was)) ]) in
    ap (λ t. cond t (to ++ drop (length from) old) old) test
    ∙ ap (λ l. to ++ drop (length from) l) b.was ∙ ap (λ l. to ++ l) (drop-append_seam from b.rest) ∙ sym b.is

pub stays_at : (from to old : List ℕ) → IsOutside from old → moved_path from to old ≡ old
unfolding moved_path
stays_at from to old h =
    ap (λ t. cond t (to ++ drop (length from) old) old)
    (or_false (bytes_eq old from) (starts_with nat_eq old (from ++ 47 ∷ [])) (λ e. h.other ((bytes_decides old from).0 e))
    (λ u. h.outside (under_test from old u)))

-- a path moves, or is outside
pub cases_moving : (from to old : List ℕ) → ((new : List ℕ) × HasMovedPackage from to old new) ⊎ IsOutside from old
cases_moving from to old = elim (cases_bytes old from) [
  | inl same ↦ inl (to, inl (same, refl))
  | inr other ↦ elim (cases_under from old) [
    | inl under ↦ inl (to ++ 47 ∷ under.0, inr (record { rest = under.0; was = under.1; is = refl }))
    | inr outside ↦ inr (record { other = other; outside = outside })
  ]
]

-- two paths that move to one are one
pub one_origin : (from to one other new : List ℕ) → HasMovedPackage from to one new → HasMovedPackage from to other new → one ≡ other
one_origin from to one other new h k =
    let a = moves_behind from to one new h in
    let b = moves_behind from to other new k in
    a.was ∙ ap (λ r. from ++ r) (append_cancel_left to a.rest b.rest (sym a.is ∙ b.is)) ∙ sym b.was

-- a path to which one moves is the target, or lies in it
pub in_target : (from to old new : List ℕ) → HasMovedPackage from to old new → (new ≡ to) ⊎ IsUnder to new
in_target from to old new (inl h) = inl h.1
in_target from to old new (inr h) = inr (h.rest, h.is)

-- folders

abbrev pub HasNoSlash : List ℕ → Type 0
HasNoSlash bytes = (k : ℕ) → k < length bytes → get_or bytes k 0 ≡ 47 → ⊥

-- the last element of a path, and what is before it
pub record IsJoined (path front last : List ℕ) : Type 0 where
  pub whole : path ≡ front ++ 47 ∷ last
  pub no_slash : HasNoSlash last

none_more : (b : ℕ) (bs : List ℕ) → (b ≡ 47 → ⊥) → HasNoSlash bs → HasNoSlash (b ∷ bs)
none_more b bs other none zero lt is = other is
none_more b bs other none (suc k) lt is = none k (omega arith) is

cases_slash : (b : ℕ) → (b ≡ 47) ⊎ (b ≡ 47 → ⊥)
cases_slash b = elim (cases_Bool (eqb b 47)) [
  | inl is ↦ inl (grind (arith, nat_tests))
  | inr not ↦ inr (λ e. grind (arith, nat_tests))
]

pub cases_joined : (path : List ℕ) → ((front : List ℕ) × ((last : List ℕ) × IsJoined path front last)) ⊎ HasNoSlash path
cases_joined [] = inr (λ k lt is. omega (arith, lt))
cases_joined (b ∷ bs) = elim (cases_joined bs) [
  | inl found ↦ inl (b ∷ found.0, (found.1.0, record { whole = ap (λ l. b ∷ l) found.1.1.whole; no_slash = found.1.1.no_slash }))
  | inr none ↦ elim (cases_slash b) [
    | inl slash ↦ inl ([], (bs, record { whole = ap (λ x. x ∷ bs) slash; no_slash = none }))
    | inr other ↦ inr (none_more b bs other none)
  ]
]

no_slash_test : (b : ℕ) → (b ≡ 47 → ⊥) → not (eqb b 47) ≡ true
no_slash_test b other = elim (cases_slash b) [ inl e ↦ absurd (other e) | inr f ↦ grind (arith, nat_tests, f) ]

slash_test : (b : ℕ) → b ≡ 47 → not (eqb b 47) ≡ false
slash_test b e = grind (arith, nat_tests, e)

pub folder_joined : (path front last : List ℕ) → IsJoined path front last → folder path ≡ front
folder_joined path front last j =
    let whole : List ℕ = front ++ 47 ∷ last in
    let test : ℕ → Bool = λ b. not (eqb b 47) in
    let size : length whole ≡ length front + suc (length last) = length-append front (47 ∷ last) in
    let suffix : suffix_len test whole ≡ length whole - (length front + 1) =
    suffix_len_is test whole (length front + 1) 0 (omega (arith, size))
    (λ k low lt.
    let i : ℕ = k - length front - 1 in
    let far : k - length front ≡ suc i = omega (arith, low) in
    let byte : get_or whole k 0 ≡ get_or last i 0 =
    get_or-append_right front (47 ∷ last) (length front) k 0 refl (omega (arith, low)) ∙ ap (λ n. get_or (47 ∷ last) n 0) far in
    no_slash_test (get_or whole k 0) (λ e. j.no_slash i (omega (arith, low, lt, size)) (sym byte ∙ e)))
    (λ some. slash_test (get_or whole (length front + 1 - 1) 0)
    (let at : length front ≡ length front + 1 - 1 = omega arith in get_or_at front 47 last 0 (length front + 1 - 1) at)) in
    let count : length whole - suffix_len test whole - 1 ≡ length front = omega (arith, suffix, size) in
    ap folder j.whole ∙ ap (λ n. take n whole) count ∙ take-append_seam front (47 ∷ last)

pub folder_alone : (path : List ℕ) → HasNoSlash path → folder path ≡ []
folder_alone path none =
    let test : ℕ → Bool = λ b. not (eqb b 47) in
    let suffix : suffix_len test path ≡ length path - 0 =
    suffix_len_is test path 0 0 (omega arith) (λ k low lt. no_slash_test (get_or path k 0) (none k lt)) (λ some. absurd (omega (arith, some))) in
    let count : length path - suffix_len test path - 1 ≡ 0 = omega (arith, suffix) in
    ap (λ n. take n path) count
