-- The folder of a file that moves, and the order of files that move.
use Rattle.std.proofs.Common.{ℕ, zero, suc, ◌≡◌, ◌⊎◌, ◌+◌, ◌-◌, inl, inr, Bool, true, false, List, [], ◌∷◌, ◌++◌, length, take, drop}
use Rattle.std.proofs.Common.{get_or, refl, sym, ap, subst, ◌∙◌, arith, append_assoc, length-append}
use Rattle.std.specs.Cmp.{nat_cmp_total, tied_itself}
use Rattle.std.specs.Ordering.{ordering_then}
use Rattle.std.proofs.lemmas.Bool.{true≢false, cases_lt}
use Rattle.std.proofs.lemmas.Bool.Decides.{Decides-eqb}
use Rattle.std.proofs.lemmas.List.{drop-append-le, get_or_at, get_or-append_right}
use Rattle.std.proofs.lemmas.Slice.Eq.{ends_is}
use Rattle.std.proofs.Math.Seq.{drop-append-add}
use Rattle.base_files.specs.Path.{folder, IsPath}
use Rattle.base_files.specs.Packages.{is_go}
use Rattle.base_files.specs.Workspace.{path_cmp}
use Rattle.refactor_move.specs.Paths.{IsUnder, HasMoved, HasMovedPackage}
use Rattle.law_moves.proofs.MovedPaths.{IsOutside, cases_joined, cases_under, folder_joined, folder_alone}

-- a folder in the folder that moves

pub folder_moves : (from to old new : List ℕ) → HasMoved from to old new → HasMovedPackage from to (folder old) (folder new)
folder_moves from to old new h = elim (cases_joined h.rest) [
  | inl found ↦
      let front = found.0 in
      let last = found.1.0 in
      let deeper : (base : List ℕ) → base ++ 47 ∷ h.rest ≡ (base ++ 47 ∷ front) ++ 47 ∷ last =
      λ base. ap (λ r. base ++ 47 ∷ r) found.1.1.whole ∙ sym (append_assoc base (47 ∷ front) (47 ∷ last)) in
      inr (record {
        rest = front;
        was = folder_joined old (from ++ 47 ∷ front) last (record { whole = h.was ∙ deeper from; no_slash = found.1.1.no_slash });
        is = folder_joined new (to ++ 47 ∷ front) last (record { whole = h.is ∙ deeper to; no_slash = found.1.1.no_slash });
      })
  | inr none ↦ inl (
    folder_joined old from h.rest (record { whole = h.was; no_slash = none }),
    folder_joined new to h.rest (record { whole = h.is; no_slash = none }),
  )
]

no_path : IsPath 1 [] → ⊥
no_path is = true≢false (sym is.parts)

joined_longer : (front behind : List ℕ) (c : ℕ) → [] ≡ front ++ c ∷ behind → ⊥
joined_longer front behind c e = omega (arith, ap length e, length-append front (c ∷ behind))

-- a folder outside of it
pub folder_stays : (from old : List ℕ) → IsPath 1 from → (IsUnder from old → ⊥) → IsOutside from (folder old)
folder_stays from old is outside = elim (cases_joined old) [
  | inl found ↦
      let front = found.0 in
      let last = found.1.0 in
      let same = folder_joined old front last found.1.1 in
      record {
        other = λ e. outside (last, found.1.1.whole ∙ ap (λ l. l ++ 47 ∷ last) (sym same ∙ e));
        outside = λ under. outside (
          under.0 ++ 47 ∷ last,
          found.1.1.whole ∙ ap (λ l. l ++ 47 ∷ last) (sym same ∙ under.1) ∙ append_assoc from (47 ∷ under.0) (47 ∷ last),
        );
      }
  | inr none ↦
      let same = folder_alone old none in
      record {
        other = λ e. no_path (subst (IsPath 1) (sym e ∙ same) is);
        outside = λ under. joined_longer from under.0 47 (sym same ∙ under.1);
      }
]

-- a file lies in a folder if its folder is that one or lies in it
pub file_under : (to old : List ℕ) → IsPath 1 to → (folder old ≡ to) ⊎ IsUnder to (folder old) → IsUnder to old
file_under to old is there = elim (cases_under to old) [
  | inl under ↦ under
  | inr not ↦
      let out = folder_stays to old is not in
      absurd (elim there [ inl e ↦ out.other e | inr u ↦ out.outside u ])
]

-- the folder of a file in another folder does not lie outside of that one
pub under_outside : (from old : List ℕ) → IsUnder from old → IsOutside from (folder old) → ⊥
under_outside from old under out =
    elim (folder_moves from from old old (record { rest = under.0; was = under.1; is = under.1 })) [
      | inl e ↦ out.other e.0
      | inr u ↦ out.outside (u.rest, u.was)
    ]

-- the names of Go files

abbrev ending : List ℕ
ending = 46 ∷ 103 ∷ 111 ∷ []

no_slash_in_go : (i : ℕ) → get_or ending i 0 ≡ 47 → ⊥
no_slash_in_go zero e = omega (arith, e)
no_slash_in_go (suc zero) e = omega (arith, e)
no_slash_in_go (suc (suc zero)) e = omega (arith, e)
no_slash_in_go (suc (suc (suc i))) e = omega (arith, e)

go_again : (a b r : List ℕ) → is_go (a ++ 47 ∷ r) ≡ true → is_go (b ++ 47 ∷ r) ≡ true
go_again a b r is =
    let go : List ℕ = ending in
    let old : List ℕ = a ++ 47 ∷ r in
    let front : List ℕ = take (length old - 3) old in
    let whole : old ≡ front ++ go = (ends_is Decides-eqb old go (is_go old) refl).0 is in
    elim (cases_lt (length a) (length front)) [
      | inl inside ↦
          let mid : List ℕ = drop (length a + 1) front in
          let rest : r ≡ mid ++ go = sym (drop-append-add a (47 ∷ r) 1) ∙ ap (drop (length a + 1)) whole
          ∙ drop-append-le (length a + 1) front go (omega (arith, inside)) in
          (ends_is Decides-eqb (b ++ 47 ∷ r) go (is_go (b ++ 47 ∷ r)) refl).1 (b ++ 47 ∷ mid)
          (ap (λ l. b ++ 47 ∷ l) rest ∙ sym (append_assoc b (47 ∷ mid) go))
      | inr behind ↦ absurd (no_slash_in_go (length a - length front)
          (sym (get_or-append_right front go (length front) (length a) 0 refl behind) ∙ ap (λ l. get_or l (length a) 0) (sym whole)
          ∙ get_or_at a 47 r 0 (length a) refl))
    ]

same_test : (a b : Bool) → (a ≡ true → b ≡ true) → (b ≡ true → a ≡ true) → b ≡ a
same_test true b f g = f refl
same_test false true f g = absurd (true≢false (sym (g refl)))
same_test false false f g = refl

pub go_moves : (from to old new : List ℕ) → HasMoved from to old new → is_go new ≡ is_go old
go_moves from to old new h =
    ap is_go h.is ∙ same_test (is_go (from ++ 47 ∷ h.rest)) (is_go (to ++ 47 ∷ h.rest)) (go_again from to h.rest) (go_again to from h.rest)
    ∙ ap is_go (sym h.was)

-- the order of paths

order_behind : (front x y : List ℕ) → path_cmp (front ++ x) (front ++ y) ≡ path_cmp x y
order_behind [] x y = refl
order_behind (c ∷ front) x y =
    ap (λ o. ordering_then o (path_cmp (front ++ x) (front ++ y))) (tied_itself nat_cmp_total c) ∙ order_behind front x y

pub order_moves : (from to a b c d : List ℕ) → HasMoved from to a b → HasMoved from to c d → path_cmp b d ≡ path_cmp a c
order_moves from to a b c d h k =
    (λ i. path_cmp (h.is i) (k.is i)) ∙ order_behind to (47 ∷ h.rest) (47 ∷ k.rest) ∙ sym (order_behind from (47 ∷ h.rest) (47 ∷ k.rest))
    ∙ (λ i. path_cmp (sym h.was i) (sym k.was i))
