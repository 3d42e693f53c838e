-- Bindings where an import without a name gains one.
use Rattle.std.proofs.Common.{ℕ, zero, suc, ◌≡◌, ◌<◌, inl, inr, List, [], ◌∷◌, ◌++◌, Option, Some, None, Bool, true, false, length, map, refl, sym, ap}
use Rattle.std.proofs.Common.{◌∙◌, subst, arith}
use Rattle.std.specs.Prelude.{◌↔◌, cond, nat_eq, option_map, slice_get}
use Rattle.std.proofs.lemmas.Bool.{cases_eq}
use Rattle.std.proofs.lemmas.Bool.Decides.{nat_tests}
use Rattle.std.proofs.lemmas.Option.{slice_get-map}
use Rattle.go_scope.specs.declared.model.Block.{Block}
use Rattle.go_scope.specs.declared.model.Block.TheVariants.{File, Inner, Package, Universe}
use Rattle.go_scope.specs.declared.model.Role.{Role}
use Rattle.go_scope.specs.Bindings.{Counts, IsBoundTo, Layout, Names, block_of, is_left_name, is_use, may_declare, own, start_of, use_bound}
use Rattle.go_scope.specs.Moves.{IsMoved, HasKnownEnds, moved_place, moved_role}
use Rattle.go_scope.specs.Site.{Site, or_blank, sites_layout, sites_names}
use Rattle.go_scope.proofs.Moved.{bindings_move}
use Rattle.law_rename.specs.Around.{from_on}
use Rattle.law_rename.specs.MovedSites.{moved_site}
use Rattle.law_rename.specs.Gained.{Gain, HasGained, import_site, moved_by, path_site}
use Rattle.law_rename.proofs.Along.{Along, IsLooked, bound_along}
use Rattle.law_rename.proofs.TokensBehind.{seam}
use Rattle.law_rename.proofs.Spelling.{from_first, from_suc, from_zero}

-- numbers

from_rises : (number c d : ℕ) → c < d → from_on number c < from_on number d
from_rises number c d less = grind (arith, nat_tests)

pub move_rises : (i : Gain) (f c d : ℕ) → c < d → moved_by i f c < moved_by i f d
move_rises i f c d less = by_test (nat_eq f i.rank)
  where
    by_test : (b : Bool) → cond b (from_on i.number c) c < cond b (from_on i.number d) d
    by_test true = from_rises i.number c d less
    by_test false = less

from_before : (n : ℕ) → from_on (suc n) n ≡ n
from_before n = grind (arith, nat_tests)

-- each number but that of the literal is one of an identifier that was there
from_covers : (n x : ℕ) → (x ≡ suc n → ⊥) → (d : ℕ) × (from_on (suc n) d ≡ x)
from_covers zero zero other = (0, from_zero 0)
from_covers zero (suc zero) other = absurd (other refl)
from_covers zero (suc (suc x)) other = (suc x, from_suc 0 x ∙ ap suc (from_first x))
from_covers (suc n) zero other = (0, from_zero (suc n))
from_covers (suc n) (suc x) other =
    let rest = from_covers n x (λ e. other (ap suc e)) in (suc rest.0, from_suc (suc n) rest.0 ∙ ap suc rest.1)

-- The identifiers at the new numbers.

module _ (by : Site → Site) (stood one two : Site) where
  stands_else : (before behind : List Site) (d : ℕ) → (d ≡ length before → ⊥) →
      slice_get (map by before ++ one ∷ two ∷ map by behind) (from_on (suc (length before)) d) ≡ option_map by (slice_get (before ++ stood ∷ behind) d)
  stands_else [] behind zero other = absurd (other refl)
  stands_else [] behind (suc d) other =
      ap (slice_get (one ∷ two ∷ map by behind)) (from_suc 0 d ∙ ap suc (from_first d)) ∙ slice_get-map by behind d
  stands_else (x ∷ before) behind zero other =
      ap (slice_get (map by (x ∷ before) ++ one ∷ two ∷ map by behind)) (from_zero (suc (length before)))
  stands_else (x ∷ before) behind (suc d) other =
      ap (slice_get (map by (x ∷ before) ++ one ∷ two ∷ map by behind)) (from_suc (suc (length before)) d)
      ∙ stands_else before behind d (λ e. other (ap suc e))

  stands_one : (before behind : List Site) →
      slice_get (map by before ++ one ∷ two ∷ map by behind) (from_on (suc (length before)) (length before)) ≡ Some one
  stands_one [] behind = ap (slice_get (one ∷ two ∷ map by behind)) (from_before 0)
  stands_one (x ∷ before) behind =
      ap (slice_get (map by (x ∷ before) ++ one ∷ two ∷ map by behind)) (from_suc (suc (length before)) (length before)) ∙ stands_one before behind

  stands_two : (before behind : List Site) → slice_get (map by before ++ one ∷ two ∷ map by behind) (suc (length before)) ≡ Some two
  stands_two [] behind = refl
  stands_two (x ∷ before) behind = stands_two before behind

role_moved : (move : ℕ → ℕ → ℕ) (o : Option Site) → (or_blank (option_map (moved_site move) o)).role ≡ moved_role move (or_blank o).role
role_moved move None = refl
role_moved move (Some x) = refl

name_moved : (move : ℕ → ℕ → ℕ) (o : Option Site) → (or_blank (option_map (moved_site move) o)).name ≡ (or_blank o).name
name_moved move None = refl
name_moved move (Some x) = refl

place_moved : (move : ℕ → ℕ → ℕ) (o : Option Site) → IsLooked (moved_role move (or_blank o).role) →
    (or_blank (option_map (moved_site move) o)).place ≡ moved_place move (or_blank o).place
place_moved move None (inl e) = let none : false ≡ true = e in cc
place_moved move None (inr e) = let none : false ≡ true = e in cc
place_moved move (Some x) looked = refl

all_known : (b : Block) (start : ℕ) → HasKnownEnds (λ f n. Unit {0}) b start
all_known (Inner f a b) start = (tt, tt, tt)
all_known (File f) start = tt
all_known Package start = tt
all_known Universe start = tt

-- to what something is bound, that counts
bound_counts : (l : Layout) (names : Names) (u d : ℕ) → IsBoundTo l names u d → Counts l names d
bound_counts l names u d (use_bound is x) = x.counts
bound_counts l names u d (own p c) = c

-- the bindings

module _ (i : Gain) (called : List ℕ) (at : ℕ) (old new : List Site) (g : HasGained i (import_site i called) at old new) where
  abbrev e : ℕ → ℕ
  e = from_on (suc at)

  abbrev move : ℕ → ℕ → ℕ
  move = moved_by i

  abbrev was : Layout
  was = sites_layout old

  abbrev now : Layout
  now = sites_layout new

  abbrev moved : Layout
  moved = record { role = λ d. moved_role move (was.role d); place = λ d. moved_place move (was.place d) }

  else_at : (d : ℕ) → (d ≡ at → ⊥) → slice_get new (e d) ≡ option_map (moved_site move) (slice_get old d)
  else_at d other =
      (λ j. slice_get (g.new_is j) (from_on (suc (sym g.placed j)) d))
      ∙ stands_else (moved_site move) (import_site i called) (import_site i i.name) (path_site i) g.before g.behind d (λ x. other (x ∙ g.placed))
      ∙ ap (λ l. option_map (moved_site move) (slice_get l d)) (sym g.old_is)

  name_at : slice_get new (e at) ≡ Some (import_site i i.name)
  name_at =
      (λ j. slice_get (g.new_is j) (from_on (suc (sym g.placed j)) (sym g.placed j)))
      ∙ stands_one (moved_site move) (import_site i called) (import_site i i.name) (path_site i) g.before g.behind

  path_at : slice_get new (suc at) ≡ Some (path_site i)
  path_at =
      (λ j. slice_get (g.new_is j) (suc (sym g.placed j)))
      ∙ stands_two (moved_site move) (import_site i called) (import_site i i.name) (path_site i) g.before g.behind

  stood_at : slice_get old at ≡ Some (import_site i called)
  stood_at = (λ j. slice_get (g.old_is j) (sym g.placed j)) ∙ seam g.before g.behind (import_site i called)

  roles : (d : ℕ) → now.role (e d) ≡ moved.role d
  roles d = elim (cases_eq d at) [
    | inl is ↦ ap (λ (n : ℕ). now.role (e n)) is ∙ ap (λ o. (or_blank o).role) name_at
        ∙ sym (ap (λ (n : ℕ). moved.role n) is ∙ ap (λ o. moved_role move (or_blank o).role) stood_at)
    | inr other ↦ ap (λ o. (or_blank o).role) (else_at d other) ∙ role_moved move (slice_get old d)
  ]

  not_looked : (d : ℕ) → d ≡ at → IsLooked (moved.role d) → ⊥
  not_looked d is looked =
      let here = subst IsLooked (ap (λ (n : ℕ). moved.role n) is ∙ ap (λ o. moved_role move (or_blank o).role) stood_at) looked in
      elim here [ inl h ↦ (let none : false ≡ true = h in cc) | inr h ↦ (let none : false ≡ true = h in cc) ]

  places : (d : ℕ) → IsLooked (moved.role d) → now.place (e d) ≡ moved.place d
  places d looked = elim (cases_eq d at) [
    | inl is ↦ absurd (not_looked d is looked)
    | inr other ↦ ap (λ o. (or_blank o).place) (else_at d other) ∙ place_moved move (slice_get old d) looked
  ]

  no_path : (r : Role) → r ≡ (path_site i).role → may_declare r ≡ true → ⊥
  no_path r is may = let none : false ≡ true = sym (ap may_declare is) ∙ may in cc

  path_role : now.role (suc at) ≡ (path_site i).role
  path_role = ap (λ o. (or_blank o).role) path_at

  along : Along e moved now
  along = record {
    roles = roles;
    places = places;
    rises = from_rises (suc at);
    covers = λ x may. from_covers at x (λ is. no_path (now.role x) (ap (λ (n : ℕ). now.role n) is ∙ path_role) may);
  }

  is_moved : IsMoved (λ f n. Unit {0}) move was moved
  is_moved = record {
    roles = λ d. refl;
    places = λ d. refl;
    increasing = λ f c d kc kd less. move_rises i f c d less;
    known_place = λ d. tt;
    known_block = λ d. all_known (block_of (was.role d)) (start_of (was.role d));
  }

  pub bound_gained : (later : Names) (u d : ℕ) → IsBoundTo was (λ x. later (e x)) u d ↔ IsBoundTo now later (e u) (e d)
  bound_gained later u d =
      let first = bindings_move (λ f n. Unit {0}) move was moved is_moved (λ x. later (e x)) u d in
      let then = bound_along e moved now along later u d in
      ((λ x. then.0 (first.0 x)), (λ x. first.1 (then.1 x)))

  pub counts_gained : (later : Names) (d : ℕ) → Counts was (λ x. later (e x)) d ↔ Counts now later (e d)
  counts_gained later d = (
    (λ c. bound_counts now later (e d) (e d) ((bound_gained later d d).0 (own refl c))),
    (λ c. bound_counts was (λ x. later (e x)) d d ((bound_gained later d d).1 (own refl c))),
  )

  -- the literal is bound to nothing, and nothing to it
  pub nothing_bound : (later : Names) (d : ℕ) → IsBoundTo now later (suc at) d → ⊥
  nothing_bound later d (use_bound (inl is) x) = let none : false ≡ true = sym (ap is_use path_role) ∙ is in cc
  nothing_bound later d (use_bound (inr is) x) = let none : false ≡ true = sym (ap is_left_name path_role) ∙ is.0 in cc
  nothing_bound later d (own p c) =
      no_path (now.role d) (ap (λ (n : ℕ). now.role n) (sym p) ∙ path_role) c.declares.may

  pub bound_to_nothing : (later : Names) (u : ℕ) → IsBoundTo now later u (suc at) → ⊥
  bound_to_nothing later u (use_bound is x) = no_path (now.role (suc at)) path_role x.counts.declares.may
  bound_to_nothing later u (own p c) = no_path (now.role (suc at)) path_role c.declares.may

  pub names_stay : (d : ℕ) → (d ≡ at → ⊥) → sites_names new (e d) ≡ sites_names old d
  names_stay d other = ap (λ o. (or_blank o).name) (else_at d other) ∙ name_moved move (slice_get old d)

  pub import_named : sites_names new (e at) ≡ i.name
  import_named = ap (λ o. (or_blank o).name) name_at
