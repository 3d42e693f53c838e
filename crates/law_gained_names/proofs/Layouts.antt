-- The identifiers of a package in which an import got the name that it declared already.
use Rattle.std.proofs.Common.{ℕ, zero, suc, ◌≡◌, ◌<◌, ◌+◌, ◌⊎◌, inl, inr, List, [], ◌∷◌, ◌++◌, Option, Some, None, Bool, true, false, length, map}
use Rattle.std.proofs.Common.{refl, sym, ap, ◌∙◌, subst, arith, length-append}
use Rattle.std.proofs.Math.Path.{fun_ext}
use Rattle.std.specs.Prelude.{◌↔◌, cond, nat_eq, option_map, slice_get}
use Rattle.std.proofs.lemmas.Bool.{cases_eq, eqb-true, eq-eqb}
use Rattle.std.proofs.lemmas.Bool.Decides.{nat_tests}
use Rattle.std.proofs.lemmas.List.{length-map}
use Rattle.std.proofs.lemmas.Option.{slice_get-map}
use Rattle.go_scope.specs.declared.model.Position.{Position}
use Rattle.go_scope.specs.Bindings.{IsBoundTo, Names}
use Rattle.go_scope.specs.Moves.{moved_place, moved_role}
use Rattle.go_scope.specs.Site.{Site, or_blank, sites_layout, sites_names}
use Rattle.go_scope.specs.Table.{LiesAt}
use Rattle.law_rename.specs.Around.{from_on}
use Rattle.law_rename.specs.MovedSites.{moved_site}
use Rattle.law_rename.specs.Gained.{Gain, HasGained, import_site, moved_by, path_site}
use Rattle.law_rename.proofs.Bound.{bound_gained, bound_to_nothing, names_stay, import_named}
use Rattle.law_rename.proofs.Spelling.{from_first, from_suc, from_zero}
use Rattle.law_rename.proofs.TokensBehind.{seam}
use Rattle.law_changed_types.specs.Renumbering.{IsRenumbering}
use Rattle.law_gained_names.specs.NamedPackage.{numbers_of}

-- numbers

pub from_rises : (number c d : ℕ) → c < d → from_on number c < from_on number d
from_rises number c d less = grind (arith, nat_tests)

pub from_apart : (number c d : ℕ) → from_on number c ≡ from_on number d → c ≡ d
from_apart number c d same = grind (arith, nat_tests)

pub from_stays : (n : ℕ) → from_on (suc n) n ≡ n
from_stays n = grind (arith, nat_tests)

from_misses : (k n : ℕ) → from_on (suc k) n ≡ k + 1 → ⊥
from_misses k n same = grind (arith, nat_tests)

-- both numbers of a token, unless it is the literal
pub same_number : (k n : ℕ) → (n ≡ k → ⊥) → from_on k n ≡ from_on (suc k) n
same_number k n other = grind (arith, nat_tests)

from_within : (at n d : ℕ) → d < n → from_on (suc at) d < suc n
from_within at n d less = grind (arith, nat_tests)

back_within : (at n d : ℕ) → at < n → from_on (suc at) d < suc n → d < n
back_within at n d here less = grind (arith, nat_tests)

-- each number but that of the literal is one of an identifier that was there
from_covers : (n x : ℕ) → (x ≡ suc n → ⊥) → (d : ℕ) × (from_on (suc n) d ≡ x)
from_covers zero zero other = (0, from_zero 0)
from_covers zero (suc zero) other = absurd (other refl)
from_covers zero (suc (suc x)) other = (suc x, from_suc 0 x ∙ ap suc (from_first x))
from_covers (suc n) zero other = (0, from_zero (suc n))
from_covers (suc n) (suc x) other =
    let rest = from_covers n x (λ e. other (ap suc e)) in (suc rest.0, from_suc (suc n) rest.0 ∙ ap suc rest.1)

-- tokens

module _ (i : Gain) (at : ℕ) where
  abbrev pub token : ℕ → ℕ → ℕ
  token = (numbers_of i at).token

  pub token_here : (n : ℕ) → token i.rank n ≡ from_on (suc i.number) n
  token_here n = ap (λ b. cond b (from_on (suc i.number) n) n) (eq-eqb i.rank i.rank refl)

  pub renumbers : (file : ℕ) → IsRenumbering (token file)
  renumbers file = by_test (nat_eq file i.rank)
    where
      by_test : (b : Bool) → IsRenumbering (λ n. cond b (from_on (suc i.number) n) n)
      by_test true = record { injective = λ x y e. from_apart (suc i.number) x y e; first = from_zero i.number }
      by_test false = record { injective = λ x y e. e; first = refl }

  -- the numbers that the texts give, unless the token is the literal
  pub tokens_agree : (file n : ℕ) → (file ≡ i.rank → n ≡ i.number → ⊥) → moved_by i file n ≡ token file n
  tokens_agree file n other = by_test (nat_eq file i.rank) refl
    where
      by_test : (b : Bool) → nat_eq file i.rank ≡ b → cond b (from_on i.number n) n ≡ cond b (from_on (suc i.number) n) n
      by_test true e = same_number i.number n (other (eqb-true file i.rank e))
      by_test false e = refl

-- identifiers at the new numbers

module _ (by : Site → Site) (stood one two : Site) where
  stands_else : (before behind : List Site) (d : ℕ) → (d ≡ length before → ⊥) →
      slice_get (map by before ++ one ∷ two ∷ map by behind) (from_on (suc (length before)) d) ≡ option_map by (slice_get (before ++ stood ∷ behind) d)
  stands_else [] behind zero other = absurd (other refl)
  stands_else [] behind (suc d) other =
      ap (slice_get (one ∷ two ∷ map by behind)) (from_suc 0 d ∙ ap suc (from_first d)) ∙ slice_get-map by behind d
  stands_else (x ∷ before) behind zero other =
      ap (slice_get (map by (x ∷ before) ++ one ∷ two ∷ map by behind)) (from_zero (suc (length before)))
  stands_else (x ∷ before) behind (suc d) other =
      ap (slice_get (map by (x ∷ before) ++ one ∷ two ∷ map by behind)) (from_suc (suc (length before)) d)
      ∙ stands_else before behind d (λ e. other (ap suc e))

  stands_one : (before behind : List Site) →
      slice_get (map by before ++ one ∷ two ∷ map by behind) (from_on (suc (length before)) (length before)) ≡ Some one
  stands_one [] behind = ap (slice_get (one ∷ two ∷ map by behind)) (from_stays 0)
  stands_one (x ∷ before) behind =
      ap (slice_get (map by (x ∷ before) ++ one ∷ two ∷ map by behind)) (from_suc (suc (length before)) (length before)) ∙ stands_one before behind

  stands_two : (before behind : List Site) → slice_get (map by before ++ one ∷ two ∷ map by behind) (suc (length before)) ≡ Some two
  stands_two [] behind = refl
  stands_two (x ∷ before) behind = stands_two before behind

role_moved : (move : ℕ → ℕ → ℕ) (o : Option Site) → (or_blank (option_map (moved_site move) o)).role ≡ moved_role move (or_blank o).role
role_moved move None = refl
role_moved move (Some x) = refl

module _ (i : Gain) (at : ℕ) (old new : List Site) (g : HasGained i (import_site i i.name) at old new) where
  abbrev e : ℕ → ℕ
  e = from_on (suc at)

  abbrev move : ℕ → ℕ → ℕ
  move = moved_by i

  else_at : (d : ℕ) → (d ≡ at → ⊥) → slice_get new (e d) ≡ option_map (moved_site move) (slice_get old d)
  else_at d other =
      (λ j. slice_get (g.new_is j) (from_on (suc (sym g.placed j)) d))
      ∙ stands_else (moved_site move) (import_site i i.name) (import_site i i.name) (path_site i) g.before g.behind d (λ x. other (x ∙ g.placed))
      ∙ ap (λ l. option_map (moved_site move) (slice_get l d)) (sym g.old_is)

  name_at : slice_get new (e at) ≡ Some (import_site i i.name)
  name_at =
      (λ j. slice_get (g.new_is j) (from_on (suc (sym g.placed j)) (sym g.placed j)))
      ∙ stands_one (moved_site move) (import_site i i.name) (import_site i i.name) (path_site i) g.before g.behind

  pub path_at : slice_get new (suc at) ≡ Some (path_site i)
  path_at =
      (λ j. slice_get (g.new_is j) (suc (sym g.placed j)))
      ∙ stands_two (moved_site move) (import_site i i.name) (import_site i i.name) (path_site i) g.before g.behind

  pub stood_at : slice_get old at ≡ Some (import_site i i.name)
  stood_at = (λ j. slice_get (g.old_is j) (sym g.placed j)) ∙ seam g.before g.behind (import_site i i.name)

  pub roles : (d : ℕ) → (sites_layout new).role (e d) ≡ moved_role move ((sites_layout old).role d)
  roles d = elim (cases_eq d at) [
    | inl is ↦ ap (λ (n : ℕ). (sites_layout new).role (e n)) is ∙ ap (λ o. (or_blank o).role) name_at
        ∙ sym (ap (λ (n : ℕ). moved_role move ((sites_layout old).role n)) is ∙ ap (λ o. moved_role move (or_blank o).role) stood_at)
    | inr other ↦ ap (λ o. (or_blank o).role) (else_at d other) ∙ role_moved move (slice_get old d)
  ]

  place_moved : (o : Option Site) → ((or_blank o).place.file ≡ i.rank → (or_blank o).place.index ≡ i.number → ⊥) →
      (or_blank (option_map (moved_site move) o)).place ≡ moved_place (token i at) (or_blank o).place
  place_moved None apart = ap (λ n. record { file = 0; index = n }) (sym (renumbers i at 0).first)
  place_moved (Some x) apart = ap (λ n. record { file = x.place.file; index = n }) (tokens_agree i at x.place.file x.place.index apart)

  pub places : ((d : ℕ) → (d ≡ at → ⊥) → ((sites_layout old).place d).file ≡ i.rank → ((sites_layout old).place d).index ≡ i.number → ⊥) →
      (d : ℕ) → (sites_layout new).place (e d) ≡ moved_place (token i at) ((sites_layout old).place d)
  places alone d = elim (cases_eq d at) [
    | inl is ↦
        ap (λ (n : ℕ). (sites_layout new).place (e n)) is ∙ ap (λ o. (or_blank o).place) name_at
        ∙ ap (λ n. record { file = i.rank; index = n }) (sym (token_here i at i.number ∙ from_stays i.number))
        ∙ sym (ap (λ (n : ℕ). moved_place (token i at) ((sites_layout old).place n)) is ∙ ap (λ o. moved_place (token i at) (or_blank o).place) stood_at)
    | inr other ↦ ap (λ o. (or_blank o).place) (else_at d other) ∙ place_moved (slice_get old d) (alone d other)
  ]

  pub same_names : (d : ℕ) → sites_names new (e d) ≡ sites_names old d
  same_names d = elim (cases_eq d at) [
    | inl is ↦ ap (λ (n : ℕ). sites_names new (e n)) is ∙ import_named i i.name at old new g
        ∙ sym (ap (sites_names old) is ∙ ap (λ o. (or_blank o).name) stood_at)
    | inr other ↦ names_stay i i.name at old new g d other
  ]

  pub bound : (u d : ℕ) → IsBoundTo (sites_layout old) (sites_names old) u d ↔ IsBoundTo (sites_layout new) (sites_names new) (e u) (e d)
  bound u d =
      subst (λ (names : Names). IsBoundTo (sites_layout old) names u d ↔ IsBoundTo (sites_layout new) (sites_names new) (e u) (e d)) (fun_ext same_names)
      (bound_gained i i.name at old new g (sites_names new) u d)

  pub bound_to_old : (u x : ℕ) → IsBoundTo (sites_layout new) (sites_names new) u x → (d : ℕ) × (x ≡ e d)
  bound_to_old u x b =
      let other : x ≡ suc at → ⊥ = λ is.
      bound_to_nothing i i.name at old new g (sites_names new) u (subst (λ n. IsBoundTo (sites_layout new) (sites_names new) u n) is b) in
      let d = from_covers at x other in
      (d.0, sym d.1)

  sizes : length new ≡ suc (length old)
  sizes =
      let one : length old ≡ length g.before + suc (length g.behind) = ap length g.old_is ∙ length-append g.before (import_site i i.name ∷ g.behind) in
      let two : length new ≡ length (map (moved_site move) g.before) + suc (suc (length (map (moved_site move) g.behind))) =
      ap length g.new_is ∙ length-append (map (moved_site move) g.before) (import_site i i.name ∷ path_site i ∷ map (moved_site move) g.behind) in
      let three : length (map (moved_site move) g.before) ≡ length g.before = length-map g.before (moved_site move) in
      let four : length (map (moved_site move) g.behind) ≡ length g.behind = length-map g.behind (moved_site move) in
      omega arith

  pub here_within : at < length old
  here_within =
      let one : length old ≡ length g.before + suc (length g.behind) = ap length g.old_is ∙ length-append g.before (import_site i i.name ∷ g.behind) in
      let two : length g.before ≡ at = g.placed in
      omega arith

  pub within : (d : ℕ) → d < length old → e d < length new
  within d less = subst (λ n. e d < n) (sym sizes) (from_within at (length old) d less)

  pub old_or_new : (x : ℕ) → x < length new → ((d : ℕ) × ((x ≡ e d) × (d < length old))) ⊎
      ((file n : ℕ) → LiesAt (sites_layout new) (record { file = file; index = token i at file n }) x → ⊥)
  old_or_new x less = elim (cases_eq x (suc at)) [
    | inl is ↦ inr (λ file n lies.
        let place : (sites_layout new).place x ≡ record { file = i.rank; index = i.number + 1 } =
        ap (sites_layout new).place is ∙ ap (λ o. (or_blank o).place) path_at in
        let here : i.rank ≡ file = ap (λ (z : Position). z.file) (sym place) ∙ lies.1 in
        from_misses i.number n
        (sym (token_here i at n) ∙ ap (λ f. token i at f n) here ∙ sym lies.2 ∙ ap (λ (z : Position). z.index) place))
    | inr other ↦
        let d = from_covers at x other in
        inl (d.0, (sym d.1, back_within at (length old) d.0 here_within (subst (λ n. n < suc (length old)) (sym d.1) (subst (λ n. x < n) sizes less))))
  ]
