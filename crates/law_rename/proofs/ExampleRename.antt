-- A worked example: a variable `x` of a package, a use of it, and a use of `xy`, which is bound to none. The variable is renamed to `xy`:
-- its use stays bound to it, nothing is captured or lost, and the other use is bound to it.
use Rattle.std.proofs.Common.{ℕ, ◌≡◌, ◌<◌, inl, inr, List, [], ◌∷◌, refl, sym, subst, arith, zero, suc}
use Rattle.go_scope.specs.declared.model.Block.TheVariants.{Package, Inner}
use Rattle.go_scope.specs.declared.model.Role.{Role}
use Rattle.go_scope.specs.declared.model.Role.TheVariants.{Use, Declaring}
use Rattle.go_scope.specs.Bindings.{Layout, Names, MayDeclare, IsLeftName, Declares, Displaces, Counts, AllCount, IsBoundTo, use_bound, own}
use Rattle.go_scope.specs.Site.{Site, sites_layout, sites_names}
use Rattle.go_scope.specs.WellFormed.{WellFormed, InBlock}
use Rattle.go_scope.proofs.Nests.{nests}
use Rattle.law_rename.specs.Renaming.{IsRenaming, Renames, KeepsScopeBindings, HasNoConflict, WouldCapture, new_name, own_use, assigned, to_renamed, to_other}
use Rattle.law_rename.specs.Renaming.{WouldLose, repeats, own_repeats, WouldBind, IsBoundAnew}
use Rattle.law_rename.proofs.Exactness.{exact, binds}

abbrev x : List ℕ
x = 120 ∷ []

abbrev xy : List ℕ
xy = 120 ∷ 121 ∷ []

-- The identifier at a token of the only file.
abbrev stands : ℕ → List ℕ → Role → Site
stands token name role = record { place = record { file = 0; index = token }; name = name; role = role }

abbrev old : List Site
old = stands 2 x (Declaring Package 0) ∷ stands 5 x Use ∷ stands 7 xy Use ∷ []

abbrev new : List Site
new = stands 2 xy (Declaring Package 0) ∷ stands 5 xy Use ∷ stands 7 xy Use ∷ []

abbrev l : Layout
l = sites_layout old

abbrev before : Names
before = sites_names old

abbrev after : Names
after = sites_names new

only : (d : ℕ) → MayDeclare l d → d ≡ 0
only zero m = refl
only (suc zero) m = let absent = m in cc
only (suc (suc zero)) m = let absent = m in cc
only (suc (suc (suc d))) m = let absent = m in cc

not_inner : (d f a b : ℕ) → InBlock l d (Inner f a b) → ⊥
not_inner zero f a b i = let absent = i in cc
not_inner (suc zero) f a b i = let absent = i in cc
not_inner (suc (suc zero)) f a b i = let absent = i in cc
not_inner (suc (suc (suc d))) f a b i = let absent = i in cc

no_left : (d : ℕ) → IsLeftName l d → ⊥
no_left zero h = let absent = h in cc
no_left (suc zero) h = let absent = h in cc
no_left (suc (suc zero)) h = let absent = h in cc
no_left (suc (suc (suc d))) h = let absent = h in cc

well_formed : WellFormed l
well_formed = record {
  size = 1;
  finite = λ d m. let e : d ≡ 0 = only d m in omega arith;
  starts = λ d f a b m i. absurd (not_inner d f a b i);
  blocks = λ d e f a b a2 b2 md me id ie. absurd (not_inner d f a b id);
  begins_outside = λ d e f a b a2 b2 md me id ie p q. absurd (not_inner d f a b id);
  in_order = λ d e md me s less. let p : d ≡ 0 = only d md in let q : e ≡ 0 = only e me in let bad : ⊥ = omega (arith, less, p, q) in absurd bad;
  left_inner = λ v h. absurd (no_left v h);
  left_before = λ v h. absurd (no_left v h);
  left_directly = λ v z f a b a2 b2 h. absurd (no_left v h);
}

declared : Declares l before 0
declared = record { may = refl; is_new = λ left. absurd (no_left 0 left) }

apart : (e : ℕ) → Displaces l e 0 → ⊥
apart e (inl first) = let absent : e < 0 = first.1 in omega arith
apart e (inr level) = let absent = level.1.1 in cc

counts : Counts l before 0
counts = record { declares = declared; first = λ e de same why. apart e why }

all_count : AllCount l before
all_count d dd = let P : ℕ → Type 0 = λ v. Counts l before v in subst P (sym (only d dd.may)) counts

use_of_x : IsBoundTo l before 1 0
use_of_x = use_bound (inl refl) (record { counts = counts; named = refl; in_scope = tt; innermost = λ e c same holds inside. only e c.declares.may })

other_name : x ≡ xy → ⊥
other_name e = let absent = e in cc

none_beyond : (u : ℕ) → IsBoundTo l before (suc (suc (suc u))) 0 → ⊥
none_beyond u (use_bound (inl i) b) = let absent = i in cc
none_beyond u (use_bound (inr i) b) = no_left (suc (suc (suc u))) i.0
none_beyond u (own p c) = omega (arith, p)

renamed : (u : ℕ) → IsBoundTo l before u 0 → after u ≡ xy
renamed zero b = refl
renamed (suc zero) b = refl
renamed (suc (suc zero)) b = refl
renamed (suc (suc (suc u))) b = absurd (none_beyond u b)

kept : (u : ℕ) → (IsBoundTo l before u 0 → ⊥) → after u ≡ before u
kept zero none = absurd (none (own refl counts))
kept (suc zero) none = absurd (none use_of_x)
kept (suc (suc zero)) none = refl
kept (suc (suc (suc u))) none = refl

renaming : IsRenaming l before 0 xy after
renaming = record { renamed = renamed; kept = kept }

pub renames : Renames l before 0 xy after
renames = record { well_formed = well_formed; all_count = all_count; declared = declared; other_name = other_name; renaming = renaming }

none_called : (e : ℕ) → Declares l before e → before e ≡ xy → ⊥
none_called e de same = let P : ℕ → Type 0 = λ v. before v ≡ xy in other_name (subst P (only e de.may) same)

none_captured : (u c : ℕ) → WouldCapture l before 0 xy u c → ⊥
none_captured u c (new_name {e = e} i ny b hd q) = none_called e b.counts.declares b.named
none_captured u c (own_use i b be q) = none_called c be.counts.declares be.named
none_captured u c (assigned (to_renamed de ny left s he)) = none_called u de ny
none_captured u c (assigned (to_other de ny left s he)) = none_called c de ny

none_lost : (u : ℕ) → WouldLose l before 0 xy u → ⊥
none_lost u (repeats de ny disp still) = none_called u de ny
none_lost u (own_repeats {e = e} de ny disp still) = none_called e de ny

pub no_conflict : HasNoConflict l before 0 xy
no_conflict = λ u. record { not_captured = none_captured u; not_lost = none_lost u }

pub bindings_kept : KeepsScopeBindings l before after
bindings_kept = (exact l (nests l well_formed) before after 0 xy all_count declared other_name renaming).1 no_conflict

would_bind : WouldBind l before 0 xy 2
would_bind = record { uses = inl refl; named = refl; unbound = λ e b. none_called e b.counts.declares b.named; in_scope = tt }

-- which no use of a workspace without faults is
pub bound_anew : IsBoundAnew l before after 2 0
bound_anew = binds l (nests l well_formed) before after 0 xy all_count declared other_name renaming 2 would_bind
