-- The ranks of declarations, by their numbers in a scope table.
use Rattle.std.proofs.Common.{ℕ, ◌≡◌, ◌+◌, ◌<◌, ◌⊎◌, inl, inr, List, length, set}
use Rattle.std.proofs.Common.{replicate, ap, sym, subst, refl, ◌∙◌, arith, length-set, get_or-set_same, get_or-set_other}
use Rattle.std.specs.Prelude.{Bool, true, false, Option, Some, None, option_map, slice_get, map}
use Rattle.std.proofs.Math.Path.{ap₂}
use Rattle.std.proofs.lemmas.Bool.{true≢false, cases_eq, cases_order}
use Rattle.std.proofs.lemmas.List.{length-replicate, get_or-replicate}
use Rattle.std.proofs.lemmas.Option.{slice_get_within, slice_get-map, none-some, same_Some}
use Rattle.go_scope.specs.declared.model.Position.{Position}
use Rattle.go_scope.specs.Bindings.{Layout, is_implied}
use Rattle.go_scope.specs.ByToken.{IsFirstBelow, row_number}
use Rattle.go_scope.specs.Table.{LiesAt, IsFoundAt}
use Rattle.go_scope.specs.WellFormed.{HaveOwnPlaces}
use Rattle.types_declared.specs.Package.{IsRanked}
use Rattle.types_declared.specs.RanksView.{IsRankOf, AreRanks, NotesRank, RanksIfFree, free, taken}
use Rattle.go_scope.proofs.TokenRows.{first_now, place_or, widen, widen_found}

-- the position at this rank is that of the identifier d
abbrev pub StandsAtRank : List Position → Layout → ℕ → ℕ → Type 0
StandsAtRank places l d rank = (p : Position) × ((slice_get places rank ≡ Some p) × LiesAt l p d)

-- `ranks` gives for each of `size` identifiers the first rank below n of its position, or none
pub record AreRanksBelow (places : List Position) (l : Layout) (size n : ℕ) (ranks : List (Option ℕ)) : Type 0 where
  pub all : length ranks ≡ size
  pub each : (d : ℕ) → d < size → IsFirstBelow (StandsAtRank places l d) n (row_number ranks d)

pub ranks_none : (places : List Position) (l : Layout) (size : ℕ) (ranks : List (Option ℕ)) → ranks ≡ replicate size None → AreRanksBelow places l size 0 ranks
ranks_none places l size ranks e = record {
  all = ap length e ∙ length-replicate size None;
  each = λ d lt. subst (IsFirstBelow (StandsAtRank places l d) 0) (sym (ap (λ z. row_number z d) e ∙ get_or-replicate size d None None lt))
      (λ u below _. absurd (omega (arith, below)));
}

-- whether an identifier lies at a position

is_or_not : (b : Bool) → (b ≡ false) ⊎ (b ≡ false → ⊥)
is_or_not false = inl refl
is_or_not true = inr true≢false

all_or_not : {A B C : Type 0} → A ⊎ (A → ⊥) → B ⊎ (B → ⊥) → C ⊎ (C → ⊥) → (A × B × C) ⊎ ((A × B × C) → ⊥)
all_or_not (inl a) (inl b) (inl c) = inl (a, b, c)
all_or_not (inl a) (inl b) (inr away) = inr (λ s. away s.2)
all_or_not (inl a) (inr away) c = inr (λ s. away s.1)
all_or_not (inr away) b c = inr (λ s. away s.0)

lies_or_not : (l : Layout) (p : Position) (d : ℕ) → LiesAt l p d ⊎ (LiesAt l p d → ⊥)
lies_or_not l p d = all_or_not (is_or_not (is_implied (l.role d))) (cases_eq (l.place d).file p.file) (cases_eq (l.place d).index p.index)

-- one more rank is noted
pub ranks_next : (places : List Position) (l : Layout) (size n : ℕ) (old new : List (Option ℕ)) (place : Position) → slice_get places n ≡ Some place →
    NotesRank l size place n old new → AreRanksBelow places l size n old → AreRanksBelow places l size (n + 1) new
ranks_next places l size n old new place at s h = record { all = s.sized ∙ h.all; each = each }
  where
    each : (d : ℕ) → d < size → IsFirstBelow (StandsAtRank places l d) (n + 1) (row_number new d)
    each d lt = before (row_number old d) refl
      where
        before : (o : Option ℕ) → row_number old d ≡ o → IsFirstBelow (StandsAtRank places l d) (n + 1) (row_number new d)
        before (Some rank) e = subst (IsFirstBelow (StandsAtRank places l d) (n + 1)) (sym (s.earlier d rank lt e))
            (widen_found (StandsAtRank places l d) n rank (subst (IsFirstBelow (StandsAtRank places l d) n) e (h.each d lt)))
        before None e = elim (lies_or_not l place d) [
          | inl here ↦ subst (IsFirstBelow (StandsAtRank places l d) (n + 1)) (sym (s.here d lt here e))
              (first_now (StandsAtRank places l d) n (row_number old d) e (place, (at, here)) (h.each d lt))
          | inr away ↦ subst (IsFirstBelow (StandsAtRank places l d) (n + 1)) (sym (s.elsewhere d lt away))
              (widen (StandsAtRank places l d) n (row_number old d) (λ x. away (subst (λ p. LiesAt l p d) (same_Some x.0 place (sym x.1.0 ∙ at)) x.1.1))
              (h.each d lt))
        ]

rank_whole : (places : List Position) (l : Layout) (d : ℕ) (o : Option ℕ) → IsFirstBelow (StandsAtRank places l d) (length places) o →
    IsRankOf (λ p. p) places l d o
rank_whole places l d None h = λ rank r. h rank (slice_get_within places rank r.item r.has_rank) (r.item, (r.has_rank, r.stands))
rank_whole places l d (Some rank) h = record {
  item = h.holds.0;
  has_rank = h.holds.1.0;
  stands = h.holds.1.1;
  first = λ r p lt is s. h.first r lt (p, (is, s));
}

pub ranks_whole : (places : List Position) (l : Layout) (size : ℕ) (ranks : List (Option ℕ)) → AreRanksBelow places l size (length places) ranks →
    AreRanks (λ p. p) places l size ranks
ranks_whole places l size ranks h = record { all = h.all; each = λ d lt. rank_whole places l d (row_number ranks d) (h.each d lt) }

-- a rank is noted at the identifier of a position

abbrev own_place : Layout → ℕ → Position
own_place l d = record { file = (l.place d).file; index = (l.place d).index }

same_place : (l : Layout) (d : ℕ) (p : Position) → LiesAt l p d → p ≡ own_place l d
same_place l d p s = ap₂ (λ f i. record { file = f; index = i }) (sym s.1) (sym s.2)

one_stands : (l : Layout) (size : ℕ) (place : Position) (u v : ℕ) → HaveOwnPlaces l size → IsFoundAt l size place u → v < size → LiesAt l place v → v ≡ u
one_stands l size place u v apart found lt s = elim (cases_order v u) [
  | inl same ↦ same
  | inr o ↦ elim o [
    | inl less ↦ absurd (found.first v less s)
    | inr more ↦ absurd (apart u v more lt found.holds.0 (sym (same_place l u place found.holds) ∙ same_place l v place s))
  ]
]

pub notes_nowhere : (l : Layout) (size : ℕ) (place : Position) (rank : ℕ) (row : List (Option ℕ)) → ((u : ℕ) → u < size → LiesAt l place u → ⊥) →
    NotesRank l size place rank row row
notes_nowhere l size place rank row none = record {
  sized = refl;
  here = λ u lt s e. absurd (none u lt s);
  earlier = λ u r lt e. e;
  elsewhere = λ u lt no. refl;
}

pub notes_at : (l : Layout) (size : ℕ) (place : Position) (rank : ℕ) (old new : List (Option ℕ)) (u : ℕ) → HaveOwnPlaces l size → IsFoundAt l size place u →
    length old ≡ size → RanksIfFree old new u rank → NotesRank l size place rank old new
notes_at l size place rank old new u apart found sized (taken {r = r} was e) = record {
  sized = ap length e;
  here = λ v lt s none. absurd (none-some r (sym none ∙ ap (row_number old) (one_stands l size place u v apart found lt s) ∙ was));
  earlier = λ v q lt before. ap (λ z. row_number z v) e ∙ before;
  elsewhere = λ v lt no. ap (λ z. row_number z v) e;
}
notes_at l size place rank old new u apart found sized (free none e) =
    let within : u < length old = (let lt : u < size = found.within in omega (arith, sized)) in
    record {
      sized = ap length e ∙ length-set old u (Some rank);
      here = λ v lt s _. ap (λ z. row_number z v) e ∙ ap (row_number (set old u (Some rank))) (one_stands l size place u v apart found lt s) ∙
          get_or-set_same old u (Some rank) None within;
      earlier = λ v r lt before. ap (λ z. row_number z v) e ∙
          get_or-set_other old u v (Some rank) None (λ same. none-some r (sym none ∙ ap (row_number old) (sym same) ∙ before)) ∙ before;
      elsewhere = λ v lt no. ap (λ z. row_number z v) e ∙
          get_or-set_other old u v (Some rank) None (λ same. no (subst (LiesAt l place) (sym same) found.holds));
    }

-- Items by their positions

item_from : {X : Type 0} (f : X → Position) (o : Option X) (p : Position) → option_map f o ≡ Some p → (x : X) × ((o ≡ Some x) × (f x ≡ p))
item_from f None p e = absurd (none-some p e)
item_from f (Some x) p e = (x, (refl, ap (place_or p) e))

ranked_item : {X : Type 0} (f : X → Position) (xs : List X) (l : Layout) (d rank : ℕ) → IsRanked (λ p. p) (map f xs) l d rank → IsRanked f xs l d rank
ranked_item f xs l d rank r =
    let found = item_from f (slice_get xs rank) r.item (sym (slice_get-map f xs rank) ∙ r.has_rank) in
    record {
      item = found.0;
      has_rank = found.1.0;
      stands = subst (λ p. LiesAt l p d) (sym found.1.1) r.stands;
      first = λ k x lt e s. r.first k (f x) lt (slice_get-map f xs k ∙ ap (option_map f) e) s;
    }

ranked_place : {X : Type 0} (f : X → Position) (xs : List X) (l : Layout) (d rank : ℕ) → IsRanked f xs l d rank → IsRanked (λ p. p) (map f xs) l d rank
ranked_place f xs l d rank r = record {
  item = f r.item;
  has_rank = slice_get-map f xs rank ∙ ap (option_map f) r.has_rank;
  stands = r.stands;
  first = λ k p lt e s. let found = item_from f (slice_get xs k) p (sym (slice_get-map f xs k) ∙ e) in
      r.first k found.0 lt found.1.0 (subst (λ q. LiesAt l q d) (sym found.1.1) s);
}

rank_of_item : {X : Type 0} (f : X → Position) (xs : List X) (l : Layout) (d : ℕ) (o : Option ℕ) → IsRankOf (λ p. p) (map f xs) l d o → IsRankOf f xs l d o
rank_of_item f xs l d None h = λ rank r. h rank (ranked_place f xs l d rank r)
rank_of_item f xs l d (Some rank) h = ranked_item f xs l d rank h

pub ranks_of_items : {X : Type 0} (f : X → Position) (xs : List X) (l : Layout) (size : ℕ) (places : List Position) (ranks : List (Option ℕ)) →
    places ≡ map f xs →
    AreRanks (λ p. p) places l size ranks → AreRanks f xs l size ranks
ranks_of_items f xs l size places ranks e h = record {
  all = h.all;
  each = λ d lt. rank_of_item f xs l d (row_number ranks d) (subst (λ ps. IsRankOf (λ p. p) ps l d (row_number ranks d)) e (h.each d lt));
}

-- an identifier has at most one rank
pub one_rank : {X : Type 0} (f : X → Position) (xs : List X) (l : Layout) (d r s : ℕ) → IsRanked f xs l d r → IsRanked f xs l d s → r ≡ s
one_rank f xs l d r s h k = elim (cases_order r s) [
  | inl same ↦ same
  | inr o ↦ elim o [ inl less ↦ absurd (k.first r h.item less h.has_rank h.stands) | inr more ↦ absurd (h.first s k.item more k.has_rank k.stands) ]
]
