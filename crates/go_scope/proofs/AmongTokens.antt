-- Identifiers at tokens of a list, in its order.
use Rattle.std.proofs.Common.{ℕ, suc, ◌≡◌, ◌≤◌, false, inr, List, [], ◌∷◌, ◌++◌, ap, sym, ◌∙◌, arith}
use Rattle.go_ast.specs.declared.syntax.Token.{Token}
use Rattle.go_scope.specs.declared.model.Position.{Position}
use Rattle.go_scope.specs.Bindings.{is_implied}
use Rattle.go_scope.specs.Site.{Site}
use Rattle.go_scope.specs.Trees.{AreRising}
use Rattle.go_scope.specs.WellFormed.{IsNotAfter}
use Rattle.go_scope.proofs.Regions.{Each, EachPair, each_map}

abbrev pub position : ℕ → ℕ → Position
position rank i = record { file = rank; index = i }

pub data AreAmong (rank : ℕ) : List Site → List Token → Type 0 where
  ends : AreAmong rank [] []
  skips : {xs : List Site} {t : Token} {ts : List Token} → AreAmong rank xs ts → AreAmong rank xs (t ∷ ts)
  takes : {x : Site} {xs : List Site} {t : Token} {ts : List Token} → x.place ≡ position rank t.place → AreAmong rank xs ts → AreAmong rank (x ∷ xs) (t ∷ ts)

pub among_append : (rank : ℕ) (xs ys : List Site) (ts us : List Token) → AreAmong rank xs ts → AreAmong rank ys us → AreAmong rank (xs ++ ys) (ts ++ us)
among_append rank _ ys _ us ends b = b
among_append rank xs ys _ us (skips {ts = ts} a) b = skips (among_append rank xs ys ts us a b)
among_append rank _ ys _ us (takes {xs = xs} {ts = ts} e a) b = takes e (among_append rank xs ys ts us a b)

-- where token indices rise, positions do

abbrev pub UpTo : Site → Site → Type 0
UpTo x y = IsNotAfter x.place y.place

-- in a file, at this token or after it
abbrev pub StandsFrom : ℕ → ℕ → Site → Type 0
StandsFrom rank n x = (x.place.file ≡ rank) × (n ≤ x.place.index)

from_before : (rank n k : ℕ) (xs : List Site) → n ≤ k → Each (StandsFrom rank k) xs → Each (StandsFrom rank n) xs
from_before rank n k xs le h =
    each_map (StandsFrom rank k) (StandsFrom rank n) (λ x s. (s.0, (let at : k ≤ x.place.index = s.1 in omega arith))) xs h

pub places_rise : (rank n : ℕ) (xs : List Site) (ts : List Token) → AreAmong rank xs ts → AreRising n ts → Each (StandsFrom rank n) xs × EachPair UpTo xs
places_rise rank n _ _ ends r = (tt, tt)
places_rise rank n xs _ (skips {t = t} {ts = ts} a) r =
    let h = places_rise rank (suc t.place) xs ts a r.1 in
    let le : n ≤ t.place = r.0 in
    (from_before rank n (suc t.place) xs (omega arith) h.0, h.1)
places_rise rank n _ _ (takes {x = x} {xs = xs} {t = t} {ts = ts} e a) r =
    let h = places_rise rank (suc t.place) xs ts a r.1 in
    let le : n ≤ t.place = r.0 in
    let file : x.place.file ≡ rank = ap (λ (p : Position). p.file) e in
    let at : x.place.index ≡ t.place = ap (λ (p : Position). p.index) e in (
      ((file, omega arith), from_before rank n (suc t.place) xs (omega arith) h.0),
      (
        each_map (StandsFrom rank (suc t.place)) (UpTo x)
            (λ y s. inr (file ∙ sym s.0, (let up : suc t.place ≤ y.place.index = s.1 in omega arith))) xs h.0,
        h.1,
      ),
    )

-- the two do not stand at one token, if the first is no predeclared name
abbrev pub StandApart : Site → Site → Type 0
StandApart x y = is_implied x.role ≡ false → x.place ≡ y.place → ⊥

pub places_apart : (rank n : ℕ) (xs : List Site) (ts : List Token) → AreAmong rank xs ts → AreRising n ts → EachPair StandApart xs
places_apart rank n _ _ ends r = tt
places_apart rank n xs _ (skips {t = t} {ts = ts} a) r = places_apart rank (suc t.place) xs ts a r.1
places_apart rank n _ _ (takes {x = x} {xs = xs} {t = t} {ts = ts} e a) r =
    let at : x.place.index ≡ t.place = ap (λ (p : Position). p.index) e in (
      each_map (StandsFrom rank (suc t.place)) (StandApart x)
          (λ y s _ same. (let index : x.place.index ≡ y.place.index = ap (λ (p : Position). p.index) same in
          let up : suc t.place ≤ y.place.index = s.1 in absurd (omega arith))) xs (places_rise rank (suc t.place) xs ts a r.1).0,
      places_apart rank (suc t.place) xs ts a r.1,
    )
