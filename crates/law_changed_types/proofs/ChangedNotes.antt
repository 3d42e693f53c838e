-- The uses and the entries among notes that are moved, or at new numbers.
use Rattle.std.proofs.Common.{ℕ, ◌≡◌, List, [], ◌∷◌, map, ap, refl}
use Rattle.types_expr.specs.Judge.{MemberUse, Entering, Noted, OfMember, OfEntering, members_of, enterings_of}
use Rattle.law_changed_types.specs.Moved.{PathMap, moved_use, moved_entering, moved_noted}
use Rattle.law_changed_types.specs.Renumbering.{renumbered_use, renumbered_entering, renumbered_uses}

pub members_moved : (g : PathMap) (ns : List Noted) → members_of (map (moved_noted g) ns) ≡ map (moved_use g) (members_of ns)
members_moved g [] = refl
members_moved g (OfMember u ∷ ns) = ap (λ (us : List MemberUse). moved_use g u ∷ us) (members_moved g ns)
members_moved g (OfEntering e ∷ ns) = members_moved g ns

pub enterings_moved : (g : PathMap) (ns : List Noted) → enterings_of (map (moved_noted g) ns) ≡ map (moved_entering g) (enterings_of ns)
enterings_moved g [] = refl
enterings_moved g (OfMember u ∷ ns) = enterings_moved g ns
enterings_moved g (OfEntering e ∷ ns) = ap (λ (es : List Entering). moved_entering g e ∷ es) (enterings_moved g ns)

pub members_renumbered : (t : ℕ → ℕ) (ns : List Noted) → members_of (renumbered_uses t ns) ≡ map (renumbered_use t) (members_of ns)
members_renumbered t [] = refl
members_renumbered t (OfMember u ∷ ns) = ap (λ (us : List MemberUse). renumbered_use t u ∷ us) (members_renumbered t ns)
members_renumbered t (OfEntering e ∷ ns) = members_renumbered t ns

pub enterings_renumbered : (t : ℕ → ℕ) (ns : List Noted) → enterings_of (renumbered_uses t ns) ≡ map (renumbered_entering t) (enterings_of ns)
enterings_renumbered t [] = refl
enterings_renumbered t (OfMember u ∷ ns) = enterings_renumbered t ns
enterings_renumbered t (OfEntering e ∷ ns) = ap (λ (es : List Entering). renumbered_entering t e ∷ es) (enterings_renumbered t ns)
