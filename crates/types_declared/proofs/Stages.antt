-- Lists of the faults of the first stage that has any.
use Rattle.std.proofs.Common.{arith, ◌≡◌, ◌<◌, ◌⊎◌, inl, inr, List, [], ◌∷◌, refl, subst}
use Rattle.std.specs.Prelude.{Contains}
use Rattle.types_declared.specs.declared.fault.Fault.{Fault}
use Rattle.types_declared.specs.Listing.{AddsFaults, HoldsExactly, HaveSameFaults}
use Rattle.types_declared.specs.Stage.{FirstOf}
use Rattle.types_declared.proofs.Listings.{adds_then, lists_from}

-- a list that isn't empty contains a fault
head_of : (a : List Fault) → (a ≡ [] → ⊥) → (f : Fault) × Contains a f
head_of [] some = absurd (some refl)
head_of (f ∷ fs) some = (f, (0, omega arith, refl))

-- the list of a first stage with faults
pub first_listed : (P later : Fault → Type 0) (a : List Fault) → AddsFaults [] a P → (a ≡ [] → ⊥) → HoldsExactly (FirstOf P later) a
first_listed P later a h some =
    let l = lists_from a P h in
    let one = head_of a some in
    record {
      holds = λ f q. elim q [ inl p ↦ l.holds f p | inr r ↦ absurd (r.0 one.0 (l.only one.0 one.1)) ];
      only = λ f q. inl (l.only f q);
    }

no_element : (g : Fault) → Contains [] g → ⊥
no_element g h = let lt : h.0 < 0 = h.1 in omega arith

-- the list of the later stages, where the first stage has no fault
pub later_listed : (P later : Fault → Type 0) (a b : List Fault) → AddsFaults [] a P → a ≡ [] → AddsFaults a b later → HoldsExactly (FirstOf P later) b
later_listed P later a b h e k =
    let l = lists_from b later (subst (λ z. AddsFaults z b later) e k) in
    record {
      holds = λ f q. elim q [ inl p ↦ k.keeps f ((lists_from a P h).holds f p) | inr r ↦ l.holds f r.1 ];
      only = λ f q. inr ((λ g p. no_element g (subst (λ z. Contains z g) e ((lists_from a P h).holds g p))), l.only f q);
    }

-- a list with the same faults in another order
pub same_listed : (P : Fault → Type 0) (a b : List Fault) → HoldsExactly P a → HaveSameFaults a b → HoldsExactly P b
same_listed P a b l s = record { holds = λ f p. s.keeps f (l.holds f p); only = λ f q. l.only f (s.only f q) }

-- the list of the faults of two properties
pub both_listed : (P Q : Fault → Type 0) (a b : List Fault) → AddsFaults [] a P → AddsFaults a b Q → HoldsExactly (λ f. P f ⊎ Q f) b
both_listed P Q a b h k = lists_from b (λ f. P f ⊎ Q f) (adds_then [] a b P Q h k)

-- a list to which the faults of another property are added
pub listed_then : (P Q : Fault → Type 0) (a b : List Fault) → HoldsExactly P a → AddsFaults a b Q → HoldsExactly (λ f. P f ⊎ Q f) b
listed_then P Q a b l k = both_listed P Q a b (record { keeps = λ f h. absurd (no_element f h); holds = l.holds; only = λ f h. inr (l.only f h) }) k
