-- The first of several numbers, and the first of several conflicts.
use Rattle.std.proofs.Common.{ℕ, ◌⊎◌, ◌↔◌, inl, inr, List, Option, Some, None, arith}
use Rattle.std.proofs.lemmas.Bool.{cond_both, leb-true, leb-false}
use Rattle.go_scope.specs.Bindings.{Layout, Names}
use Rattle.law_rename.specs.Renaming.{HasNoConflictAt}
use Rattle.refactor_scopes.specs.declared.outcomes.ScopeConflict.{ScopeConflict}
use Rattle.refactor_scopes.specs.Conflicts.{FirstConflictAmong, IsWritten, first_conflict_of}
use Rattle.refactor_scopes.specs.Numbers.{IsFirstNumber, earlier}

module _ (K J : ℕ → Type 0) where
  pub earlier_first : (a b : Option ℕ) → IsFirstNumber K a → IsFirstNumber J b → IsFirstNumber (λ u. K u ⊎ J u) (earlier a b)
  earlier_first None None h g = λ u o. elim o [ inl k ↦ h u k | inr j ↦ g u j ]
  earlier_first None (Some n) h g = (inr g.0, λ w lt o. elim o [ inl k ↦ h w k | inr j ↦ g.1 w lt j ])
  earlier_first (Some m) None h g = (inl h.0, λ w lt o. elim o [ inl k ↦ h.1 w lt k | inr j ↦ g w j ])
  earlier_first (Some m) (Some n) h g =
      cond_both _ (Some m) (Some n) (IsFirstNumber (λ u. K u ⊎ J u))
      (λ is. (inl h.0, λ w lt o. elim o [ inl k ↦ h.1 w lt k | inr j ↦ (let le = leb-true m n is in g.1 w (omega arith) j) ]))
      (λ is. (inr g.0, λ w lt o. elim o [ inl k ↦ (let gt = leb-false m n is in h.1 w (omega arith) k) | inr j ↦ g.1 w lt j ]))

  pub first_as : (o : Option ℕ) → ((u : ℕ) → K u ↔ J u) → IsFirstNumber K o → IsFirstNumber J o
  first_as None same h = λ u j. h u ((same u).1 j)
  first_as (Some m) same h = ((same m).0 h.0, λ v lt j. h.1 v lt ((same v).1 j))

module _ (l : Layout) (names : Names) (d : ℕ) (y : List ℕ) (K J : ℕ → Type 0) where
  abbrev Among : (ℕ → Type 0) → Option ScopeConflict → Type 0
  Among P c = FirstConflictAmong l names d y P c

  pub first_among : (a b : Option ScopeConflict) → Among K a → Among J b → Among (λ u. K u ⊎ J u) (first_conflict_of a b)
  first_among None None h g = λ u id o. elim o [ inl k ↦ h u id k | inr j ↦ g u id j ]
  first_among None (Some n) h g = (g.0, g.1, λ w lt id o. elim o [ inl k ↦ h w id k | inr j ↦ g.2 w lt id j ])
  first_among (Some m) None h g = (h.0, h.1, λ w lt id o. elim o [ inl k ↦ h.2 w lt id k | inr j ↦ g w id j ])
  first_among (Some m) (Some n) h g =
      cond_both _ (Some m) (Some n) (Among (λ u. K u ⊎ J u))
      (λ is. (h.0, h.1, λ w lt id o. elim o [ inl k ↦ h.2 w lt id k | inr j ↦ (let le = leb-true m.identifier n.identifier is in g.2 w (omega arith) id j) ]))
      (λ is. (g.0, g.1, λ w lt id o. elim o [ inl k ↦ (let gt = leb-false m.identifier n.identifier is in h.2 w (omega arith) id k) | inr j ↦ g.2 w lt id j ]))

  -- what has no conflict where K holds of it, and where K doesn't, has none
  either_way : (u : ℕ) → (K u → HasNoConflictAt l names d y u) → ((K u → ⊥) → HasNoConflictAt l names d y u) → HasNoConflictAt l names d y u
  either_way u inside outside = record {
    not_captured = λ c w. (outside (λ k. (inside k).not_captured c w)).not_captured c w;
    not_lost = λ w. (outside (λ k. (inside k).not_lost w)).not_lost w;
  }

  -- of all identifiers of which J holds, those of which K doesn't hold have no conflict
  pub among_all : (c : Option ScopeConflict) → ((u : ℕ) → IsWritten l u → J u → (K u → ⊥) → HasNoConflictAt l names d y u) → Among K c → Among J c
  among_all None rest h = λ u id j. either_way u (h u id) (rest u id j)
  among_all (Some m) rest h = (h.0, h.1, λ u lt id j. either_way u (h.2 u lt id) (rest u id j))
