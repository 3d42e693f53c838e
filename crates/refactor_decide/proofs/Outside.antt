-- The first of the sorted uses of a declaration that is outside of its package.
use Rattle.std.proofs.Common.{ℕ, suc, zero, ◌≡◌, ◌<◌, inl, inr, List, [], ◌∷◌, Option, Some, None, ap, sym, subst, ◌∙◌, arith}
use Rattle.std.specs.Prelude.{Contains, slice_get}
use Rattle.std.specs.List.{AllByRecursion}
use Rattle.std.specs.List.Sorted.{IsStrictlySortedBy}
use Rattle.std.specs.Ordering.{ordering_reverse}
use Rattle.std.specs.declared.cmp.Ordering.TheVariants.{Less, Equal, Greater}
use Rattle.std.proofs.lemmas.Bool.{cases_lt}
use Rattle.std.proofs.lemmas.Cmp.{tied_itself}
use Rattle.std.proofs.lemmas.Option.{none-some, same_Some, slice_get_within, slice_get-get_or, get_or_from_slice_get}
use Rattle.base_files.specs.Workspace.{Workspace}
use Rattle.base_files.specs.declared.place.Place.{Place}
use Rattle.types_declared.specs.Package.{Package}
use Rattle.workspace_check.specs.Verdicts.{Verdicts}
use Rattle.refs_binding.specs.declared.declaration.Declaration.TheVariants.{Declared}
use Rattle.refs_binding.specs.Places.{place_cmp}
use Rattle.refs_binding.specs.Workspaces.{ListsFound}
use Rattle.refs_binding.proofs.PlaceOrder.{place_cmp_total}
use Rattle.refactor_conflict.specs.declared.conflict.Conflict.{Conflict}
use Rattle.refactor_decide.specs.Behind.{IsFirstListed, IsFirstUse}
use Rattle.refactor_decide.specs.declared.turned.TurnedUses.{TurnedUses}

above : (p : Place) (ps : List Place) → AllByRecursion (λ q. place_cmp p q ≡ Less) ps → (j : ℕ) (b : Place) → slice_get ps j ≡ Some b → place_cmp p b ≡ Less
above p [] h j b at = absurd (none-some b at)
above p (q ∷ ps) h zero b at = subst (λ x. place_cmp p x ≡ Less) (same_Some q b at) h.0
above p (q ∷ ps) h (suc j) b at = above p ps h.1 j b at

-- of two places in a sorted list the first comes before the second
rise : (ps : List Place) → IsStrictlySortedBy place_cmp ps → (i j : ℕ) (a b : Place) → i < j → slice_get ps i ≡ Some a → slice_get ps j ≡ Some b →
    place_cmp a b ≡ Less
unfolding IsStrictlySortedBy
rise [] h i j a b lt is at = absurd (none-some a is)
rise (p ∷ ps) h i zero a b lt is at = absurd (omega arith)
rise (p ∷ ps) h zero (suc j) a b lt is at = subst (λ x. place_cmp x b ≡ Less) (same_Some p a is) (above p ps h.0 j b at)
rise (p ∷ ps) h (suc i) (suc j) a b lt is at = rise ps h.1 i j a b (omega arith) is at

not_both : (a b : Place) → place_cmp a b ≡ Less → place_cmp b a ≡ Less → ⊥
not_both a b h k = let wrong : Less ≡ Greater = sym k ∙ (place_cmp_total.antisymm b a ∙ ap ordering_reverse h) in cc

not_itself : (a : Place) → place_cmp a a ≡ Less → ⊥
not_itself a h = let wrong : Less ≡ Equal = sym h ∙ tied_itself place_cmp_total a in cc

-- an element of a list stands at an index
stands : (ps : List Place) (x : Place) → Contains ps x → (j : ℕ) × (slice_get ps j ≡ Some x)
stands ps x h = (h.0, slice_get-get_or ps h.0 x h.1 ∙ ap (λ y. Some y) h.2)

is_element : (ps : List Place) (j : ℕ) (x : Place) → slice_get ps j ≡ Some x → Contains ps x
is_element ps j x at = (j, slice_get_within ps j x at, get_or_from_slice_get ps j x x at)

module _ (w : Workspace) (known : Verdicts) (p : Package) (t : TurnedUses) (places : List Place)
    (lists : ListsFound w known (Declared p.path t.declaration) places) where
  pub first_use : (c : Option Conflict) → IsFirstListed p places t.by c → IsFirstUse w known p t c
  first_use None h = λ place used. used.outside (h place ((lists.each place).1 used.is_use))
  first_use (Some c) h =
      let first = h.0 in (
        record { is_use = (lists.each c.used).0 (is_element places first.index c.used first.there); outside = first.outside },
        h.1,
        (λ place before used.
            let at = stands places place ((lists.each place).1 used.is_use) in
            elim (cases_lt at.0 first.index) [
              | inl lt ↦ used.outside (first.others at.0 place lt at.1)
              | inr ge ↦ elim (cases_lt first.index at.0) [
                | inl more ↦ not_both place c.used before (rise places lists.in_order first.index at.0 c.used place more first.there at.1)
                | inr le ↦
                    let one : at.0 ≡ first.index = omega (arith, ge, le) in
                    let same : c.used ≡ place =
                    same_Some c.used place (sym first.there ∙ (ap (slice_get places) (sym one) ∙ at.1)) in
                    not_itself place (subst (λ x. place_cmp place x ≡ Less) same before)
              ]
            ]),
      )
