-- What other packages see of a package under the names before and after the rename of one of its declarations.
use Rattle.std.proofs.Common.{ℕ, ◌≡◌, ◌<◌, ◌≤◌, inl, inr, true, List, Option, Some, None, ap, sym, subst, refl, ◌∙◌, arith}
use Rattle.std.proofs.lemmas.Bool.{cases_Bool, cases_lt, true≢false}
use Rattle.go_scope.specs.declared.model.Block.TheVariants.{File}
use Rattle.go_scope.specs.declared.model.Block.TheVariants.{Package as PackageBlock}
use Rattle.go_scope.specs.Bindings.{Layout, Names, AllCount, Declares, Displaces, IsPackageLevel}
use Rattle.go_scope.proofs.Innermost.{one_in_block}
use Rattle.go_scope.proofs.Nesting.{Nested}
use Rattle.go_scope.proofs.Uniqueness.{same_or_not}
use Rattle.law_rename.specs.Renaming.{IsRenaming}
use Rattle.law_rename.specs.Seen.{IsExportedAs}
use Rattle.law_rename.proofs.AfterRename.{after_d, after_other, before_name, counts_d, counts_other, declared_before, declares_d, declares_other}
use Rattle.types_declared.specs.Laid.{is_exported}
use Rattle.law_agreement.specs.Behind.{TurnsBehind, hidden, preceded, repeated}

-- a package-level declaration is displaced by earlier ones alone
level_displaces : (l : Layout) (e z : ℕ) → IsPackageLevel l z → Displaces l e z → IsPackageLevel l e × (e < z)
level_displaces l e z level (inl block) = (block.0 ∙ level, block.1)
level_displaces l e z level (inr import) =
    let x : File import.1.0 ≡ PackageBlock = sym import.1.1 ∙ level in let no : ⊥ = cc in absurd no

-- under one name one declaration is seen
pub seen_once : (l : Layout) → Nested l → (names : Names) (name : List ℕ) (a b : ℕ) → IsExportedAs l names name a → IsExportedAs l names name b → a ≡ b
seen_once l nested names name a b x y =
    one_in_block l nested names a b x.counts y.counts (x.named ∙ sym y.named) (x.package_level ∙ sym y.package_level)

module _ (l : Layout) (nested : Nested l) (before after : Names) (d : ℕ) (y : List ℕ)
    (all : AllCount l before) (dec : Declares l before d) (ren : IsRenaming l before d y after) where
  -- the name that an identifier gets which is bound to `old` behind the package's name
  pub record IsCalled (old : ℕ) (name : List ℕ) : Type 0 where
    pub own : old ≡ d → name ≡ y
    pub other : (old ≡ d → ⊥) → name ≡ before old

  abbrev Turns : ℕ → Option ℕ → Type 0
  Turns old by = TurnsBehind l before d y old by

  -- what is renamed is seen, unless an earlier declaration has the name
  d_seen : IsPackageLevel l d → is_exported y ≡ true → ((e : ℕ) → IsExportedAs l before y e → e < d → ⊥) → IsExportedAs l after y d
  d_seen level exported none = record {
    package_level = level;
    counts = counts_d l nested before after d y all dec ren (λ z dz nz displaces.
        let k = level_displaces l z d level displaces in
        none z (record { package_level = k.0; counts = all z dz; named = nz; exported = exported }) k.1);
    named = after_d l nested before after d y all dec ren;
    exported = exported;
  }

  -- another declaration is seen, unless it has the new name and comes later
  other_seen : (name : List ℕ) (e : ℕ) → IsExportedAs l before name e → (e ≡ d → ⊥) → (name ≡ y → IsPackageLevel l d → d < e → ⊥) →
      IsExportedAs l after name e
  other_seen name e k other free = record {
    package_level = k.package_level;
    counts = counts_other l nested before after d y all dec ren e k.counts.declares other (λ ny displaces.
        let x = level_displaces l d e k.package_level displaces in free (sym k.named ∙ ny) x.0 x.1);
    named = after_other l nested before after d y all dec ren e k.counts.declares other ∙ k.named;
    exported = k.exported;
  }

  -- an earlier declaration of the new name is seen under it
  earlier_seen : (e : ℕ) → IsExportedAs l before y e → e < d → IsExportedAs l after y e
  earlier_seen e k lt = other_seen y e k (λ same. omega arith) (λ ny level more. omega arith)

  -- what is renamed is seen in the place of a later declaration
  d_first : (e : ℕ) → IsPackageLevel l d → IsExportedAs l before y e → d < e → IsExportedAs l after y d
  d_first e level k lt = d_seen level k.exported (λ z kz less.
      let same : z ≡ e = seen_once l nested before y z e kz k in omega arith)

  -- seen afterwards, it was seen before
  seen_before : (name : List ℕ) (e : ℕ) → IsExportedAs l after name e → (e ≡ d → ⊥) → IsExportedAs l before name e
  seen_before name e k other = record {
    package_level = k.package_level;
    counts = all e (declared_before l nested before after d y all dec ren e k.counts.declares);
    named = before_name l nested before after d y all dec ren e k.counts.declares other ∙ k.named;
    exported = k.exported;
  }

  -- of two declarations of the new name, the later one is not seen

  not_behind_d : (e : ℕ) → IsPackageLevel l d → IsExportedAs l before y e → IsExportedAs l after y e → d < e → ⊥
  not_behind_d e level was k lt =
      k.counts.first d
      (declares_d l nested before after d y all dec ren (λ z dz nz left block scope.
      let same : z ≡ e =
      one_in_block l nested before z e (all z dz) was.counts (nz ∙ sym was.named) (block ∙ level ∙ sym was.package_level) in
      let less : z < d = nested.earlier z d dz.may left block scope in
      omega arith))
      (after_d l nested before after d y all dec ren ∙ sym k.named)
      (inl (level ∙ sym k.package_level, lt))

  not_behind_other : (e : ℕ) → IsExportedAs l before y e → IsExportedAs l after y d → (e ≡ d → ⊥) → e < d → ⊥
  not_behind_other e was k other lt =
      k.counts.first e
      (declares_other l nested before after d y all dec ren e was.counts.declares other (λ ny left block scope.
      let less : d < e = nested.earlier d e dec.may left block scope in
      omega arith))
      (after_other l nested before after d y all dec ren e was.counts.declares other ∙ was.named ∙ sym k.named)
      (inl (was.package_level ∙ sym k.package_level, lt))

  -- one identifier behind the package's name
  module _ (old : ℕ) (seen : IsExportedAs l before (before old) old) (name : List ℕ) (called : IsCalled old name) where
    own_level : old ≡ d → IsPackageLevel l d
    own_level same = subst (IsPackageLevel l) same seen.package_level

    as_own : old ≡ d → (e : ℕ) → IsExportedAs l after y e → IsExportedAs l after name e
    as_own same e k = subst (λ m. IsExportedAs l after m e) (sym (called.own same)) k

    as_other : (old ≡ d → ⊥) → (e : ℕ) → IsExportedAs l after (before old) e → IsExportedAs l after name e
    as_other other e k = subst (λ m. IsExportedAs l after m e) (sym (called.other other)) k

    under_new : before old ≡ y → IsExportedAs l before y old
    under_new ny = subst (λ m. IsExportedAs l before m old) ny seen

    turns_own : old ≡ d → (by : Option ℕ) → Turns d by → Turns old by
    turns_own same by k = subst (λ z. Turns z by) (sym same) k

    -- what does not turn is seen
    pub seen_still : ((by : Option ℕ) → Turns old by → ⊥) → IsExportedAs l after name old
    seen_still free = elim (same_or_not old d) [
      | inl same ↦ elim (cases_Bool (is_exported y)) [
        | inl exported ↦
            (let now : IsExportedAs l after y d = d_seen (own_level same) exported
            (λ e k lt. free (Some e) (turns_own same (Some e) (preceded (own_level same) k lt))) in
            subst (λ z. IsExportedAs l after name z) (sym same) (as_own same d now))
        | inr not ↦ absurd (free None (turns_own same None (hidden not)))
      ]
      | inr other ↦
          as_other other old
          (other_seen (before old) old seen other (λ ny level lt. free (Some d) (repeated level (under_new ny) lt)))
    ]

    -- where nothing is seen, it is lost
    pub turns_lost : ((e : ℕ) → IsExportedAs l after name e → ⊥) → Turns old None
    turns_lost none = elim (same_or_not old d) [
      | inl same ↦ elim (cases_Bool (is_exported y)) [
        | inl exported ↦
            absurd (none d (as_own same d (d_seen (own_level same) exported (λ e k lt. none e (as_own same e (earlier_seen e k lt))))))
        | inr not ↦ turns_own same None (hidden not)
      ]
      | inr other ↦
          absurd (none old (as_other other old
          (other_seen (before old) old seen other (λ ny level lt.
          none d (as_other other d (subst (λ m. IsExportedAs l after m d) (sym ny) (d_first old level (under_new ny) lt)))))))
    ]

    -- where another declaration is seen, that one captures it

    by_own : old ≡ d → (e : ℕ) → IsExportedAs l after y e → (e ≡ d → ⊥) → Turns d (Some e)
    by_own same e k other =
        let was : IsExportedAs l before y e = seen_before y e k other in
        elim (cases_lt e d) [
          | inl lt ↦ preceded (own_level same) was lt
          | inr ge ↦
              (let order : d ≤ e = ge in
              let apart : e ≡ d → ⊥ = other in
              let more : d < e = omega (arith, order, apart) in
              absurd (not_behind_d e (own_level same) was k more))
        ]

    by_other : (old ≡ d → ⊥) → (e : ℕ) → IsExportedAs l after (before old) e → (e ≡ old → ⊥) → Turns old (Some e)
    by_other apart e k other = elim (same_or_not e d) [
      | inl same ↦
          (let now : IsExportedAs l after (before old) d = subst (λ z. IsExportedAs l after (before old) z) same k in
          let ny : before old ≡ y = sym now.named ∙ after_d l nested before after d y all dec ren in
          let here : IsExportedAs l after y d = subst (λ m. IsExportedAs l after m d) ny now in
          subst (λ z. Turns old (Some z)) (sym same) (elim (cases_lt d old) [
            | inl lt ↦ repeated now.package_level (under_new ny) lt
            | inr ge ↦
                (let order : old ≤ d = ge in
                let less : old < d = omega (arith, order, apart) in
                absurd (not_behind_other old (under_new ny) here apart less))
          ]))
      | inr far ↦ absurd (other (seen_once l nested before (before old) e old (seen_before (before old) e k far) seen))
    ]

    pub turns_caught : (e : ℕ) → IsExportedAs l after name e → (e ≡ old → ⊥) → Turns old (Some e)
    turns_caught e k other = elim (same_or_not old d) [
      | inl same ↦
          turns_own same (Some e)
          (by_own same e (subst (λ m. IsExportedAs l after m e) (called.own same) k) (λ here. other (here ∙ sym same)))
      | inr apart ↦ by_other apart e (subst (λ m. IsExportedAs l after m e) (called.other apart) k) other
    ]

  -- and conversely

  pub lost_unseen : (old : ℕ) (name : List ℕ) → IsCalled old name → Turns old None → (e : ℕ) → IsExportedAs l after name e → ⊥
  lost_unseen old name called (hidden not) e k = true≢false (sym k.exported ∙ ap is_exported (called.own refl) ∙ not)

  pub caught_seen : (old c : ℕ) (name : List ℕ) → IsCalled old name → Turns old (Some c) → IsExportedAs l after name c × (c ≡ old → ⊥)
  caught_seen old c name called (preceded level k lt) =
      (subst (λ m. IsExportedAs l after m c) (sym (called.own refl)) (earlier_seen c k lt), (λ same. omega arith))
  caught_seen old c name called (repeated level k lt) =
      let apart : old ≡ d → ⊥ = (λ same. omega arith) in
      (subst (λ m. IsExportedAs l after m d) (sym (called.other apart ∙ k.named)) (d_first old level k lt), (λ same. omega arith))
