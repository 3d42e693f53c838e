-- What other packages see under the names before and after a rename.
use Rattle.std.proofs.Common.{ℕ, ◌≡◌, List, Bool, true, false, refl, sym, ◌∙◌, subst}
use Rattle.std.specs.Prelude.{◌↔◌}
use Rattle.types_declared.specs.Laid.{is_exported}
use Rattle.go_scope.specs.Bindings.{Layout, Names, Declares, Counts, IsPackageLevel, AllCount, own}
use Rattle.go_scope.proofs.Nesting.{Nested}
use Rattle.go_scope.proofs.Innermost.{one_in_block}
use Rattle.law_rename.specs.Renaming.{IsRenaming, KeepsScopeBindings}
use Rattle.law_rename.specs.Seen.{IsExportedAs}
use Rattle.law_rename.proofs.AfterRename.{after_d, after_same, after_other, before_name}
use Rattle.law_rename.proofs.Conflicts.{other_than_d, y_after, old_declares}
use Rattle.law_rename.proofs.Exactness.{counts_of_own}

both_or_neither : (a b : Bool) → (a ≡ true → b ≡ true) → (b ≡ true → a ≡ true) → a ≡ b
both_or_neither true b f g = sym (f refl)
both_or_neither false true f g = g refl
both_or_neither false false f g = refl

module _ (l : Layout) (nested : Nested l) (before after : Names) (d : ℕ) (y : List ℕ)
    (all : AllCount l before) (dec : Declares l before d) (fresh : before d ≡ y → ⊥) (ren : IsRenaming l before d y after)
    (keep : KeepsScopeBindings l before after) where
  counts_after : (e : ℕ) → Declares l before e → Counts l after e
  counts_after e de = counts_of_own l nested before after d y all dec fresh ren e (keep e e (own refl (all e de)))

  counts_before : (e : ℕ) → Counts l after e → Counts l before e
  counts_before e c = all e (old_declares l nested before after d y all dec fresh ren e c.declares)

  is_d : after d ≡ y
  is_d = after_d l nested before after d y all dec ren

  d_seen_after : IsPackageLevel l d → is_exported y ≡ true → IsExportedAs l after y d
  d_seen_after level e = record { package_level = level; counts = counts_after d dec; named = is_d; exported = e }

  d_seen_before : IsPackageLevel l d → is_exported (before d) ≡ true → IsExportedAs l before (before d) d
  d_seen_before level e = record { package_level = level; counts = all d dec; named = refl; exported = e }

  -- what is seen under the old name before, or under the new one afterwards, is d
  only_before : IsPackageLevel l d → (e : ℕ) → IsExportedAs l before (before d) e → e ≡ d
  only_before level e s = one_in_block l nested before e d s.counts (all d dec) s.named (s.package_level ∙ sym level)

  only_after : IsPackageLevel l d → (e : ℕ) → IsExportedAs l after y e → e ≡ d
  only_after level e s = one_in_block l nested after e d s.counts (counts_after d dec) (s.named ∙ sym is_d) (s.package_level ∙ sym level)

  seen_alike : IsPackageLevel l d → is_exported (before d) ≡ is_exported y → (e : ℕ) → IsExportedAs l before (before d) e ↔ IsExportedAs l after y e
  seen_alike level same e = (
    (λ s. let P : ℕ → Type 0 = λ v. IsExportedAs l after y v in subst P (sym (only_before level e s)) (d_seen_after level (sym same ∙ s.exported))),
    (λ s. let P : ℕ → Type 0 = λ v. IsExportedAs l before (before d) v in subst P (sym (only_after level e s)) (d_seen_before level (same ∙ s.exported))),
  )

  pub seen_exactly : IsPackageLevel l d → ((e : ℕ) → IsExportedAs l before (before d) e ↔ IsExportedAs l after y e) ↔ (is_exported (before d) ≡ is_exported y)
  seen_exactly level = (
    (λ h. both_or_neither (is_exported (before d)) (is_exported y)
        (λ e. ((h d).0 (d_seen_before level e)).exported)
        (λ e. ((h d).1 (d_seen_after level e)).exported)),
    seen_alike level,
  )

  pub seen_under_others : (name : List ℕ) → (name ≡ before d → ⊥) → (name ≡ y → ⊥) → (e : ℕ) → IsExportedAs l before name e ↔ IsExportedAs l after name e
  seen_under_others name not_old not_new e = (
    (λ s.
        let apart : e ≡ d → ⊥ = λ p. let P : ℕ → Type 0 = λ v. before v ≡ name in not_old (sym (subst P p s.named)) in
        record {
          package_level = s.package_level;
          counts = counts_after e s.counts.declares;
          named = after_other l nested before after d y all dec ren e s.counts.declares apart ∙ s.named;
          exported = s.exported;
        }),
    (λ s.
        let apart : e ≡ d → ⊥ = λ p. not_new (sym s.named ∙ after_same l nested before after d y all dec ren e p) in
        record {
          package_level = s.package_level;
          counts = counts_before e s.counts;
          named = before_name l nested before after d y all dec ren e s.counts.declares apart ∙ s.named;
          exported = s.exported;
        }),
  )

  pub old_name_gone : IsPackageLevel l d → (e : ℕ) → IsExportedAs l after (before d) e → ⊥
  old_name_gone level e s =
      let apart : e ≡ d → ⊥ = λ p. fresh (sym s.named ∙ after_same l nested before after d y all dec ren e p) in
      apart (one_in_block l nested before e d (counts_before e s.counts) (all d dec)
      (before_name l nested before after d y all dec ren e s.counts.declares apart ∙ s.named) (s.package_level ∙ sym level))

  pub new_name_free : IsPackageLevel l d → (e : ℕ) → IsExportedAs l before y e → ⊥
  new_name_free level e s =
      let apart : e ≡ d → ⊥ = other_than_d l nested before after d y all dec fresh ren e s.named in
      apart (one_in_block l nested after e d (counts_after e s.counts.declares) (counts_after d dec)
      (y_after l nested before after d y all dec fresh ren e s.counts.declares s.named ∙ sym is_d) (s.package_level ∙ sym level))
