-- Which uses in other packages a rename turns.
use Rattle.std.proofs.Common.{ℕ, ◌≡◌, ◌<◌, ◌≤◌, inl, inr, true, false, List, Option, Some, None, sym, subst, refl, ◌∙◌, arith}
use Rattle.std.specs.Prelude.{nat_lt}
use Rattle.std.proofs.lemmas.Bool.{cases_lt, cond_both, ltb-true, ltb-false, true≢false}
use Rattle.go_scope.specs.Bindings.{AllCount, IsPackageLevel}
use Rattle.law_rename.specs.Seen.{IsExportedAs}
use Rattle.types_check.specs.Exports.{DoesExport}
use Rattle.types_declared.specs.Laid.{is_exported}
use Rattle.types_declared.specs.Package.{Package}
use Rattle.law_agreement.specs.Behind.{TurnsBehind, hidden, preceded, repeated}
use Rattle.refactor_decide.specs.Capturers.{CountsIfAny}
use Rattle.refactor_decide.specs.Own.{CanRename}
use Rattle.refactor_decide.specs.Turned.{TellsTurned, later_of}
use Rattle.refactor_decide.specs.declared.turned.TurnedUses.{TurnedUses}

module _ (p : Package) (n : ℕ) (name : List ℕ) where
  abbrev Turns : ℕ → Option ℕ → Type 0
  Turns old by = TurnsBehind p.layout p.names n name old by

  -- the new name is not exported

  hidden_only : is_exported name ≡ false → (old : ℕ) (by : Option ℕ) → Turns old by → old ≡ n
  hidden_only not _ _ (hidden h) = refl
  hidden_only not _ _ (preceded level e lt) = absurd (true≢false (sym e.exported ∙ not))
  hidden_only not _ _ (repeated level e lt) = absurd (true≢false (sym e.exported ∙ not))

  pub lost : is_exported name ≡ false → TellsTurned p n name (Some (record { declaration = n; by = None }))
  lost not = (hidden not, λ old by seen turns. hidden_only not old by turns)

  pub unseen : is_exported name ≡ false → (DoesExport p n → ⊥) → TellsTurned p n name None
  unseen not other = λ old by seen turns. other (subst (DoesExport p) (hidden_only not old by turns) seen)

  -- the new name is exported

  exported_so : (e : ℕ) → IsExportedAs p.layout p.names name e → DoesExport p e
  exported_so e h = record {
    package_level = h.package_level;
    counts = h.counts;
    exported = subst (λ x. is_exported x ≡ true) (sym h.named) h.exported;
  }

  module _ (exported : is_exported name ≡ true) where
    inner : (old : ℕ) (by : Option ℕ) → Turns old by → IsPackageLevel p.layout n
    inner _ _ (hidden h) = absurd (true≢false (sym exported ∙ h))
    inner _ _ (preceded level e lt) = level
    inner _ _ (repeated level e lt) = level

    pub not_global : (IsPackageLevel p.layout n → ⊥) → TellsTurned p n name None
    not_global other = λ old by seen turns. other (inner old by turns)

    repeats : (old : ℕ) (by : Option ℕ) → Turns old by → (e : ℕ) × IsExportedAs p.layout p.names name e
    repeats _ _ (hidden h) = absurd (true≢false (sym exported ∙ h))
    repeats _ _ (preceded {e} level is lt) = (e, is)
    repeats _ _ (repeated {e} level is lt) = (e, is)

    pub not_repeated : ((e : ℕ) → DoesExport p e → p.names e ≡ name → ⊥) → TellsTurned p n name None
    not_repeated none = λ old by seen turns. let e = repeats old by turns in none e.0 (exported_so e.0 e.1) e.1.named

    module _ (count : AllCount p.layout p.names) (can : CanRename p n name) (level : IsPackageLevel p.layout n) (e : ℕ) (seen : DoesExport p e)
        (named : p.names e ≡ name) where
      is_export : IsExportedAs p.layout p.names name e
      is_export = record { package_level = seen.package_level; counts = seen.counts; named = named; exported = exported }

      not_before : (a b : ℕ) → IsExportedAs p.layout p.names name a → IsExportedAs p.layout p.names name b → a < b → ⊥
      not_before a b h k lt =
          k.counts.first a h.counts.declares (h.named ∙ sym k.named) (inl (h.package_level ∙ sym k.package_level, lt))

      one_export : (a : ℕ) → IsExportedAs p.layout p.names name a → a ≡ e
      one_export a h = elim (cases_lt a e) [
        | inl lt ↦ absurd (not_before a e h is_export lt)
        | inr ge ↦ elim (cases_lt e a) [ inl lt ↦ absurd (not_before e a is_export h lt) | inr le ↦ omega (arith, ge, le) ]
      ]

      other : e ≡ n → ⊥
      other same = can.other_name (subst (λ k. p.names k ≡ name) same named)

      before : e < n → (old : ℕ) (by : Option ℕ) → Turns old by → old ≡ n
      before lt _ _ (hidden h) = refl
      before lt _ _ (preceded inside k less) = refl
      before lt _ _ (repeated {e = a} inside k less) = let same : a ≡ e = one_export a k in absurd (omega (arith, same, less, lt))

      behind : n < e → (old : ℕ) (by : Option ℕ) → Turns old by → old ≡ e
      behind lt _ _ (hidden h) = absurd (true≢false (sym exported ∙ h))
      behind lt _ _ (preceded {e = a} inside k less) = let same : a ≡ e = one_export a k in absurd (omega (arith, same, less, lt))
      behind lt _ _ (repeated {e = a} inside k less) = one_export a k

      pub later_turns : TellsTurned p n name (Some (later_of n e))
      later_turns =
          cond_both (nat_lt e n) (record { declaration = n; by = Some e }) (record { declaration = e; by = Some n })
          (λ (t : TurnedUses). TellsTurned p n name (Some t))
          (λ is. let lt : e < n = ltb-true e n is in (preceded level is_export lt, λ old by also turns. before lt old by turns))
          (λ is. let ge : n ≤ e = ltb-false e n is in
          let lt : n < e = after ge in (repeated level is_export lt, λ old by also turns. behind lt old by turns))
        where
          after : n ≤ e → n < e
          after ge = elim (cases_lt n e) [ inl lt ↦ lt | inr le ↦ (let same : e ≡ n = omega (arith, ge, le) in absurd (other same)) ]

-- what captures counts
pub turned_counts : (p : Package) (n : ℕ) (name : List ℕ) → CanRename p n name → AllCount p.layout p.names → (t : TurnedUses) →
    TellsTurned p n name (Some t) → CountsIfAny p t.by
turned_counts p n name can count t tells = by_turn t.declaration t.by tells.0
  where
    by_turn : (old : ℕ) (by : Option ℕ) → TurnsBehind p.layout p.names n name old by → CountsIfAny p by
    by_turn _ _ (hidden h) = tt
    by_turn _ _ (preceded {e} level is lt) = record { within = omega (arith, lt, can.within); counts = is.counts }
    by_turn _ _ (repeated level is lt) = record { within = can.within; counts = count n can.declares }
