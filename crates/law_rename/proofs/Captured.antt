-- The identifiers captured by the new names are those that the old names predict.
use Rattle.std.proofs.Common.{ℕ, ◌≡◌, inl, inr, List, sym, ◌∙◌, subst}
use Rattle.go_scope.specs.Table.{Precedes}
use Rattle.go_scope.specs.Bindings.{Layout, Names, IsLeftName, SameBlock, InScope, Declares, AllCount, BindsAt, IsUse, IsBoundTo, use_bound, own}
use Rattle.go_scope.proofs.Nesting.{Nested}
use Rattle.go_scope.proofs.Innermost.{IsFirstAt, same_not_nests, precedes_not, precedes_asym, precedes_trans, ordered, first_of_bound, bound_of_first}
use Rattle.go_scope.proofs.Uniqueness.{same_or_not, use_not_may, bound_once}
use Rattle.law_rename.specs.Renaming.{IsRenaming, IsCaptured, WouldAssign, to_renamed, to_other, WouldCapture, new_name, own_use, assigned}
use Rattle.law_rename.proofs.AfterRename.{after_d, after_same, after_bound, after_other, before_name, declares_other, declares_d, keeps_use, takes_use}
use Rattle.law_rename.proofs.AfterRename.{loses_use, keeps_own_use}
use Rattle.law_rename.proofs.Conflicts.{binds_named, some_first_before, use_after, old_declares, bound_by, assigned_first, own_assigned_first}

module _ (l : Layout) (nested : Nested l) (before after : Names) (d : ℕ) (y : List ℕ)
    (all : AllCount l before) (dec : Declares l before d) (fresh : before d ≡ y → ⊥) (ren : IsRenaming l before d y after) where
  declares_before : (x : ℕ) → Declares l after x → Declares l before x
  declares_before x dx = old_declares l nested before after d y all dec fresh ren x dx

  is_bound : (u c : ℕ) (name : List ℕ) → IsUse l before u → after u ≡ name → IsFirstAt l after name u c → IsBoundTo l after u c
  is_bound u c name i e f = bound_by l nested before after d y all dec fresh ren u c name (use_after l nested before after d y all dec fresh ren u i) e f

  -- a use of another declaration than d
  other_use : (u e c : ℕ) → IsUse l before u → BindsAt l before (before u) u e → (e ≡ d → ⊥) → (c ≡ e → ⊥) → IsBoundTo l after u c →
      BindsAt l after (after u) u c → WouldCapture l before d y u c
  other_use u e c i b apart other now x =
      let name : after u ≡ before u = after_bound l nested before after d y all dec ren u e (use_bound i b) apart in
      let first : IsFirstAt l before (before u) u e = first_of_bound l nested before all (before u) u e b in
      let not_kept : (before u ≡ y → InScope l d u → Precedes l d e → ⊥) → ⊥ = (λ h.
      other (bound_once l nested after u c e now (is_bound u e (before u) i name (keeps_use l nested before after d y all dec ren u e first apart h)))) in
      elim (same_or_not c d) [
        | inl p ↦
            let ny : before u ≡ y = sym name ∙ sym x.named ∙ after_same l nested before after d y all dec ren c p in
            let hd : InScope l d u = (let P : ℕ → Type 0 = λ v. InScope l v u in subst P p x.in_scope) in
            let found : Precedes l d e → WouldCapture l before d y u c = (λ q.
            let P : ℕ → Type 0 = λ v. WouldCapture l before d y u v in
            subst P (sym p) (new_name i ny (binds_named l nested before (before u) y u e ny b) hd q)) in
            elim (ordered l nested e d u b.counts.declares.may dec.may b.in_scope hd) [
              | inl q ↦ absurd (apart q)
              | inr o ↦ elim o [
                | inl q ↦ absurd (not_kept (λ n h r. precedes_asym l nested e d u b.counts.declares.may dec.may b.in_scope hd q r))
                | inr q ↦ found q
              ]
            ]
        | inr ne ↦ absurd (not_kept (λ ny hd q.
            let P : List ℕ → Type 0 = λ v. IsFirstAt l before v u e in
            ne (bound_once l nested after u c d now (is_bound u d y i (name ∙ ny)
            (takes_use l nested before after d y all dec ren u e (subst P ny first) hd q)))))
      ]

  -- a use of d
  renamed_use : (u c : ℕ) → IsUse l before u → BindsAt l before (before u) u d → (c ≡ d → ⊥) → IsBoundTo l after u c →
      BindsAt l after (after u) u c → WouldCapture l before d y u c
  renamed_use u c i b other now x =
      let name : after u ≡ y = ren.renamed u (use_bound i b) in
      let dc : Declares l before c = declares_before c x.counts.declares in
      let ny : before c ≡ y = before_name l nested before after d y all dec ren c x.counts.declares other ∙ x.named ∙ name in
      let one : (m : ℕ) → IsFirstAt l before y u m → Precedes l m d → m ≡ c = (λ m f q.
      bound_once l nested after u m c (is_bound u m y i name (loses_use l nested before after d y all dec ren u m f b.in_scope q)) now) in
      let not_kept : ((z : ℕ) → Declares l before z → before z ≡ y → InScope l z u → Precedes l z d → ⊥) → ⊥ = (λ h.
      other (bound_once l nested after u c d now (is_bound u d y i name (keeps_own_use l nested before after d y all dec ren u b.in_scope h)))) in
      let not_before_c : Precedes l d c → ⊥ = (λ q. not_kept (λ z dz nz hz r.
      some_first_before l nested before y u d dec.may b.in_scope (λ m f s.
      let P : ℕ → Type 0 = λ v. Precedes l v d in
      precedes_asym l nested d c u dec.may dc.may b.in_scope x.in_scope q (subst P (one m f s) s)) z (dz, nz, hz) r)) in
      let comes : Precedes l c d = elim (ordered l nested c d u dc.may dec.may x.in_scope b.in_scope) [
        | inl p ↦ absurd (other p)
        | inr o ↦ elim o [ inl q ↦ q | inr q ↦ absurd (not_before_c q) ]
      ] in
      let not_before : (z : ℕ) → Declares l before z → before z ≡ y → InScope l z u → Precedes l z c → ⊥ = (λ z dz nz hz r.
      some_first_before l nested before y u c dc.may x.in_scope (λ m f s.
      let q : Precedes l m d = precedes_trans l nested m c d u f.declares.may dc.may dec.may f.in_scope x.in_scope b.in_scope s comes in
      let P : ℕ → Type 0 = λ v. Precedes l v c in
      precedes_not l nested c (subst P (one m f q) s)) z (dz, nz, hz) r) in
      own_use i b (bound_of_first l nested before y u c (record {
        declares = dc;
        named = ny;
        in_scope = x.in_scope;
        precedes = λ z dz nz hz. elim (ordered l nested c z u dc.may dz.may x.in_scope hz) [
          | inl p ↦ inl (sym p)
          | inr o ↦ elim o [ inl q ↦ inr q | inr q ↦ absurd (not_before z dz nz hz q) ]
        ];
      })) comes

  -- a left name of `:=` that is d
  assigned_d : (c : ℕ) → IsLeftName l d → (Declares l after d → ⊥) → (c ≡ d → ⊥) → IsBoundTo l after d c → BindsAt l after (after d) d c →
      WouldAssign l before d y d c
  assigned_d c left ceased other now x =
      let dc : Declares l before c = declares_before c x.counts.declares in
      let ny : before c ≡ y = before_name l nested before after d y all dec ren c x.counts.declares other ∙ x.named ∙
      after_d l nested before after d y all dec ren in
      elim (nested.direct d c left dc.may x.in_scope) [
        | inl s ↦ to_other dc ny left s x.in_scope
        | inr n ↦ absurd (ceased (declares_d l nested before after d y all dec ren (λ z dz nz l2 s hz.
            let bound : IsBoundTo l after d z = use_bound (inr (left, ceased)) (binds_named l nested after y (after d) d z
            (sym (after_d l nested before after d y all dec ren))
            (bound_of_first l nested after y d z (own_assigned_first l nested before after d y all dec fresh ren z dz nz left s hz))) in
            let same : z ≡ c = bound_once l nested after d z c bound now in
            let P : ℕ → Type 0 = λ v. SameBlock l v d in
            same_not_nests l d c (sym (subst P same s)) n)))
      ]

  -- another left name of `:=`
  assigned_other : (u c : ℕ) → Declares l before u → (u ≡ d → ⊥) → IsLeftName l u → (Declares l after u → ⊥) → IsBoundTo l after u c →
      BindsAt l after (after u) u c → WouldAssign l before d y u c
  assigned_other u c du apart left ceased now x =
      let name : after u ≡ before u = after_other l nested before after d y all dec ren u du apart in
      let not_kept : (before u ≡ y → IsLeftName l u → SameBlock l d u → InScope l d u → ⊥) → ⊥ = (λ h.
      ceased (declares_other l nested before after d y all dec ren u du apart h)) in
      elim (same_or_not c d) [
        | inl p ↦
            let hd : InScope l d u = (let P : ℕ → Type 0 = λ v. InScope l v u in subst P p x.in_scope) in
            let ny : before u ≡ y = sym name ∙ sym x.named ∙ after_same l nested before after d y all dec ren c p in
            let P : ℕ → Type 0 = λ v. WouldAssign l before d y u v in
            subst P (sym p) (elim (nested.direct u d left dec.may hd) [
              | inl s ↦ to_renamed du ny left s hd
              | inr n ↦ absurd (not_kept (λ n2 l2 s h2. same_not_nests l u d (sym s) n))
            ])
        | inr ne ↦ absurd (not_kept (λ ny l2 s hd. ne (bound_once l nested after u c d now
            (use_bound (inr (left, ceased)) (binds_named l nested after y (after u) u d (sym (name ∙ ny))
            (bound_of_first l nested after y u d (assigned_first l nested before after d y all dec fresh ren u du ny left s hd)))))))
      ]

  by_own : (u c : ℕ) → Declares l before u → (c ≡ u → ⊥) → IsBoundTo l after u c → WouldCapture l before d y u c
  by_own u c du other (own p k) = absurd (other (sym p))
  by_own u c du other (use_bound (inl i) x) = absurd (use_not_may (l.role u) i du.may)
  by_own u c du other (use_bound (inr i) x) = assigned (elim (same_or_not u d) [
    | inl p ↦
        let P : ℕ → Type 0 = λ v. IsLeftName l v → (Declares l after v → ⊥) → (c ≡ v → ⊥) → IsBoundTo l after v c → BindsAt l after (after v) v c →
        WouldAssign l before d y v c in
        subst P (sym p) (assigned_d c) i.0 i.1 other (use_bound (inr i) x) x
    | inr apart ↦ assigned_other u c du apart i.0 i.1 (use_bound (inr i) x) x
  ])

  by_use : (u e c : ℕ) → IsUse l before u → BindsAt l before (before u) u e → (c ≡ e → ⊥) → IsBoundTo l after u c → WouldCapture l before d y u c
  by_use u e c i b other (own p k) =
      let P : ℕ → Type 0 = λ v. Declares l before v in
      let du : Declares l before u = subst P (sym p) (declares_before c k.declares) in
      absurd (elim i [ inl j ↦ use_not_may (l.role u) j du.may | inr j ↦ j.1 du ])
  by_use u e c i b other (use_bound j x) = elim (same_or_not e d) [
    | inl p ↦
        let P : ℕ → Type 0 = λ v. BindsAt l before (before u) u v in
        renamed_use u c i (subst P p b) (λ q. other (q ∙ sym p)) (use_bound j x) x
    | inr apart ↦ other_use u e c i b apart other (use_bound j x) x
  ]

  by_old : (u e c : ℕ) → IsBoundTo l before u e → (c ≡ e → ⊥) → IsBoundTo l after u c → WouldCapture l before d y u c
  by_old u e c (use_bound i b) other now = by_use u e c i b other now
  by_old u e c (own p k) other now =
      let P : ℕ → Type 0 = λ v. Declares l before v in by_own u c (subst P (sym p) k.declares) (λ q. other (q ∙ p)) now

  pub told : (u c : ℕ) → IsCaptured l before after u c → WouldCapture l before d y u c
  told u c k = by_old u k.old c k.was k.other k.now_bound
