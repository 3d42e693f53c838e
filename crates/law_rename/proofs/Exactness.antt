-- A rename keeps bindings just where the old names tell no conflict.
use Rattle.std.proofs.Common.{ℕ, ◌≡◌, inl, inr, List, refl, sym, ◌∙◌, subst}
use Rattle.std.specs.Prelude.{◌↔◌}
use Rattle.std.specs.Str.{bytes_eq}
use Rattle.std.proofs.lemmas.Slice.Eq.{bytes_eq-Decides}
use Rattle.std.proofs.lemmas.Bool.{cases_Bool, true≢false}
use Rattle.go_scope.specs.Bindings.{Layout, Names, InScope, Declares, Counts, AllCount, BindsAt, IsUse, IsBoundTo, use_bound, own}
use Rattle.go_scope.proofs.Nesting.{Nested}
use Rattle.go_scope.proofs.Innermost.{IsFirstAt}
use Rattle.go_scope.proofs.Uniqueness.{same_or_not, bound_once}
use Rattle.law_rename.specs.Renaming.{IsRenaming, IsLost, IsCaptured, IsBoundAnew, AreUsesBound, KeepsScopeBindings, HasSameBindings, HasNoConflict}
use Rattle.law_rename.specs.Renaming.{HasNoConflictAt, WouldAssign, to_renamed, to_other, WouldCapture, WouldLose, WouldBind}
use Rattle.law_rename.proofs.AfterRename.{after_same, before_name, declares_other, declares_d}
use Rattle.law_rename.proofs.Conflicts.{own_is_no_use, binds_named, none_holds, use_after, is_d_after, y_after, y_before, old_declares}
use Rattle.law_rename.proofs.Conflicts.{bound_by, captures, loses, keeps}

-- what is not unequal is equal
same_number : (a b : ℕ) → ((a ≡ b → ⊥) → ⊥) → a ≡ b
same_number a b h = elim (same_or_not a b) [ inl e ↦ e | inr ne ↦ absurd (h ne) ]

pub same_bytes : (a b : List ℕ) → ((a ≡ b → ⊥) → ⊥) → a ≡ b
same_bytes a b h = elim (cases_Bool (bytes_eq a b)) [
  | inl same ↦ (bytes_eq-Decides a b).0 same
  | inr other ↦ absurd (h (λ e. true≢false (sym ((bytes_eq-Decides a b).1 e) ∙ other)))
]

module _ (l : Layout) (nested : Nested l) (before after : Names) (d : ℕ) (y : List ℕ)
    (all : AllCount l before) (dec : Declares l before d) (fresh : before d ≡ y → ⊥) (ren : IsRenaming l before d y after) where
  declares_before : (x : ℕ) → Declares l after x → Declares l before x
  declares_before x dx = old_declares l nested before after d y all dec fresh ren x dx

  captured : (u c : ℕ) → WouldCapture l before d y u c → IsCaptured l before after u c
  captured u c x = captures l nested before after d y all dec fresh ren u c x

  own_bound : (u : ℕ) → Declares l before u → IsBoundTo l before u u
  own_bound u du = own refl (all u du)

  pub counts_of_own : (u : ℕ) → IsBoundTo l after u u → Counts l after u
  counts_of_own u (use_bound i b) = b.counts
  counts_of_own u (own p c) = c

  -- at one identifier

  pub kept_at : (u e : ℕ) → IsBoundTo l before u e → HasNoConflictAt l before d y u → IsBoundTo l after u e
  kept_at u e b free = keeps l nested before after d y all dec fresh ren u e b free.not_captured free.not_lost

  pub free_at : (u e : ℕ) → IsBoundTo l before u e → IsBoundTo l after u e → HasNoConflictAt l before d y u
  free_at u e b now = record {
    not_captured = λ c x. let k : IsCaptured l before after u c = captured u c x in
        k.other (bound_once l nested after u c e k.now_bound now ∙ bound_once l nested before u e k.old b k.was);
    not_lost = λ x. (loses l nested before after d y all dec fresh ren u x).bound_to_none e now;
  }

  pub exact_at : (u e : ℕ) → IsBoundTo l before u e → IsBoundTo l after u e ↔ HasNoConflictAt l before d y u
  exact_at u e b = (free_at u e b, kept_at u e b)

  -- at all

  free_of_kept : KeepsScopeBindings l before after → HasNoConflict l before d y
  free_of_kept keep = λ u. record {
    not_captured = λ c x. let k : IsCaptured l before after u c = captured u c x in
        k.other (bound_once l nested after u c k.old k.now_bound (keep u k.old k.was));
    not_lost = λ x. let k : IsLost l before after u = loses l nested before after d y all dec fresh ren u x in
        k.bound_to_none k.old (keep u k.old k.was);
  }

  pub exact : KeepsScopeBindings l before after ↔ HasNoConflict l before d y
  exact = (free_of_kept, λ free u e b. kept_at u e b (free u))

  -- what is bound anew

  unbound_name : (u : ℕ) → WouldBind l before d y u → after u ≡ y
  unbound_name u w = ren.kept u (λ b. elim b [
    | use_bound i x ↦ w.unbound d (binds_named l nested before (before u) y u d w.named x)
    | own p c ↦ own_is_no_use l nested before u (let P : ℕ → Type 0 = λ v. Declares l before v in subst P (sym p) dec) w.uses
  ]) ∙ w.named

  binds_first : (u : ℕ) → WouldBind l before d y u → IsFirstAt l after y u d
  binds_first u w = record {
    declares = declares_d l nested before after d y all dec ren (λ z dz nz left s hz.
        none_holds l nested before y u w.unbound z (dz, nz, nested.shrinking z d u dz.may dec.may s (nested.earlier z d dz.may left s hz) w.in_scope));
    named = is_d_after l nested before after d y all dec fresh ren;
    in_scope = w.in_scope;
    precedes = λ z dz nz hz. elim (same_or_not z d) [
      | inl p ↦ inl p
      | inr apart ↦ absurd (none_holds l nested before y u w.unbound z
          (declares_before z dz, y_before l nested before after d y all dec fresh ren z dz nz apart, hz))
    ];
  }

  pub binds : (u : ℕ) → WouldBind l before d y u → IsBoundAnew l before after u d
  binds u w = record {
    was_unbound = λ e b. elim b [
      | use_bound i x ↦ w.unbound e (binds_named l nested before (before u) y u e w.named x)
      | own p c ↦ own_is_no_use l nested before u (let P : ℕ → Type 0 = λ v. Declares l before v in subst P (sym p) c.declares) w.uses
    ];
    now_bound = bound_by l nested before after d y all dec fresh ren u d y (use_after l nested before after d y all dec fresh ren u w.uses)
        (unbound_name u w) (binds_first u w);
  }

  was_use : KeepsScopeBindings l before after → (u : ℕ) → IsUse l after u → IsUse l before u
  was_use keep u (inl i) = inl i
  was_use keep u (inr i) = inr (i.0, λ du. i.1 (counts_of_own u (keep u u (own_bound u du))).declares)

  was_unbound_use : (u : ℕ) → ((e : ℕ) → IsBoundTo l before u e → ⊥) → IsUse l after u → IsUse l before u
  was_unbound_use u none (inl i) = inl i
  was_unbound_use u none (inr i) = inr (i.0, λ du. none u (own_bound u du))

  anew_use : (u c : ℕ) → ((e : ℕ) → IsBoundTo l before u e → ⊥) → IsUse l before u → BindsAt l after (after u) u c → (c ≡ d) × WouldBind l before d y u
  anew_use u c none i x =
      let never : (k : ℕ) → BindsAt l before (before u) u k → ⊥ = λ k b. none k (use_bound i b) in
      let kept : after u ≡ before u = ren.kept u (none d) in
      let is_d : c ≡ d = elim (same_or_not c d) [
        | inl p ↦ p
        | inr apart ↦ absurd (none_holds l nested before (before u) u never c
            (declares_before c x.counts.declares, before_name l nested before after d y all dec ren c x.counts.declares apart ∙ x.named ∙ kept, x.in_scope))
      ] in
      let named : before u ≡ y = sym kept ∙ sym x.named ∙ after_same l nested before after d y all dec ren c is_d in (
        is_d,
        record {
          uses = i;
          named = named;
          unbound = λ k b. never k (binds_named l nested before y (before u) u k (sym named) b);
          in_scope = let P : ℕ → Type 0 = λ v. InScope l v u in subst P is_d x.in_scope;
        },
      )

  anew_of : (u c : ℕ) → ((e : ℕ) → IsBoundTo l before u e → ⊥) → IsBoundTo l after u c → (c ≡ d) × WouldBind l before d y u
  anew_of u c none (use_bound i x) = anew_use u c none (was_unbound_use u none i) x
  anew_of u c none (own p k) = absurd (none c (own p (all c (declares_before c k.declares))))

  anew_at_d : (u c : ℕ) → (c ≡ d) × WouldBind l before d y u → IsBoundAnew l before after u c
  anew_at_d u c h = let P : ℕ → Type 0 = λ v. IsBoundAnew l before after u v in subst P (sym h.0) (binds u h.1)

  pub exact_anew : (u c : ℕ) → IsBoundAnew l before after u c ↔ ((c ≡ d) × WouldBind l before d y u)
  exact_anew u c = ((λ k. anew_of u c k.was_unbound k.now_bound), anew_at_d u c)

  -- where what was bound is kept and nothing would be bound, a binding afterwards was one before, so far as that is not impossible
  not_unbound : KeepsScopeBindings l before after → ((u : ℕ) → WouldBind l before d y u → ⊥) → (u e : ℕ) → IsUse l before u →
      BindsAt l after (after u) u e → (BindsAt l before (before u) u e → ⊥) → ⊥
  not_unbound keep none u e i x never_before =
      let now : IsBoundTo l after u e = use_bound (use_after l nested before after d y all dec fresh ren u i) x in
      let never : (k : ℕ) → IsBoundTo l before u k → ⊥ = (λ k b. never_before (elim b [
        | use_bound j bk ↦
            let same : k ≡ e = bound_once l nested after u k e (keep u k (use_bound j bk)) now in
            (let P : ℕ → Type 0 = λ v. BindsAt l before (before u) u v in subst P same bk)
        | own p c ↦ absurd (own_is_no_use l nested before u (let P : ℕ → Type 0 = λ v. Declares l before v in subst P (sym p) c.declares) i)
      ])) in
      none u (anew_of u e never now).1

  same_back : KeepsScopeBindings l before after → ((u : ℕ) → WouldBind l before d y u → ⊥) → (u e : ℕ) → IsBoundTo l after u e → IsBoundTo l before u e
  same_back keep none u e (own p c) = own p (all e (declares_before e c.declares))
  same_back keep none u e (use_bound i x) =
      let j : IsUse l before u = was_use keep u i in
      let stable : (BindsAt l before (before u) u e → ⊥) → ⊥ = not_unbound keep none u e j x in
      use_bound j (record {
        counts = all e (declares_before e x.counts.declares);
        named = same_bytes (before e) (before u) (λ ne. stable (λ b. ne b.named));
        in_scope = x.in_scope;
        innermost = λ f cf nf hf inside. same_number f e (λ ne. stable (λ b. ne (b.innermost f cf nf hf inside)));
      })

  pub exact_both : HasSameBindings l before after ↔ (HasNoConflict l before d y × ((u : ℕ) → WouldBind l before d y u → ⊥))
  exact_both = (
    (λ same. (exact.0 (λ u e b. (same u e).0 b), λ u w. let b : IsBoundAnew l before after u d = binds u w in b.was_unbound d ((same u d).1 b.now_bound))),
    (λ h u e. let keep : KeepsScopeBindings l before after = exact.1 h.0 in (keep u e, same_back keep h.1 u e)),
  )

  -- what declares

  ceases : (x c : ℕ) → WouldAssign l before d y x c → Declares l after x → ⊥
  ceases x c (to_renamed de ny left s he) now = now.is_new left d dec.may s
      (is_d_after l nested before after d y all dec fresh ren ∙ sym (y_after l nested before after d y all dec fresh ren x de ny)) he
  ceases x c (to_other de ny left s he) now = now.is_new left c de.may s
      (y_after l nested before after d y all dec fresh ren c de ny ∙ sym (is_d_after l nested before after d y all dec fresh ren)) he

  pub still_declares : (x : ℕ) → Declares l before x → Declares l after x ↔ ((c : ℕ) → WouldAssign l before d y x c → ⊥)
  still_declares x dx = (
    (λ now c w. ceases x c w now),
    (λ none. elim (same_or_not x d) [
      | inl p ↦ (let P : ℕ → Type 0 = λ v. ((c : ℕ) → WouldAssign l before d y v c → ⊥) → Declares l after v in
          subst P (sym p) (λ never. declares_d l nested before after d y all dec ren (λ z dz nz left s hz. never z (to_other dz nz left s hz))) none)
      | inr apart ↦ declares_other l nested before after d y all dec ren x dx apart (λ ny left s he. none d (to_renamed dx ny left s he))
    ]),
  )

  pub declares_same : KeepsScopeBindings l before after → (x : ℕ) → Declares l before x ↔ Declares l after x
  declares_same keep x = ((λ dx. (counts_of_own x (keep x x (own_bound x dx))).declares), declares_before x)

  pub uses_same : KeepsScopeBindings l before after → (u : ℕ) → IsUse l before u ↔ IsUse l after u
  uses_same keep u = (use_after l nested before after d y all dec fresh ren u, was_use keep u)

  pub all_count_after : KeepsScopeBindings l before after → AllCount l after
  all_count_after keep x dx = counts_of_own x (keep x x (own_bound x (declares_before x dx)))

  -- what is lost

  pub lost_only : (u : ℕ) → IsLost l before after u → (WouldLose l before d y u → ⊥) → ⊥
  lost_only u k safe = k.bound_to_none k.old (kept_at u k.old k.was (record {
    not_captured = λ c w. k.bound_to_none c (captured u c w).now_bound;
    not_lost = safe;
  }))

  -- the rename back

  back_name : (u : ℕ) → IsBoundTo l before u d → before u ≡ before d
  back_name u (use_bound i b) = sym b.named
  back_name u (own p c) = let P : ℕ → Type 0 = λ v. before u ≡ before v in subst P p refl

  pub back : HasSameBindings l before after → IsRenaming l after d (before d) before
  back same = record {
    renamed = λ u b. back_name u ((same u d).1 b);
    kept = λ u none. sym (ren.kept u (λ b. none ((same u d).0 b)));
  }

  -- where no use is bound to none

  pub none_bound_anew : AreUsesBound l before → (u : ℕ) → WouldBind l before d y u → ⊥
  none_bound_anew all_bound u w = all_bound u w.uses (binds u w).was_unbound

  pub exact_where_bound : AreUsesBound l before → HasSameBindings l before after ↔ HasNoConflict l before d y
  exact_where_bound all_bound = (
    (λ same. (exact_both.0 same).0),
    (λ free. exact_both.1 (free, none_bound_anew all_bound)),
  )

  pub uses_bound : AreUsesBound l before → KeepsScopeBindings l before after → AreUsesBound l after
  uses_bound all_bound keep u i none = all_bound u (was_use keep u i) (λ e b. none e (keep u e b))
