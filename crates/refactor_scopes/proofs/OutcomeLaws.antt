-- What a rename does to declaring identifiers and to uses, by the old names.
use Rattle.std.proofs.Common.{ℕ, ◌≡◌, inl, inr, List, refl, sym, subst, ◌∙◌}
use Rattle.go_scope.specs.Bindings.{Layout, Names, Declares, MayDeclare, AllCount, BindsAt, IsLeftName, SameBlock, InScope, IsUse, Displaces}
use Rattle.go_scope.specs.Bindings.{IsBoundTo, use_bound, own as itself}
use Rattle.go_scope.specs.Table.{Precedes}
use Rattle.go_scope.proofs.Nesting.{Nested}
use Rattle.go_scope.proofs.Innermost.{IsFirstAt, binds_once, first_of_bound, precedes_trans}
use Rattle.law_rename.specs.Renaming.{to_renamed, to_other, WouldCapture, new_name, own_use, assigned, WouldLose, repeats, own_repeats}
use Rattle.law_rename.specs.Renaming.{HasNoConflictAt}
use Rattle.law_rename.proofs.Conflicts.{own_is_no_use, binds_named}
use Rattle.refactor_scopes.specs.Conflicts.{IsDisplacer, IsUseInScopes, WouldTake}

module _ (l : Layout) (nested : Nested l) (names : Names) (d : ℕ) (y : List ℕ) where
  block_of_left : (a b : ℕ) → IsLeftName l b → Displaces l a b → SameBlock l a b
  block_of_left a b left (inl s) = s.0
  block_of_left a b left (inr p) = absurd (nested.left_inner b left p.1)

  -- a use is bound to a declaration by its name
  pub binds_use : (u e : ℕ) → IsUse l names u → IsBoundTo l names u e → BindsAt l names (names u) u e
  binds_use u e uses (use_bound i b) = b
  binds_use u e uses (itself same counts) = absurd (own_is_no_use l nested names u (let P : ℕ → Type 0 = λ v. Declares l names v in subst P (sym same)
      counts.declares) uses)

  -- another declaration of the new name

  pub captured_other : (e : ℕ) → Declares l names e → names e ≡ y → Displaces l d e → IsLeftName l e × InScope l d e → WouldCapture l names d y e d
  captured_other e de ny h k = assigned (to_renamed de ny k.0 (block_of_left d e k.0 h) k.1)

  pub lost_other : (e : ℕ) → Declares l names e → names e ≡ y → Displaces l d e → (IsLeftName l e × InScope l d e → ⊥) → WouldLose l names d y e
  lost_other e de ny h never = repeats de ny h (λ left hu. never (left, hu))

  other_capture : MayDeclare l d → (e : ℕ) → Declares l names e → (e ≡ d → ⊥) → (Displaces l d e → ⊥) → (c : ℕ) → WouldCapture l names d y e c → ⊥
  other_capture md e de other never c (new_name i ny b hd q) = own_is_no_use l nested names e de i
  other_capture md e de other never c (own_use i b be q) = own_is_no_use l nested names e de i
  other_capture md e de other never c (assigned (to_renamed de' ny left s he)) = never (inl (s, nested.earlier d e md left s he))
  other_capture md e de other never c (assigned (to_other de' ny left s he)) = other refl

  other_loss : (e : ℕ) → (e ≡ d → ⊥) → (Displaces l d e → ⊥) → WouldLose l names d y e → ⊥
  other_loss e other never (repeats de ny p still) = never p
  other_loss e other never (own_repeats de ny p still) = other refl

  pub kept_other : MayDeclare l d → (e : ℕ) → Declares l names e → (e ≡ d → ⊥) → (Displaces l d e → ⊥) → HasNoConflictAt l names d y e
  kept_other md e de other never = record { not_captured = other_capture md e de other never; not_lost = other_loss e other never }

  -- the renamed declaration itself

  pub captured_own : (z : ℕ) → IsDisplacer l names d y z → IsLeftName l d × InScope l z d → WouldCapture l names d y d z
  captured_own z h k = assigned (to_other h.declares h.named k.0 (block_of_left z d k.0 h.displaces) k.1)

  pub lost_own : (z : ℕ) → IsDisplacer l names d y z → (IsLeftName l d × InScope l z d → ⊥) → WouldLose l names d y d
  lost_own z h never = own_repeats h.declares h.named h.displaces (λ left hu. never (left, hu))

  own_capture : (u : ℕ) → u ≡ d → Declares l names d → (names d ≡ y → ⊥) → ((z : ℕ) → IsDisplacer l names d y z → ⊥) → (c : ℕ) →
      WouldCapture l names d y u c → ⊥
  own_capture u same de fresh never c (new_name i ny b hd q) =
      own_is_no_use l nested names u (let P : ℕ → Type 0 = λ v. Declares l names v in subst P (sym same) de) i
  own_capture u same de fresh never c (own_use i b be q) =
      own_is_no_use l nested names u (let P : ℕ → Type 0 = λ v. Declares l names v in subst P (sym same) de) i
  own_capture u same de fresh never c (assigned (to_renamed de' ny left s he)) = fresh (let P : ℕ → Type 0 = λ v. names v ≡ y in subst P same ny)
  own_capture u same de fresh never c (assigned (to_other de' ny left s he)) =
      never c (record { declares = de'; named = ny; displaces = inl (s, nested.earlier c d de'.may left s he) })

  own_loss : (u : ℕ) → u ≡ d → (names d ≡ y → ⊥) → ((z : ℕ) → IsDisplacer l names d y z → ⊥) → WouldLose l names d y u → ⊥
  own_loss u same fresh never (repeats de ny p still) = fresh (let P : ℕ → Type 0 = λ v. names v ≡ y in subst P same ny)
  own_loss u same fresh never (own_repeats {e = e} de ny p still) = never e (record { declares = de; named = ny; displaces = p })

  pub kept_own : Declares l names d → (names d ≡ y → ⊥) → ((z : ℕ) → IsDisplacer l names d y z → ⊥) → HasNoConflictAt l names d y d
  kept_own de fresh never = record { not_captured = own_capture d refl de fresh never; not_lost = own_loss d refl fresh never }

  -- what neither declares nor is a use

  use_loss : (u : ℕ) → (u ≡ d → ⊥) → (Declares l names u → ⊥) → WouldLose l names d y u → ⊥
  use_loss u other never (repeats de ny p still) = never de
  use_loss u other never (own_repeats de ny p still) = other refl

  none_capture : (u : ℕ) → (u ≡ d → ⊥) → (Declares l names u → ⊥) → (IsUse l names u → ⊥) → (c : ℕ) → WouldCapture l names d y u c → ⊥
  none_capture u other never idle c (new_name i ny b hd q) = idle i
  none_capture u other never idle c (own_use i b be q) = idle i
  none_capture u other never idle c (assigned (to_renamed de ny left s he)) = never de
  none_capture u other never idle c (assigned (to_other de ny left s he)) = other refl

  pub kept_none : (u : ℕ) → (u ≡ d → ⊥) → (Declares l names u → ⊥) → (IsUse l names u → ⊥) → HasNoConflictAt l names d y u
  kept_none u other never idle = record { not_captured = none_capture u other never idle; not_lost = use_loss u other never }

  -- what has another name than the new one, and is not bound to what is renamed

  stranger_capture : (u : ℕ) → (u ≡ d → ⊥) → (names u ≡ y → ⊥) → (IsUseInScopes l names d u → ⊥) → (c : ℕ) → WouldCapture l names d y u c → ⊥
  stranger_capture u other apart not_own c (new_name i ny b hd q) = apart ny
  stranger_capture u other apart not_own c (own_use i b be q) = not_own (record { is_use = i; binds = b })
  stranger_capture u other apart not_own c (assigned (to_renamed de ny left s he)) = apart ny
  stranger_capture u other apart not_own c (assigned (to_other de ny left s he)) = other refl

  stranger_loss : (u : ℕ) → (u ≡ d → ⊥) → (names u ≡ y → ⊥) → WouldLose l names d y u → ⊥
  stranger_loss u other apart (repeats de ny p still) = apart ny
  stranger_loss u other apart (own_repeats de ny p still) = other refl

  pub kept_stranger : (u : ℕ) → (u ≡ d → ⊥) → (names u ≡ y → ⊥) → (IsUseInScopes l names d u → ⊥) → HasNoConflictAt l names d y u
  kept_stranger u other apart not_own = record { not_captured = stranger_capture u other apart not_own; not_lost = stranger_loss u other apart }

-- uses
module _ (l : Layout) (nested : Nested l) (names : Names) (d : ℕ) (y : List ℕ) (dec : Declares l names d) (fresh : names d ≡ y → ⊥) where
  not_itself : (u : ℕ) → IsUse l names u → u ≡ d → ⊥
  not_itself u uses same = own_is_no_use l nested names u (let P : ℕ → Type 0 = λ v. Declares l names v in subst P (sym same) dec) uses

  not_declaring : (u : ℕ) → IsUse l names u → Declares l names u → ⊥
  not_declaring u uses de = own_is_no_use l nested names u de uses

  kept_by : (u : ℕ) → IsUse l names u → ((c : ℕ) → WouldCapture l names d y u c → ⊥) → HasNoConflictAt l names d y u
  kept_by u uses free = record { not_captured = free; not_lost = use_loss l nested names d y u (not_itself u uses) (not_declaring u uses) }

  unbound : (u : ℕ) → IsUse l names u → ((e : ℕ) → BindsAt l names (names u) u e → ⊥) → (c : ℕ) → WouldCapture l names d y u c → ⊥
  unbound u uses none c (new_name {e = e} i ny b hd q) = none e (binds_named l nested names y (names u) u e (sym ny) b)
  unbound u uses none c (own_use i b be q) = none d b
  unbound u uses none c (assigned (to_renamed de ny left s he)) = not_declaring u uses de
  unbound u uses none c (assigned (to_other de ny left s he)) = not_itself u uses refl

  pub kept_unbound : (u : ℕ) → IsUse l names u → ((e : ℕ) → BindsAt l names (names u) u e → ⊥) → HasNoConflictAt l names d y u
  kept_unbound u uses none = kept_by u uses (unbound u uses none)

  not_between : (u : ℕ) → IsUse l names u → names u ≡ y → (old : ℕ) → BindsAt l names (names u) u old → (InScope l d u × Precedes l d old → ⊥) →
      (c : ℕ) → WouldCapture l names d y u c → ⊥
  not_between u uses named old was never c (new_name {e = e} i ny b hd q) =
      let P : ℕ → Type 0 = λ v. Precedes l d v in
      never (hd, subst P (binds_once l nested names (names u) u e old (binds_named l nested names y (names u) u e (sym ny) b) was) q)
  not_between u uses named old was never c (own_use i b be q) = fresh (b.named ∙ named)
  not_between u uses named old was never c (assigned (to_renamed de ny left s he)) = not_declaring u uses de
  not_between u uses named old was never c (assigned (to_other de ny left s he)) = not_itself u uses refl

  -- a use of the new name

  pub kept_between : (u : ℕ) → IsUse l names u → names u ≡ y → (old : ℕ) → BindsAt l names (names u) u old → (InScope l d u × Precedes l d old → ⊥) →
      HasNoConflictAt l names d y u
  kept_between u uses named old was never = kept_by u uses (not_between u uses named old was never)

  pub captured_between : (u : ℕ) → IsUse l names u → names u ≡ y → (old : ℕ) → BindsAt l names (names u) u old → InScope l d u × Precedes l d old →
      WouldCapture l names d y u d
  captured_between u uses named old was h = new_name uses named (binds_named l nested names (names u) y u old named was) h.0 h.1

  -- a use of what is renamed

  not_taken : (u : ℕ) → IsUseInScopes l names d u → ((c : ℕ) → WouldTake l names d y u c → ⊥) → (c : ℕ) → WouldCapture l names d y u c → ⊥
  not_taken u own none c (new_name i ny b hd q) = fresh (own.binds.named ∙ ny)
  not_taken u own none c (own_use i b be q) =
      none c (record { declares = be.counts.declares; named = be.named; in_scope = be.in_scope; precedes = q })
  not_taken u own none c (assigned (to_renamed de ny left s he)) = not_declaring u own.is_use de
  not_taken u own none c (assigned (to_other de ny left s he)) = not_itself u own.is_use refl

  pub kept_own_use : (u : ℕ) → IsUseInScopes l names d u → ((c : ℕ) → WouldTake l names d y u c → ⊥) → HasNoConflictAt l names d y u
  kept_own_use u own none = kept_by u own.is_use (not_taken u own none)

  before_renamed : (u c e : ℕ) → IsUseInScopes l names d u → WouldTake l names d y u c → IsFirstAt l names y u e → Precedes l e d
  before_renamed u c e own takes first = elim (first.precedes c takes.declares takes.named takes.in_scope) [
    | inl same ↦ (let P : ℕ → Type 0 = λ v. Precedes l v d in subst P same takes.precedes)
    | inr q ↦ precedes_trans l nested e c d u first.declares.may takes.declares.may dec.may first.in_scope takes.in_scope own.binds.in_scope q takes.precedes
  ]

  pub captured_own_use : AllCount l names → (u c e : ℕ) → IsUseInScopes l names d u → WouldTake l names d y u c → BindsAt l names y u e →
      WouldCapture l names d y u e
  captured_own_use all u c e own takes b =
      own_use own.is_use own.binds b (before_renamed u c e own takes (first_of_bound l nested names all y u e b))
