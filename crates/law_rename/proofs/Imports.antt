-- Where no import is unused, imports stay where all else does; and none becomes unused.
use Rattle.std.proofs.Common.{ℕ, ◌≡◌, ◌⊎◌, inl, inr, List, true, refl, sym, ◌∙◌, subst}
use Rattle.go_scope.specs.declared.model.Role.{Role}
use Rattle.go_scope.specs.declared.model.Role.TheVariants.{Use, Declaring, LeftName, Implied, NotLexical}
use Rattle.go_scope.specs.declared.model.Block.{Block}
use Rattle.go_scope.specs.declared.model.Block.TheVariants.{Universe, Package, File, Inner}
use Rattle.go_scope.specs.Bindings.{Layout, Names, IsImport, Declares, AllCount, BindsAt, IsUse, IsBoundTo, use_bound, own, is_use}
use Rattle.go_scope.specs.Bindings.{block_of}
use Rattle.go_scope.proofs.Nesting.{Nested}
use Rattle.go_scope.proofs.Innermost.{displaces_precedes, displaces_holds, bound_of_first}
use Rattle.go_scope.proofs.Uniqueness.{bound_once}
use Rattle.law_rename.specs.Renaming.{IsRenaming, IsLost, IsCaptured, KeepsScopeBindings, KeepsOtherBindings, AreImportsUsed, to_renamed, to_other}
use Rattle.law_rename.specs.Renaming.{WouldCapture, new_name, own_use, assigned, WouldLose, repeats, own_repeats}
use Rattle.law_rename.proofs.Conflicts.{own_is_no_use, binds_named, some_first_before, use_after, old_declares, captures, loses, keeps}

use_block : (r : Role) (f : ℕ) → is_use r ≡ true → block_of r ≡ File f → ⊥
use_block Use f u e = cc
use_block (Declaring b s) f u e = cc
use_block (LeftName b s) f u e = cc
use_block (Implied b s) f u e = cc
use_block (NotLexical p) f u e = cc

file_or_not : (b : Block) → ((f : ℕ) × (b ≡ File f)) ⊎ ((f : ℕ) × (b ≡ File f) → ⊥)
file_or_not Universe = inr (λ x. let e : Universe ≡ File x.0 = x.1 in cc)
file_or_not Package = inr (λ x. let e : Package ≡ File x.0 = x.1 in cc)
file_or_not (File f) = inl (f, refl)
file_or_not (Inner f a b) = inr (λ x. let e : Inner f a b ≡ File x.0 = x.1 in cc)

module _ (l : Layout) (nested : Nested l) (before after : Names) (d : ℕ) (y : List ℕ)
    (all : AllCount l before) (dec : Declares l before d) (fresh : before d ≡ y → ⊥) (ren : IsRenaming l before d y after) where
  use_no_import : (u : ℕ) → IsUse l before u → IsImport l u → ⊥
  use_no_import u (inl i) m = use_block (l.role u) m.0 i m.1
  use_no_import u (inr i) m = nested.left_inner u i.0 m

  captured_no_import : (u c : ℕ) → WouldCapture l before d y u c → IsImport l u → ⊥
  captured_no_import u c (new_name i ny b hd q) m = use_no_import u i m
  captured_no_import u c (own_use i b be q) m = use_no_import u i m
  captured_no_import u c (assigned (to_renamed de ny left s he)) m = nested.left_inner u left m
  captured_no_import u c (assigned (to_other de ny left s he)) m = nested.left_inner u left m

  none_captured : KeepsOtherBindings l before after → (u c : ℕ) → WouldCapture l before d y u c → ⊥
  none_captured keep u c w =
      let k : IsCaptured l before after u c = captures l nested before after d y all dec fresh ren u c w in
      k.other (bound_once l nested after u c k.old k.now_bound (keep u k.old (captured_no_import u c w) k.was))

  -- a use of what is declared
  uses_of : (u e : ℕ) → IsUse l before u → IsBoundTo l before u e → BindsAt l before (before u) u e
  uses_of u e i (use_bound j b) = b
  uses_of u e i (own p c) = absurd (own_is_no_use l nested before u (let P : ℕ → Type 0 = λ v. Declares l before v in subst P (sym p) c.declares) i)

  none_lost : AreImportsUsed l before → ((u c : ℕ) → WouldCapture l before d y u c → ⊥) → (u : ℕ) → WouldLose l before d y u → IsImport l u → ⊥
  none_lost used free u (repeats de ny disp still) m = used u m de (λ v i bound.
      let b : BindsAt l before (before v) v u = uses_of v u i bound in
      let named : before v ≡ y = sym b.named ∙ ny in
      free v d (new_name i named (binds_named l nested before (before v) y v u named b)
      (displaces_holds l nested d u v dec.may de.may disp b.in_scope) (displaces_precedes l nested d u disp)))
  none_lost used free u (own_repeats {e = e} de ny disp still) m = used d m dec (λ v i bound.
      let b : BindsAt l before (before v) v d = uses_of v d i bound in
      some_first_before l nested before y v d dec.may b.in_scope (λ k f q. free v k (own_use i b (bound_of_first l nested before y v k f) q))
      e (de, ny, displaces_holds l nested e d v de.may dec.may disp b.in_scope) (displaces_precedes l nested e d disp))

  pub imports_kept : AreImportsUsed l before → KeepsOtherBindings l before after → KeepsScopeBindings l before after
  imports_kept used keep u e b =
      let free : (v c : ℕ) → WouldCapture l before d y v c → ⊥ = none_captured keep in
      keeps l nested before after d y all dec fresh ren u e b (free u) (λ w. elim (file_or_not (block_of (l.role u))) [
        | inl m ↦ none_lost used free u w m
        | inr other ↦ let k : IsLost l before after u = loses l nested before after d y all dec fresh ren u w in
            k.bound_to_none k.old (keep u k.old other k.was)
      ])

  pub imports_used : AreImportsUsed l before → KeepsScopeBindings l before after → AreImportsUsed l after
  imports_used used keep i m di none = used i m (old_declares l nested before after d y all dec fresh ren i di)
      (λ u x b. none u (use_after l nested before after d y all dec fresh ren u x) (keep u i b))
