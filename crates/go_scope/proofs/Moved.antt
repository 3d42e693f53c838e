-- Bindings stay where positions move and keep their order.
use Rattle.std.proofs.Common.{ℕ, ◌≡◌, ◌<◌, ◌≤◌, inl, inr, Bool, true, refl, ap, sym, ◌∙◌, subst, arith}
use Rattle.std.specs.Prelude.{◌↔◌}
use Rattle.std.proofs.lemmas.Bool.{cases_order, cases_lt}
use Rattle.go_scope.specs.declared.model.Position.{Position}
use Rattle.go_scope.specs.declared.model.Block.{Block}
use Rattle.go_scope.specs.declared.model.Block.TheVariants.{Universe, Package, File, Inner}
use Rattle.go_scope.specs.declared.model.Role.{Role}
use Rattle.go_scope.specs.declared.model.Role.TheVariants.{Use, Declaring, LeftName, Implied, NotLexical}
use Rattle.go_scope.specs.Scopes.{scope_for, Holds, IsInside}
use Rattle.go_scope.specs.Bindings.{Layout, Names, IsBoundTo, block_of, start_of, scope_of, is_use, is_left_name, may_declare}
use Rattle.go_scope.specs.Moves.{moved_place, moved_block, moved_start, moved_role, HasKnownEnds, IsMoved}
use Rattle.go_scope.proofs.Alike.{Alike, alike_sym, bound_alike}

may_moved : (m : ℕ → ℕ → ℕ) (r : Role) → may_declare (moved_role m r) ≡ may_declare r
may_moved m Use = refl
may_moved m (Declaring b s) = refl
may_moved m (LeftName b s) = refl
may_moved m (Implied b s) = refl
may_moved m (NotLexical p) = refl

left_moved : (m : ℕ → ℕ → ℕ) (r : Role) → is_left_name (moved_role m r) ≡ is_left_name r
left_moved m Use = refl
left_moved m (Declaring b s) = refl
left_moved m (LeftName b s) = refl
left_moved m (Implied b s) = refl
left_moved m (NotLexical p) = refl

use_moved : (m : ℕ → ℕ → ℕ) (r : Role) → is_use (moved_role m r) ≡ is_use r
use_moved m Use = refl
use_moved m (Declaring b s) = refl
use_moved m (LeftName b s) = refl
use_moved m (Implied b s) = refl
use_moved m (NotLexical p) = refl

block_moved : (m : ℕ → ℕ → ℕ) (r : Role) → block_of (moved_role m r) ≡ moved_block m (block_of r)
block_moved m Use = refl
block_moved m (Declaring b s) = refl
block_moved m (LeftName b s) = refl
block_moved m (Implied b s) = refl
block_moved m (NotLexical p) = refl

start_moved : (m : ℕ → ℕ → ℕ) (r : Role) → start_of (moved_role m r) ≡ moved_start m (block_of r) (start_of r)
start_moved m Use = refl
start_moved m (Declaring b s) = refl
start_moved m (LeftName b s) = refl
start_moved m (Implied b s) = refl
start_moved m (NotLexical p) = refl

along : (b c : Bool) → b ≡ c → (c ≡ true) ↔ (b ≡ true)
along b c e = ((λ x. e ∙ x), (λ x. sym e ∙ x))

module _ (Known : ℕ → ℕ → Type 0) (m : ℕ → ℕ → ℕ) (up : (f a b : ℕ) → Known f a → Known f b → a < b → m f a < m f b) where
  less_back : (f a b : ℕ) → Known f a → Known f b → m f a < m f b → a < b
  less_back f a b ka kb h = elim (cases_order a b) [
    | inl e ↦ (let q : m f a ≡ m f b = ap (m f) e in absurd (omega arith))
    | inr o ↦ elim o [ inl lt ↦ lt | inr gt ↦ (let q : m f b < m f a = up f b a kb ka gt in absurd (omega arith)) ]
  ]

  le_moved : (f a b : ℕ) → Known f a → Known f b → a ≤ b → m f a ≤ m f b
  le_moved f a b ka kb h = elim (cases_lt (m f b) (m f a)) [
    | inl lt ↦ (let q : b < a = less_back f b a kb ka lt in absurd (omega arith))
    | inr ge ↦ ge
  ]

  le_back : (f a b : ℕ) → Known f a → Known f b → m f a ≤ m f b → a ≤ b
  le_back f a b ka kb h = elim (cases_lt b a) [
    | inl lt ↦ (let q : m f b < m f a = up f b a kb ka lt in absurd (omega arith))
    | inr ge ↦ ge
  ]

  same_back : (f a b : ℕ) → Known f a → Known f b → m f a ≡ m f b → a ≡ b
  same_back f a b ka kb h =
      let p : a ≤ b = le_back f a b ka kb (omega arith) in
      let q : b ≤ a = le_back f b a kb ka (omega arith) in omega arith

  blocks_back : (B C : Block) (s t : ℕ) → HasKnownEnds Known B s → HasKnownEnds Known C t → moved_block m B ≡ moved_block m C → B ≡ C
  blocks_back (Inner f a b) (Inner g c d) s t k j e = inner f g a b c d k.0 k.1 j.0 j.1 (cc) (cc) (cc)
    where
      inner : (f g a b c d : ℕ) → Known f a → Known f b → Known g c → Known g d → f ≡ g → m f a ≡ m g c → m f b ≡ m g d → Inner f a b ≡ Inner g c d
      inner f g a b c d ka kb kc kd p q r =
          let P : ℕ → Type 0 = λ h. Known h c in
          let Q : ℕ → Type 0 = λ h. Known h d in
          let x : a ≡ c = same_back f a c ka (subst P (sym p) kc) (q ∙ ap (λ h. m h c) (sym p)) in
          let y : b ≡ d = same_back f b d kb (subst Q (sym p) kd) (r ∙ ap (λ h. m h d) (sym p)) in
          cc
  blocks_back (Inner f a b) (File g) s t k j e = cc
  blocks_back (Inner f a b) Package s t k j e = cc
  blocks_back (Inner f a b) Universe s t k j e = cc
  blocks_back (File f) (Inner g c d) s t k j e = cc
  blocks_back (File f) (File g) s t k j e = e
  blocks_back (File f) Package s t k j e = cc
  blocks_back (File f) Universe s t k j e = cc
  blocks_back Package (Inner g c d) s t k j e = cc
  blocks_back Package (File g) s t k j e = cc
  blocks_back Package Package s t k j e = refl
  blocks_back Package Universe s t k j e = cc
  blocks_back Universe (Inner g c d) s t k j e = cc
  blocks_back Universe (File g) s t k j e = cc
  blocks_back Universe Package s t k j e = cc
  blocks_back Universe Universe s t k j e = refl

  holds_moved : (B : Block) (s : ℕ) (p : Position) → HasKnownEnds Known B s → Known p.file p.index →
      Holds (scope_for B s) p ↔ Holds (scope_for (moved_block m B) (moved_start m B s)) (moved_place m p)
  holds_moved (Inner f a b) s p k j = (
    (λ x. let P : ℕ → Type 0 = λ h. (m f s ≤ m h p.index) × (m h p.index < m f b) in
        let kp : Known f p.index = (let Q : ℕ → Type 0 = λ h. Known h p.index in subst Q x.0 j) in
        let y = subst P (sym x.0) (le_moved f s p.index k.2 kp x.1, up f p.index b kp k.1 x.2) in
        (x.0, y.0, y.1)),
    (λ x. let P : ℕ → Type 0 = λ h. (m f s ≤ m h p.index) × (m h p.index < m f b) in
        let kp : Known f p.index = (let Q : ℕ → Type 0 = λ h. Known h p.index in subst Q x.0 j) in
        let y = subst P x.0 (x.1, x.2) in
        (x.0, le_back f s p.index k.2 kp y.0, less_back f p.index b kp k.1 y.1)),
  )
  holds_moved (File f) s p k j = ((λ x. x), (λ x. x))
  holds_moved Package s p k j = ((λ x. x), (λ x. x))
  holds_moved Universe s p k j = ((λ x. x), (λ x. x))

  inside_moved : (B C : Block) (s t : ℕ) → HasKnownEnds Known B s → HasKnownEnds Known C t →
      IsInside (scope_for B s) (scope_for C t) ↔ IsInside (scope_for (moved_block m B) (moved_start m B s)) (scope_for (moved_block m C) (moved_start m C t))
  inside_moved (Inner f a b) (Inner g c d) s t k j = (
    (λ x. let P : ℕ → Type 0 = λ h. (m g t ≤ m h s) × (m h b ≤ m g d) in
        let Q : ℕ → Type 0 = λ h. Known h s × Known h b in
        let ks = subst Q x.0 (k.2, k.1) in
        let y = subst P (sym x.0) (le_moved g t s j.2 ks.0 x.1, le_moved g b d ks.1 j.1 x.2) in (x.0, y.0, y.1)),
    (λ x. let P : ℕ → Type 0 = λ h. (m g t ≤ m h s) × (m h b ≤ m g d) in
        let Q : ℕ → Type 0 = λ h. Known h s × Known h b in
        let ks = subst Q x.0 (k.2, k.1) in
        let y = subst P x.0 (x.1, x.2) in (x.0, le_back g t s j.2 ks.0 y.0, le_back g b d ks.1 j.1 y.1)),
  )
  inside_moved (Inner f a b) (File g) s t k j = ((λ x. x), (λ x. x))
  inside_moved (Inner f a b) Package s t k j = ((λ x. x), (λ x. x))
  inside_moved (Inner f a b) Universe s t k j = ((λ x. x), (λ x. x))
  inside_moved (File f) (Inner g c d) s t k j = ((λ x. x), (λ x. x))
  inside_moved (File f) (File g) s t k j = ((λ x. x), (λ x. x))
  inside_moved (File f) Package s t k j = ((λ x. x), (λ x. x))
  inside_moved (File f) Universe s t k j = ((λ x. x), (λ x. x))
  inside_moved Package (Inner g c d) s t k j = ((λ x. x), (λ x. x))
  inside_moved Package (File g) s t k j = ((λ x. x), (λ x. x))
  inside_moved Package Package s t k j = ((λ x. x), (λ x. x))
  inside_moved Package Universe s t k j = ((λ x. x), (λ x. x))
  inside_moved Universe (Inner g c d) s t k j = ((λ x. x), (λ x. x))
  inside_moved Universe (File g) s t k j = ((λ x. x), (λ x. x))
  inside_moved Universe Package s t k j = ((λ x. x), (λ x. x))
  inside_moved Universe Universe s t k j = ((λ x. x), (λ x. x))

package_moved : (m : ℕ → ℕ → ℕ) (B : Block) → (B ≡ Package) ↔ (moved_block m B ≡ Package)
package_moved m (Inner f a b) = ((λ e. cc), (λ e. cc))
package_moved m (File f) = ((λ e. e), (λ e. e))
package_moved m Package = ((λ e. e), (λ e. e))
package_moved m Universe = ((λ e. e), (λ e. e))

file_moved : (m : ℕ → ℕ → ℕ) (B : Block) → ((f : ℕ) × (B ≡ File f)) ↔ ((f : ℕ) × (moved_block m B ≡ File f))
file_moved m (Inner f a b) = ((λ e. let q : Inner f a b ≡ File e.0 = e.1 in cc), (λ e. let q : Inner f (m f a) (m f b) ≡ File e.0 = e.1 in cc))
file_moved m (File f) = ((λ e. e), (λ e. e))
file_moved m Package = ((λ e. e), (λ e. e))
file_moved m Universe = ((λ e. e), (λ e. e))

module _ (Known : ℕ → ℕ → Type 0) (m : ℕ → ℕ → ℕ) (l k : Layout) (v : IsMoved Known m l k) where
  block_at : (d : ℕ) → block_of (k.role d) ≡ moved_block m (block_of (l.role d))
  block_at d = ap block_of (v.roles d) ∙ block_moved m (l.role d)

  start_at : (d : ℕ) → start_of (k.role d) ≡ moved_start m (block_of (l.role d)) (start_of (l.role d))
  start_at d = ap start_of (v.roles d) ∙ start_moved m (l.role d)

  scope_at : (d : ℕ) → scope_of (k.role d) ≡ scope_for (moved_block m (block_of (l.role d))) (moved_start m (block_of (l.role d)) (start_of (l.role d)))
  scope_at d = ap (λ B. scope_for B (start_of (k.role d))) (block_at d) ∙ ap (λ s. scope_for (moved_block m (block_of (l.role d))) s) (start_at d)

  pub moved_alike : Alike l k
  moved_alike = record {
    may = λ d. along (may_declare (k.role d)) (may_declare (l.role d)) (ap may_declare (v.roles d) ∙ may_moved m (l.role d));
    left = λ d. along (is_left_name (k.role d)) (is_left_name (l.role d)) (ap is_left_name (v.roles d) ∙ left_moved m (l.role d));
    uses = λ d. along (is_use (k.role d)) (is_use (l.role d)) (ap is_use (v.roles d) ∙ use_moved m (l.role d));
    same = λ d e. (
      (λ s. block_at d ∙ ap (moved_block m) s ∙ sym (block_at e)),
      (λ s. blocks_back Known m v.increasing (block_of (l.role d)) (block_of (l.role e)) (start_of (l.role d)) (start_of (l.role e)) (v.known_block d)
          (v.known_block e)
          (sym (block_at d) ∙ s ∙ block_at e)),
    );
    scope = λ d u.
        let h = holds_moved Known m v.increasing (block_of (l.role d)) (start_of (l.role d)) (l.place u) (v.known_block d) (v.known_place u) in
        ((λ x. rw (scope_at d, v.places u) (h.0 x)), (λ x. h.1 (rw (scope_at d, v.places u) at x)));
    package_level = λ d. let h = package_moved m (block_of (l.role d)) in ((λ x. block_at d ∙ h.0 x), (λ x. h.1 (sym (block_at d) ∙ x)));
    import = λ d. let h = file_moved m (block_of (l.role d)) in
        ((λ x. let y = h.0 x in (y.0, block_at d ∙ y.1)), (λ x. h.1 (x.0, sym (block_at d) ∙ x.1)));
    inside = λ d e.
        let h = inside_moved Known m v.increasing (block_of (l.role d)) (block_of (l.role e)) (start_of (l.role d)) (start_of (l.role e)) (v.known_block d)
        (v.known_block e) in
        ((λ x. rw (scope_at d, scope_at e) (h.0 x)), (λ x. h.1 (rw (scope_at d, scope_at e) at x)));
  }

  pub bindings_move : (names : Names) (u d : ℕ) → IsBoundTo l names u d ↔ IsBoundTo k names u d
  bindings_move names u d = (bound_alike l k moved_alike names u d, bound_alike k l (alike_sym l k moved_alike) names u d)
