-- A name is bound to the one declaration that precedes all others in a linear order.
use Rattle.std.proofs.Common.{ℕ, ◌≡◌, ◌⊎◌, inl, inr, List, sym, ◌∙◌, subst, arith}
use Rattle.std.proofs.lemmas.Bool.{cases_order}
use Rattle.go_scope.specs.declared.model.Block.{Block}
use Rattle.go_scope.specs.declared.model.Block.TheVariants.{Package, File}
use Rattle.go_scope.specs.Bindings.{Layout, Names, MayDeclare, SameBlock, InScope, Declares, IsPackageLevel, IsImport, Displaces, Counts, AllCount, BindsAt}
use Rattle.go_scope.specs.Bindings.{block_of}
use Rattle.go_scope.proofs.Nesting.{NestsAt, nests_not, Nested}
use Rattle.go_scope.specs.Scopes.{Nests}
use Rattle.go_scope.specs.Table.{Precedes}

-- d is the declaration of a name that precedes all others with u in their scope
pub record IsFirstAt (l : Layout) (names : Names) (name : List ℕ) (u d : ℕ) : Type 0 where
  pub declares : Declares l names d
  pub named : names d ≡ name
  pub in_scope : InScope l d u
  pub precedes : (e : ℕ) → Declares l names e → names e ≡ name → InScope l e u → (e ≡ d) ⊎ Precedes l d e

pub nests_along_left : (l : Layout) (a b c : ℕ) → SameBlock l a b → NestsAt l b c → NestsAt l a c
nests_along_left l a b c s n = let P : Block → Type 0 = λ k. Nests k (block_of (l.role c)) in subst P (sym s) n

pub nests_along_right : (l : Layout) (a b c : ℕ) → SameBlock l b c → NestsAt l a b → NestsAt l a c
nests_along_right l a b c s n = let P : Block → Type 0 = λ k. Nests (block_of (l.role a)) k in subst P s n

pub same_not_nests : (l : Layout) (a b : ℕ) → SameBlock l a b → NestsAt l a b → ⊥
same_not_nests l a b s n = nests_not (block_of (l.role b)) (nests_along_left l b a b (sym s) n)

pub same_not_nests_back : (l : Layout) (a b : ℕ) → SameBlock l a b → NestsAt l b a → ⊥
same_not_nests_back l a b s n = same_not_nests l b a (sym s) n

package_not_file : (b : Block) (f : ℕ) → b ≡ Package → b ≡ File f → ⊥
package_not_file b f p q = let e : Package ≡ File f = sym p ∙ q in cc

-- the block of an import does not lie in the package block
pub import_not_nests : (l : Layout) (a b : ℕ) → IsPackageLevel l b → IsImport l a → NestsAt l a b → ⊥
import_not_nests l a b p i n =
    let P : Block → Type 0 = λ k. Nests k (block_of (l.role b)) in
    let Q : Block → Type 0 = λ k. Nests (File i.0) k in
    subst Q p (subst P i.1 n)

pub package_nests_import : (l : Layout) (a b : ℕ) → IsPackageLevel l a → IsImport l b → NestsAt l a b
package_nests_import l a b p i =
    let P : Block → Type 0 = λ k. Nests k (block_of (l.role b)) in
    let Q : Block → Type 0 = λ k. Nests Package k in
    subst P (sym p) (subst Q (sym i.1) tt)

pub same_not_pair : (l : Layout) (a b : ℕ) → SameBlock l a b → IsPackageLevel l a → IsImport l b → ⊥
same_not_pair l a b s p i = package_not_file (block_of (l.role b)) i.0 (sym s ∙ p) i.1

module _ (l : Layout) (nested : Nested l) where
  pub displaces_precedes : (a b : ℕ) → Displaces l a b → Precedes l a b
  displaces_precedes a b (inl h) = inl h
  displaces_precedes a b (inr h) = inr (package_nests_import l a b h.0 h.1)

  pub precedes_trans : (a b c u : ℕ) → MayDeclare l a → MayDeclare l b → MayDeclare l c → InScope l a u → InScope l b u → InScope l c u → Precedes l a b →
      Precedes l b c → Precedes l a c
  precedes_trans a b c u ma mb mc ha hb hc (inl x) (inl y) = inl (x.0 ∙ y.0, omega arith)
  precedes_trans a b c u ma mb mc ha hb hc (inl x) (inr y) = inr (nests_along_left l a b c x.0 y)
  precedes_trans a b c u ma mb mc ha hb hc (inr x) (inl y) = inr (nests_along_right l a b c y.0 x)
  precedes_trans a b c u ma mb mc ha hb hc (inr x) (inr y) = inr (nested.transitive a b c u ma mb mc x y ha hb hc)

  pub precedes_not : (a : ℕ) → Precedes l a a → ⊥
  precedes_not a (inl x) = omega arith
  precedes_not a (inr x) = nests_not (block_of (l.role a)) x

  pub precedes_asym : (a b u : ℕ) → MayDeclare l a → MayDeclare l b → InScope l a u → InScope l b u → Precedes l a b → Precedes l b a → ⊥
  precedes_asym a b u ma mb ha hb x y = precedes_not a (precedes_trans a b a u ma mb ma ha hb ha x y)

  -- two declarations with a position in both scopes are ordered
  pub ordered : (a b u : ℕ) → MayDeclare l a → MayDeclare l b → InScope l a u → InScope l b u →
      (a ≡ b) ⊎ (Precedes l a b ⊎ Precedes l b a)
  ordered a b u ma mb ha hb = elim (nested.comparable a b u ma mb ha hb) [
    | inl s ↦ elim (cases_order a b) [
      | inl e ↦ inl e
      | inr o ↦ elim o [ inl lt ↦ inr (inl (inl (s, lt))) | inr gt ↦ inr (inr (inl (sym s, gt))) ]
    ]
    | inr o ↦ elim o [ inl n ↦ inr (inl (inr n)) | inr n ↦ inr (inr (inr n)) ]
  ]

  -- the scope of a declaration that displaces another includes the other's scope
  pub displaces_holds : (a b u : ℕ) → MayDeclare l a → MayDeclare l b → Displaces l a b → InScope l b u → InScope l a u
  displaces_holds a b u ma mb (inl h) hb = nested.shrinking a b u ma mb h.0 h.1 hb
  displaces_holds a b u ma mb (inr h) hb = nested.package_holds a u h.0

  -- two declarations of one name in one block that both count are equal
  pub one_in_block : (names : Names) (a b : ℕ) → Counts l names a → Counts l names b → names a ≡ names b → SameBlock l a b → a ≡ b
  one_in_block names a b ca cb e s = elim (cases_order a b) [
    | inl same ↦ same
    | inr o ↦ elim o [
      | inl lt ↦ absurd (cb.first a ca.declares e (inl (s, lt)))
      | inr gt ↦ absurd (ca.first b cb.declares (sym e) (inl (sym s, gt)))
    ]
  ]

  -- a use is bound to at most one declaration
  pub binds_once : (names : Names) (name : List ℕ) (u d e : ℕ) → BindsAt l names name u d → BindsAt l names name u e → d ≡ e
  binds_once names name u d e x y =
      elim (nested.comparable d e u x.counts.declares.may y.counts.declares.may x.in_scope y.in_scope) [
        | inl s ↦ one_in_block names d e x.counts y.counts (x.named ∙ sym y.named) s
        | inr o ↦ elim o [
          | inl n ↦ elim (nested.nests_inside d e u x.counts.declares.may y.counts.declares.may x.in_scope y.in_scope n) [
            | inl i ↦ y.innermost d x.counts x.named x.in_scope i
            | inr p ↦ absurd (y.counts.first d x.counts.declares (x.named ∙ sym y.named) (inr p))
          ]
          | inr n ↦ elim (nested.nests_inside e d u y.counts.declares.may x.counts.declares.may y.in_scope x.in_scope n) [
            | inl i ↦ sym (x.innermost e y.counts y.named y.in_scope i)
            | inr p ↦ absurd (x.counts.first e y.counts.declares (y.named ∙ sym x.named) (inr p))
          ]
        ]
      ]

  -- where all declarations count, a name is bound to the first one
  pub first_of_bound : (names : Names) → AllCount l names → (name : List ℕ) (u d : ℕ) → BindsAt l names name u d → IsFirstAt l names name u d
  first_of_bound names all name u d x = record {
    declares = x.counts.declares;
    named = x.named;
    in_scope = x.in_scope;
    precedes = λ e de ne he. elim (nested.comparable d e u x.counts.declares.may de.may x.in_scope he) [
      | inl s ↦ inl (sym (one_in_block names d e x.counts (all e de) (x.named ∙ sym ne) s))
      | inr o ↦ elim o [
        | inl n ↦ inr (inr n)
        | inr n ↦ elim (nested.nests_inside e d u de.may x.counts.declares.may he x.in_scope n) [
          | inl i ↦ inl (x.innermost e (all e de) ne he i)
          | inr p ↦ absurd (x.counts.first e de (ne ∙ sym x.named) (inr p))
        ]
      ]
    ];
  }

  -- a name is bound to the first one
  pub bound_of_first : (names : Names) (name : List ℕ) (u d : ℕ) → IsFirstAt l names name u d → BindsAt l names name u d
  bound_of_first names name u d x = record {
    counts = record {
      declares = x.declares;
      first = λ e de ne p.
          let he : InScope l e u = displaces_holds e d u de.may x.declares.may p x.in_scope in
          elim (x.precedes e de (ne ∙ x.named) he) [
            | inl same ↦ precedes_not d (let P : ℕ → Type 0 = λ k. Precedes l k d in subst P same (displaces_precedes e d p))
            | inr q ↦ precedes_asym d e u x.declares.may de.may x.in_scope he q (displaces_precedes e d p)
          ];
    };
    named = x.named;
    in_scope = x.in_scope;
    innermost = λ e ce ne he i. elim (x.precedes e ce.declares ne he) [
      | inl same ↦ same
      | inr q ↦ elim q [
        | inl s ↦ absurd (ce.first d x.declares (x.named ∙ sym ne) (inl s))
        | inr n ↦ elim (nested.inside_nests e d u ce.declares.may x.declares.may he x.in_scope i) [
          | inl s ↦ absurd (same_not_nests_back l e d s n)
          | inr o ↦ elim o [
            | inl m ↦ absurd (precedes_asym d e u x.declares.may ce.declares.may x.in_scope he (inr n) (inr m))
            | inr p ↦ absurd (ce.first d x.declares (x.named ∙ sym ne) (inr p))
          ]
        ]
      ]
    ];
  }
