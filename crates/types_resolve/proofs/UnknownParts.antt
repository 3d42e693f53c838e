-- The faults of qualified identifiers, part by part.
use Rattle.std.proofs.Common.{ℕ, suc, ◌≡◌, List, Bool, Option, ap, sym, ◌∙◌, subst, arith}
use Rattle.std.specs.Prelude.{Result, OnOk}
use Rattle.base_files.specs.declared.fault_kind.FaultKind.{FaultKind}
use Rattle.go_scanner.specs.StringValues.{HasStringValue}
use Rattle.types_declared.specs.declared.fault.Fault.{Fault}
use Rattle.types_declared.specs.Listing.{AddsFaults}
use Rattle.types_declared.proofs.Listings.{adds_none, call_adds}
use Rattle.go_ast.specs.SourceFile.{SourceFile}
use Rattle.go_scope.specs.Bindings.{IsBoundTo}
use Rattle.types_declared.proofs.PathParts.{one_path}
use Rattle.types_resolve.specs.Scoping.{IsQualifiedFault, qualified_fault}
use Rattle.types_declared.specs.Laid.{Laid, IsPathOf, is_exported}
use Rattle.types_resolve.specs.QualifiedParts.{IsFaultOfKind, IsUnknownOf, IsQualifiedBy}

-- the fault of a name qualified by the package at a path is added
pub name_added : {E : Type 0} (one : (bytes v w : List ℕ) → HasStringValue bytes v → HasStringValue bytes w → v ≡ w) (files : List SourceFile)
    (exports : (path name : List ℕ) → Bool) (p : Laid) (d u : ℕ)
    (path : List ℕ) (kind : Option FaultKind) (a b : List Fault) (r : Result (Unit {0}) E) → IsPathOf files p d path →
    kind ≡ qualified_fault (is_exported (p.names u)) (exports path (p.names u)) → OnOk r (AddsFaults a b (IsFaultOfKind p u kind)) →
    OnOk r (AddsFaults a b (IsUnknownOf files exports p d u))
name_added one files exports p d u path kind a b r of_path is k =
    let kind_of : List ℕ → Option FaultKind = λ v. qualified_fault (is_exported (p.names u)) (exports v (p.names u)) in
    call_adds a b (IsFaultOfKind p u kind) (IsUnknownOf files exports p d u) r k
    (λ f h. record { path = path; of_path = of_path; of_kind = subst (λ z. IsFaultOfKind p u z f) is h })
    (λ f h. subst (λ z. IsFaultOfKind p u z f) (ap kind_of (one_path one files p d h.path path h.of_path of_path) ∙ sym is) h.of_kind)

before_one : (u a b : ℕ) → u ≡ suc a → u ≡ suc b → a ≡ b
before_one u a b e h = omega arith

-- the fault of the name after the dot is added, where the use before the dot is bound to one import
pub unknown_added : {E : Type 0} (files : List SourceFile) (exports : (path name : List ℕ) → Bool) (p : Laid) (d u : ℕ) (a b : List Fault)
    (r : Result (Unit {0}) E) →
    ((v x y : ℕ) → IsBoundTo p.layout p.names v x → IsBoundTo p.layout p.names v y → x ≡ y) → IsQualifiedBy p u d →
    OnOk r (AddsFaults a b (IsUnknownOf files exports p d u)) → OnOk r (AddsFaults a b (IsQualifiedFault files exports p u))
unknown_added files exports p d u a b r one q k =
    call_adds a b (IsUnknownOf files exports p d u) (IsQualifiedFault files exports p u) r k
    (λ f h. record {
      before = q.0;
      import = d;
      path = h.path;
      qualified = q.1;
      of_path = h.of_path;
      file = h.of_kind.file;
      token = h.of_kind.token;
      kind =
          h.of_kind.is_kind;
    })
    (λ f h.
    let same : h.before ≡ q.0 = before_one u h.before q.0 h.qualified.next q.1.next in
    let import : h.import ≡ d = one q.0 h.import d (subst (λ v. IsBoundTo p.layout p.names v h.import) same h.qualified.bound) q.1.bound in
    record {
      path = h.path;
      of_path = subst (λ x. IsPathOf files p x h.path) import h.of_path;
      of_kind = record { file = h.file; token = h.token; is_kind = h.kind };
    })

pub none_unknown : (files : List SourceFile) (exports : (path name : List ℕ) → Bool) (p : Laid) (u : ℕ) (a : List Fault) → ((d : ℕ) → IsQualifiedBy p u d → ⊥) →
    AddsFaults a a (IsQualifiedFault files exports p u)
none_unknown files exports p u a none = adds_none a (IsQualifiedFault files exports p u) (λ f h. none h.import (h.before, h.qualified))
