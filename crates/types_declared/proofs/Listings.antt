-- Lists of faults and the faults added to them.
use Rattle.std.proofs.Common.{arith, ◌<◌, ℕ, ◌≡◌, ◌⊎◌, inl, inr, List, [], IsTrue, ◌↔◌, true, false, Bool, ap, ◌∙◌}
use Rattle.std.specs.Prelude.{Result, OnOk}
use Rattle.std.proofs.lemmas.Result.{on_ok_weaker}
use Rattle.base_files.specs.declared.fault_kind.FaultKind.{FaultKind}
use Rattle.types_declared.specs.declared.fault.Fault.{Fault}
use Rattle.types_declared.specs.Listing.{AddsFaults, HoldsExactly}

-- no fault is added
pub adds_none : (a : List Fault) (P : Fault → Type 0) → ((f : Fault) → P f → ⊥) → AddsFaults a a P
adds_none a P none = record {
  keeps = λ f h. h;
  holds = λ f h. absurd (none f h);
  only = λ f h. inl h;
}

-- equivalent properties describe the same added faults
pub adds_as : (a b : List Fault) (P Q : Fault → Type 0) → AddsFaults a b P → ((f : Fault) → P f → Q f) → ((f : Fault) → Q f → P f) → AddsFaults a b Q
adds_as a b P Q h to from = record {
  keeps = h.keeps;
  holds = λ f q. h.holds f (from f q);
  only = λ f q. elim (h.only f q) [ inl o ↦ inl o | inr p ↦ inr (to f p) ];
}

-- faults are added in two steps
pub adds_then : (a b c : List Fault) (P Q : Fault → Type 0) → AddsFaults a b P → AddsFaults b c Q → AddsFaults a c (λ f. P f ⊎ Q f)
adds_then a b c P Q h k = record {
  keeps = λ f x. k.keeps f (h.keeps f x);
  holds = λ f x. elim x [ inl p ↦ k.keeps f (h.holds f p) | inr q ↦ k.holds f q ];
  only = λ f x. elim (k.only f x) [ inl o ↦ elim (h.only f o) [ inl n ↦ inl n | inr p ↦ inr (inl p) ] | inr q ↦ inr (inr q) ];
}

pub then_adds : {E : Type 0} (a b c : List Fault) (P Q R : Fault → Type 0) (r : Result (Unit {0}) E) → AddsFaults a b P → OnOk r (AddsFaults b c Q) →
    ((f : Fault) → P f ⊎ Q f → R f) → ((f : Fault) → R f → P f ⊎ Q f) → OnOk r (AddsFaults a c R)
then_adds a b c P Q R r h k to from = on_ok_weaker r (λ q. adds_as a c (λ f. P f ⊎ Q f) R (adds_then a b c P Q h q) to from) k

pub call_adds : {E : Type 0} (a b : List Fault) (P Q : Fault → Type 0) (r : Result (Unit {0}) E) → OnOk r (AddsFaults a b P) →
    ((f : Fault) → P f → Q f) → ((f : Fault) → Q f → P f) → OnOk r (AddsFaults a b Q)
call_adds a b P Q r k to from = on_ok_weaker r (λ q. adds_as a b P Q q to from) k

-- the faults added to an empty list are all its faults
pub lists_from : (b : List Fault) (P : Fault → Type 0) → AddsFaults [] b P → HoldsExactly P b
lists_from b P h = record {
  holds = h.holds;
  only = λ f x. elim (h.only f x) [ inl o ↦ absurd (let lt : o.0 < 0 = o.1 in omega arith) | inr p ↦ p ];
}

abbrev pub make : ℕ → ℕ → FaultKind → Fault
make file token kind = record { file = file; token = token; kind = kind }

-- a fault is equal to one with the same file, token and kind
pub fault_from : (f : Fault) (file token : ℕ) (kind : FaultKind) → f.file ≡ file → f.token ≡ token → f.kind ≡ kind → f ≡ make file token kind
fault_from f file token kind e g h = ap (λ v. make v f.token f.kind) e ∙ ap (λ v. make file v f.kind) g ∙ ap (λ v. make file token v) h

-- a false test refutes its property
pub is_false : (P : Type 0) (b : Bool) → (IsTrue b ↔ P) → b ≡ false → P → ⊥
is_false P b h e p = let t : b ≡ true = h.1 p in let z : ⊥ = cc in z
