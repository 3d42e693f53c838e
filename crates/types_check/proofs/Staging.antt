-- The check of a package by stages: a stage with faults ends it, and one without adds none.
use Rattle.std.proofs.Common.{◌≡◌, ◌<◌, ◌↔◌, inl, inr, Bool, true, false, nat_eq, List, [], length, ap, sym, subst, ◌∙◌, arith, MatchOption, vec_len}
use Rattle.std.specs.Prelude.{None, Contains}
use Rattle.std.specs.Global.{Vec}
use Rattle.std.specs.List.Sorted.{IsStrictlySortedBy}
use Rattle.std.proofs.lemmas.Bool.{eqb-true, eqb-false}
use Rattle.std.proofs.lemmas.List.{nil_from_length}
use Rattle.std.proofs.lemmas.Option.{none-some}
use Rattle.types_declared.specs.declared.fault.Fault.{Fault}
use Rattle.types_declared.specs.contracts.fault.FaultOrd.TheImpl as order
use Rattle.types_declared.specs.Listing.{HoldsExactly}
use Rattle.types_declared.specs.Stage.{FirstOf}
use Rattle.types_declared.proofs.Stages.{first_listed}
use Rattle.types_check.specs.declared.checking.Checked.{Checked}
use Rattle.types_check.specs.declared.checking.CheckedPackage.{CheckedPackage}
use Rattle.types_declared.specs.Package.{Package}
use Rattle.types_declared.specs.ExportTablesView.{export_data_of}
use Rattle.types_check.specs.Exports.{IsExportData}
use Rattle.types_check.specs.Check.{IsFindingBy, AreMeaningsFound}

pub nothing_in : (f : Fault) → Contains [] f → ⊥
nothing_in f c = let lt : c.0 < 0 = c.1 in omega arith

lists_first : (P Q : Fault → Type 0) (found : List Fault) → (found ≡ [] → ⊥) → HoldsExactly P found → HoldsExactly (FirstOf P Q) found
lists_first P Q found ne h = first_listed P Q found (record { keeps = λ f c. absurd (nothing_in f c); holds = h.holds; only = λ f c. inr (h.only f c) }) ne

-- A stage with faults

faulty_by : (P : Fault → Type 0) (p : Package) (c : Checked) → (c.faults.items ≡ [] → ⊥) → HoldsExactly P c.faults.items →
    IsStrictlySortedBy order.ghosts.cmp c.faults.items → c.export_data ≡ None → IsFindingBy P p c
faulty_by P p c ne h sorted none = record {
  faults = h;
  order = sorted;
  export_data = subst (λ o. MatchOption o (c.faults.items ≡ [] → ⊥) (λ i. (c.faults.items ≡ []) × IsExportData p (export_data_of p.path i))) (sym none) ne;
  members = λ e. absurd (ne e);
  enterings = λ e. absurd (ne e);
  qualified = λ e. absurd (ne e);
}

-- Faults that were tested for, of which there are some or none

pub some_found : (found : Vec Fault) (b : Bool) → b ≡ nat_eq (vec_len found) 0 → b ≡ false → found.items ≡ [] → ⊥
some_found found b is fails e = eqb-false (vec_len found) 0 (sym is ∙ fails) (found.ok.0 ∙ ap length e)

pub none_found : (found : Vec Fault) (b : Bool) → b ≡ nat_eq (vec_len found) 0 → b ≡ true → found.items ≡ []
none_found found b is passes = nil_from_length found.items (sym found.ok.0 ∙ eqb-true (vec_len found) 0 (sym is ∙ passes))

pub ends_with : (P Q : Fault → Type 0) (p : Package) (c : Checked) (found : Vec Fault) (b : Bool) → c.faults ≡ found → c.export_data ≡ None →
    b ≡ nat_eq (vec_len found) 0 → b ≡ false → HoldsExactly P found.items →
    IsStrictlySortedBy order.ghosts.cmp found.items → IsFindingBy (FirstOf P Q) p c
ends_with P Q p c found b same none is fails h sorted =
    let ne : c.faults.items ≡ [] → ⊥ = λ e. some_found found b is fails (sym (ap (λ (v : Vec Fault). v.items) same) ∙ e) in
    let listed : HoldsExactly P c.faults.items = subst (λ (v : Vec Fault). HoldsExactly P v.items) (sym same) h in
    faulty_by (FirstOf P Q) p c ne (lists_first P Q c.faults.items ne listed)
    (subst (λ (v : Vec Fault). IsStrictlySortedBy order.ghosts.cmp v.items) (sym same) sorted) none

-- no meanings are handed back of a package with faults
pub none_kept : (p : Package) (c : CheckedPackage) → c.bounds ≡ None → AreMeaningsFound p c
none_kept p c none b is = absurd (none-some b (sym none ∙ is))

-- equivalent properties describe the same finding
pub checked_same : (P Q : Fault → Type 0) (p : Package) (c : Checked) → ((f : Fault) → P f ↔ Q f) → IsFindingBy P p c → IsFindingBy Q p c
checked_same P Q p c same h = record {
  faults = record { holds = λ f is. h.faults.holds f ((same f).1 is); only = λ f k. (same f).0 (h.faults.only f k) };
  order = h.order;
  export_data = h.export_data;
  members = h.members;
  enterings = h.enterings;
  qualified = h.qualified;
}

-- A stage without faults

without_first : (P Q : Fault → Type 0) (p : Package) (c : Checked) → HoldsExactly P [] → IsFindingBy Q p c → IsFindingBy (FirstOf P Q) p c
without_first P Q p c none h = checked_same Q (FirstOf P Q) p c
    (λ f. (
      λ is. inr (λ g by. nothing_in g (none.holds g by), is),
      λ first.
          elim first [ inl by ↦ absurd (nothing_in f (none.holds f by)) | inr later ↦ later.1 ],
    )) h

pub goes_on : (P Q : Fault → Type 0) (p : Package) (found : Vec Fault) (b : Bool) → b ≡ nat_eq (vec_len found) 0 → b ≡ true → HoldsExactly P found.items →
    (c : Checked) → IsFindingBy Q p c →
    IsFindingBy (FirstOf P Q) p c
goes_on P Q p found b is passes h c k = without_first P Q p c (subst (HoldsExactly P) (none_found found b is passes) h) k

-- two stages, and those after both
pub after_both : (A B C : Fault → Type 0) (f : Fault) → FirstOf (FirstOf A B) C f ↔ FirstOf A (FirstOf B C) f
after_both A B C f = (
  λ is. elim is [
    | inl first ↦ elim first [ inl a ↦ inl a | inr b ↦ inr (b.0, inl b.1) ]
    | inr c ↦ inr (λ g a. c.0 g (inl a), inr (λ g b. c.0 g (inr (λ h a. c.0 h (inl a), b)), c.1))
  ],
  λ is. elim is [
    | inl a ↦ inl (inl a)
    | inr later ↦ elim later.1 [
      | inl b ↦ inl (inr (later.0, b))
      | inr c ↦ inr (λ g first. elim first [ inl a ↦ later.0 g a | inr b ↦ c.0 g b.1 ], c.1)
    ]
  ],
)
