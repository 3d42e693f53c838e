-- The answers to the goals of `listing::sort`.
use Rattle.std.proofs.Common.{ℕ, ◌≡◌, ◌<◌, ◌&&◌, ◌∙◌, Bool, true, false, List, length, get_or, rules, subst, sym, refl, ap, eqb→eq, nat_eq, T}
use Rattle.std.specs.Prelude.{Contains}
use Rattle.std.proofs.lemmas.Bool.{and_parts}
use denote.Enum.Bare.{same_true, sameb}
use Rattle.base_files.specs.declared.fault_kind.FaultKind.{FaultKind}
use Rattle.base_files.specs.contracts.fault_kind.FaultKind.{the_type}
use Rattle.types_declared.specs.declared.fault.Fault.{Fault}
use Rattle.types_declared.proofs.listing.sort.Goals as goal

abbrev make : ℕ → ℕ → FaultKind → Fault
make f t k = record { file = f; token = t; kind = k }

same_number : (a b : ℕ) → nat_eq a b ≡ true → a ≡ b
same_number a b e = eqb→eq a b (subst T (sym e) tt)

same_parts : (x y : Fault) → x.file ≡ y.file → x.token ≡ y.token → x.kind ≡ y.kind → y ≡ x
same_parts x y e f g = ap (λ v. make v y.token y.kind) (sym e) ∙ ap (λ v. make x.file v y.kind) (sym f) ∙ ap (λ v. make x.file x.token v) (sym g)

-- two faults that compare as equal are the same fault
same_fault : (x y : Fault) → (nat_eq x.file y.file && (nat_eq x.token y.token && sameb the_type x.kind y.kind)) ≡ true → y ≡ x
same_fault x y e =
    let a = and_parts (nat_eq x.file y.file) (nat_eq x.token y.token && sameb the_type x.kind y.kind) e in
    let b = and_parts (nat_eq x.token y.token) (sameb the_type x.kind y.kind) a.1 in
    same_parts x y (same_number x.file y.file a.0) (same_number x.token y.token b.0) (same_true the_type (search rules) x.kind y.kind b.1)

contains_as : (xs : List Fault) (x y : Fault) (k : ℕ) → k < length xs → get_or xs k y ≡ y → y ≡ x → Contains xs x
contains_as xs x y k lt at e = subst (Contains xs) e (k, lt, at)

pub returns : goal.returns
returns c = record {
  same = record {
    keeps = λ x h. let a = c.sort_strictly.ensures.keeps x h in contains_as _ x a.1 a.0 a.2 a.3 (same_fault x a.1 a.4);
    only = c.sort_strictly.ensures.only;
  };
  order = c.sort_strictly.ensures.order;
}
