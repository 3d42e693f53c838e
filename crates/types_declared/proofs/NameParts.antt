-- The names of imported packages, one by one.
use Rattle.std.proofs.Common.{ℕ, zero, suc, ◌≡◌, ◌+◌, ◌<◌, inl, inr, true, List, [], ◌∷◌, ◌++◌, length, length-append, Option, None, ap, sym, ◌∙◌, refl}
use Rattle.std.proofs.Common.{subst, arith}
use Rattle.std.specs.Borrow.{Bor}
use Rattle.std.proofs.lemmas.Bool.{cases_order}
use Rattle.go_ast.specs.SourceFile.{SourceFile}
use Rattle.go_scanner.specs.StringValues.{HasStringValue}
use Rattle.go_scope.specs.Named.{is_unnamed_import, name_value, name_given}
use Rattle.types_declared.specs.Laid.{Laid, IsPathOf}
use Rattle.types_declared.specs.PackageNames.{IsPackageName}
use Rattle.types_declared.proofs.PathParts.{one_path}

abbrev Names : Type 0
Names = List (Option (Bor (List ℕ)))

given_before : (xs : Names) (x : Option (Bor (List ℕ))) (k : ℕ) → k < length xs → name_given (xs ++ (x ∷ [])) k ≡ name_given xs k
given_before [] x k lt = absurd (omega arith)
given_before (y ∷ ys) x zero lt = refl
given_before (y ∷ ys) x (suc k) lt = given_before ys x k (omega arith)

given_last : (xs : Names) (x : Option (Bor (List ℕ))) → name_given (xs ++ (x ∷ [])) (length xs) ≡ name_value x
given_last [] x = refl
given_last (y ∷ ys) x = given_last ys x

-- the name of the package at the import's path
pub path_named : ((bytes v w : List ℕ) → HasStringValue bytes v → HasStringValue bytes w → v ≡ w) →
    (files : List SourceFile) (name_of : List ℕ → Option (List ℕ)) (p : Laid) (u : ℕ) (path : List ℕ) (name : Option (List ℕ)) →
    IsPathOf files p u path → name ≡ name_of path → IsPackageName files name_of p u name
path_named one files name_of p u path name of_path e = record {
  known = λ v h. e ∙ ap name_of (one_path one files p u path v of_path h);
  unknown = λ none. absurd (none path of_path);
}

pub path_missing : (files : List SourceFile) (name_of : List ℕ → Option (List ℕ)) (p : Laid) (u : ℕ) → ((path : List ℕ) → IsPathOf files p u path → ⊥) →
    IsPackageName files name_of p u None
path_missing files name_of p u none = record { known = λ v h. absurd (none v h); unknown = λ n. refl }

pub sized_next : (old new : Names) (u : ℕ) (x : Option (Bor (List ℕ))) → length old ≡ u → new ≡ old ++ (x ∷ []) → length new ≡ u + 1
sized_next old new u x size e = ap length e ∙ length-append old (x ∷ []) ∙ ap (λ n. n + 1) size

-- one more name is added
pub names_next : (files : List SourceFile) (name_of : List ℕ → Option (List ℕ)) (p : Laid) (old new : Names) (u k : ℕ) (x : Option (Bor (List ℕ))) →
    length old ≡ u → new ≡ old ++ (x ∷ []) →
    ((j : ℕ) → j < u → is_unnamed_import (p.layout.role j) ≡ true → IsPackageName files name_of p j (name_given old j)) →
    (is_unnamed_import (p.layout.role u) ≡ true → IsPackageName files name_of p u (name_value x)) →
    k < u + 1 → is_unnamed_import (p.layout.role k) ≡ true → IsPackageName files name_of p k (name_given new k)
names_next files name_of p old new u k x size e before now lt unnamed =
    let P : Option (List ℕ) → Type 0 = λ n. IsPackageName files name_of p k n in
    let at : name_given (old ++ (x ∷ [])) k ≡ name_given new k = ap (λ z. name_given z k) (sym e) in
    elim (cases_order k u) [
      | inl same ↦ (
          let Q : ℕ → Type 0 = λ j. is_unnamed_import (p.layout.role j) ≡ true → IsPackageName files name_of p j (name_value x) in
          let last : name_given (old ++ (x ∷ [])) k ≡ name_value x = ap (name_given (old ++ (x ∷ []))) (same ∙ sym size) ∙ given_last old x in
          subst P (sym last ∙ at) (subst Q (sym same) now unnamed))
      | inr o ↦ elim o [
        | inl less ↦ subst P (sym (given_before old x k (omega arith)) ∙ at) (before k less unnamed)
        | inr more ↦ absurd (omega arith)
      ]
    ]
