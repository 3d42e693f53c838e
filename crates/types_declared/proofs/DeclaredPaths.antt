-- The paths of imports, step by step.
use Rattle.std.proofs.Common.{ℕ, ◌≡◌, ◌+◌, ◌<◌, inl, inr, zero, suc, List, [], ◌∷◌, ◌++◌, length, ap, sym, subst, refl, ◌∙◌, arith, MatchOption, length-append}
use Rattle.std.specs.Prelude.{Option, Some, None, slice_get}
use Rattle.std.specs.Global.{Vec}
use Rattle.std.specs.Borrow.{Bor}
use Rattle.go_scope.specs.Named.{name_value}
use Rattle.std.proofs.lemmas.Bool.{cases_lt}
use Rattle.go_scope.specs.Bindings.{IsImport}
use Rattle.go_scanner.specs.StringValues.{HasStringValue}
use Rattle.types_declared.specs.Laid.{IsPathOf}
use Rattle.types_declared.proofs.PathParts.{one_path}
use Rattle.types_declared.specs.Package.{Package, laid_of}
use Rattle.types_declared.specs.Written.{DeclaresImport}
use Rattle.types_declared.specs.PackageView.{ArePaths, path_in}

pub path_of_import : (p : Package) (d : ℕ) (o : Option (Vec ℕ)) → IsImport p.layout d →
    MatchOption o ((v : List ℕ) → IsPathOf p.files (laid_of p) d v → ⊥) (λ v. IsPathOf p.files (laid_of p) d v.items) →
    MatchOption o ((v : List ℕ) → DeclaresImport p d v → ⊥) (λ v. DeclaresImport p d v.items)
path_of_import p d None is h = λ v path. h v path.of_path
path_of_import p d (Some v) is h = record { is_import = is; of_path = h }

-- The list of paths after one more is pushed

pub get_before : {X : Type 0} (xs : List X) (x : X) (k : ℕ) → k < length xs → slice_get (xs ++ (x ∷ [])) k ≡ slice_get xs k
get_before [] x k lt = absurd (omega arith)
get_before (y ∷ ys) x zero lt = refl
get_before (y ∷ ys) x (suc k) lt = get_before ys x k (omega arith)

pub get_last : {X : Type 0} (xs : List X) (x : X) → slice_get (xs ++ (x ∷ [])) (length xs) ≡ Some x
get_last [] x = refl
get_last (y ∷ ys) x = get_last ys x

path_found : (p : Package) (d : ℕ) (o : Option (Vec ℕ)) → MatchOption o ((v : List ℕ) → DeclaresImport p d v → ⊥) (λ v. DeclaresImport p d v.items) →
    MatchOption (path_in (Some o)) ((v : List ℕ) → DeclaresImport p d v → ⊥) (λ v. DeclaresImport p d v)
path_found p d None h = h
path_found p d (Some v) h = h

pub next_path : (p : Package) (d : ℕ) (old new : List (Option (Vec ℕ))) (o : Option (Vec ℕ)) → new ≡ old ++ (o ∷ []) → ArePaths p d old →
    MatchOption o ((v : List ℕ) → DeclaresImport p d v → ⊥) (λ v. DeclaresImport p d v.items) → ArePaths p (d + 1) new
next_path p d old new o e h last = record {
  all = ap length e ∙ length-append old (o ∷ []) ∙ ap (λ n. n + 1) h.all;
  each = λ k lt.
      let P : Option (Option (Vec ℕ)) → Type 0 = λ z. MatchOption (path_in z) ((v : List ℕ) → DeclaresImport p k v → ⊥) (λ v. DeclaresImport p k v) in
      elim (cases_lt k d) [
        | inl below ↦ subst P (sym (ap (λ z. slice_get z k) e ∙ get_before old o k (subst (λ n. k < n) (sym h.all) below))) (h.each k below)
        | inr ge ↦ let at : k ≡ d = omega arith in
            let is : slice_get new d ≡ Some o = ap (λ z. slice_get z d) e ∙ ap (slice_get (old ++ (o ∷ []))) (sym h.all) ∙ get_last old o in
            subst (λ n. MatchOption (path_in (slice_get new n)) ((v : List ℕ) → DeclaresImport p n v → ⊥) (λ v. DeclaresImport p n v)) (sym at)
            (subst (λ z. MatchOption (path_in z) ((v : List ℕ) → DeclaresImport p d v → ⊥) (λ v. DeclaresImport p d v)) (sym is) (path_found p d o last))
      ];
}

pub path_read : ((bytes v w : List ℕ) → HasStringValue bytes v → HasStringValue bytes w → v ≡ w) →
    (p : Package) (d : ℕ) (o : Option (Bor (List ℕ))) (z : Option (List ℕ)) → name_value o ≡ z →
    MatchOption z ((v : List ℕ) → DeclaresImport p d v → ⊥) (λ v. DeclaresImport p d v) →
    MatchOption o ((v : List ℕ) → DeclaresImport p d v → ⊥) (λ v. DeclaresImport p d v.now × ((other : List ℕ) → DeclaresImport p d other → other ≡ v.now))
path_read one p d None z e h = subst (λ y. MatchOption y ((v : List ℕ) → DeclaresImport p d v → ⊥) (λ v. DeclaresImport p d v)) (sym e) h
path_read one p d (Some v) z e h =
    let is : DeclaresImport p d v.now = subst (λ y. MatchOption y ((v : List ℕ) → DeclaresImport p d v → ⊥) (λ v. DeclaresImport p d v)) (sym e) h in
    (is, λ other k. one_path one p.files (laid_of p) d other v.now k.of_path is.of_path)
