-- The types of lists of type expressions, one by one.
use Rattle.std.proofs.Common.{ℕ, zero, suc, ◌≡◌, ◌+◌, ◌<◌, List, [], ◌∷◌, ◌++◌, length, get_or, take, ap, sym, subst, ◌∙◌, arith}
use Rattle.std.specs.Prelude.{map}
use Rattle.std.proofs.Math.Seq.{take-suc}
use Rattle.std.proofs.Math.ListN.{get_or-map, length-map}
use Rattle.std.proofs.lemmas.List.{map-append}
use Rattle.go_ast.specs.Tree.{TypeTree}
use Rattle.types_expr.specs.Types.{PlainType}
use Rattle.types_declared.specs.Package.{Package}
use Rattle.types_declared.specs.Written.{IsTypeOf}
use Rattle.types_declared.specs.MeaningOf.{AreTypesOf}

are_push : (p : Package) (file : ℕ) (xs : List TypeTree) (ts : List PlainType) (x : TypeTree) (t : PlainType) → AreTypesOf p file xs ts →
    IsTypeOf p file x t → AreTypesOf p file (xs ++ (x ∷ [])) (ts ++ (t ∷ []))
are_push p file [] [] x t h is = (is, tt)
are_push p file [] (u ∷ ts) x t h is = absurd h
are_push p file (y ∷ xs) [] x t h is = absurd h
are_push p file (y ∷ xs) (u ∷ ts) x t h is = (h.0, are_push p file xs ts x t h.1 is)

-- each of the type expressions has the type at its index
are_each : (p : Package) (file : ℕ) (xs : List TypeTree) (ts : List PlainType) (i : ℕ) (d : TypeTree) → i < length xs → AreTypesOf p file xs ts →
    (t : PlainType) × IsTypeOf p file (get_or xs i d) t
are_each p file [] ts i d lt h = absurd (omega arith)
are_each p file (y ∷ xs) [] i d lt h = absurd h
are_each p file (y ∷ xs) (u ∷ ts) zero d lt h = (u, h.0)
are_each p file (y ∷ xs) (u ∷ ts) (suc i) d lt h = are_each p file xs ts i d (omega arith) h.1

pub next_type : {X Y : Type 0} (p : Package) (file : ℕ) (v : X → TypeTree) (w : Y → PlainType) (xs : List X) (old new : List Y) (i : ℕ) (d : X) (y : Y) →
    i < length xs → new ≡ old ++ (y ∷ []) →
    IsTypeOf p file (v (get_or xs i d)) (w y) → AreTypesOf p file (map v (take i xs)) (map w old) → AreTypesOf p file (map v (take (i + 1) xs)) (map w new)
next_type p file v w xs old new i d y lt e is h =
    let trees : map v (take (i + 1) xs) ≡ map v (take i xs) ++ (v (get_or xs i d) ∷ []) =
    ap (λ k. map v (take k xs)) (let z : i + 1 ≡ suc i = omega arith in z) ∙ ap (map v) (take-suc xs i d lt) ∙ map-append v (take i xs) (get_or xs i d ∷ []) in
    let types : map w new ≡ map w old ++ (w y ∷ []) = ap (map w) e ∙ map-append w old (y ∷ []) in
    subst (λ ts. AreTypesOf p file (map v (take (i + 1) xs)) ts) (sym types)
    (subst (λ xs'. AreTypesOf p file xs' (map w old ++ (w y ∷ []))) (sym trees)
    (are_push p file (map v (take i xs)) (map w old) (v (get_or xs i d)) (w y) h is))

pub no_type_for : {X : Type 0} (p : Package) (file : ℕ) (v : X → TypeTree) (xs : List X) (i : ℕ) (d : X) → i < length xs →
    ((t : PlainType) → IsTypeOf p file (v (get_or xs i d)) t → ⊥) →
    (ts : List PlainType) → AreTypesOf p file (map v xs) ts → ⊥
no_type_for p file v xs i d lt none ts h =
    let found = are_each p file (map v xs) ts i (v d) (subst (λ n. i < n) (sym (length-map xs v)) lt) h in
    none found.0 (subst (λ t. IsTypeOf p file t found.0) (get_or-map v xs i d) found.1)
