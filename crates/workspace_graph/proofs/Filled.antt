-- Lists of which one element is set, and results of which two facts are known.
use Rattle.std.proofs.Common.{◌≡◌, ℕ, zero, suc, List, [], ◌∷◌, Some, Result, Ok, Err, IfOk, slice_get, refl, ap, ◌∙◌}
use Rattle.std.proofs.Math.ListN.{set}
use Rattle.std.specs.Option.{option_map}
use Rattle.std.proofs.lemmas.Option.{none-some, slice_get-map}
use Rattle.workspace_graph.specs.Graphs.{paths_of}
use Rattle.workspace_graph.specs.declared.package.ParsedPackage.{ParsedPackage}

-- ---- lists
pub set_there : {X : Type 0} (xs : List X) (n : ℕ) (x y : X) → slice_get xs n ≡ Some x → slice_get (set xs n y) n ≡ Some y
set_there [] n x y h = absurd (none-some x h)
set_there (z ∷ xs) zero x y h = refl
set_there (z ∷ xs) (suc n) x y h = set_there xs n x y h

pub set_elsewhere : {X : Type 0} (xs : List X) (n i : ℕ) (y : X) → (i ≡ n → ⊥) → slice_get (set xs n y) i ≡ slice_get xs i
set_elsewhere [] n i y ne = refl
set_elsewhere (z ∷ xs) zero zero y ne = absurd (ne refl)
set_elsewhere (z ∷ xs) zero (suc i) y ne = refl
set_elsewhere (z ∷ xs) (suc n) zero y ne = refl
set_elsewhere (z ∷ xs) (suc n) (suc i) y ne = set_elsewhere xs n i y (λ e. ne (ap suc e))

pub path_at : (ps : List ParsedPackage) (i : ℕ) (p : ParsedPackage) → slice_get ps i ≡ Some p → slice_get (paths_of ps) i ≡ Some p.path.items
path_at ps i p h = slice_get-map (λ (q : ParsedPackage). q.path.items) ps i ∙ ap (option_map (λ (q : ParsedPackage). q.path.items)) h

-- what two facts on what was answered give
pub ok_both : {X E : Type 0} {P Q S : X → Type 0} (r : Result X E) → ((x : X) → P x → Q x → S x) → IfOk r P → IfOk r Q → IfOk r S
ok_both (Ok x) gives p q = gives x p q
ok_both (Err e) gives p q = tt
