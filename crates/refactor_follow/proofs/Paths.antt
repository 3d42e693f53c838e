-- Whether the path of an import is this one.
use Rattle.std.proofs.Common.{ℕ, ◌≡◌, List, Option, Some, None, ap, subst}
use Rattle.std.specs.Prelude.{◌↔◌, MatchOption, Vec, option_map}
use Rattle.std.proofs.lemmas.Option.{none-some, same_Some}
use Rattle.go_scope.specs.Bindings.{IsImport}
use Rattle.types_declared.specs.Laid.{IsPathOf}
use Rattle.types_declared.specs.Package.{Package, laid_of}
use Rattle.types_declared.specs.Written.{DeclaresImport}
use Rattle.types_declared.proofs.Naming.{one_import_path}

pub path_found : {Z : Type 0} (p : Package) (d : ℕ) → IsImport p.layout d → (o : Option (Vec ℕ Z)) (path : List ℕ) →
    MatchOption o ((v : List ℕ) → IsPathOf p.files (laid_of p) d v → ⊥) (λ v. IsPathOf p.files (laid_of p) d v.items) →
    (option_map (λ v. v.items) o ≡ Some path) ↔ DeclaresImport p d path
path_found p d import None path none = ((λ e. absurd (none-some path e)), (λ i. absurd (none path i.of_path)))
path_found p d import (Some v) path is =
    let own : DeclaresImport p d v.items = record { is_import = import; of_path = is } in (
      (λ e. subst (DeclaresImport p d) (same_Some v.items path e) own),
      (λ i. ap Some (one_import_path p d v.items path own i)),
    )
