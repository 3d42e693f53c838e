-- Deciding whether a path is in a list, and facts on each package by its number.
use Rattle.std.proofs.Common.{◌≡◌, ℕ, zero, suc, Bool, true, false, ◌||◌, List, [], ◌∷◌, get_or, Some, slice_get, refl, ap, ◌∙◌, arith}
use Rattle.std.specs.Ordering.{eq_by_cmp, is_eq}
use Rattle.std.specs.Cmp.{tied_itself}
use Rattle.std.specs.List.{All, Contains, list_any}
use Rattle.std.proofs.lemmas.Option.{slice_get-get_or}
use Rattle.std.proofs.Math.Bool.{or-true}
use Rattle.base_files.specs.Workspace.{path_cmp}
use Rattle.base_files.proofs.WorkspaceLaws.{path_cmp_total}
use Rattle.workspace_graph.specs.declared.package.ParsedPackage.{ParsedPackage}

-- ---- whether a path is among some

pub any_of : (q : List ℕ) (ks : List (List ℕ)) → Contains ks q → list_any (eq_by_cmp path_cmp q) ks ≡ true
any_of q [] has = absurd (omega (arith, has.1))
any_of q (k ∷ ks) (zero, within, is) = ap (λ b. b || list_any (eq_by_cmp path_cmp q) ks)
    (ap (eq_by_cmp path_cmp q) is ∙ ap is_eq (tied_itself path_cmp_total q))
any_of q (k ∷ ks) (suc i, within, is) = ap (λ b. eq_by_cmp path_cmp q k || b) (any_of q ks (i, omega (arith, within), is)) ∙ or-true _

pub all_at : (P : ParsedPackage → Type 0) (ps : List ParsedPackage) → ((i : ℕ) (p : ParsedPackage) → slice_get ps i ≡ Some p → P p) → All P ps
all_at P ps each i d within = each i (get_or ps i d) (slice_get-get_or ps i d within)
