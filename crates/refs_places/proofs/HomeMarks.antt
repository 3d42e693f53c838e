-- The packages of several declarations, marked one after the other.
use Rattle.std.proofs.Common.{◌≡◌, ℕ, ◌<◌, ◌+◌, ◌⊎◌, inl, inr, Bool, true, false, List, [], length, take, get_or, replicate, sym, ap, subst, ◌∙◌, ⊎_elim}
use Rattle.std.proofs.Math.ListN.{set}
use Rattle.std.specs.Prelude.{Contains, Option, Some, None, MatchOption, ◌↔◌, slice_get}
use Rattle.std.proofs.lemmas.Bool.{cases_eq}
use Rattle.std.proofs.lemmas.List.{length-replicate, length-set, get_or-set_same, get_or-set_other}
use Rattle.std.proofs.lemmas.Option.{none-some, same_Some, slice_get_within}
use Rattle.base_lemmas.proofs.Elements.{nothing_in}
use Rattle.base_files.specs.Packages.{package_paths}
use Rattle.base_files.specs.Workspace.{Workspace}
use Rattle.workspace_graph.specs.Search.{IsMarked}
use Rattle.workspace_graph.proofs.PackagePaths.{one_number, paths_sorted}
use Rattle.workspace_graph.proofs.ByPath.{at_contains}
use Rattle.workspace_graph.proofs.Reached.{none_in}
use Rattle.workspace_check.proofs.Members.{taken_or_next, still_taken, next_taken}
use Rattle.refs_binding.specs.declared.declaration.Declaration.{Declaration}
use Rattle.refs_places.specs.Outside.{declaring_path}
use Rattle.refs_places.specs.Homes.{HasNoHome, IsHomeOfSome, IsNumberOfHome, MarksHomes}

-- A declaration without a path has no package.
pub none_without_path : (w : Workspace) (d : Declaration) → None ≡ declaring_path d → HasNoHome w d
none_without_path w d none path some in_workspace = none-some path (none ∙ some)

-- The number of the package at the path of a declaration, or that there is none.
pub home_by_path : (w : Workspace) (d : Declaration) (path bytes : List ℕ) (found : Option ℕ) → declaring_path d ≡ Some path → bytes ≡ path →
    MatchOption found (Contains (package_paths w) bytes → ⊥) (λ number. slice_get (package_paths w) number ≡ Some bytes) →
    MatchOption found (HasNoHome w d) (λ number. IsNumberOfHome w d number)
home_by_path w d path bytes None of_path same none = λ other declares in_workspace.
    none (subst (Contains (package_paths w)) (same_Some _ _ (sym declares ∙ of_path) ∙ sym same) in_workspace)
home_by_path w d path bytes (Some number) of_path same there = record { path = path; has_number = there ∙ ap Some same; declares = of_path }

-- at first no package is marked
pub no_homes : (w : Workspace) (marks : List Bool) (n : ℕ) → marks ≡ replicate n false → n ≡ length (package_paths w) → MarksHomes w [] marks
no_homes w marks n is size = record {
  size = ap length is ∙ length-replicate n false ∙ size;
  each = λ number path at. ((λ marked. absurd (none_in marks n is number marked)), (λ home. absurd (nothing_in home.declaration home.among)));
}

-- One declaration `d` more, at the index `k`.
module _ (w : Workspace) (ds : List Declaration) (k : ℕ) (d : Declaration) (marks : List Bool) (lt : k < length ds) (is : d ≡ get_or ds k d)
    (so : MarksHomes w (take k ds) marks) where
  earlier : {path : List ℕ} → IsHomeOfSome (take k ds) path → IsHomeOfSome (take (k + 1) ds) path
  earlier x = record { declaration = x.declaration; among = still_taken ds k d x.declaration lt x.among; declares = x.declares }

  own : {path : List ℕ} → declaring_path d ≡ Some path → IsHomeOfSome (take (k + 1) ds) path
  own declares = record { declaration = d; among = subst (Contains (take (k + 1) ds)) (sym is) (next_taken ds k d lt); declares = declares }

  -- a package of one of them is that of one before, or of `d`
  before_or_own : {path : List ℕ} → IsHomeOfSome (take (k + 1) ds) path → IsHomeOfSome (take k ds) path ⊎ (declaring_path d ≡ Some path)
  before_or_own home = elim (taken_or_next ds k d home.declaration lt home.among) [
    | inl old ↦ inl (record { declaration = home.declaration; among = old; declares = home.declares })
    | inr same ↦ inr (ap declaring_path (is ∙ same) ∙ home.declares)
  ]

  -- where `d` has no package, no mark is added
  pub none_more : HasNoHome w d → MarksHomes w (take (k + 1) ds) marks
  none_more none = record {
    size = so.size;
    each = λ number path at. (
      (λ marked. earlier ((so.each number path at).0 marked)),
      (λ home. elim (before_or_own home) [
        | inl old ↦ (so.each number path at).1 old
        | inr here ↦ absurd (none path here (at_contains w number path at))
      ]),
    );
  }

  -- else the mark of this package
  pub one_more : (n : ℕ) → IsNumberOfHome w d n → MarksHomes w (take (k + 1) ds) (set marks n true)
  one_more n home = record {
    size = length-set marks n true ∙ so.size;
    each = λ i path at. ⊎_elim
        (λ (here : i ≡ n).
        let same : home.path ≡ path = same_Some _ _ (sym home.has_number ∙ ap (slice_get (package_paths w)) (sym here) ∙ at) in (
          (λ marked. own (home.declares ∙ ap Some same)),
          (λ some. subst (IsMarked (set marks n true)) (sym here) (get_or-set_same marks n true false within)),
        ))
        (λ (other : i ≡ n → ⊥).
        let same : get_or (set marks n true) i false ≡ get_or marks i false = get_or-set_other marks n i true false other in (
          (λ marked. earlier ((so.each i path at).0 (sym same ∙ marked))),
          (λ some. same ∙ elim (before_or_own some) [
            | inl old ↦ (so.each i path at).1 old
            | inr declares ↦
                let one : path ≡ home.path = same_Some _ _ (sym declares ∙ home.declares) in
                absurd (other (one_number (package_paths w) (paths_sorted w) i n home.path (at ∙ ap Some one) home.has_number))
          ]),
        ))
        (cases_eq i n);
  } where
    within : n < length marks
    within = subst (λ (m : ℕ). n < m) (sym so.size) (slice_get_within (package_paths w) n home.path home.has_number)
