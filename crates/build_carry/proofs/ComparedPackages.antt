-- Packages that differ between two workspaces, one after another.
use Rattle.std.proofs.Common.{◌≡◌, ℕ, ◌+◌, ◌<◌, ◌≤◌, List, [], ◌∷◌, ◌++◌, length, Some, slice_get, sym, subst, ◌∙◌, ⊎_elim, arith}
use Rattle.std.specs.List.{Contains}
use Rattle.std.proofs.lemmas.Bool.{cases_lt}
use Rattle.std.proofs.lemmas.List.Elements.{Contains-append_left, Contains-push, Contains-push_cases}
use Rattle.std.proofs.lemmas.Option.{same_Some, slice_get_within}
use Rattle.base_lemmas.proofs.Elements.{nothing_in}
use Rattle.base_files.specs.Packages.{package_paths}
use Rattle.base_files.specs.Workspace.{Workspace}
use Rattle.workspace_graph.proofs.ByPath.{at_contains, has_file, number}
use Rattle.workspace_check.proofs.PackageFiles.{package_file}
use Rattle.build_carry.specs.Changes.{AreChanged, HasSameFiles, ListsComing, ListsDiffering}

module _ (v w : Workspace) where
  pub differing_begin : ListsDiffering v w 0 []
  differing_begin = record {
    changed = λ q has. absurd (nothing_in q has);
    same = λ i q below at apart. absurd (omega (arith, below));
  }

  module _ (count : ℕ) (folders : List (List ℕ)) (p : List ℕ) (at_p : slice_get (package_paths v) count ≡ Some p) (so : ListsDiffering v w count folders) where
    pub differing_kept : HasSameFiles v w p → ListsDiffering v w (count + 1) folders
    differing_kept keeps = record {
      changed = so.changed;
      same = λ i q below at apart. ⊎_elim
          (λ (less : i < count). so.same i q less at apart)
          (λ (more : count ≤ i).
          let here : count ≡ i = omega (arith, below, more) in
          subst (HasSameFiles v w) (same_Some p q (sym at_p ∙ subst (λ k. slice_get (package_paths v) k ≡ Some q) (sym here) at)) keeps)
          (cases_lt i count);
    }

    pub differing_changed : (HasSameFiles v w p → ⊥) → ListsDiffering v w (count + 1) (folders ++ p ∷ [])
    differing_changed differs = record {
      changed = λ q has same. ⊎_elim
          (λ (before : Contains folders q). so.changed q before same)
          (λ (is : p ≡ q). differs (subst (HasSameFiles v w) (sym is) same))
          (Contains-push_cases folders p q has);
      same = λ i q below at apart. ⊎_elim
          (λ (less : i < count). so.same i q less at (λ has. apart (Contains-append_left folders (p ∷ []) q has)))
          (λ (more : count ≤ i).
          let here : count ≡ i = omega (arith, below, more) in
          let is : p ≡ q = same_Some p q (sym at_p ∙ subst (λ k. slice_get (package_paths v) k ≡ Some q) (sym here) at) in
          absurd (apart (subst (Contains (folders ++ p ∷ [])) is (Contains-push folders p))))
          (cases_lt i count);
    }

-- a package that only one workspace has
pub gone_there : (v w : Workspace) (p : List ℕ) → Contains (package_paths v) p → (Contains (package_paths w) p → ⊥) → HasSameFiles v w p → ⊥
gone_there v w p here none same =
    let e = package_file v p here in
    none (has_file w p e.0 ((same e.0).0 e.1))

pub other_here : (v w : Workspace) (p : List ℕ) → Contains (package_paths w) p → (Contains (package_paths v) p → ⊥) → HasSameFiles v w p → ⊥
other_here v w p there none same =
    let e = package_file w p there in
    none (has_file v p e.0 ((same e.0).1 e.1))

module _ (v w : Workspace) where
  pub listed_begin : (folders : List (List ℕ)) → ListsDiffering v w (length (package_paths v)) folders → ListsComing v w 0 folders
  listed_begin folders so = record { differing = so; coming = λ i q below at apart. absurd (omega (arith, below)) }

  module _ (count : ℕ) (folders : List (List ℕ)) (p : List ℕ) (at_p : slice_get (package_paths w) count ≡ Some p) (so : ListsComing v w count folders) where
    pub listed_old : Contains (package_paths v) p → ListsComing v w (count + 1) folders
    listed_old has = record {
      differing = so.differing;
      coming = λ i q below at apart. ⊎_elim
          (λ (less : i < count). so.coming i q less at apart)
          (λ (more : count ≤ i).
          let here : count ≡ i = omega (arith, below, more) in
          subst (Contains (package_paths v)) (same_Some p q (sym at_p ∙ subst (λ k. slice_get (package_paths w) k ≡ Some q) (sym here) at)) has)
          (cases_lt i count);
    }

    pub listed_new : (Contains (package_paths v) p → ⊥) → ListsComing v w (count + 1) (folders ++ p ∷ [])
    listed_new none = record {
      differing = record {
        changed = λ q has same. ⊎_elim
            (λ (before : Contains folders q). so.differing.changed q before same)
            (λ (is : p ≡ q). other_here v w p (at_contains w count p at_p) none (subst (HasSameFiles v w) (sym is) same))
            (Contains-push_cases folders p q has);
        same = λ i q below at apart. so.differing.same i q below at (λ has. apart (Contains-append_left folders (p ∷ []) q has));
      };
      coming = λ i q below at apart. ⊎_elim
          (λ (less : i < count). so.coming i q less at (λ has. apart (Contains-append_left folders (p ∷ []) q has)))
          (λ (more : count ≤ i).
          let here : count ≡ i = omega (arith, below, more) in
          let is : p ≡ q = same_Some p q (sym at_p ∙ subst (λ k. slice_get (package_paths w) k ≡ Some q) (sym here) at) in
          absurd (apart (subst (Contains (folders ++ p ∷ [])) is (Contains-push folders p))))
          (cases_lt i count);
    }

  -- when all packages were passed
  pub all_listed : (folders : List (List ℕ)) → ListsComing v w (length (package_paths w)) folders → AreChanged v w folders
  all_listed folders so = record {
    changed = so.differing.changed;
    same = λ q none e. (
      λ has. (of_v q none (has_file v q e has) e).0 has,
      λ has.
          let n = number w q (has_file w q e has) in
          (of_v q none (so.coming n.0 q (slice_get_within (package_paths w) n.0 q n.1) n.1 none) e).1 has,
    );
  }
    where
      of_v : (q : List ℕ) → (Contains folders q → ⊥) → Contains (package_paths v) q → HasSameFiles v w q
      of_v q none has = let n = number v q has in so.differing.same n.0 q (slice_get_within (package_paths v) n.0 q n.1) n.1 none
