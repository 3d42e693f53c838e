-- The mark of the package in the folder of a file.
use Rattle.std.proofs.Common.{inl, inr, List, ℕ, [], ◌∷◌, sym, subst}
use Rattle.std.specs.Prelude.{Bool, Contains}
use Rattle.base_lemmas.proofs.Elements.{nothing_in, first_in, first_or_later}
use Rattle.base_files.specs.Path.{folder}
use Rattle.base_files.specs.Workspace.{Workspace}
use Rattle.workspace_graph.proofs.ByPath.{number}
use Rattle.build_carry.specs.Changes.{MarkFolders}
use Rattle.refactor_affected.specs.Renames.{IsOwnPath}
use Rattle.refactor_affected.specs.Steps.{MarkPackages}

pub own_marked : (w : Workspace) (file : List ℕ) (marks : List Bool) → MarkFolders w (folder file ∷ []) marks → MarkPackages w (IsOwnPath file) marks
own_marked w file marks h p there = (
  λ m. elim (first_or_later (folder file) [] p ((h.each m.number p m.has_path).0 m.marked)) [
    | inl same ↦ sym same
    | inr none ↦ absurd (nothing_in p none)
  ],
  λ own.
      let n = number w p there in
      record { number = n.0; has_path = n.1; marked = (h.each n.0 p n.1).1 (subst (Contains (folder file ∷ [])) (sym own) (first_in (folder file) [])) },
)
