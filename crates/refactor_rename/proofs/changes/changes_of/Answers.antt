-- The answers to the goals of `changes::changes_of`.
use Rattle.std.proofs.Common.{ℕ, List, sym, subst}
use Rattle.std.specs.Prelude.{Contains, ◌↔◌}
use Rattle.refactor_rename.specs.Changes.{IsPathToEdit}
use Rattle.refactor_rename.proofs.changes.changes_of.Goals as goal

pub changes_in-requires-clause-each : goal.changes_in-requires-clause-each
changes_in-requires-clause-each c =
    subst (λ (ps : List (List ℕ)). (q : List ℕ) → Contains ps q ↔ IsPathToEdit c.args.renamed.now q) (sym c.as_slice.ensures.value) c.in_ok-paths.ensures.each
