-- The list is in order.
use Rattle.std.proofs.Common.{◌≡◌, List, ℕ, MatchOption, sym, ap, subst, ◌∙◌}
use Rattle.std.specs.List.{Contains}
use Rattle.std.specs.List.Sorted.{IsStrictlySortedBy}
use Rattle.base_files.specs.Workspace.{path_cmp}
use Rattle.history_machine.specs.PathPlaces.{IsOnlyPlace}
use Rattle.history_machine.proofs.path_list.PathList.number_of.Goals as goal

pub place_of-requires : goal.place_of-requires
place_of-requires c =
    subst (IsStrictlySortedBy path_cmp) (sym (c.deref-2.ensures.value ∙ ap (λ paths. paths.items) c.deref.ensures)) c.self.invariant

pub returns : goal.returns
returns c =
    let is : c.deref-2.result.now ≡ c.args.self.now = c.deref-2.ensures.value ∙ ap (λ paths. paths.items) c.deref.ensures ∙ c.self.view_is in
    subst (λ (paths : List (List ℕ)). MatchOption c.place_of.result (Contains paths c.args.path.now → ⊥) (λ number. IsOnlyPlace paths c.args.path.now number))
    is c.place_of.ensures
