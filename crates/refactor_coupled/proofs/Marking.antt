-- One type more that a search reaches.
use Rattle.std.proofs.Common.{ℕ, ◌≡◌, ◌<◌, ◌⊎◌, inl, inr, Bool, true, false, List, [], ◌∷◌, ◌++◌, length, get_or, sym, ap, subst, ◌∙◌, ⊎_elim}
use Rattle.std.proofs.Math.ListN.{set}
use Rattle.std.specs.Prelude.{Contains, Some, slice_get, ◌↔◌}
use Rattle.std.proofs.lemmas.Bool.{cases_eq}
use Rattle.std.proofs.lemmas.List.{length-set, get_or-set_same, get_or-set_other}
use Rattle.std.proofs.lemmas.List.Elements.{Contains-append_left, Contains-push, Contains-push_cases}
use Rattle.std.proofs.lemmas.Option.{slice_get_within}
use Rattle.types_declared.proofs.DeclaredPaths.{get_before}
use Rattle.base_edits.proofs.Ending.{pushed_get}
use Rattle.workspace_check.proofs.PackageFiles.{at_rank}
use Rattle.types_expr.specs.declared.symbol.Symbol.{Symbol}
use Rattle.workspace_graph.specs.Search.{IsMarked}
use Rattle.refactor_coupled.specs.Reached.{IsOrderOfMarks, ReachesOne}
use Rattle.refactor_coupled.specs.declared.coupling.Reached.{Reached}

module _ (marks : List Bool) (index : ℕ) (within : index < length marks) where
  pub marked_too : (other : ℕ) → IsMarked (set marks index true) other ↔ (IsMarked marks other ⊎ (other ≡ index))
  marked_too other = ⊎_elim
      (λ (here : other ≡ index). (
        (λ m. inr here),
        (λ m. subst (IsMarked (set marks index true)) (sym here) (get_or-set_same marks index true false within)),
      ))
      (λ (apart : other ≡ index → ⊥).
      let same : get_or (set marks index true) other false ≡ get_or marks other false = get_or-set_other marks index other true false apart in (
        (λ m. inl (sym same ∙ m)),
        (λ m. elim m [ inl was ↦ same ∙ was | inr here ↦ absurd (apart here) ]),
      ))
      (cases_eq other index)

pub place_stays : (order : List ℕ) (index step other : ℕ) → slice_get order step ≡ Some other → slice_get (order ++ index ∷ []) step ≡ Some other
place_stays order index step other at = get_before order index step (slice_get_within order step other at) ∙ at

-- the order of the marks, with one type more
module _ (old new : Reached) (index : ℕ) (called : new.called.items ≡ old.called.items) (order : new.order.items ≡ old.order.items ++ index ∷ [])
    (marks : new.marks.items ≡ set old.marks.items index true) (within : index < length old.marks.items) where
  each : (other : ℕ) → IsMarked new.marks.items other ↔ (IsMarked old.marks.items other ⊎ (other ≡ index))
  each other = subst (λ (l : List Bool). IsMarked l other ↔ (IsMarked old.marks.items other ⊎ (other ≡ index))) (sym marks)
      (marked_too old.marks.items index within other)

  module _ (off : IsMarked old.marks.items index → ⊥) (inside : index < length old.called.items) (o : IsOrderOfMarks old) where
    abbrev more : List ℕ
    more = old.order.items ++ index ∷ []

    not_placed : (step : ℕ) → slice_get old.order.items step ≡ Some index → ⊥
    not_placed step at = off ((o.marked index).1 (at_rank old.order.items step index at))

    placed_once : (i j other : ℕ) → slice_get more i ≡ Some other → slice_get more j ≡ Some other → i ≡ j
    placed_once i j other at_i at_j = elim (pushed_get old.order.items index other i at_i) [
      | inl i_old ↦ elim (pushed_get old.order.items index other j at_j) [
        | inl j_old ↦ o.once i j other i_old j_old
        | inr j_new ↦ absurd (not_placed i (i_old ∙ ap Some (sym j_new.1)))
      ]
      | inr i_new ↦ elim (pushed_get old.order.items index other j at_j) [
        | inl j_old ↦ absurd (not_placed j (j_old ∙ ap Some (sym i_new.1)))
        | inr j_new ↦ i_new.0 ∙ sym j_new.0
      ]
    ]

    marked_in_order : (other : ℕ) → IsMarked new.marks.items other ↔ Contains more other
    marked_in_order other = (
      (λ m. elim ((each other).0 m) [
        | inl was ↦ Contains-append_left old.order.items (index ∷ []) other ((o.marked other).0 was)
        | inr same ↦ subst (Contains more) (sym same) (Contains-push old.order.items index)
      ]),
      (λ has. elim (Contains-push_cases old.order.items index other has) [
        | inl was ↦ (each other).1 (inl ((o.marked other).1 was))
        | inr same ↦ (each other).1 (inr (sym same))
      ]),
    )

    inside_all : (other : ℕ) → Contains more other → other < length old.called.items
    inside_all other has = elim (Contains-push_cases old.order.items index other has) [
      | inl was ↦ o.inside other was
      | inr same ↦ subst (λ k. k < length old.called.items) same inside
    ]

    ordered : IsOrderOfMarks new
    ordered = record {
      size = ap length marks ∙ length-set old.marks.items index true ∙ o.size ∙ ap length (sym called);
      marked = λ other. subst (λ (l : List ℕ). IsMarked new.marks.items other ↔ Contains l other) (sym order) (marked_in_order other);
      inside = λ other has. subst (λ (l : List Symbol). other < length l) (sym called) (inside_all other (subst (λ (l : List ℕ). Contains l other) order has));
      once = λ i j other at_i at_j. placed_once i j other (ap (λ l. slice_get l i) (sym order) ∙ at_i) (ap (λ l. slice_get l j) (sym order) ∙ at_j);
    }

  pub reached_one : ReachesOne index old new
  reached_one = record {
    called = called;
    ordered = λ off inside o. ordered off inside o;
    places = λ step other at. ap (λ l. slice_get l step) order ∙ place_stays old.order.items index step other at;
    each = each;
  }
