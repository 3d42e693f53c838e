-- The next row after the insertion of a package that is not merely shifted.
use Rattle.std.proofs.Common.{◌≡◌, ℕ, ◌+◌, ◌<◌, ◌≤◌, List, length, get_or, sym, subst, ⊎_elim, arith, refl}
use Rattle.std.specs.List.{Contains}
use Rattle.std.proofs.lemmas.Bool.{cases_lt}
use Rattle.workspace_graph.specs.Growth.{IsGrowing, IsStop}
use Rattle.workspace_graph.specs.Imports.{LinkTable}
use Rattle.workspace_graph.specs.Shifts.{Splits}
use Rattle.workspace_graph.proofs.Shifted.{passed_one_in, passed_to}

module _ (before : LinkTable) (place : ℕ) (linked : List ℕ) (index number end : ℕ) (growing : IsGrowing before place linked) (passed : Splits linked index
    number)
    (within : number ≤ length before + 1) (there : index < length linked → end ≡ get_or linked index 0)
    (behind : length linked ≤ index → end ≡ length before + 1) where
  end_from : number ≤ end
  end_from = ⊎_elim
      (λ (l : index < length linked). let least = passed.above index (omega arith) l in omega (arith, there l, least))
      (λ (g : length linked ≤ index). omega (arith, behind g, within))
      (cases_lt index (length linked))

  end_within : end ≤ length before + 1
  end_within = ⊎_elim
      (λ (l : index < length linked). let inside = growing.inside index 0 l in omega (arith, there l, inside))
      (λ (g : length linked ≤ index). omega (arith, behind g))
      (cases_lt index (length linked))

  pub stop_at_place : number ≤ place → place < end → IsStop place (length before + 1) linked index number place
  stop_at_place low high = record {
    from = low;
    within = omega (arith, growing.within);
    upto_place = λ _. omega arith;
    passed = passed_to linked index number place growing.rising passed low (λ l. omega (arith, there l, high));
    told = λ lt apart. absurd (apart refl);
  }

  pub stop_at_end : (number ≤ place → end ≤ place) → IsStop place (length before + 1) linked index number end
  stop_at_end low = record {
    from = end_from;
    within = end_within;
    upto_place = low;
    passed = passed_to linked index number end growing.rising passed end_from (λ l. omega (arith, there l));
    told = λ lt apart. ⊎_elim
        (λ (l : index < length linked). subst (Contains linked) (sym (there l)) (passed_one_in linked index (get_or linked index 0) l refl))
        (λ (g : length linked ≤ index). absurd (omega (arith, behind g, lt)))
        (cases_lt index (length linked));
  }
