-- The value is the new path of a package that moves, or does not concern the move.
use Rattle.std.proofs.Common.{◌++◌, Bool, Bor, List, ℕ, sym, subst, ◌∙◌}
use Rattle.std.specs.Prelude.{◌↔◌, Contains, IfOk, IsTrue, MatchOption}
use Rattle.std.proofs.lemmas.Result.{IfOk-weaker}
use Rattle.base_files.specs.Packages.{package_paths}
use Rattle.refactor_known.specs.Swaps.{IsBehind}
use Rattle.refactor_affected.specs.Starts.{ConcernsMove}
use Rattle.refactor_affected.proofs.Starting.{concerns_new, concerns_none, not_behind}
use Rattle.refactor_affected.proofs.starts.concerns.Goals as goal

pub returns-in-None : goal.returns-in-None
returns-in-None c =
    let from = c.args.moved.from.now in
    let path = c.args.path.now in
    let found = subst (λ (f : List ℕ). MatchOption c.rest_in.result ((rest : List ℕ) → IsBehind f path rest →
    ⊥) (λ (rest : Bor (List ℕ)). IsBehind f path rest.now))
    (c.as_bytes-from.ensures.value ∙ c.as_str.ensures.text) c.rest_in.ensures in
    let outside = not_behind from path c.rest_in.result found (sym c.is_some.ensures ∙ c.if-is_some.false) in
    let beside = subst (λ (f : List ℕ). (rest : List ℕ) → IsBehind f path rest → ⊥) (c.as_bytes.ensures.value ∙ c.as_str-2.ensures.text) c.in-None.ensures in
    concerns_none c.args.graph.now from c.args.moved.to.now path outside beside

pub returns-in-Some : goal.returns-in-Some
returns-in-Some c =
    let w = c.args.graph.now in
    let from = c.args.moved.from.now in
    let to = c.args.moved.to.now in
    let path = c.args.path.now in
    let rest = c.in-Some.rest.now in
    let bytes = c.as_bytes-from.ensures.value ∙ c.as_str.ensures.text in
    let found = subst (λ (f : List ℕ). MatchOption c.rest_in.result ((rest : List ℕ) → IsBehind f path rest →
    ⊥) (λ (rest : Bor (List ℕ)). IsBehind f path rest.now))
    bytes c.rest_in.ensures in
    let outside = not_behind from path c.rest_in.result found (sym c.is_some.ensures ∙ c.if-is_some.false) in
    let behind = subst (λ (f : List ℕ). IsBehind f path rest) (c.as_bytes.ensures.value ∙ c.as_str-2.ensures.text) c.in-Some.ensures in
    IfOk-weaker c.is_package.result (λ (is : Bool). IsTrue is ↔ Contains (package_paths w) (from ++ rest)) (λ (is : Bool). IsTrue is ↔ ConcernsMove w from
    to path)
    (λ is h. concerns_new w from to path rest outside behind is h)
    (subst (λ (f : List ℕ). IfOk c.is_package.result (λ (is : Bool). IsTrue is ↔ Contains (package_paths w) (f ++ rest))) bytes c.is_package.ensures)
