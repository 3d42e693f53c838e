-- The answers to the goals of `swap::Swap::path`.
use Rattle.std.proofs.Common.{ℕ, List, ◌≡◌, ◌∙◌, subst}
use Rattle.std.specs.Prelude.{IfOk}
use Rattle.refactor_known.specs.Swaps.{IsBehind, map_of}
use Rattle.refactor_known.proofs.Paths.{comes_from, goes_to, stays_outside}
use Rattle.refactor_known.proofs.Results.{if_ok}
use Rattle.refactor_known.proofs.swap.Swap.path.Goals as goal

pub returns-in-Some : goal.returns-in-Some
returns-in-Some c =
    let behind = subst (λ f. IsBehind f c.args.path.now c.in-Some.rest.now) c.path.ensures
    (subst (λ p. IsBehind c.path.result.now p c.in-Some.rest.now) c.path-2.ensures c.in-Some.ensures) in
    subst (λ p. IfOk c.place.result (λ path. path ≡ p)) (goes_to c.args.self.now.from c.args.self.now.to c.args.path.now c.in-Some.rest.now behind)
    c.place.ensures

pub returns-in-Some-rest_behind : goal.returns-in-Some-rest_behind
returns-in-Some-rest_behind c =
    let out = subst (λ f. (rest : List ℕ) → IsBehind f c.args.path.now rest → ⊥) c.path.ensures
    (subst (λ p. (rest : List ℕ) → IsBehind c.path.result.now p rest → ⊥) c.path-2.ensures c.in-None.ensures) in
    let behind = subst (λ f. IsBehind f c.args.path.now c.in-Some-rest_behind.rest.now) c.path-in-None.ensures
    (subst (λ p. IsBehind c.path-in-None.result.now p c.in-Some-rest_behind.rest.now) c.path-in-None-2.ensures c.in-Some-rest_behind.ensures) in
    subst (λ p. IfOk c.place-in-Some-rest_behind.result (λ path. path ≡ p))
    (comes_from c.args.self.now.from c.args.self.now.to c.args.path.now c.in-Some-rest_behind.rest.now out behind) c.place-in-Some-rest_behind.ensures

pub returns-in-None-rest_behind : goal.returns-in-None-rest_behind
returns-in-None-rest_behind c =
    let out = subst (λ f. (rest : List ℕ) → IsBehind f c.args.path.now rest → ⊥) c.path.ensures
    (subst (λ p. (rest : List ℕ) → IsBehind c.path.result.now p rest → ⊥) c.path-2.ensures c.in-None.ensures) in
    let away = subst (λ f. (rest : List ℕ) → IsBehind f c.args.path.now rest → ⊥) c.path-in-None.ensures
    (subst (λ p. (rest : List ℕ) → IsBehind c.path-in-None.result.now p rest → ⊥) c.path-in-None-2.ensures c.in-None-rest_behind.ensures) in
    if_ok c.clone.result (λ copy. copy ≡ c.args.path.now) (λ copy. copy ≡ map_of c.args.self.now c.args.path.now) _
    (λ x e. e ∙ stays_outside c.args.self.now.from c.args.self.now.to c.args.path.now out away) c.clone.ensures.cases
