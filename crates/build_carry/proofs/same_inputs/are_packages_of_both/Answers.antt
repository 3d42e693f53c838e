-- One package more of both, and all of them at the end.
use Rattle.std.proofs.Common.{ℕ, ◌<◌, List, [], length, get_or, refl, sym, ◌∙◌, arith}
use Rattle.std.proofs.lemmas.Bool.{true≢false}
use Rattle.std.proofs.lemmas.Option.{slice_get-get_or}
use Rattle.base_files.specs.Packages.{package_paths}
use Rattle.build_carry.proofs.SameInputs.{next_alike, all_alike}
use Rattle.build_carry.proofs.same_inputs.are_packages_of_both.Goals as goal

pub returns-then-len-numbers : goal.returns-then-len-numbers
returns-then-len-numbers c = (
  λ t. absurd (true≢false (sym t)),
  λ are. absurd (c.if-len-numbers.true (c.len.ensures ∙ are.0.size)),
)

pub returns-then-len-numbers-2 : goal.returns-then-len-numbers-2
returns-then-len-numbers-2 c = (
  λ t. absurd (true≢false (sym t)),
  λ are. absurd (c.if-len-numbers-2.true (c.len-2.ensures ∙ are.1.size)),
)

pub is_package_of_both-requires : goal.is_package_of_both-requires
is_package_of_both-requires c = record {
  number = c.requires c.loop-place.place 0 (omega arith);
  first = omega (arith, c.len.ensures, c.if-len-numbers.false);
  second = omega (arith, c.len-2.ensures, c.if-len-numbers-2.false);
}

pub loop-place-preserved : goal.loop-place-preserved
loop-place-preserved c =
    let w = c.args.graph.now in
    let numbers = c.args.numbers.now in
    let k = c.loop-place.place in
    let m = get_or numbers k 0 in
    let here = slice_get-get_or numbers k 0 (omega arith) in
    let a : List ℕ = get_or (package_paths c.args.first.now) k [] in
    let b : List ℕ = get_or (package_paths c.args.second.now) k [] in
    let first = slice_get-get_or (package_paths c.args.first.now) k [] (omega (arith, c.len.ensures, c.if-len-numbers.false)) in
    let second = slice_get-get_or (package_paths c.args.second.now) k [] (omega (arith, c.len-2.ensures, c.if-len-numbers-2.false)) in
    record {
      first = next_alike w numbers c.args.first.now k m here
          (λ p at q there. ((c.is_package_of_both.ensures p q b at there second).0 c.if-not-is_package_of_both.false).0) c.loop-place.invariant.first;
      second = next_alike w numbers c.args.second.now k m here
          (λ p at q there. ((c.is_package_of_both.ensures p a q at first there).0 c.if-not-is_package_of_both.false).1) c.loop-place.invariant.second;
    }

pub returns-then-not-is_package_of_both : goal.returns-then-not-is_package_of_both
returns-then-not-is_package_of_both c =
    let w = c.args.graph.now in
    let numbers = c.args.numbers.now in
    let k = c.loop-place.place in
    let n = get_or numbers k 0 in
    let within : n < length (package_paths w) = c.requires k 0 (omega arith) in
    let p : List ℕ = get_or (package_paths w) n [] in
    let a : List ℕ = get_or (package_paths c.args.first.now) k [] in
    let b : List ℕ = get_or (package_paths c.args.second.now) k [] in
    let at = slice_get-get_or (package_paths w) n [] within in
    let first = slice_get-get_or (package_paths c.args.first.now) k [] (omega (arith, c.len.ensures, c.if-len-numbers.false)) in
    let second = slice_get-get_or (package_paths c.args.second.now) k [] (omega (arith, c.len-2.ensures, c.if-len-numbers-2.false)) in
    let number = slice_get-get_or numbers k 0 (omega arith) in (
      λ t. absurd (true≢false (sym t)),
      λ are. absurd (true≢false (sym ((c.is_package_of_both.ensures p a b at first second).1 (
        are.0.each k n p a number at first,
        are.1.each k n p b number at second,
      )) ∙ c.if-not-is_package_of_both.true)),
    )

pub returns : goal.returns
returns c = (
  λ _. (
    all_alike c.args.graph.now c.args.numbers.now c.args.first.now c.loop-place.place (sym c.len.ensures ∙ c.if-len-numbers.false) (omega arith)
        c.loop-place.invariant.first,
    all_alike c.args.graph.now c.args.numbers.now c.args.second.now c.loop-place.place (sym c.len-2.ensures ∙ c.if-len-numbers-2.false) (omega arith)
        c.loop-place.invariant.second,
  ),
  λ _. refl,
)
