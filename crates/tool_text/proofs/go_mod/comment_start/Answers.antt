-- The answers to the goals of `go_mod::comment_start`.
use Rattle.std.proofs.Common.{◌≡◌, ◌∙◌, ◌+◌, ◌∷◌, [], ℕ, List, arith, ap, drop, false, get_or, refl, suc, sym, drop-cons}
use Rattle.std.specs.List.{starts_with}
use Rattle.std.specs.Prelude.{nat_eq}
use Rattle.tool_text.specs.GoMod.{comment_start}
use Rattle.tool_text.proofs.Cuts.{tail_is}
use Rattle.tool_text.proofs.go_mod.comment_start.Goals as goal

-- no comment begins at this byte
no_comment : (line rest : List ℕ) (byte : ℕ) → line ≡ byte ∷ rest → starts_with nat_eq line (47 ∷ 47 ∷ []) ≡ false → comment_start line ≡ 1 + comment_start rest
no_comment line rest byte e h = let starts : starts_with nat_eq (byte ∷ rest) (47 ∷ 47 ∷ []) ≡ false = ap (λ l. starts_with nat_eq l (47 ∷ 47 ∷ [])) (sym e)
    ∙ h in
    ap comment_start e ∙ rw starts refl

pub loop-at-preserved : goal.loop-at-preserved
loop-at-preserved c =
    let at = c.loop-at.at in
    let line = c.args.line.now in
    let first : drop at line ≡ get_or line at 0 ∷ drop (suc at) line = drop-cons line at 0 c.loop-at-test.true in
    let next : suc at ≡ at + 1 = omega arith in
    let rest : drop (suc at) line ≡ drop (at + 1) line = ap (λ k. drop k line) next in
    let more : drop at line ≡ get_or line at 0 ∷ drop (at + 1) line = first ∙ ap (λ l. get_or line at 0 ∷ l) rest in
    let marks : List ℕ = 47 ∷ 47 ∷ [] in
    let starts : starts_with nat_eq (drop at line) marks ≡ false =
    ap (λ l. starts_with nat_eq l marks) (tail_is at line) ∙ (sym c.starts_with.ensures.value ∙ c.if-not-starts_with.true) in
    let step : comment_start (drop at line) ≡ 1 + comment_start (drop (at + 1) line) = no_comment _ _ _ more starts in
    let passed = c.loop-at.invariant.passed in
    let test = c.loop-at-test.true in
    record {
      within = omega (arith, test);
      passed = omega (arith, passed, step);
    }
