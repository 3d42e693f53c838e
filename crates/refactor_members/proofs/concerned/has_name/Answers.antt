-- The answers to the goals of `concerned::has_name`.
use Rattle.std.proofs.Common.{◌≡◌, ◌<◌, ◌+◌, inl, inr, length, sym, subst, ◌∙◌, arith}
use Rattle.std.specs.Prelude.{Some, map, slice_get}
use Rattle.std.proofs.Math.ListN.{length-map}
use Rattle.std.proofs.lemmas.Bool.{cases_lt, false≢true}
use Rattle.std.proofs.lemmas.Option.{same_Some, slice_get_within}
use Rattle.go_ast.specs.SourceFile.{source_of, spelling_of}
use Rattle.types_expr.specs.declared.found.MemberUse.{MemberUse as FoundUse}
use Rattle.types_expr.specs.Found.{use_of}
use Rattle.types_expr.specs.Judge.{MemberUse}
use Rattle.refs_binding.proofs.MemberPlaces.{use_at}
use Rattle.refactor_members.proofs.concerned.has_name.Goals as goal

pub loop-k-init : goal.loop-k-init
loop-k-init c = λ k x lt at. let none : k < 0 = lt in absurd (omega (arith, none))

pub loop-k-preserved : goal.loop-k-preserved
loop-k-preserved c = λ k x lt at. elim (cases_lt k c.loop-k.k) [
  | inl less ↦ c.loop-k.invariant k x less at
  | inr ge ↦ (
      let below : k < c.loop-k.k + 1 = lt in
      let same : k ≡ c.loop-k.k = omega (arith, below, ge) in
      let here : slice_get (map use_of c.args.uses.now) c.loop-k.k ≡ Some (use_of c.index-uses-k.result) =
      use_at c.args.uses.now c.loop-k.k c.index-uses-k.result (omega arith) c.index-uses-k.is in
      let one : x ≡ use_of c.index-uses-k.result =
      same_Some x (use_of c.index-uses-k.result) (sym at ∙ subst (λ n. slice_get (map use_of c.args.uses.now) n ≡ Some (use_of c.index-uses-k.result))
      (sym same)
      here) in
      λ named. false≢true (sym c.if-is_spelled.false ∙ c.is_spelled.ensures.1
      (subst (λ (y : FoundUse). spelling_of (source_of c.args.file.now) y.place ≡ c.args.name.now) c.index-uses-k.is
      (subst (λ (y : MemberUse). spelling_of (source_of c.args.file.now) y.place ≡ c.args.name.now) one named))))
]

pub returns : goal.returns
returns c = λ none k x at.
    let size : length (map use_of c.args.uses.now) ≡ length c.args.uses.now = length-map c.args.uses.now use_of in
    let within : k < length (map use_of c.args.uses.now) = slice_get_within (map use_of c.args.uses.now) k x at in
    c.loop-k.invariant k x (omega (arith, within, size)) at
