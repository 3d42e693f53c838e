-- The answers to the goals of `concerned::concerns`.
use Rattle.std.proofs.Common.{ℕ, ◌≡◌, ◌<◌, ◌+◌, inl, inr, List, length, refl, sym, subst, ◌∙◌, arith}
use Rattle.std.specs.Prelude.{Some, map, slice_get}
use Rattle.std.specs.Global.{Vec}
use Rattle.std.proofs.lemmas.Bool.{cases_lt}
use Rattle.std.proofs.lemmas.Option.{same_Some, slice_get_read}
use Rattle.go_ast.specs.SourceFile.{source_of}
use Rattle.types_expr.specs.declared.found.MemberUse.{MemberUse as FoundUse}
use Rattle.types_expr.specs.Found.{use_of}
use Rattle.types_expr.specs.Judge.{MemberUse}
use Rattle.refactor_members.specs.Judging.{AreUncalled, IsUncalled}
use Rattle.refactor_members.proofs.concerned.concerns.Goals as goal

pub loop-file-init : goal.loop-file-init
loop-file-init c = λ file v lt at k x has. let none : file < 0 = lt in absurd (omega (arith, none))

pub loop-file-preserved : goal.loop-file-preserved
loop-file-preserved c = λ file v lt at. elim (cases_lt file c.loop-file.file) [
  | inl less ↦ c.loop-file.invariant file v less at
  | inr ge ↦ (
      let m = c.args.m.now in
      let n = c.loop-file.file in
      let members = c.args.members.now in
      let files = map source_of c.args.files.now in
      let below : file < n + 1 = lt in
      let same : n ≡ file = omega (arith, below, ge) in
      let uses = c.index-members-file.result in
      let here : slice_get members n ≡ Some uses = slice_get_read members (length members) n uses refl (omega arith) c.index-members-file.is in
      let one : uses ≡ v = same_Some uses v (sym here ∙ subst (λ i. slice_get members i ≡ Some v) (sym same) at) in
      let Told : List FoundUse → Type 0 = λ l. (k : ℕ) (x : MemberUse) → slice_get (map use_of l) k ≡ Some x → IsUncalled m (slice_get files n) x.place in
      let told : Told uses.items = subst Told c.deref.ensures.value (c.concerns_at.ensures c.if-concerns_at.false) in
      subst (λ i. (k : ℕ) (x : MemberUse) → slice_get (map use_of v.items) k ≡ Some x → IsUncalled m (slice_get files i) x.place) same
      (subst (λ (y : Vec FoundUse). Told y.items) one told))
]

pub returns : goal.returns
returns c = λ none.
    let end : c.loop-file.file ≡ length c.args.members.now = omega arith in
    subst (λ n. AreUncalled c.args.m.now (map source_of c.args.files.now) n c.args.members.now) end c.loop-file.invariant
