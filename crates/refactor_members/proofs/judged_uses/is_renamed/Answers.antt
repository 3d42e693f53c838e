-- The answers to the goals of `judged_uses::is_renamed`.
use Rattle.std.proofs.Common.{◌≡◌, List, ◌∙◌, arith, refl, subst, sym}
use Rattle.std.specs.Prelude.{Contains}
use Rattle.std.proofs.lemmas.Bool.{false≢true}
use Rattle.std.proofs.lemmas.List.{take_all}
use Rattle.std.proofs.lemmas.List.Elements.{Contains-get_or}
use Rattle.types_expr.specs.WorldView.{member_of}
use Rattle.refs_binding.specs.Binding.{declaration_of}
use Rattle.refactor_members.specs.declared.member_rename.RenamedMember.{RenamedMember}
use Rattle.refactor_members.proofs.MemberLists.{none_further, none_passed_yet, member_of_renamed, renamed_of_member}
use Rattle.refactor_members.proofs.judged_uses.is_renamed.Goals as goal

pub loop-member-init : goal.loop-member-init
loop-member-init c = none_passed_yet (λ (x : RenamedMember). x.declaration.now ≡ declaration_of (member_of c.args.old))

pub returns-then-is_of : goal.returns-then-is_of
returns-then-is_of c = (
  (λ t. renamed_of_member c.args.m.now (declaration_of (member_of c.args.old)) c.member-item.result
      (subst (Contains c.args.m.now.members.now) (sym c.member-item.is)
      (Contains-get_or c.args.m.now.members.now c.loop-member.member-index c.member-item.result c.loop-member-test.true))
      (sym (c.is_of.ensures.0 c.if-is_of.true))),
  (λ among. refl),
)

pub loop-member-preserved : goal.loop-member-preserved
loop-member-preserved c =
    none_further (λ (x : RenamedMember). x.declaration.now ≡ declaration_of (member_of c.args.old)) c.args.m.now.members.now c.loop-member.member-index
    c.member-item.result c.loop-member-test.true c.member-item.is c.loop-member.invariant
    (λ e. false≢true (sym c.if-is_of.false ∙ c.is_of.ensures.1 (sym e)))

pub returns : goal.returns
returns c =
    let d = declaration_of (member_of c.args.old) in
    let all = take_all c.loop-member.member-index c.args.m.now.members.now (omega (arith, c.loop-member-test.false)) in
    let none = subst (λ (l : List RenamedMember). (x : RenamedMember) → Contains l x → x.declaration.now ≡ d → ⊥) all c.loop-member.invariant in (
      (λ t. absurd (false≢true t)),
      (λ among. let x = member_of_renamed c.args.m.now d among in absurd (none x.0 x.1 x.2)),
    )
