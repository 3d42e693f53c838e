-- The answers to the goals of `concerned::has_renamed`.
use Rattle.std.proofs.Common.{◌≡◌, ◌∙◌, arith, subst, sym}
use Rattle.std.specs.Prelude.{Contains, List, Some}
use Rattle.std.proofs.lemmas.Bool.{false≢true}
use Rattle.std.proofs.lemmas.List.{take_all}
use Rattle.refactor_members.specs.declared.member_rename.RenamedMember.{RenamedMember}
use Rattle.refactor_members.proofs.MemberLists.{none_further, none_passed_yet}
use Rattle.refactor_members.proofs.concerned.has_renamed.Goals as goal

pub loop-member-init : goal.loop-member-init
loop-member-init c = none_passed_yet (λ (x : RenamedMember). x.definition ≡ Some c.args.rank)

pub loop-member-preserved : goal.loop-member-preserved
loop-member-preserved c =
    none_further (λ (x : RenamedMember). x.definition ≡ Some c.args.rank) c.args.m.now.members.now c.loop-member.member-index c.member-item.result
    c.loop-member-test.true c.member-item.is c.loop-member.invariant (λ e. false≢true (sym c.if-is_rank.false ∙ c.is_rank.ensures.1 e))

pub returns : goal.returns
returns c =
    let all = take_all c.loop-member.member-index c.args.m.now.members.now (omega (arith, c.loop-member-test.false)) in
    λ none. subst (λ (l : List RenamedMember). (x : RenamedMember) → Contains l x → x.definition ≡ Some c.args.rank → ⊥) all c.loop-member.invariant
