-- The answers to the goals of `lookup::renamed_method`.
use Rattle.std.proofs.Common.{ℕ, ◌∙◌, arith, subst, sym}
use Rattle.std.specs.Prelude.{Contains, List}
use Rattle.std.proofs.lemmas.List.{take_all}
use Rattle.std.proofs.lemmas.List.Elements.{Contains-get_or}
use Rattle.refactor_members.specs.Naming.{IsOwnMethod}
use Rattle.refactor_members.specs.declared.member_rename.RenamedMember.{RenamedMember}
use Rattle.refactor_members.proofs.MemberLists.{method_of_one, none_further, none_passed_yet, rank_not_found}
use Rattle.refactor_members.proofs.lookup.renamed_method.Goals as goal

pub loop-member-init : goal.loop-member-init
loop-member-init c = none_passed_yet (λ (x : RenamedMember). (rank : ℕ) × IsOwnMethod c.args.of.now x rank)

pub returns-then-is_some : goal.returns-then-is_some
returns-then-is_some c =
    method_of_one c.args.m.now c.args.of.now c.member-item.result
    (subst (Contains c.args.m.now.members.now) (sym c.member-item.is)
    (Contains-get_or c.args.m.now.members.now c.loop-member.member-index c.member-item.result c.loop-member-test.true)) c.own_renamed_method-own.result
    (sym c.is_some.ensures ∙ c.if-is_some.true) c.own_renamed_method-own.ensures

pub loop-member-preserved : goal.loop-member-preserved
loop-member-preserved c =
    none_further (λ (x : RenamedMember). (rank : ℕ) × IsOwnMethod c.args.of.now x rank) c.args.m.now.members.now c.loop-member.member-index
    c.member-item.result c.loop-member-test.true c.member-item.is c.loop-member.invariant
    (λ k. rank_not_found (IsOwnMethod c.args.of.now c.member-item.result) c.own_renamed_method-own.result (sym c.is_some.ensures ∙ c.if-is_some.false)
    c.own_renamed_method-own.ensures k.0 k.1)

pub returns : goal.returns
returns c =
    let all = take_all c.loop-member.member-index c.args.m.now.members.now (omega (arith, c.loop-member-test.false)) in
    λ rank k. subst (λ (l : List RenamedMember). (x : RenamedMember) → Contains l x → (n : ℕ) × IsOwnMethod c.args.of.now x n → ⊥) all c.loop-member.invariant
    k.member k.among (rank, k.is_own)
