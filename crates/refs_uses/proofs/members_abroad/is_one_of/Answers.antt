-- The answers to the goals of `members_abroad::is_one_of`.
use Rattle.std.proofs.Common.{◌≡◌, List, ◌∙◌, arith, refl, subst, sym}
use Rattle.std.specs.Prelude.{Contains}
use Rattle.std.proofs.lemmas.Bool.{false≢true}
use Rattle.std.proofs.lemmas.List.{take_all}
use Rattle.std.proofs.lemmas.List.Elements.{Contains-get_or}
use Rattle.types_expr.specs.WorldView.{member_of}
use Rattle.refs_binding.specs.declared.declaration.Declaration.{Declaration}
use Rattle.refs_binding.specs.Binding.{declaration_of}
use Rattle.refs_uses.proofs.SomeMembers.{each_more, each_none}
use Rattle.refs_uses.proofs.members_abroad.is_one_of.Goals as goal

pub loop-declaration-init : goal.loop-declaration-init
loop-declaration-init c = each_none (λ (d : Declaration). d ≡ declaration_of (member_of c.args.member) → ⊥)

pub returns-then-is_of : goal.returns-then-is_of
returns-then-is_of c = (
  (λ t. subst (Contains c.args.set.now) (sym (c.is_of.ensures.0 c.if-is_of.true))
      (subst (Contains c.args.set.now) (sym c.declaration-item.is)
      (Contains-get_or c.args.set.now c.loop-declaration.declaration-index c.declaration-item.result c.loop-declaration-test.true))),
  (λ among. refl),
)

pub loop-declaration-preserved : goal.loop-declaration-preserved
loop-declaration-preserved c =
    each_more (λ (d : Declaration). d ≡ declaration_of (member_of c.args.member) → ⊥) c.args.set.now c.loop-declaration.declaration-index
    c.declaration-item.result c.loop-declaration-test.true c.declaration-item.is c.loop-declaration.invariant
    (λ e. false≢true (sym c.if-is_of.false ∙ c.is_of.ensures.1 (sym e)))

pub returns : goal.returns
returns c =
    let m = declaration_of (member_of c.args.member) in
    let all = take_all c.loop-declaration.declaration-index c.args.set.now (omega (arith, c.loop-declaration-test.false)) in
    let none = subst (λ (l : List Declaration). (d : Declaration) → Contains l d → d ≡ m → ⊥) all c.loop-declaration.invariant in (
      (λ t. absurd (false≢true t)),
      (λ among. absurd (none m among refl)),
    )
