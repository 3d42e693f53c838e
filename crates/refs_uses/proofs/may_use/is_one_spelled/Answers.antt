-- The answers to the goals of `may_use::is_one_spelled`.
use Rattle.std.proofs.Common.{◌≡◌, ◌<◌, subst, sym, ◌∙◌, length, below_more, refl, arith}
use Rattle.std.specs.Prelude.{map, slice_get}
use Rattle.std.proofs.lemmas.Bool.{false≢true}
use Rattle.std.proofs.lemmas.Option.{same_Some, slice_get_read}
use Rattle.go_ast.specs.SourceFile.{source_of}
use Rattle.types_expr.specs.declared.found.MemberUse.{MemberUse as FoundUse}
use Rattle.types_declared.specs.Package.{spelled_at}
use Rattle.refs_uses.proofs.may_use.is_one_spelled.Goals as goal

pub loop-member-preserved : goal.loop-member-preserved
loop-member-preserved c =
    let uses = c.args.uses.now in
    let x = c.member-item.result in
    let at = slice_get_read uses (length uses) c.loop-member.member-index x refl c.loop-member-test.true c.member-item.is in
    below_more _ _ c.loop-member.invariant
    (λ u has spelled. false≢true (sym c.if-is_spelled.false ∙ c.is_spelled.ensures.1
    (subst (λ (y : FoundUse). spelled_at (slice_get (map source_of c.args.files.now) c.args.file) y.place ≡ c.args.name.now)
    (same_Some u x (sym has ∙ at)) spelled)))

pub returns : goal.returns
returns c = λ e u has.
    let uses = c.args.uses.now in
    let lt : has.0 < length uses = has.1 in
    c.loop-member.invariant has.0 (omega (arith, c.loop-member-test.false)) u (slice_get_read uses (length uses) has.0 u refl lt (sym has.2))
