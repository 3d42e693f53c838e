-- The answers to the goals of `member_uses::add_member_use`.
use Rattle.std.proofs.Common.{sym, ◌∙◌}
use Rattle.std.proofs.lemmas.Bool.{false≢true}
use Rattle.types_expr.specs.Found.{use_of}
use Rattle.types_declared.specs.PackageView.{package_of}
use Rattle.refs_binding.specs.Members.{definitions_seen}
use Rattle.refs_binding.proofs.MemberPlaces.{use_added, use_skipped}
use Rattle.refs_uses.proofs.member_uses.add_member_use.Goals as goal

pub returns-then-is_member_use : goal.returns-then-is_member_use
returns-then-is_member_use c =
    use_added (definitions_seen c.args.of.now.unit c.args.of.now.own.now) (package_of c.args.of.now.unit) c.args.file c.args.declaration.now
    (use_of c.args.member.now)
    c.args.found.now.items c.add_token.new.found.items c.add_token.result
    (c.is_member_use.ensures.0 c.if-is_member_use.true) c.add_token.ensures

pub returns-else-is_member_use : goal.returns-else-is_member_use
returns-else-is_member_use c =
    use_skipped (definitions_seen c.args.of.now.unit c.args.of.now.own.now) (package_of c.args.of.now.unit) c.args.file c.args.declaration.now
    (use_of c.args.member.now)
    c.args.found.now.items
    (λ e. false≢true (sym c.if-is_member_use.false ∙ c.is_member_use.ensures.1 e))
