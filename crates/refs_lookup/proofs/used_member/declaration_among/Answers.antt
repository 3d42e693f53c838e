-- The answers to the goals of `used_member::declaration_among`.
use Rattle.std.proofs.Common.{◌≡◌, ◌∙◌, length, sym, subst, arith}
use Rattle.std.specs.Prelude.{map}
use Rattle.std.proofs.Math.ListN.{length-map}
use Rattle.types_expr.specs.Found.{use_of}
use Rattle.types_declared.specs.PackageView.{package_of}
use Rattle.refs_binding.specs.Members.{definitions_seen, IsMemberIf}
use Rattle.refs_binding.specs.Steps.{IsDeclarationResult}
use Rattle.refs_binding.proofs.MemberPlaces.{use_at, none_next, none_among, one_among}
use Rattle.refs_lookup.proofs.used_member.declaration_among.Goals as goal

pub loop-k-preserved : goal.loop-k-preserved
loop-k-preserved c =
    let ds = definitions_seen c.args.unit c.args.own.now in
    let p = package_of c.args.unit in
    let k = c.loop-k.k in
    let x = c.index-uses-k.result in
    none_next ds p c.args.file c.args.token (map use_of c.args.uses.now) k (use_of x) (use_at c.args.uses.now k x (omega arith) c.index-uses-k.is)
    (subst (IsDeclarationResult (IsMemberIf ds p c.args.file c.args.token (use_of x))) c.in-None.is c.in_ok-declaration_if.ensures) c.loop-k.invariant

pub returns-in-Some : goal.returns-in-Some
returns-in-Some c =
    let ds = definitions_seen c.args.unit c.args.own.now in
    let p = package_of c.args.unit in
    let k = c.loop-k.k in
    let x = c.index-uses-k.result in
    one_among ds p c.args.file c.args.token (map use_of c.args.uses.now) k (use_of x) c.in-Some.declaration
    (use_at c.args.uses.now k x (omega arith) c.index-uses-k.is)
    (subst (IsDeclarationResult (IsMemberIf ds p c.args.file c.args.token (use_of x))) c.in-Some.is c.in_ok-declaration_if.ensures)

pub returns : goal.returns
returns c =
    let e : c.loop-k.k ≡ length c.args.uses.now = omega arith in
    none_among (definitions_seen c.args.unit c.args.own.now) (package_of c.args.unit) c.args.file c.args.token (map use_of c.args.uses.now) c.loop-k.k
    (e ∙ sym (length-map c.args.uses.now use_of)) c.loop-k.invariant
