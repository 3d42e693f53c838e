-- The answers to the goals of `declaration_at_byte::member_declaration`.
use Rattle.std.proofs.Common.{inl, subst}
use Rattle.std.proofs.lemmas.Result.{IfOk-weaker}
use Rattle.types_declared.specs.PackageView.{package_of}
use Rattle.refs_binding.specs.Binding.{BindsByMember}
use Rattle.refs_binding.specs.Steps.{IsDeclarationResult}
use Rattle.refs_binding.proofs.Exporting.{named_or_none}
use Rattle.refs_lookup.proofs.declaration_at_byte.member_declaration.Goals as goal

pub returns-in-None : goal.returns-in-None
returns-in-None c =
    let p = package_of c.args.of.now.unit in
    IfOk-weaker c.declaration_by_name.result _ _
    (λ o h. named_or_none p c.args.u (subst (IsDeclarationResult (BindsByMember p c.args.u)) c.in-None.is c.in_ok-declaration_by_member.ensures) o h)
    c.declaration_by_name.ensures

pub returns-in-Some : goal.returns-in-Some
returns-in-Some c = inl (subst (IsDeclarationResult (BindsByMember (package_of c.args.of.now.unit) c.args.u)) c.in-Some.is
    c.in_ok-declaration_by_member.ensures)
