-- The answers to the goals of `used_member::declaration_by_member`.
use Rattle.std.proofs.Common.{subst}
use Rattle.std.proofs.lemmas.Result.{IfOk-weaker}
use Rattle.types_declared.specs.PackageView.{package_of}
use Rattle.refs_binding.specs.Binding.{UsesMemberAt}
use Rattle.refs_binding.specs.Members.{definitions_seen}
use Rattle.refs_binding.specs.Steps.{IsDeclarationResult}
use Rattle.refs_binding.proofs.MemberParts.{seen_definitions, found_member}
use Rattle.refs_lookup.proofs.used_member.declaration_by_member.Goals as goal

pub returns : goal.returns
returns c =
    let p = package_of c.args.unit in
    let own = c.args.own.now in
    let at = c.place-at.result in
    IfOk-weaker c.declaration_among.result _ _
    (λ o h. subst (λ x. IsDeclarationResult (UsesMemberAt p x.file x.index) o) c.place-at.ensures
    (found_member p c.is_well_formed.ensures c.has_one_world.ensures (definitions_seen c.args.unit own) (seen_definitions c.args.unit own c.requires.own)
    c.args.members.now c.requires.members at.file at.index
    c.uses_of.result.now c.uses_of.ensures o h))
    c.declaration_among.ensures
