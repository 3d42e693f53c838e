-- The answers to the goals of `reading::members_of`.
use Rattle.std.proofs.Common.{◌<◌, length, refl, sym, ap, subst, ◌∙◌}
use Rattle.std.specs.Prelude.{map}
use Rattle.std.proofs.lemmas.Option.{slice_get_read}
use Rattle.types_info.specs.MemberUses.{AreMemberUses, uses_in}
use Rattle.base_files.specs.Packages.{package_paths}
use Rattle.workspace_check.specs.declared.finding.Finding.{Finding}
use Rattle.refs_binding.specs.WorkspaceFindings.{WorkspaceFindings}
use Rattle.refs_binding.proofs.Units.{members_at}
use Rattle.refs_binding.proofs.reading.members_of.Goals as goal

pub returns : goal.returns
returns c = rw (← c.workspace.view_is) (λ p is.
    let w = c.workspace.inside.graph.now in
    let found = c.workspace.inside.findings.now in
    let sound = c.workspace.invariant in
    let within = subst (λ (v : WorkspaceFindings). c.args.number < length (package_paths v.graph)) (sym c.workspace.view_is) c.requires in
    let finding = c.index.result.now in
    let lt = subst (λ m. c.args.number < m) (sym sound.findings.size) within in
    let at = slice_get_read found.packages.items (length found.packages.items) c.args.number finding refl lt c.index.ensures in
    subst (λ members. AreMemberUses p (map uses_in members)) (sym (c.deref.ensures.value ∙ ap (λ (f : Finding). f.members.items) c.get.ensures))
    (members_at w found sound c.args.number finding at p is))
