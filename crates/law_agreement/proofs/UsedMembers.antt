-- In a workspace without faults a member that is used is declared by a name, which begins somewhere.
use Rattle.std.proofs.Common.{sym, subst, ◌∙◌}
use Rattle.base_files.specs.Workspace.{Workspace}
use Rattle.go_ast.specs.SourceFile.{spelling_of}
use Rattle.types_expr.specs.declared.symbol.Symbol.{Symbol}
use Rattle.types_expr.specs.World.{Definition}
use Rattle.types_declared.specs.Definitions.{AreDefinitions}
use Rattle.types_declared.specs.Package.{Package}
use Rattle.workspace_check.specs.Verdicts.{Verdicts, AreVerdicts}
use Rattle.refs_binding.specs.declared.declaration.Declaration.{Declaration}
use Rattle.refs_binding.specs.declared.declaration.Declaration.TheVariants.{Predeclared, Declared, Field, Method}
use Rattle.refs_binding.specs.Uses.{IsCheckedPackage}
use Rattle.refs_lookup.proofs.OwnedMembers.{IsOwned, member_owned}
use Rattle.law_renamed_workspaces.proofs.NamedMembers.{members_named}
use Rattle.law_agreement.proofs.Premises.{IsDeclaredByName, UsedMembersAreDeclared}

-- what a package of the closure owns has a name there
owned_named : (w : Workspace) (known : Verdicts) (right : AreVerdicts w known) (p : Package) (is : IsCheckedPackage w known p) (definitions : Symbol →
    Definition)
    (are : AreDefinitions p definitions) (d : Declaration) → IsOwned w known right p is definitions are d → IsDeclaredByName w known d
owned_named w known right p is definitions are (Predeclared n) o = absurd o
owned_named w known right p is definitions are (Declared path n) o = absurd o
owned_named w known right p is definitions are (Field s) o =
    let n = (members_named w known o.inside o.is_package).fields s.rank o.counts in
    record {
      inside = o.inside;
      is_package = o.is_package;
      user = n.user;
      place = n.place;
      begins = n.begins;
      declares = (sym o.of_path, n.named);
    }
owned_named w known right p is definitions are (Method s) o =
    let n = (members_named w known o.inside o.is_package).methods s.rank o.counts in
    record {
      inside = o.inside;
      is_package = o.is_package;
      user = n.user;
      place = n.place;
      begins = n.begins;
      declares = (sym o.of_path, n.named);
    }

pub used_declared : UsedMembersAreDeclared
used_declared w sound known right p is u d b =
    let world = b.judged.judged_by in
    let token = (p.layout.place u).index in
    let owned = member_owned w known right p is world.definitions world.are_definitions (spelling_of b.judged.source token) b.found.before b.member
    (sym (world.member token b.found.before) ∙ b.is_member) in
    owned_named w known right p is world.definitions world.are_definitions d
    (subst (λ x. IsOwned w known right p is world.definitions world.are_definitions x) b.declares owned)
