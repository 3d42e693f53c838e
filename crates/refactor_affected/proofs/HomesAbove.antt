-- The packages in whose closures a marked home is are those that the rename of a set affects.
use Rattle.std.proofs.Common.{Bool, List, [], sym, subst, ◌∙◌}
use Rattle.std.specs.Prelude.{Contains}
use Rattle.base_files.specs.Workspace.{Workspace}
use Rattle.workspace_graph.specs.Reaching.{ReachingMarks}
use Rattle.workspace_graph.proofs.ByPath.{number}
use Rattle.workspace_check.proofs.Closed.{to_package}
use Rattle.workspace_check.specs.FaultLists.{ListsFaults}
use Rattle.workspace_check.specs.Verdicts.{Verdicts, AreVerdicts}
use Rattle.refs_binding.specs.declared.declaration.Declaration.{Declaration}
use Rattle.refs_binding.specs.Uses.{IsCheckedPackage}
use Rattle.refs_places.specs.Homes.{IsHomeOfSome, MarksHomes}
use Rattle.refactor_coupled.specs.Coupling.{IsRenamedSet, RenamedWith}
use Rattle.law_implementing.proofs.AllDefinitions.{definitions_given}
use Rattle.refactor_affected.specs.Steps.{MarksAboveSet}

-- what is renamed with a declaration is one set
same_members : (v : Workspace) (known : Verdicts) → AreVerdicts v known → ListsFaults v [] → (d : Declaration) (a b : List Declaration) →
    IsRenamedSet (IsCheckedPackage v known) d a → IsRenamedSet (IsCheckedPackage v known) d b → (e : Declaration) → Contains a e → Contains b e
same_members v known right sound d a b h k e has =
    let one = definitions_given v known right sound in
    let same = one.only h.definition h.are_definitions ∙ sym (one.only k.definition k.are_definitions) in
    (k.each e).1 (subst (λ f. RenamedWith f d e) same ((h.each e).0 has))

-- the packages in whose closures one of them is declared
pub homes_reached : (w v : Workspace) (known : Verdicts) → AreVerdicts v known → ListsFaults v [] → (d : Declaration) (set : List Declaration) →
    IsRenamedSet (IsCheckedPackage v known) d set → (homes marks : List Bool) → MarksHomes w set homes → ReachingMarks w homes marks →
    MarksAboveSet w (IsCheckedPackage v known) d marks
homes_reached w v known right sound d set is homes marks of are p there = (
  λ marked.
      let r = (are.each marked.number p marked.has_path).0 marked.marked in
      record { start = r.path; begins = (set, (is, (of.each r.number r.path r.has_path).0 r.marked)); in_closure = r.in_closure },
  λ affected.
      let n = number w p there in
      let home = number w affected.start (to_package w p affected.start affected.in_closure) in
      let begins = affected.begins in
      let among = same_members v known right sound d begins.0 set begins.1.0 is begins.1.1.declaration begins.1.1.among in
      let is_home : IsHomeOfSome set affected.start = record { declaration = begins.1.1.declaration; among = among; declares = begins.1.1.declares } in
      record {
        number = n.0;
        has_path = n.1;
        marked = (are.each n.0 p n.1).1 (record {
          number = home.0;
          path = affected.start;
          has_path = home.1;
          marked = (of.each home.0 affected.start home.1).1 is_home;
          in_closure = affected.in_closure;
        });
      },
)
