-- Where a plain rename keeps all bindings, and brings no fault, uses of members and the names that declare members stay bound.
use Rattle.std.proofs.Common.{ℕ, ◌≡◌, List, ap, sym, subst, refl, ◌∙◌}
use Rattle.std.specs.Prelude.{Some, Contains, slice_get}
use Rattle.base_files.specs.Workspace.{Workspace}
use Rattle.base_files.specs.declared.place.Place.{Place}
use Rattle.base_edits.specs.EditSet.{FileChanges, change_of, edited}
use Rattle.base_edits.specs.Moved.{edits_by}
use Rattle.base_edits.specs.Revisions.{Revision}
use Rattle.base_edits.specs.RevisionsOfEdits.{revision_of}
use Rattle.go_ast.specs.SourceFile.{spelling_of}
use Rattle.go_scope.specs.declared.model.Position.{Position}
use Rattle.go_respelled.specs.Trees.{renamed_file}
use Rattle.types_stmt.specs.Checked.{FoundSoFar}
use Rattle.types_stmt.specs.Declarations.{check_file}
use Rattle.types_declared.specs.Package.{Package, spelled, spelled_at}
use Rattle.types_info.specs.Worlds.{is_init}
use Rattle.workspace_check.specs.Verdicts.{Verdicts}
use Rattle.refs_binding.specs.declared.declaration.Declaration.{Declaration}
use Rattle.refs_binding.specs.declared.declaration.Declaration.TheVariants.{Predeclared, Declared, Field, Method}
use Rattle.refs_binding.specs.Binding.{declaration_of}
use Rattle.refs_binding.specs.DeclaringPlaces.{TokenBegins}
use Rattle.refs_binding.specs.Identifiers.{BeginsAt, NameBegins, file_of}
use Rattle.refs_binding.specs.Uses.{IsCheckedPackage}
use Rattle.refs_binding.proofs.Folders.{some_file}
use Rattle.refactor_conflict.specs.MembersAfter.{IsMemberAfter}
use Rattle.refactor_conflict.specs.Staying.{StaysByMember, StaysByName}
use Rattle.law_faultless.proofs.PackageWorlds.{have_worlds}
use Rattle.law_faultless.proofs.WholeBound.{method_of}
use Rattle.law_renamed_workspaces.specs.Layouts.{IsToken}
use Rattle.law_renamed_workspaces.proofs.FilesAfter.{file_after}
use Rattle.law_renamed_workspaces.proofs.CountingMembers as counting
use Rattle.law_changed_types.proofs.Alike.{of_bound}
use Rattle.law_agreement.specs.Agreement.{KeepsSeenImplementing}
use Rattle.law_agreement.proofs.Premises.{IsKeptRename, KeptMembersStay}
use Rattle.law_agreement.proofs.UnboundStay.{field_counts, method_counts}
use Rattle.law_agreement.proofs.KeptUses.{q, is, relaid, stays, finds_same, same_members, use_selects}
use Rattle.types_expr.specs.Judge.{members_of}

module _ (w : Workspace) (known : Verdicts) (d : Declaration) (name : List ℕ) (s : FileChanges) (after : Verdicts)
    (kept : IsKeptRename w known d name s after) (p : Package) (was : IsCheckedPackage w known p) (u : ℕ) (place : Place)
    (begins : BeginsAt p place.path place.offset u) where
  abbrev r : Revision
  r = revision_of w s

  abbrev x : Workspace
  x = edited s w

  abbrev Known : Package → Type 0
  Known = IsCheckedPackage w known

  abbrev new : Package
  new = q w known d name s after kept p was

  abbrev at : Position
  at = p.layout.place u

  token : IsToken p at place
  token =
      let f = some_file (file_of p u) at.index place.path place.offset begins.1 in
      let there : NameBegins (Some f.0) at.index place.path place.offset =
      subst (λ o. NameBegins o at.index place.path place.offset) f.1.0 begins.1 in
      record {
        file = f.0;
        of_rank = f.1.0;
        is_name = there.0;
        begins = subst (λ o. TokenBegins o at.index place) (sym f.1.0) (there.1, there.2);
      }

  stays_by_member : KeepsSeenImplementing w known (revision_of w s) after → StaysByMember w known r p u place
  stays_by_member same_types old b =
      let f = b.judged.source in
      let v = b.judged.world in
      let g = renamed_file (edits_by (change_of s f.path)) f in
      let is_new = is w known d name s after kept p was in
      let lies = relaid w known d name s after kept p was in
      let to : slice_get new.files at.file ≡ Some g = file_after w known after d name s kept.rename p new was is_new lies.path at.file f b.judged.in_file in
      let z = have_worlds x kept.sound after kept.right new is_new at.file g to in
      let found = finds_same w known d name s after kept p was at.file f g v z.0 b.judged.in_file to b.judged.judged_by z.1 same_types in
      let among : Contains (members_of (check_file v (is_init f) f.tree).uses) b.found = subst (λ us. Contains us b.found) b.judged.found b.is_use in
      let among_now : Contains (members_of (check_file z.0 (is_init g) g.tree).uses) b.found =
      subst (λ (c : FoundSoFar). Contains (members_of c.uses) b.found) (sym found) among in
      let same = same_members w known d name s after kept p was at.file f g v z.0 b.judged.in_file to b.judged.judged_by z.1 b.found b.found among among_now
      refl refl in
      let now : z.0.member b.found.place b.found.before ≡ Some b.member = same ∙ ap (λ i. v.member i b.found.before) b.at ∙ b.is_member in
      let selects = use_selects w known d name s after kept p was at.file f g v z.0 b.judged.in_file to b.judged.judged_by z.1 b.found.place b.found.before
      b.member now in
      let named : spelling_of g b.found.place ≡ r.called place (spelled p at.file at.index) =
      ap (spelling_of g) b.at ∙ sym (ap (λ o. spelled_at o at.index) to) ∙ lies.tokens at place token in
      subst (λ e. IsMemberAfter Known r p.path (r.called place (spelled p at.file at.index)) v.definition b.found.before e) b.declares
      (subst (λ n. IsMemberAfter Known r p.path n v.definition b.found.before (declaration_of b.member)) named selects)

  stays_by_name : StaysByName w known r p u place
  stays_by_name (Predeclared n) h = absurd h
  stays_by_name (Declared path n) h = absurd h
  stays_by_name (Field t) h =
      let f = h.1.is_at.counts.field in
      let lies = relaid w known d name s after kept p was in
      let has = counting.field_behind w known r p new was lies t.rank f h.1.is_at.counts.counting.is_field.has_rank in
      let counts = field_counts x kept.sound after kept.right new (is w known d name s after kept p was) t.rank f has in
      record {
        inside = p;
        is_package = was;
        of_path = sym h.0;
        holds = record {
          definition = f.definition;
          name = spelled new f.file f.name;
          first = (counting.counting_field w known r p new was lies f.definition (spelled new f.file f.name) t.rank).1 (f, counts);
        };
      }
  stays_by_name (Method t) h =
      let f = h.1.is_at.counts.method in
      let m = h.1.is_at.counts.counting.is_method in
      let lies = relaid w known d name s after kept p was in
      let is_new = is w known d name s after kept p was in
      let has = counting.function_behind w known r p new was lies t.rank f m.has_rank in
      let e = method_of x kept.sound after kept.right new is_new (have_worlds x kept.sound after kept.right new is_new) t.rank f has m.receiver m.received in
      let called = spelled new f.file f.function.name in
      let counts = method_counts x kept.sound after kept.right new is_new e.0 t.rank called f e.1 in
      let k = stays w known d name s after kept p was in
      record {
        inside = p;
        is_package = was;
        of_path = sym h.0;
        holds = record {
          definition = e.0;
          name = called;
          first = counting.counts_before w known r p new was lies (of_bound p new k.stays.bound) k.fields e.0 called t.rank f counts;
        };
      }

pub kept_members_stay : KeptMembersStay
kept_members_stay w known d name s after kept same_types p is u place begins =
    (stays_by_member w known d name s after kept p is u place begins same_types, stays_by_name w known d name s after kept p is u place begins)
