-- Declaring identifiers and uses of members after a rename that loses and captures none.
use Rattle.std.proofs.Common.{ℕ, ◌≡◌, ap, sym, subst, refl, ◌∙◌}
use Rattle.std.specs.Prelude.{Some, Contains, slice_get}
use Rattle.std.proofs.lemmas.Option.{same_Some}
use Rattle.base_files.specs.declared.place.Place.{Place}
use Rattle.base_files.specs.Workspace.{Workspace}
use Rattle.base_edits.specs.Revisions.{Revision}
use Rattle.base_edits.specs.RevisionsOfEdits.{revision_of}
use Rattle.go_scope.specs.declared.model.Position.{Position}
use Rattle.go_scope.specs.Bindings.{Layout}
use Rattle.go_scope.specs.Table.{LiesAt}
use Rattle.types_expr.specs.declared.symbol.Symbol.{Symbol}
use Rattle.types_expr.specs.World.{World}
use Rattle.types_expr.specs.Judge.{members_of}
use Rattle.types_stmt.specs.Declarations.{check_file}
use Rattle.types_declared.specs.Package.{Package, function_place}
use Rattle.types_info.proofs.OneWorld.{has_one_world}
use Rattle.types_info.specs.MemberUses.{AreUsesIn}
use Rattle.types_info.specs.Uniqueness.{HasOneWorld}
use Rattle.types_info.specs.Worlds.{IsWorldOf, is_init}
use Rattle.workspace_check.specs.Verdicts.{Verdicts}
use Rattle.workspace_check.proofs.OnePackage.{layout_formed, files_in_order}
use Rattle.refs_binding.specs.declared.declaration.Declaration.{Declaration}
use Rattle.refs_binding.specs.declared.declaration.Declaration.TheVariants.{Predeclared, Declared, Field, Method}
use Rattle.refs_binding.specs.Binding.{DeclaresMember, field_place}
use Rattle.refs_binding.specs.Identifiers.{BeginsAt}
use Rattle.refs_binding.specs.Uses.{IsCheckedPackage}
use Rattle.refs_binding.proofs.MemberParts.{one_list}
use Rattle.refactor_conflict.specs.MembersAfter.{FieldCounts, MethodCounts}
use Rattle.refactor_conflict.proofs.FieldsAfter.{of_one}
use Rattle.refactor_conflict.specs.Staying.{NoneIsLost}
use Rattle.law_changed_types.proofs.Alike.{Alike, of_bound}
use Rattle.law_renamed_workspaces.specs.Layouts.{IsRelaid}
use Rattle.law_renamed_workspaces.specs.MembersMoved.{AreSeenAfter}
use Rattle.law_renamed_workspaces.specs.StayingMembers.{DeclaredMembersStay, UsedMembersStay}
use Rattle.law_renamed_workspaces.proofs.CountingMembers as counting
use Rattle.law_renamed_workspaces.proofs.WorldsAlike.{same_member}

module _ (w : Workspace) (known : Verdicts) (r : Revision) (kept : NoneIsLost w known r) (p q : Package) (is : IsCheckedPackage w known p) (relaid :
    IsRelaid r p q)
    (alike : Alike p q) (seen : AreSeenAfter (IsCheckedPackage w known) r p q) (u : ℕ) (place : Place) (begins : BeginsAt p place.path place.offset u) where
  lies : (at : Position) → LiesAt p.layout at u → LiesAt q.layout at u
  lies at h = subst (λ (l : Layout). LiesAt l at u) (sym relaid.layout) h

  field_declared : (s : Symbol) → DeclaresMember p u (Field s) → DeclaresMember q u (Field s)
  field_declared s h =
      let n = h.1 in
      let c = n.is_at.counts in
      let k = of_one w known p is s.package (sym h.0) (λ o. FieldCounts r o s.rank) ((kept place p is u begins).by_name (Field s) h) in
      let f = (counting.counting_field w known r p q is relaid k.definition k.name s.rank).0 k.first in
      let before = counting.field_before w known r p q is relaid s.rank f.0 f.1.is_field.has_rank in
      let same : f.0 ≡ c.field = same_Some f.0 c.field (sym before ∙ c.counting.is_field.has_rank) in (
        h.0 ∙ sym relaid.path,
        record {
          at = n.at;
          is_at = record {
            counts = record { definition = k.definition; name = k.name; field = f.0; counting = f.1 };
            named_at = ap field_place same ∙ n.is_at.named_at;
          };
          stands = lies n.at n.stands;
        },
      )

  method_declared : (s : Symbol) → DeclaresMember p u (Method s) → DeclaresMember q u (Method s)
  method_declared s h =
      let n = h.1 in
      let c = n.is_at.counts in
      let k = of_one w known p is s.package (sym h.0) (λ o. MethodCounts (IsCheckedPackage w known) r o s.rank) ((kept place p is u begins).by_name (Method
      s) h) in
      let f = counting.counting_method w known r p q is relaid alike seen k.definition k.name s.rank k.first in
      let before = counting.function_before w known r p q is relaid s.rank f.0 f.1.is_method.has_rank in
      let same : f.0 ≡ c.method = same_Some f.0 c.method (sym before ∙ c.counting.is_method.has_rank) in (
        h.0 ∙ sym relaid.path,
        record {
          at = n.at;
          is_at = record {
            counts = record { definition = k.definition; name = k.name; method = f.0; counting = f.1 };
            named_at = ap function_place same ∙ n.is_at.named_at;
          };
          stands = lies n.at n.stands;
        },
      )

  pub declared : (d : Declaration) → DeclaresMember p u d → DeclaresMember q u d
  declared (Predeclared n) h = h
  declared (Declared path n) h = h
  declared (Field s) h = field_declared s h
  declared (Method s) h = method_declared s h

pub declared_members_stay : DeclaredMembersStay
declared_members_stay w before r kept p q is relaid alike seen u place begins d h =
    declared w before r kept p q is relaid (of_bound p q alike) seen u place begins d h

-- uses

pub used_members_stay : UsedMembersStay
used_members_stay w before d name s plain kept p q is relaid alike seen file f g v x in_p in_q judged after found u of_file e b =
    let r = revision_of w s in
    let there = (p.layout.place u).file in
    let index = (p.layout.place u).index in
    let uses = members_of (check_file v (is_init f) f.tree).uses in
    let in_there : slice_get p.files there ≡ Some f = subst (λ k. slice_get p.files k ≡ Some f) (sym of_file) in_p in
    let own_world : IsWorldOf p there f v = subst (λ k. IsWorldOf p k f v) (sym of_file) judged in
    let own : AreUsesIn p there uses = record { source = f; in_file = in_there; world = v; judged_by = own_world; found = refl } in
    let one : HasOneWorld p =
    has_one_world p (layout_formed w before p.path p is.is_checked) (files_in_order w before p.path p is.is_checked) in
    let lists : b.uses ≡ uses = one_list p one there b.uses uses b.judged own in
    let sources : b.judged.source ≡ f = same_Some b.judged.source f (sym b.judged.in_file ∙ in_there) in
    let worlds : b.judged.world ≡ v =
    one there f b.judged.world v (subst (λ z. IsWorldOf p there z b.judged.world) sources b.judged.judged_by) own_world in
    let among : Contains uses b.found = subst (λ us. Contains us b.found) lists b.is_use in
    let stays : x.member b.found.place b.found.before ≡ v.member b.found.place b.found.before =
    same_member w plain.rename.sound before plain.rename.right r kept p q is relaid (of_bound p q alike) seen file f g v x in_p in_q judged after b.found
    among in
    let was : v.member index b.found.before ≡ Some b.member =
    ap (λ (z : World). z.member index b.found.before) (sym worlds) ∙ b.is_member in
    let now : x.member b.found.place b.found.before ≡ Some b.member = stays ∙ ap (λ i. v.member i b.found.before) b.at ∙ was in
    let place : q.layout.place u ≡ p.layout.place u = ap (λ (l : Layout). l.place u) relaid.layout in
    let file_after : (q.layout.place u).file ≡ file = ap (λ (a : Position). a.file) place ∙ of_file in
    let at_after : b.found.place ≡ (q.layout.place u).index = b.at ∙ ap (λ (a : Position). a.index) (sym place) in
    record {
      uses = members_of (check_file x (is_init g) g.tree).uses;
      judged = record {
        source = g;
        in_file = subst (λ k. slice_get q.files k ≡ Some g) (sym file_after) in_q;
        world = x;
        judged_by = subst (λ k. IsWorldOf q k g x) (sym file_after) after;
        found = refl;
      };
      found = b.found;
      is_use = subst (λ us. Contains us b.found) (ap (λ c. members_of c.uses) (sym found)) among;
      at = at_after;
      member = b.member;
      is_member = subst (λ i. x.member i b.found.before ≡ Some b.member) at_after now;
      declares = b.declares;
    }
