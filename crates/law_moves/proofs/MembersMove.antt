-- After a move, uses of members and the names by which members are declared are bound to the moved members.
use Rattle.std.proofs.Common.{ℕ, ◌≡◌, List, ap, map, option_map, sym, subst, refl, ◌∙◌}
use Rattle.std.specs.Prelude.{Some, Contains, slice_get}
use Rattle.base_lemmas.proofs.Elements.{is_mapped}
use Rattle.base_files.specs.Workspace.{Workspace}
use Rattle.base_files.specs.declared.place.Place.{Place}
use Rattle.base_edits.specs.Revisions.{Revision}
use Rattle.go_ast.specs.SourceFile.{SourceFile, spelling_of}
use Rattle.go_scope.specs.declared.model.Position.{Position}
use Rattle.go_scope.specs.Bindings.{Layout}
use Rattle.go_scope.specs.Table.{LiesAt}
use Rattle.types_expr.specs.Judge.{MemberUse, members_of, Noted}
use Rattle.types_expr.specs.World.{World, Member, AField, AMethod, ABrokenMethod}
use Rattle.types_stmt.specs.Declarations.{check_file}
use Rattle.types_declared.specs.Package.{Package, spelled_at}
use Rattle.types_info.specs.Worlds.{IsWorldOf, is_init}
use Rattle.workspace_check.specs.Verdicts.{Verdicts}
use Rattle.refs_binding.specs.declared.declaration.Declaration.{Declaration}
use Rattle.refs_binding.specs.declared.declaration.Declaration.TheVariants.{Predeclared, Declared, Field, Method}
use Rattle.refs_binding.specs.Binding.{BindsByMember, DeclaresMember, UsesMemberAt, declaration_of}
use Rattle.refs_binding.specs.Identifiers.{BeginsAt, NameBegins}
use Rattle.refs_binding.specs.Uses.{IsCheckedPackage}
use Rattle.law_faultless.proofs.PackageWorlds.{have_all_worlds}
use Rattle.law_renamed_workspaces.proofs.Apart.{name_token}
use Rattle.law_renamed_workspaces.specs.Layouts.{IsToken}
use Rattle.law_renamed_workspaces.proofs.UsesOfMembers.{IsUseAt, is_use_at}
use Rattle.law_renamed_workspaces.proofs.Inits.{file_of_tree, same_tree, keep_inits}
use Rattle.law_agreement.proofs.UsedMembers.{used_declared}
use Rattle.law_changed_types.specs.Moved.{PathMap, moved_type, moved_member, moved_use, moved_checked}
use Rattle.law_changed_types.specs.Moves.{IsMovedWorld}
use Rattle.law_changed_types.proofs.FilesMove.{files_move}
use Rattle.law_changed_types.proofs.MovedTypesWorlds.{worlds_move}
use Rattle.law_moves.proofs.MembersStay.{use_called}
use Rattle.law_moves.specs.Moving.{AreScopedMoves, AreCheckedMoves}
use Rattle.law_moves.proofs.MovedTo.{Becomes, IsMovedTo, becomes, field_there, method_there, moved_declaration, moved_to, q, x}
use Rattle.law_agreement.proofs.MembersBound.{declared_here}
use Rattle.types_expr.proofs.NoteLists.{member_noted, noted_member}
use Rattle.law_changed_types.proofs.ChangedNotes.{members_moved}

member_moves : (g : PathMap) (m : Member) → declaration_of (moved_member g m) ≡ moved_declaration g (declaration_of m)
member_moves g (AField s t) = refl
member_moves g (AMethod s p f) = refl
member_moves g (ABrokenMethod s) = refl

-- A use that is found in a file of a package names its member.
member_used : (p : Package) (file : ℕ) (f : SourceFile) (v : World) → slice_get p.files file ≡ Some f → IsWorldOf p file f v → (u : MemberUse) →
    Contains (members_of (check_file v (is_init f) f.tree).uses) u → (n : ℕ) → LiesAt p.layout (record { file = file; index = u.place }) n → (m : Member) →
    v.member u.place u.before ≡ Some m → BindsByMember p n (declaration_of m)
member_used p file f v at judged u has n stands m is = record {
  uses = members_of (check_file v (is_init f) f.tree).uses;
  judged = record {
    source = f;
    in_file = subst (λ k. slice_get p.files k ≡ Some f) (sym stands.1) at;
    world = v;
    judged_by = subst (λ k. IsWorldOf p k f v) (sym stands.1) judged;
    found = refl;
  };
  found = u;
  is_use = has;
  at = sym stands.2;
  member = m;
  is_member = ap (λ i. v.member i u.before) stands.2 ∙ is;
  declares = refl;
}

module _ (w : Workspace) (known : Verdicts) (r : Revision) (goes : PathMap) (h : AreScopedMoves w known r goes) (after : Verdicts)
    (c : AreCheckedMoves w known r goes after) (p : Package) (is : IsCheckedPackage w known p) where
  abbrev there : Package
  there = q w known r goes h after c p is

  moved : IsMovedTo w known r goes h after c p there
  moved = moved_to w known r goes h after c p is

  -- the name by which a member is declared
  pub declares_there : (u : ℕ) (d : Declaration) → DeclaresMember p u d → DeclaresMember there u (moved_declaration c.g d)
  declares_there u (Predeclared n) k = absurd k
  declares_there u (Declared path n) k = absurd k
  declares_there u (Field s) k = (
    ap c.g k.0 ∙ sym moved.moved.path,
    record {
      at = k.1.at;
      is_at = field_there w known r goes h after c p is s.rank k.1.at k.1.is_at;
      stands = subst (λ (l : Layout). LiesAt l k.1.at u) (sym moved.moved.layout) k.1.stands;
    },
  )
  declares_there u (Method s) k = (
    ap c.g k.0 ∙ sym moved.moved.path,
    record {
      at = k.1.at;
      is_at = method_there w known r goes h after c p is s.rank k.1.at k.1.is_at;
      stands = subst (λ (l : Layout). LiesAt l k.1.at u) (sym moved.moved.layout) k.1.stands;
    },
  )

  -- a file, and the world in which it is judged
  module _ (file : ℕ) (f : SourceFile) (at : slice_get p.files file ≡ Some f) (v : World) (judged : IsWorldOf p file f v) where
    found_file : (k : SourceFile) × (slice_get there.files file ≡ Some k)
    found_file = file_of_tree there.files p.files (sym moved.moved.trees) file f at

    abbrev k : SourceFile
    k = found_file.0

    to : slice_get there.files file ≡ Some k
    to = found_file.1

    trees : k.tree ≡ f.tree
    trees = same_tree p.files there.files moved.moved.trees file f k at to

    now : (z : World) × IsWorldOf there file k z
    now = have_all_worlds (x w known r goes h after c) c.sound after c.right there moved.is file k to

    abbrev z : World
    z = now.0

    abbrev noted : List Noted
    noted = (check_file v (is_init f) f.tree).uses

    spelled_there : (u : MemberUse) → Contains (members_of noted) u → spelling_of k u.place ≡ spelling_of f u.place
    spelled_there u has =
        let a : IsUseAt p file v u = is_use_at w h.sound known h.right p is file f at v judged u has in
        let here : Position = record { file = file; index = u.place } in
        let begun : NameBegins (Some f) u.place a.place.path a.place.offset =
        subst (λ o. NameBegins o u.place a.place.path a.place.offset) at a.begins_there in
        let token : IsToken p here a.place = record {
          file = f;
          of_rank = at;
          is_name = begun.0;
          begins = name_token (slice_get p.files file) u.place a.place a.begins_there;
        } in
        let was = member_used p file f v at judged u has a.number a.stands a.member a.is_member in
        let called = use_called w known r h.kept h.sound h.right p is a.number a.place a.begins (declaration_of a.member) was in
        sym (ap (λ o. spelled_at o u.place) to) ∙ moved.tokens here a.place token ∙ called (spelled_at (slice_get p.files file) u.place)
        ∙ ap (λ o. spelled_at o u.place) at

    world_moves : IsMovedWorld c.g noted v z
    world_moves =
        worlds_move c.g c.injective p there moved.moved file f k v z judged now.1 noted (λ u has. spelled_there u (member_noted noted u has))

    found_moves : check_file z (is_init k) k.tree ≡ moved_checked c.g (check_file v (is_init f) f.tree)
    found_moves =
        ap (check_file z (is_init k)) trees
        ∙ files_move c.g c.injective v z (is_init f) (is_init k) f.tree
        (keep_inits w (x w known r goes h after c) known after p there is.is_checked moved.is.is_checked moved.moved.layout moved.moved.size
        file f k at to trees)
        world_moves

  -- a use of a member
  use_there : (file token : ℕ) (d : Declaration) → UsesMemberAt p file token d → UsesMemberAt there file token (moved_declaration c.g d)
  use_there file token d b =
      let f = b.judged.source in
      let v = b.judged.world in
      let at = b.judged.in_file in
      let judged = b.judged.judged_by in
      let g = k file f at v judged in
      let now_world = z file f at v judged in
      let own : Contains (members_of (check_file v (is_init f) f.tree).uses) b.found = subst (λ us. Contains us b.found) b.judged.found b.is_use in
      let uses : (members_of (check_file now_world (is_init g) g.tree).uses) ≡ map (moved_use c.g) (members_of (check_file v (is_init f) f.tree).uses) =
      ap (λ s. members_of s.uses) (found_moves file f at v judged) ∙ members_moved c.g (check_file v (is_init f) f.tree).uses in
      record {
        uses = members_of (check_file now_world (is_init g) g.tree).uses;
        judged = record {
          source = g;
          in_file = to file f at v judged;
          world = now_world;
          judged_by = (now file f at v judged).1;
          found = refl;
        };
        found = moved_use c.g b.found;
        is_use =
            subst (λ us. Contains us (moved_use c.g b.found)) (sym uses)
            (is_mapped (moved_use c.g) (members_of (check_file v (is_init f) f.tree).uses) b.found own);
        at = b.at;
        member = moved_member c.g b.member;
        is_member =
            ap (λ i. now_world.member i (moved_type c.g b.found.before)) (sym b.at)
            ∙ (world_moves file f at v judged).members b.found (noted_member (check_file v (is_init f) f.tree).uses b.found own)
            ∙ ap (λ i. option_map (moved_member c.g) (v.member i b.found.before)) b.at
            ∙ ap (option_map (moved_member c.g)) b.is_member;
        declares = member_moves c.g b.member ∙ ap (moved_declaration c.g) b.declares;
      }

  pub uses_there : (u : ℕ) (d : Declaration) → BindsByMember p u d → BindsByMember there u (moved_declaration c.g d)
  uses_there u d b =
      subst (λ (l : Layout). UsesMemberAt there (l.place u).file (l.place u).index (moved_declaration c.g d)) (sym moved.moved.layout)
      (use_there (p.layout.place u).file (p.layout.place u).index d b)

-- what they name has become the moved member
module _ (w : Workspace) (known : Verdicts) (r : Revision) (goes : PathMap) (h : AreScopedMoves w known r goes) (after : Verdicts)
    (c : AreCheckedMoves w known r goes after) (p : Package) (is : IsCheckedPackage w known p) (u : ℕ) (d : Declaration) where
  pub name_becomes : (place : Place) → BeginsAt p place.path place.offset u → DeclaresMember p u d →
      Becomes w known r goes h after c d (moved_declaration c.g d)
  name_becomes place begins k = becomes w known r goes h after c d place (declared_here w known p is u place begins d k)

  pub use_becomes : BindsByMember p u d → Becomes w known r goes h after c d (moved_declaration c.g d)
  use_becomes b =
      let o = used_declared w h.sound known h.right p is u d b in
      becomes w known r goes h after c d o.place (declared_here w known o.inside o.is_package o.user o.place o.begins d o.declares)
