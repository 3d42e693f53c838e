-- Where a plain rename keeps all bindings, and brings no fault, each file is found the same, and uses of members stay.
use Rattle.std.proofs.Common.{ℕ, ◌≡◌, inl, inr, Bool, true, false, List, [], ap, sym, subst, refl, ◌∙◌}
use Rattle.std.specs.Prelude.{Some, Contains, slice_get}
use Rattle.std.proofs.Math.Path.{fun_ext}
use Rattle.base_files.specs.Workspace.{Workspace}
use Rattle.base_files.specs.declared.place.Place.{Place}
use Rattle.base_edits.specs.EditSet.{FileChanges, edited}
use Rattle.base_edits.specs.Revisions.{Revision}
use Rattle.base_edits.specs.RevisionsOfEdits.{revision_of}
use Rattle.go_ast.specs.SourceFile.{SourceFile, spelling_of}
use Rattle.go_scope.specs.declared.model.Position.{Position}
use Rattle.go_scope.specs.Table.{LiesAt}
use Rattle.types_expr.specs.declared.symbol.Symbol.{Symbol}
use Rattle.types_expr.specs.Judge.{MemberUse, members_of}
use Rattle.types_expr.specs.Types.{PlainType, Underlying}
use Rattle.types_expr.specs.World.{World, Definition, Member, member_by}
use Rattle.types_stmt.specs.Declarations.{check_file}
use Rattle.types_declared.specs.Definitions.{AreDefinitions}
use Rattle.types_declared.specs.Package.{Package}
use Rattle.types_info.specs.Worlds.{IsWorldOf, is_init}
use Rattle.workspace_check.specs.FaultLists.{ListsFaults}
use Rattle.workspace_check.specs.Verdicts.{Verdicts, AreVerdicts, BuildsOn}
use Rattle.workspace_check.proofs.SameImports.{imports_back, builds_by}
use Rattle.refs_binding.specs.declared.declaration.Declaration.{Declaration}
use Rattle.refs_binding.specs.Binding.{BindsByMember, by_member, declaration_of}
use Rattle.refs_binding.specs.DeclaringPlaces.{TokenAt}
use Rattle.refs_binding.specs.Identifiers.{BeginsAt}
use Rattle.refs_binding.specs.Uses.{IsCheckedPackage}
use Rattle.refs_lookup.proofs.OneDeclaration.{one_declaration}
use Rattle.refs_lookup.proofs.OnePlace.{one_begins}
use Rattle.refs_places.proofs.Starts.{token_once}
use Rattle.refactor_conflict.specs.Corresponding.{Corresponds}
use Rattle.refactor_conflict.specs.MembersAfter.{IsMemberAfter}
use Rattle.law_changed_types.proofs.Alike.{Alike, of_bound}
use Rattle.law_changed_types.proofs.Worlds.{bind_alike}
use Rattle.law_renamed_workspaces.specs.Layouts.{IsRelaid}
use Rattle.law_renamed_workspaces.proofs.Packages.{same_imports}
use Rattle.law_renamed_workspaces.proofs.Apart.{name_token}
use Rattle.law_renamed_workspaces.proofs.FilesAfter.{token_moves}
use Rattle.law_renamed_workspaces.specs.Reaching.{ReachesPath}
use Rattle.law_renamed_workspaces.proofs.UsersReach.{owner_reached}
use Rattle.law_renamed_workspaces.specs.MembersMoved.{IsDefinitionAfter}
use Rattle.law_renamed_workspaces.proofs.DefinitionsAfter.{definition_after}
use Rattle.law_renamed_workspaces.proofs.MembersAfterwards.{member_stays}
use Rattle.law_renamed_workspaces.proofs.UsesOfMembers.{IsUseAt, is_use_at}
use Rattle.law_renamed_workspaces.proofs.Inits.{same_tree, keep_inits}
use Rattle.law_agreement.proofs.Premises.{IsKeptRename}
use Rattle.law_agreement.specs.Agreement.{KeepsSeenImplementing}
use Rattle.law_agreement.proofs.AgreeingUses.{AgreeAtCommonUses, same_found}
use Rattle.law_agreement.proofs.KeptNames.{there, begins_moved, bound_after, same_member}
use Rattle.law_agreement.proofs.KeptPackages.{IsKeptPackage, is_kept, kept_under, members_below}
use Rattle.law_agreement.proofs.MemberPlaces.{used_member}
use Rattle.law_agreement.proofs.MembersThere.{HasNewMembers, members_by_symbol}
use Rattle.law_agreement.proofs.NearTypes.{struct_near}
use Rattle.law_agreement.proofs.Selecting.{selects}

same_truth : (a b : Bool) → (a ≡ true → b ≡ true) → (b ≡ true → a ≡ true) → a ≡ b
same_truth true true f g = refl
same_truth true false f g = sym (f refl)
same_truth false true f g = g refl
same_truth false false f g = refl

-- A use that is found in a file of a package names its member.
member_used : (p : Package) (file : ℕ) (f : SourceFile) (v : World) → slice_get p.files file ≡ Some f → IsWorldOf p file f v → (u : MemberUse) →
    Contains (members_of (check_file v (is_init f) f.tree).uses) u → (n : ℕ) → LiesAt p.layout (record { file = file; index = u.place }) n → (m : Member) →
    v.member u.place u.before ≡ Some m → BindsByMember p n (declaration_of m)
member_used p file f v at judged u has n stands m is = record {
  uses = members_of (check_file v (is_init f) f.tree).uses;
  judged = record {
    source = f;
    in_file = subst (λ k. slice_get p.files k ≡ Some f) (sym stands.1) at;
    world = v;
    judged_by = subst (λ k. IsWorldOf p k f v) (sym stands.1) judged;
    found = refl;
  };
  found = u;
  is_use = has;
  at = sym stands.2;
  member = m;
  is_member = ap (λ i. v.member i u.before) stands.2 ∙ is;
  declares = refl;
}

module _ (w : Workspace) (known : Verdicts) (d : Declaration) (name : List ℕ) (s : FileChanges) (after : Verdicts)
    (kept : IsKeptRename w known d name s after) (p : Package) (was : IsCheckedPackage w known p) where
  abbrev r : Revision
  r = revision_of w s

  abbrev x : Workspace
  x = edited s w

  abbrev Known : Package → Type 0
  Known = IsCheckedPackage w known

  abbrev sound : ListsFaults w []
  sound = kept.rename.rename.sound

  abbrev right : AreVerdicts w known
  right = kept.rename.rename.right

  abbrev pub q : Package
  q = (there w known d name s after kept p was).0

  pub is : IsCheckedPackage x after q
  is = (there w known d name s after kept p was).1.0

  pub relaid : IsRelaid r p q
  relaid = (there w known d name s after kept p was).1.1

  pub stays : IsKeptPackage w known after s p q
  stays = is_kept w known d name s after kept p was (kept_under w known d name s after kept p)

  abbrev alike : Alike p q
  alike = of_bound p q stays.stays.bound

  -- the definitions of the package afterwards
  module _ (es : Symbol → Definition) (are : AreDefinitions q es) where
    builds_there : (t : Symbol) → ReachesPath x q.path t.package → (t.package ≡ p.path → ⊥) → BuildsOn w p.path t.package
    builds_there t (inl own) other = absurd (other (own ∙ relaid.path))
    builds_there t (inr on) other =
        builds_by x w (imports_back w x (same_imports w known d name s kept.rename)) p.path t.package
        (subst (λ path. BuildsOn x path t.package) relaid.path on)

    members_at : (t : Symbol) → ReachesPath x q.path t.package → HasNewMembers Known r t.package t.rank (es t)
    members_at t near =
        members_by_symbol w known r p q was relaid alike stays.fields x kept.sound after kept.right is es are t
        (λ other. members_below w known d name s after kept p was (kept_under w known d name s after kept p) t.package (builds_there t near other) t.rank)

    selected : (ds : Symbol → Definition) → AreDefinitions p ds → (new : List ℕ) (t : PlainType) (m : Member) → member_by es p.path new t ≡ Some m →
        IsMemberAfter Known r p.path new (λ z. (es z).underlying) t (declaration_of m)
    selected ds were new t m e =
        selects Known r ds es (definition_after w known r p q was relaid alike stays.stays.seen ds es were are) p.path
        (λ t. ReachesPath x q.path t.package) members_at
        (λ t n k owns. owner_reached x kept.sound after kept.right q is es are n t k owns)
        (struct_near x kept.sound after kept.right q is es are)
        new t m e

  -- A file, and the worlds in which it is judged before and afterwards.
  module _ (file : ℕ) (f g : SourceFile) (v z : World) (at : slice_get p.files file ≡ Some f) (to : slice_get q.files file ≡ Some g)
      (judged : IsWorldOf p file f v) (now : IsWorldOf q file g z) where
    abbrev ds : Symbol → Definition
    ds = judged.definitions

    abbrev es : Symbol → Definition
    es = now.definitions

    both : ((token : ℕ) → z.bound token ≡ v.bound token) × ((t : Symbol) → z.definition t ≡ v.definition t)
    both = bind_alike p q alike stays.stays.bound.parsed file f g v z judged now

    moved : (t : Symbol) → IsDefinitionAfter Known r t.package t.rank (ds t) (es t)
    moved = definition_after w known r p q was relaid alike stays.stays.seen ds es judged.are_definitions now.are_definitions

    old_types : v.definition ≡ (λ t. (ds t).underlying)
    old_types = fun_ext judged.definition

    new_types : (λ t. (es t).underlying) ≡ v.definition
    new_types = fun_ext (λ t. sym (now.definition t) ∙ both.1 t)

    -- what a use selects afterwards it selects by the old types and the new names
    pub use_selects : (place : ℕ) (before : PlainType) (m : Member) → z.member place before ≡ Some m →
        IsMemberAfter Known r p.path (spelling_of g place) v.definition before (declaration_of m)
    use_selects place before m e =
        let there : member_by es p.path (spelling_of g place) before ≡ Some m =
        ap (λ path. member_by es path (spelling_of g place) before) (sym relaid.path) ∙ sym (now.member place before) ∙ e in
        subst (λ (types : Symbol → Underlying). IsMemberAfter Known r p.path (spelling_of g place) types before (declaration_of m)) new_types
        (selected es now.are_definitions ds judged.are_definitions (spelling_of g place) before m there)

    -- A use that is found before and afterwards, of one type.
    module _ (u y : MemberUse) (has : Contains (members_of (check_file v (is_init f) f.tree).uses) u)
        (has_now : Contains (members_of (check_file z (is_init g) g.tree).uses) y)
        (places : y.place ≡ u.place) (befores : y.before ≡ u.before) where
      abbrev a : IsUseAt p file v u
      a = is_use_at w sound known right p was file f at v judged u has

      abbrev b : IsUseAt q file z y
      b = is_use_at x kept.sound after kept.right q is file g to z now y has_now

      place_moves : b.place ≡ r.moved a.place
      place_moves =
          let here : Position = record { file = file; index = u.place } in
          let old : TokenAt p here a.place = name_token (slice_get p.files file) u.place a.place a.begins_there in
          let new : TokenAt q here (r.moved a.place) = token_moves w known after d name s kept.rename p q was is relaid.path here a.place old in
          let own : TokenAt q (record { file = file; index = y.place }) b.place = name_token (slice_get q.files file) y.place b.place b.begins_there in
          let own_here : TokenAt q here b.place = subst (λ i. TokenAt q (record { file = file; index = i }) b.place) places own in
          token_once (slice_get q.files file) u.place b.place (r.moved a.place) own_here new

      moved_begins : BeginsAt q (r.moved a.place).path (r.moved a.place).offset a.number
      moved_begins = begins_moved w known d name s after kept p was a.number a.place a.begins

      one_number : b.number ≡ a.number
      one_number =
          let own : BeginsAt q (r.moved a.place).path (r.moved a.place).offset b.number =
          subst (λ (k : Place). BeginsAt q k.path k.offset b.number) place_moves b.begins in
          one_begins x after q.path q is.is_checked (r.moved a.place).path (r.moved a.place).offset b.number a.number own moved_begins

      used_before : BindsByMember p a.number (declaration_of a.member)
      used_before = member_used p file f v at judged u has a.number a.stands a.member a.is_member

      used_now : BindsByMember q a.number (declaration_of b.member)
      used_now =
          subst (λ n. BindsByMember q n (declaration_of b.member)) one_number
          (member_used q file g z to now y has_now b.number b.stands b.member b.is_member)

      -- they name one member
      one_member : declaration_of b.member ≡ declaration_of a.member
      one_member =
          let one = kept.kept.keeps a.place (declaration_of a.member)
          (record { used_in = p; is_package = was; user = a.number; begins = a.begins; bound = by_member used_before }) in
          let bound = bound_after w known d name s after kept p was a.number a.place a.begins one.declaration one.is_use in
          let e_is : one.declaration ≡ declaration_of b.member =
          one_declaration x after q is a.number moved_begins.0 one.declaration (declaration_of b.member) bound (by_member used_now) in
          same_member w known d name s after kept (declaration_of a.member) (declaration_of b.member)
          (used_member p a.number (declaration_of a.member) used_before) (used_member q a.number (declaration_of b.member) used_now)
          (subst (λ e. Corresponds Known (IsCheckedPackage x after) r.moved (declaration_of a.member) e) e_is one.holds)

      pub same_members : z.member u.place u.before ≡ v.member u.place u.before
      same_members =
          let now_is : z.member u.place u.before ≡ Some b.member =
          ap (λ i. z.member i u.before) (sym places) ∙ ap (z.member y.place) (sym befores) ∙ b.is_member in
          let selects_it : IsMemberAfter Known r p.path (spelling_of g u.place) v.definition u.before (declaration_of a.member) =
          subst (λ e. IsMemberAfter Known r p.path (spelling_of g u.place) v.definition u.before e) one_member
          (use_selects u.place u.before b.member now_is) in
          let before : member_by ds p.path (spelling_of f u.place) u.before ≡ Some a.member = sym (judged.member u.place u.before) ∙ a.is_member in
          let there : member_by es p.path (spelling_of g u.place) u.before ≡ Some a.member =
          member_stays Known r ds es moved p.path (spelling_of f u.place) (spelling_of g u.place) u.before a.member before
          (subst (λ (types : Symbol → Underlying). IsMemberAfter Known r p.path (spelling_of g u.place) types u.before (declaration_of a.member)) old_types
          selects_it) in
          now.member u.place u.before ∙ ap (λ path. member_by es path (spelling_of g u.place) u.before) relaid.path ∙ there ∙ sym a.is_member

    trees : g.tree ≡ f.tree
    trees = same_tree p.files q.files relaid.trees file f g at to

    agree : AgreeAtCommonUses v z (members_of (check_file v (is_init f) f.tree).uses) (members_of (check_file z (is_init g) f.tree).uses)
    agree u y has has_now places befores =
        same_members u y has (subst (λ t. Contains (members_of (check_file z (is_init g) t).uses) y) (sym trees) has_now) places befores

    -- so the same is found, where the same types implement the same interfaces
    implement_same : KeepsSeenImplementing w known (revision_of w s) after → (t : PlainType) (i : Symbol) → z.implements t i ≡ v.implements t i
    implement_same same t i =
        let both = same p q was is relaid stays.stays.bound stays.stays.seen ds es judged.are_definitions now.are_definitions t i in
        same_truth (z.implements t i) (v.implements t i) (λ e. (judged.implements t i).1 (both.1 ((now.implements t i).0 e)))
        (λ e. (now.implements t i).1 (both.0 ((judged.implements t i).0 e)))

    pub finds_same : KeepsSeenImplementing w known (revision_of w s) after → check_file z (is_init g) g.tree ≡ check_file v (is_init f) f.tree
    finds_same same =
        ap (λ t. check_file z (is_init g) t) trees
        ∙ same_found v z (is_init f) (is_init g) f.tree
        (keep_inits w x known after p q was.is_checked is.is_checked relaid.layout relaid.size file f g at to trees) both.0 both.1
        (implement_same same) agree
