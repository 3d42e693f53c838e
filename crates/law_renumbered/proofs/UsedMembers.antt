-- The uses of members.
use Rattle.std.proofs.Common.{ℕ, ◌≡◌, List, map, refl, sym, ap, ◌∙◌, subst}
use Rattle.std.specs.Prelude.{Contains}
use Rattle.std.proofs.Math.Path.{fun_ext}
use Rattle.base_lemmas.proofs.Elements.{is_mapped}
use Rattle.go_ast.specs.SourceFile.{SourceFile, spelling_of}
use Rattle.types_expr.specs.declared.symbol.Symbol.{Symbol}
use Rattle.types_expr.specs.Judge.{MemberUse, members_of}
use Rattle.types_expr.specs.World.{World, member_by}
use Rattle.types_stmt.specs.Declarations.{check_file}
use Rattle.types_expr.proofs.NoteLists.{member_noted}
use Rattle.types_declared.specs.Package.{Package}
use Rattle.types_info.specs.Worlds.{is_init}
use Rattle.refs_binding.specs.declared.declaration.Declaration.{Declaration}
use Rattle.refs_binding.specs.Binding.{UsesMemberAt}
use Rattle.law_changed_types.proofs.Worlds.{layout_formed}
use Rattle.law_changed_types.specs.Renumbering.{IsRenumberedCheck, renumbered_use}
use Rattle.law_changed_types.specs.RenumberedPackage.{FoundRenumbers, IsRenumberedPackage, NewNumbers}
use Rattle.law_changed_types.proofs.RenumberedTypesLaws.{found_renumbers}
use Rattle.law_changed_types.proofs.Names.{same_definitions}
use Rattle.law_changed_types.proofs.ChangedNotes.{members_renumbered}
use Rattle.law_changed_types.proofs.Numbered.{FollowsIdentifier, FollowsToken, back, there}
use Rattle.std.proofs.lemmas.Option.{same_Some}
use Rattle.law_renumbered.specs.Bindings.{IsJudgedTwice, UsedMembersRenumber}

module _ (renumber : FoundRenumbers) (n : NewNumbers) (p q : Package) (a : IsRenumberedPackage n p q) (file token : ℕ) (d : Declaration)
    (h : UsesMemberAt p file token d) (j : IsJudgedTwice n p q file h.uses) where
  abbrev v : World
  v = h.judged.world

  abbrev f : SourceFile
  f = h.judged.source

  abbrev now : List MemberUse
  now = (members_of (check_file j.world (is_init j.new) j.new.tree).uses)

  same_source : j.old ≡ f
  same_source = same_Some j.old f (sym j.old_at ∙ h.judged.in_file)

  spelled : (u : MemberUse) → Contains h.uses u → spelling_of j.new (n.token file u.place) ≡ spelling_of f u.place
  spelled u has = j.spelled u has ∙ ap (λ (s : SourceFile). spelling_of s u.place) same_source

  found_now : IsRenumberedCheck (n.token file) (check_file v (is_init f) f.tree) (check_file j.world (is_init j.new) j.new.tree)
  found_now =
      renumber n p q a file f j.new h.judged.in_file j.new_at v j.world h.judged.judged_by j.is_world
      (λ u has. spelled u (subst (λ us. Contains us u) (sym h.judged.found) (member_noted (check_file v (is_init f) f.tree).uses u has)))

  uses_now : now ≡ map (renumbered_use (n.token file)) h.uses
  uses_now =
      ap members_of found_now.uses ∙ (members_renumbered (n.token file) (check_file v (is_init f) f.tree).uses
      ∙ ap (map (renumbered_use (n.token file))) (sym h.judged.found))

  definitions_now : (s : Symbol) → j.is_world.definitions s ≡ h.judged.judged_by.definitions s
  definitions_now s =
      same_definitions (FollowsToken n) (FollowsIdentifier n) p q (there n p q a) (back n p q a) (layout_formed q a.parsed_too)
      h.judged.judged_by.definitions j.is_world.definitions h.judged.judged_by.are_definitions j.is_world.are_definitions s

  member_now : j.world.member (n.token file token) h.found.before ≡ v.member token h.found.before
  member_now =
      let x = n.token file token in
      let t = h.found.before in
      let old = h.judged.judged_by.definitions in
      j.is_world.member x t
      ∙ ap (λ c. member_by c q.path (spelling_of j.new x) t) (fun_ext definitions_now)
      ∙ ap (λ path. member_by old path (spelling_of j.new x) t) a.path
      ∙ ap (λ name. member_by old p.path name t)
      (ap (λ y. spelling_of j.new (n.token file y)) (sym h.at) ∙ spelled h.found h.is_use ∙ ap (spelling_of f) h.at)
      ∙ sym (h.judged.judged_by.member token t)

  pub used_now : UsesMemberAt q file (n.token file token) d
  used_now = record {
    uses = now;
    judged = record { source = j.new; in_file = j.new_at; world = j.world; judged_by = j.is_world; found = refl };
    found = renumbered_use (n.token file) h.found;
    is_use =
        subst (λ us. Contains us (renumbered_use (n.token file) h.found)) (sym uses_now)
        (is_mapped (renumbered_use (n.token file)) h.uses h.found h.is_use);
    at = ap (n.token file) h.at;
    member = h.member;
    is_member = member_now ∙ h.is_member;
    declares = h.declares;
  }

by_law : FoundRenumbers → UsedMembersRenumber
by_law renumber n p q a file token d h j = used_now renumber n p q a file token d h j

pub used_members_renumber : UsedMembersRenumber
used_members_renumber = by_law found_renumbers
