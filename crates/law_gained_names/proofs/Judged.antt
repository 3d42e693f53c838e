-- The files of a package in which an import got the name that it declared already are judged as before.
use Rattle.std.proofs.Common.{ℕ, ◌≡◌, ◌<◌, inl, inr, List, Some, length, map, sym, ap, ◌∙◌, subst}
use Rattle.std.specs.Prelude.{Contains, slice_get}
use Rattle.std.proofs.lemmas.Bool.{cases_eq}
use Rattle.go_ast.specs.SourceFile.{FileParts, IsSourceFile, SourceFile, source_of, spelling_of}
use Rattle.go_scope.specs.declared.model.Block.TheVariants.{File}
use Rattle.go_scope.specs.declared.model.Position.{Position}
use Rattle.go_scope.specs.declared.model.Purpose.TheVariants as purpose
use Rattle.go_scope.specs.declared.model.Role.TheVariants.{Declaring, NotLexical}
use Rattle.go_scope.specs.Bindings.{Layout, is_implied}
use Rattle.go_scope.specs.Named.{with_names}
use Rattle.go_scope.specs.Packages.{ScopedPackage, layout_in, scoped}
use Rattle.go_scope.specs.Site.{or_blank}
use Rattle.law_tokens.specs.Roles.{FitsTokens}
use Rattle.law_tokens.proofs.HeldBytes.{source_file_at}
use Rattle.law_tokens.proofs.OwnPaths.{part_at}
use Rattle.law_tokens.proofs.Roles.{named_role_told}
use Rattle.law_rename.specs.Gained.{Gain, moved_by}
use Rattle.law_rename.proofs.TokensBehind.{seam}
use Rattle.refs_lookup.specs.Places.{IsMemberToken, as_key, as_selected}
use Rattle.refs_lookup.proofs.LinkPlaces.{stands_at_link}
use Rattle.types_declared.specs.Package.{Package, spelled_at}
use Rattle.types_expr.specs.Judge.{MemberUse, members_of}
use Rattle.types_expr.specs.World.{World}
use Rattle.types_info.specs.Worlds.{is_init}
use Rattle.types_stmt.specs.Declarations.{check_file}
use Rattle.law_gained_names.specs.NamedPackage.{IsNamedPackage, numbers_of}
use Rattle.law_gained_names.proofs.NamedImportsFiles.{files_else, spelled_by_move}
use Rattle.law_gained_names.proofs.Layouts.{here_within, stood_at, token, tokens_agree}
use Rattle.law_renumbered.specs.Findings.{ExportsRenumber, NoMemberFaultComes, NoTypeFaultComes}
use Rattle.law_renumbered.proofs.Laws.{exports_renumber, no_member_fault_comes, no_type_fault_comes}
use Rattle.law_gained_names.specs.GainedName.{GainedNamesAreJudged, GainedNamesBringNoFault, GainedNamesRenumber, gained_by}
use Rattle.law_gained_names.proofs.NamedWorkspacesLaws.{gained_names_renumber}

module _ (i : Gain) (at : ℕ) (p q : Package) (a : IsNamedPackage i at p q) where
  abbrev files : List FileParts
  files = a.parsed.files

  abbrev table : ScopedPackage
  table = with_names a.parsed.is_package.is_laid.names (scoped files)

  same_layout : p.layout ≡ layout_in table
  same_layout = ap (λ (x : Package). x.layout) a.parsed.is_package.is_package ∙ ap layout_in a.parsed.is_package.is_laid.is_named

  same_size : p.size ≡ length table.sites
  same_size =
      ap (λ (x : Package). x.size) a.parsed.is_package.is_package ∙ ap (λ (t : ScopedPackage). length t.sites) a.parsed.is_package.is_laid.is_named

  same_files : p.files ≡ map source_of files
  same_files = ap (λ (x : Package). x.files) a.parsed.is_package.is_package

  -- the import

  role_is : (layout_in table).role at ≡ Declaring (File i.rank) 0
  role_is =
      ap (λ (l : Layout). l.role at) (sym same_layout ∙ a.was.layout) ∙ ap (λ o. (or_blank o).role) (stood_at i at a.old a.new a.gained)

  place_is : (layout_in table).place at ≡ record { file = i.rank; index = i.number }
  place_is =
      ap (λ (l : Layout). l.place at) (sym same_layout ∙ a.was.layout) ∙ ap (λ o. (or_blank o).place) (stood_at i at a.old a.new a.gained)

  within : at < length table.sites
  within = subst (λ n. at < n) (sym a.was.size ∙ same_size) (here_within i at a.old a.new a.gained)

  fits : (t : FileParts) → slice_get files i.rank ≡ Some t → FitsTokens t.cut i.number (Declaring (File i.rank) 0)
  fits t is =
      let told = named_role_told a.parsed.is_package.is_laid.names files a.parsed.sources at within (ap is_implied role_is) t
      (ap (λ (z : Position). slice_get files z.file) place_is ∙ is) in
      subst (λ r. FitsTokens t.cut i.number r) role_is
      (subst (λ (z : Position). FitsTokens t.cut z.index ((layout_in table).role at)) place_is told)

  -- no use of a member stands at its literal
  no_use : (file : ℕ) (s : SourceFile) → slice_get p.files file ≡ Some s → (v : World) (u : MemberUse) →
      Contains (members_of (check_file v (is_init s) s.tree).uses) u → file ≡ i.rank → u.place ≡ i.number → ⊥
  no_use file s is v u has here literal =
      let part = part_at files file s (subst (λ fs. slice_get fs file ≡ Some s) same_files is) in
      let source : IsSourceFile s = subst IsSourceFile part.1.1 (source_file_at files a.parsed.sources file part.0 part.1.0) in
      let cut = ap (λ (x : SourceFile). x.cut) part.1.1 in
      let told : FitsTokens s.cut i.number (Declaring (File i.rank) 0) =
      subst (λ c. FitsTokens c i.number (Declaring (File i.rank) 0)) cut (fits part.0 (ap (slice_get files) (sym here) ∙ part.1.0)) in
      by_token s told (subst (IsMemberToken v s.cut) literal (stands_at_link v (is_init s) s source u has))
    where
      by_token : (s : SourceFile) → FitsTokens s.cut i.number (Declaring (File i.rank) 0) → IsMemberToken v s.cut i.number → ⊥
      by_token s told (as_key colon) = let z : Declaring (File i.rank) 0 ≡ NotLexical purpose.Key = told.key.1 colon in cc
      by_token s told (as_selected dot none) = let z : Declaring (File i.rank) 0 ≡ NotLexical purpose.Selected = told.selected.1 dot in cc

  -- each file was there

  was_there : (file : ℕ) (s : SourceFile) → slice_get q.files file ≡ Some s → (f : SourceFile) × (slice_get p.files file ≡ Some f)
  was_there file s is = elim (cases_eq file i.rank) [
    | inl here ↦ (
      a.file.before,
      ap (slice_get p.files) (here ∙ sym a.file.rank) ∙ ap (λ fs. slice_get fs (length a.file.first)) a.file.before_files
          ∙ seam a.file.first a.file.rest a.file.before,
    )
    | inr other ↦ (
      s,
      ap (λ fs. slice_get fs file) a.file.before_files
          ∙ sym (files_else a.file.first a.file.rest a.file.before a.file.after file (λ e. other (e ∙ a.file.rank)))
          ∙ sym (ap (λ fs. slice_get fs file) a.file.after_files) ∙ is,
    )
  ]

  use_spelled : (file : ℕ) (f s : SourceFile) → slice_get p.files file ≡ Some f → slice_get q.files file ≡ Some s → (v : World) (u : MemberUse) →
      Contains (members_of (check_file v (is_init f) f.tree).uses) u → spelling_of s (token i at file u.place) ≡ spelling_of f u.place
  use_spelled file f s was is v u has =
      ap (spelling_of s) (sym (tokens_agree i at file u.place (no_use file f was v u has)))
      ∙ sym (ap (λ o. spelled_at o (moved_by i file u.place)) is)
      ∙ spelled_by_move i p q a.file file u.place
      ∙ ap (λ o. spelled_at o u.place) was

pub gained_names_are_judged : GainedNamesAreJudged
gained_names_are_judged i at p q a worlds file s is =
    let was = was_there i at p q a file s is in
    let world = worlds file was.0 was.1 in
    record {
      source = was.0;
      in_file = was.1;
      world = world.0;
      judged_by = world.1;
      spelled = λ u has. use_spelled i at p q a file was.0 s was.1 is world.0 u has;
    }

by_laws : GainedNamesRenumber → GainedNamesAreJudged → NoMemberFaultComes → NoTypeFaultComes → ExportsRenumber → GainedNamesBringNoFault
by_laws renumber judged members types exports number p q g worlds =
    let r = renumber number p q g in
    let n = numbers_of (gained_by number p q g) r.0 in
    record {
      members = members n p q r.1.renumbered;
      types = types n p q r.1.renumbered (λ file s is. judged (gained_by number p q g) r.0 p q r.1.named worlds file s is);
      exports = exports n p q r.1.renumbered r.1.keeps;
    }

pub gained_names_bring_no_fault : GainedNamesBringNoFault
gained_names_bring_no_fault = by_laws gained_names_renumber gained_names_are_judged no_member_fault_comes no_type_fault_comes exports_renumber
