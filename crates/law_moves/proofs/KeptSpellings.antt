-- After a move selectors, keys and the names of fields and functions are spelled as they were.
use Rattle.std.proofs.Common.{ℕ, ◌≡◌, ◌<◌, inl, inr, Bool, true, false, if◌then◌else◌, List, [], ap, refl, sym, subst, ◌∙◌}
use Rattle.std.specs.Prelude.{Option, Some, None, Contains, slice_get, bytes_eq, codes}
use Rattle.std.proofs.lemmas.Bool.{true≢false}
use Rattle.base_edits.specs.EditSet.{FileChanges}
use Rattle.base_files.specs.Workspace.{Workspace}
use Rattle.base_files.specs.declared.place.Place.{Place}
use Rattle.go_scanner.specs.CutText.{tokens_in}
use Rattle.go_ast.specs.SourceFile.{SourceFile, offset_of, spelling_of}
use Rattle.go_ast.specs.Tree.{ReceiverTree}
use Rattle.go_scope.specs.declared.model.Block.TheVariants.{File}
use Rattle.go_scope.specs.declared.model.Block.TheVariants.{Package as PackageBlock}
use Rattle.go_scope.specs.declared.model.Position.{Position}
use Rattle.go_scope.specs.declared.model.Purpose.{Purpose}
use Rattle.go_scope.specs.declared.model.Purpose.TheVariants as purpose
use Rattle.go_scope.specs.declared.model.Role.TheVariants.{Declaring, NotLexical}
use Rattle.go_scope.specs.Bindings.{IsBoundTo, IsImport, use_bound, own, block_of, is_use, is_left_name}
use Rattle.go_scope.specs.FileSites.{func_role}
use Rattle.go_scope.specs.Site.{TokenSpellings}
use Rattle.go_scope.specs.Table.{LiesAt}
use Rattle.types_expr.specs.Judge.{MemberUse, members_of}
use Rattle.types_expr.specs.World.{World}
use Rattle.types_stmt.specs.Declarations.{check_file}
use Rattle.types_declared.specs.Definitions.{PlacedField, package_fields}
use Rattle.types_declared.specs.Package.{Package, PlacedFunction, package_functions, function_place, spelled, spelled_at}
use Rattle.types_info.specs.Worlds.{IsWorldOf, is_init}
use Rattle.law_tokens.proofs.Lexical.{never_bound}
use Rattle.workspace_check.specs.FaultLists.{ListsFaults}
use Rattle.workspace_check.specs.Verdicts.{Verdicts, AreVerdicts}
use Rattle.refs_binding.specs.Binding.{BindsByMember, declaration_of, field_place}
use Rattle.refs_binding.specs.DeclaringPlaces.{TokenBegins}
use Rattle.refs_binding.specs.Identifiers.{IsNameToken, NameBegins}
use Rattle.refs_binding.specs.Uses.{IsCheckedPackage}
use Rattle.refs_binding.proofs.Tokens.{Begins}
use Rattle.refs_lookup.proofs.NamedMembers.{name_member}
use Rattle.refs_lookup.proofs.UsedMembers.{link_role}
use Rattle.refs_uses.proofs.NameTokens.{name_at_token}
use Rattle.refactor_conflict.specs.OldPlaces.{field_at}
use Rattle.law_faultless.proofs.FunctionsSettled.{function_kept, function_name_kept, in_file_of, no_import_role}
use Rattle.law_faultless.proofs.TypesBound.{Kept, Stands, all_kept}
use Rattle.law_changed_types.specs.SameBindings.{IsSelectedAt}
use Rattle.law_renamed_workspaces.specs.Layouts.{IsToken}
use Rattle.law_renamed_workspaces.proofs.RenamedScopesNameTokens.{is_named}
use Rattle.law_renamed_workspaces.proofs.Standing.{named_stands}
use Rattle.law_renamed_workspaces.proofs.RenamedMembersNameTokens.{field_name, function_name}
use Rattle.law_renamed_workspaces.proofs.NewNames.{name_stands}
use Rattle.law_renamed_workspaces.proofs.UsesOfMembers.{IsUseAt, is_use_at}
use Rattle.law_renamed_workspaces.proofs.Counting.{each_counts}
use Rattle.law_moves.specs.MovedVerdicts.{IsBoundAfterMove}

module _ (w : Workspace) (sound : ListsFaults w []) (known : Verdicts) (right : AreVerdicts w known) (from to : List ℕ) (s : FileChanges) (p q : Package)
    (is : IsCheckedPackage w known p) (there : IsBoundAfterMove w from to s p q) where
  abbrev Keeps : (file token : ℕ) → Type 0
  Keeps file token = spelled q file token ≡ spelled p file token

  -- a name at a position
  token_of : (at : Position) (f : SourceFile) → slice_get p.files at.file ≡ Some f → IsNameToken (slice_get (tokens_in f.cut) at.index) →
      (place : Place) × IsToken p at place
  token_of at f of_rank named =
      let place : Place = record { path = f.path; offset = offset_of f at.index } in (
        place,
        record {
          file = f;
          of_rank = of_rank;
          is_name = named;
          begins = subst (λ o. TokenBegins o at.index place) (sym of_rank) (refl, refl);
        },
      )

  -- an identifier that scopes don't bind, and that is no package clause
  kept_by : (at : Position) (u : ℕ) → u < p.size → LiesAt p.layout at u → (place : Place) → IsToken p at place → (k : Purpose) →
      p.layout.role u ≡ NotLexical k → (NotLexical k ≡ NotLexical purpose.PackageClause → ⊥) → Keeps at.file at.index
  kept_by at u lt stands place token k role other =
      there.spelled at place u token (record {
        within = lt;
        stands = stands;
        no_clause = λ e. other (sym role ∙ e);
        unbound = λ d import bound. never_bound p.layout p.names u d k role bound;
      })

  -- selectors

  pub selector_kept : (file token : ℕ) → IsSelectedAt p file token → Keeps file token
  selector_kept file token h =
      let at : Position = record { file = file; index = token } in
      let u = h.identifier in
      let stands = h.found.holds in
      let n = named_stands w known p.path p is.is_checked u h.found.within (ap is_named h.selected) in
      let t = token_of at n.source (ap (slice_get p.files) (sym stands.1) ∙ n.of_rank)
      (subst (λ i. IsNameToken (slice_get (tokens_in n.source.cut) i)) stands.2 n.is_name) in
      kept_by at u h.found.within stands t.0 t.1 purpose.Selected h.selected (λ e. cc)

  -- uses of members

  module _ (file : ℕ) (f g : SourceFile) (v : World) (in_p : slice_get p.files file ≡ Some f) (in_q : slice_get q.files file ≡ Some g)
      (judged : IsWorldOf p file f v) where
    use_kept : (u : MemberUse) → Contains (members_of (check_file v (is_init f) f.tree).uses) u → (a : IsUseAt p file v u) → Keeps file u.place
    use_kept u has a =
        let at : Position = record { file = file; index = u.place } in
        let n = a.number in
        let was : BindsByMember p n (declaration_of a.member) = record {
          uses = members_of (check_file v (is_init f) f.tree).uses;
          judged = record {
            source = f;
            in_file = subst (λ k. slice_get p.files k ≡ Some f) (sym a.stands.1) in_p;
            world = v;
            judged_by = subst (λ k. IsWorldOf p k f v) (sym a.stands.1) judged;
            found = refl;
          };
          found = u;
          is_use = has;
          at = sym a.stands.2;
          member = a.member;
          is_member = ap (λ i. v.member i u.before) a.stands.2 ∙ a.is_member;
          declares = refl;
        } in
        let begins = subst (λ o. NameBegins o u.place a.place.path a.place.offset) in_p a.begins_there in
        let t = token_of at f in_p begins.0 in
        elim (link_role w known p.path p is.is_checked n (declaration_of a.member) a.begins.0 was) [
          | inl key ↦ kept_by at n a.begins.0.0 a.stands t.0 t.1 purpose.Key key (λ e. cc)
          | inr selected ↦ kept_by at n a.begins.0.0 a.stands t.0 t.1 purpose.Selected selected (λ e. cc)
        ]

    pub uses_kept : (u : MemberUse) → Contains (members_of (check_file v (is_init f) f.tree).uses) u → spelling_of g u.place ≡ spelling_of f u.place
    uses_kept u has =
        let a = is_use_at w sound known right p is file f in_p v judged u has in
        ap (λ o. spelled_at o u.place) (sym in_q) ∙ use_kept u has a ∙ ap (λ o. spelled_at o u.place) in_p

  -- fields

  pub field_kept : (rank : ℕ) (f : PlacedField) → slice_get (package_fields p) rank ≡ Some f → Keeps f.file f.name
  field_kept rank f got =
      let at = field_place f in
      let x = name_stands w known p is at (field_name p rank f got) in
      let t = x.stands in
      let begun : TokenBegins (Some t.file) at.index x.place = subst (λ o. TokenBegins o at.index x.place) t.of_rank t.begins in
      let begins : Begins p at x.place = subst (λ o. NameBegins o at.index x.place.path x.place.offset) (sym t.of_rank) (t.is_name, begun.0, begun.1) in
      let a = name_at_token w known p.path p is.is_checked at x.place begins in
      let counting = (each_counts w sound known right p is).fields f.definition rank (spelled p f.file f.name) f
      (record { has_rank = got; of_struct = refl; named = refl }) in
      let role = name_member w known p.path p is.is_checked a.0 (field_at p.path rank) a.1.0.0.0 (
        refl,
        record {
          at = at;
          is_at = record {
            counts = record { definition = f.definition; name = spelled p f.file f.name; field = f; counting = counting };
            named_at = refl;
          };
          stands = a.1.1;
        },
      ) in
      kept_by at a.0 a.1.0.0.0 a.1.1 x.place t purpose.Member role (λ e. cc)

  -- functions

  import_role : (u d : ℕ) → p.layout.role u ≡ Declaring PackageBlock 0 → IsImport p.layout d → IsBoundTo p.layout p.names u d → ⊥
  import_role u d role import (use_bound (inl i) x) = true≢false (sym (sym (ap is_use role) ∙ i))
  import_role u d role import (use_bound (inr i) x) = true≢false (sym (sym (ap is_left_name role) ∙ i.0))
  import_role u d role import (own same c) =
      let block : PackageBlock ≡ File import.0 = sym (ap block_of role) ∙ ap (λ v. block_of (p.layout.role v)) same ∙ import.1 in cc

  by_role : (at : Position) (u : ℕ) → u < p.size → LiesAt p.layout at u → (place : Place) → IsToken p at place → (o : Option ReceiverTree) (b : Bool) →
      (name : List ℕ) → bytes_eq name (codes "init") ≡ b → p.layout.role u ≡ func_role o name → Keeps at.file at.index
  by_role at u lt stands place token (Some r) b name e role = kept_by at u lt stands place token purpose.Member role (λ e. cc)
  by_role at u lt stands place token None true name e role =
      kept_by at u lt stands place token purpose.InitFunction
      (role ∙ ap (λ (c : Bool). if c then NotLexical purpose.InitFunction else Declaring PackageBlock 0) e) (λ e. cc)
  by_role at u lt stands place token None false name e role =
      let plain : p.layout.role u ≡ Declaring PackageBlock 0 =
      role ∙ ap (λ (c : Bool). if c then NotLexical purpose.InitFunction else Declaring PackageBlock 0) e in
      there.spelled at place u token (record {
        within = lt;
        stands = stands;
        no_clause = λ e. (let z : Declaring PackageBlock 0 ≡ NotLexical purpose.PackageClause = sym plain ∙ e in cc);
        unbound = λ d import bound. import_role u d plain import bound;
      })

  pub function_kept_so : (rank : ℕ) (f : PlacedFunction) → slice_get (package_functions p) rank ≡ Some f → Keeps f.file f.function.name
  function_kept_so rank f got =
      let i = in_file_of p rank f got in
      let at = function_place f in
      let source : TokenSpellings = record { rank = f.file; spell = spelling_of i.source } in
      let old = spelling_of i.source f.function.name in
      let u : Stands p f.file f.function.name (func_role f.function.receiver old) =
      function_name_kept (Kept p f.file) source f.function
      (function_kept (Kept p f.file) source i.source.tree i.keyword f.function i.semicolon (all_kept w known p.path p is.is_checked f.file i.source i.in_file)
      i.in_tree) (no_import_role f.function.receiver old) in
      let x = name_stands w known p is at (function_name p rank f got) in
      by_role at u.0 u.1.0 u.1.1.0 x.place x.stands f.function.receiver (bytes_eq old (codes "init")) old refl u.1.1.1
