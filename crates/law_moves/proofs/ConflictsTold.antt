-- The conflicts of a move are those of the renames of imports.
use Rattle.std.proofs.Common.{ℕ, ◌≡◌, inl, inr, List, Option, Some, None, refl, sym, ap, subst, ◌∙◌}
use Rattle.base_files.specs.Workspace.{Workspace}
use Rattle.base_files.specs.declared.place.Place.{Place}
use Rattle.base_edits.specs.EditSet.{FileChanges}
use Rattle.base_edits.specs.Revisions.{Revision, PackageMovesTo}
use Rattle.base_edits.specs.RevisionsOfEdits.{revision_of}
use Rattle.go_ast.specs.SourceFile.{SourceFile}
use Rattle.go_scope.specs.declared.model.Block.TheVariants.{Universe, File, Inner}
use Rattle.go_scope.specs.declared.model.Block.TheVariants.{Package as PackageBlock}
use Rattle.go_scope.specs.declared.model.Position.{Position}
use Rattle.go_scope.specs.declared.model.Purpose.TheVariants as purpose
use Rattle.go_scope.specs.declared.model.Role.TheVariants.{NotLexical}
use Rattle.go_scope.specs.Bindings.{Layout, MayDeclare, IsLeftName, IsPackageLevel, Displaces, Counts, IsBoundTo}
use Rattle.go_scope.specs.WellFormed.{WellFormed}
use Rattle.go_scope.proofs.Nests.{nests}
use Rattle.go_scope.proofs.Uniqueness.{bound_once}
use Rattle.law_moves.specs.OneNewName.{RenamesImports}
use Rattle.law_moves.proofs.AtOnce.{caught, catches, counted_before, keep_at, loses_here, lost_somehow}
use Rattle.law_moves.proofs.NearFiles.{level_shared, may_lexical, shared_unbound}
use Rattle.law_rename.specs.Renaming.{HasNoConflictAt, IsLost}
use Rattle.law_tokens.proofs.Lexical.{never_bound}
use Rattle.types_check.specs.Exports.{DoesExport}
use Rattle.types_declared.specs.Laid.{is_exported, literal_of}
use Rattle.types_declared.specs.Package.{Package}
use Rattle.workspace_check.specs.Verdicts.{Verdicts}
use Rattle.workspace_check.proofs.OnePackage.{layout_formed}
use Rattle.refs_binding.specs.declared.declaration.Declaration.{Declaration}
use Rattle.refs_binding.specs.declared.declaration.Declaration.TheVariants.{Predeclared, Declared, Field, Method}
use Rattle.refs_binding.specs.Binding.{BindsByScope, IsPredeclaredNumber, IsQualifiedUse}
use Rattle.refs_binding.specs.DeclaringPlaces.{IsDeclaredAt, TokenAt, TokenBegins}
use Rattle.refs_binding.specs.Identifiers.{BeginsAt, NameBegins, file_of}
use Rattle.refs_binding.specs.Uses.{IsCheckedPackage}
use Rattle.refs_binding.proofs.Excluding.{exported_as}
use Rattle.refactor_conflict.specs.Corresponding.{predeclared, stands}
use Rattle.refactor_conflict.specs.ScopedPackages.{IsScopedIn}
use Rattle.refactor_conflict.specs.BoundAfter.{HasBecome, IsBoundByPackage, IsBoundByScopes}
use Rattle.refactor_conflict.specs.Conflicts.{ChangesBinding, IsCapturer, IsConflictIn, LosesMember, LostOrCaptured, by_member, by_name, by_package, by_scope}
use Rattle.refactor_conflict.specs.Conflicts.{is_captured, is_lost}
use Rattle.refactor_conflict.specs.Staying.{StaysBound, StaysByPackage, StaysByScope, StaysIn}
use Rattle.refactor_conflict.specs.declared.conflict.Capturer.{Capturer}
use Rattle.refactor_conflict.specs.declared.conflict.Conflict.{Conflict}
use Rattle.refactor_conflict.proofs.BoundAfter.{counted_use}
use Rattle.refactor_move.specs.declared.moved.Moved.{Moved}
use Rattle.law_renamed_workspaces.specs.Layouts.{IsToken}
use Rattle.law_renamed_workspaces.proofs.OwnNames.{counted, in_universe}
use Rattle.law_agreement.specs.ConflictsByTables.{IsOwnNumber}
use Rattle.law_agreement.proofs.OwnConflicts.{number_of, numbered, one_number, one_numbered}
use Rattle.law_agreement.proofs.ScopedPlaces.{bound_there}
use Rattle.law_agreement.specs.ScopeConflicts.{IsOwnConflictBy}
use Rattle.law_agreement.proofs.Afterwards.{KeepsMembers, becomes_once}
use Rattle.law_renamed_workspaces.proofs.MovedTokens.{have_places}
use Rattle.law_moves.specs.Moves.{IsMove}
use Rattle.law_moves.specs.MoveConflicts.{IsFreeOfImports, IsImportConflict}
use Rattle.law_moves.specs.ThereMoved.{IsFollowingImport, IsThereMoved, followed_name}
use Rattle.law_moves.proofs.ImportsFollow.{renames}
use Rattle.law_moves.proofs.NamesAt.{names_apart}
use Rattle.law_moves.proofs.NamesMove.{is_there, named_old}
use Rattle.law_moves.proofs.AfterMove as after
use Rattle.law_moves.proofs.PlacesApart.{move_apart}
use Rattle.law_agreement.proofs.Together.{binds_number}

not_universal : PackageBlock ≡ Universe → ⊥
not_universal e = cc

-- the token of an identifier that begins at a place
token_of : (p : Package) (u : ℕ) (place : Place) → BeginsAt p place.path place.offset u → IsToken p (p.layout.place u) place
token_of p u place b = by_file (file_of p u) refl b.1
  where
    by_file : (o : Option SourceFile) → file_of p u ≡ o → NameBegins o (p.layout.place u).index place.path place.offset → IsToken p (p.layout.place u) place
    by_file None e b = absurd b
    by_file (Some f) e b =
        record { file = f; of_rank = e; is_name = b.0; begins = subst (λ o. TokenBegins o (p.layout.place u).index place) (sym e) (b.1, b.2) }

module _ (w : Workspace) (known : Verdicts) (from to : List ℕ) (s : FileChanges) (h : IsMove w known from to s) where
  abbrev r : Revision
  r = revision_of w s

  abbrev Known : Package → Type 0
  Known = IsCheckedPackage w known

  abbrev Bec : Declaration → Declaration → Type 0
  Bec = HasBecome w known r

  abbrev m : Moved
  m = h.edits.moved

  module _ (p : Package) (is : IsCheckedPackage w known p) where
    abbrev q : Package
    q = after.moved w known from to s h p is

    abbrev l : Layout
    l = p.layout

    abbrev Follows : ℕ → Type 0
    Follows d = IsFollowingImport m p d

    abbrev y : List ℕ
    y = followed_name m

    there : IsThereMoved w m r p q
    there = is_there w known from to s h p is

    at_once : RenamesImports l p.names Follows y q.names
    at_once = renames w known from to s h p is q there.moved

    formed : WellFormed l
    formed = layout_formed w known p.path p is.is_checked

    to_layout : (u n : ℕ) → IsBoundTo l q.names u n → IsBoundTo q.layout q.names u n
    to_layout u n b = subst (λ (k : Layout). IsBoundTo k q.names u n) (sym there.moved.layout) b

    from_layout : (u n : ℕ) → IsBoundTo q.layout q.names u n → IsBoundTo l q.names u n
    from_layout u n b = subst (λ (k : Layout). IsBoundTo k q.names u n) there.moved.layout b

    -- what counts before and after has become what has its number
    declared_again : (n : ℕ) → (IsPredeclaredNumber n → ⊥) → Counts l p.names n → Counts l q.names n → Bec (Declared p.path n) (Declared q.path n)
    declared_again n own before now =
        let place = have_places w known p is n before own in
        let at : Position = l.place (literal_of l n) in
        let token : TokenAt q at (r.moved place.0) = there.begins.tokens at place.0 place.1 in
        let new_token : TokenAt q (q.layout.place (literal_of q.layout n)) (r.moved place.0) =
        subst (λ (k : Layout). TokenAt q (k.place (literal_of k n)) (r.moved place.0)) (sym there.moved.layout) token in
        let counts : Counts q.layout q.names n = subst (λ (k : Layout). Counts k q.names n) (sym there.moved.layout) now in
        let old : IsDeclaredAt Known (Declared p.path n) place.0 = record {
          inside = p;
          is_package = is;
          of_path = refl;
          holds = record { at = at; is_at = record { own = own; counts = before; stands = refl }; begins = place.1 };
        } in
        let new : IsDeclaredAt (IsScopedIn r.after) (Declared q.path n) (r.moved place.0) = record {
          inside = q;
          is_package = there.is_scoped;
          of_path = refl;
          holds = record { at = q.layout.place (literal_of q.layout n); is_at = record { own = own; counts = counts; stands = refl }; begins = new_token };
        } in
        stands place.0 old new

    becomes : (n : ℕ) (d e : Declaration) → IsOwnNumber p n d → IsOwnNumber q n e → Counts l p.names n → Counts l q.names n → Bec d e
    becomes n (Predeclared j) (Predeclared k) x z before now = subst (λ i. Bec (Predeclared j) (Predeclared i)) (x.0 ∙ sym z.0) predeclared
    becomes n (Predeclared j) (Declared path k) x z before now = absurd (z.2 x.1)
    becomes n (Declared path j) (Predeclared k) x z before now = absurd (x.2 z.1)
    becomes n (Declared path j) (Declared other k) x z before now =
        let base : Bec (Declared p.path n) (Declared q.path n) = declared_again n x.2 before now in
        subst (λ a. Bec a (Declared other k)) (ap (λ i. Declared p.path i) (sym x.1) ∙ ap (λ t. Declared t j) (sym x.0))
        (subst (Bec (Declared p.path n)) (ap (λ i. Declared q.path i) (sym z.1) ∙ ap (λ t. Declared t k) (sym z.0)) base)
    becomes n (Predeclared j) (Field f) x z before now = absurd z
    becomes n (Predeclared j) (Method f) x z before now = absurd z
    becomes n (Declared path j) (Field f) x z before now = absurd z
    becomes n (Declared path j) (Method f) x z before now = absurd z
    becomes n (Field f) e x z before now = absurd x
    becomes n (Method f) e x z before now = absurd x

    -- one identifier
    module _ (u : ℕ) (place : Place) (begins : BeginsAt p place.path place.offset u) where
      abbrev E : Declaration → Type 0
      E = IsBoundByScopes r place

      begins_after : BeginsAt q (r.moved place).path (r.moved place).offset u
      begins_after = there.begins.names u place begins

      used : (n : ℕ) (e : Declaration) → IsOwnNumber q n e → IsBoundTo l q.names u n → E e
      used n e x b =
          record { used_in = q; is_package = there.is_scoped; user = u; begins = begins_after; bound = binds_number q u n e x (to_layout u n b) }

      found : (e : Declaration) → E e → (n : ℕ) × (IsOwnNumber q n e × IsBoundTo l q.names u n)
      found e k =
          let x = number_of q u e (bound_there r.after q there.is_scoped (r.moved place) u begins_after e k) in
          (x.0, (x.1.0, from_layout u x.0 x.1.1))

      only : (a b e : Declaration) → E e → Bec a e → Bec b e → a ≡ b
      only a b e k x z = becomes_once w known r (move_apart w known from to s h) a b e (counted_use r.after (r.moved place) e k) x z

      -- what it was bound to, and what it is bound to
      itself : (o n : ℕ) (d e : Declaration) → IsBoundTo l p.names u o → IsOwnNumber p n d → IsOwnNumber q n e → IsBoundTo l q.names u n → Bec d e
      itself o n d e was x z b =
          becomes n d e x z (counted_before l p.names Follows y q.names at_once u n o was b) (counted l q.names u n b)

      -- where there is no conflict it stays bound
      scope_stays : ((d : ℕ) → Follows d → HasNoConflictAt l p.names d y u) → StaysByScope w known r p u place
      scope_stays free old was =
          let x = number_of p u old was in
          let n = x.0 in
          let now : IsBoundTo l q.names u n = (keep_at l p.names Follows y q.names at_once u n x.1.1).1 free in
          let e = numbered q n in
          record { declaration = e.0; bound = used n e.0 e.1 now; become = itself n n old e.0 x.1.1 x.1.0 e.1 now }

      -- what stays bound is bound to the same number
      same_after : (n : ℕ) (old : Declaration) → IsOwnNumber p n old → IsBoundTo l p.names u n → StaysBound Bec E old → IsBoundTo l q.names u n
      same_after n old x was stay =
          let f = found stay.declaration stay.bound in
          let c = numbered p f.0 in
          let same : c.0 ≡ old = only c.0 old stay.declaration stay.bound (itself n f.0 c.0 stay.declaration was c.1 f.1.0 f.1.1) stay.become in
          let one : f.0 ≡ n = one_number p f.0 n old (subst (IsOwnNumber p f.0) same c.1) x in
          subst (IsBoundTo l q.names u) one f.1.1

      scope_free : StaysByScope w known r p u place → (n : ℕ) → IsBoundTo l p.names u n → (d : ℕ) → Follows d → HasNoConflictAt l p.names d y u
      scope_free stay n was =
          let d = numbered p n in
          (keep_at l p.names Follows y q.names at_once u n was).0 (same_after n d.0 d.1 was (stay d.0 (binds_number p u n d.0 d.1 was)))

      -- what is unbound has no conflict
      free_somehow : StaysByScope w known r p u place → (d : ℕ) → Follows d → HasNoConflictAt l p.names d y u
      free_somehow stay d follows = record {
        not_captured = λ c k.
            let x = catches l p.names Follows y q.names at_once u c (d, (follows, k)) in
            (scope_free stay x.old x.was d follows).not_captured c k;
        not_lost = λ k.
            let x = loses_here l p.names Follows y q.names at_once u d follows k in
            (scope_free stay x.old x.was d follows).not_lost k;
      }

      -- each conflict of the renames is one of the move
      turned : (by : Option Capturer) (d : ℕ) → Follows d → IsOwnConflictBy Known p d y u by → ChangesBinding w known r p u (record { used = place; by = by })
      turned None d follows k =
          let x = loses_here l p.names Follows y q.names at_once u d follows k in
          let old = numbered p x.old in
          by_scope old.0 (binds_number p u x.old old.0 old.1 x.was) (is_lost (λ e c bound become.
          let f = found e bound in x.bound_to_none f.0 f.1.1))
      turned (Some by) d follows k =
          let c = k.0 in
          let x = catches l p.names Follows y q.names at_once u c (d, (follows, k.1.0)) in
          let old = numbered p x.old in
          let e = numbered q c in
          let name = k.1.1 in
          let become : Bec name.declaration e.0 = itself x.old c name.declaration e.0 x.was name.numbered e.1 x.now_bound in
          by_scope old.0 (binds_number p u x.old old.0 old.1 x.was)
          (is_captured e.0 name.declaration (used c e.0 e.1 x.now_bound) become name.told (λ g bound also.
          let f = found g bound in
          let one : f.0 ≡ c = bound_once l (nests l formed) q.names u f.0 c f.1.1 x.now_bound in
          let here : g ≡ e.0 = one_numbered q c g e.0 (subst (λ i. IsOwnNumber q i g) one f.1.0) e.1 in
          let same : name.declaration ≡ old.0 =
          only name.declaration old.0 g bound (subst (Bec name.declaration) (sym here) become) also in
          x.other (one_number p c x.old old.0 (subst (IsOwnNumber p c) same name.numbered) old.1)))

      -- and the move has no others
      scope_conflict : (old : Declaration) → BindsByScope p u old → (by : Option Capturer) → LostOrCaptured Bec Known E old by →
          ((d : ℕ) → Follows d → IsOwnConflictBy Known p d y u by → ⊥) → ⊥
      scope_conflict old was by (is_lost none) free =
          let x = number_of p u old was in
          let lost : IsLost l p.names q.names u = record {
            old = x.0;
            was = x.1.1;
            bound_to_none = λ c b.
                let d = numbered p c in
                let e = numbered q c in
                none e.0 d.0 (used c e.0 e.1 b) (itself x.0 c d.0 e.0 x.1.1 d.1 e.1 b);
          } in
          lost_somehow l p.names Follows y q.names at_once u lost free
      scope_conflict old was by (is_captured {by = t} e c bound become tells not) free =
          let x = number_of p u old was in
          let f = found e bound in
          let d = numbered p f.0 in
          let now : Bec d.0 e = itself x.0 f.0 d.0 e x.1.1 d.1 f.1.0 f.1.1 in
          let same : c ≡ d.0 = only c d.0 e bound become now in
          let other : f.0 ≡ x.0 → ⊥ =
          (λ one. not e bound (subst (λ g. Bec g e) (one_numbered p x.0 d.0 old (subst (λ i. IsOwnNumber p i d.0) one d.1) x.1.0) now)) in
          let k = caught l p.names Follows y q.names at_once u f.0 (record { old = x.0; was = x.1.1; other = other; now_bound = f.1.1 }) in
          free k.0 k.1.0
          (f.0, (k.1.1, record { declaration = d.0; numbered = d.1; told = subst (λ g. IsCapturer Known g t) same tells }))

    -- what other packages see

    level_stays : (d : ℕ) → IsPackageLevel l d → MayDeclare l d → q.names d ≡ p.names d
    level_stays d level may =
        there.moved.names.kept d (may_lexical (l.role d) may) (λ e follows b.
        shared_unbound l formed p.names d e may (level_shared l d level) follows.imports.is_import b)

    not_left : (d : ℕ) → IsPackageLevel l d → IsLeftName l d → ⊥
    not_left d level left = let i = formed.left_inner d left in never i.0 i.1 i.2 (sym level ∙ i.3)
      where
        never : (f a b : ℕ) → PackageBlock ≡ Inner f a b → ⊥
        never f a b e = cc

    level_counts : (d : ℕ) → IsPackageLevel l d → Counts l p.names d → Counts l q.names d
    level_counts d level c = record {
      declares = record { may = c.declares.may; is_new = λ left. absurd (not_left d level left) };
      first = λ e also same displaces. by_block e also.may same displaces;
    }
      where
        in_block : (e : ℕ) → MayDeclare l e → q.names e ≡ q.names d → IsPackageLevel l e → Displaces l e d → ⊥
        in_block e may same level_too displaces =
            c.first e (record { may = may; is_new = λ left. absurd (not_left e level_too left) })
            (sym (level_stays e level_too may) ∙ same ∙ level_stays d level c.declares.may) displaces

        by_block : (e : ℕ) → MayDeclare l e → q.names e ≡ q.names d → Displaces l e d → ⊥
        by_block e may same (inl earlier) = in_block e may same (earlier.0 ∙ level) (inl earlier)
        by_block e may same (inr import) = let z : PackageBlock ≡ File import.1.0 = sym level ∙ import.1.1 in no import.1.0 z
          where
            no : (f : ℕ) → PackageBlock ≡ File f → ⊥
            no f e = cc

    exports_after : (d : ℕ) → DoesExport p d → DoesExport q d
    exports_after d k = record {
      package_level = subst (λ (i : Layout). IsPackageLevel i d) (sym there.moved.layout) k.package_level;
      counts = subst (λ (i : Layout). Counts i q.names d) (sym there.moved.layout) (level_counts d k.package_level k.counts);
      exported = ap is_exported (level_stays d k.package_level k.counts.declares.may) ∙ k.exported;
    }

    export_becomes : (d : ℕ) → DoesExport p d → Bec (Declared p.path d) (Declared q.path d)
    export_becomes d k =
        declared_again d (λ lt. not_universal (sym k.package_level ∙ in_universe w known p.path p is.is_checked d lt)) k.counts
        (level_counts d k.package_level k.counts)

  -- the selector of a qualified identifier stays bound

  module _ (p : Package) (is : IsCheckedPackage w known p) (u : ℕ) (place : Place) (begins : BeginsAt p place.path place.offset u) where
    selector_called : (path : List ℕ) (n : ℕ) → IsQualifiedUse Known p u path n → r.called place (p.names u) ≡ p.names u
    selector_called path n k =
        let token = token_of p u place begins in
        let old = named_old w known from to s h p is u begins.0 token.file token.of_rank token.is_name in
        let role = k.behind.selected in
        ap (r.called place) old
        ∙ names_apart w known from to s h p is (p.layout.place u) place u token (record {
          within = begins.0.0;
          stands = (begins.0.1, refl, refl);
          no_clause = λ clause. not_clause (sym role ∙ clause);
          unbound = λ d follows b. never_bound p.layout p.names u d purpose.Selected role b;
        })
        ∙ sym old
      where
        not_clause : NotLexical purpose.Selected ≡ NotLexical purpose.PackageClause → ⊥
        not_clause e = cc

    by_export : (path : List ℕ) (n : ℕ) → IsQualifiedUse Known p u path n → StaysBound Bec (IsBoundByPackage w r place p u) (Declared path n)
    by_export path n k =
        let o = after.moved w known from to s h k.other k.is_package in
        let a = is_there w known from to s h k.other k.is_package in
        record {
          declaration = Declared o.path n;
          bound = record {
            path = path;
            behind = k.behind;
            exports = record {
              other = o;
              is_package = a.is_scoped;
              goes = subst (λ z. PackageMovesTo w r z o.path) k.of_path a.goes;
              declaration = n;
              seen = exports_after k.other k.is_package n k.seen;
              named =
                  level_stays k.other k.is_package n k.seen.package_level k.seen.counts.declares.may ∙ k.named ∙ sym (selector_called path n k);
              exported = refl;
            };
          };
          become = subst (λ z. Bec (Declared z n) (Declared o.path n)) k.of_path (export_becomes k.other k.is_package n k.seen);
        }

    pub selector_stays : StaysByPackage w known r p u place
    selector_stays old was =
        let x = exported_as Known p u old was in
        subst (StaysBound Bec (IsBoundByPackage w r place p u)) (sym x.1.1.0) (by_export x.0 x.1.0 x.1.1.1)

  -- together

  pub conflict_is : (p : Package) (is : IsCheckedPackage w known p) (c : Conflict) → IsImportConflict Known m p c → IsConflictIn w known r p c
  conflict_is p is c k = record {
    user = k.1.1.user;
    begins = k.1.1.begins;
    turned = turned p is k.1.1.user c.used k.1.1.begins c.by k.0 k.1.0 k.1.1.has;
  }

  never_turned : (E : Declaration → Type 0) (old : Declaration) (by : Option Capturer) → LostOrCaptured Bec Known E old by → StaysBound Bec E old → ⊥
  never_turned E old by (is_lost none) stay = none stay.declaration old stay.bound stay.become
  never_turned E old by (is_captured e c bound become tells not) stay = not stay.declaration stay.bound stay.become

  never_lost : (E : Declaration → Type 0) (old : Declaration) (by : Option Capturer) → LosesMember Known E old by → E old → ⊥
  never_lost E old None lost stay = lost old stay
  never_lost E old (Some by) caught stay = caught.other stay

  module _ (members : KeepsMembers w known r) (p : Package) (is : IsCheckedPackage w known p) where
    not_turned : (c : Conflict) (u : ℕ) (begins : BeginsAt p c.used.path c.used.offset u) → ChangesBinding w known r p u c →
        (IsImportConflict Known m p c → ⊥) → ⊥
    not_turned c u begins (by_scope old was lost) free =
        scope_conflict p is u c.used begins old was c.by lost (λ d follows k. free (d, (follows, record { user = u; begins = begins; has = k })))
    not_turned c u begins (by_package old was lost) free =
        never_turned (IsBoundByPackage w r c.used p u) old c.by lost (selector_stays p is u c.used begins old was)
    not_turned c u begins (by_member old was lost) free =
        never_lost _ old c.by lost ((members p is u c.used begins).0 old was)
    not_turned c u begins (by_name old declares lost none) free = lost ((members p is u c.used begins).1 old declares)

    pub conflict_was : (c : Conflict) → IsConflictIn w known r p c → (IsImportConflict Known m p c → ⊥) → ⊥
    conflict_was c k free = not_turned c k.user k.begins k.turned free

    pub place_stays : (place : Place) → IsFreeOfImports m p place → StaysIn w known r p place
    place_stays place free u begins = record {
      by_scope = scope_stays p is u place begins (λ d follows. free d follows u begins);
      by_package = selector_stays p is u place begins;
      by_member = (members p is u place begins).0;
      by_name = (members p is u place begins).1;
    }

  pub place_free : (p : Package) (is : IsCheckedPackage w known p) (place : Place) → StaysIn w known r p place → IsFreeOfImports m p place
  place_free p is place stay d follows u begins = free_somehow p is u place begins (stay u begins).by_scope d follows
