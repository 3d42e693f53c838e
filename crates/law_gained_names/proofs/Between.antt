-- The package between both steps: an import got, before its literal, the name that it declares already. Where its identifiers begin, and which of
-- them are bound to the import.
use Rattle.std.proofs.Common.{ℕ, suc, ◌≡◌, ◌<◌, ◌+◌, ◌⊎◌, inl, inr, List, ◌∷◌, ◌++◌, Option, Some, None, false, length, map, refl, sym, ap, ◌∙◌, subst}
use Rattle.std.specs.Prelude.{option_map, slice_get}
use Rattle.std.proofs.lemmas.Bool.{cases_eq}
use Rattle.std.proofs.lemmas.Option.{same_Some, slice_get-map}
use Rattle.base_files.specs.Workspace.{Workspace}
use Rattle.base_files.specs.declared.place.Place.{Place}
use Rattle.base_edits.specs.EditSet.{FileChanges, edited}
use Rattle.base_edits.specs.Moved.{moved}
use Rattle.go_scanner.specs.declared.piece.Piece.{Piece}
use Rattle.go_scanner.specs.CutText.{CutText, tokens_in}
use Rattle.go_ast.specs.SourceFile.{SourceFile, offset_at, offset_of, source_of}
use Rattle.go_scope.specs.declared.model.Block.TheVariants.{File}
use Rattle.go_scope.specs.declared.model.Position.{Position}
use Rattle.go_scope.specs.declared.model.Role.{Role}
use Rattle.go_scope.specs.declared.model.Role.TheVariants.{Declaring, Implied, LeftName, NotLexical, Use}
use Rattle.go_scope.specs.Bindings.{Counts, IsBoundTo, IsImport, Layout, block_of, is_implied, own as own_bound}
use Rattle.go_scope.specs.Moves.{moved_place, moved_role}
use Rattle.go_scope.specs.Site.{or_blank}
use Rattle.law_rename.specs.Around.{from_on}
use Rattle.law_rename.specs.Gained.{Gain}
use Rattle.law_rename.specs.Named.{NamePut, after_put, before_put, literal_piece, name_place, name_piece}
use Rattle.law_rename.proofs.Spelling.{from_itself}
use Rattle.law_rename.proofs.TokensBehind.{seam}
use Rattle.types_declared.specs.Package.{Package}
use Rattle.workspace_check.specs.Verdicts.{Verdicts}
use Rattle.refs_binding.specs.Identifiers.{BeginsAt, IsInFiles, IsNameToken, NameBegins}
use Rattle.refs_places.proofs.Starts.{begins_once}
use Rattle.law_gained_names.specs.NamedPackage.{numbers_of}
use Rattle.law_gained_names.proofs.Alone.{alone}
use Rattle.law_gained_names.proofs.Layouts.{from_apart, from_stays, path_at, stood_at, token_here, tokens_agree}
use Rattle.law_gained_names.proofs.Literals.{here_number, import_is, other_file, other_number}
use Rattle.law_gained_names.specs.GainedName.{GainsOwnName, IsGainedAt, gained_by}
use Rattle.law_gained_names.proofs.Scopes.{from_covers}
use Rattle.law_gained_names.proofs.Offsets.{classes_kept}
use Rattle.law_renamed_workspaces.proofs.Literals.{no_name}
use Rattle.law_gained_names.specs.OwnName.{HasGainedBy}
use Rattle.law_gained_names.proofs.Becoming.{begins, now, stands_there}
use Rattle.law_gained_names.proofs.GainedStepsTokens.{i, now_here}
use Rattle.law_gained_names.proofs.GainingRenamesImports.{IsUsedAt}
use Rattle.law_gained_names.proofs.NewTokens.{token_own}

implied_back : (m : ℕ → ℕ → ℕ) (r : Role) → is_implied (moved_role m r) ≡ is_implied r
implied_back m (Declaring b s) = refl
implied_back m (LeftName b s) = refl
implied_back m (Implied b s) = refl
implied_back m Use = refl
implied_back m (NotLexical x) = refl

-- whether a token is a name is told by its class
still_name : (o n : Option Piece) → option_map (λ (t : Piece). t.class) n ≡ option_map (λ (t : Piece). t.class) o → IsNameToken n → IsNameToken o
still_name None None e h = absurd h
still_name None (Some s) e h = let z : ⊥ = cc in absurd z
still_name (Some t) None e h = absurd h
still_name (Some t) (Some s) e h = sym (same_Some s.class t.class e) ∙ h

module _ (w : Workspace) (known : Verdicts) (s : FileChanges) (f : SourceFile) (number : ℕ) (put : List ℕ) (p q : Package)
    (h : HasGainedBy w known s f number put p q) where
  abbrev pub g : GainsOwnName number p q
  g = h.gained.gains

  abbrev pub gain : Gain
  gain = gained_by number p q g

  abbrev pub one : NamePut
  one = g.gains.put

  -- the file after the insertion
  abbrev pub new_file : SourceFile
  new_file = source_of g.after

  -- where the name begins
  abbrev pub own_place : Place
  own_place = record { path = f.path; offset = name_place one }

  pub was_here : slice_get p.files gain.rank ≡ Some f
  was_here =
      ap (λ (x : Package). slice_get x.files gain.rank) g.parsed.is_package.is_package
      ∙ ap (λ fs. slice_get (map source_of fs) gain.rank) g.files
      ∙ slice_get-map source_of (g.first ++ g.before ∷ g.rest) gain.rank
      ∙ ap (option_map source_of) (seam g.first g.rest g.before) ∙ ap Some h.before

  pub old_cut : f.cut ≡ before_put one
  old_cut = ap (λ (x : SourceFile). x.cut) (sym h.before) ∙ g.gains.old_cut

  pub literal_token : slice_get (tokens_in f.cut) number ≡ Some (literal_piece one)
  literal_token = ap (λ (c : CutText). slice_get (tokens_in c) number) old_cut ∙ g.gains.literal

  -- the literal begins where the name is put
  pub put_at : offset_of f number ≡ length one.front
  put_at = ap (offset_at f.cut.text) literal_token

  pub name_token : slice_get (tokens_in new_file.cut) number ≡ Some (name_piece one)
  name_token =
      ap (λ (c : CutText). slice_get (tokens_in c) number) g.gains.new_cut ∙ token_own one number g.gains.may g.gains.literal

  -- names were names

  old_name : (n : ℕ) → IsNameToken (slice_get (tokens_in new_file.cut) (from_on number n)) → IsNameToken (slice_get (tokens_in f.cut) n)
  old_name n name =
      subst (λ (c : CutText). IsNameToken (slice_get (tokens_in c) n)) (sym old_cut)
      (still_name (slice_get (tokens_in (before_put one)) n) (slice_get (tokens_in (after_put one)) (from_on number n))
      (classes_kept one number g.gains.may g.gains.literal n)
      (subst (λ (c : CutText). IsNameToken (slice_get (tokens_in c) (from_on number n))) g.gains.new_cut name))

  -- the literal is none
  pub literal_no_name : IsNameToken (slice_get (tokens_in f.cut) number) → ⊥
  literal_no_name name = no_name one.class g.gains.may.is_string (subst IsNameToken literal_token name)

  pub new_literal_no_name : IsNameToken (slice_get (tokens_in new_file.cut) (number + 1)) → ⊥
  new_literal_no_name name =
      literal_no_name (old_name number (subst (λ n. IsNameToken (slice_get (tokens_in new_file.cut) n)) (sym (from_itself number)) name))

  module _ (at : ℕ) (is : IsGainedAt (i w known s f number put p q h) at p q) where
    abbrev pub e : ℕ → ℕ
    e = from_on (suc at)

    abbrev token : ℕ → ℕ → ℕ
    token = (numbers_of gain at).token

    -- the import

    pub old_place : p.layout.place at ≡ record { file = gain.rank; index = number }
    old_place = import_is gain at p q is.named is.literals

    pub new_place : q.layout.place at ≡ record { file = gain.rank; index = number }
    new_place =
        ap q.layout.place (sym (from_stays at)) ∙ is.renumbered.places at ∙ ap (moved_place token) old_place
        ∙ ap (λ n. record { file = gain.rank; index = n }) (token_here gain at number ∙ from_stays number)

    pub old_role : p.layout.role at ≡ Declaring (File gain.rank) 0
    old_role =
        ap (λ (l : Layout). l.role at) is.named.was.layout ∙ ap (λ o. (or_blank o).role) (stood_at gain at is.named.old is.named.new is.named.gained)

    pub new_role : q.layout.role at ≡ Declaring (File gain.rank) 0
    new_role = ap q.layout.role (sym (from_stays at)) ∙ is.renumbered.roles at ∙ ap (moved_role is.renumbered.ends) old_role

    abbrev pub old_import : IsImport p.layout at
    old_import = (gain.rank, ap block_of old_role)

    abbrev pub new_import : IsImport q.layout at
    new_import = (gain.rank, ap block_of new_role)

    -- its name begins at its place
    pub own_begins : IsInFiles p at → BeginsAt q own_place.path own_place.offset at
    own_begins stands = (
      subst (IsInFiles q) (from_stays at) (stands_there w known s f number put p q h at is at stands),
      subst (λ (z : Position). NameBegins (slice_get q.files z.file) z.index own_place.path own_place.offset) (sym new_place)
          (subst (λ o. NameBegins o number own_place.path own_place.offset) (sym (now_here w known s f number put p q h))
          (subst IsNameToken (sym name_token) refl, h.path, ap (offset_at new_file.cut.text) name_token)),
    )

    -- the other identifiers were there

    -- a name of a file
    record IsName (file n : ℕ) : Type 0 where
      source : SourceFile
      of_rank : slice_get p.files file ≡ Some source
      is_name : IsNameToken (slice_get (tokens_in source.cut) n)

    named_as : (o : Option SourceFile) (n : ℕ) (path : List ℕ) (offset : ℕ) → NameBegins o n path offset → (x : SourceFile) × ((o ≡ Some x) × IsNameToken
        (slice_get (tokens_in x.cut) n))
    named_as None n path offset b = absurd b
    named_as (Some x) n path offset b = (x, (refl, b.0))

    was_name : (file n : ℕ) → (file ≡ gain.rank → n ≡ number → ⊥) → (path : List ℕ) (offset : ℕ) →
        NameBegins (slice_get q.files file) (token file n) path offset → IsName file n
    was_name file n apart path offset b = elim (cases_eq file gain.rank) [
      | inl same ↦
          let x = named_as (slice_get q.files file) (token file n) path offset b in
          let whole : x.0 ≡ new_file = same_Some x.0 new_file (sym x.1.0 ∙ ap (slice_get q.files) same ∙ now_here w known s f number put p q h) in
          let index : token file n ≡ from_on number n =
          sym (tokens_agree gain at file n apart) ∙ here_number gain at p q is.named is.literals file n same in
          record {
            source = f;
            of_rank = ap (slice_get p.files) same ∙ was_here;
            is_name = old_name n
                (subst (λ m. IsNameToken (slice_get (tokens_in new_file.cut) m)) index
                (subst (λ (y : SourceFile). IsNameToken (slice_get (tokens_in y.cut) (token file n))) whole x.1.1));
          }
      | inr other ↦
          let x = named_as (slice_get q.files file) (token file n) path offset b in
          let index : token file n ≡ n = sym (tokens_agree gain at file n apart) ∙ other_number gain at p q is.named is.literals file n other in
          record {
            source = x.0;
            of_rank = sym (other_file gain at p q is.named is.literals file other) ∙ x.1.0;
            is_name = subst (λ m. IsNameToken (slice_get (tokens_in x.0.cut) m)) index x.1.1;
          }
    ]

    was_in_files : (u : ℕ) → IsInFiles q (e u) → IsInFiles p u
    was_in_files u stands =
        let identifier : is_implied (p.layout.role u) ≡ false =
        sym (implied_back is.renumbered.ends (p.layout.role u)) ∙ ap is_implied (sym (is.renumbered.roles u)) ∙ stands.1 in (
          elim (is.renumbered.old_or_new (e u) stands.0) [
            | inl old ↦ subst (λ k. k < p.size) (sym (from_apart (suc at) u old.0 old.1.0)) old.1.1
            | inr none ↦ absurd (none (p.layout.place u).file (p.layout.place u).index
                (stands.1, ap (λ (z : Position). z.file) (is.renumbered.places u), ap (λ (z : Position). z.index) (is.renumbered.places u)))
          ],
          identifier,
        )

    -- An identifier of the old package begins at a place that the insertion moves to this one.
    pub record WasAt (u : ℕ) (place : Place) : Type 0 where
      pub old : Place
      pub begins : BeginsAt p old.path old.offset u
      pub goes : moved s old ≡ place

    pub old_begins : (u : ℕ) → (u ≡ at → ⊥) → (place : Place) → BeginsAt q place.path place.offset (e u) → WasAt u place
    old_begins u other place b =
        let z = p.layout.place u in
        let there : NameBegins (slice_get q.files z.file) (token z.file z.index) place.path place.offset =
        subst (λ (y : Position). NameBegins (slice_get q.files y.file) y.index place.path place.offset) (is.renumbered.places u) b.1 in
        let x = was_name z.file z.index (alone gain at p q is.named u other) place.path place.offset there in
        let old : Place = record { path = x.source.path; offset = offset_of x.source z.index } in
        let was : BeginsAt p old.path old.offset u =
        (was_in_files u b.0, subst (λ o. NameBegins o z.index old.path old.offset) (sym x.of_rank) (x.is_name, refl, refl)) in
        record {
          old = old;
          begins = was;
          goes = begins_once q (e u) (moved s old) place (begins w known s f number put p q h at is u old was) b;
        }

    -- the literal is no identifier of its own

    literal_place : q.layout.place (suc at) ≡ record { file = gain.rank; index = number + 1 }
    literal_place =
        ap (λ (l : Layout). l.place (suc at)) is.named.is.layout
        ∙ ap (λ o. (or_blank o).place) (path_at gain at is.named.old is.named.new is.named.gained)

    literal_begins : (place : Place) → BeginsAt q place.path place.offset (suc at) → ⊥
    literal_begins place b =
        let there : NameBegins (slice_get q.files gain.rank) (number + 1) place.path place.offset =
        subst (λ (y : Position). NameBegins (slice_get q.files y.file) y.index place.path place.offset) literal_place b.1 in
        let x = named_as (slice_get q.files gain.rank) (number + 1) place.path place.offset there in
        let whole : x.0 ≡ new_file = same_Some x.0 new_file (sym x.1.0 ∙ now_here w known s f number put p q h) in
        new_literal_no_name (subst (λ (y : SourceFile). IsNameToken (slice_get (tokens_in y.cut) (number + 1))) whole x.1.1)

    -- So each identifier is the import's name, or was there.
    abbrev pub IsOwnOrOld : Place → ℕ → Type 0
    IsOwnOrOld place k = ((k ≡ at) × (place ≡ own_place)) ⊎ ((u : ℕ) × ((e u ≡ k) × ((u ≡ at → ⊥) × WasAt u place)))

    pub own_or_old : IsInFiles p at → (k : ℕ) (place : Place) → BeginsAt q place.path place.offset k → IsOwnOrOld place k
    own_or_old stands k place b =
        let d = from_covers at k (λ same. literal_begins place (subst (BeginsAt q place.path place.offset) same b)) in
        elim (cases_eq d.0 at) [
          | inl same ↦
              let here : k ≡ at = sym d.1 ∙ ap e same ∙ from_stays at in
              inl (here, begins_once q at place own_place (subst (BeginsAt q place.path place.offset) here b) (own_begins stands))
          | inr other ↦ inr (d.0, (d.1, (other, old_begins d.0 other place (subst (BeginsAt q place.path place.offset) (sym d.1) b))))
        ]

    -- what is bound to the import

    abbrev Old : Place → Type 0
    Old place = IsUsedAt w known p h.gained.was at old_import place

    abbrev New : Place → Type 0
    New place = IsUsedAt (edited s w) known q (now w known s f number put p q h at is) at new_import place

    pub use_there : (place : Place) → Old place → New (moved s place)
    use_there place u = record {
      user = e u.user;
      begins = begins w known s f number put p q h at is u.user place u.begins;
      bound = subst (IsBoundTo q.layout q.names (e u.user)) (from_stays at) ((is.renumbered.bound u.user at).0 u.bound);
    }

    pub own_use : Counts p.layout p.names at → IsInFiles p at → New own_place
    own_use counts stands = record {
      user = at;
      begins = own_begins stands;
      bound = subst (λ k. IsBoundTo q.layout q.names k k) (from_stays at) ((is.renumbered.bound at at).0 (own_bound refl counts));
    }

    -- it is the import itself
    pub own_user : (counts : Counts p.layout p.names at) (stands : IsInFiles p at) → (own_use counts stands).user ≡ at
    unfolding own_use
    own_user counts stands = refl

    pub use_back : IsInFiles p at → (place : Place) → New place → (place ≡ own_place) ⊎ ((old : Place) × (Old old × (moved s old ≡ place)))
    use_back stands place u = elim (own_or_old stands u.user place u.begins) [
      | inl here ↦ inl here.1
      | inr there ↦
          let was = there.1.1.1 in
          let bound : IsBoundTo q.layout q.names (e there.0) (e at) =
          subst (IsBoundTo q.layout q.names (e there.0)) (sym (from_stays at))
          (subst (λ k. IsBoundTo q.layout q.names k at) (sym there.1.0) u.bound) in
          inr (was.old, (record { user = there.0; begins = was.begins; bound = (is.renumbered.bound there.0 at).1 bound }, was.goes))
    ]
