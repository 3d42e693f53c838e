-- Where tokens, identifiers and declarations stand after an import got the name that it declared already.
use Rattle.std.proofs.Common.{ℕ, suc, ◌≡◌, ◌+◌, ◌-◌, inl, inr, List, [], ◌∷◌, ◌++◌, Option, Some, None, length, map, refl, sym, ap, subst, ◌∙◌, arith}
use Rattle.std.specs.Prelude.{option_map, slice_get}
use Rattle.std.proofs.lemmas.Bool.{cases_eq}
use Rattle.std.proofs.lemmas.Option.{same_Some, slice_get-map}
use Rattle.base_files.specs.Path.{folder}
use Rattle.base_files.specs.Workspace.{Workspace}
use Rattle.base_files.specs.declared.place.Place.{Place}
use Rattle.base_edits.specs.EditSet.{FileChanges, change_of}
use Rattle.base_edits.specs.Moved.{edits_by, moved, moved_offset}
use Rattle.go_scanner.specs.declared.piece.Class.TheVariants.{Name}
use Rattle.go_scanner.specs.declared.piece.Piece.{Piece}
use Rattle.go_scanner.specs.CutText.{CutText, tokens_in}
use Rattle.go_ast.specs.SourceFile.{FileParts, SourceFile, offset_at, source_of}
use Rattle.go_scope.specs.declared.model.Position.{Position}
use Rattle.go_scope.specs.declared.model.Role.{Role}
use Rattle.go_scope.specs.declared.model.Role.TheVariants.{Declaring, Implied, LeftName, NotLexical, Use}
use Rattle.go_scope.specs.Bindings.{Counts, IsBoundTo, is_implied, own as own_of}
use Rattle.go_scope.specs.Moves.{moved_place, moved_role}
use Rattle.law_rename.specs.Around.{from_on}
use Rattle.law_rename.specs.Gained.{Gain, moved_by}
use Rattle.law_rename.specs.Named.{before_put, literal_piece}
use Rattle.law_rename.proofs.TokensBehind.{seam}
use Rattle.law_tokens.specs.Bytes.{HaveOwnPaths}
use Rattle.law_tokens.proofs.OwnPaths.{own_paths}
use Rattle.types_declared.specs.Laid.{literal_of}
use Rattle.types_declared.specs.Package.{Package}
use Rattle.workspace_check.specs.Verdicts.{Verdicts}
use Rattle.refs_binding.specs.declared.declaration.Declaration.TheVariants.{Declared}
use Rattle.refs_binding.specs.DeclaringPlaces.{HasDeclarationAt, IsDeclaredAt, TokenAt, TokenBegins}
use Rattle.refs_binding.specs.Identifiers.{BeginsAt, IsNameToken, NameBegins}
use Rattle.refs_binding.specs.Uses.{IsCheckedPackage}
use Rattle.refs_binding.proofs.Folders.{file_in_folder}
use Rattle.refs_binding.proofs.PlaceOrder.{place_is}
use Rattle.refs_binding.proofs.Units.{one_package}
use Rattle.law_gained_names.specs.NamedPackage.{numbers_of}
use Rattle.law_gained_names.proofs.Alone.{alone}
use Rattle.law_gained_names.proofs.Layouts.{tokens_agree}
use Rattle.law_gained_names.proofs.Literals.{here_number, import_is, literal_place, other_file, other_number}
use Rattle.law_gained_names.specs.GainedName.{GainsOwnName}
use Rattle.law_gained_names.specs.PutTokens.{put_edit}
use Rattle.law_gained_names.proofs.Offsets.{classes_kept, offsets_move}
use Rattle.law_renamed_workspaces.proofs.Literals.{no_name}
use Rattle.law_renamed_workspaces.proofs.OwnNames.{counted}
use Rattle.law_gained_names.specs.UnnamedRenames.{IsNamedFirst, IsUnnamedRename}
use Rattle.law_gained_names.proofs.Numbered as numbers

implied_moved : (m : ℕ → ℕ → ℕ) (r : Role) → is_implied (moved_role m r) ≡ is_implied r
implied_moved m (Declaring b s) = refl
implied_moved m (LeftName b s) = refl
implied_moved m (Implied b s) = refl
implied_moved m Use = refl
implied_moved m (NotLexical x) = refl

-- whether a token is a name is told by its class
class_named : (o : Option Piece) → IsNameToken o → option_map (λ (t : Piece). t.class) o ≡ Some Name
class_named None h = absurd h
class_named (Some t) h = ap Some h

named_class : (o : Option Piece) → option_map (λ (t : Piece). t.class) o ≡ Some Name → IsNameToken o
named_class None h = let z : ⊥ = cc in absurd z
named_class (Some t) h = same_Some t.class Name h

-- the token of the file is a name
abbrev NamedIn : Option SourceFile → ℕ → Type 0
NamedIn None k = ⊥
NamedIn (Some f) k = IsNameToken (slice_get (tokens_in f.cut) k)

named_in : (o : Option SourceFile) (i : ℕ) (path : List ℕ) (offset : ℕ) → NameBegins o i path offset → NamedIn o i
named_in None i path offset h = absurd h
named_in (Some f) i path offset h = h.0

token_of_name : (o : Option SourceFile) (i : ℕ) (path : List ℕ) (offset : ℕ) → NameBegins o i path offset →
    TokenBegins o i (record { path = path; offset = offset })
token_of_name None i path offset h = absurd h
token_of_name (Some f) i path offset h = (h.1, h.2)

module _ (w : Workspace) (known : Verdicts) (p : Package) (n : ℕ) (name : List ℕ) (s : FileChanges) (h : IsUnnamedRename w known p n name s)
    (f : IsNamedFirst w known p n name s) where
  abbrev v : Workspace
  v = numbers.v w known p n name s h f

  abbrev q : Package
  q = f.inside

  abbrev g : ℕ → ℕ
  g = from_on (suc n)

  abbrev i : Gain
  i = numbers.gain w known p n name s h f

  abbrev gains : GainsOwnName f.number p q
  gains = f.workspace.gains

  abbrev rank : ℕ
  rank = length gains.first

  -- the files

  was_there : slice_get p.files rank ≡ Some (source_of gains.before)
  was_there =
      ap (λ (x : Package). slice_get x.files rank) gains.parsed.is_package.is_package
      ∙ ap (λ (fs : List FileParts). slice_get (map source_of fs) rank) gains.files
      ∙ slice_get-map source_of (gains.first ++ gains.before ∷ gains.rest) rank
      ∙ ap (option_map source_of) (seam gains.first gains.rest gains.before)

  is_there : slice_get q.files rank ≡ Some (source_of gains.after)
  is_there =
      ap (λ (x : Package). slice_get x.files rank) gains.is_package.is_package
      ∙ slice_get-map source_of (gains.first ++ gains.after ∷ gains.rest) rank
      ∙ ap (option_map source_of) (seam gains.first gains.rest gains.after)

  own : HaveOwnPaths p.files
  own =
      let is = h.is_package.is_checked in
      subst HaveOwnPaths (sym (ap (λ (x : Package). x.files) is.is_package.is_package)) (own_paths w p.path is.files is.parsed)

  -- places

  unedited : (path : List ℕ) → (path ≡ gains.before.path → ⊥) → (offset : ℕ) → moved_offset (edits_by (change_of f.naming path)) offset ≡ offset
  unedited path other offset =
      let none : (offset + 0) - 0 ≡ offset = omega arith in ap (λ es. moved_offset es offset) (f.no_more path other) ∙ none

  still : (place : Place) → (place.path ≡ gains.before.path → ⊥) → moved f.naming place ≡ place
  still place other = place_is (moved f.naming place) place (f.stays place) (unedited place.path other place.offset)

  pub unmoved : (place : Place) → (folder place.path ≡ p.path → ⊥) → moved f.naming place ≡ place
  unmoved place away =
      still place (λ same. away (ap folder same ∙ file_in_folder w known p h.is_package rank (source_of gains.before) was_there))

  -- tokens

  cut_offset : CutText → ℕ → ℕ
  cut_offset c k = offset_at c.text (slice_get (tokens_in c) k)

  own_token : (k : ℕ) (place : Place) → TokenBegins (Some (source_of gains.before)) k place →
      TokenBegins (Some (source_of gains.after)) (from_on f.number k) (moved f.naming place)
  unfolding cut_offset
  own_token k place b =
      let put = gains.gains.put in
      let was : cut_offset gains.before.cut k ≡ place.offset = b.1 in
      let first : cut_offset gains.after.cut (from_on f.number k) ≡
      moved_offset (put_edit put ∷ []) (cut_offset (before_put put) k) = ap (λ c. cut_offset c (from_on f.number k)) gains.gains.new_cut
      ∙ offsets_move put f.number gains.gains.may gains.gains.literal k in (
        f.same_path ∙ b.0 ∙ sym (f.stays place),
        first
            ∙ ap (moved_offset (put_edit put ∷ [])) (sym (ap (λ c. cut_offset c k) gains.gains.old_cut) ∙ was)
            ∙ ap (λ es. moved_offset es place.offset) (sym f.puts ∙ ap (λ path. edits_by (change_of f.naming path)) b.0),
      )

  other_token : (file k : ℕ) → (file ≡ rank → ⊥) → (o : Option SourceFile) → slice_get p.files file ≡ o → (place : Place) → TokenBegins o k place →
      TokenBegins o k (moved f.naming place)
  other_token file k other None at place b = absurd b
  other_token file k other (Some t) at place b =
      let away : place.path ≡ gains.before.path → ⊥ =
      (λ same. other (own file rank t (source_of gains.before) at was_there (b.0 ∙ same))) in
      subst (λ x. TokenBegins (Some t) k x) (sym (still place away)) b

  token_still : (file k : ℕ) (place : Place) → TokenAt p (record { file = file; index = k }) place →
      TokenAt q (record { file = file; index = moved_by i file k }) (moved f.naming place)
  token_still file k place b = elim (cases_eq file rank) [
    | inl same ↦
        (let was : TokenBegins (Some (source_of gains.before)) k place =
        subst (λ o. TokenBegins o k place) (ap (slice_get p.files) same ∙ was_there) b in
        let number : moved_by i file k ≡ from_on f.number k = here_number i n p q f.gained.named f.gained.literals file k same in
        subst (λ o. TokenBegins o (moved_by i file k) (moved f.naming place)) (sym (ap (slice_get q.files) same ∙ is_there))
        (subst (λ m. TokenBegins (Some (source_of gains.after)) m (moved f.naming place)) (sym number) (own_token k place was)))
    | inr other ↦
        (let number : moved_by i file k ≡ k = other_number i n p q f.gained.named f.gained.literals file k other in
        subst (λ o. TokenBegins o (moved_by i file k) (moved f.naming place)) (sym (other_file i n p q f.gained.named f.gained.literals file other))
        (subst (λ m. TokenBegins (slice_get p.files file) m (moved f.naming place)) (sym number)
        (other_token file k other (slice_get p.files file) refl place b)))
  ]

  pub tokens : (at : Position) (place : Place) → TokenAt p at place → TokenAt q (moved_place (moved_by i) at) (moved f.naming place)
  tokens at place b = token_still at.file at.index place b

  -- names stay names

  own_named : (k : ℕ) → IsNameToken (slice_get (tokens_in gains.before.cut) k) → IsNameToken (slice_get (tokens_in gains.after.cut) (from_on f.number k))
  own_named k b =
      named_class (slice_get (tokens_in gains.after.cut) (from_on f.number k))
      (ap (λ (c : CutText). option_map (λ (t : Piece). t.class) (slice_get (tokens_in c) (from_on f.number k))) gains.gains.new_cut
      ∙ classes_kept gains.gains.put f.number gains.gains.may gains.gains.literal k
      ∙ sym (ap (λ (c : CutText). option_map (λ (t : Piece). t.class) (slice_get (tokens_in c) k)) gains.gains.old_cut)
      ∙ class_named (slice_get (tokens_in gains.before.cut) k) b)

  still_named : (file k : ℕ) → NamedIn (slice_get p.files file) k → NamedIn (slice_get q.files file) (moved_by i file k)
  still_named file k b = elim (cases_eq file rank) [
    | inl same ↦
        (let was : NamedIn (Some (source_of gains.before)) k = subst (λ o. NamedIn o k) (ap (slice_get p.files) same ∙ was_there) b in
        let number : moved_by i file k ≡ from_on f.number k = here_number i n p q f.gained.named f.gained.literals file k same in
        subst (λ o. NamedIn o (moved_by i file k)) (sym (ap (slice_get q.files) same ∙ is_there))
        (subst (λ m. NamedIn (Some (source_of gains.after)) m) (sym number) (own_named k was)))
    | inr other ↦
        (let number : moved_by i file k ≡ k = other_number i n p q f.gained.named f.gained.literals file k other in
        subst (λ o. NamedIn o (moved_by i file k)) (sym (other_file i n p q f.gained.named f.gained.literals file other))
        (subst (λ m. NamedIn (slice_get p.files file) m) (sym number) b))
  ]

  -- the import itself is a literal, and no name
  not_import : (u : ℕ) (place : Place) → BeginsAt p place.path place.offset u → u ≡ n → ⊥
  not_import u place b same =
      let at : p.layout.place u ≡ record { file = rank; index = f.number } = ap p.layout.place same ∙ import_is i n p q f.gained.named f.gained.literals in
      let named = named_in (slice_get p.files (p.layout.place u).file) (p.layout.place u).index place.path place.offset b.1 in
      let here : NamedIn (Some (source_of gains.before)) f.number =
      subst (λ o. NamedIn o f.number) was_there (subst (λ (x : Position). NamedIn (slice_get p.files x.file) x.index) at named) in
      let token : IsNameToken (Some (literal_piece gains.gains.put)) =
      subst IsNameToken (ap (λ (c : CutText). slice_get (tokens_in c) f.number) gains.gains.old_cut ∙ gains.gains.literal) here in
      no_name gains.gains.put.class gains.gains.may.is_string token

  name_of_token : (o : Option SourceFile) (k : ℕ) (place : Place) → NamedIn o k → TokenBegins o k place → NameBegins o k place.path place.offset
  name_of_token None k place named b = absurd b
  name_of_token (Some t) k place named b = (named, b.0, b.1)

  -- identifiers

  pub begins : (u : ℕ) (place : Place) → BeginsAt p place.path place.offset u →
      BeginsAt q (moved f.naming place).path (moved f.naming place).offset (g u)
  begins u place b =
      let at = p.layout.place u in
      let to : Position = moved_place (numbers_of i n).token at in
      let there : q.layout.place (g u) ≡ to = f.gained.renumbered.places u in
      let index : moved_by i at.file at.index ≡ (numbers_of i n).token at.file at.index =
      tokens_agree i n at.file at.index (alone i n p q f.gained.named u (not_import u place b)) in
      let token : TokenAt q (record { file = at.file; index = moved_by i at.file at.index }) (moved f.naming place) =
      tokens at place (token_of_name (slice_get p.files at.file) at.index place.path place.offset b.1) in
      let named = still_named at.file at.index (named_in (slice_get p.files at.file) at.index place.path place.offset b.1) in
      let stands : NameBegins (slice_get q.files at.file) (moved_by i at.file at.index) (moved f.naming place).path (moved f.naming place).offset =
      name_of_token (slice_get q.files at.file) (moved_by i at.file at.index) (moved f.naming place) named token in (
        (f.gained.renumbered.within u b.0.0, ap is_implied (f.gained.renumbered.roles u) ∙ implied_moved f.gained.renumbered.ends (p.layout.role u) ∙ b.0.1),
        subst (λ (x : Position). NameBegins (slice_get q.files x.file) x.index (moved f.naming place).path (moved f.naming place).offset) (sym there)
            (subst (λ m. NameBegins (slice_get q.files at.file) m (moved f.naming place).path (moved f.naming place).offset) index stands),
      )

  -- declarations

  own_bound : (d : ℕ) → Counts p.layout p.names d → IsBoundTo p.layout p.names d d
  own_bound d counts = own_of refl counts

  in_package : (d : ℕ) (place : Place) → HasDeclarationAt p (Declared p.path d) place → IsDeclaredAt (IsCheckedPackage v known) (Declared q.path (g d))
      (moved f.naming place)
  in_package d place b =
      let stands : q.layout.place (literal_of q.layout (g d)) ≡ moved_place (moved_by i) b.at =
      literal_place i n p q f.gained.named f.gained.literals d ∙ ap (moved_place (moved_by i)) b.is_at.stands in
      record {
        inside = q;
        is_package = f.renames.is_package;
        of_path = refl;
        holds = record {
          at = moved_place (moved_by i) b.at;
          is_at = record {
            own = numbers.own_after w known p n name s h f d b.is_at.own;
            counts = counted q.layout q.names (g d) (g d) ((numbers.bound_first w known p n name s h f d d).0 (own_bound d b.is_at.counts));
            stands = stands;
          };
          begins = tokens b.at place b.begins;
        };
      }

  pub declared : (d : ℕ) (place : Place) → IsDeclaredAt (IsCheckedPackage w known) (Declared p.path d) place →
      IsDeclaredAt (IsCheckedPackage v known) (Declared q.path (g d)) (moved f.naming place)
  declared d place b =
      in_package d place
      (subst (λ (x : Package). HasDeclarationAt x (Declared p.path d) place) (one_package w known b.inside p b.is_package h.is_package b.of_path) b.holds)
