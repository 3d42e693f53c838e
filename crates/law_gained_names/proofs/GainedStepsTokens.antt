-- The tokens of the package begin, after the insertion, where it moves them.
use Rattle.std.proofs.Common.{ℕ, ◌≡◌, ◌+◌, ◌-◌, inl, inr, List, [], ◌∷◌, ◌++◌, Option, Some, None, length, map, refl, sym, ap, ◌∙◌, subst, arith}
use Rattle.std.specs.Prelude.{slice_get}
use Rattle.std.specs.Option.{option_map}
use Rattle.std.proofs.lemmas.Bool.{cases_eq}
use Rattle.std.proofs.lemmas.Option.{same_Some, slice_get-map}
use Rattle.base_files.specs.Path.{folder}
use Rattle.base_files.specs.Workspace.{Workspace}
use Rattle.base_files.specs.declared.place.Place.{Place}
use Rattle.base_edits.specs.EditSet.{FileChanges, change_of}
use Rattle.base_edits.specs.Moved.{edits_by, moved, moved_offset}
use Rattle.base_edits.specs.declared.edit.Edit.{Edit}
use Rattle.go_scanner.specs.declared.piece.Class.{Class}
use Rattle.go_scanner.specs.declared.piece.Class.TheVariants as class
use Rattle.go_scanner.specs.declared.piece.Piece.{Piece}
use Rattle.go_scanner.specs.CutText.{CutText, tokens_in}
use Rattle.go_scanner.specs.TokenValues.{IsStringClass}
use Rattle.go_ast.specs.SourceFile.{SourceFile, offset_at, offset_of, source_of}
use Rattle.go_scope.specs.declared.model.Position.{Position}
use Rattle.go_scope.specs.Moves.{moved_place}
use Rattle.law_tokens.proofs.OwnPaths.{own_paths}
use Rattle.law_rename.specs.Around.{from_on}
use Rattle.law_rename.specs.Gained.{Gain, moved_by}
use Rattle.law_rename.specs.MayGain.{inserted}
use Rattle.law_rename.specs.Named.{after_put, before_put, literal_piece}
use Rattle.law_rename.proofs.TokensBehind.{seam}
use Rattle.types_declared.specs.Package.{Package}
use Rattle.workspace_check.specs.Verdicts.{Verdicts}
use Rattle.refs_binding.specs.DeclaringPlaces.{TokenAt, TokenBegins}
use Rattle.refs_binding.specs.Identifiers.{IsNameToken, NameBegins}
use Rattle.refs_binding.proofs.Folders.{file_in_folder}
use Rattle.refs_lookup.proofs.OnePlace.{same_files}
use Rattle.law_gained_names.proofs.Layouts.{token, tokens_agree}
use Rattle.law_gained_names.proofs.Literals.{here_number, other_file, other_number}
use Rattle.law_gained_names.specs.GainedName.{GainsOwnName, IsGainedAt, gained_by}
use Rattle.law_gained_names.specs.PutTokens.{put_edit}
use Rattle.law_gained_names.proofs.Offsets.{classes_kept, offsets_move}
use Rattle.law_gained_names.specs.FilesInTwoSteps.{EditsOneFile}
use Rattle.law_gained_names.proofs.Staying.{moved_there}
use Rattle.law_gained_names.specs.OwnName.{HasGainedBy}

no_edit : (offset : ℕ) → moved_offset [] offset ≡ offset
no_edit offset = let none : (offset + 0) - 0 ≡ offset = omega arith in none

string_no_name : (c : Class) → IsStringClass c → c ≡ class.Name → ⊥
string_no_name c (inl is) name = let e : class.InterpretedString ≡ class.Name = sym is ∙ name in let z : ⊥ = cc in z
string_no_name c (inr is) name = let e : class.RawString ≡ class.Name = sym is ∙ name in let z : ⊥ = cc in z

kept_name : (o n : Option Piece) → option_map (λ (t : Piece). t.class) n ≡ option_map (λ (t : Piece). t.class) o → IsNameToken o → IsNameToken n
kept_name None n e h = absurd h
kept_name (Some t) None e h = let z : ⊥ = cc in absurd z
kept_name (Some t) (Some s) e h = same_Some s.class t.class e ∙ h

module _ (w : Workspace) (known : Verdicts) (s : FileChanges) (f : SourceFile) (number : ℕ) (put : List ℕ) (p q : Package)
    (h : HasGainedBy w known s f number put p q) where
  edit : List Edit
  edit = inserted (offset_of f number) put ∷ []

  one : EditsOneFile s f.path edit
  unfolding edit
  one = h.edits

  abbrev pub g : GainsOwnName number p q
  g = h.gained.gains

  abbrev pub i : Gain
  i = gained_by number p q g

  -- places

  pub stays : (place : Place) → (place.path ≡ f.path → ⊥) → moved s place ≡ place
  stays place other =
      moved_there s one.none_added one.stay place
      ∙ ap (λ es. record { path = place.path; offset = moved_offset es place.offset }) (one.others place.path other)
      ∙ ap (λ o. record { path = place.path; offset = o }) (no_edit place.offset)

  goes : (place : Place) → place.path ≡ f.path → moved s place ≡ record { path = place.path; offset = moved_offset edit place.offset }
  goes place same =
      moved_there s one.none_added one.stay place
      ∙ ap (λ es. record { path = place.path; offset = moved_offset es place.offset })
      (ap (λ x. edits_by (change_of s x)) same ∙ one.here)

  -- files

  p_files : p.files ≡ map source_of (g.first ++ g.before ∷ g.rest)
  p_files = ap (λ (x : Package). x.files) g.parsed.is_package.is_package ∙ ap (map source_of) g.files

  q_files : q.files ≡ map source_of (g.first ++ g.after ∷ g.rest)
  q_files = ap (λ (x : Package). x.files) g.is_package.is_package

  was_here : slice_get p.files i.rank ≡ Some (source_of g.before)
  was_here =
      ap (λ fs. slice_get fs i.rank) p_files ∙ slice_get-map source_of (g.first ++ g.before ∷ g.rest) i.rank
      ∙ ap (option_map source_of) (seam g.first g.rest g.before)

  pub now_here : slice_get q.files i.rank ≡ Some (source_of g.after)
  now_here =
      ap (λ fs. slice_get fs i.rank) q_files ∙ slice_get-map source_of (g.first ++ g.after ∷ g.rest) i.rank
      ∙ ap (option_map source_of) (seam g.first g.rest g.after)

  before_path : g.before.path ≡ f.path
  before_path = ap (λ (x : SourceFile). x.path) h.before

  other_path : (k : ℕ) (x : SourceFile) → slice_get p.files k ≡ Some x → (k ≡ i.rank → ⊥) → x.path ≡ f.path → ⊥
  other_path k x at other same =
      let c = h.gained.was.is_checked in
      let files = same_files w known p.path p c in
      other
      (own_paths w p.path c.files c.parsed k i.rank x (source_of g.before) (subst (λ fs. slice_get fs k ≡ Some x) files at)
      (subst (λ fs. slice_get fs i.rank ≡ Some (source_of g.before)) files was_here) (same ∙ sym before_path))

  pub unmoved : (place : Place) → (folder place.path ≡ p.path → ⊥) → moved s place ≡ place
  unmoved place apart =
      stays place
      (λ same. apart (ap folder (same ∙ sym before_path) ∙ file_in_folder w known p h.gained.was i.rank (source_of g.before) was_here))

  -- tokens of the file

  old_offset : (n : ℕ) → offset_of (source_of g.before) n ≡ offset_at (before_put g.gains.put).text (slice_get (tokens_in (before_put g.gains.put)) n)
  old_offset n = ap (λ (c : CutText). offset_at c.text (slice_get (tokens_in c) n)) g.gains.old_cut

  new_offset : (n : ℕ) → offset_of (source_of g.after) n ≡ offset_at (after_put g.gains.put).text (slice_get (tokens_in (after_put g.gains.put)) n)
  new_offset n = ap (λ (c : CutText). offset_at c.text (slice_get (tokens_in c) n)) g.gains.new_cut

  same_edit : put_edit g.gains.put ∷ [] ≡ edit
  unfolding edit
  same_edit =
      let at : length g.gains.put.front ≡ offset_of f number =
      sym (old_offset number ∙ ap (offset_at (before_put g.gains.put).text) g.gains.literal) ∙ ap (λ (x : SourceFile). offset_of x number) h.before in
      λ m. inserted (at m) (h.bytes m) ∷ []

  offset_moves : (n : ℕ) → offset_of (source_of g.after) (from_on number n) ≡ moved_offset edit (offset_of (source_of g.before) n)
  offset_moves n =
      new_offset (from_on number n) ∙ offsets_move g.gains.put number g.gains.may g.gains.literal n
      ∙ ap (λ es. moved_offset es (offset_at (before_put g.gains.put).text (slice_get (tokens_in (before_put g.gains.put)) n))) same_edit
      ∙ ap (moved_offset edit) (sym (old_offset n))

  here_begins : (n : ℕ) (place : Place) → TokenBegins (Some (source_of g.before)) n place →
      TokenBegins (Some (source_of g.after)) (from_on number n) (moved s place)
  here_begins n place b =
      let to = goes place (sym b.0 ∙ before_path) in (
        h.path ∙ sym before_path ∙ b.0 ∙ sym (ap (λ (x : Place). x.path) to),
        offset_moves n ∙ ap (moved_offset edit) b.1 ∙ sym (ap (λ (x : Place). x.offset) to),
      )

  -- tokens of the package

  module _ (at : ℕ) (is : IsGainedAt i at p q) where
    by_file : (k n : ℕ) (place : Place) (o : Option SourceFile) → slice_get p.files k ≡ o → TokenBegins o n place →
        TokenBegins (slice_get q.files k) (moved_by i k n) (moved s place)
    by_file k n place None e b = absurd b
    by_file k n place (Some x) e b = elim (cases_eq k i.rank) [
      | inl here ↦
          let same : x ≡ source_of g.before = same_Some x (source_of g.before) (sym e ∙ ap (slice_get p.files) here ∙ was_here) in
          let then = here_begins n place (subst (λ y. TokenBegins (Some y) n place) same b) in
          let begins : TokenBegins (slice_get q.files k) (from_on number n) (moved s place) =
          subst (λ o. TokenBegins o (from_on number n) (moved s place)) (sym (ap (slice_get q.files) here ∙ now_here)) then in
          subst (λ m. TokenBegins (slice_get q.files k) m (moved s place)) (sym (here_number i at p q is.named is.literals k n here)) begins
      | inr other ↦
          let still = stays place (λ same. other_path k x e other (b.0 ∙ same)) in
          let begins : TokenBegins (slice_get q.files k) n place =
          subst (λ o. TokenBegins o n place) (sym (other_file i at p q is.named is.literals k other ∙ e)) b in
          subst (λ m. TokenBegins (slice_get q.files k) m (moved s place)) (sym (other_number i at p q is.named is.literals k n other))
          (subst (TokenBegins (slice_get q.files k) n) (sym still) begins)
    ]

    pub token_moves : (x : Position) (place : Place) → TokenAt p x place → TokenAt q (moved_place (moved_by i) x) (moved s place)
    token_moves x place b = by_file x.file x.index place (slice_get p.files x.file) refl b

    -- names

    name_here : (n : ℕ) → IsNameToken (slice_get (tokens_in g.before.cut) n) → IsNameToken (slice_get (tokens_in g.after.cut) (from_on number n))
    name_here n name =
        subst (λ (c : CutText). IsNameToken (slice_get (tokens_in c) (from_on number n))) (sym g.gains.new_cut)
        (kept_name (slice_get (tokens_in (before_put g.gains.put)) n) (slice_get (tokens_in (after_put g.gains.put)) (from_on number n))
        (classes_kept g.gains.put number g.gains.may g.gains.literal n)
        (subst (λ (c : CutText). IsNameToken (slice_get (tokens_in c) n)) g.gains.old_cut name))

    not_literal : (n : ℕ) → IsNameToken (slice_get (tokens_in g.before.cut) n) → n ≡ number → ⊥
    not_literal n name same =
        let token : slice_get (tokens_in g.before.cut) n ≡ Some (literal_piece g.gains.put) =
        ap (λ (c : CutText). slice_get (tokens_in c) n) g.gains.old_cut
        ∙ ap (slice_get (tokens_in (before_put g.gains.put))) same ∙ g.gains.literal in
        string_no_name g.gains.put.class g.gains.may.is_string (subst IsNameToken token name)

    names_by : (k n : ℕ) (place : Place) (o : Option SourceFile) → slice_get p.files k ≡ o → NameBegins o n place.path place.offset →
        NameBegins (slice_get q.files k) (token i at k n) (moved s place).path (moved s place).offset
    names_by k n place None e b = absurd b
    names_by k n place (Some x) e b = elim (cases_eq k i.rank) [
      | inl here ↦
          let same : x ≡ source_of g.before = same_Some x (source_of g.before) (sym e ∙ ap (slice_get p.files) here ∙ was_here) in
          let name : IsNameToken (slice_get (tokens_in g.before.cut) n) = subst (λ (y : SourceFile). IsNameToken (slice_get (tokens_in y.cut) n)) same b.0 in
          let then = here_begins n place (subst (λ y. TokenBegins (Some y) n place) same (b.1, b.2)) in
          let number_is : from_on number n ≡ token i at k n =
          sym (here_number i at p q is.named is.literals k n here) ∙ tokens_agree i at k n (λ r same. not_literal n name same) in
          subst (λ m. NameBegins (slice_get q.files k) m (moved s place).path (moved s place).offset) number_is
          (subst (λ o. NameBegins o (from_on number n) (moved s place).path (moved s place).offset)
          (sym (ap (slice_get q.files) here ∙ now_here)) (name_here n name, then.0, then.1))
      | inr other ↦
          let still = stays place (λ same. other_path k x e other (b.1 ∙ same)) in
          let number_is : n ≡ token i at k n =
          sym (other_number i at p q is.named is.literals k n other) ∙ tokens_agree i at k n (λ r same. absurd (other r)) in
          let begins : NameBegins (slice_get q.files k) n place.path place.offset =
          subst (λ o. NameBegins o n place.path place.offset) (sym (other_file i at p q is.named is.literals k other ∙ e)) b in
          subst (λ m. NameBegins (slice_get q.files k) m (moved s place).path (moved s place).offset) number_is
          (subst (λ (z : Place). NameBegins (slice_get q.files k) n z.path z.offset) (sym still) begins)
    ]

    pub name_moves : (x : Position) (place : Place) → NameBegins (slice_get p.files x.file) x.index place.path place.offset →
        NameBegins (slice_get q.files x.file) (token i at x.file x.index) (moved s place).path (moved s place).offset
    name_moves x place b = names_by x.file x.index place (slice_get p.files x.file) refl b
