-- The second step is a rename of an import with a name, and both steps together are the whole.
use Rattle.std.proofs.Common.{ℕ, suc, ◌≡◌, ◌+◌, ◌<◌, ◌≤◌, ◌⊎◌, inl, inr, Bool, true, false, cond, if◌then◌else◌, List, [], ◌∷◌, ◌++◌, None, Some, length, map}
use Rattle.std.proofs.Common.{refl, sym, ap, ◌∙◌}
use Rattle.std.proofs.Common.{subst, arith, length-append}
use Rattle.std.specs.Prelude.{◌↔◌, Contains, slice_get}
use Rattle.std.proofs.lemmas.List.Elements.{All-nil}
use Rattle.base_lemmas.proofs.Elements.{first_in, first_or_later, is_mapped, later_in, nothing_in}
use Rattle.base_files.specs.Workspace.{Workspace}
use Rattle.base_files.specs.declared.place.Place.{Place}
use Rattle.base_edits.specs.EditSet.{FileChanges, change_of, edited}
use Rattle.base_edits.specs.Moved.{edits_by, moved, moved_offset}
use Rattle.base_edits.specs.declared.change.FileChange.{FileChange}
use Rattle.base_edits.specs.declared.change.Fate.TheVariants.{Stays}
use Rattle.base_edits.specs.declared.edit.Edit.{Edit}
use Rattle.base_edits.proofs.Held.{mapped_from}
use Rattle.go_ast.specs.SourceFile.{SourceFile, offset_of}
use Rattle.go_scanner.proofs.FamilyLemmas.{word_first}
use Rattle.go_scope.specs.declared.model.Position.{Position}
use Rattle.go_scope.specs.Bindings.{Counts, IsImport, IsPackageLevel}
use Rattle.law_rename.specs.Around.{from_on}
use Rattle.law_rename.specs.Named.{NamePut, literal_piece, name_place, put_bytes}
use Rattle.law_rename.proofs.Bound.{import_named}
use Rattle.types_declared.proofs.ByteKeys.{cases_bytes}
use Rattle.types_declared.specs.Laid.{is_literal, literal_of}
use Rattle.types_declared.specs.Package.{Package}
use Rattle.workspace_check.specs.FaultLists.{ListsFaults}
use Rattle.workspace_check.specs.Verdicts.{AreVerdicts, Verdicts}
use Rattle.workspace_check.proofs.PackageFiles.{at_rank}
use Rattle.refs_binding.specs.declared.declaration.Declaration.{Declaration}
use Rattle.refs_binding.specs.declared.declaration.Declaration.TheVariants.{Declared}
use Rattle.refs_binding.specs.DeclaredNames.{HasDeclaredName}
use Rattle.refs_binding.specs.Identifiers.{IsInFiles}
use Rattle.refs_binding.specs.Uses.{IsCheckedPackage, IsUseOf}
use Rattle.refs_binding.proofs.Units.{one_package}
use Rattle.refs_uses.specs.UsesOfEach.{ListsUsesOfEach}
use Rattle.refs_uses.proofs.UsesOfSome.{uses_of_one}
use Rattle.refactor_rename.specs.declared.renamed.Renamed.{Renamed}
use Rattle.refactor_rename.specs.declared.renamed.Literal.{Literal}
use Rattle.refactor_rename.specs.FileEdits.{AreFileEdits, InsertsName, IsEditAt}
use Rattle.refactor_rename.specs.Literals.{IsPathLiteralIn, IsPathLiteralOf}
use Rattle.refactor_rename.specs.Naming.{IsFixed, IsReservedFor}
use Rattle.refactor_rename.specs.RenameEdits.{AreRenameEdits, EditsSource, IsRenamedBy, IsSourceIn}
use Rattle.refactor_rename.proofs.Sources.{one_source, source_text}
use Rattle.law_gained_names.proofs.Listed.{sorted}
use Rattle.law_gained_names.specs.GainedName.{IsGainedAt}
use Rattle.law_gained_names.proofs.Layouts.{from_stays}
use Rattle.law_gained_names.proofs.Scopes.{literal_role}
use Rattle.law_renamed_workspaces.specs.Renames.{IsPlainRename, IsRename}
use Rattle.law_renamed_workspaces.proofs.RenamedSets.{alone, own_alone}
use Rattle.law_agreement.specs.ScopeRenames.{IsRenameIn}
use Rattle.law_agreement.proofs.RenamedAlone.{use_among, use_of_alone}
use Rattle.law_gained_names.specs.OwnName.{HasGainedBy}
use Rattle.law_gained_names.proofs.Becoming.{now}
use Rattle.law_gained_names.proofs.GainedStepsTokens.{i, now_here}
use Rattle.law_gained_names.specs.FilesInTwoSteps.{AreTwoSteps, EditsOneFile, one_change}
use Rattle.law_gained_names.specs.TwoSteps.{AreNaming, NamingEdits, at_once, edit_between, first_step, put_first, second_step}
use Rattle.law_gained_names.proofs.Second.{two_steps_exist}
use Rattle.law_gained_names.proofs.Staying.{edits_one, moved_there}
use Rattle.law_gained_names.specs.UnnamedRenames.{IsUnnamedRename}
use Rattle.law_gained_names.proofs.Between as between
use Rattle.law_gained_names.proofs.GainingRenamesImports as imports
use Rattle.law_gained_names.proofs.Naming as names
use Rattle.law_gained_names.proofs.Naming.{HasFront}
use Rattle.law_gained_names.proofs.SecondStep.{second_edits}

-- The size of what comes before the name, by the whole.
front_size : (blank : Bool) (front name own : List ℕ) (at : ℕ) → length name ≡ length own →
    length (cond blank (32 ∷ (name ++ 32 ∷ [])) (name ++ 32 ∷ [])) ≡ length (front ++ (own ++ 32 ∷ [])) → cond blank (at + 1) at ≡ at + length front
front_size true front name own at same whole =
    let one : length (name ++ 32 ∷ []) ≡ length name + 1 = length-append name (32 ∷ []) in
    let two : length (own ++ 32 ∷ []) ≡ length own + 1 = length-append own (32 ∷ []) in
    let three : length (front ++ (own ++ 32 ∷ [])) ≡ length front + length (own ++ 32 ∷ []) = length-append front (own ++ 32 ∷ []) in
    let four : suc (length (name ++ 32 ∷ [])) ≡ length (front ++ (own ++ 32 ∷ [])) = whole in
    omega arith
front_size false front name own at same whole =
    let one : length (name ++ 32 ∷ []) ≡ length name + 1 = length-append name (32 ∷ []) in
    let two : length (own ++ 32 ∷ []) ≡ length own + 1 = length-append own (32 ∷ []) in
    let three : length (front ++ (own ++ 32 ∷ [])) ≡ length front + length (own ++ 32 ∷ []) = length-append front (own ++ 32 ∷ []) in
    let four : length (name ++ 32 ∷ []) ≡ length (front ++ (own ++ 32 ∷ [])) = whole in
    omega arith

no_edits : (f : SourceFile) (r : Renamed) → ((j : ℕ) (e : Edit) → IsEditAt f r j e → ⊥) → AreFileEdits f r []
no_edits f r none = record {
  end_by = record { in_order = tt; ends = All-nil (λ (e : Edit). e.span.end ≤ length f.cut.text) };
  each = λ e. ((λ has. absurd (nothing_in e has)), (λ x. absurd (none x.0 e x.1)));
  once = tt;
}

module _ (w : Workspace) (known : Verdicts) (p : Package) (n : ℕ) (name : List ℕ) (s : FileChanges) (h : IsUnnamedRename w known p n name s)
    (count : Counts p.layout p.names n) (stands : IsInFiles p n) (f : SourceFile) (of_rank : slice_get p.files (p.layout.place n).file ≡ Some f)
    (source : IsSourceIn w known f) (sh : HasFront f (p.layout.place n).index) where
  abbrev number : ℕ
  number = (p.layout.place n).index

  -- the first step puts the name that the import declares
  abbrev pub own_put : List ℕ
  own_put = sh.front ++ (p.names n ++ 32 ∷ [])

  abbrev pub naming : FileChanges
  naming = one_change f.path (edit_between (offset_of f number) (offset_of f number) own_put ∷ [])

  abbrev pub middle : Workspace
  middle = edited naming w

  module _ (q : Package) (g : HasGainedBy w known naming f number own_put p q) (is : IsGainedAt (i w known naming f number own_put p q g) n p q)
      (right : AreVerdicts middle known) (sound : ListsFaults middle []) where
    abbrev pt : NamePut
    pt = between.one w known naming f number own_put p q g

    abbrev r : Renamed
    r = h.rename.edits.renamed

    pub renamed_alone : (e : Declaration) → Contains h.rename.set e → e ≡ Declared p.path n
    renamed_alone = own_alone (IsCheckedPackage w known) (Declared p.path n) h.rename.set h.rename.is_set (λ m. m)

    abbrev was_import : IsImport p.layout n
    was_import = between.old_import w known naming f number own_put p q g n is

    abbrev pub is_import : IsImport q.layout n
    is_import = between.new_import w known naming f number own_put p q g n is

    abbrev pub is_now : IsCheckedPackage middle known q
    is_now = now w known naming f number own_put p q g n is

    pub own_file : (p.layout.place n).file ≡ was_import.0
    own_file = ap (λ (z : Position). z.file) (between.old_place w known naming f number own_put p q g n is)

    same_path : q.path ≡ p.path
    same_path = is.renumbered.path

    -- the edits

    abbrev pub nm : NamingEdits
    nm =
        names.naming_edits w known p h.is_package n was_import stands.0 h.unnamed f of_rank own_file r name h.rename.set renamed_alone
        h.rename.edits.is_renamed s h.rename.edits.edits
        source sh (literal_piece pt) (between.literal_token w known naming f number own_put p q g) (between.put_at w known naming f number own_put p q g)

    are_at_once : AreFileEdits f r (at_once nm)
    are_at_once =
        names.are_at_once w known p h.is_package n was_import stands.0 h.unnamed f of_rank own_file r name h.rename.set renamed_alone
        h.rename.edits.is_renamed s h.rename.edits.edits
        source sh (literal_piece pt) (between.literal_token w known naming f number own_put p q g) (between.put_at w known naming f number own_put p q g)

    inserts : InsertsName f r number (edit_between nm.at nm.at (nm.front ++ (nm.name ++ nm.back)))
    inserts =
        names.inserts w known p h.is_package n was_import stands.0 h.unnamed f of_rank own_file r name h.rename.set renamed_alone
        h.rename.edits.is_renamed s h.rename.edits.edits
        source sh (literal_piece pt) (between.literal_token w known naming f number own_put p q g) (between.put_at w known naming f number own_put p q g)

    around : edits_by (change_of s f.path) ≡ at_once nm
    around =
        (names.around w known p h.is_package n was_import stands.0 h.unnamed f of_rank own_file r name h.rename.set renamed_alone
        h.rename.edits.is_renamed s h.rename.edits.edits
        source sh (literal_piece pt) (between.literal_token w known naming f number own_put p q g)
        (between.put_at w known naming f number own_put p q g)).parts

    whole : EditsOneFile s f.path (at_once nm)
    whole =
        names.one_file w known p h.is_package n was_import stands.0 h.unnamed f of_rank own_file r name h.rename.set renamed_alone
        h.rename.edits.is_renamed s h.rename.edits.edits
        (at_once nm) around

    in_its_file : (place : Place) → Contains r.places place → place.path ≡ f.path
    in_its_file =
        names.in_its_file w known p h.is_package n was_import stands.0 h.unnamed f of_rank own_file r name h.rename.set renamed_alone h.rename.edits.is_renamed

    -- the name that the import declares

    own_name : pt.name ≡ p.names n
    own_name =
        sym (import_named (between.gain w known naming f number own_put p q g) (between.gain w known naming f number own_put p q g).name n is.named.old
        is.named.new is.named.gained)
        ∙ ap (λ (x : ℕ → List ℕ). x (from_on (suc n) n)) (sym is.named.is.names) ∙ is.keeps.names n

    some_name : 0 < length (p.names n)
    some_name = subst (λ text. 0 < length text) own_name (word_first pt.name g.gained.gains.gains.may.is_name.0).0

    are : AreNaming nm
    are =
        names.are_naming w known p h.is_package n was_import stands.0 h.unnamed f of_rank own_file r name h.rename.set renamed_alone
        h.rename.edits.is_renamed s h.rename.edits.edits
        source sh (literal_piece pt) (between.literal_token w known naming f number own_put p q g) (between.put_at w known naming f number own_put p q g)
        some_name

    name_at : name_place pt ≡ nm.at + length nm.front
    name_at =
        front_size pt.blank_first nm.front pt.name nm.own (length pt.front) (ap length own_name) (ap length g.bytes)
        ∙ ap (λ m. m + length nm.front) (sym (between.put_at w known naming f number own_put p q g))

    -- both steps

    abbrev pub renaming : FileChanges
    renaming = one_change f.path (second_step nm)

    pub two : AreTwoSteps w f.path nm s naming renaming
    two = two_steps_exist w f.path f.cut.text nm s (source_text w known f source) are are_at_once.end_by.ends whole h.rename.fit

    -- the file after the first one

    abbrev new : SourceFile
    new = between.new_file w known naming f number own_put p q g

    new_path : new.path ≡ f.path
    new_path = g.path

    new_source : IsSourceIn middle known new
    new_source = record {
      inside = q;
      is_package = is_now;
      has = at_rank q.files (between.gain w known naming f number own_put p q g).rank new (now_here w known naming f number own_put p q g);
    }

    -- places

    first : EditsOneFile naming f.path (first_step nm)
    first = edits_one f.path (first_step nm)

    goes : (place : Place) → moved naming place ≡ record { path = place.path; offset = moved_offset (edits_by (change_of naming place.path)) place.offset }
    goes place = moved_there naming first.none_added first.stay place

    goes_here : (place : Place) → place.path ≡ f.path → moved naming place ≡ record { path = f.path; offset = moved_offset (first_step nm) place.offset }
    goes_here place same =
        goes place ∙ ap (λ path. record { path = path; offset = moved_offset (edits_by (change_of naming path)) place.offset }) same
        ∙ ap (λ es. record { path = f.path; offset = moved_offset es place.offset }) first.here

    abbrev own_place : Place
    own_place = between.own_place w known naming f number own_put p q g

    abbrev moved_places : List Place
    moved_places = own_place ∷ map (moved naming) r.places

    abbrev later : Renamed
    later = record { places = (sorted moved_places).0; literal = None; name = name }

    listed : (place : Place) → Contains later.places place ↔ Contains moved_places place
    listed place = (sorted moved_places).1.1 place

    -- each place is that of the name, or an old one, moved
    record IsOld (place : Place) : Type 0 where
      old : Place
      has : Contains r.places old
      goes : moved naming old ≡ place

    place_from : (place : Place) → Contains later.places place → (place ≡ own_place) ⊎ IsOld place
    place_from place has = elim (first_or_later own_place (map (moved naming) r.places) place ((listed place).0 has)) [
      | inl same ↦ inl (sym same)
      | inr more ↦ let d = mapped_from (moved naming) r.places place more in inr (record { old = d.0; has = d.1; goes = d.2 })
    ]

    own_listed : Contains later.places own_place
    own_listed = (listed own_place).1 (first_in own_place (map (moved naming) r.places))

    old_listed : (place : Place) → Contains r.places place → Contains later.places (moved naming place)
    old_listed place has =
        (listed (moved naming place)).1
        (later_in own_place (map (moved naming) r.places) (moved naming place) (is_mapped (moved naming) r.places place has))

    abbrev Uses : Place → Type 0
    Uses place = IsUseOf middle known (Declared q.path n) place

    use_from : (place : Place) → Contains later.places place → Uses place
    use_from place has = elim (place_from place has) [
      | inl same ↦
          subst Uses (sym same)
          (imports.use_of middle known q is_now n is_import own_place (between.own_use w known naming f number own_put p q g n is count stands))
      | inr x ↦
          let was = imports.used_at w known p g.gained.was n was_import x.old
          (use_of_alone w known (Declared p.path n) h.rename.set renamed_alone x.old ((h.rename.edits.is_renamed.uses.each x.old).0 x.has)) in
          subst Uses x.goes
          (imports.use_of middle known q is_now n is_import (moved naming x.old) (between.use_there w known naming f number own_put p q g n is x.old was))
    ]

    place_of : (place : Place) → Uses place → Contains later.places place
    place_of place used =
        elim (between.use_back w known naming f number own_put p q g n is stands place (imports.used_at middle known q is_now n is_import place used)) [
          | inl same ↦ subst (Contains later.places) (sym same) own_listed
          | inr x ↦
              let was = imports.use_of w known p g.gained.was n was_import x.0 x.1.0 in
              subst (Contains later.places) x.1.1 (old_listed x.0
              ((h.rename.edits.is_renamed.uses.each x.0).1
              (use_among w known (Declared p.path n) h.rename.set h.rename.is_set.has_it x.0 was)))
        ]

    uses : ListsUsesOfEach middle known (Declared q.path n ∷ []) later.places
    uses = record {
      in_order = (sorted moved_places).1.0;
      each = λ place. (
        (λ has. (uses_of_one middle known (Declared q.path n) place).1 (use_from place has)),
        (λ u. place_of place ((uses_of_one middle known (Declared q.path n) place).0 u)),
      );
    }

    -- places of the file, by their offsets

    in_new_file : (place : Place) → Contains later.places place → place.path ≡ f.path
    in_new_file place has = elim (place_from place has) [
      | inl same ↦ ap (λ (x : Place). x.path) same
      | inr x ↦ ap (λ (y : Place). y.path) (sym x.goes ∙ goes_here x.old (in_its_file x.old x.has))
    ]

    was_at : (o : ℕ) → Contains r.places (record { path = f.path; offset = o }) → Contains later.places (record {
      path = new.path;
      offset = moved_offset
          (first_step nm) o;
    })
    was_at o has =
        let to : moved naming (record { path = f.path; offset = o }) ≡ record { path = new.path; offset = moved_offset (first_step nm) o } =
        goes_here (record { path = f.path; offset = o }) refl ∙ ap (λ path. record { path = path; offset = moved_offset (first_step nm) o }) (sym new_path) in
        subst (Contains later.places) to (old_listed (record { path = f.path; offset = o }) has)

    back_at : (o : ℕ) → Contains later.places (record { path = new.path; offset = o }) →
        (o ≡ name_place pt) ⊎ ((x : ℕ) × (Contains r.places (record { path = f.path; offset = x }) × (moved_offset (first_step nm) x ≡ o)))
    back_at o has = elim (place_from (record { path = new.path; offset = o }) has) [
      | inl same ↦ inl (ap (λ (y : Place). y.offset) same)
      | inr x ↦
          let path = in_its_file x.old x.has in
          let whole_place : x.old ≡ record { path = f.path; offset = x.old.offset } = ap (λ z. record { path = z; offset = x.old.offset }) path in
          inr (
            x.old.offset,
            (
              subst (Contains r.places) whole_place x.has,
              ap (λ (y : Place). y.offset) (sym (goes_here x.old path) ∙ x.goes),
            ),
          )
    ]

    -- the edits of the second step

    abbrev puts : put_bytes pt ≡ put_first nm
    puts = g.bytes

    second_are : AreFileEdits new later (second_step nm)
    second_are =
        second_edits f new pt number g.gained.gains.gains.may g.gained.gains.gains.literal (between.old_cut w known naming f number own_put p q g)
        g.gained.gains.gains.new_cut nm are (between.put_at w known naming f number own_put p q g) puts name_at (ap length own_name) r later
        h.rename.edits.is_renamed.named refl refl are_at_once inserts (record {
          there = was_at;
          own_place = subst (Contains later.places) (ap (λ path. record { path = path; offset = name_place pt }) (sym new_path)) own_listed;
          back = back_at;
        })

    second_one : EditsOneFile renaming f.path (second_step nm)
    second_one = edits_one f.path (second_step nm)

    each_file : (x : SourceFile) → IsSourceIn middle known x → AreFileEdits x later (edits_by (change_of renaming x.path))
    each_file x is_source = elim (cases_bytes x.path f.path) [
      | inl same ↦
          let one : x ≡ new = one_source middle known x new is_source new_source (same ∙ sym new_path) in
          let here : edits_by (change_of renaming x.path) ≡ second_step nm = ap (λ path. edits_by (change_of renaming path)) same ∙ second_one.here in
          subst (AreFileEdits x later) (sym here) (subst (λ (y : SourceFile). AreFileEdits y later (second_step nm)) (sym one) second_are)
      | inr other ↦ subst (AreFileEdits x later) (sym (second_one.others x.path other)) (no_edits x later (none_at x other))
    ]
      where
        none_at : (y : SourceFile) → (y.path ≡ f.path → ⊥) → (j : ℕ) (e : Edit) → IsEditAt y later j e → ⊥
        none_at y apart j e (inl k) = k.is_literal
        none_at y apart j e (inr k) = apart (in_new_file (record { path = y.path; offset = k.token.span.start }) k.among)

    only : (c : FileChange) → Contains renaming.changed c → EditsSource middle known c
    only c has = elim (first_or_later (record { path = f.path; edits = second_step nm; fate = Stays }) [] c has) [
      | inl same ↦ record {
        source = new;
        is_source = new_source;
        of_path = new_path ∙ ap (λ (x : FileChange). x.path) same;
        stays = ap (λ (x : FileChange). x.fate) (sym same);
      }
      | inr more ↦ absurd (nothing_in c more)
    ]

    -- the import has a name now

    has_name : (l : Literal) → IsPathLiteralOf (IsCheckedPackage middle known) (Declared q.path n) l → ⊥
    has_name l k =
        let same : k.inside ≡ q = one_package middle known k.inside q k.is_package is_now k.of_path in
        let own : IsPathLiteralIn q n l = subst (λ (z : Package). IsPathLiteralIn z n l) same k.holds in
        let next : n + 1 ≡ suc n = omega arith in
        let literal : is_literal (q.layout.role (n + 1)) ≡ true =
        ap (λ m. is_literal (q.layout.role m)) next ∙ ap is_literal (literal_role (between.gain w known naming f number own_put p q g) n p q is) in
        let it : literal_of q.layout n ≡ n + 1 = ap (λ b. if b then n + 1 else n) literal in
        let wrong : n + 1 ≡ n = sym it ∙ own.1.1 in
        absurd (omega arith)

    renamed_by : IsRenamedBy middle known (Declared q.path n) (Declared q.path n ∷ []) name later
    renamed_by = record { uses = uses; literal = has_name; named = refl }

    edits : AreRenameEdits middle known (Declared q.path n) (Declared q.path n ∷ []) name renaming
    edits = record { renamed = later; is_renamed = renamed_by; edits = record { each = each_file; only = only; none_added = refl } }

    -- it may get the new name

    fixed : IsFixed (IsCheckedPackage middle known) (Declared q.path n) → ⊥
    fixed (inl x) = x
    fixed (inr x) =
        let same : x.inside ≡ q = one_package middle known x.inside q x.is_package is_now x.of_path in
        imports.no_level middle known q is_now n is_import (subst (λ (z : Package). IsPackageLevel z.layout n) same x.holds.1.0)

    allowed : IsReservedFor (IsCheckedPackage middle known) (Declared q.path n) name → ⊥
    allowed x = h.rename.allowed (record { inside = p; is_package = h.is_package; of_path = refl; holds = (stands.0, inr was_import) }, x.1)

    names_stay : q.names n ≡ p.names n
    names_stay = ap q.names (sym (from_stays n)) ∙ is.keeps.names n

    other : HasDeclaredName (IsCheckedPackage middle known) (Declared q.path n) name → ⊥
    other x =
        let same : x.inside ≡ q = one_package middle known x.inside q x.is_package is_now x.of_path in
        let called : q.names n ≡ name = subst (λ (z : Package). z.names n ≡ name) same x.holds.1 in
        h.rename.other (record { inside = p; is_package = h.is_package; of_path = refl; holds = (stands.0, sym names_stay ∙ called) })

    rename : IsRename middle known (Declared q.path n) name renaming
    unfolding edits
    rename = record {
      right = right;
      sound = sound;
      form = h.rename.form;
      renamable = fixed;
      allowed = allowed;
      other = other;
      used = (own_place, use_from own_place own_listed);
      set = Declared q.path n ∷ [];
      is_set = alone (IsCheckedPackage middle known) (Declared q.path n);
      edits = edits;
      fit = two.fits_second;
    }

    pub plain : IsPlainRename middle known (Declared q.path n) name renaming
    unfolding rename edits
    plain = record { rename = rename; plain = refl }

    pub second : IsRenameIn middle known q n name renaming
    second = record { rename = plain; is_package = is_now }
