-- Objects after a rename of what prints no name, and after one of a package-level declaration.
use Rattle.std.proofs.Common.{ℕ, ◌≡◌, ◌&&◌, inl, inr, Bool, true, false, if◌then◌else◌, List, [], Some, refl, ap, sym, subst, ◌∙◌}
use Rattle.std.specs.Prelude.{Contains, slice_get}
use Rattle.std.specs.Cmp.Lexicographic.{bytes_decides}
use Rattle.std.proofs.Math.Path.{ap₂}
use Rattle.std.proofs.lemmas.Bool.{cases_eq}
use Rattle.std.proofs.lemmas.Option.{same_Some}
use Rattle.base_edits.specs.EditSet.{FileChanges, edited}
use Rattle.base_edits.specs.RevisionsOfEdits.{revision_of}
use Rattle.base_files.specs.Workspace.{Workspace}
use Rattle.go_ast.specs.Tree.{Item, ReceiverTree, ParamTree, ResultTree}
use Rattle.go_scope.specs.Bindings.{IsPackageLevel, Counts}
use Rattle.go_scope.proofs.Innermost.{one_in_block}
use Rattle.go_scope.proofs.Nests.{nests}
use Rattle.types_declared.specs.Definitions.{PlacedField, OfType, OfSignature, package_fields}
use Rattle.types_declared.specs.Package.{Package, PlacedType, PlacedFunction, package_types, package_functions, spelled, symbol_in}
use Rattle.types_info.proofs.DeclKinds.{holds_got}
use Rattle.workspace_check.specs.FaultLists.{ListsFaults}
use Rattle.workspace_check.specs.Verdicts.{Verdicts, AreVerdicts}
use Rattle.workspace_check.proofs.OnePackage.{layout_formed}
use Rattle.refs_binding.specs.declared.declaration.Declaration.{Declaration}
use Rattle.refs_binding.specs.declared.declaration.Declaration.TheVariants.{Declared, Field, Method}
use Rattle.refs_binding.specs.Uses.{IsCheckedPackage}
use Rattle.refs_binding.proofs.Units.{one_package}
use Rattle.refactor_conflict.proofs.FieldsAfter.{of_one}
use Rattle.build_object.specs.Lines.{GlobalName}
use Rattle.build_object.specs.Lines as line
use Rattle.law_renamed_workspaces.specs.Harmless.{IsHarmless}
use Rattle.law_renamed_workspaces.proofs.CalledNow.{field_now, method_now, kept_so}
use Rattle.law_renamed_workspaces.proofs.RenamedSets.{own_alone}
use Rattle.law_renamed_workspaces.specs.NamesAfterwards.{IsCalledAfter}
use Rattle.law_renamed_workspaces.specs.RenamedData.{IsAlone}
use Rattle.law_renamed_workspaces.specs.Renames.{IsMember, IsPlainRename}
use Rattle.law_renamed_workspaces.proofs.OwnNames.{own_renames}
use Rattle.law_renamed_workspaces.proofs.RenamedScopesRenamed.{others_stay}
use Rattle.law_renamed_workspaces.specs.VerdictsStay.{IsPackageAfter}
use Rattle.law_renamed_workspaces.proofs.DeclaredNames.{moves_level, keeps_levels, is_level_of}
use Rattle.law_objects.specs.Objects.{HasObjectText, ReplacesNames, IsFieldOfType, IsUnprinted}
use Rattle.law_objects.specs.Replaced.{Replaced, same_bytes, renamed_global, of_global, of_none}
use Rattle.law_objects.proofs.MethodNames.{is_method, receiver_moves}
use Rattle.law_objects.proofs.MovesFrom.{LevelsMove, MethodsMove, AsksMove, types, moves}
use Rattle.law_objects.proofs.NamesMoved.{named_at, AreNames}
use Rattle.law_objects.proofs.NothingReplaced.{none_text}
use Rattle.law_objects.proofs.ObjectsMove.{next, is_after, replaces_names}
use Rattle.law_objects.proofs.QualifiedNames.{qualified}

none_names : AreNames of_none
none_names = record { plain = λ g. refl; initial = λ path k. refl }

-- the name of a renamed declaration, and any other

pub same_true : (a b : List ℕ) → a ≡ b → same_bytes a b ≡ true
same_true a b e = (bytes_decides a b).1 e

pub chosen_if : {X : Type 0} (a b : Bool) (v w : X) → a ≡ true → b ≡ true → (if a && b then v else w) ≡ v
chosen_if true true v w e f = refl
chosen_if true false v w e f = let z : ⊥ = cc in absurd z
chosen_if false b v w e f = let z : ⊥ = cc in absurd z

pub other_if : {X : Type 0} (a b : Bool) (v w : X) → (a ≡ true → b ≡ true → ⊥) → (if a && b then v else w) ≡ w
other_if true true v w never = absurd (never refl refl)
other_if true false v w never = refl
other_if false b v w never = refl

renamed_is : (path old new : List ℕ) (g : GlobalName) → g.path ≡ path → g.name ≡ old → renamed_global path old new g ≡ record { path = path; name = new }
renamed_is path old new g e f =
    chosen_if (same_bytes g.path path) (same_bytes g.name old) (record { path = path; name = new }) g (same_true g.path path e) (same_true g.name old f)

renamed_not : (path old new : List ℕ) (g : GlobalName) → (g.path ≡ path → g.name ≡ old → ⊥) → renamed_global path old new g ≡ g
renamed_not path old new g never =
    other_if (same_bytes g.path path) (same_bytes g.name old) (record { path = path; name = new }) g
    (λ a b. never ((bytes_decides g.path path).0 a) ((bytes_decides g.name old).0 b))

declared_path : (p q : List ℕ) (m n : ℕ) → Declared p m ≡ Declared q n → p ≡ q
declared_path p q m n e = cc

declared_number : (p q : List ℕ) (m n : ℕ) → Declared p m ≡ Declared q n → m ≡ n
declared_number p q m n e = cc

module _ (w : Workspace) (before after : Verdicts) (d : Declaration) (name : List ℕ) (s : FileChanges) (plain : IsPlainRename w before d name s)
    (right : AreVerdicts (edited s w) after) (none : IsHarmless w before (revision_of w s)) where
  abbrev pub now : (p : Package) → IsCheckedPackage w before p → Package
  now p was = next w before after d name s plain right none p was

  abbrev pub here : (p : Package) (was : IsCheckedPackage w before p) → IsPackageAfter w before after s p (now p was)
  here p was = is_after w before after d name s plain right none p was

  abbrev sound : ListsFaults w []
  sound = plain.rename.sound

  abbrev old_right : AreVerdicts w before
  old_right = plain.rename.right

  -- the names of packages move where package-level names and methods do
  pub replaced_by : (r : Replaced) → AreNames r → ((p : Package) (was : IsCheckedPackage w before p) → LevelsMove r p (now p was)) →
      ((p : Package) (was : IsCheckedPackage w before p) → MethodsMove r p (now p was)) →
      ((p : Package) (was : IsCheckedPackage w before p) → AsksMove r p (now p was)) → ReplacesNames w before (edited s w) after r
  replaced_by r names levels methods asks =
      replaces_names w before after d name s plain right none r names
      (λ p was. moves w before after sound old_right s p (now p was) (here p was) r names (levels p was) (methods p was) (asks p was)
      (qualified w before after d name s plain right none p was r levels))

  module _ (p : Package) (was : IsCheckedPackage w before p) (rank : ℕ) where
    -- the name of a method, with whether it is renamed
    pub method_called : (f : PlacedFunction) (t : ReceiverTree) → slice_get (package_functions p) rank ≡ Some f → f.function.receiver ≡ Some t →
        IsCalledAfter plain.rename.set name (Method (symbol_in p rank)) (spelled p f.file f.function.name) (spelled (now p was) f.file f.function.name)
    method_called f t at e =
        let m = is_method w sound before old_right p was rank f at t e in
        method_now w before d name s plain p (now p was) was (here p was).relaid rank f at m.0 (record {
          receiver = m.1.receiver;
          received = m.1.received;
          declaration = m.1.declaration;
          binds = m.1.binds;
          of_type = m.1.of_type;
        })

    -- so of a method that an interface asks for
    pub asked_called : (f : PlacedField) → slice_get (package_fields p) rank ≡ Some f →
        IsCalledAfter plain.rename.set name (Field (symbol_in p rank)) (spelled p f.file f.name) (spelled (now p was) f.file f.name)
    asked_called f at = field_now w before d name s plain p (now p was) was (here p was).relaid rank f at

    -- each stays, if it is not renamed

    method_stays : (f : PlacedFunction) (t : ReceiverTree) → slice_get (package_functions p) rank ≡ Some f → f.function.receiver ≡ Some t →
        (Contains plain.rename.set (Method (symbol_in p rank)) → ⊥) → spelled (now p was) f.file f.function.name ≡ spelled p f.file f.function.name
    method_stays f t at e other =
        kept_so plain.rename.set name (Method (symbol_in p rank)) (spelled p f.file f.function.name) (spelled (now p was) f.file f.function.name)
        (method_called f t at e) other

    asked_stays : (f : PlacedField) → slice_get (package_fields p) rank ≡ Some f → (Contains plain.rename.set (Field (symbol_in p rank)) → ⊥) →
        spelled (now p was) f.file f.name ≡ spelled p f.file f.name
    asked_stays f at other =
        kept_so plain.rename.set name (Field (symbol_in p rank)) (spelled p f.file f.name) (spelled (now p was) f.file f.name) (asked_called f at) other

  -- the name of the type that an interface stands in
  pub type_moves : (p : Package) (was : IsCheckedPackage w before p) (r : Replaced) → AreNames r → LevelsMove r p (now p was) → (rank : ℕ) (t : PlacedType) →
      slice_get (package_types p) rank ≡ Some t → r.global (named_at p.path p t.file t.spec.name) ≡ named_at p.path (now p was) t.file t.spec.name
  type_moves p was r names levels rank t at =
      types w before after sound old_right s p (now p was) (here p was) r names levels t (holds_got (package_types p) rank t at)

  -- nothing is printed

  module _ (alone : IsAlone d plain.rename.set) (unprinted : IsUnprinted (IsCheckedPackage w before) d) where
    not_level : (p : Package) (was : IsCheckedPackage w before p) (m : ℕ) → d ≡ Declared p.path m → IsPackageLevel p.layout m → ⊥
    not_level p was m e level =
        let i = subst (IsUnprinted (IsCheckedPackage w before)) e unprinted in
        let same : i.inside ≡ p = one_package w before i.inside p i.is_package was i.of_path in
        i.holds (subst (λ (x : Package). IsPackageLevel x.layout m) (sym same) level)

    unprinted_too : (e : Declaration) → Contains plain.rename.set e → IsUnprinted (IsCheckedPackage w before) e
    unprinted_too e in_set = subst (IsUnprinted (IsCheckedPackage w before)) (sym (alone e in_set)) unprinted

    not_asked : (p : Package) (was : IsCheckedPackage w before p) (rank : ℕ) (f : PlacedField) (ps : List (Item ParamTree)) (result : ResultTree) →
        slice_get (package_fields p) rank ≡ Some f → f.form ≡ OfSignature ps result → Contains plain.rename.set (Field (symbol_in p rank)) → ⊥
    not_asked p was rank f ps result at form in_set =
        let x = of_one w before p was p.path refl (λ y. IsFieldOfType y rank) (unprinted_too (Field (symbol_in p rank)) in_set) in
        let same : x.field ≡ f = same_Some x.field f (sym x.has_rank ∙ at) in
        let z : OfType x.type_use ≡ OfSignature ps result = sym x.form ∙ ap (λ (y : PlacedField). y.form) same ∙ form in cc

    none_levels : (p : Package) (was : IsCheckedPackage w before p) → LevelsMove of_none p (now p was)
    none_levels p was u level counts =
        ap (λ n. record { path = p.path; name = n })
        (sym (keeps_levels own_renames others_stay w before d name s plain p (now p was) was (here p was).relaid (not_level p was) u level counts))

    none_methods : (p : Package) (was : IsCheckedPackage w before p) → MethodsMove of_none p (now p was)
    none_methods p was rank f t at e =
        ap₂ line.Method
        (receiver_moves w before after sound old_right s p (now p was) (here p was) of_none none_names (none_levels p was) rank f t at e)
        (sym (method_stays p was rank f t at e (unprinted_too (Method (symbol_in p rank)))))

    none_asks : (p : Package) (was : IsCheckedPackage w before p) → AsksMove of_none p (now p was)
    none_asks p was rank f ps result t at form of =
        ap₂ line.Method (type_moves p was of_none none_names (none_levels p was) f.definition t of)
        (sym (asked_stays p was rank f at (not_asked p was rank f ps result at form)))

    pub unprinted_stay : (path text : List ℕ) → HasObjectText w before path text → HasObjectText (edited s w) after path text
    unprinted_stay path text h =
        let new = replaced_by of_none none_names none_levels none_methods none_asks path h.files_of h.object h.has in
        subst (HasObjectText (edited s w) after path) (none_text _ h.object ∙ sym h.printed) new

  -- a package-level declaration is renamed

  module _ (own : Package) (n : ℕ) (is : d ≡ Declared own.path n) (was_own : IsCheckedPackage w before own) (own_level : IsPackageLevel own.layout n) where
    abbrev r : Replaced
    r = of_global own.path (own.names n) name

    global_names : AreNames r
    global_names = record { plain = λ g. refl; initial = λ path k. refl }

    module _ (p : Package) (was : IsCheckedPackage w before p) (u : ℕ) (level : IsPackageLevel p.layout u) (counts : Counts p.layout p.names u) where
      abbrev q : Package
      q = now p was

      -- of another package
      elsewhere : ((m : ℕ) → d ≡ Declared p.path m → IsPackageLevel p.layout m → ⊥) → p.path ≡ own.path → ⊥
      elsewhere other e =
          let same : own ≡ p = one_package w before own p was_own was (sym e) in
          other n (is ∙ ap (λ k. Declared k n) (sym e)) (subst (λ (x : Package). IsPackageLevel x.layout n) same own_level)

      -- of the declaring package
      own_name : (m : ℕ) → d ≡ Declared p.path m → p.names m ≡ own.names n
      own_name m e =
          let both : Declared p.path m ≡ Declared own.path n = sym e ∙ is in
          let same : p ≡ own = one_package w before p own was was_own (declared_path p.path own.path m n both) in
          ap p.names (declared_number p.path own.path m n both) ∙ ap (λ (x : Package). x.names n) same

      level_moves : r.global (record { path = p.path; name = p.names u }) ≡ record { path = p.path; name = q.names u }
      level_moves = elim (is_level_of d p) [
        | inr other ↦
            renamed_not own.path (own.names n) name (record { path = p.path; name = p.names u }) (λ e f. elsewhere other e)
            ∙ ap (λ k. record { path = p.path; name = k })
            (sym (keeps_levels own_renames others_stay w before d name s plain p q was (here p was).relaid other u level counts))
        | inl one ↦
            let m = moves_level own_renames others_stay w before d name s plain p q was (here p was).relaid one.0 one.1.0 one.1.1 in
            let path : p.path ≡ own.path = declared_path p.path own.path one.0 n (sym one.1.0 ∙ is) in
            elim (cases_eq u one.0) [
              | inl same ↦
                  renamed_is own.path (own.names n) name (record { path = p.path; name = p.names u }) path (ap p.names same ∙ own_name one.0 one.1.0)
                  ∙ ap₂ (λ k l. record { path = k; name = l }) (sym path) (sym m.now ∙ ap q.names (sym same))
              | inr apart ↦
                  renamed_not own.path (own.names n) name (record { path = p.path; name = p.names u })
                  (λ e f. apart (one_in_block p.layout (nests p.layout (layout_formed w before p.path p was.is_checked)) p.names u one.0 counts m.counts
                  (f ∙ sym (own_name one.0 one.1.0)) (level ∙ sym m.level)))
                  ∙ ap (λ k. record { path = p.path; name = k }) (sym (m.others u apart level counts))
            ]
      ]

    -- nothing is renamed with it
    own_only : (e : Declaration) → Contains plain.rename.set e → e ≡ Declared own.path n
    own_only e in_set =
        own_alone (IsCheckedPackage w before) d plain.rename.set plain.rename.is_set (λ member. subst IsMember is member) e in_set ∙ is

    global_levels : (p : Package) (was : IsCheckedPackage w before p) → LevelsMove r p (now p was)
    global_levels p was u level counts = level_moves p was u level counts

    global_methods : (p : Package) (was : IsCheckedPackage w before p) → MethodsMove r p (now p was)
    global_methods p was rank f t at e =
        ap₂ line.Method
        (receiver_moves w before after sound old_right s p (now p was) (here p was) r global_names (global_levels p was) rank f t at e)
        (sym (method_stays p was rank f t at e (λ in_set.
        let k : Method (symbol_in p rank) ≡ Declared own.path n = own_only (Method (symbol_in p rank)) in_set in cc)))

    global_asks : (p : Package) (was : IsCheckedPackage w before p) → AsksMove r p (now p was)
    global_asks p was rank f ps _ t at form of =
        ap₂ line.Method (type_moves p was r global_names (global_levels p was) f.definition t of)
        (sym (asked_stays p was rank f at (λ in_set.
        let k : Field (symbol_in p rank) ≡ Declared own.path n = own_only (Field (symbol_in p rank)) in_set in cc)))

    pub globals_replaced : ReplacesNames w before (edited s w) after r
    globals_replaced = replaced_by r global_names global_levels global_methods global_asks
