-- Of each member that a package of a workspace without faults uses it is known where the field stands, or what the method is called.
use Rattle.std.proofs.Common.{ℕ, suc, ◌≡◌, ◌+◌, ◌<◌, inl, inr, Bool, true, false, if◌then◌else◌, List, [], ◌∷◌, ◌++◌, length, map, ap, sym, subst}
use Rattle.std.proofs.Common.{refl, ◌∙◌, arith}
use Rattle.std.specs.Prelude.{Contains, Option, Some, None, slice_get}
use Rattle.std.specs.List.{flat_map}
use Rattle.std.specs.Option.{option_flatten}
use Rattle.std.proofs.Common.{length-append}
use Rattle.std.proofs.lemmas.List.{length-map}
use Rattle.std.proofs.lemmas.Option.{none-some, slice_get_within}
use Rattle.base_files.specs.Workspace.{Workspace}
use Rattle.base_files.specs.Packages.{package_paths, package_files}
use Rattle.go_ast.specs.SourceFile.{SourceFile, spelling_of}
use Rattle.go_ast.specs.Tree.{Item, TypeTree, FieldTree, BodyTree, Other, Struct, Interface, ReceiverTree, MethodTree, ParamTree, ResultTree}
use Rattle.workspace_graph.specs.Packages.{IsInClosure, itself}
use Rattle.workspace_graph.specs.Parsed.{AreParsed}
use Rattle.types_expr.specs.declared.symbol.Symbol.{Symbol}
use Rattle.types_expr.specs.Types.{PlainType, Signature, WrittenAs, AFieldOf, AMethodOf}
use Rattle.types_expr.specs.World.{Definition, Field, Method, is_seen, seen_field, seen_method, field_owner}
use Rattle.types_expr.specs.World.{owner}
use Rattle.types_expr.specs.World.{field_of, method_of, a_method, first_member, member_by}
use Rattle.types_expr.specs.WorldView.{no_definition}
use Rattle.types_declared.specs.MeaningOf.{AreTypesOf, IsSignatureOf, HasSignature, parameter_types, result_types}
use Rattle.types_declared.specs.Definitions.{PlacedField, body_fields, fields_from, package_fields, WrittenForm, HasForm}
use Rattle.types_declared.specs.Definitions.{IsFoundField, IsFoundMethod, IsFoundSignature, IsDefinition, AreDefinitions}
use Rattle.types_declared.specs.Definitions.{OfType, OfSignature}
use Rattle.types_declared.specs.Package.{Package, ExportData, PlacedType, PlacedFunction, package_types, package_functions, symbol_in}
use Rattle.types_declared.proofs.ByteKeys.{cases_bytes}
use Rattle.types_check.specs.Exports.{IsExportData}
use Rattle.types_info.specs.Worlds.{IsWorldOf}
use Rattle.types_info.proofs.MeaningLists.{slice_get_some}
use Rattle.workspace_check.specs.FaultLists.{ListsFaults}
use Rattle.workspace_check.specs.Verdicts.{Verdicts, AreVerdicts, IsSeenAs, seen, unseen, IsPackageIn}
use Rattle.workspace_check.proofs.Closed.{to_package}
use Rattle.workspace_check.proofs.OneList.{checked_package}
use Rattle.workspace_check.proofs.OnePackage.{one_sources, all_read}
use Rattle.build_object.specs.Lines.{FunctionName}
use Rattle.build_object.specs.Names.{names_of_fields, body_positions, type_positions, field_positions, initializers_with}
use Rattle.build_object.specs.Names.{functions_behind, function_names, function_name, position_of_field, all_asked_names, name_of_asked}
use Rattle.build_object.specs.Source.{Source}
use Rattle.build_object.specs.Sources.{IsSourceOf}
use Rattle.build_object.proofs.NameParts.{positions_length}
use Rattle.law_faultless.specs.QuestionAnswers.{IsKnown, IsNamedWith, method_arity, MemberIsKnown, WrittenIsKnown}
use Rattle.law_faultless.specs.Stack.{Arity}
use Rattle.refs_binding.specs.Uses.{IsCheckedPackage}
use Rattle.refs_lookup.proofs.OnePlace.{same_files}
use Rattle.refs_binding.proofs.Alike.{package_for}
use Rattle.law_faultless.proofs.Fine.{seen_export_data}
use Rattle.build_unit.specs.Units.{AreFilesSeen, within, beyond, AreFilesBelow}
use Rattle.law_faultless.proofs.PackageWorlds.{have_all_worlds}
use Rattle.law_faultless.specs.Arities.{with_receiver, written_arity, asked_arity, AreArities}
use Rattle.law_faultless.proofs.AskedMembers.{asked_has}

-- as many places as fields

names_long : (rank file : ℕ) (fs : List (Item FieldTree)) → length (names_of_fields fs) ≡
    length (flat_map (λ (i : Item FieldTree). map (λ (n : Item ℕ).
    let f : PlacedField = record { definition = rank; file = file; name = n.value; form = OfType i.value.type_use } in f) i.value.names) fs)
names_long rank file [] = refl
names_long rank file (i ∷ is) =
    let one : Item ℕ → PlacedField = λ n. record { definition = rank; file = file; name = n.value; form = OfType i.value.type_use } in
    let rest = flat_map (λ (j : Item FieldTree). map (λ (n : Item ℕ).
    let f : PlacedField = record { definition = rank; file = file; name = n.value; form = OfType j.value.type_use } in f) j.value.names) is in
    let later : length (names_of_fields is) ≡ length rest = names_long rank file is in
    let first : length (map one i.value.names) ≡ length i.value.names = length-map i.value.names one in
    let a : length (i.value.names ++ names_of_fields is) ≡ length i.value.names + length (names_of_fields is) =
    length-append i.value.names (names_of_fields is) in
    let b : length (map one i.value.names ++ rest) ≡ length (map one i.value.names) + length rest = length-append (map one i.value.names) rest in
    omega (arith, later, first, a, b)

body_long : (rank file : ℕ) (b : BodyTree) → length (body_positions b) ≡ length (body_fields rank file b)
body_long rank file (Other t) = refl
body_long rank file (Struct k o fs c) = positions_length 0 (names_of_fields fs) ∙ names_long rank file fs
body_long rank file (Interface k o ms c) =
    let asked : Item MethodTree → PlacedField = λ i.
    record { definition = rank; file = file; name = i.value.name; form = OfSignature i.value.params i.value.result } in
    positions_length 0 ms ∙ sym (length-map ms asked)

fields_long : (rank : ℕ) (ds : List PlacedType) → length (flat_map type_positions ds) ≡ length (fields_from rank ds)
fields_long rank [] = refl
fields_long rank (d ∷ ds) =
    let first : length (type_positions d) ≡ length (body_fields rank d.file d.spec.body) = body_long rank d.file d.spec.body in
    let later : length (flat_map type_positions ds) ≡ length (fields_from (suc rank) ds) = fields_long (suc rank) ds in
    let a = length-append (type_positions d) (flat_map type_positions ds) in
    let b = length-append (body_fields rank d.file d.spec.body) (fields_from (suc rank) ds) in
    omega (arith, first, later, a, b)

-- as many names as functions
pub functions_long : (path : List ℕ) (files : List SourceFile) (k : ℕ) (fs : List PlacedFunction) → length (functions_behind path files k fs) ≡ length fs
functions_long path files k [] = refl
functions_long path files k (f ∷ fs) = ap suc (functions_long path files (initializers_with files k f) fs)

pub named_function : (p : Package) (rank : ℕ) (f : PlacedFunction) → slice_get (package_functions p) rank ≡ Some f →
    (name : FunctionName) × (slice_get (function_names p.path p.files) rank ≡ Some name)
named_function p rank f has =
    let lt : rank < length (package_functions p) = slice_get_within (package_functions p) rank f has in
    let long : length (function_names p.path p.files) ≡ length (package_functions p) = functions_long p.path p.files 0 (package_functions p) in
    slice_get_some (function_names p.path p.files) rank (omega arith)

types_long : (p : Package) (file : ℕ) (xs : List TypeTree) (ts : List PlainType) → AreTypesOf p file xs ts → length xs ≡ length ts
types_long p file [] [] h = refl
types_long p file [] (t ∷ ts) h = absurd h
types_long p file (x ∷ xs) [] h = absurd h
types_long p file (x ∷ xs) (t ∷ ts) h = ap suc (types_long p file xs ts h.1)

-- a function takes and gives as many values as its signature has
pub signature_arity : (p : Package) (f : PlacedFunction) (s : Signature) → HasSignature p f s → written_arity f.function ≡
    record { parameters = with_receiver f.function.receiver (length s.parameters); results = length s.results }
signature_arity p f s h =
    let ps = types_long p f.file (parameter_types f.function.params) s.parameters h.parameters in
    let rs = types_long p f.file (result_types f.function.result) s.results h.results in
    let one : Arity → Arity → Type 0 = λ a b. a ≡ b in
    ap (λ n. let a : Arity = record { parameters = with_receiver f.function.receiver n; results = length (result_types f.function.result) } in a) ps ∙
    ap (λ n. let a : Arity = record { parameters = with_receiver f.function.receiver (length s.parameters); results = n } in a) rs

-- so does a method that an interface asks for
asked_signature : (p : Package) (file : ℕ) (ps : List (Item ParamTree)) (r : ResultTree) (g : Signature) → IsSignatureOf p file ps r g →
    asked_arity ps r ≡ method_arity g
asked_signature p file ps r g h =
    let params = types_long p file (parameter_types ps) g.parameters h.parameters in
    let results = types_long p file (result_types r) g.results h.results in
    ap (λ n. let a : Arity = record { parameters = suc n; results = length (result_types r) } in a) params ∙
    ap (λ n. let a : Arity = record { parameters = suc (length g.parameters); results = n } in a) results

-- files

pub read_files : (w : Workspace) (known : Verdicts) (p q : List ℕ) (files : List SourceFile) → AreFilesSeen w p q files → IsInClosure w p q → (c : Package) →
    IsPackageIn w known q c → files ≡ c.files
read_files w known p q files (within closed f) here c is =
    let whole = all_read f.parsed is.parsed in
    f.are_files ∙ one_sources (subst (λ fs. AreParsed (package_files w q) f.parts fs) whole f.parsed) is.parsed ∙ sym (same_files w known q c is)
read_files w known p q _ (beyond outside) here c is = absurd (outside here)

-- members that are seen

pub seen_one : {X : Type 0} (b : Bool) (x y : X) → (if b then Some x else None) ≡ Some y → Some x ≡ Some y
seen_one true x y e = e
seen_one false x y e = absurd (none-some y e)

field_seen : (own : List ℕ) (o : Option Field) (f : Field) → seen_field own o ≡ Some f → o ≡ Some f
field_seen own None f e = absurd (none-some f e)
field_seen own (Some g) f e = seen_one (is_seen own g.symbol g.exported) g f e

method_seen : (own : List ℕ) (o : Option Method) (m : Method) → seen_method own o ≡ Some m → o ≡ Some m
method_seen own None m e = absurd (none-some m e)
method_seen own (Some n) m e = seen_one (is_seen own n.symbol n.exported) n m e

module _ (files_of : List ℕ → List SourceFile) (arity : FunctionName → Arity) where
  abbrev IsWrittenSettled : WrittenAs → Symbol → Type 0
  IsWrittenSettled (AFieldOf t) y = IsKnown (position_of_field files_of y)
  IsWrittenSettled (AMethodOf g) y = IsNamedWith arity (name_of_asked files_of y) (method_arity g)

  abbrev HasFields : Definition → Type 0
  HasFields d = (name : List ℕ) (f : Field) → d.field name ≡ Some f → IsWrittenSettled f.form f.symbol

  abbrev HasMethods : Definition → Type 0
  HasMethods d = (name : List ℕ) (m : Method) → d.method name ≡ Some m → (s : Signature) → m.signature ≡ Some s →
      IsNamedWith arity (function_name files_of m.symbol) (method_arity s)

  abbrev AreCalled : Definition → Type 0
  AreCalled d = HasFields d × HasMethods d

  nothing_called : (d : Definition) → ((name : List ℕ) → d.field name ≡ None) → ((name : List ℕ) → d.method name ≡ None) → AreCalled d
  nothing_called d f m = ((λ name x e. absurd (none-some x (sym (f name) ∙ e))), λ name x e. absurd (none-some x (sym (m name) ∙ e)))

  module _ (w : Workspace) (known : Verdicts) (arities : AreArities w known arity) (c : Package) (is : IsCheckedPackage w known c)
      (same : files_of c.path ≡ c.files) where
    -- a field by its type, and a method that an interface asks for by its signature
    by_form : (file : ℕ) (form : WrittenForm) (t : WrittenAs) (y : Symbol) → HasForm c file form t → IsKnown (position_of_field files_of y) →
        ((ps : List (Item ParamTree)) (r : ResultTree) → form ≡ OfSignature ps r → (g : Signature) → IsSignatureOf c file ps r g →
        IsNamedWith arity (name_of_asked files_of y) (method_arity g)) → IsWrittenSettled t y
    by_form file (OfType x) (AFieldOf t) y h position asked = position
    by_form file (OfType x) (AMethodOf g) y h position asked = absurd h
    by_form file (OfSignature ps r) (AFieldOf t) y h position asked = absurd h
    by_form file (OfSignature ps r) (AMethodOf g) y h position asked = asked ps r refl g h

    asked_called : (rank : ℕ) (f : PlacedField) → slice_get (package_fields c) rank ≡ Some f → (ps : List (Item ParamTree)) (r : ResultTree) →
        f.form ≡ OfSignature ps r → (g : Signature) → IsSignatureOf c f.file ps r g →
        IsNamedWith arity (name_of_asked files_of (symbol_in c rank)) (method_arity g)
    asked_called rank f has ps r form g signed =
        let n = asked_has c rank f ps r has form in (
          n.0,
          (
            ap (λ (fs : List SourceFile). option_flatten (slice_get (all_asked_names c.path fs) rank)) same ∙ ap option_flatten n.1,
            arities.asked c is rank n.0 f ps r n.1 has form ∙ asked_signature c f.file ps r g signed,
          ),
        )

    field_placed : (definition : ℕ) (name : List ℕ) (f : Field) → IsFoundField c definition name (Some f) → IsKnown (position_of_field files_of f.symbol)
    field_placed definition name f x =
        let rank = f.symbol.rank in
        let lt : rank < length (package_fields c) = slice_get_within (package_fields c) rank x.0 x.1.0.is_field.has_rank in
        let long : length (field_positions c.files) ≡ length (package_fields c) = fields_long 0 (package_types c) in
        let n = slice_get_some (field_positions c.files) rank (omega arith) in
        subst (λ (s : Symbol). IsKnown (position_of_field files_of s)) (sym x.1.2) (
          n.0,
          ap (λ (fs : List SourceFile). slice_get (field_positions fs) rank) same ∙ n.1,
        )

    field_called : (definition : ℕ) (name : List ℕ) (f : Field) → IsFoundField c definition name (Some f) → IsWrittenSettled f.form f.symbol
    field_called definition name f x =
        by_form x.0.file x.0.form f.form f.symbol x.1.1 (field_placed definition name f x)
        (λ ps r form g signed. subst (λ (y : Symbol). IsNamedWith arity (name_of_asked files_of y) (method_arity g)) (sym x.1.2)
        (asked_called f.symbol.rank x.0 x.1.0.is_field.has_rank ps r form g signed))

    method_called : (definition : ℕ) (name : List ℕ) (m : Method) (s : Signature) → IsFoundMethod c definition name (Some m) → m.signature ≡ Some s →
        IsNamedWith arity (function_name files_of m.symbol) (method_arity s)
    method_called definition name m s x e =
        let rank = m.symbol.rank in
        let own = x.1.is_method in
        let n = named_function c rank x.0 own.has_rank in
        let signature : HasSignature c x.0 s = subst (IsFoundSignature c x.0) e x.2 in
        let written = arities.functions c is rank n.0 x.0 n.1 own.has_rank in
        let received = ap (λ (o : Option ReceiverTree).
        let a : Arity = record { parameters = with_receiver o (length s.parameters); results = length s.results } in a) own.received in
        subst (λ (y : Symbol). IsNamedWith arity (function_name files_of y) (method_arity s)) (sym x.4) (
          n.0,
          (ap (λ (fs : List SourceFile). slice_get (function_names c.path fs) rank) same ∙ n.1, written ∙ signature_arity c x.0 s signature ∙ received),
        )

    definition_called : (rank : ℕ) (d : Definition) → IsDefinition c rank d → AreCalled d
    definition_called rank d h = (
      λ name f e. field_called rank name f (subst (IsFoundField c rank name) e (h.fields name)),
      λ name m e s signed. method_called rank name m s (subst (IsFoundMethod c rank name) e (h.methods name)) signed,
    )

    export_data_called : (i : ExportData) → IsExportData c i → (rank : ℕ) (o : Option PlacedType) → slice_get (package_types c) rank ≡ o →
        AreCalled (i.definition rank)
    export_data_called i h rank None e =
        subst AreCalled (sym (h.beyond rank e)) (nothing_called (no_definition (symbol_in c rank)) (λ name. refl) (λ name. refl))
    export_data_called i h rank (Some d) e = definition_called rank (i.definition rank) (h.definitions rank d e)

    own_called : (defs : Symbol → Definition) → AreDefinitions c defs → (rank : ℕ) (o : Option PlacedType) → slice_get (package_types c) rank ≡ o →
        AreCalled (defs (symbol_in c rank))
    own_called defs are rank None e =
        subst AreCalled (sym (are.beyond rank e)) (nothing_called (no_definition (symbol_in c rank)) (λ name. refl) (λ name. refl))
    own_called defs are rank (Some d) e = definition_called rank (defs (symbol_in c rank)) (are.own rank d e)

  -- a member of a value

  module _ (s : Source) (position : (symbol : Symbol) → s.position symbol ≡ position_of_field files_of symbol)
      (function : (symbol : Symbol) → s.function symbol ≡ function_name files_of symbol)
      (asked : (symbol : Symbol) → s.asked symbol ≡ name_of_asked files_of symbol) (defs : Symbol → Definition)
      (called : (symbol : Symbol) → AreCalled (defs symbol)) (own name : List ℕ) where
    written_known : (t : WrittenAs) (y : Symbol) → IsWrittenSettled t y → WrittenIsKnown arity s y t
    written_known (AFieldOf u) y k = subst IsKnown (sym (position y)) k
    written_known (AMethodOf g) y k = subst (λ z. IsNamedWith arity z (method_arity g)) (sym (asked y)) k

    found_field : (o : Option Symbol) (f : Field) → field_of defs own name o ≡ Some f → WrittenIsKnown arity s f.symbol f.form
    found_field None f e = absurd (none-some f e)
    found_field (Some y) f e = written_known f.form f.symbol ((called y).0 name f (field_seen own ((defs y).field name) f e))

    found_method : (o : Option Symbol) (m : Method) → method_of defs own name o ≡ Some m → (g : Signature) → m.signature ≡ Some g →
        IsNamedWith arity (s.function m.symbol) (method_arity g)
    found_method None m e g signed = absurd (none-some m e)
    found_method (Some y) m e g signed =
        subst (λ z. IsNamedWith arity z (method_arity g)) (sym (function m.symbol)) ((called y).1 name m (method_seen own ((defs y).method name) m e) g signed)

    signed_known : (m : Method) → ((g : Signature) → m.signature ≡ Some g → IsNamedWith arity (s.function m.symbol) (method_arity g)) → (o : Option Signature) →
        m.signature ≡ o → MemberIsKnown arity s (Some (a_method m.symbol m.on_pointer o))
    signed_known m h None e = tt
    signed_known m h (Some g) e = h g e

    first_known : (f : Option Field) (m : Option Method) → ((x : Field) → f ≡ Some x → WrittenIsKnown arity s x.symbol x.form) →
        ((x : Method) → m ≡ Some x → (g : Signature) → x.signature ≡ Some g → IsNamedWith arity (s.function x.symbol) (method_arity g)) →
        MemberIsKnown arity s (first_member f m)
    first_known (Some f) m h k = h f refl
    first_known None None h k = tt
    first_known None (Some m) h k = signed_known m (k m refl) m.signature refl

    by_type : (t : PlainType) → MemberIsKnown arity s (member_by defs own name t)
    unfolding member_by
    by_type t =
        let a = field_owner (λ y. (defs y).underlying) t in
        let b = owner t in
        first_known (field_of defs own name a) (method_of defs own name b) (found_field a) (found_method b)

-- in a workspace without faults
module _ (w : Workspace) (sound : ListsFaults w []) (known : Verdicts) (right : AreVerdicts w known) where
  pub other_package : (q : List ℕ) (has : Contains (package_paths w) q) → IsCheckedPackage w known (checked_package w sound q has).checked
  other_package q has =
      let x = checked_package w sound q has in
      let path : x.checked.path ≡ q = ap (λ (c : Package). c.path) x.is_package.is_package.is_package in
      package_for w sound.known known sound.right right x.checked
      (record {
        of_workspace = subst (Contains (package_paths w)) (sym path) has;
        is_checked = subst (λ k. IsPackageIn w sound.known k x.checked) (sym path) x.is_package;
      })

  module _ (arity : FunctionName → Arity) (arities : AreArities w known arity) (p : Package) (is : IsCheckedPackage w known p)
      (files_of : List ℕ → List SourceFile) (below : AreFilesBelow w p.path files_of) where
    seen_called : (q : List ℕ) (n : Option (List ℕ)) (i : ExportData) → IsSeenAs w sound.known p.path q n i → (rank : ℕ) →
        AreCalled files_of arity (i.definition rank)
    seen_called q _ _ (seen on sees) rank =
        let has = to_package w p.path q on.imported in
        let x = checked_package w sound q has in
        let c = x.checked in
        let path : c.path ≡ q = ap (λ (y : Package). y.path) x.is_package.is_package.is_package in
        let same : files_of c.path ≡ c.files = ap files_of path ∙ read_files w sound.known p.path q (files_of q) (below q) on.imported c x.is_package in
        export_data_called files_of arity w known arities c (other_package q has) same (sound.known q).export_data x.is_export_data rank
        (slice_get (package_types c) rank) refl
    seen_called q _ _ (unseen away) rank =
        nothing_called files_of arity (no_definition (record { «package» = q; rank = rank })) (λ name. refl) (λ name. refl)

    all_called : (defs : Symbol → Definition) → AreDefinitions p defs → (y : Symbol) → AreCalled files_of arity (defs y)
    all_called defs are y = elim (cases_bytes p.path y.package) [
      | inl e ↦
          let same : files_of p.path ≡ p.files =
          read_files w known p.path p.path (files_of p.path) (below p.path) (itself is.of_workspace) p is.is_checked in
          subst (λ q. AreCalled files_of arity (defs (record { «package» = q; rank = y.rank }))) e
          (own_called files_of arity w known arities p is same defs are y.rank (slice_get (package_types p) y.rank) refl)
      | inr other ↦
          let i = seen_export_data w sound known right (have_all_worlds w sound known right) p is y.package in
          subst (AreCalled files_of arity) (sym (are.imported y.package y.rank (λ e. other (sym e))))
          (seen_called y.package i.0 (p.export_data_of y.package) i.1 y.rank)
    ]

    pub members_known : (file : ℕ) (f : SourceFile) (s : Source) → IsSourceOf p files_of file f s → (n : ℕ) (t : PlainType) →
        MemberIsKnown arity s (s.world.member n t)
    members_known file f s source n t =
        let judged : IsWorldOf p file f s.world = source.world in
        subst (MemberIsKnown arity s) (sym (judged.member n t))
        (by_type files_of arity s source.position source.function source.asked judged.definitions (all_called judged.definitions judged.are_definitions) p.path
        (spelling_of f n) t)
