-- The types that a file writes are printed, none of them left out.
use Rattle.std.proofs.Common.{ℕ, ◌≡◌, inl, inr, List, [], ◌∷◌, ◌++◌, map, Option, Some, ap, sym, subst, refl, ◌∙◌}
use Rattle.std.specs.Prelude.{slice_get, option_map, option_to_list}
use Rattle.std.specs.List.{AllByRecursion, flat_map}
use Rattle.std.proofs.lemmas.List.Concat.{flat_map-append}
use Rattle.base_files.specs.Workspace.{Workspace}
use Rattle.base_lemmas.proofs.EachElement.{all_append}
use Rattle.go_ast.specs.SourceFile.{SourceFile}
use Rattle.go_ast.specs.Tree.{Item, TypeTree, FieldTree, MethodTree, BodyTree, ReceiverTree, ParamTree, ResultTree, FuncTree}
use Rattle.types_expr.specs.Types.{PlainType, Defined}
use Rattle.types_expr.specs.World.{World, Locals}
use Rattle.types_expr.specs.Judge.{TypeJudged, judge_type, named_type}
use Rattle.types_stmt.specs.Headers.{starred}
use Rattle.law_typing.specs.Declarations.{ReceiverIsTyped, a_receiver, ParamIsTyped, a_param, AreTypes, no_type_left, also_type, AreResults, none_written}
use Rattle.law_typing.specs.Declarations.{one_written, several_written, FieldsAreTyped, no_field_left, also_field, BodyIsTyped, another_type, a_struct}
use Rattle.law_typing.specs.Declarations.{an_interface, AskedAreTyped, no_param_left, also_param, MethodsAreTyped, no_method_left, also_method}
use Rattle.law_typing.specs.Declarations.{FunctionIsTyped, a_function, IsBehindStar, no_star, a_star}
use Rattle.law_typing.specs.Names.{IsType}
use Rattle.law_typing.specs.Sequences.{InTurn, no_item, then_item, IfPresent, absent, present}
use Rattle.law_typing.proofs.Headers.{star_true}
use Rattle.law_typing.proofs.Naming.{type_true}
use Rattle.types_declared.specs.MeaningOf.{parameter_types, result_types}
use Rattle.types_declared.specs.Package.{Package, spelled}
use Rattle.types_info.specs.Worlds.{IsWorldOf}
use Rattle.types_info.proofs.DeclKinds.{Holds}
use Rattle.workspace_check.specs.FaultLists.{ListsFaults}
use Rattle.workspace_check.specs.Verdicts.{Verdicts, AreVerdicts}
use Rattle.refs_binding.specs.Uses.{IsCheckedPackage}
use Rattle.build_object.specs.Lines.{GlobalName, FunctionName, Method}
use Rattle.build_object.specs.Objects.{ObjectDefinition, SameAs, Fields, Asks, object_asked, asked_methods, definition_of, field_types, written, all_written}
use Rattle.build_object.specs.Objects.{receiver_type, received_type, function_of}
use Rattle.build_object.specs.Source.{Source}
use Rattle.build_unit.specs.Units.{AreFilesBelow}
use Rattle.law_faultless.specs.Lines.{IsTypeNamed, JudgesFile, IsPrinted, AreTypesPrinted, written_fields}
use Rattle.law_faultless.specs.Lines.{AreAskedLines, IsDefinedAs, IsReceived, BeginWithReceiver, without, with_one}
use Rattle.law_faultless.specs.Lines.{HasTypes}
use Rattle.law_faultless.proofs.AskedLines.{methods_of}
use Rattle.law_faultless.proofs.NamedTypes.{named_type as name_named, written_named}

-- a written type has a type
abbrev pub HasType : World → TypeTree → Type 0
HasType v x = (t : PlainType) × IsType v x t

-- that type is the one that is found
pub found_type : (v : World) (x : TypeTree) (t : PlainType) → IsType v x t → (judge_type v x).type_of ≡ Some t
found_type v x t i = ap (λ (z : TypeJudged). z.type_of) (type_true v i)

written_one : (v : World) (x : TypeTree) (t : PlainType) → IsType v x t → written v x ≡ t ∷ []
written_one v x t i = ap option_to_list (found_type v x t i)

-- once for each name
each_name : {N : Type 0} (P : TypeTree → Type 0) (x : TypeTree) (ns : List N) → P x → AllByRecursion P (map (λ n. x) ns)
each_name P x [] h = tt
each_name P x (n ∷ ns) h = (h, each_name P x ns h)

params_typed : (v : World) {before after : Locals} {ps : List (Item ParamTree)} → InTurn ParamTree (ParamIsTyped v) before ps after →
    AllByRecursion (HasType v) (parameter_types ps)
params_typed v no_item = tt
params_typed v (then_item {i = i} {is} (a_param {t = t} h declared) more) =
    all_append (HasType v) (map (λ n. i.value.type_use) i.value.names) (parameter_types is)
    (each_name (HasType v) i.value.type_use i.value.names (t, h)) (params_typed v more)

types_typed : (v : World) {is : List (Item TypeTree)} {ts : List PlainType} → AreTypes v is ts → AllByRecursion (HasType v) (map (λ i. i.value) is)
types_typed v no_type_left = tt
types_typed v (also_type {t = t} h more) = ((t, h), types_typed v more)

results_typed : (v : World) {r : ResultTree} {ts : List PlainType} → AreResults v r ts → AllByRecursion (HasType v) (result_types r)
results_typed v none_written = tt
results_typed v (one_written {t = t} h) = ((t, h), tt)
results_typed v (several_written h) = types_typed v h

fields_typed : (v : World) {is : List (Item FieldTree)} → FieldsAreTyped v is → AllByRecursion (HasType v) (written_fields is)
fields_typed v no_field_left = tt
fields_typed v (also_field {i = i} {is} {t} h more) =
    all_append (HasType v) (map (λ n. i.value.type_use) i.value.names) (written_fields is)
    (each_name (HasType v) i.value.type_use i.value.names (t, h)) (fields_typed v more)

asked_typed : (v : World) {is : List (Item ParamTree)} → AskedAreTyped v is → AllByRecursion (HasType v) (parameter_types is)
asked_typed v no_param_left = tt
asked_typed v (also_param {i = i} {is} {t} h more) =
    all_append (HasType v) (map (λ n. i.value.type_use) i.value.names) (parameter_types is)
    (each_name (HasType v) i.value.type_use i.value.names (t, h)) (asked_typed v more)

-- the types of fields are those that are written
one_each : (v : World) (x : TypeTree) (ns : List (Item ℕ)) → flat_map (λ n. written v x) ns ≡ all_written v (map (λ n. x) ns)
one_each v x [] = refl
one_each v x (n ∷ ns) = ap (λ z. written v x ++ z) (one_each v x ns)

written_append : (v : World) (xs ys : List TypeTree) → all_written v (xs ++ ys) ≡ all_written v xs ++ all_written v ys
written_append v xs ys = flat_map-append (written v) xs ys

fields_written : (v : World) (fs : List (Item FieldTree)) → field_types v fs ≡ all_written v (written_fields fs)
fields_written v [] = refl
fields_written v (f ∷ fs) =
    let xs = map (λ n. f.value.type_use) f.value.names in
    ap (λ z. z ++ field_types v fs) (one_each v f.value.type_use f.value.names) ∙ ap (λ z. all_written v xs ++ z) (fields_written v fs) ∙
    sym (written_append v xs (written_fields fs))

module _ (w : Workspace) (sound : ListsFaults w []) (known : Verdicts) (right : AreVerdicts w known) (p : Package) (is : IsCheckedPackage w known p)
    (files_of : List ℕ → List SourceFile) (below : AreFilesBelow w p.path files_of) (file : ℕ) (f : SourceFile) (at : slice_get p.files file ≡ Some f)
    (v : World) (judged : IsWorldOf p file f v) where
  judges : JudgesFile p file v
  judges = record { source = f; in_file = at; judges = judged }

  pub printed : (x : TypeTree) (t : PlainType) → IsType v x t → IsPrinted p files_of file x t
  printed x t i = record {
    world = v;
    judges = judges;
    is_type = i;
    named = written_named w sound known right p is files_of below file v judged.names i;
  }

  all_printed : (xs : List TypeTree) → AllByRecursion (HasType v) xs → AreTypesPrinted p files_of file xs (all_written v xs)
  all_printed [] h = tt
  all_printed (x ∷ xs) h =
      subst (λ z. AreTypesPrinted p files_of file (x ∷ xs) (z ++ all_written v xs)) (sym (written_one v x h.0.0 h.0.1))
      (printed x h.0.0 h.0.1, all_printed xs h.1)

  -- what an interface asks for, where the names of its methods are known
  module _ (of : GlobalName) (asks : ℕ → Option FunctionName) where
    abbrev AreNamed : List (Item MethodTree) → Type 0
    AreNamed ms = (m : Item MethodTree) → Holds ms m → asks m.value.name ≡ Some (Method of (spelled p file m.value.name))

    methods_lined : (ms : List (Item MethodTree)) → AreNamed ms → MethodsAreTyped v ms → AreAskedLines p files_of of file ms (asked_methods v asks ms)
    methods_lined _ named no_method_left = tt
    methods_lined _ named (also_method {i} {is} params results more) =
        let m = i.value in
        subst (λ z. AreAskedLines p files_of of file (i ∷ is) (object_asked v m z ++ asked_methods v asks is)) (sym (named i (inl refl))) (
          record {
            named = refl;
            are_parameters = all_printed (parameter_types m.params) (asked_typed v params);
            are_results = all_printed (result_types m.result) (results_typed v results);
          },
          methods_lined is (λ n h. named n (inr h)) more,
        )

    -- what a type is defined as
    pub record IsKnownAs (b : BodyTree) : Type 0 where
      pub definition : ObjectDefinition
      pub is_known : definition_of v asks b ≡ Some definition
      pub defines : IsDefinedAs p files_of of file b definition

    pub body_known : (b : BodyTree) → AreNamed (methods_of b) → BodyIsTyped v b → IsKnownAs b
    unfolding definition_of
    body_known _ named (another_type {x} {t} i) =
        record { definition = SameAs t; is_known = ap (option_map SameAs) (found_type v x t i); defines = printed x t i }
    body_known _ named (a_struct {is = fs} h) = record {
      definition = Fields (field_types v fs);
      is_known = refl;
      defines = subst (λ ts. AreTypesPrinted p files_of file (written_fields fs) ts) (sym (fields_written v fs)) (all_printed (written_fields fs)
          (fields_typed v h));
    }
    body_known _ named (an_interface {is = ms} h) =
        record { definition = Asks (asked_methods v asks ms); is_known = refl; defines = methods_lined ms named h }

  -- the types of a function
  received_one : {before after : Locals} {r : ReceiverTree} → ReceiverIsTyped v before r after →
      (t : PlainType) × ((received_type v r ≡ Some t) × IsReceived p files_of file r t)
  unfolding named_type
  received_one (a_receiver {r = r} {s} {t} e no_pointer star declared) = (
    t,
    (
      ap (λ b. (starred r.star (named_type b r.type_name)).type_of) e ∙ ap (λ (z : TypeJudged). z.type_of) (star_true star),
      record {
        world = v;
        judges = judges;
        symbol = s;
        names = e;
        behind_star = star;
        named = star_named star (name_named w sound known right p is files_of below file v judged.names r.type_name (Defined s) e);
      },
    ),
  )
    where
      star_named : {o : Option ℕ} {a b : PlainType} → IsBehindStar o a b → IsTypeNamed files_of a → IsTypeNamed files_of b
      star_named no_star h = h
      star_named a_star h = h

  received : (ts : List PlainType) (o : Option ReceiverTree) {before after : Locals} → IfPresent ReceiverTree (ReceiverIsTyped v) before o after →
      BeginWithReceiver p files_of file o (receiver_type v o ++ ts) ts
  received ts _ absent = without
  received ts _ (present {x = r} h) =
      let one = received_one h in
      subst (λ z. BeginWithReceiver p files_of file (Some r) (option_to_list z ++ ts) ts) (sym one.1.0) (with_one one.1.1)

  pub function_printed : (s : Source) → s.world ≡ v → (name : FunctionName) (is_init : _) (before after : Locals) (g : FuncTree) →
      FunctionIsTyped v is_init before g after → HasTypes p files_of (record { file = file; function = g }) (function_of s g name)
  function_printed s same name is_init before after g (a_function other params results keeps body) =
      let xs = parameter_types g.params in
      let ts = all_written v xs in
      record {
        parameters = ts;
        receiver = subst (λ z. BeginWithReceiver p files_of file g.receiver (receiver_type z g.receiver ++ all_written z xs) ts) (sym same)
            (received ts g.receiver other);
        are_parameters = all_printed xs (params_typed v params);
        are_results = subst (λ z. AreTypesPrinted p files_of file (result_types g.result) (all_written z (result_types g.result))) (sym same)
            (all_printed (result_types g.result) (results_typed v results));
      }
