-- Objects after a rename of members: methods of receivers, and methods that interfaces ask for.
use Rattle.std.proofs.Common.{ℕ, ◌≡◌, ◌⊎◌, ◌&&◌, ◌||◌, inl, inr, Bool, true, false, if◌then◌else◌, List, [], ◌∷◌, Some, refl, ap, sym, subst, ◌∙◌}
use Rattle.std.specs.Prelude.{Contains, slice_get}
use Rattle.std.specs.Cmp.Lexicographic.{bytes_decides}
use Rattle.std.proofs.Math.Path.{ap₂, fun_ext}
use Rattle.std.proofs.lemmas.Bool.{cases_Bool, cases_order, true≢false}
use Rattle.std.proofs.lemmas.Option.{same_Some}
use Rattle.base_lemmas.proofs.Elements.{first_in, later_in, first_or_later, nothing_in}
use Rattle.base_edits.specs.EditSet.{FileChanges, edited}
use Rattle.base_edits.specs.RevisionsOfEdits.{revision_of}
use Rattle.base_files.specs.Workspace.{Workspace}
use Rattle.go_ast.specs.SourceFile.{spelling_of}
use Rattle.go_ast.specs.Tree.{Item, ReceiverTree, ParamTree, ResultTree, Interface}
use Rattle.go_scope.specs.Bindings.{IsPackageLevel, Counts}
use Rattle.go_scope.specs.Table.{LiesAt}
use Rattle.go_scope.specs.declared.model.Position.{Position}
use Rattle.types_expr.specs.declared.symbol.Symbol.{Symbol}
use Rattle.types_declared.specs.Definitions.{PlacedField, OfSignature, package_fields, IsMethodOf}
use Rattle.types_declared.specs.Package.{Package, PlacedType, PlacedFunction, package_types, package_functions, type_place, spelled, spelled_at, symbol_in}
use Rattle.types_declared.specs.Written.{BindsToken, DeclaresType}
use Rattle.types_members.specs.MethodsView.{IsOwner}
use Rattle.workspace_check.specs.FaultLists.{ListsFaults}
use Rattle.workspace_check.specs.Verdicts.{Verdicts, AreVerdicts}
use Rattle.refs_binding.specs.declared.declaration.Declaration.{Declaration}
use Rattle.refs_binding.specs.declared.declaration.Declaration.TheVariants.{Predeclared, Declared, Field, Method}
use Rattle.refs_binding.specs.DeclaredNames.{HasDeclaredName, HasMemberName}
use Rattle.refs_binding.specs.Binding.{IsFieldAt, IsMethodAt}
use Rattle.refs_binding.specs.Uses.{IsCheckedPackage}
use Rattle.refs_binding.proofs.Units.{one_package}
use Rattle.refactor_conflict.proofs.FieldsAfter.{of_one}
use Rattle.build_object.specs.Lines.{GlobalName, FunctionName, Plain, Initializer}
use Rattle.build_object.specs.Lines as line
use Rattle.law_faultless.proofs.AskedMembers.{IsAskedBy, asked_is, asked_has}
use Rattle.law_faultless.proofs.Declared.{may_within}
use Rattle.law_faultless.proofs.FunctionsSettled.{in_file_of}
use Rattle.law_faultless.proofs.Names.{asked_apart, methods_apart, receives_no_interface}
use Rattle.law_renamed_workspaces.specs.Harmless.{IsHarmless}
use Rattle.law_renamed_workspaces.specs.RenamedData.{IsAlone}
use Rattle.law_renamed_workspaces.specs.Renames.{IsMember, IsPlainRename}
use Rattle.law_renamed_workspaces.proofs.CalledNow.{renamed_so, kept_so}
use Rattle.law_renamed_workspaces.proofs.OwnNames.{own_renames, counted}
use Rattle.law_renamed_workspaces.proofs.RenamedScopesRenamed.{others_stay}
use Rattle.law_renamed_workspaces.proofs.RenamedSets.{among_or_not}
use Rattle.law_renamed_workspaces.proofs.DeclaredNames.{keeps_levels}
use Rattle.law_objects.specs.Objects.{IsOwnerCalled, IsInterfaceCalled, IsTypeOfMethod, AreTypesOfMethods, ReplacesNames}
use Rattle.law_objects.specs.Replaced.{Replaced, same_bytes, renamed_method, of_method, has_global, renamed_methods, of_methods}
use Rattle.law_objects.proofs.GlobalLaws.{same_true, chosen_if, other_if, now, here, replaced_by, method_called, asked_called, type_moves}
use Rattle.law_objects.proofs.LevelNames.{level_spelled, own_spelled}
use Rattle.law_objects.proofs.MethodNames.{is_method, type_level, receiver_moves}
use Rattle.law_objects.proofs.MovesFrom.{LevelsMove}
use Rattle.law_objects.proofs.NamesMoved.{named_at, AreNames}

-- whether a name is one of some

same_global : (a b : GlobalName) → a.path ≡ b.path → a.name ≡ b.name → a ≡ b
same_global a b e f = ap₂ (λ path name. record { path = path; name = name }) e f

both_true : (a b : Bool) → (a && b) ≡ true → (a ≡ true) × (b ≡ true)
both_true true true e = (refl, refl)
both_true true false e = let z : ⊥ = cc in absurd z
both_true false b e = let z : ⊥ = cc in absurd z

and_true : (a b : Bool) → a ≡ true → b ≡ true → (a && b) ≡ true
and_true true true e f = refl
and_true true false e f = let z : ⊥ = cc in absurd z
and_true false b e f = let z : ⊥ = cc in absurd z

or_left : (a b : Bool) → a ≡ true → (a || b) ≡ true
or_left true b e = refl
or_left false b e = let z : ⊥ = cc in absurd z

or_right : (a b : Bool) → b ≡ true → (a || b) ≡ true
or_right true b e = refl
or_right false b e = e

either_true : (a b : Bool) → (a || b) ≡ true → (a ≡ true) ⊎ (b ≡ true)
either_true true b e = inl refl
either_true false b e = inr e

is_same : (t g : GlobalName) → t ≡ g → (same_bytes t.path g.path && same_bytes t.name g.name) ≡ true
is_same t g e =
    and_true (same_bytes t.path g.path) (same_bytes t.name g.name) (same_true t.path g.path (ap (λ (z : GlobalName). z.path) e))
    (same_true t.name g.name (ap (λ (z : GlobalName). z.name) e))

same_is : (t g : GlobalName) → (same_bytes t.path g.path && same_bytes t.name g.name) ≡ true → t ≡ g
same_is t g e =
    let c = both_true (same_bytes t.path g.path) (same_bytes t.name g.name) e in
    same_global t g ((bytes_decides t.path g.path).0 c.0) ((bytes_decides t.name g.name).0 c.1)

had : (types : List GlobalName) (g : GlobalName) → Contains types g → has_global types g ≡ true
had [] g h = absurd (nothing_in g h)
had (t ∷ ts) g h = elim (first_or_later t ts g h) [
  | inl same ↦ or_left (same_bytes t.path g.path && same_bytes t.name g.name) (has_global ts g) (is_same t g same)
  | inr later ↦ or_right (same_bytes t.path g.path && same_bytes t.name g.name) (has_global ts g) (had ts g later)
]

contains_it : (types : List GlobalName) (g : GlobalName) → has_global types g ≡ true → Contains types g
contains_it [] g e = absurd (true≢false (sym e))
contains_it (t ∷ ts) g e = elim (either_true (same_bytes t.path g.path && same_bytes t.name g.name) (has_global ts g) e) [
  | inl same ↦ subst (Contains (t ∷ ts)) (same_is t g same) (first_in t ts)
  | inr later ↦ later_in t ts g (contains_it ts g later)
]

-- a renamed method, and any other

renamed_is : (types : List GlobalName) (old new : List ℕ) (g : GlobalName) (n : List ℕ) → Contains types g → n ≡ old →
    renamed_methods types old new (line.Method g n) ≡ line.Method g new
renamed_is types old new g n has h =
    chosen_if (has_global types g) (same_bytes n old) (line.Method g new) (line.Method g n) (had types g has) (same_true n old h)

renamed_not : (types : List GlobalName) (old new : List ℕ) (g : GlobalName) (n : List ℕ) → (Contains types g → n ≡ old → ⊥) →
    renamed_methods types old new (line.Method g n) ≡ line.Method g n
renamed_not types old new g n never =
    other_if (has_global types g) (same_bytes n old) (line.Method g new) (line.Method g n)
    (λ a b. never (contains_it types g a) ((bytes_decides n old).0 b))

-- a symbol by its package and rank
same_place : (s t : Symbol) → s.package ≡ t.package → s.rank ≡ t.rank → s ≡ t
same_place s t path rank = ap₂ (λ (q : List ℕ) (n : ℕ). record { «package» = q; rank = n }) path rank

-- the renamed of two is one of the set
one_of_set : (set : List Declaration) (e k : Declaration) → Contains set e → e ≡ k → Contains set k
one_of_set set e k h same = subst (Contains set) same h

-- In the package, the method of this rank has a type of this name.
record IsOwnerIn (p : Package) (rank : ℕ) (name : List ℕ) : Type 0 where
  function : PlacedFunction
  has_rank : slice_get (package_functions p) rank ≡ Some function
  definition : ℕ
  of_type : IsOwner p function definition
  spec : PlacedType
  is_type : slice_get (package_types p) definition ≡ Some spec
  called : spelled p spec.file spec.spec.name ≡ name

-- the type of a method by its name

module _ (w : Workspace) (sound : ListsFaults w []) (before : Verdicts) (right : AreVerdicts w before) (p : Package) (was : IsCheckedPackage w before p) where
  -- what a token names that is bound to the declaration of a type
  record NamesType (file token definition : ℕ) : Type 0 where
    declaration : ℕ
    level : IsPackageLevel p.layout declaration
    counts : Counts p.layout p.names declaration
    declares : DeclaresType p declaration definition
    spelled_so : spelled p file token ≡ p.names declaration

  names_type : (file token declaration definition : ℕ) → BindsToken p file token declaration → DeclaresType p declaration definition →
      NamesType file token definition
  names_type file token declaration definition binds declares =
      let counts = counted p.layout p.names binds.identifier declaration binds.bound in
      let lt = may_within w before p.path p was.is_checked declaration counts.declares.may in
      let level = type_level w sound before right p was declaration definition lt declares in
      record {
        declaration = declaration;
        level = level;
        counts = counts;
        declares = declares;
        spelled_so = level_spelled w before p was file token declaration binds level;
      }

  of_method_named : (rank : ℕ) (f : PlacedFunction) (t : ReceiverTree) → slice_get (package_functions p) rank ≡ Some f → f.function.receiver ≡ Some t →
      (definition : ℕ) → IsMethodOf p definition (spelled p f.file f.function.name) rank f → NamesType f.file t.type_name definition
  of_method_named rank f t at e definition m =
      let same : m.receiver ≡ t = same_Some m.receiver t (sym m.received ∙ e) in
      subst (λ (z : ReceiverTree). NamesType f.file z.type_name definition) same
      (names_type f.file m.receiver.type_name m.declaration definition m.binds m.of_type)

  -- the name where the type is declared
  type_called : (file token definition : ℕ) (n : NamesType file token definition) (spec : PlacedType) → slice_get (package_types p) definition ≡ Some spec →
      spelled p spec.file spec.spec.name ≡ spelled p file token
  type_called file token definition n spec at =
      let item : n.declares.item ≡ spec = same_Some n.declares.item spec (sym n.declares.has_rank ∙ at) in
      let lt = may_within w before p.path p was.is_checked n.declaration n.counts.declares.may in
      own_spelled w before p was spec.file spec.spec.name n.declaration lt
      (subst (λ (z : PlacedType). LiesAt p.layout (type_place z) n.declaration) item n.declares.stands) n.level
      ∙ sym n.spelled_so

  -- two methods of one name with receivers of one type are one
  one_method : (a b : ℕ) (f g : PlacedFunction) (r t : ReceiverTree) → slice_get (package_functions p) a ≡ Some f →
      slice_get (package_functions p) b ≡ Some g → f.function.receiver ≡ Some r → g.function.receiver ≡ Some t →
      spelled p f.file r.type_name ≡ spelled p g.file t.type_name → spelled p f.file f.function.name ≡ spelled p g.file g.function.name → a ≡ b
  one_method a b f g r t has also e k types named = elim (cases_order a b) [
    | inl same ↦ same
    | inr apart ↦ elim apart [
      | inl less ↦ absurd (methods_apart w sound before right p was a b f g less has also r t e k (spelled_so f g r t a b has also types) named)
      | inr more ↦ absurd (methods_apart w sound before right p was b a g f more also has t r k e (spelled_so g f t r b a also has (sym types)) (sym named))
    ]
  ]
    where
      spelled_so : (f g : PlacedFunction) (r t : ReceiverTree) (a b : ℕ) (has : slice_get (package_functions p) a ≡ Some f)
          (also : slice_get (package_functions p) b ≡ Some g) → spelled p f.file r.type_name ≡ spelled p g.file t.type_name →
          spelling_of (in_file_of p a f has).source r.type_name ≡ spelling_of (in_file_of p b g also).source t.type_name
      spelled_so f g r t a b has also same =
          ap (λ o. spelled_at o r.type_name) (sym (in_file_of p a f has).in_file) ∙ same ∙ ap (λ o. spelled_at o t.type_name) (in_file_of p b g also).in_file

  -- In the package, the method of this rank has a type of this name, and a receiver.
  record IsOwnedIn (rank : ℕ) (name : List ℕ) : Type 0 where
    function : PlacedFunction
    has_rank : slice_get (package_functions p) rank ≡ Some function
    receiver : ReceiverTree
    received : function.function.receiver ≡ Some receiver
    named : spelled p function.file receiver.type_name ≡ name

  owned_in : (m : Symbol) (name : List ℕ) → p.path ≡ m.package → IsOwnerCalled w before m name → IsOwnedIn m.rank name
  owned_in m name path own =
      let o : IsOwnerIn p m.rank name = subst (λ (z : Package). IsOwnerIn z m.rank name)
      (one_package w before own.own p own.is_package was (own.of_path ∙ sym path)) (record {
        function = own.function;
        has_rank = own.has_rank;
        definition = own.definition;
        of_type = own.of_type;
        spec = own.spec;
        is_type = own.is_type;
        called = own.called;
      }) in
      let type_of = names_type o.function.file o.of_type.receiver.type_name o.of_type.declaration o.definition o.of_type.binds o.of_type.of_type in
      record {
        function = o.function;
        has_rank = o.has_rank;
        receiver = o.of_type.receiver;
        received = o.of_type.received;
        named = sym (type_called o.function.file o.of_type.receiver.type_name o.definition type_of o.spec o.is_type) ∙ o.called;
      }

  -- a function with a receiver is a method of the type that its receiver names
  owner_called : (rank : ℕ) (f : PlacedFunction) (t : ReceiverTree) → slice_get (package_functions p) rank ≡ Some f → f.function.receiver ≡ Some t →
      IsOwnerCalled w before (symbol_in p rank) (spelled p f.file t.type_name)
  owner_called rank f t at e =
      let m = is_method w sound before right p was rank f at t e in
      let n = of_method_named rank f t at e m.0 m.1 in
      record {
        own = p;
        is_package = was;
        of_path = refl;
        function = f;
        has_rank = at;
        definition = m.0;
        of_type = record {
          receiver = m.1.receiver;
          received = m.1.received;
          declaration = m.1.declaration;
          binds = m.1.binds;
          of_type = m.1.of_type;
        };
        spec = n.declares.item;
        is_type = n.declares.has_rank;
        called = type_called f.file t.type_name m.0 n n.declares.item n.declares.has_rank;
      }

  -- In the package, an interface asks for the member of this rank, in a type of this name.
  record IsAskedIn (rank : ℕ) (name : List ℕ) : Type 0 where
    member : PlacedField
    has_rank : slice_get (package_fields p) rank ≡ Some member
    params : List (Item ParamTree)
    result : ResultTree
    form : member.form ≡ OfSignature params result
    spec : PlacedType
    is_type : slice_get (package_types p) member.definition ≡ Some spec
    called : spelled p spec.file spec.spec.name ≡ name

  asked_here : (q : Package) → q ≡ p → (rank : ℕ) (name : List ℕ) (member : PlacedField) → slice_get (package_fields q) rank ≡ Some member →
      (ps : List (Item ParamTree)) (result : ResultTree) → member.form ≡ OfSignature ps result → (spec : PlacedType) →
      slice_get (package_types q) member.definition ≡ Some spec → spelled q spec.file spec.spec.name ≡ name → IsAskedIn rank name
  asked_here q same rank name member at ps result form spec of called = record {
    member = member;
    has_rank = subst (λ (z : Package). slice_get (package_fields z) rank ≡ Some member) same at;
    params = ps;
    result = result;
    form = form;
    spec = spec;
    is_type = subst (λ (z : Package). slice_get (package_types z) member.definition ≡ Some spec) same of;
    called = subst (λ (z : Package). spelled z spec.file spec.spec.name ≡ name) same called;
  }

  asked_in : (s : Symbol) (name : List ℕ) → p.path ≡ s.package → IsInterfaceCalled w before s name → IsAskedIn s.rank name
  asked_in s name path own =
      asked_here own.own (one_package w before own.own p own.is_package was (own.of_path ∙ sym path)) s.rank name own.member own.has_rank own.params
      own.result own.form own.spec own.is_type own.called

  -- its name in objects, and its interface
  record HasAskedName (rank : ℕ) (name : List ℕ) (x : IsAskedIn rank name) : Type 0 where
    asked_name : FunctionName
    is_asked : IsAskedBy p.path p.files (package_types p) x.member asked_name
    same_spec : is_asked.definition ≡ x.spec
    same_name : asked_name ≡ line.Method (record { path = p.path; name = name }) (spelled p x.member.file x.member.name)

  asked_name_of : (rank : ℕ) (name : List ℕ) (x : IsAskedIn rank name) → HasAskedName rank name x
  asked_name_of rank name x =
      let n = asked_has p rank x.member x.params x.result x.has_rank x.form in
      let is_one = asked_is p rank n.0 x.member n.1 x.has_rank in
      let same : is_one.definition ≡ x.spec = same_Some is_one.definition x.spec (sym is_one.is_definition ∙ x.is_type) in
      record {
        asked_name = n.0;
        is_asked = is_one;
        same_spec = same;
        same_name = is_one.called
            ∙ ap (λ (z : PlacedType). line.Method (record { path = p.path; name = spelled p z.file z.spec.name }) (spelled p x.member.file x.member.name)) same
            ∙ ap (λ z. line.Method (record { path = p.path; name = z }) (spelled p x.member.file x.member.name)) x.called;
      }

  -- two of one name are one
  one_asked : (a b : ℕ) (name : List ℕ) (x : IsAskedIn a name) (y : IsAskedIn b name) →
      spelled p x.member.file x.member.name ≡ spelled p y.member.file y.member.name → a ≡ b
  one_asked a b name x y named =
      let of_x = asked_name_of a name x in
      let of_y = asked_name_of b name y in
      let same : of_y.asked_name ≡ of_x.asked_name =
      of_y.same_name ∙ ap (line.Method (record { path = p.path; name = name })) (sym named) ∙ sym of_x.same_name in
      let y_too : IsAskedBy p.path p.files (package_types p) y.member of_x.asked_name =
      subst (IsAskedBy p.path p.files (package_types p) y.member) same of_y.is_asked in
      elim (cases_order a b) [
        | inl one ↦ one
        | inr apart ↦ elim apart [
          | inl less ↦
              absurd (asked_apart w sound before right p was a b x.member y.member of_x.asked_name less x.has_rank y.has_rank of_x.is_asked y_too)
          | inr more ↦
              absurd (asked_apart w sound before right p was b a y.member x.member of_x.asked_name more y.has_rank x.has_rank y_too of_x.is_asked)
        ]
      ]

  -- no receiver has the type of an interface
  apart_kinds : (a b : ℕ) (name : List ℕ) → IsOwnedIn a name → IsAskedIn b name → ⊥
  apart_kinds a b name o x =
      let n = (asked_name_of b name x).is_asked in
      let i = n.of_interface in
      let same = (asked_name_of b name x).same_spec in
      let body : x.spec.spec.body ≡ Interface i.0 i.1.0 i.1.1.0 i.1.1.1.0 = ap (λ (z : PlacedType). z.spec.body) (sym same) ∙ i.1.1.1.1 in
      receives_no_interface w sound before right p was a o.function o.has_rank o.receiver o.received x.member.definition x.spec x.is_type
      (o.named ∙ sym x.called) i.0 i.1.0 i.1.1.0 i.1.1.1.0 body

module _ (w : Workspace) (before after : Verdicts) (d : Declaration) (called name : List ℕ) (s : FileChanges) (plain : IsPlainRename w before d name s)
    (member : IsMember d) (right : AreVerdicts (edited s w) after) (harmless : IsHarmless w before (revision_of w s))
    (has_name : HasDeclaredName (IsCheckedPackage w before) d called) (types : List GlobalName)
    (are : AreTypesOfMethods w before plain.rename.set types) where
  abbrev sound : ListsFaults w []
  sound = plain.rename.sound

  abbrev old_right : AreVerdicts w before
  old_right = plain.rename.right

  abbrev set : List Declaration
  set = plain.rename.set

  abbrev r : Replaced
  r = of_methods types called name

  names : AreNames r
  names = record { plain = λ g. refl; initial = λ path k. refl }

  abbrev after_of : (p : Package) → IsCheckedPackage w before p → Package
  after_of p was = now w before after d name s plain right harmless p was

  levels : (p : Package) (was : IsCheckedPackage w before p) → LevelsMove r p (after_of p was)
  levels p was u level counts =
      ap (λ n. record { path = p.path; name = n })
      (sym (keeps_levels own_renames others_stay w before d name s plain p (after_of p was) was (here w before after d name s plain right harmless p was).relaid
      (λ m e. absurd (subst IsMember e member)) u level counts))

  -- what is renamed has the old name
  old_name : (e : Declaration) → Contains set e → HasDeclaredName (IsCheckedPackage w before) e called
  old_name e in_set = elim (plain.rename.is_set.others e in_set) [
    | inl same ↦ subst (λ k. HasDeclaredName (IsCheckedPackage w before) k called) (sym same) has_name
    | inr alike ↦ alike.called called has_name
  ]

  module _ (p : Package) (was : IsCheckedPackage w before p) where
    abbrev q : Package
    q = after_of p was

    method_named : (rank : ℕ) (f : PlacedFunction) (m : Symbol) → m.rank ≡ rank → p.path ≡ m.package → Contains set (Method m) →
        slice_get (package_functions p) rank ≡ Some f → spelled p f.file f.function.name ≡ called
    method_named rank f m same path in_set at =
        let has = of_one w before p was m.package path (λ (z : Package). HasMemberName (IsMethodAt z) z m.rank called) (old_name (Method m) in_set) in
        let c = has.is_at.counts in
        let one : c.method ≡ f = same_Some c.method f (sym c.counting.is_method.has_rank ∙ ap (slice_get (package_functions p)) same ∙ at) in
        ap (λ (z : PlacedFunction). spelled p z.file z.function.name) (sym one) ∙ ap (λ (z : Position). spelled p z.file z.index) has.is_at.named_at
        ∙ has.called

    field_named : (rank : ℕ) (f : PlacedField) (m : Symbol) → m.rank ≡ rank → p.path ≡ m.package → Contains set (Field m) →
        slice_get (package_fields p) rank ≡ Some f → spelled p f.file f.name ≡ called
    field_named rank f m same path in_set at =
        let has = of_one w before p was m.package path (λ (z : Package). HasMemberName (IsFieldAt z) z m.rank called) (old_name (Field m) in_set) in
        let c = has.is_at.counts in
        let one : c.field ≡ f = same_Some c.field f (sym c.counting.is_field.has_rank ∙ ap (slice_get (package_fields p)) same ∙ at) in
        ap (λ (z : PlacedField). spelled p z.file z.name) (sym one) ∙ ap (λ (z : Position). spelled p z.file z.index) has.is_at.named_at ∙ has.called

    -- a method of a receiver

    module _ (rank : ℕ) (f : PlacedFunction) (t : ReceiverTree) (at : slice_get (package_functions p) rank ≡ Some f)
        (e : f.function.receiver ≡ Some t) where
      abbrev g : GlobalName
      g = named_at p.path p f.file t.type_name

      abbrev n : List ℕ
      n = spelled p f.file f.function.name

      abbrev own : Declaration
      own = Method (symbol_in p rank)

      receiver_now : g ≡ named_at p.path q f.file t.type_name
      receiver_now =
          receiver_moves w before after sound old_right s p q (here w before after d name s plain right harmless p was) r names (levels p was) rank f t at e

      own_owned : IsOwnedIn w sound before old_right p was rank g.name
      own_owned = record { function = f; has_rank = at; receiver = t; received = e; named = refl }

      -- what is renamed of its type under its name is the method
      by_type : (k : Declaration) → Contains set k → IsTypeOfMethod w before k g → n ≡ called → Contains set own
      by_type (Predeclared i) in_set of named = absurd of
      by_type (Declared path i) in_set of named = absurd of
      by_type (Field m) in_set of named =
          absurd (apart_kinds w sound before old_right p was rank m.rank g.name own_owned (asked_in w sound before old_right p was m g.name of.0 of.1))
      by_type (Method m) in_set of named =
          let o = owned_in w sound before old_right p was m g.name of.0 of.1 in
          let other : spelled p o.function.file o.function.function.name ≡ called = method_named m.rank o.function m refl of.0 in_set o.has_rank in
          let one : m.rank ≡ rank =
          one_method w sound before old_right p was m.rank rank o.function f o.receiver t o.has_rank at o.received e o.named (other ∙ sym named) in
          one_of_set set (Method m) own in_set (ap Method (same_place m (symbol_in p rank) (sym of.0) one))

      method_moves : r.function (line.Method g n) ≡ line.Method (named_at p.path q f.file t.type_name) (spelled q f.file f.function.name)
      method_moves =
          let called_now = method_called w before after d name s plain right harmless p was rank f t at e in
          elim (among_or_not set own tt) [
            | inl in_set ↦
                let type_in : Contains types g =
                (are g).1 (own, (in_set, (refl, owner_called w sound before old_right p was rank f t at e))) in
                renamed_is types called name g n type_in (method_named rank f (symbol_in p rank) refl refl in_set at)
                ∙ ap₂ line.Method receiver_now (sym (renamed_so set name own n (spelled q f.file f.function.name) called_now in_set))
            | inr away ↦
                renamed_not types called name g n (λ has named. let k = (are g).0 has in away (by_type k.0 k.1.0 k.1.1 named))
                ∙ ap₂ line.Method receiver_now (sym (kept_so set name own n (spelled q f.file f.function.name) called_now away))
          ]

    -- a method that an interface asks for

    module _ (rank : ℕ) (f : PlacedField) (ps : List (Item ParamTree)) (result : ResultTree) (t : PlacedType)
        (at : slice_get (package_fields p) rank ≡ Some f) (form : f.form ≡ OfSignature ps result)
        (of_type : slice_get (package_types p) f.definition ≡ Some t) where
      abbrev interface_name : GlobalName
      interface_name = named_at p.path p t.file t.spec.name

      abbrev asked : List ℕ
      asked = spelled p f.file f.name

      abbrev own_field : Declaration
      own_field = Field (symbol_in p rank)

      type_now : interface_name ≡ named_at p.path q t.file t.spec.name
      type_now = type_moves w before after d name s plain right harmless p was r names (levels p was) f.definition t of_type

      own_asked : IsAskedIn w sound before old_right p was rank interface_name.name
      own_asked = record { member = f; has_rank = at; params = ps; result = result; form = form; spec = t; is_type = of_type; called = refl }

      by_interface : (k : Declaration) → Contains set k → IsTypeOfMethod w before k interface_name → asked ≡ called → Contains set own_field
      unfolding own_asked
      by_interface (Predeclared i) in_set of named = absurd of
      by_interface (Declared path i) in_set of named = absurd of
      by_interface (Method m) in_set of named =
          absurd (apart_kinds w sound before old_right p was m.rank rank interface_name.name
          (owned_in w sound before old_right p was m interface_name.name of.0 of.1) own_asked)
      by_interface (Field m) in_set of named =
          let x = asked_in w sound before old_right p was m interface_name.name of.0 of.1 in
          let other : spelled p x.member.file x.member.name ≡ called = field_named m.rank x.member m refl of.0 in_set x.has_rank in
          let one : m.rank ≡ rank = one_asked w sound before old_right p was m.rank rank interface_name.name x own_asked (other ∙ sym named) in
          one_of_set set (Field m) own_field in_set (ap Field (same_place m (symbol_in p rank) (sym of.0) one))

      interface_called : IsInterfaceCalled w before (symbol_in p rank) interface_name.name
      interface_called = record {
        own = p;
        is_package = was;
        of_path = refl;
        member = f;
        has_rank = at;
        params = ps;
        result = result;
        form = form;
        spec = t;
        is_type = of_type;
        called = refl;
      }

      asked_moves : r.function (line.Method interface_name asked) ≡ line.Method (named_at p.path q t.file t.spec.name) (spelled q f.file f.name)
      asked_moves =
          let called_now = asked_called w before after d name s plain right harmless p was rank f at in
          elim (among_or_not set own_field tt) [
            | inl in_set ↦
                let type_in : Contains types interface_name = (are interface_name).1 (own_field, (in_set, (refl, interface_called))) in
                renamed_is types called name interface_name asked type_in (field_named rank f (symbol_in p rank) refl refl in_set at)
                ∙ ap₂ line.Method type_now (sym (renamed_so set name own_field asked (spelled q f.file f.name) called_now in_set))
            | inr away ↦
                renamed_not types called name interface_name asked
                (λ has named. let k = (are interface_name).0 has in away (by_interface k.0 k.1.0 k.1.1 named))
                ∙ ap₂ line.Method type_now (sym (kept_so set name own_field asked (spelled q f.file f.name) called_now away))
          ]

  pub members_replaced : ReplacesNames w before (edited s w) after r
  members_replaced =
      replaced_by w before after d name s plain right harmless r names levels (λ p was rank f t at e. method_moves p was rank f t at e)
      (λ p was rank f ps result t at form of_type. asked_moves p was rank f ps result t at form of_type)

-- A method that is renamed alone

-- the name of its type is one
one_owner_name : (w : Workspace) (before : Verdicts) (sound : ListsFaults w []) (right : AreVerdicts w before) (method : Symbol) (a b : List ℕ) →
    IsOwnerCalled w before method a → IsOwnerCalled w before method b → b ≡ a
one_owner_name w before sound right method a b x y =
    let p = x.own in
    let o = owned_in w sound before right p x.is_package method a x.of_path x in
    let u = owned_in w sound before right p x.is_package method b x.of_path y in
    let same : u.function ≡ o.function = same_Some u.function o.function (sym u.has_rank ∙ o.has_rank) in
    let receivers : u.receiver ≡ o.receiver =
    same_Some u.receiver o.receiver (sym u.received ∙ ap (λ (z : PlacedFunction). z.function.receiver) same ∙ o.received) in
    sym u.named ∙ ap₂ (λ (z : PlacedFunction) (k : ReceiverTree). spelled p z.file k.type_name) same receivers ∙ o.named

module _ (w : Workspace) (before after : Verdicts) (method : Symbol) (called type_named name : List ℕ) (s : FileChanges)
    (plain : IsPlainRename w before (Method method) name s) (right : AreVerdicts (edited s w) after) (harmless : IsHarmless w before (revision_of w s))
    (alone : IsAlone (Method method) plain.rename.set) (has_name : HasDeclaredName (IsCheckedPackage w before) (Method method) called)
    (owner : IsOwnerCalled w before method type_named) where
  abbrev owned_by : GlobalName
  owned_by = record { path = method.package; name = type_named }

  to_type : (g : GlobalName) → Contains (owned_by ∷ []) g → (e : Declaration) × (Contains plain.rename.set e × IsTypeOfMethod w before e g)
  to_type g h =
      let same : owned_by ≡ g = elim (first_or_later owned_by [] g h) [ inl one ↦ one | inr later ↦ absurd (nothing_in g later) ] in
      (Method method, (plain.rename.is_set.has_it, subst (IsTypeOfMethod w before (Method method)) same (refl, owner)))

  from_type : (g : GlobalName) → (e : Declaration) × (Contains plain.rename.set e × IsTypeOfMethod w before e g) → Contains (owned_by ∷ []) g
  from_type g h =
      let of : IsTypeOfMethod w before (Method method) g = subst (λ k. IsTypeOfMethod w before k g) (alone h.0 h.1.0) h.1.1 in
      let named : g.name ≡ type_named =
      one_owner_name w before plain.rename.sound plain.rename.right method type_named g.name owner of.1 in
      subst (Contains (owned_by ∷ [])) (same_global owned_by g (sym of.0) (sym named)) (first_in owned_by [])

  -- the two ways to say what is replaced are one
  same_function : (f : FunctionName) → renamed_methods (owned_by ∷ []) called name f ≡ renamed_method method.package type_named called name f
  same_function (Plain g) = refl
  same_function (Initializer path k) = refl
  same_function (line.Method g n) = elim (cases_Bool (same_bytes g.path method.package && (same_bytes g.name type_named && same_bytes n called))) [
    | inl is_it ↦
        let a = both_true (same_bytes g.path method.package) (same_bytes g.name type_named && same_bytes n called) is_it in
        let b = both_true (same_bytes g.name type_named) (same_bytes n called) a.1 in
        let same : owned_by ≡ g =
        same_global owned_by g (sym ((bytes_decides g.path method.package).0 a.0)) (sym ((bytes_decides g.name type_named).0 b.0)) in
        renamed_is (owned_by ∷ []) called name g n (subst (Contains (owned_by ∷ [])) same (first_in owned_by [])) ((bytes_decides n called).0 b.1)
        ∙ ap (λ (z : Bool). if z then line.Method g name else line.Method g n) (sym is_it)
    | inr other ↦
        renamed_not (owned_by ∷ []) called name g n (λ h named.
        let same : owned_by ≡ g = elim (first_or_later owned_by [] g h) [ inl one ↦ one | inr later ↦ absurd (nothing_in g later) ] in
        true≢false (sym (and_true (same_bytes g.path method.package) (same_bytes g.name type_named && same_bytes n called)
        (same_true g.path method.package (ap (λ (z : GlobalName). z.path) (sym same)))
        (and_true (same_bytes g.name type_named) (same_bytes n called) (same_true g.name type_named (ap (λ (z : GlobalName). z.name) (sym same)))
        (same_true n called named))) ∙ other))
        ∙ ap (λ (z : Bool). if z then line.Method g name else line.Method g n) (sym other)
  ]

  pub methods_replaced : ReplacesNames w before (edited s w) after (of_method method.package type_named called name)
  methods_replaced =
      let made : (FunctionName → FunctionName) → Replaced = λ f. record { global = λ g. g; function = f } in
      subst (ReplacesNames w before (edited s w) after) (ap made (fun_ext same_function))
      (members_replaced w before after (Method method) called name s plain tt right harmless has_name (owned_by ∷ [])
      (λ g. (to_type g, from_type g)))
