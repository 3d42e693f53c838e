-- Identifiers that declare fields and methods stay where those of the new name do.
use Rattle.std.proofs.Common.{ℕ, ◌≡◌, ◌<◌, ◌⊎◌, inl, inr, Bool, false, List, ap, sym, subst, refl, ◌∙◌, arith}
use Rattle.std.specs.Prelude.{◌↔◌, Contains, IsTrue, Option, Some, None, slice_get}
use Rattle.std.proofs.lemmas.Bool.{cases_lt, false≢true}
use Rattle.std.proofs.lemmas.Option.{same_Some}
use Rattle.base_files.specs.declared.place.Place.{Place}
use Rattle.go_scope.specs.declared.model.Position.{Position}
use Rattle.types_expr.specs.declared.symbol.Symbol.{Symbol}
use Rattle.types_expr.specs.declared.world.Definition.{Definition}
use Rattle.types_expr.specs.WorldView.{definition_or_none}
use Rattle.types_declared.specs.Package.{Package, PlacedFunction, symbol_in, spelled, function_place}
use Rattle.types_declared.specs.Definitions.{PlacedField, IsMethodOf}
use Rattle.types_declared.proofs.ByteKeys.{cases_bytes}
use Rattle.types_members.specs.MembersView.{CountsAsField, CountsAsMethod}
use Rattle.types_members.specs.MethodsView.{IsOwner}
use Rattle.types_members.proofs.MethodNames.{one_owner}
use Rattle.workspace_check.proofs.OnePackage.{layout_formed}
use Rattle.refs_binding.specs.declared.declaration.Declaration.{Declaration}
use Rattle.refs_binding.specs.declared.declaration.Declaration.TheVariants.{Predeclared, Declared, Field, Method}
use Rattle.refs_binding.specs.Binding.{DeclaresMember, field_place}
use Rattle.refs_binding.specs.Identifiers.{BeginsAt}
use Rattle.refs_binding.specs.Members.{AreOwnDefinitions}
use Rattle.refs_binding.proofs.NamedPlaces.{stands_once}
use Rattle.refactor_conflict.specs.MembersAfter.{IsFirst, CountsAfter}
use Rattle.refactor_conflict.specs.MembersFound.{IsRankFound}
use Rattle.refactor_conflict.specs.OldPlaces.{field_at, method_at}
use Rattle.refactor_conflict.specs.Conflicts.{Takes, HoldsBefore, IsConflictIn, by_name}
use Rattle.refactor_conflict.specs.Staying.{DeclaringNamesStayIn}
use Rattle.refactor_conflict.specs.declared.conflict.Conflict.{Conflict}
use Rattle.refactor_conflict.proofs.KeepingFirst.{takes_as, holds_as}
use Rattle.law_renamed_workspaces.proofs.RenamedSets.{among_or_not}
use Rattle.refactor_members.specs.Judging.{JudgesIn, IsNamedAt, NewNameCounts, ListedFieldStays, ListedMethodStays, FieldsStayOf, MethodsStayOf, NamesStayOf}
use Rattle.refactor_members.specs.Naming.{HasField, HasMethod, IsFirstOld, IsRenamedField, IsRenamedMethod}
use Rattle.refactor_members.specs.Renames.{EditedRename, KnowsRename, packages_before, rename_revision, renamed_members, workspace_before, verdicts_in}
use Rattle.refactor_members.proofs.Counting.{as_method}
use Rattle.refactor_members.proofs.OldMembers.{AllCount, rank_of_field, rank_of_method, old_field_found, old_method_found}
use Rattle.refactor_members.proofs.Renamed.{one_field, one_method, renamed_field, renamed_method}

-- A name that is lost unless its member counts.
pub lost_unless : (m : EditedRename) (p : Package) (member : Declaration) (a b : Option Conflict) (counts : Bool) → counts ≡ false →
    (KnowsRename m → IsTrue counts ↔ CountsAfter (packages_before m.of) (rename_revision m) member) →
    Takes (λ (c : Conflict). IsNamedAt p member c.used × (c.by ≡ None)) a b → HoldsBefore (λ place. IsNamedAt p member place → ⊥) b →
    JudgesIn m p (NewNameCounts m p member) a b
lost_unless m p member a b counts fails is taken none = λ knows. (
  takes_as (λ (c : Conflict). IsNamedAt p member c.used × (c.by ≡ None)) (IsConflictIn (workspace_before m.of) (verdicts_in m.of) (rename_revision m) p) a b
      (λ c h. record {
        user = h.0.0;
        begins = h.0.1.0;
        turned = by_name member h.0.1.1 (λ k. false≢true (sym fails ∙ (is knows).1 k)) h.1;
      }) taken,
  holds_as (λ place. IsNamedAt p member place → ⊥) (NewNameCounts m p member) b (λ place h at. absurd (h at)) none,
)

module _ (m : EditedRename) (p : Package) where
  abbrev name : List ℕ
  name = m.of.name.now

  -- of a rank that was found

  pub listed_field : (path : List ℕ) → p.path ≡ path → (listed : Option ℕ) (rank : ℕ) → listed ≡ Some rank → (place : Place) →
      NewNameCounts m p (field_at path rank) place → ListedFieldStays m p listed place
  listed_field path of listed rank e place h = λ other f.
      let same : rank ≡ other = same_Some rank other (sym e ∙ f) in
      subst (λ q. NewNameCounts m p (field_at q other) place) (sym of) (subst (λ n. NewNameCounts m p (field_at path n) place) same h)

  pub listed_method : (path : List ℕ) → p.path ≡ path → (listed : Option ℕ) (rank : ℕ) → listed ≡ Some rank → (place : Place) →
      NewNameCounts m p (method_at path rank) place → ListedMethodStays m p listed place
  listed_method path of listed rank e place h = λ other f.
      let same : rank ≡ other = same_Some rank other (sym e ∙ f) in
      subst (λ q. NewNameCounts m p (method_at q other) place) (sym of) (subst (λ n. NewNameCounts m p (method_at path n) place) same h)

  -- A field that is declared somewhere is the first of its name.
  first_field_named : (definition rank : ℕ) → HasField p definition name rank → CountsAsField p rank → (other : ℕ) → other < rank →
      HasField p definition name other → ⊥
  first_field_named definition rank h c other lt g =
      let same : c.field ≡ h.0 = same_Some c.field h.0 (sym c.counting.is_field.has_rank ∙ h.1.has_rank) in
      let of : definition ≡ c.definition = sym h.1.of_struct ∙ ap (λ (f : PlacedField). f.definition) (sym same) ∙ c.counting.is_field.of_struct in
      let called : name ≡ c.name =
      sym h.1.named ∙ ap (λ (f : PlacedField). spelled p f.file f.name) (sym same) ∙ c.counting.is_field.named in
      c.counting.first other g.0 lt (record { has_rank = g.1.has_rank; of_struct = g.1.of_struct ∙ of; named = g.1.named ∙ called })

  -- the rank that was found is this one
  same_rank : (Old : ℕ → Type 0) (n rank : ℕ) → IsFirst Old n → Old rank → ((other : ℕ) → other < rank → Old other → ⊥) → n ≡ rank
  same_rank Old n rank first old none = elim (cases_lt n rank) [
    | inl lt ↦ absurd (none n lt first.has)
    | inr ge ↦ elim (cases_lt rank n) [ inl less ↦ absurd (first.first rank less old) | inr more ↦ omega arith ]
  ]

  old_listed : (Old : ℕ → Type 0) (o : Option ℕ) (rank : ℕ) → IsFirstOld Old o → Old rank → ((other : ℕ) → other < rank → Old other → ⊥) → o ≡ Some rank
  old_listed Old None rank h old none = absurd (h rank old)
  old_listed Old (Some n) rank h old none = ap Some (same_rank Old n rank h old none)

  renamed_listed : (Is : ℕ → Type 0) → ((j k : ℕ) → Is j → Is k → j ≡ k) → (o : Option ℕ) (rank : ℕ) → IsRankFound Is o → Is rank → o ≡ Some rank
  renamed_listed Is one None rank h is = absurd (h rank is)
  renamed_listed Is one (Some n) rank h is = ap Some (one n rank h is)

  module _ (is : packages_before m.of p) (path : List ℕ) (of : p.path ≡ path) (definition : ℕ) where
    -- The names of the new name stay where those of the two ranks do.
    pub fields_stay : (a b : Option ℕ) → IsFirstOld (HasField p definition name) a → IsRankFound (IsRenamedField m.of (record
        { «package» = path; rank = definition })) b → KnowsRename m → (place : Place) → ListedFieldStays m p a place → ListedFieldStays m p b place →
        FieldsStayOf m p definition place
    fields_stay a b old renamed knows place stay also = λ rank named at.
        elim named.named [
          | inl same ↦
              let s : Symbol = record { «package» = path; rank = definition } in
              also rank (renamed_listed (IsRenamedField m.of s) (one_field m knows p is path of definition) b rank renamed
              (renamed_field m knows p is path of definition rank (record { field = named.field; has_rank = named.has_rank; of_struct = named.of_struct })
              same)) at
          | inr said ↦
              let has : HasField p definition name rank =
              (named.field, record { has_rank = named.has_rank; of_struct = named.of_struct; named = said }) in
              stay rank (old_listed (HasField p definition name) a rank old has (first_field_named definition rank has at.1.1.1.is_at.counts)) at
        ]

  module _ (is : packages_before m.of p) where
    owned : (rank : ℕ) (f : PlacedFunction) (definition : ℕ) (n : List ℕ) → IsMethodOf p definition n rank f → IsOwner p f definition
    owned rank f definition n h =
        record { receiver = h.receiver; received = h.received; declaration = h.declaration; binds = h.binds; of_type = h.of_type }

    first_method_named : (definition rank : ℕ) → HasMethod p definition name rank → CountsAsMethod p rank → (other : ℕ) → other < rank →
        HasMethod p definition name other → ⊥
    first_method_named definition rank h c other lt g =
        let same : c.method ≡ h.0 = same_Some c.method h.0 (sym c.counting.is_method.has_rank ∙ h.1.has_rank) in
        let d : definition ≡ c.definition =
        one_owner p (layout_formed (workspace_before m.of) (verdicts_in m.of) p.path p is.is_checked) rank c.definition definition c.name name c.method h.0
        c.counting.is_method h.1 in
        let called : name ≡ c.name =
        sym h.1.named ∙ ap (λ (f : PlacedFunction). spelled p f.file f.function.name) (sym same) ∙ c.counting.is_method.named in
        c.counting.first other g.0 lt (subst (λ n. IsMethodOf p c.definition n other g.0) called (subst (λ x. IsMethodOf p x name other g.0) d g.1))

    pub methods_stay : (path : List ℕ) → p.path ≡ path → (definition : ℕ) (a b : Option ℕ) → IsFirstOld (HasMethod p definition name) a →
        IsRankFound (IsRenamedMethod m.of (record { «package» = path; rank = definition })) b → KnowsRename m → (place : Place) →
        ListedMethodStays m p a place → ListedMethodStays m p b place → MethodsStayOf m p definition place
    methods_stay path of definition a b old renamed knows place stay also = λ rank named at.
        elim named.named [
          | inl same ↦
              let s : Symbol = record { «package» = path; rank = definition } in
              also rank (renamed_listed (IsRenamedMethod m.of s) (one_method m knows p is path of definition) b rank renamed
              (renamed_method m knows p is path of definition rank (record { method = named.method; has_rank = named.has_rank; of_type = named.of_type })
              same)) at
          | inr said ↦
              let t = named.of_type in
              let has : HasMethod p definition name rank = (
                named.method,
                record {
                  has_rank = named.has_rank;
                  receiver = t.receiver;
                  received = t.received;
                  declaration = t.declaration;
                  binds = t.binds;
                  of_type = t.of_type;
                  named = said;
                },
              ) in
              stay rank (old_listed (HasMethod p definition name) a rank old has (first_method_named definition rank has at.1.1.1.is_at.counts)) at
        ]

  -- Beyond the definitions that the package has there are no members.
  module _ (all : AllCount p) (own : List Definition) (are : AreOwnDefinitions p own) (definition : ℕ) (past : slice_get own definition ≡ None) where
    pub no_fields_past : (place : Place) → FieldsStayOf m p definition place
    no_fields_past place = λ rank named at.
        let called : List ℕ = spelled p named.field.file named.field.name in
        let none : IsFirstOld (HasField p definition called) None =
        subst (λ o. IsFirstOld (HasField p definition called) (rank_of_field (definition_or_none (symbol_in p definition) o) called)) past
        (old_field_found p all called definition own are) in
        absurd (none rank (named.field, record { has_rank = named.has_rank; of_struct = named.of_struct; named = refl }))

    pub no_methods_past : (place : Place) → MethodsStayOf m p definition place
    no_methods_past place = λ rank named at.
        let called : List ℕ = spelled p named.method.file named.method.function.name in
        let none : IsFirstOld (HasMethod p definition called) None =
        subst (λ o. IsFirstOld (HasMethod p definition called) (rank_of_method (definition_or_none (symbol_in p definition) o) called)) past
        (old_method_found p all called definition own are) in
        absurd (none rank (named.method, as_method p rank definition named.method named.has_rank named.of_type))

-- All names stay where those of the new name do.
module _ (m : EditedRename) (knows : KnowsRename m) (p : Package) (is : packages_before m.of p) (place : Place)
    (stay : (definition : ℕ) → NamesStayOf m p definition place) where
  abbrev counts : Declaration → Type 0
  counts d = CountsAfter (packages_before m.of) (rename_revision m) d

  not_there : (u : ℕ) (at : Position) → at ≡ p.layout.place u → (spelled p at.file at.index ≡ m.of.name.now → ⊥) →
      spelled p (p.layout.place u).file (p.layout.place u).index ≡ m.of.name.now → ⊥
  not_there u at e not = subst (λ (x : Position). spelled p x.file x.index ≡ m.of.name.now → ⊥) e not

  by_field : (u : ℕ) → BeginsAt p place.path place.offset u → (s : Symbol) → DeclaresMember p u (Field s) → counts (Field s)
  by_field u begins s h =
      let n = h.1 in
      let c = n.is_at.counts in
      let f = c.counting.is_field in
      let same : symbol_in p s.rank ≡ s = ap (λ (q : List ℕ). record { «package» = q; rank = s.rank }) (sym h.0) in
      let named : IsNamedAt p (field_at p.path s.rank) place = (u, (begins, (refl, n))) in
      let told : Contains (renamed_members m.of) (Field (symbol_in p s.rank)) ⊎
      (spelled p c.field.file c.field.name ≡ m.of.name.now) → counts (Field s) = λ choice.
      subst counts (ap Field same) ((stay c.definition).0 s.rank (record {
        field = c.field;
        has_rank = f.has_rank;
        of_struct = f.of_struct;
        named = choice;
      }) named) in
      elim (among_or_not (renamed_members m.of) (Field s) tt) [
        | inl e ↦ told (inl (subst (Contains (renamed_members m.of)) (sym (ap Field same)) e))
        | inr other ↦ elim (cases_bytes (spelled p c.field.file c.field.name) m.of.name.now) [
          | inl e ↦ told (inr e)
          | inr not ↦ knows.renames.declared p is u place begins (Field s) h other
              (not_there u (field_place c.field) (n.is_at.named_at ∙ stands_once p u n.at n.stands) not)
        ]
      ]

  by_method : (u : ℕ) → BeginsAt p place.path place.offset u → (s : Symbol) → DeclaresMember p u (Method s) → counts (Method s)
  by_method u begins s h =
      let n = h.1 in
      let c = n.is_at.counts in
      let f = c.counting.is_method in
      let same : symbol_in p s.rank ≡ s = ap (λ (q : List ℕ). record { «package» = q; rank = s.rank }) (sym h.0) in
      let named : IsNamedAt p (method_at p.path s.rank) place = (u, (begins, (refl, n))) in
      let told : Contains (renamed_members m.of) (Method (symbol_in p s.rank)) ⊎
      (spelled p c.method.file c.method.function.name ≡ m.of.name.now) → counts (Method s) = λ choice.
      subst counts (ap Method same) ((stay c.definition).1 s.rank (record {
        method = c.method;
        has_rank = f.has_rank;
        of_type = record { receiver = f.receiver; received = f.received; declaration = f.declaration; binds = f.binds; of_type = f.of_type };
        named = choice;
      }) named) in
      elim (among_or_not (renamed_members m.of) (Method s) tt) [
        | inl e ↦ told (inl (subst (Contains (renamed_members m.of)) (sym (ap Method same)) e))
        | inr other ↦ elim (cases_bytes (spelled p c.method.file c.method.function.name) m.of.name.now) [
          | inl e ↦ told (inr e)
          | inr not ↦ knows.renames.declared p is u place begins (Method s) h other
              (not_there u (function_place c.method) (n.is_at.named_at ∙ stands_once p u n.at n.stands) not)
        ]
      ]

  pub names_stay : DeclaringNamesStayIn (workspace_before m.of) (verdicts_in m.of) (rename_revision m) p place
  names_stay = λ u begins d declares. by_kind u begins d declares
    where
      by_kind : (u : ℕ) → BeginsAt p place.path place.offset u → (d : Declaration) → DeclaresMember p u d → counts d
      by_kind u begins (Predeclared n) h = absurd h
      by_kind u begins (Declared path n) h = absurd h
      by_kind u begins (Field s) h = by_field u begins s h
      by_kind u begins (Method s) h = by_method u begins s h
