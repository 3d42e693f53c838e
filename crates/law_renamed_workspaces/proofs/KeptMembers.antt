-- Members of a name that no other member gets in a change of names: those of them that keep it count as before, and are selected as before.
use Rattle.std.proofs.Common.{ℕ, ◌≡◌, inl, inr, ◌||◌, Bool, true, false, List, [], if◌then◌else◌, ap, sym, subst, refl, ◌∙◌}
use Rattle.std.specs.Prelude.{Option, Some, None, slice_get}
use Rattle.std.proofs.Math.Path.{fun_ext}
use Rattle.std.proofs.lemmas.Bool.{true≢false}
use Rattle.std.proofs.lemmas.Option.{none-some, same_Some}
use Rattle.base_files.specs.Workspace.{Workspace}
use Rattle.base_files.specs.declared.fault_kind.FaultKind.TheVariants as kind
use Rattle.base_files.specs.declared.place.Place.{Place}
use Rattle.base_edits.specs.Revisions.{Revision}
use Rattle.go_ast.specs.SourceFile.{spelling_of}
use Rattle.types_expr.specs.declared.symbol.Symbol.{Symbol}
use Rattle.types_expr.specs.Types.{PlainType, BasicType, Defined, Pointer, Slice, Underlying, Plain, PointerTo, SliceOf, same_path, underlying_by}
use Rattle.types_expr.specs.Types.{Struct as StructOf, Interface as InterfaceOf}
use Rattle.types_expr.specs.World.{Definition, Field as StructField, Method as TypeMethod, Member, struct_of, struct_or_target}
use Rattle.types_expr.specs.World.{field_owner, owner, is_seen, seen_field, field_of, method_of, member_by}
use Rattle.types_declared.proofs.ByteKeys.{cases_bytes}
use Rattle.types_declared.specs.declared.fault.Fault.{Fault}
use Rattle.types_declared.specs.Laid.{is_exported}
use Rattle.types_declared.specs.Package.{Package, PlacedType, PlacedFunction, package_types, symbol_in, spelled, spelled_at}
use Rattle.types_declared.specs.Definitions.{PlacedField, IsFieldOf, IsCountingField, IsMethodOf, IsCountingMethod, HasFieldNamed, of_own, of_imported}
use Rattle.types_declared.specs.Definitions.{HasUnderlying, IsFoundField, IsFoundMethod, IsDefinition, AreDefinitions}
use Rattle.types_info.proofs.WorldParts.{is_other}
use Rattle.types_members.specs.MemberFaults.{IsMemberFault}
use Rattle.workspace_check.specs.FaultLists.{ListsFaults}
use Rattle.workspace_check.specs.Verdicts.{Verdicts, AreVerdicts}
use Rattle.refs_binding.specs.declared.declaration.Declaration.{Declaration}
use Rattle.refs_binding.specs.declared.declaration.Declaration.TheVariants.{Predeclared, Declared, Field, Method}
use Rattle.refs_binding.specs.Binding.{BindsByMember, DeclaresMember, declaration_of}
use Rattle.refs_binding.specs.Uses.{IsCheckedPackage}
use Rattle.refs_binding.proofs.Units.{one_package}
use Rattle.refs_lookup.proofs.Faultless.{no_fault_later}
use Rattle.refactor_conflict.specs.NamesAfter.{IsFieldAfter, IsMethodAfter}
use Rattle.refactor_conflict.specs.MembersAfter.{IsFirstField, IsFirstMethod, HasFieldAfter, IsFieldOfStruct, IsMethodOfOwner, IsMemberAfter, CountsAfter}
use Rattle.refactor_conflict.specs.BoundAfter.{IsBoundByMember}
use Rattle.law_faultless.proofs.MembersWritten.{field_is_written}
use Rattle.law_renamed_workspaces.proofs.SeenDefinitions.{definition_at}
use Rattle.law_renamed_workspaces.specs.NamesAfterwards.{spelled_there}
use Rattle.law_renamed_workspaces.specs.Reaching.{ReachesPath}
use Rattle.law_renamed_workspaces.proofs.SeenStructs.{IsHome, IsHomeUnder, struct_reached, definition_seen}
use Rattle.law_renamed_workspaces.proofs.UsersReach.{FirstIs, a_field, no_field, first_is, field_there, method_there, owner_reached, struct_reached_by}
use Rattle.law_renamed_workspaces.proofs.SeenStructs.{field_found, world_home, world_definition}

only_exported : (b c : Bool) → (b || c) ≡ true → c ≡ false → b ≡ true
only_exported true c e f = refl
only_exported false c e f = absurd (true≢false (sym e ∙ f))

owner_home : (w : Workspace) (path : List ℕ) (t : PlainType) (s : Symbol) → owner t ≡ Some s → ReachesPath w path s.package → IsHome w path t
unfolding owner
owner_home w path (BasicType b) s e h = tt
owner_home w path (Defined d) s e h = subst (λ (z : Symbol). ReachesPath w path z.package) (sym (same_Some d s e)) h
owner_home w path (Pointer (Defined d)) s e h = subst (λ (z : Symbol). ReachesPath w path z.package) (sym (same_Some d s e)) h
owner_home w path (Pointer (BasicType b)) s e h = tt
owner_home w path (Pointer (Pointer t)) s e h = absurd (none-some s e)
owner_home w path (Pointer (Slice t)) s e h = absurd (none-some s e)
owner_home w path (Slice t) s e h = absurd (none-some s e)

-- The package at the path `q` is reached, and its members of the name `m` are seen in the package at the path `p`.
abbrev pub ShowsName : Workspace → (m : List ℕ) → (p q : List ℕ) → Type 0
ShowsName w m p q = ReachesPath w p q × ((is_exported m || same_path p q) ≡ true)

module _ (w : Workspace) (sound : ListsFaults w []) (known : Verdicts) (right : AreVerdicts w known) (r : Revision) (m : List ℕ)
    (Among : List ℕ → Type 0) (closed : (p q : List ℕ) → Among p → ShowsName w m p q → Among q) where
  abbrev Known : Package → Type 0
  Known = IsCheckedPackage w known

  -- In the packages at these paths, what has the name after the change had it before. With a package its paths hold those that it reaches,
  -- if it sees the name there.
  pub record NoneGets : Type 0 where
    pub fields : (y : Package) → Known y → Among y.path → (d rank : ℕ) → IsFieldAfter r y d m rank → (f : PlacedField) × IsFieldOf y d m rank f
    pub methods : (y : Package) → Known y → Among y.path → (d rank : ℕ) → IsMethodAfter r y d m rank → (f : PlacedFunction) × IsMethodOf y d m rank f

  -- The member keeps the name.
  abbrev pub IsKept : Declaration → Type 0
  IsKept (Predeclared n) = ⊥
  IsKept (Declared path n) = ⊥
  IsKept (Field s) = (y : Package) → Known y → Among y.path → s.package ≡ y.path → (d : ℕ) (f : PlacedField) → IsFieldOf y d m s.rank f →
      IsFieldAfter r y d m s.rank
  IsKept (Method s) = (y : Package) → Known y → Among y.path → s.package ≡ y.path → (d : ℕ) (f : PlacedFunction) → IsMethodOf y d m s.rank f →
      IsMethodAfter r y d m s.rank

  module _ (none : NoneGets) where
    first_field : (x : Package) → Known x → Among x.path → (d rank : ℕ) (f : PlacedField) → IsCountingField x d m rank f → IsFieldAfter r x d m rank →
        IsFirstField r x d m rank
    first_field x is among d rank f counting now = record {
      has = now;
      first = λ other lt a. let g = none.fields x is among d other a in counting.first other g.0 lt g.1;
    }

    -- each field counts
    counts : (y : Package) → Known y → (d rank : ℕ) (f : PlacedField) → IsFieldOf y d m rank f → (IsCountingField y d m rank f → ⊥) → ⊥
    counts y also d rank f own displaced =
        let repeated : Fault = record { file = f.file; token = f.name; kind = kind.Repeated } in
        let k : IsMemberFault y repeated =
        inl (record { definition = d; name = m; rank = rank; field = f; is_field = own; displaced = displaced; at = refl }) in
        no_fault_later w sound known right y also repeated ((inr ((λ g inner. no_fault_later w sound known right y also g (inl inner)), inl k)))

    type_of_field : (y : Package) (d rank : ℕ) (f : PlacedField) → IsFieldOf y d m rank f → (t : PlacedType) × (slice_get (package_types y) d ≡ Some t)
    type_of_field y d rank f own =
        let x = field_is_written y rank f own.has_rank in
        (x.definition, subst (λ n. slice_get (package_types y) n ≡ Some x.definition) own.of_struct x.has_rank)

    module _ (x : Package) (is : Known x) (among : Among x.path) where
      -- a field that values have afterwards they had before
      had_field : (d : ℕ) → HasFieldAfter Known r x d m → (HasFieldNamed x d m → ⊥) → ⊥
      had_field d h none_named = elim (cases_bytes st.package x.path) [
        | inl own ↦
            (let one : y ≡ x = one_package w known y x also is (path ∙ own) in
            let here : st ≡ symbol_in x st.rank = ap (λ q. record { «package» = q; rank = st.rank }) own in
            none_named (of_own {rank = st.rank} {field = h.rank} {f = f.0}
            (subst (λ (z : Symbol). HasUnderlying x (Defined (symbol_in x d)) (StructOf z)) here h.underlying)
            (subst (λ (z : Package). IsFieldOf z st.rank m h.rank f.0) one f.1)))
        | inr other ↦ elim reach [
          | inl same ↦ other same
          | inr on ↦
              (let away : same_path x.path st.package ≡ false =
              is_other x.path st.package (λ e. other (sym e)) (same_path x.path st.package) refl in
              let exported : is_exported m ≡ true = only_exported (is_exported m) (same_path x.path st.package) h.has.seen away in
              let t = type_of_field y st.rank h.rank f.0 f.1 in
              counts y also st.rank h.rank f.0 f.1
              (λ counting. field_found w sound known right y also st.rank ((x.export_data_of st.package).definition st.rank)
              (definition_seen w sound known right x is st.package on y also path st.rank t.0 t.1) m h.rank f.0 counting
              (λ g e ex home. none_named (of_imported {path = st.package} {rank = st.rank} {f = g} h.underlying other e (ex ∙ exported)))))
        ]
      ]
        where
          st : Symbol
          st = h.struct

          y : Package
          y = h.has.has.inside

          also : Known y
          also = h.has.has.is_package

          path : y.path ≡ st.package
          path = h.has.has.of_path

          reach : ReachesPath w x.path st.package
          reach = struct_reached w sound known right x is d st h.underlying

          inside : Among y.path
          inside = subst Among (sym path) (closed x.path st.package among (reach, h.has.seen))

          f : (f : PlacedField) × IsFieldOf y st.rank m h.rank f
          f = none.fields y also inside st.rank h.rank h.has.has.holds.has

      first_method : (d rank : ℕ) (f : PlacedFunction) → IsCountingMethod x d m rank f → IsMethodAfter r x d m rank → IsFirstMethod Known r x d m rank
      first_method d rank f counting now = record {
        no_field = λ h. had_field d h counting.no_field;
        has = record { has = now; first = λ other lt a. let g = none.methods x is among d other a in counting.first other g.0 lt g.1 };
      }

    module _ (x : Package) (is : Known x) (among : Among x.path) (definitions : Symbol → Definition) (are : AreDefinitions x definitions) where
      under : Symbol → Underlying
      under s = (definitions s).underlying

      -- a field that was selected is selected
      field_selected : (st : Symbol) (f : StructField) → (definitions st).field m ≡ Some f → is_seen x.path f.symbol f.exported ≡ true →
          IsKept (Field f.symbol) → IsFieldOfStruct Known r x.path m (Some st) f.symbol
      field_selected st f e visible kept = elim (definition_at w known right x is definitions are st) [
        | inl i ↦
            (let k = subst (IsFoundField i.inside st.rank m) e (i.is_definition.fields m) in
            let home : f.symbol.package ≡ i.inside.path = ap (λ (y : Symbol). y.package) k.1.2 in
            let package_is : f.symbol.package ≡ st.package = home ∙ i.of_path in
            let reach : ReachesPath w x.path st.package = struct_reached_by w sound known right x is definitions are m st f e in
            let seen_there : is_seen x.path st (is_exported m) ≡ true = subst (λ b. is_seen x.path st b ≡ true) k.1.3
            (subst (λ (q : List ℕ). is_seen x.path (record { «package» = q; rank = st.rank }) f.exported ≡ true) package_is visible) in
            let inside : Among i.inside.path = subst Among (sym i.of_path) (closed x.path st.package among (reach, seen_there)) in
            record {
              of_struct = st;
              is_struct = refl;
              of_package = package_is;
              has = record {
                seen = seen_there;
                has = record {
                  inside = i.inside;
                  is_package = i.is_package;
                  of_path = i.of_path;
                  holds =
                      first_field i.inside i.is_package inside st.rank f.symbol.rank k.0 k.1.0
                      (kept i.inside i.is_package inside home st.rank k.0 k.1.0.is_field);
                };
              };
            })
        | inr nothing ↦ absurd (none-some f (sym (ap (λ (d : Definition). d.field m) nothing) ∙ e))
      ]

      -- so is a method
      method_selected : (s : Symbol) (f : TypeMethod) → (definitions s).method m ≡ Some f → is_seen x.path f.symbol f.exported ≡ true →
          IsKept (Method f.symbol) → IsMethodOfOwner Known r x.path m (Some s) f.symbol
      method_selected s f e visible kept = elim (definition_at w known right x is definitions are s) [
        | inl i ↦
            (let k = subst (IsFoundMethod i.inside s.rank m) e (i.is_definition.methods m) in
            let home : f.symbol.package ≡ i.inside.path = ap (λ (y : Symbol). y.package) k.4 in
            let package_is : f.symbol.package ≡ s.package = home ∙ i.of_path in
            let reach : ReachesPath w x.path s.package = owner_reached w sound known right x is definitions are m s f e in
            let seen_there : is_seen x.path s (is_exported m) ≡ true = subst (λ b. is_seen x.path s b ≡ true) k.5
            (subst (λ (q : List ℕ). is_seen x.path (record { «package» = q; rank = s.rank }) f.exported ≡ true) package_is visible) in
            let inside : Among i.inside.path = subst Among (sym i.of_path) (closed x.path s.package among (reach, seen_there)) in
            record {
              of_type = s;
              is_owner = refl;
              of_package = package_is;
              has = record {
                seen = seen_there;
                has = record {
                  inside = i.inside;
                  is_package = i.is_package;
                  of_path = i.of_path;
                  holds =
                      first_method i.inside i.is_package inside s.rank f.symbol.rank k.0 k.1
                      (kept i.inside i.is_package inside home s.rank k.0 k.1.is_method);
                };
              };
            })
        | inr nothing ↦ absurd (none-some f (sym (ap (λ (d : Definition). d.method m) nothing) ∙ e))
      ]

      under_of : (t : PlainType) → IsHome w x.path t → IsHomeUnder w x.path (underlying_by under t)
      unfolding under
      under_of (BasicType b) h = tt
      under_of (Defined s) h = world_home w sound known right x is definitions are s h
      under_of (Pointer t) h = h
      under_of (Slice t) h = h

      struct_home : (u : Underlying) (st : Symbol) → IsHomeUnder w x.path u → struct_of u ≡ Some st → ReachesPath w x.path st.package
      struct_home (Plain b) st h e = absurd (none-some st e)
      struct_home (PointerTo t) st h e = absurd (none-some st e)
      struct_home (SliceOf t) st h e = absurd (none-some st e)
      struct_home (InterfaceOf s) st h e = absurd (none-some st e)
      struct_home (StructOf s) st h e = subst (λ (z : Symbol). ReachesPath w x.path z.package) (same_Some s st e) h

      target_home : (u : Underlying) (st : Symbol) → IsHomeUnder w x.path u → struct_or_target under u ≡ Some st → ReachesPath w x.path st.package
      target_home (Plain b) st h e = absurd (none-some st e)
      target_home (PointerTo t) st h e = struct_home (underlying_by under t) st (under_of t h) e
      target_home (SliceOf t) st h e = absurd (none-some st e)
      target_home (InterfaceOf s) st h e = subst (λ (z : Symbol). ReachesPath w x.path z.package) (same_Some s st e) h
      target_home (StructOf s) st h e = subst (λ (z : Symbol). ReachesPath w x.path z.package) (same_Some s st e) h

      owned_struct : (t : PlainType) (st : Symbol) → IsHome w x.path t → field_owner under t ≡ Some st → ReachesPath w x.path st.package
      unfolding field_owner
      owned_struct t st h e = target_home (underlying_by under t) st (under_of t h) e

      -- where no field is selected, none is selected afterwards
      none_selected : (st : Symbol) → ReachesPath w x.path st.package → field_of definitions x.path m (Some st) ≡ None → (f : Symbol) →
          IsFieldOfStruct Known r x.path m (Some st) f → ⊥
      none_selected st reach e f h =
          let same : st ≡ h.of_struct = same_Some st h.of_struct h.is_struct in
          let y = h.has.has.inside in
          let also = h.has.has.is_package in
          let path : y.path ≡ st.package = h.has.has.of_path ∙ ap (λ (z : Symbol). z.package) (sym same) in
          let ranks : h.of_struct.rank ≡ st.rank = ap (λ (z : Symbol). z.rank) (sym same) in
          let now : IsFieldAfter r y st.rank m f.rank = subst (λ n. IsFieldAfter r y n m f.rank) ranks h.has.has.holds.has in
          let visible : is_seen x.path st (is_exported m) ≡ true = subst (λ (z : Symbol). is_seen x.path z (is_exported m) ≡ true) (sym same) h.has.seen in
          let inside : Among y.path = subst Among (sym path) (closed x.path st.package among (reach, visible)) in
          let g = none.fields y also inside st.rank f.rank now in
          let t = type_of_field y st.rank f.rank g.0 g.1 in
          let at : symbol_in y st.rank ≡ st = ap (λ q. record { «package» = q; rank = st.rank }) path in
          let is_definition : IsDefinition y st.rank (definitions st) =
          subst (λ (z : Symbol). IsDefinition y st.rank (definitions z)) at
          (world_definition w sound known right x is definitions are y also (subst (ReachesPath w x.path) (sym path) reach) st.rank t.0 t.1) in
          counts y also st.rank f.rank g.0 g.1
          (λ counting. field_found w sound known right y also st.rank (definitions st) is_definition m f.rank g.0 counting
          (λ k there exported home.
          let by_package : is_seen x.path k.symbol (is_exported m) ≡ true =
          subst (λ (q : List ℕ). is_seen x.path (record { «package» = q; rank = k.symbol.rank }) (is_exported m) ≡ true) (sym (home ∙ path)) visible in
          let seen_one : is_seen x.path k.symbol k.exported ≡ true = subst (λ b. is_seen x.path k.symbol b ≡ true) (sym exported) by_package in
          none-some k (sym e ∙ ap (seen_field x.path) there ∙ ap (λ b. if b then Some k else None) seen_one)))

      by_owner : (o : Option Symbol) → ((st : Symbol) → o ≡ Some st → ReachesPath w x.path st.package) → field_of definitions x.path m o ≡ None →
          (f : Symbol) → IsFieldOfStruct Known r x.path m o f → ⊥
      by_owner None reach e f h = none-some h.of_struct h.is_struct
      by_owner (Some st) reach e f h = none_selected st (reach st refl) e f h

      field_by : (o : Option Symbol) (f : StructField) → field_of definitions x.path m o ≡ Some f → IsKept (Field f.symbol) →
          IsFieldOfStruct Known r x.path m o f.symbol
      field_by None f e kept = absurd (none-some f e)
      field_by (Some st) f e kept = let k = field_there x.path ((definitions st).field m) f e in field_selected st f k.0 k.1 kept

      -- the owner's method
      record IsOwned (o : Option Symbol) (f : TypeMethod) : Type 0 where
        of : Symbol
        owns : o ≡ Some of
        has : (definitions of).method m ≡ Some f
        visible : is_seen x.path f.symbol f.exported ≡ true

      owned : (o : Option Symbol) (f : TypeMethod) → method_of definitions x.path m o ≡ Some f → IsOwned o f
      owned None f e = absurd (none-some f e)
      owned (Some s) f e =
          let k = method_there x.path ((definitions s).method m) f e in record { of = s; owns = refl; has = k.0; visible = k.1 }

      by_kind : (t : PlainType) (e : Declaration) (found : Member) → declaration_of found ≡ e → IsKept e →
          FirstIs (field_of definitions x.path m (field_owner under t)) (method_of definitions x.path m (owner t)) found →
          IsMemberAfter Known r x.path m under t e
      by_kind t e found is_one kept (a_field f has of) =
          let same : Field f.symbol ≡ e = sym of ∙ is_one in
          subst (IsMemberAfter Known r x.path m under t) same (field_by (field_owner under t) f has (subst IsKept (sym same) kept))
      by_kind t e found is_one kept (no_field f nothing has of) =
          let same : Method f.symbol ≡ e = sym of ∙ is_one in
          let o = owned (owner t) f has in
          let home = owner_home w x.path t o.of o.owns (owner_reached w sound known right x is definitions are m o.of f o.has) in
          subst (IsMemberAfter Known r x.path m under t) same (
            by_owner (field_owner under t) (λ st k. owned_struct t st home k) nothing,
            subst (λ k. IsMethodOfOwner Known r x.path m k f.symbol) (sym o.owns) (method_selected o.of f o.has o.visible (subst IsKept (sym same) kept)),
          )

      pub selects : (t : PlainType) (e : Declaration) (found : Member) → member_by definitions x.path m t ≡ Some found → declaration_of found ≡ e → IsKept e →
          IsMemberAfter Known r x.path m (λ y. (definitions y).underlying) t e
      unfolding member_by under
      selects t e found has is_one kept =
          by_kind t e found is_one kept
          (first_is (field_of definitions x.path m (field_owner under t)) (method_of definitions x.path m (owner t)) found has)

    module _ (x : Package) (is : Known x) (among : Among x.path) (u : ℕ) (place : Place) where
      -- A use of such a member stays bound, where its name is kept.
      pub use_stays : (e : Declaration) (was : BindsByMember x u e) → IsKept e → spelled_there x u ≡ m → r.called place (spelled_there x u) ≡ m →
          IsBoundByMember Known r place x u e was e
      use_stays e was kept named called =
          let j = was.judged in
          let v = j.judged_by in
          let at = x.layout.place u in
          let here : spelling_of j.source at.index ≡ m = sym (ap (λ o. spelled_at o at.index) j.in_file) ∙ named in
          let member : member_by v.definitions x.path m was.found.before ≡ Some was.member =
          subst (λ k. member_by v.definitions x.path k was.found.before ≡ Some was.member) here (sym (v.member at.index was.found.before) ∙ was.is_member) in
          let same : (λ y. (v.definitions y).underlying) ≡ j.world.definition = fun_ext (λ y. sym (v.definition y)) in
          subst (λ k. IsMemberAfter Known r x.path k j.world.definition was.found.before e) (sym called)
          (subst (λ g. IsMemberAfter Known r x.path m g was.found.before e) same
          (selects x is among v.definitions v.are_definitions was.found.before e was.member member was.declares kept))

      -- A declared member that keeps its name counts.
      pub name_stays : (e : Declaration) → DeclaresMember x u e → IsKept e → spelled_there x u ≡ m → CountsAfter Known r e
      name_stays (Predeclared n) b kept named = absurd b
      name_stays (Declared path n) b kept named = absurd b
      name_stays (Field s) b kept named =
          let c = b.1.is_at.counts in
          let at = b.1.is_at.named_at in
          let file : (x.layout.place u).file ≡ c.field.file = b.1.stands.1 ∙ ap (λ p. p.file) (sym at) in
          let index : (x.layout.place u).index ≡ c.field.name = b.1.stands.2 ∙ ap (λ p. p.index) (sym at) in
          let called : c.name ≡ m =
          sym c.counting.is_field.named ∙ ap (λ n. spelled x n c.field.name) (sym file)
          ∙ ap (λ n. spelled x (x.layout.place u).file n) (sym index) ∙ named in
          let counting : IsCountingField x c.definition m s.rank c.field =
          subst (λ k. IsCountingField x c.definition k s.rank c.field) called c.counting in
          record {
            inside = x;
            is_package = is;
            of_path = sym b.0;
            holds = record {
              definition = c.definition;
              name = m;
              first = first_field x is among c.definition s.rank c.field counting (kept x is among b.0 c.definition c.field counting.is_field);
            };
          }
      name_stays (Method s) b kept named =
          let c = b.1.is_at.counts in
          let at = b.1.is_at.named_at in
          let file : (x.layout.place u).file ≡ c.method.file = b.1.stands.1 ∙ ap (λ p. p.file) (sym at) in
          let index : (x.layout.place u).index ≡ c.method.function.name = b.1.stands.2 ∙ ap (λ p. p.index) (sym at) in
          let called : c.name ≡ m =
          sym c.counting.is_method.named ∙ ap (λ n. spelled x n c.method.function.name) (sym file)
          ∙ ap (λ n. spelled x (x.layout.place u).file n) (sym index) ∙ named in
          let counting : IsCountingMethod x c.definition m s.rank c.method =
          subst (λ k. IsCountingMethod x c.definition k s.rank c.method) called c.counting in
          record {
            inside = x;
            is_package = is;
            of_path = sym b.0;
            holds = record {
              definition = c.definition;
              name = m;
              first = first_method x is among c.definition s.rank c.method counting (kept x is among b.0 c.definition c.method counting.is_method);
            };
          }
