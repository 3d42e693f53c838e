-- The fields and methods that count in a renamed package are those that count by the new names.
use Rattle.std.proofs.Common.{ℕ, ◌≡◌, ◌⊎◌, inl, inr, true, false, List, ap, sym, subst, refl, ◌∙◌}
use Rattle.std.specs.Prelude.{◌↔◌, Option, Some, None, slice_get, ◌||◌, Bool}
use Rattle.std.specs.Cmp.Lexicographic.{bytes_decides}
use Rattle.std.proofs.lemmas.Bool.{cases_eq, true≢false}
use Rattle.std.proofs.lemmas.Option.{none-some, same_Some}
use Rattle.base_files.specs.Workspace.{Workspace}
use Rattle.base_edits.specs.Revisions.{Revision}
use Rattle.types_expr.specs.declared.symbol.Symbol.{Symbol}
use Rattle.types_expr.specs.Types.{Defined, same_path}
use Rattle.types_expr.specs.Types.{Struct as StructOf}
use Rattle.types_declared.proofs.ByteKeys.{cases_bytes}
use Rattle.types_declared.specs.Laid.{is_exported}
use Rattle.types_declared.specs.Package.{Package, PlacedFunction, package_types, package_functions, symbol_in, spelled}
use Rattle.types_declared.specs.Definitions.{HasUnderlying, PlacedField, fields_from, package_fields, IsFieldOf, IsCountingField, IsMethodOf, IsCountingMethod}
use Rattle.types_declared.specs.Definitions.{HasFieldNamed, of_own, of_imported}
use Rattle.types_info.proofs.WorldParts.{is_other}
use Rattle.workspace_check.specs.Verdicts.{Verdicts}
use Rattle.refs_binding.specs.Uses.{IsCheckedPackage}
use Rattle.refactor_conflict.specs.NamesAfter.{IsFieldAfter, IsMethodAfter}
use Rattle.refactor_conflict.specs.MembersAfter.{IsFirst, IsFirstField, IsFirstMethod, HasFieldAfter}
use Rattle.refactor_conflict.proofs.FieldsAfter.{of_one}
use Rattle.law_changed_types.proofs.Alike.{Alike, turned, tokens}
use Rattle.law_changed_types.proofs.Listed.{same_types, same_functions}
use Rattle.law_changed_types.proofs.Types.{declares_type, has_underlying}
use Rattle.law_renamed_workspaces.specs.Layouts.{IsRelaid}
use Rattle.law_renamed_workspaces.specs.MembersMoved.{AreSeenAfter, AreFieldsSeenAfter}
use Rattle.law_renamed_workspaces.proofs.FirstOf.{first_of_some}
use Rattle.law_renamed_workspaces.proofs.NewNames.{field_called_after, function_called_after}

module _ (w : Workspace) (known : Verdicts) (r : Revision) (p q : Package) (is : IsCheckedPackage w known p) (relaid : IsRelaid r p q) where
  -- the same types, fields and functions are listed

  pub types_listed : package_types q ≡ package_types p
  types_listed = same_types p.files q.files relaid.trees

  pub fields_listed : package_fields q ≡ package_fields p
  fields_listed = ap (fields_from 0) types_listed

  pub functions_listed : package_functions q ≡ package_functions p
  functions_listed = same_functions p.files q.files relaid.trees

  pub field_before : (rank : ℕ) (f : PlacedField) → slice_get (package_fields q) rank ≡ Some f → slice_get (package_fields p) rank ≡ Some f
  field_before rank f e = subst (λ l. slice_get l rank ≡ Some f) fields_listed e

  pub field_behind : (rank : ℕ) (f : PlacedField) → slice_get (package_fields p) rank ≡ Some f → slice_get (package_fields q) rank ≡ Some f
  field_behind rank f e = subst (λ l. slice_get l rank ≡ Some f) (sym fields_listed) e

  pub function_before : (rank : ℕ) (f : PlacedFunction) → slice_get (package_functions q) rank ≡ Some f → slice_get (package_functions p) rank ≡ Some f
  function_before rank f e = subst (λ l. slice_get l rank ≡ Some f) functions_listed e

  pub function_behind : (rank : ℕ) (f : PlacedFunction) → slice_get (package_functions p) rank ≡ Some f → slice_get (package_functions q) rank ≡ Some f
  function_behind rank f e = subst (λ l. slice_get l rank ≡ Some f) (sym functions_listed) e

  -- fields

  pub field_after : (d : ℕ) (name : List ℕ) (rank : ℕ) → IsFieldAfter r p d name rank ↔ ((f : PlacedField) × IsFieldOf q d name rank f)
  field_after d name rank = (
    (λ h. (
      h.field,
      record {
        has_rank = field_behind rank h.field h.has_rank;
        of_struct = h.of_struct;
        named = (field_called_after w known p is r q relaid rank h.field h.has_rank name).0 h.called;
      },
    )),
    (λ k.
        let at = field_before rank k.0 k.1.has_rank in record {
          field = k.0;
          has_rank = at;
          of_struct = k.1.of_struct;
          called = (field_called_after w known p is r q relaid rank k.0 at name).1 k.1.named;
        }),
  )

  pub counting_field : (d : ℕ) (name : List ℕ) (rank : ℕ) → IsFirstField r p d name rank ↔ ((f : PlacedField) × IsCountingField q d name rank f)
  counting_field d name rank = (
    (λ h.
        let f = (field_after d name rank).0 h.has in
        (f.0, record { is_field = f.1; first = λ other g lt k. h.first other lt ((field_after d name other).1 (g, k)) })),
    (λ k. record {
      has = (field_after d name rank).1 (k.0, k.1.is_field);
      first = λ other lt h.
          let g = (field_after d name other).0 h in k.1.first other g.0 lt g.1;
    }),
  )

  -- whether a rank has the name is decided

  decide_field : (d : ℕ) (name : List ℕ) (rank : ℕ) → IsFieldAfter r p d name rank ⊎ (IsFieldAfter r p d name rank → ⊥)
  decide_field d name rank = by_item (slice_get (package_fields p) rank) refl
    where
      by_item : (o : Option PlacedField) → slice_get (package_fields p) rank ≡ o → IsFieldAfter r p d name rank ⊎ (IsFieldAfter r p d name rank → ⊥)
      by_item None e = inr (λ h. none-some h.field (sym e ∙ h.has_rank))
      by_item (Some f) e = elim (cases_eq f.definition d) [
        | inr other ↦ inr (λ h.
            let same : h.field ≡ f = same_Some h.field f (sym h.has_rank ∙ e) in
            other (ap (λ (x : PlacedField). x.definition) (sym same) ∙ h.of_struct))
        | inl own ↦ elim (cases_bytes (spelled q f.file f.name) name) [
          | inl called ↦ inl ((field_after d name rank).1 (f, record { has_rank = field_behind rank f e; of_struct = own; named = called }))
          | inr other ↦ inr (λ h.
              let k = (field_after d name rank).0 h in
              let same : k.0 ≡ f = same_Some k.0 f (sym (field_before rank k.0 k.1.has_rank) ∙ e) in
              other (subst (λ (x : PlacedField). spelled q x.file x.name ≡ name) same k.1.named))
        ]
      ]

  pub first_field : (d : ℕ) (name : List ℕ) (rank : ℕ) (f : PlacedField) → IsFieldOf q d name rank f → (m : ℕ) × IsFirstField r p d name m
  first_field d name rank f h = first_of_some (IsFieldAfter r p d name) (decide_field d name) rank ((field_after d name rank).1 (f, h))

  -- methods

  module _ (alike : Alike p q) where
    pub method_after : (d : ℕ) (name : List ℕ) (rank : ℕ) → IsMethodAfter r p d name rank ↔ ((f : PlacedFunction) × IsMethodOf q d name rank f)
    method_after d name rank = (
      (λ h.
          let o = h.of_type in (
            h.method,
            record {
              has_rank = function_behind rank h.method h.has_rank;
              receiver = o.receiver;
              received = o.received;
              declaration = o.declaration;
              binds = tokens p q alike h.method.file o.receiver.type_name o.declaration o.binds;
              of_type = declares_type p q alike o.declaration d o.of_type;
              named = (function_called_after w known p is r q relaid rank h.method h.has_rank name).0 h.called;
            },
          )),
      (λ k.
          let at = function_before rank k.0 k.1.has_rank in
          let m = k.1 in record {
            method = k.0;
            has_rank = at;
            of_type = record {
              receiver = m.receiver;
              received = m.received;
              declaration = m.declaration;
              binds = tokens q p (turned p q alike) k.0.file m.receiver.type_name m.declaration m.binds;
              of_type = declares_type q p (turned p q alike) m.declaration d m.of_type;
            };
            called = (function_called_after w known p is r q relaid rank k.0 at name).1 m.named;
          }),
    )

    pub first_of_methods : (d : ℕ) (name : List ℕ) (rank : ℕ) (f : PlacedFunction) → IsCountingMethod q d name rank f → IsFirst (IsMethodAfter r p d name) rank
    first_of_methods d name rank f h = record {
      has = (method_after d name rank).1 (f, h.is_method);
      first = λ other lt k.
          let g = (method_after d name other).0 k in h.first other g.0 lt g.1;
    }

    -- where no field of the values has the name

    module _ (seen : AreSeenAfter (IsCheckedPackage w known) r p q) where
      Known : Package → Type 0
      Known = IsCheckedPackage w known

      own_symbol : (rank : ℕ) → symbol_in q rank ≡ symbol_in p rank
      own_symbol rank = ap (λ (path : List ℕ). record { «package» = path; rank = rank }) relaid.path

      own_seen : (own : List ℕ) (e : Bool) → (e || same_path own own) ≡ true
      own_seen own true = refl
      own_seen own false = (bytes_decides own own).1 refl

      before : (d : ℕ) (s : Symbol) → HasUnderlying q (Defined (symbol_in q d)) (StructOf s) → HasUnderlying p (Defined (symbol_in p d)) (StructOf s)
      before d s u =
          has_underlying q p (turned p q alike) (Defined (symbol_in p d)) (StructOf s)
          (subst (λ (x : Symbol). HasUnderlying q (Defined x) (StructOf s)) (own_symbol d) u)

      field_named : (d : ℕ) (name : List ℕ) → HasFieldNamed q d name → HasFieldAfter Known r p d name
      unfolding Known
      field_named d name (of_own {rank = rank} {field = field} {f = f} u h) =
          let m = first_field rank name field f h in record {
            struct = symbol_in p rank;
            underlying = subst (λ (x : Symbol). HasUnderlying p (Defined (symbol_in p d)) (StructOf x)) (own_symbol rank) (before d (symbol_in q rank) u);
            rank = m.0;
            has = record {
              seen = own_seen p.path (is_exported name);
              has = record { inside = p; is_package = is; of_path = refl; holds = m.1 };
            };
          }
      field_named d name (of_imported {path = path} {rank = rank} {f = f} u other e exported) =
          let s : Symbol = record { «package» = path; rank = rank } in
          let x = (seen path rank (λ same. other (same ∙ sym relaid.path))).no_others name f e in record {
            struct = s;
            underlying = before d s u;
            rank = f.symbol.rank;
            has = record {
              seen = ap (λ (b : Bool). b || same_path p.path path) (sym x.exported ∙ exported);
              has = x.counts;
            };
          }

      pub counting_method : (d : ℕ) (name : List ℕ) (rank : ℕ) → IsFirstMethod (IsCheckedPackage w known) r p d name rank →
          (f : PlacedFunction) × IsCountingMethod q d name rank f
      unfolding Known
      counting_method d name rank h =
          let f = (method_after d name rank).0 h.has.has in (
            f.0,
            record {
              is_method = f.1;
              no_field = λ k. h.no_field (field_named d name k);
              first = λ other g lt k. h.has.first other lt ((method_after d name other).1 (g, k));
            },
          )

    -- a field of the values is seen under its new name

    module _ (fields : AreFieldsSeenAfter (IsCheckedPackage w known) r p q) where
      after_symbol : (rank : ℕ) → symbol_in p rank ≡ symbol_in q rank
      after_symbol rank = ap (λ (path : List ℕ). record { «package» = path; rank = rank }) (sym relaid.path)

      behind : (d : ℕ) (s : Symbol) → HasUnderlying p (Defined (symbol_in p d)) (StructOf s) → HasUnderlying q (Defined (symbol_in q d)) (StructOf s)
      behind d s u =
          subst (λ (x : Symbol). HasUnderlying q (Defined x) (StructOf s)) (after_symbol d) (has_underlying p q alike (Defined (symbol_in p d)) (StructOf s) u)

      only_exported : (b c : Bool) → (b || c) ≡ true → c ≡ false → b ≡ true
      only_exported true c e f = refl
      only_exported false c e f = absurd (true≢false (sym e ∙ f))

      named_behind : (d : ℕ) (name : List ℕ) → HasFieldAfter (IsCheckedPackage w known) r p d name → HasFieldNamed q d name
      named_behind d name h = elim (cases_bytes h.struct.package p.path) [
        | inl own ↦
            let first = of_one w known p is h.struct.package (sym own) (λ o. IsFirstField r o h.struct.rank name h.rank) h.has.has in
            let k = (field_after h.struct.rank name h.rank).0 first.has in
            let here : h.struct ≡ symbol_in q h.struct.rank =
            ap (λ (path : List ℕ). record { «package» = path; rank = h.struct.rank }) (own ∙ sym relaid.path) in
            of_own {rank = h.struct.rank} {field = h.rank} {f = k.0}
            (subst (λ (x : Symbol). HasUnderlying q (Defined (symbol_in q d)) (StructOf x)) here (behind d h.struct h.underlying)) k.1
        | inr other ↦
            let away : same_path p.path h.struct.package ≡ false =
            is_other p.path h.struct.package (λ e. other (sym e)) (same_path p.path h.struct.package) refl in
            let exported = only_exported (is_exported name) (same_path p.path h.struct.package) h.has.seen away in
            let x = fields d h.struct h.underlying other name exported h.rank h.has.has in
            of_imported {path = h.struct.package} {rank = h.struct.rank} {f = x.0} (behind d h.struct h.underlying) (λ e. other (e ∙ relaid.path)) x.1.0 x.1.1
      ]

      pub counts_before : (d : ℕ) (name : List ℕ) (rank : ℕ) (f : PlacedFunction) → IsCountingMethod q d name rank f →
          IsFirstMethod (IsCheckedPackage w known) r p d name rank
      counts_before d name rank f h = record { no_field = λ k. h.no_field (named_behind d name k); has = first_of_methods d name rank f h }
