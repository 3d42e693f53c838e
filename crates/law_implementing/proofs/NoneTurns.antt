-- Where no interface's implementing types change, the same types implement the same interfaces under the new names.
use Rattle.std.proofs.Common.{ℕ, ◌≡◌, ◌⊎◌, inl, inr, Bool, true, false, List, [], ap, sym, subst, refl, ◌∙◌}
use Rattle.std.specs.Prelude.{◌↔◌, Option, Some, None}
use Rattle.std.proofs.lemmas.Bool.{false≢true, true≢false}
use Rattle.base_edits.specs.Revisions.{Revision}
use Rattle.base_files.specs.Workspace.{Workspace}
use Rattle.types_expr.specs.declared.symbol.Symbol.{Symbol}
use Rattle.types_expr.specs.Types.{PlainType, Defined, Underlying, Interface, Signature, AFieldOf, AMethodOf, is_interface}
use Rattle.types_expr.specs.Types.{Struct as StructOf}
use Rattle.types_expr.specs.World.{Definition, Field as Written, Implements, has_if_asked, in_method_set}
use Rattle.types_expr.specs.WorldView.{no_definition}
use Rattle.types_declared.specs.Definitions.{HasForm, HasUnderlying, IsUnderlyingOf, has, has_none}
use Rattle.types_declared.specs.Package.{Package, symbol_in}
use Rattle.types_info.proofs.OneWorld.{one_underlying_of}
use Rattle.workspace_check.specs.FaultLists.{ListsFaults}
use Rattle.workspace_check.specs.Verdicts.{Verdicts, AreVerdicts}
use Rattle.workspace_check.proofs.OnePackage.{layout_formed}
use Rattle.refs_binding.specs.declared.declaration.Declaration.TheVariants.{Field}
use Rattle.refs_binding.specs.Uses.{IsCheckedPackage}
use Rattle.refactor_coupled.specs.Coupling.{type_through}
use Rattle.refactor_coupled.specs.Implementing.{AreAllDefinitions, AreDefinitionsAfter, HasMembersAfter, IsTypeSymbol, IsWrittenAfter, MayHaveMethods}
use Rattle.refactor_coupled.specs.Implementing.{behind_star, value}
use Rattle.refactor_coupled.specs.Obstacles.{NoneChanges, TurnsAt}
use Rattle.refactor_coupled.proofs.MethodOwners.{asks_method, form_cases, own_interface, under_cases, under_is}
use Rattle.refactor_coupled.proofs.WrittenForms.{asking_interface, writing_struct}
use Rattle.law_renamed_workspaces.proofs.RenamedSets.{same_or_other}
use Rattle.law_implementing.proofs.AllDefinitions.{after_alike, all_alike, type_or_not}
use Rattle.law_implementing.proofs.TypesBecome.{type_begins}

-- What is not false is true.
stable : (b : Bool) → ¬ (¬ (b ≡ true)) → b ≡ true
stable true h = refl
stable false h = absurd (h false≢true)

implements_stable : (ds : Symbol → Definition) (t : PlainType) (i : Symbol) → ¬ (¬ (Implements ds t i)) → Implements ds t i
implements_stable ds t i h = record {
  writes_one = stable (is_interface (ds i).underlying) (λ no. h (λ k. no k.writes_one));
  has = λ name. stable (has_if_asked ((ds i).field name) (in_method_set ds t name)) (λ no. h (λ k. no (k.has name)));
}

may_have : (Is : Package → Type 0) (star : Bool) (s : Symbol) → IsTypeSymbol Is s → MayHaveMethods Is (type_through star s)
may_have Is false s of = value of
may_have Is true s of = behind_star of

-- the type T or `*T` that may have methods
record IsThrough (Is : Package → Type 0) (t : PlainType) : Type 0 where
  star : Bool
  symbol : Symbol
  is_type : IsTypeSymbol Is symbol
  same : t ≡ type_through star symbol

through_of : (Is : Package → Type 0) (t : PlainType) → MayHaveMethods Is t → IsThrough Is t
through_of Is _ (value {s = s} is) = record { star = false; symbol = s; is_type = is; same = refl }
through_of Is _ (behind_star {s = s} is) = record { star = true; symbol = s; is_type = is; same = refl }

interface_found : (p : Package) (rank : ℕ) (i : Symbol) (u : Underlying) → IsUnderlyingOf p rank u → u ≡ Interface i →
    HasUnderlying p (Defined (symbol_in p rank)) (Interface i)
interface_found p rank i u (has h) e = subst (HasUnderlying p (Defined (symbol_in p rank))) e h
interface_found p rank i _ (has_none none) e = let own : StructOf (symbol_in p rank) ≡ Interface i = e in let never : ⊥ = cc in absurd never

one_interface : (i j : Symbol) → Interface i ≡ Interface j → i ≡ j
one_interface i j e = cc

same_symbol : (i j : Symbol) → (i ≡ j) ⊎ (i ≡ j → ⊥)
same_symbol i j = elim (same_or_other (Field i) (Field j) tt) [
  | inl same ↦ inl (let e : Field i ≡ Field j = same in cc)
  | inr other ↦ inr (λ e. other (ap Field e))
]

-- Of what implements by its kind alone.
by_kind : (a b : Symbol → Definition) (t : PlainType) (i : Symbol) → (a i).underlying ≡ (b i).underlying → ((name : List ℕ) → (b i).field name ≡ None) →
    Implements a t i → Implements b t i
by_kind a b t i under none h = record {
  writes_one = sym (ap is_interface under) ∙ h.writes_one;
  has = λ name. ap (λ f. has_if_asked f (in_method_set b t name)) (none name);
}

module _ (w : Workspace) (sound : ListsFaults w []) (known : Verdicts) (right : AreVerdicts w known) (before : Symbol → Definition)
    (are : AreAllDefinitions (IsCheckedPackage w known) before) where
  pub decided : (s : Symbol) → IsTypeSymbol (IsCheckedPackage w known) s ⊎ (before s ≡ no_definition s)
  decided s = elim (type_or_not w sound known right s) [ inl of ↦ inl of | inr none ↦ inr (are.others s none) ]

  module _ (r : Revision) (after : Symbol → Definition) (are_after : AreDefinitionsAfter (IsCheckedPackage w known) r after) where
    module _ (i : Symbol) (of : IsTypeSymbol (IsCheckedPackage w known) i) where
      abbrev p : Package
      p = of.inside

      members : HasMembersAfter (IsCheckedPackage w known) r p of.rank (after i)
      members =
          subst (λ z. HasMembersAfter (IsCheckedPackage w known) r p of.rank (after z)) (sym of.is_symbol)
          (are_after.each p of.is_package of.rank of.definition of.has_rank)

      was_under : IsUnderlyingOf p of.rank (before i).underlying
      was_under =
          subst (λ z. IsUnderlyingOf p of.rank (before z).underlying) (sym of.is_symbol)
          (are.each p of.is_package of.rank of.definition of.has_rank).underlying

      same_under : (before i).underlying ≡ (after i).underlying
      same_under =
          one_underlying_of p (layout_formed w known p.path p of.is_package.is_checked) of.rank (before i).underlying (after i).underlying was_under
          members.underlying

      -- An interface that is the underlying type of another definition writes nothing there, before or after the change.
      module _ (j : Symbol) (under : (before i).underlying ≡ Interface j) (other : i ≡ j → ⊥) where
        is_one : is_interface (before i).underlying ≡ true
        is_one = ap is_interface under

        none_before : (name : List ℕ) (o : Option Written) → (before i).field name ≡ o → (before i).field name ≡ None
        none_before name None e = e
        none_before name (Some f) e =
            let g = asks_method w known before are decided i name f e is_one in
            absurd (other (one_interface i j (sym (own_interface w known before are decided i name f g.0 e g.1) ∙ under)))

        own_method : (name : List ℕ) (f : Written) → IsWrittenAfter r p of.rank name (Some f) → (g : Signature) → f.form ≡ AMethodOf g → ⊥
        own_method name f h g is =
            let x = h.0.has in
            let behind = asking_interface p f.symbol.rank x.field x.has_rank g (subst (HasForm p x.field.file x.field.form) is h.1.0) in
            let here = subst (λ n. HasUnderlying p (Defined (symbol_in p n)) (Interface (symbol_in p n))) x.of_struct behind in
            let own = under_is w known before are decided i of (Interface (symbol_in p of.rank)) here in
            other (of.is_symbol ∙ one_interface (symbol_in p of.rank) j (sym own ∙ under))

        own_field : (name : List ℕ) (f : Written) → IsWrittenAfter r p of.rank name (Some f) → (t : PlainType) → f.form ≡ AFieldOf t → ⊥
        own_field name f h t is =
            let x = h.0.has in
            let behind = writing_struct p f.symbol.rank x.field x.has_rank t (subst (HasForm p x.field.file x.field.form) is h.1.0) in
            let here = subst (λ n. HasUnderlying p (Defined (symbol_in p n)) (StructOf (symbol_in p n))) x.of_struct behind in
            let own = under_is w known before are decided i of (StructOf (symbol_in p of.rank)) here in
            false≢true (sym (ap is_interface own) ∙ is_one)

        none_after : (name : List ℕ) (o : Option Written) → (after i).field name ≡ o → (after i).field name ≡ None
        none_after name None e = e
        none_after name (Some f) e =
            let h : IsWrittenAfter r p of.rank name (Some f) = subst (IsWrittenAfter r p of.rank name) e (members.written name) in
            elim (form_cases f.form) [
              | inl field ↦ absurd (own_field name f h field.0 field.1)
              | inr method ↦ absurd (own_method name f h method.0 method.1)
            ]

        pub alike_by_kind : (t : PlainType) → Implements before t i ↔ Implements after t i
        alike_by_kind t = (
          by_kind before after t i same_under (λ name. none_after name ((after i).field name) refl),
          by_kind after before t i (sym same_under) (λ name. none_before name ((before i).field name) refl),
        )

      -- The interface that is the underlying type of its own definition
      turn : (under : (before i).underlying ≡ Interface i) (star : Bool) (s : Symbol) → IsTypeSymbol (IsCheckedPackage w known) s →
          ¬ (Implements before (type_through star s) i ↔ Implements after (type_through star s) i) →
          TurnsAt w known r (type_begins p of.rank of.definition of.has_rank).0
      turn under star s type turned = record {
        interface = i;
        named = record {
          inside = p;
          is_package = of.is_package;
          rank = of.rank;
          definition = of.definition;
          has_rank = of.has_rank;
          underlying = interface_found p of.rank i (before i).underlying was_under under;
          at = (type_begins p of.rank of.definition of.has_rank).1;
        };
        turns = record {
          before = before;
          are_before = are;
          after = after;
          are_after = are_after;
          of = type_through star s;
          may_have = may_have (IsCheckedPackage w known) star s type;
          turned = turned;
        };
      }

      module _ (none : NoneChanges w known r) (star : Bool) (s : Symbol) (type : IsTypeSymbol (IsCheckedPackage w known) s) where
        abbrev Was : Type 0
        Was = Implements before (type_through star s) i

        abbrev Is : Type 0
        Is = Implements after (type_through star s) i

        by_stability : ¬ (¬ (Was ↔ Is)) → Was ↔ Is
        by_stability h = (
          (λ was. implements_stable after (type_through star s) i (λ no. h (λ both. no (both.0 was)))),
          (λ is. implements_stable before (type_through star s) i (λ no. h (λ both. no (both.1 is)))),
        )

        by_interface : (j : Symbol) → (before i).underlying ≡ Interface j → (i ≡ j) ⊎ (i ≡ j → ⊥) → Was ↔ Is
        by_interface j under (inr other) = alike_by_kind j under other (type_through star s)
        by_interface j under (inl same) =
            by_stability (λ turned.
            none (type_begins p of.rank of.definition of.has_rank).0 (turn (under ∙ ap Interface (sym same)) star s type turned))

        pub implement_alike : Was ↔ Is
        implement_alike = elim (under_cases (before i).underlying) [
          | inl j ↦ by_interface j.0 j.1 (same_symbol i j.0)
          | inr not ↦ (
            (λ h. absurd (true≢false (sym h.writes_one ∙ not))),
            (λ h. absurd (true≢false (sym h.writes_one ∙ ap is_interface (sym same_under) ∙ not))),
          )
        ]

    -- Conversely none changes where they are the same.
    module _ (alike : (star : Bool) (s i : Symbol) → IsTypeSymbol (IsCheckedPackage w known) s → IsTypeSymbol (IsCheckedPackage w known) i →
        Implements before (type_through star s) i ↔ Implements after (type_through star s) i) where
      no_interface : (t : PlainType) (i : Symbol) → (IsTypeSymbol (IsCheckedPackage w known) i → ⊥) → Implements before t i ↔ Implements after t i
      no_interface t i never = (
        (λ h. absurd (true≢false (sym h.writes_one ∙ ap (λ (d : Definition). is_interface d.underlying) (are.others i never)))),
        (λ h. absurd (true≢false (sym h.writes_one ∙ ap (λ (d : Definition). is_interface d.underlying) (are_after.others i never)))),
      )

      of_type : (t : PlainType) (i : Symbol) → MayHaveMethods (IsCheckedPackage w known) t → IsTypeSymbol (IsCheckedPackage w known) i →
          Implements before t i ↔ Implements after t i
      of_type t i may type =
          let x = through_of (IsCheckedPackage w known) t may in
          subst (λ z. Implements before z i ↔ Implements after z i) (sym x.same) (alike x.star x.symbol i x.is_type type)

      each_type : (t : PlainType) (i : Symbol) → MayHaveMethods (IsCheckedPackage w known) t → Implements before t i ↔ Implements after t i
      each_type t i may = elim (type_or_not w sound known right i) [ inl type ↦ of_type t i may type | inr never ↦ no_interface t i never ]

      pub none_changes : NoneChanges w known r
      none_changes place t =
          let x = t.turns in
          let was : before ≡ x.before = all_alike w sound known right before x.before are x.are_before in
          let is : after ≡ x.after = after_alike w sound known right r after x.after are_after x.are_after in
          x.turned
          (subst (λ (ds : Symbol → Definition). Implements x.before x.of t.interface ↔ Implements ds x.of t.interface) is
          (subst (λ (ds : Symbol → Definition). Implements ds x.of t.interface ↔ Implements after x.of t.interface) was
          (each_type x.of t.interface x.may_have)))
