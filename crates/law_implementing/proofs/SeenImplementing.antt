-- Where a plain rename preserves bindings and implementing types, the same types implement the same interfaces by what each package sees.
use Rattle.std.proofs.Common.{ℕ, ◌≡◌, ◌⊎◌, inl, inr, Bool, true, false, List, [], ap, refl, sym, subst, ◌∙◌}
use Rattle.std.specs.Prelude.{◌↔◌, Option, Some, None, slice_get}
use Rattle.std.proofs.lemmas.Bool.{true≢false}
use Rattle.std.proofs.lemmas.Option.{same_Some}
use Rattle.base_edits.specs.EditSet.{FileChanges, edited}
use Rattle.base_edits.specs.Revisions.{Revision}
use Rattle.base_edits.specs.RevisionsOfEdits.{revision_of}
use Rattle.base_files.specs.Workspace.{Workspace}
use Rattle.types_expr.specs.declared.symbol.Symbol.{Symbol}
use Rattle.types_expr.specs.Types.{PlainType, BasicType, Defined, Pointer, Slice, WrittenAs, is_interface}
use Rattle.types_expr.specs.World.{Definition, Field, Implements}
use Rattle.types_expr.specs.WorldView.{no_definition}
use Rattle.types_declared.specs.Definitions.{AreDefinitions, HasForm, IsDefinition, IsFoundField, PlacedField, package_fields}
use Rattle.types_declared.specs.Package.{Package, spelled}
use Rattle.types_info.proofs.OneWorld.{one_form, one_underlying_of}
use Rattle.workspace_check.specs.FaultLists.{ListsFaults}
use Rattle.workspace_check.specs.Verdicts.{Verdicts, AreVerdicts, BuildsOn}
use Rattle.workspace_check.proofs.OnePackage.{layout_formed}
use Rattle.workspace_check.proofs.SameImports.{builds_by, imports_back}
use Rattle.refs_binding.specs.declared.declaration.Declaration.{Declaration}
use Rattle.refs_binding.specs.Uses.{IsCheckedPackage}
use Rattle.refactor_conflict.specs.MembersAfter.{IsFirstField}
use Rattle.refactor_conflict.specs.NamesAfter.{IsFieldAfter}
use Rattle.refactor_conflict.proofs.FieldsAfter.{one_first}
use Rattle.refactor_coupled.specs.Coupling.{type_through}
use Rattle.refactor_coupled.specs.Implementing.{AreDefinitionsAfter, HasMembersAfter, IsTypeSymbol, IsWrittenAfter}
use Rattle.refactor_coupled.specs.Obstacles.{KeepsImplementing}
use Rattle.law_renamed_workspaces.specs.Layouts.{IsRelaid}
use Rattle.law_renamed_workspaces.specs.Reaching.{ReachesPath}
use Rattle.law_renamed_workspaces.proofs.CountingMembers as counting
use Rattle.law_renamed_workspaces.proofs.NewLookups.{had_field}
use Rattle.law_renamed_workspaces.proofs.Packages.{same_imports}
use Rattle.law_renamed_workspaces.proofs.SeenLookups.{all_before}
use Rattle.law_renamed_workspaces.proofs.SetLookups.{HasNoMethods, implements_here, implements_there, none_of_basic, none_of_unknown, nothing_implements}
use Rattle.law_renamed_workspaces.proofs.SetLookups.{type_behind}
use Rattle.law_renamed_workspaces.proofs.SetLookups.{none_of_basic_pointer, none_of_slice, none_of_slice_pointer, none_of_two_pointers}
use Rattle.law_agreement.specs.Agreement.{KeepsSeenImplementing}
use Rattle.law_agreement.proofs.KeptNames.{there}
use Rattle.law_agreement.proofs.Premises.{IsKeptRename}
use Rattle.law_agreement.proofs.UnboundStay.{field_counts}
use Rattle.law_implementing.proofs.AllDefinitions.{all_alike, are_before, type_or_not}
use Rattle.law_implementing.proofs.EditedDefinitions.{are_after}
use Rattle.law_implementing.proofs.SeenTypes.{agrees, reached_or_not, under_reached, unreached}
use Rattle.law_implementing.proofs.TypesBecome.{keeps_symbols, type_was}

module _ (w : Workspace) (known : Verdicts) (d : Declaration) (name : List ℕ) (s : FileChanges) (after : Verdicts)
    (kept : IsKeptRename w known d name s after) where
  abbrev r : Revision
  r = revision_of w s

  abbrev x : Workspace
  x = edited s w

  abbrev sound : ListsFaults w []
  sound = kept.rename.rename.sound

  abbrev right : AreVerdicts w known
  right = kept.rename.rename.right

  abbrev before : Symbol → Definition
  before = all_before w kept.rename.rename.sound known kept.rename.rename.right

  abbrev now : Symbol → Definition
  now = all_before (edited s w) kept.sound after kept.right

  are_now : AreDefinitionsAfter (IsCheckedPackage w known) (revision_of w s) (all_before (edited s w) kept.sound after kept.right)
  are_now =
      are_after w known d name s after kept (all_before (edited s w) kept.sound after kept.right) (are_before (edited s w) kept.sound after kept.right)

  -- What a type definition writes, before and afterwards

  module _ (i : Symbol) (of : IsTypeSymbol (IsCheckedPackage w known) i) where
    abbrev y : Package
    y = of.inside

    was : IsDefinition of.inside of.rank (all_before w kept.rename.rename.sound known kept.rename.rename.right i)
    was =
        subst (λ z. IsDefinition y of.rank (before z)) (sym of.is_symbol)
        ((are_before w sound known right).each y of.is_package of.rank of.definition of.has_rank)

    members : HasMembersAfter (IsCheckedPackage w known) (revision_of w s) of.inside of.rank (all_before (edited s w) kept.sound after kept.right i)
    members =
        subst (λ z. HasMembersAfter (IsCheckedPackage w known) r y of.rank (now z)) (sym of.is_symbol)
        (are_now.each y of.is_package of.rank of.definition of.has_rank)

    same_under : (before i).underlying ≡ (now i).underlying
    same_under =
        one_underlying_of y (layout_formed w known y.path y of.is_package.is_checked) of.rank (before i).underlying (now i).underlying was.underlying
        members.underlying

    same_form : (f g : PlacedField) (a b : WrittenAs) → f ≡ g → HasForm of.inside f.file f.form a → HasForm of.inside g.file g.form b → b ≡ a
    same_form f g a b same h k =
        one_form y (layout_formed w known y.path y of.is_package.is_checked) g.file g.form b a k
        (subst (λ (z : PlacedField). HasForm y z.file z.form a) same h)

    -- each written member had an old name
    was_written : (called : List ℕ) (g : Field) → (now i).field called ≡ Some g →
        (old : List ℕ) × ((f : Field) × (((before i).field old ≡ Some f) × (g.form ≡ f.form)))
    was_written called g e =
        let h : IsWrittenAfter r y of.rank called (Some g) = subst (IsWrittenAfter r y of.rank called) e (members.written called) in
        let first = h.0.has in
        let a = had_field w sound known right y of.is_package r (before i) of.rank was called g.symbol.rank first in
        let old = spelled y first.field.file first.field.name in
        let found = subst (IsFoundField y of.rank old) a.stands (was.fields old) in
        let has = subst (λ k. slice_get (package_fields y) k ≡ Some found.0) a.of_rank found.1.0.is_field.has_rank in
        let same : found.0 ≡ first.field = same_Some found.0 first.field (sym has ∙ first.has_rank) in
        (old, (a.field, (a.stands, same_form found.0 first.field a.field.form g.form same found.1.1 h.1.0)))

    -- each member has a name afterwards

    abbrev q : Package
    q = (there w known d name s after kept of.inside of.is_package).0

    is_q : IsCheckedPackage (edited s w) after (there w known d name s after kept of.inside of.is_package).0
    is_q = (there w known d name s after kept of.inside of.is_package).1.0

    relaid : IsRelaid (revision_of w s) of.inside (there w known d name s after kept of.inside of.is_package).0
    relaid = (there w known d name s after kept of.inside of.is_package).1.1

    first_now : (k : ℕ) (f : PlacedField) → slice_get (package_fields y) k ≡ Some f → f.definition ≡ of.rank →
        IsFirstField r y of.rank (spelled q f.file f.name) k
    first_now k f at own =
        let has = counting.field_behind w known r y q of.is_package relaid k f at in
        let counts = field_counts x kept.sound after kept.right q is_q k f has in
        subst (λ n. IsFirstField r y n (spelled q f.file f.name) k) own
        ((counting.counting_field w known r y q of.is_package relaid f.definition (spelled q f.file f.name) k).1 (f, counts))

    is_written : (old : List ℕ) (f : Field) → (before i).field old ≡ Some f →
        (called : List ℕ) × ((g : Field) × (((now i).field called ≡ Some g) × (f.form ≡ g.form)))
    is_written old f e =
        let found = subst (IsFoundField y of.rank old) e (was.fields old) in
        let at = found.1.0.is_field.has_rank in
        let called = spelled q found.0.file found.0.name in
        let first = first_now f.symbol.rank found.0 at found.1.0.is_field.of_struct in
        let same : first.has.field ≡ found.0 = same_Some first.has.field found.0 (sym first.has.has_rank ∙ at) in
        (called, by_name called first found.0 same found.1.1 ((now i).field called) refl (members.written called))
      where
        by_name : (called : List ℕ) (first : IsFirstField r y of.rank called f.symbol.rank) → (found : PlacedField) → first.has.field ≡ found →
            HasForm y found.file found.form f.form → (o : Option Field) → (now i).field called ≡ o → IsWrittenAfter r y of.rank called o →
            (g : Field) × (((now i).field called ≡ Some g) × (f.form ≡ g.form))
        by_name called first found same typed None at none =
            absurd (none f.symbol.rank first f.form (subst (λ (z : PlacedField). HasForm y z.file z.form f.form) (sym same) typed))
        by_name called first found same typed (Some g) at h =
            let ranks : g.symbol.rank ≡ f.symbol.rank = one_first (IsFieldAfter r y of.rank called) g.symbol.rank f.symbol.rank h.0 first in
            let there_too : slice_get (package_fields y) f.symbol.rank ≡ Some h.0.has.field =
            subst (λ k. slice_get (package_fields y) k ≡ Some h.0.has.field) ranks h.0.has.has_rank in
            let one : h.0.has.field ≡ found = same_Some h.0.has.field found (sym there_too ∙ first.has.has_rank ∙ ap Some same) in
            (g, (at, same_form h.0.has.field found g.form f.form one h.1.0 typed))

  -- A package, before and afterwards

  module _ (k : KeepsImplementing w known (revision_of w s) after) (p q : Package) (is : IsCheckedPackage w known p)
      (also : IsCheckedPackage (edited s w) after q) (path : q.path ≡ p.path) (old new : Symbol → Definition) (olds : AreDefinitions p old)
      (news : AreDefinitions q new) where
    abbrev Reached : Symbol → Type 0
    Reached z = ReachesPath w p.path z.package

    abbrev ReachedNow : Symbol → Type 0
    ReachedNow z = ReachesPath (edited s w) q.path z.package

    goes : (z : Symbol) → Reached z → ReachedNow z
    goes z (inl same) = inl (same ∙ sym path)
    goes z (inr on) =
        inr (subst (λ from. BuildsOn x from z.package) (sym path)
        (builds_by w x (same_imports w known d name s kept.rename) p.path z.package on))

    came : (z : Symbol) → ReachedNow z → Reached z
    came z (inl same) = inl (same ∙ path)
    came z (inr on) =
        inr (builds_by x w (imports_back w x (same_imports w known d name s kept.rename)) p.path z.package
        (subst (λ from. BuildsOn x from z.package) path on))

    agrees_then : (z : Symbol) → Reached z → old z ≡ before z
    agrees_then z reach = agrees w sound known right p is old olds z reach

    agrees_now : (z : Symbol) → ReachedNow z → new z ≡ now z
    agrees_now z reach = agrees x kept.sound after kept.right q also new news z reach

    -- A type definition that the package reaches, or nothing is seen of the symbol.

    abbrev IsSeen : Symbol → Type 0
    IsSeen z = IsTypeSymbol (IsCheckedPackage w known) z × Reached z

    record IsNothing (z : Symbol) : Type 0 where
      is_none : old z ≡ no_definition z
      none_now : new z ≡ no_definition z

    seen_or_nothing : (z : Symbol) → IsSeen z ⊎ IsNothing z
    seen_or_nothing z = elim (reached_or_not w sound known right p is old olds z) [
      | inr away ↦ inr (record {
        is_none = unreached w sound known right p is old olds z away;
        none_now = unreached x kept.sound after kept.right q also new news z (λ reach. away (came z reach));
      })
      | inl reach ↦ elim (type_or_not w sound known right z) [
        | inl of ↦ inl (of, reach)
        | inr never ↦ inr (record {
          is_none = agrees_then z reach ∙ (are_before w sound known right).others z never;
          none_now = agrees_now z (goes z reach)
              ∙ (are_before x kept.sound after kept.right).others z (λ of. never (type_was w known d name s after kept z of));
        })
      ]
    ]

    -- types without methods

    without_methods : (t : PlainType) (i : Symbol) → IsSeen i → HasNoMethods old t → HasNoMethods new t → Implements old t i ↔ Implements new t i
    without_methods t i h none none_now =
        let then = agrees_then i h.1 in
        let later = agrees_now i (goes i h.1) in
        let under : (new i).underlying ≡ (old i).underlying =
        ap (λ (z : Definition). z.underlying) later ∙ sym (same_under i h.0) ∙ ap (λ (z : Definition). z.underlying) (sym then) in (
          nothing_implements old new t i none none_now under
              (λ called g e.
              let a = was_written i h.0 called g (ap (λ (z : Definition). z.field called) (sym later) ∙ e) in
              (a.0, (a.1.0, (ap (λ (z : Definition). z.field a.0) then ∙ a.1.1.0, a.1.1.1)))),
          nothing_implements new old t i none_now none (sym under)
              (λ called f e.
              let a = is_written i h.0 called f (ap (λ (z : Definition). z.field called) (sym then) ∙ e) in
              (a.0, (a.1.0, (ap (λ (z : Definition). z.field a.0) later ∙ a.1.1.0, a.1.1.1)))),
        )

    -- a type definition, or a pointer to it

    whole : (star : Bool) (t i : Symbol) → IsTypeSymbol (IsCheckedPackage w known) t → IsTypeSymbol (IsCheckedPackage w known) i →
        Implements before (type_behind star t) i ↔ Implements now (type_behind star t) i
    whole star t i of interface =
        let same = keeps_symbols w known d name s after kept in
        let then : k.old ≡ before = all_alike w sound known right k.old before k.are_old (are_before w sound known right) in
        let later : k.new ≡ now = all_alike x kept.sound after kept.right k.new now k.are_new (are_before x kept.sound after kept.right) in
        subst (λ z. Implements before z i ↔ Implements now z i) (through star t)
        (subst (λ (ds : Symbol → Definition). Implements before (type_through star t) i ↔ Implements ds (type_through star t) i) later
        (subst (λ (ds : Symbol → Definition). Implements ds (type_through star t) i ↔ Implements k.new (type_through star t) i) then
        (k.keeps star t t i i (same.itself t of) (same.itself i interface))))
      where
        through : (behind : Bool) (z : Symbol) → type_through behind z ≡ type_behind behind z
        through false z = refl
        through true z = refl

    of_symbol : (star : Bool) (t i : Symbol) → IsSeen i → IsSeen t ⊎ IsNothing t → Implements old (type_behind star t) i ↔ Implements new (type_behind star t) i
    of_symbol star t i h (inr n) =
        without_methods (type_behind star t) i h (none_of_unknown old star t n.is_none) (none_of_unknown new star t n.none_now)
    of_symbol star t i h (inl of) =
        let both = whole star t i of.0 h.0 in
        let under = under_reached w sound known right p is old olds in
        let under_now = under_reached x kept.sound after kept.right q also new news in (
          (λ m. implements_here new now ReachedNow agrees_now under_now star t i (goes t of.1) (goes i h.1)
              (both.0 (implements_there old before Reached agrees_then under star t i of.1 h.1 m))),
          (λ m. implements_here old before Reached agrees_then under star t i of.1 h.1
              (both.1 (implements_there new now ReachedNow agrees_now under_now star t i (goes t of.1) (goes i h.1) m))),
        )

    of_type : (t : PlainType) (i : Symbol) → IsSeen i → Implements old t i ↔ Implements new t i
    of_type (BasicType b) i h = without_methods (BasicType b) i h (none_of_basic old b) (none_of_basic new b)
    of_type (Slice t) i h = without_methods (Slice t) i h (none_of_slice old t) (none_of_slice new t)
    of_type (Defined t) i h = of_symbol false t i h (seen_or_nothing t)
    of_type (Pointer (Defined t)) i h = of_symbol true t i h (seen_or_nothing t)
    of_type (Pointer (BasicType b)) i h = without_methods (Pointer (BasicType b)) i h (none_of_basic_pointer old b) (none_of_basic_pointer new b)
    of_type (Pointer (Slice t)) i h = without_methods (Pointer (Slice t)) i h (none_of_slice_pointer old t) (none_of_slice_pointer new t)
    of_type (Pointer (Pointer t)) i h = without_methods (Pointer (Pointer t)) i h (none_of_two_pointers old t) (none_of_two_pointers new t)

    no_interface : (ds : Symbol → Definition) (t : PlainType) (i : Symbol) → ds i ≡ no_definition i → Implements ds t i → ⊥
    no_interface ds t i e h = true≢false (sym h.writes_one ∙ ap (λ (z : Definition). is_interface z.underlying) e)

    alike : (t : PlainType) (i : Symbol) → Implements old t i ↔ Implements new t i
    alike t i = elim (seen_or_nothing i) [
      | inl h ↦ of_type t i h
      | inr n ↦ ((λ m. absurd (no_interface old t i n.is_none m)), (λ m. absurd (no_interface new t i n.none_now m)))
    ]

  pub keeps_seen : KeepsImplementing w known (revision_of w s) after → KeepsSeenImplementing w known (revision_of w s) after
  keeps_seen k p q is also relaid bound seen old new olds news t i = alike k p q is also relaid.path old new olds news t i
