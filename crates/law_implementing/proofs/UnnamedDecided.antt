-- Nothing stands against the rename of an import without a name exactly where it preserves bindings and implementing types: type definitions
-- stay where the import gets the name that it declares already, and are kept where it gets the new one.
use Rattle.std.proofs.Common.{ℕ, ◌≡◌, ◌⊎◌, inl, inr, List, [], Some, ap, refl, sym, subst, ◌∙◌}
use Rattle.std.specs.Prelude.{◌↔◌, Contains, option_map, slice_get}
use Rattle.std.proofs.Math.Path.{fun_ext}
use Rattle.std.proofs.lemmas.Option.{slice_get-map}
use Rattle.base_edits.specs.EditSet.{FileChanges, edited}
use Rattle.base_edits.specs.Moved.{moved}
use Rattle.base_edits.specs.Revisions.{Revision}
use Rattle.base_edits.specs.RevisionsOfEdits.{revision_of}
use Rattle.base_files.specs.Packages.{package_paths}
use Rattle.base_files.specs.Workspace.{Workspace}
use Rattle.base_files.specs.declared.place.Place.{Place}
use Rattle.go_scope.specs.declared.model.Block.TheVariants.{File}
use Rattle.go_scope.specs.declared.model.Block.TheVariants.{Package as PackageBlock}
use Rattle.go_scope.specs.Bindings.{IsPackageLevel}
use Rattle.law_rename.specs.Gained.{moved_by}
use Rattle.types_declared.proofs.ByteKeys.{cases_bytes}
use Rattle.types_expr.specs.declared.symbol.Symbol.{Symbol}
use Rattle.types_expr.specs.World.{Definition, Implements}
use Rattle.types_declared.specs.Package.{Package, declared_types, package_types, symbol_in, type_place}
use Rattle.workspace_check.specs.FaultLists.{ListsFaults}
use Rattle.workspace_check.specs.Verdicts.{Verdicts, AreVerdicts}
use Rattle.refs_binding.specs.declared.declaration.Declaration.TheVariants.{Declared}
use Rattle.refs_binding.specs.DeclaringPlaces.{TokenAt, TokenBegins}
use Rattle.refs_binding.specs.Uses.{IsCheckedPackage}
use Rattle.refs_binding.proofs.Alike.{package_for}
use Rattle.refs_binding.proofs.Units.{one_package}
use Rattle.refactor_conflict.specs.Staying.{NoneIsLost}
use Rattle.refactor_coupled.specs.Coupling.{type_through}
use Rattle.refactor_coupled.specs.Implementing.{IsTypeSymbol}
use Rattle.refactor_coupled.specs.Obstacles.{BecomesType, HasNoObstacle, KeepsImplementing, PreservesAll}
use Rattle.refactor_preserve.specs.Preserved.{Preserves}
use Rattle.law_changed_types.proofs.RenumberedTypesListed.{new_type, types_by}
use Rattle.law_faultless.proofs.Names.{own_name}
use Rattle.law_renamed_workspaces.proofs.SeenLookups.{all_before, before_by, listed_or_not}
use Rattle.law_agreement.specs.PlainAgreement.{ScopeRenamesAgree}
use Rattle.law_agreement.proofs.Laws.{scope_renames_agree}
use Rattle.law_gained_names.specs.NamedPackage.{numbers_of}
use Rattle.law_gained_names.specs.UnnamedRenames.{IsNamedFirst, IsUnnamedRename, StepsPreserve, UnnamedRenamesAgree}
use Rattle.law_gained_names.proofs.Alone.{alone}
use Rattle.law_gained_names.proofs.Layouts.{tokens_agree}
use Rattle.law_gained_names.proofs.Numbered as numbers
use Rattle.law_gained_names.proofs.Tokens as tokens
use Rattle.law_gained_names.proofs.UnnamedRenamesWhole.{unnamed_renames_agree}
use Rattle.law_implementing.specs.Obstacles.{ObstaclesDecide, ScopeRenamesTurnNone}
use Rattle.law_implementing.specs.UnnamedObstacles.{UnnamedObstaclesDecide}
use Rattle.law_implementing.proofs.AllDefinitions.{all_alike, are_before}
use Rattle.law_implementing.proofs.Deciding.{implementing_for, obstacles_decide, scope_renames_turn_none}
use Rattle.law_implementing.proofs.NamesKept.{unnamed_renames_turn_none}
use Rattle.law_implementing.proofs.TypesBecome.{type_home}

module _ (w : Workspace) (known : Verdicts) (p : Package) (n : ℕ) (name : List ℕ) (s : FileChanges) (h : IsUnnamedRename w known p n name s)
    (f : IsNamedFirst w known p n name s) where
  abbrev v : Workspace
  v = edited f.naming w

  abbrev q : Package
  q = f.inside

  abbrev r : Revision
  r = revision_of w s

  abbrev second : Revision
  second = revision_of (edited f.naming w) f.renaming

  abbrev sound : ListsFaults w []
  sound = h.rename.sound

  abbrev right : AreVerdicts w known
  right = h.rename.right

  abbrev then_sound : ListsFaults (edited f.naming w) []
  then_sound = f.renames.rename.rename.sound

  abbrev then_right : AreVerdicts (edited f.naming w) known
  then_right = f.renames.rename.rename.right

  -- Both workspaces have the same type definitions.

  paths : package_paths w ≡ package_paths (edited f.naming w)
  paths = f.workspace.imports.paths

  same_by : (t : Symbol) (a : Contains (package_paths w) t.package ⊎ (Contains (package_paths w) t.package → ⊥))
      (b : Contains (package_paths (edited f.naming w)) t.package ⊎ (Contains (package_paths (edited f.naming w)) t.package → ⊥)) →
      before_by w sound known right t a ≡ before_by (edited f.naming w) then_sound known then_right t b
  same_by t (inl has) (inl also) = refl
  same_by t (inr none) (inr not) = refl
  same_by t (inl has) (inr not) = absurd (not (subst (λ ps. Contains ps t.package) paths has))
  same_by t (inr none) (inl also) = absurd (none (subst (λ ps. Contains ps t.package) (sym paths) also))

  same_definitions : all_before w sound known right ≡ all_before (edited f.naming w) then_sound known then_right
  same_definitions = fun_ext (λ t. same_by t (listed_or_not (package_paths w) t.package) (listed_or_not (package_paths v) t.package))

  -- A type definition of w is one of v, and its name is where the first step moves it.

  record IsThen (t : Symbol) (place : Place) : Type 0 where
    type : IsTypeSymbol (IsCheckedPackage (edited f.naming w) known) t
    is_named : TokenAt type.inside (type_place type.definition) (moved f.naming place)

  module _ (t : Symbol) (of : IsTypeSymbol (IsCheckedPackage w known) t) (place : Place) (named : TokenAt of.inside (type_place of.definition) place) where
    then_elsewhere : (of.inside.path ≡ p.path → ⊥) → IsThen t place
    then_elsewhere away =
        let home = type_home w sound known right of.inside of.is_package of.rank of.definition of.has_rank place named in
        let still : moved f.naming place ≡ place = tokens.unmoved w known p n name s h f place (λ same. away (sym home ∙ same)) in
        record {
          type = record {
            inside = of.inside;
            is_package = numbers.other_package w known p n name s h f of.inside away of.is_package;
            rank = of.rank;
            definition = of.definition;
            has_rank = of.has_rank;
            is_symbol = of.is_symbol;
          };
          is_named = subst (TokenAt of.inside (type_place of.definition)) (sym still) named;
        }

    -- in the package of the import

    abbrev token : ℕ → ℕ → ℕ
    token = (numbers_of (numbers.gain w known p n name s h f) n).token

    module _ (has : slice_get (package_types p) of.rank ≡ Some of.definition) (here : TokenAt p (type_place of.definition) place) where
      own_token : moved_by (numbers.gain w known p n name s h f) of.definition.file of.definition.spec.name
          ≡ token of.definition.file of.definition.spec.name
      own_token =
          let d = of.definition in
          let x = own_name w sound known right p h.is_package of.rank d has in
          let import = h.unnamed.0 in
          let other : x.number ≡ n → ⊥ =
          (λ same.
          let level : PackageBlock ≡ File import.0 = sym (subst (λ k. IsPackageLevel p.layout k) same x.level) ∙ import.1 in
          let never : ⊥ = cc in
          never) in
          tokens_agree (numbers.gain w known p n name s h f) n d.file d.spec.name
          (λ file index. alone (numbers.gain w known p n name s h f) n p q f.gained.named x.number other (x.stands.1 ∙ file) (x.stands.2 ∙ index))

      has_now : slice_get (package_types q) of.rank ≡ Some (new_type token of.definition)
      has_now =
          ap (λ l. slice_get l of.rank) (types_by token p.files q.files f.gained.renumbered.files)
          ∙ slice_get-map (new_type token) (declared_types p.files) of.rank ∙ ap (option_map (new_type token)) has

      named_now : TokenAt q (type_place (new_type token of.definition)) (moved f.naming place)
      named_now =
          subst (λ k. TokenBegins (slice_get q.files of.definition.file) k (moved f.naming place)) own_token
          (tokens.tokens w known p n name s h f (type_place of.definition) place here)

      then_here : t ≡ symbol_in p of.rank → IsThen t place
      then_here symbol = record {
        type = record {
          inside = q;
          is_package = f.renames.is_package;
          rank = of.rank;
          definition = new_type token of.definition;
          has_rank = has_now;
          is_symbol = symbol ∙ ap (λ (path : List ℕ). record { «package» = path; rank = of.rank }) (sym f.gained.renumbered.path);
        };
        is_named = named_now;
      }

    then_type : IsThen t place
    then_type = elim (cases_bytes of.inside.path p.path) [
      | inr away ↦ then_elsewhere away
      | inl same ↦
          let one : of.inside ≡ p = one_package w known of.inside p of.is_package h.is_package same in
          then_here (subst (λ (z : Package). slice_get (package_types z) of.rank ≡ Some of.definition) one of.has_rank)
          (subst (λ (z : Package). TokenAt z (type_place of.definition) place) one named)
          (of.is_symbol ∙ ap (λ (z : Package). symbol_in z of.rank) one)
    ]

  -- So what the second step keeps both steps keep.

  module _ (a b : Verdicts) (right_a : AreVerdicts (edited f.renaming (edited f.naming w)) a) (right_b : AreVerdicts (edited s w) b) where
    files : edited s w ≡ edited f.renaming (edited f.naming w)
    files = f.files

    package_then : (y : Package) → IsCheckedPackage (edited s w) b y → IsCheckedPackage (edited f.renaming (edited f.naming w)) a y
    package_then y is =
        package_for (edited f.renaming v) b a (subst (λ x. AreVerdicts x b) files right_b) right_a y (subst (λ x. IsCheckedPackage x b y) files is)

    package_now : (y : Package) → IsCheckedPackage (edited f.renaming (edited f.naming w)) a y → IsCheckedPackage (edited s w) b y
    package_now y is =
        subst (λ x. IsCheckedPackage x b y) (sym files)
        (package_for (edited f.renaming v) a b right_a (subst (λ x. AreVerdicts x b) files right_b) y is)

    type_then : (t : Symbol) → IsTypeSymbol (IsCheckedPackage (edited s w) b) t →
        IsTypeSymbol (IsCheckedPackage (edited f.renaming (edited f.naming w)) a) t
    type_then t of = record {
      inside = of.inside;
      is_package = package_then of.inside of.is_package;
      rank = of.rank;
      definition = of.definition;
      has_rank = of.has_rank;
      is_symbol = of.is_symbol;
    }

    type_now : (t : Symbol) → IsTypeSymbol (IsCheckedPackage (edited f.renaming (edited f.naming w)) a) t →
        IsTypeSymbol (IsCheckedPackage (edited s w) b) t
    type_now t of = record {
      inside = of.inside;
      is_package = package_now of.inside of.is_package;
      rank = of.rank;
      definition = of.definition;
      has_rank = of.has_rank;
      is_symbol = of.is_symbol;
    }

    becomes_then : (t u : Symbol) → BecomesType (IsCheckedPackage w known) (IsCheckedPackage (edited s w) b) (revision_of w s).moved t u →
        BecomesType (IsCheckedPackage (edited f.naming w) known) (IsCheckedPackage (edited f.renaming (edited f.naming w)) a)
        (revision_of (edited f.naming w) f.renaming).moved t u
    unfolding type_then
    becomes_then t u k =
        let between = then_type t k.old k.place k.is_old in
        record {
          place = moved f.naming k.place;
          old = between.type;
          is_old = between.is_named;
          new = type_then u k.new;
          is_new = subst (TokenAt k.new.inside (type_place k.new.definition)) (f.moves k.place) k.is_new;
        }

    both : KeepsImplementing (edited f.naming w) known (revision_of (edited f.naming w) f.renaming) a → KeepsImplementing w known (revision_of w s) b
    both k =
        let old = all_before w sound known right in
        let same : k.old ≡ old =
        all_alike v then_sound known then_right k.old (all_before v then_sound known then_right) k.are_old (are_before v then_sound known then_right)
        ∙ sym same_definitions in
        record {
          old = old;
          are_old = are_before w sound known right;
          new = k.new;
          are_new = record {
            each = λ y is rank t at. k.are_new.each y (package_then y is) rank t at;
            others = λ t none. k.are_new.others t (λ of. none (type_now t of));
          };
          keeps = λ star t u i j of interface.
              subst (λ (ds : Symbol → Definition). Implements ds (type_through star t) i ↔ Implements k.new (type_through star u) j) same
              (k.keeps star t u i j (becomes_then t u of) (becomes_then i j interface));
        }

  module _ (scopes : ScopeRenamesAgree) (unnamed : UnnamedRenamesAgree) (plain : ObstaclesDecide) (turn : ScopeRenamesTurnNone)
      (steps : StepsPreserve w s f.naming f.renaming) where
    agree : NoneIsLost w known (revision_of w s) ↔ Preserves w (revision_of w s)
    agree = unnamed w known p n name s h f steps

    -- the second step preserves all, since it has no conflict
    second_all : Preserves w (revision_of w s) → PreservesAll (edited f.naming w) (revision_of (edited f.naming w) f.renaming)
    second_all kept =
        let none = (scopes v known q n name f.renaming f.renames).1 (steps.0 kept) in
        (plain v known (Declared q.path n) name f.renaming f.renames.rename).0 (none, turn v known q n name f.renaming f.renames none)

    preserves_all : HasNoObstacle w known (revision_of w s) → PreservesAll w (revision_of w s)
    preserves_all none =
        let kept = agree.0 none.0 in
        let k = second_all kept in
        let then : KeepsImplementing v known second k.bindings.after =
        implementing_for v k.bindings.before known k.bindings.right then_right second k.bindings.after k.implementing in
        record {
          bindings = kept;
          implementing =
              implementing_for w known kept.before right kept.right r kept.after
              (both k.bindings.after kept.after k.bindings.right_after kept.right_after then);
        }

    decide : HasNoObstacle w known (revision_of w s) ↔ PreservesAll w (revision_of w s)
    decide = (
      preserves_all,
      (λ k. let none = agree.1 k.bindings in (none, unnamed_renames_turn_none w known p n name s h f none)),
    )

decide_by : ScopeRenamesAgree → UnnamedRenamesAgree → ObstaclesDecide → ScopeRenamesTurnNone → UnnamedObstaclesDecide
decide_by scopes unnamed plain turn w known p n name s h f steps = decide w known p n name s h f scopes unnamed plain turn steps

pub unnamed_obstacles_decide : UnnamedObstaclesDecide
unnamed_obstacles_decide = decide_by scope_renames_agree unnamed_renames_agree obstacles_decide scope_renames_turn_none
