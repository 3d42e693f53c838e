-- In a workspace without faults no name of a file is bound to what is broken, and no member is a broken method.
use Rattle.std.proofs.Common.{ℕ, ◌≡◌, inl, inr, Bool, true, false, List, [], Option, Some, None, ap, sym, subst, refl, ◌∙◌, if◌then◌else◌}
use Rattle.std.specs.Prelude.{Contains, slice_get}
use Rattle.std.specs.Cmp.Lexicographic.{bytes_decides}
use Rattle.std.proofs.lemmas.Bool.{cases_Bool, true≢false}
use Rattle.std.proofs.lemmas.Option.{none-some, same_Some}
use Rattle.base_files.specs.Packages.{package_paths}
use Rattle.base_files.specs.Workspace.{Workspace}
use Rattle.go_ast.specs.SourceFile.{SourceFile, spelling_of}
use Rattle.types_expr.specs.declared.symbol.Symbol.{Symbol}
use Rattle.types_expr.specs.Types.{Signature, same_path}
use Rattle.types_expr.specs.World.{World, Bound, Local, Means, BrokenVariable, BrokenFunction, BrokenType, ABrokenMethod, Field, Method, Definition, is_seen}
use Rattle.types_expr.specs.World.{seen_method, method_of, a_method, first_member, field_of, field_owner, owner, member_by}
use Rattle.types_declared.specs.MeaningOf.{PredeclaredMeans, a_type, a_truth, an_untruth, a_nil, a_function, IsMeaningOf, HasSignature}
use Rattle.types_declared.specs.MeaningOf as bound
use Rattle.types_declared.specs.Definitions.{IsFoundSignature, IsFoundMethod, IsDefinition, AreDefinitions}
use Rattle.types_declared.specs.Package.{Package, ExportData, Export, package_types, symbol_in}
use Rattle.types_info.specs.Worlds.{IsWorldOf, IsName, is_bound, is_unbound, by_scope, by_package}
use Rattle.types_check.specs.Exports.{IsExportData, IsExported}
use Rattle.workspace_check.specs.FaultLists.{ListsFaults}
use Rattle.workspace_check.specs.Verdicts.{Verdicts, AreVerdicts, IsSeenAs, seen, unseen, IsPackageIn}
use Rattle.workspace_check.proofs.Closed.{to_package}
use Rattle.workspace_check.proofs.OneList.{checked_package}
use Rattle.refs_binding.specs.Uses.{IsCheckedPackage}
use Rattle.refs_binding.proofs.Alike.{package_for}
use Rattle.law_faultless.specs.Worlds.{HaveAllWorlds}
use Rattle.law_faultless.specs.Unbroken.{IsUnbroken}
use Rattle.law_faultless.proofs.Named.{IsTyped, typed_kind, constant, no_value}
use Rattle.law_faultless.proofs.WholeBound.{none_broken, variable_whole, function_whole}

-- it is nothing broken, and a value that can be assigned has a type
abbrev IsFine : Bound → Type 0
IsFine (Local d) = Unit {0}
IsFine (Means m) = IsTyped m
IsFine BrokenVariable = ⊥
IsFine BrokenFunction = ⊥
IsFine BrokenType = ⊥

predeclared_fine : {name : List ℕ} {m : _} → PredeclaredMeans name m → IsTyped m
predeclared_fine (a_type b) = no_value (λ k q. cc)
predeclared_fine a_truth = constant
predeclared_fine an_untruth = constant
predeclared_fine a_nil = constant
predeclared_fine (a_function b) = no_value (λ k q. cc)

module _ (w : Workspace) (sound : ListsFaults w []) (known : Verdicts) (right : AreVerdicts w known)
    (worlds : HaveAllWorlds w known) where
  meant_fine : (p : Package) → IsCheckedPackage w known p → (d : ℕ) (b : Bound) → IsMeaningOf p d b → IsFine b
  meant_fine p is d _ (bound.predeclared x means) = predeclared_fine means
  meant_fine p is d _ (bound.import_name x) = no_value (λ k q. cc)
  meant_fine p is d _ (bound.local x) = tt
  meant_fine p is d _ (bound.variable x t) = typed_kind
  meant_fine p is d _ (bound.broken_variable {v = v} x none) =
      let t = variable_whole w sound known right p is (worlds p is) x.1.0 v x.1.1.1 in none t.0 t.1
  meant_fine p is d _ (bound.function x s) = no_value (λ k q. cc)
  meant_fine p is d _ (bound.broken_function {f = f} x none) =
      let s = function_whole w sound known right p is (worlds p is) x.1.0 f x.1.1.1 in none s.0 s.1
  meant_fine p is d _ (bound.definition x r whole) = no_value (λ k q. cc)
  meant_fine p is d _ (bound.broken_definition {rank} x r broken) = none_broken w sound known right p is (worlds p is) rank broken

  -- what another package exports

  other_package : (q : List ℕ) (has : Contains (package_paths w) q) → IsCheckedPackage w known (checked_package w sound q has).checked
  other_package q has =
      let x = checked_package w sound q has in
      let path : x.checked.path ≡ q = ap (λ (c : Package). c.path) x.is_package.is_package.is_package in
      package_for w sound.known known sound.right right x.checked
      (record {
        of_workspace = subst (Contains (package_paths w)) (sym path) has;
        is_checked = subst (λ k. IsPackageIn w sound.known k x.checked) (sym path) x.is_package;
      })

  export_fine : (r q name : List ℕ) (n : Option (List ℕ)) (i : ExportData) → IsSeenAs w sound.known r q n i → (e : Export) → i.exported name ≡ Some e →
      IsFine (Means e.meaning)
  export_fine r q name _ _ (seen on sees) e found =
      let has = to_package w r q on.imported in
      let x = checked_package w sound q has in
      let o = subst (IsExported x.checked name) found (x.is_export_data.exported name) in
      meant_fine x.checked (other_package q has) o.declaration (Means e.meaning) o.by_declaration.means
  export_fine r q name _ _ (unseen none) e found = absurd (none-some e found)

  -- a definition has no broken method
  HasWholeMethods : Definition → Type 0
  HasWholeMethods d = (name : List ℕ) (m : Method) → d.method name ≡ Some m → m.signature ≡ None → ⊥

  definition_fine : (p : Package) → IsCheckedPackage w known p → (rank : ℕ) (d : Definition) → IsDefinition p rank d → HasWholeMethods d
  unfolding HasWholeMethods
  definition_fine p is rank d h name m found none =
      let x = subst (IsFoundMethod p rank name) found (h.methods name) in
      let s = function_whole w sound known right p is (worlds p is) m.symbol.rank x.0 x.1.is_method.has_rank in
      let unsigned : (z : Signature) → HasSignature p x.0 z → ⊥ = subst (IsFoundSignature p x.0) none x.2 in unsigned s.0 s.1

  nothing_fine : (d : Definition) → ((name : List ℕ) → d.method name ≡ None) → HasWholeMethods d
  unfolding HasWholeMethods
  nothing_fine d h name m found none = none-some m (sym (h name) ∙ found)

  export_data_fine : (r q : List ℕ) (n : Option (List ℕ)) (i : ExportData) → IsSeenAs w sound.known r q n i → (rank : ℕ) → HasWholeMethods (i.definition rank)
  export_data_fine r q _ _ (seen on sees) rank =
      let has = to_package w r q on.imported in
      let x = checked_package w sound q has in by_type x.checked (other_package q has) (sound.known q).export_data x.is_export_data rank (slice_get
      (package_types x.checked) rank) refl
    where
      by_type : (c : Package) → IsCheckedPackage w known c → (i : ExportData) → IsExportData c i → (rank : ℕ) → (o : Option _) →
          slice_get (package_types c) rank ≡ o →
          HasWholeMethods (i.definition rank)
      by_type c is i h rank None e = subst HasWholeMethods (sym (h.beyond rank e)) (nothing_fine _ (λ name. refl))
      by_type c is i h rank (Some d) e = definition_fine c is rank (i.definition rank) (h.definitions rank d e)
  export_data_fine r q _ _ (unseen none) rank = nothing_fine _ (λ name. refl)

  module _ (p : Package) (is : IsCheckedPackage w known p) where
    pub seen_export_data : (q : List ℕ) → (n : Option (List ℕ)) × IsSeenAs w sound.known p.path q n (p.export_data_of q)
    seen_export_data q =
        let own = package_for w known sound.known right sound.right p is in
        let h = own.is_checked in
        let export_table : h.export_data_of ≡ p.export_data_of = sym (ap (λ (x : Package). x.export_data_of) h.is_package.is_package) in
        (h.name_of q, subst (λ (i : List ℕ → ExportData). IsSeenAs w sound.known p.path q (h.name_of q) (i q)) export_table (h.are_seen q))

    name_fine : (file n : ℕ) (b : Bound) → IsName p file n b → IsFine b
    name_fine file n b (is_bound (by_scope {declaration = d} binds m)) = meant_fine p is d b m
    name_fine file n _ (is_bound (by_package {e} x)) =
        let o = x.exported.of_import in
        let i = seen_export_data o.path in export_fine p.path o.path _ i.0 (p.export_data_of o.path) i.1 e o.exported
    name_fine file n _ (is_unbound none) = no_value (λ k q. cc)

    one_definition : (defs : Symbol → Definition) → AreDefinitions p defs → (s : Symbol) → HasWholeMethods (defs s)
    one_definition defs are s = elim (cases_Bool (same_path p.path s.package)) [
      | inl e ↦
          let path : p.path ≡ s.package = (bytes_decides p.path s.package).0 e in
          subst (λ q. HasWholeMethods (defs (record { «package» = q; rank = s.rank }))) path (own_definition defs are s.rank (slice_get
          (package_types p) s.rank) refl)
      | inr e ↦
          let other : s.package ≡ p.path → ⊥ = λ q. true≢false (sym ((bytes_decides p.path s.package).1 (sym q)) ∙ e) in
          let i = seen_export_data s.package in
          subst HasWholeMethods (sym (are.imported s.package s.rank other)) (export_data_fine p.path s.package i.0 (p.export_data_of s.package) i.1 s.rank)
    ]
      where
        own_definition : (defs : Symbol → Definition) → AreDefinitions p defs → (rank : ℕ) → (o : Option _) → slice_get (package_types p) rank ≡ o →
            HasWholeMethods (defs (symbol_in p rank))
        own_definition defs are rank None e = subst HasWholeMethods (sym (are.beyond rank e)) (nothing_fine _ (λ name. refl))
        own_definition defs are rank (Some d) e = definition_fine p is rank (defs (symbol_in p rank)) (are.own rank d e)

    broken_member : (f : Option Field) (m : Option Method) (s : Symbol) → first_member f m ≡ Some (ABrokenMethod s) →
        (x : Method) × ((m ≡ Some x) × (x.signature ≡ None))
    broken_member (Some f) m s e = let z : ⊥ = cc in absurd z
    broken_member None None s e = absurd (none-some (ABrokenMethod s) e)
    broken_member None (Some x) s e = (
      x,
      (
        refl,
        unsigned x.symbol x.on_pointer x.signature (same_Some (a_method x.symbol x.on_pointer x.signature)
            (ABrokenMethod s) e),
      ),
    )
      where
        unsigned : (y : Symbol) (on_pointer : Bool) (o : Option Signature) → a_method y on_pointer o ≡ ABrokenMethod s → o ≡ None
        unsigned y on_pointer None q = refl
        unsigned y on_pointer (Some g) q = let z : ⊥ = cc in absurd z

    method_seen : (own : List ℕ) (o : Option Method) (x : Method) → seen_method own o ≡ Some x → o ≡ Some x
    method_seen own None x e = absurd (none-some x e)
    method_seen own (Some m) x e = by_test (is_seen own m.symbol m.exported) e
      where
        by_test : (b : Bool) → (if b then Some m else None) ≡ Some x → Some m ≡ Some x
        by_test true q = q
        by_test false q = absurd (none-some x q)

    method_whole : (defs : Symbol → Definition) → AreDefinitions p defs → (name : List ℕ) (o : Option Symbol) (x : Method) →
        method_of defs p.path name o ≡ Some x →
        x.signature ≡ None → ⊥
    unfolding HasWholeMethods
    method_whole defs are name None x e none = none-some x e
    method_whole defs are name (Some y) x e none = one_definition defs are y name x (method_seen p.path ((defs y).method name) x e) none

    pub world_unbroken : (file : ℕ) (s : SourceFile) (v : World) → IsWorldOf p file s v → IsUnbroken v
    unfolding member_by
    world_unbroken file s v judged = record {
      types = λ n e. subst IsFine e (name_fine file n (v.bound n) (judged.names n));
      variables = λ n e. subst IsFine e (name_fine file n (v.bound n) (judged.names n));
      functions = λ n e. subst IsFine e (name_fine file n (v.bound n) (judged.names n));
      methods = λ n t x e.
          let defs = judged.definitions in
          let m = broken_member (field_of defs p.path (spelling_of s n) (field_owner (λ z. (defs z).underlying) t))
          (method_of defs p.path (spelling_of s n) (owner t)) x (sym (judged.member n t) ∙ e) in
          method_whole defs judged.are_definitions (spelling_of s n) (owner t) m.0 m.1.0 m.1.1;
      typed = λ n k e. subst IsFine e (name_fine file n (v.bound n) (judged.names n)) k refl;
    }
