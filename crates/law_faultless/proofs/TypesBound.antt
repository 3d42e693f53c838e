-- In a file without faults of types each Type in a declaration names a type, and a receiver a definition of the package.
use Rattle.std.proofs.Common.{ℕ, suc, ◌≡◌, ◌<◌, ◌⊎◌, inl, inr, Bool, true, false, if◌then◌else◌}
use Rattle.std.proofs.Common.{List, [], ◌∷◌, ◌++◌, length, map, ap, sym, subst, refl, ◌∙◌, arith}
use Rattle.std.specs.Prelude.{Some, slice_get, option_map}
use Rattle.std.specs.List.{AllByRecursion}
use Rattle.std.proofs.lemmas.Option.{slice_get-map, slice_get_within}
use Rattle.base_files.specs.Workspace.{Workspace}
use Rattle.go_ast.specs.SourceFile.{SourceFile, spelling_of}
use Rattle.go_ast.specs.Tree.{TypeTree, ReceiverTree}
use Rattle.go_ast.specs.Tree as tree
use Rattle.go_scope.specs.declared.model.Position.{Position}
use Rattle.go_scope.specs.declared.model.Purpose.TheVariants as purpose
use Rattle.go_scope.specs.declared.model.Role.{Role}
use Rattle.go_scope.specs.declared.model.Role.TheVariants.{Use, NotLexical}
use Rattle.go_scope.specs.Bindings.{Layout, is_implied}
use Rattle.go_scope.specs.FileSites.{file_sites, package_sites}
use Rattle.go_scope.specs.Named.{is_unnamed_import}
use Rattle.go_scope.specs.SpelledFiles.{spelled_file}
use Rattle.go_scope.specs.Packages.{scoped, layout_in}
use Rattle.go_scope.specs.ExpressionSites.{type_sites}
use Rattle.go_scope.specs.Site.{Site, TokenSpellings, or_blank, site}
use Rattle.go_scope.specs.Table.{LiesAt}
use Rattle.law_tokens.proofs.Lexical.{never_bound}
use Rattle.law_tokens.proofs.Ordered.{same_length}
use Rattle.law_tokens.proofs.Places.{named_stands}
use Rattle.types_expr.specs.declared.symbol.Symbol.{Symbol}
use Rattle.types_expr.specs.Types.{PlainType, BasicType, Defined, Pointer, Slice, Meaning, Value, TypeName, Function, BuiltinName, Results, Broken}
use Rattle.types_expr.specs.Types.{takes_no_methods}
use Rattle.types_expr.specs.Types.{Package as PackageName}
use Rattle.types_expr.specs.World.{World, Bound, Local, Means, BrokenVariable, BrokenFunction, BrokenType}
use Rattle.types_expr.specs.Judge.{good_type, no_type_at, named_type, imported_type, judge_type}
use Rattle.types_stmt.specs.Headers.{may_receive, receiver_or_fault, receiver_base, judge_receiver}
use Rattle.law_typing.proofs.Judgements.{empty_first, empty_second}
use Rattle.law_typing.proofs.Headers.{star_faults}
use Rattle.types_declared.specs.Package.{Package, symbol_in}
use Rattle.types_declared.specs.Written.{BindsToken, IsPredeclared, IsExportAt, basic_name, DenotesType, predeclared, defined, imported, pointer, slice}
use Rattle.types_declared.specs.MeaningOf.{PredeclaredMeans, a_type, a_truth, an_untruth, a_nil, a_function, IsMeaningOf}
use Rattle.types_declared.specs.MeaningOf as bound
use Rattle.types_info.specs.Worlds.{DenotesExport, IsName, is_bound, is_unbound, by_scope, by_package}
use Rattle.workspace_check.specs.Verdicts.{Verdicts, IsPackageIn}
use Rattle.law_tokens.proofs.OwnPaths.{part_at}
use Rattle.refs_lookup.proofs.OnePlace.{names_of, laid_of, same_layout, same_size, same_files}
use Rattle.refs_lookup.proofs.Apart.{all_as}
use Rattle.refs_lookup.proofs.BoundUsedMembers.{file_at, told_at}
use Rattle.law_faultless.proofs.Sites.{IsNumbered, all_numbered, role_stays}
use Rattle.law_faultless.proofs.Sound.{IsSound}
use Rattle.law_faultless.proofs.Tight.{IsTight}
use Rattle.law_faultless.proofs.Uses.{OfType}

-- what is bound where a Type has no fault

abbrev NamesType : Bound → Type 0
NamesType b = ((t : PlainType) × (b ≡ Means (TypeName t))) ⊎ (b ≡ BrokenType)

no_fault : {A : Type 0} {p : ℕ} {ps : List ℕ} → p ∷ ps ≡ [] → A
no_fault e = let z : ⊥ = cc in absurd z

named_bound : (b : Bound) (n : ℕ) → (named_type b n).faults ≡ [] → NamesType b
unfolding named_type
named_bound (Means (TypeName t)) n h = inl (t, refl)
named_bound BrokenType n h = inr refl
named_bound (Means (Value k a)) n h = no_fault h
named_bound (Means (Function s)) n h = no_fault h
named_bound (Means (BuiltinName b)) n h = no_fault h
named_bound (Means PackageName) n h = no_fault h
named_bound (Means (Results ts)) n h = no_fault h
named_bound (Means Broken) n h = no_fault h
named_bound (Local d) n h = no_fault h
named_bound BrokenVariable n h = no_fault h
named_bound BrokenFunction n h = no_fault h

imported_bound : (v : World) (b : Bound) (q n : ℕ) → (imported_type v b q n).faults ≡ [] → (named_type (v.bound n) n).faults ≡ []
unfolding imported_type
imported_bound v (Means PackageName) q n h = h
imported_bound v (Means (TypeName t)) q n h = no_fault h
imported_bound v (Means (Value k a)) q n h = no_fault h
imported_bound v (Means (Function s)) q n h = no_fault h
imported_bound v (Means (BuiltinName b)) q n h = no_fault h
imported_bound v (Means (Results ts)) q n h = no_fault h
imported_bound v (Means Broken) q n h = no_fault h
imported_bound v (Local d) q n h = no_fault h
imported_bound v BrokenVariable q n h = no_fault h
imported_bound v BrokenFunction q n h = no_fault h
imported_bound v BrokenType q n h = no_fault h

received_bound : (v : World) (r : ReceiverTree) → (judge_receiver v r).faults ≡ [] → NamesType (v.bound r.type_name)
unfolding judge_receiver receiver_base
received_bound v r h =
    let j = named_type (v.bound r.type_name) r.type_name in
    named_bound (v.bound r.type_name) r.type_name
    (empty_first j.faults (receiver_or_fault v r.type_name j.type_of).faults (sym (star_faults r.star (receiver_base v r.type_name)) ∙ h))

may_be_received : (v : World) (place : ℕ) (t : PlainType) → (receiver_or_fault v place (Some t)).faults ≡ [] → (s : Symbol) × (t ≡ Defined s)
unfolding receiver_or_fault may_receive
may_be_received v place (Defined s) h = (s, refl)
may_be_received v place (BasicType b) h = no_fault h
may_be_received v place (Pointer t) h = no_fault h
may_be_received v place (Slice t) h = no_fault h

received_type : (v : World) (r : ReceiverTree) (t : PlainType) → v.bound r.type_name ≡ Means (TypeName t) → (judge_receiver v r).faults ≡ [] →
    (s : Symbol) × (t ≡ Defined s)
unfolding judge_receiver receiver_base named_type
received_type v r t e h =
    let n = r.type_name in
    let j = named_type (v.bound n) n in
    let all : j.faults ++ (receiver_or_fault v n j.type_of).faults ≡ [] = sym (star_faults r.star (receiver_base v n)) ∙ h in
    may_be_received v n t
    (subst (λ b. (receiver_or_fault v n (named_type b n).type_of).faults ≡ []) e (empty_second j.faults (receiver_or_fault v n j.type_of).faults all))

-- a method may have a receiver of this type
takes_by : (s : Symbol) (place : ℕ) (none : Bool) → (if (if none then false else true) then good_type (Defined s) else no_type_at place).faults ≡ [] →
    none ≡ false
takes_by s place true h = no_fault h
takes_by s place false h = refl

may_take : (v : World) (place : ℕ) (s : Symbol) → (receiver_or_fault v place (Some (Defined s))).faults ≡ [] → takes_no_methods (v.definition s) ≡ false
unfolding receiver_or_fault may_receive
may_take v place s h = takes_by s place (takes_no_methods (v.definition s)) h

pub received_takes : (v : World) (r : ReceiverTree) (s : Symbol) → v.bound r.type_name ≡ Means (TypeName (Defined s)) → (judge_receiver v r).faults ≡ [] →
    takes_no_methods (v.definition s) ≡ false
unfolding judge_receiver receiver_base named_type
received_takes v r s e h =
    let n = r.type_name in
    let j = named_type (v.bound n) n in
    let all : j.faults ++ (receiver_or_fault v n j.type_of).faults ≡ [] = sym (star_faults r.star (receiver_base v n)) ∙ h in
    may_take v n s
    (subst (λ b. (receiver_or_fault v n (named_type b n).type_of).faults ≡ []) e (empty_second j.faults (receiver_or_fault v n j.type_of).faults all))

-- a predeclared name that means a type
predeclared_type : {name : List ℕ} {m : Meaning} (t : PlainType) → PredeclaredMeans name m → m ≡ TypeName t →
    (b : _) × ((name ≡ basic_name b) × (t ≡ BasicType b))
predeclared_type t (a_type b) e = (b, (refl, (let same : t ≡ BasicType b = cc in same)))
predeclared_type t a_truth e = let z : ⊥ = cc in absurd z
predeclared_type t an_untruth e = let z : ⊥ = cc in absurd z
predeclared_type t a_nil e = let z : ⊥ = cc in absurd z
predeclared_type t (a_function b) e = let z : ⊥ = cc in absurd z

-- what the name is bound to is that type, or it is the type of a definition
abbrev IsTold : Bound → PlainType → Type 0
IsTold b t = (b ≡ Means (TypeName t)) ⊎ ((s : Symbol) × (t ≡ Defined s))

module _ (p : Package) (file n : ℕ) where
  -- the type that a declaration is
  declared_type : (d : ℕ) → BindsToken p file n d → (b : Bound) → IsMeaningOf p d b → NamesType b →
      (t : PlainType) × (DenotesType p file (tree.Local n) t × IsTold b t)
  declared_type d binds _ (bound.predeclared {name} {m} is means) (inl x) =
      let same : m ≡ TypeName x.0 = let e : Means m ≡ Means (TypeName x.0) = x.1 in cc in
      let q = predeclared_type x.0 means same in
      (BasicType q.0, (predeclared q.0 binds (subst (IsPredeclared p d) q.1.0 is), inl (ap Means (same ∙ ap TypeName q.1.1))))
  declared_type d binds _ (bound.predeclared is means) (inr e) = let z : ⊥ = cc in absurd z
  declared_type d binds _ (bound.import_name is) (inl x) = let e = x.1 in let z : ⊥ = cc in absurd z
  declared_type d binds _ (bound.import_name is) (inr e) = let z : ⊥ = cc in absurd z
  declared_type d binds _ (bound.local is) (inl x) = let e = x.1 in let z : ⊥ = cc in absurd z
  declared_type d binds _ (bound.local is) (inr e) = let z : ⊥ = cc in absurd z
  declared_type d binds _ (bound.variable is t) (inl x) = let e = x.1 in let z : ⊥ = cc in absurd z
  declared_type d binds _ (bound.variable is t) (inr e) = let z : ⊥ = cc in absurd z
  declared_type d binds _ (bound.broken_variable is t) (inl x) = let e = x.1 in let z : ⊥ = cc in absurd z
  declared_type d binds _ (bound.broken_variable is t) (inr e) = let z : ⊥ = cc in absurd z
  declared_type d binds _ (bound.function is s) (inl x) = let e = x.1 in let z : ⊥ = cc in absurd z
  declared_type d binds _ (bound.function is s) (inr e) = let z : ⊥ = cc in absurd z
  declared_type d binds _ (bound.broken_function is s) (inl x) = let e = x.1 in let z : ⊥ = cc in absurd z
  declared_type d binds _ (bound.broken_function is s) (inr e) = let z : ⊥ = cc in absurd z
  declared_type d binds _ (bound.definition {rank} level r whole) h = (Defined (symbol_in p rank), (defined binds r, inr (symbol_in p rank, refl)))
  declared_type d binds _ (bound.broken_definition {rank} level r broken) h = (Defined (symbol_in p rank), (defined binds r, inr (symbol_in p rank, refl)))

-- an identifier stands at that token of a file, and has that role
abbrev pub Stands : Package → (file token : ℕ) → Role → Type 0
Stands p file n r = (u : ℕ) × ((u < p.size) × (LiesAt p.layout (record { file = file; index = n }) u × (p.layout.role u ≡ r)))

-- each identifier of a file stands in the package
abbrev pub Kept : Package → ℕ → Site → Type 0
Kept p file x = is_unnamed_import x.role ≡ false → Stands p file x.place.index x.role

module _ (w : Workspace) (known : Verdicts) (path : List ℕ) (p : Package) (h : IsPackageIn w known path p) where
  kept : (file : ℕ) (x : Site) → IsNumbered (map spelled_file h.files) file x → Kept p file x
  unfolding package_sites
  kept file x n plain =
      let names = names_of w known path p h in
      let sites = (scoped h.files).sites in
      let at : Position = record { file = file; index = x.place.index } in
      let found : or_blank (slice_get sites n.number) ≡ x = ap or_blank n.has_number in
      let there : LiesAt (layout_in (scoped h.files)) at n.number =
      (ap (λ (y : Site). is_implied y.role) found ∙ n.identifies, ap (λ (y : Site). y.place.file) found ∙ n.in_file, ap (λ (y : Site). y.place.index) found) in
      let laid : LiesAt (layout_in (laid_of w known path p h)) at n.number = named_stands names (scoped h.files) at n.number there in
      let within : n.number < length sites = slice_get_within sites n.number x n.has_number in
      let stays = role_stays names sites n.number (ap (λ (y : Site). is_unnamed_import y.role) found ∙ plain) in
      let role : (layout_in (laid_of w known path p h)).role n.number ≡ x.role = stays ∙ ap (λ (y : Site). y.role) found in (
        n.number,
        (
          subst (λ k. n.number < k) (sym (same_length names sites) ∙ sym (same_size w known path p h)) within,
          (
            subst (λ (l : Layout). LiesAt l at n.number) (sym (same_layout w known path p h)) laid,
            subst (λ (l : Layout). l.role n.number ≡ x.role) (sym (same_layout w known path p h)) role,
          ),
        ),
      )

  pub all_kept : (file : ℕ) (s : SourceFile) → slice_get p.files file ≡ Some s →
      AllByRecursion (Kept p file) (file_sites (record { rank = file; spell = spelling_of s }) s.tree)
  all_kept file s is =
      let t = part_at h.files file s (subst (λ xs. slice_get xs file ≡ Some s) (same_files w known path p h) is) in
      let fs = map spelled_file h.files in
      let got : slice_get fs file ≡ Some (spelled_file t.0) = slice_get-map spelled_file h.files file ∙ ap (option_map spelled_file) t.1.0 in
      let source : TokenSpellings = record { rank = file; spell = (spelled_file t.0).spell } in
      subst (λ (z : SourceFile). AllByRecursion (Kept p file) (file_sites (record { rank = file; spell = spelling_of z }) z.tree)) t.1.1
      (all_as (IsNumbered fs file) (Kept p file) (kept file) (file_sites source (spelled_file t.0).tree) (all_numbered fs file (spelled_file t.0) got))

  -- at a token that holds a lexical use no name is selected, and where one is selected none is bound by scope

  tokens_tell : (file n u : ℕ) → u < p.size → LiesAt p.layout (record { file = file; index = n }) u → p.layout.role u ≡ NotLexical purpose.Selected →
      (e : ℕ) → e < p.size → LiesAt p.layout (record { file = file; index = n }) e → p.layout.role e ≡ NotLexical purpose.Selected
  tokens_tell file n u lt stands role e less there =
      let at : Position = record { file = file; index = n } in
      let t = file_at w known path p h at u lt stands in
      let dotted = (told_at w known path p h at u lt stands t.0 t.1).selected.0 role in
      (told_at w known path p h at e less there t.0 t.1).selected.1 dotted

  none_selected : (file n : ℕ) → Stands p file n Use → (e : _) → DenotesExport p file n e → ⊥
  none_selected file n u e x =
      let role = tokens_tell file n x.identifier x.found.within x.found.holds x.selected u.0 u.1.0 u.1.1.0 in
      let same : Use ≡ NotLexical purpose.Selected = sym u.1.1.1 ∙ role in
      let z : ⊥ = cc in z

  pub none_by_scope : (file n : ℕ) → Stands p file n (NotLexical purpose.Selected) → (d : ℕ) → BindsToken p file n d → ⊥
  none_by_scope file n u d binds =
      let role = tokens_tell file n u.0 u.1.0 u.1.1.0 u.1.1.1 binds.identifier binds.found.within binds.found.holds in
      never_bound p.layout p.names binds.identifier d purpose.Selected role binds.bound

  -- Types

  local_named : (file n : ℕ) → Stands p file n Use → (b : Bound) → IsName p file n b → NamesType b →
      (t : PlainType) × (DenotesType p file (tree.Local n) t × IsTold b t)
  local_named file n u b (is_bound (by_scope {declaration = d} binds m)) k = declared_type p file n d binds b m k
  local_named file n u _ (is_bound (by_package {e} x)) k = absurd (none_selected file n u e x)
  local_named file n u _ (is_unbound x) (inl k) = let e = k.1 in let z : ⊥ = cc in absurd z
  local_named file n u _ (is_unbound x) (inr e) = let z : ⊥ = cc in absurd z

  imported_named : (file q d n : ℕ) → suc (suc q) ≡ n → Stands p file n (NotLexical purpose.Selected) → (b : Bound) → IsName p file n b → NamesType b →
      (t : PlainType) × DenotesType p file (tree.Imported q d n) t
  imported_named file q d n tight u b (is_bound (by_scope {declaration} binds m)) k = absurd (none_by_scope file n u declaration binds)
  imported_named file q d n tight u _ (is_bound (by_package {e} x)) (inl k) =
      let behind : n ≡ suc (suc x.before) = x.behind_dot in
      let same : x.before ≡ q = omega arith in
      let meaning : e.meaning ≡ TypeName k.0 = let i : Means e.meaning ≡ Means (TypeName k.0) = k.1 in cc in
      (k.0, imported (record { export = e; exported = subst (λ i. IsExportAt p file i n e) same x.exported; is_type = meaning }))
  imported_named file q d n tight u _ (is_bound (by_package x)) (inr e) = let z : ⊥ = cc in absurd z
  imported_named file q d n tight u _ (is_unbound x) (inl k) = let e = k.1 in let z : ⊥ = cc in absurd z
  imported_named file q d n tight u _ (is_unbound x) (inr e) = let z : ⊥ = cc in absurd z

  module _ (file : ℕ) (v : World) (names : (token : ℕ) → IsName p file token (v.bound token)) (source : TokenSpellings) where
    pub type_named : (x : TypeTree) → IsSound v x → IsTight x → OfType source (Kept p file) x → (t : PlainType) × DenotesType p file x t
    unfolding judge_type type_sites
    type_named (tree.Local n) f tight k = let t = local_named file n (k.0 refl) (v.bound n) (names n) (named_bound (v.bound n) n f) in (t.0, t.1.0)
    type_named (tree.Imported q d n) f tight k =
        imported_named file q d n tight (k.1.0 refl) (v.bound n) (names n) (named_bound (v.bound n) n (imported_bound v (v.bound q) q n f))
    type_named (tree.Pointer s x) f tight k = let t = type_named x f tight k in (Pointer t.0, pointer t.1)
    type_named (tree.Slice o c x) f tight k = let t = type_named x f tight k in (Slice t.0, slice t.1)

    -- receivers
    pub receiver_named : (r : ReceiverTree) → (judge_receiver v r).faults ≡ [] → Kept p file (site source r.type_name Use) →
        (t : PlainType) × (DenotesType p file (tree.Local r.type_name) t × ((s : Symbol) × (t ≡ Defined s)))
    receiver_named r f k =
        let t = local_named file r.type_name (k refl) (v.bound r.type_name) (names r.type_name) (received_bound v r f) in
        (t.0, (t.1.0, elim t.1.1 [ inl e ↦ received_type v r t.0 e f | inr s ↦ s ]))
