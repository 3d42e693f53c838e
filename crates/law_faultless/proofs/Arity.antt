-- In a workspace without faults the functions, and the methods that interfaces ask for, have arities by their names.
use Rattle.std.proofs.Common.{ℕ, zero, suc, ◌≡◌, ◌+◌, ◌<◌, ◌≤◌, ◌⊎◌, inl, inr, Bool, true, false, if◌then◌else◌, List, [], ◌∷◌, ap, sym, subst, refl, ◌∙◌}
use Rattle.std.proofs.Common.{arith}
use Rattle.std.specs.Prelude.{Contains, Option, Some, None, slice_get, bytes_eq, codes}
use Rattle.std.proofs.Math.Path.{ap₂}
use Rattle.std.proofs.lemmas.Bool.{cases_eq}
use Rattle.std.proofs.lemmas.Option.{none-some, same_Some}
use Rattle.base_files.specs.Packages.{package_paths}
use Rattle.base_files.specs.Workspace.{Workspace}
use Rattle.go_ast.specs.SourceFile.{SourceFile, spelling_of}
use Rattle.go_ast.specs.Tree.{Item, ReceiverTree, ParamTree, ResultTree}
use Rattle.types_declared.specs.Definitions.{PlacedField, WrittenForm, OfType, OfSignature, package_fields}
use Rattle.types_declared.specs.Package.{Package, PlacedFunction, package_types, package_functions, spelled_at}
use Rattle.types_declared.proofs.ByteKeys.{cases_bytes}
use Rattle.workspace_check.specs.FaultLists.{ListsFaults}
use Rattle.workspace_check.specs.Verdicts.{Verdicts, AreVerdicts, IsPackageIn}
use Rattle.workspace_check.proofs.Members.{cases_contains}
use Rattle.workspace_check.proofs.OneList.{checked_package}
use Rattle.workspace_check.proofs.OnePackage.{one_checked}
use Rattle.build_object.specs.Lines.{GlobalName, FunctionName, Plain, Method, Initializer}
use Rattle.build_object.specs.Names.{spelled_in, is_named_init, is_initializer, name_of_receiver, function_named, function_behind, initializers_with}
use Rattle.build_object.specs.Names.{functions_behind, function_names, name_of_type, all_asked_names}
use Rattle.law_faultless.specs.Stack.{Arity}
use Rattle.refs_binding.specs.Uses.{IsCheckedPackage}
use Rattle.law_faultless.proofs.PackageWorlds.{own_package}
use Rattle.law_faultless.specs.Arities.{written_arity, asked_arity, AreArities}
use Rattle.law_faultless.proofs.AskedMembers.{IsAskedBy, asked_is}
use Rattle.law_faultless.proofs.FunctionsSettled.{IsInFile, in_file_of, called_as, behind_at}
use Rattle.law_faultless.proofs.Names.{plain_apart, methods_apart, asked_apart, receives_no_interface}

-- Two names are equal or not.

abbrev Decides : FunctionName → FunctionName → Type 0
Decides a b = (a ≡ b) ⊎ (a ≡ b → ⊥)

global_as : (a b : GlobalName) → a.path ≡ b.path → a.name ≡ b.name → a ≡ b
global_as a b e k = ap₂ (λ p n. let g : GlobalName = record { path = p; name = n } in g) e k

cases_global : (a b : GlobalName) → (a ≡ b) ⊎ (a ≡ b → ⊥)
cases_global a b = elim (cases_bytes a.path b.path) [
  | inl e ↦ elim (cases_bytes a.name b.name) [
    | inl k ↦ inl (global_as a b e k)
    | inr other ↦ inr (λ q. other (ap (λ (z : GlobalName). z.name) q))
  ]
  | inr other ↦ inr (λ q. other (ap (λ (z : GlobalName). z.path) q))
]

cases_function : (a b : FunctionName) → Decides a b
cases_function (Plain g) (Plain h) = elim (cases_global g h) [ inl e ↦ inl (ap Plain e) | inr other ↦ inr (λ q. other (let same : g ≡ h = cc in same)) ]
cases_function (Method g m) (Method h n) = elim (cases_global g h) [
  | inl e ↦ elim (cases_bytes m n) [
    | inl k ↦ inl (ap₂ (λ x y. Method x y) e k)
    | inr other ↦ inr (λ q. other (let same : m ≡ n = cc in same))
  ]
  | inr other ↦ inr (λ q. other (let same : g ≡ h = cc in same))
]
cases_function (Initializer p k) (Initializer q l) = elim (cases_bytes p q) [
  | inl e ↦ elim (cases_eq k l) [
    | inl i ↦ inl (ap₂ (λ x y. Initializer x y) e i)
    | inr other ↦ inr (λ z. other (let same : k ≡ l = cc in same))
  ]
  | inr other ↦ inr (λ z. other (let same : p ≡ q = cc in same))
]
cases_function (Plain g) (Method h n) = inr (λ q. let z : ⊥ = cc in z)
cases_function (Plain g) (Initializer h n) = inr (λ q. let z : ⊥ = cc in z)
cases_function (Method g m) (Plain h) = inr (λ q. let z : ⊥ = cc in z)
cases_function (Method g m) (Initializer h n) = inr (λ q. let z : ⊥ = cc in z)
cases_function (Initializer p k) (Plain h) = inr (λ q. let z : ⊥ = cc in z)
cases_function (Initializer p k) (Method h n) = inr (λ q. let z : ⊥ = cc in z)

-- the arity of the first function of that name

abbrev no_arity : Arity
no_arity = record { parameters = 0; results = 0 }

choose : {P : Type 0} → P ⊎ (P → ⊥) → Arity → Arity → Arity
choose (inl p) a b = a
choose (inr n) a b = b

chosen : {P : Type 0} (d : P ⊎ (P → ⊥)) (a b : Arity) → P → choose d a b ≡ a
unfolding choose
chosen (inl p) a b h = refl
chosen (inr n) a b h = absurd (n h)

passed : {P : Type 0} (d : P ⊎ (P → ⊥)) (a b : Arity) → (P → ⊥) → choose d a b ≡ b
unfolding choose
passed (inl p) a b h = absurd (h p)
passed (inr n) a b h = refl

-- by the names of functions, or else `other`
found : List FunctionName → List PlacedFunction → FunctionName → Arity → Arity
found [] fs name other = other
found (n ∷ ns) [] name other = other
found (n ∷ ns) (f ∷ fs) name other = choose (cases_function n name) (written_arity f.function) (found ns fs name other)

found_at : (other : Arity) (ns : List FunctionName) (fs : List PlacedFunction) (name : FunctionName) (rank : ℕ) (f : PlacedFunction) →
    slice_get ns rank ≡ Some name → slice_get fs rank ≡ Some f →
    ((r : ℕ) (g : PlacedFunction) → r < rank → slice_get ns r ≡ Some name → slice_get fs r ≡ Some g → ⊥) → found ns fs name other ≡ written_arity f.function
unfolding found
found_at other [] fs name rank f e k first = absurd (none-some name e)
found_at other (n ∷ ns) [] name rank f e k first = absurd (none-some f k)
found_at other (n ∷ ns) (g ∷ gs) name zero f e k first =
    chosen (cases_function n name) (written_arity g.function) (found ns gs name other) (same_Some n name e) ∙
    ap (λ (z : PlacedFunction). written_arity z.function) (same_Some g f k)
found_at other (n ∷ ns) (g ∷ gs) name (suc rank) f e k first =
    passed (cases_function n name) (written_arity g.function) (found ns gs name other) (λ same. first 0 g (omega arith) (ap (λ z. Some z) same) refl) ∙
    found_at other ns gs name rank f e k (λ r h less at there. first (suc r) h (omega arith) at there)

none_found : (other : Arity) (ns : List FunctionName) (fs : List PlacedFunction) (name : FunctionName) →
    ((r : ℕ) (g : PlacedFunction) → slice_get ns r ≡ Some name → slice_get fs r ≡ Some g → ⊥) → found ns fs name other ≡ other
unfolding found
none_found other [] fs name none = refl
none_found other (n ∷ ns) [] name none = refl
none_found other (n ∷ ns) (g ∷ gs) name none =
    passed (cases_function n name) (written_arity g.function) (found ns gs name other) (λ same. none 0 g (ap (λ z. Some z) same) refl) ∙
    none_found other ns gs name (λ r h at there. none (suc r) h at there)

-- by the names of methods that interfaces ask for

cases_asked : (o : Option FunctionName) (name : FunctionName) → (o ≡ Some name) ⊎ (o ≡ Some name → ⊥)
cases_asked None name = inr (λ e. none-some name e)
cases_asked (Some n) name = elim (cases_function n name) [
  | inl e ↦ inl (ap (λ (z : FunctionName). Some z) e)
  | inr other ↦ inr (λ e. other (same_Some n name e))
]

form_arity : WrittenForm → Arity
form_arity (OfType t) = no_arity
form_arity (OfSignature ps r) = asked_arity ps r

found_asked : List (Option FunctionName) → List PlacedField → FunctionName → Arity
found_asked [] fs name = no_arity
found_asked (o ∷ os) [] name = no_arity
found_asked (o ∷ os) (f ∷ fs) name = choose (cases_asked o name) (form_arity f.form) (found_asked os fs name)

asked_at : (os : List (Option FunctionName)) (fs : List PlacedField) (name : FunctionName) (rank : ℕ) (f : PlacedField) →
    slice_get os rank ≡ Some (Some name) → slice_get fs rank ≡ Some f →
    ((r : ℕ) (g : PlacedField) → r < rank → slice_get os r ≡ Some (Some name) → slice_get fs r ≡ Some g → ⊥) →
    found_asked os fs name ≡ form_arity f.form
unfolding found_asked
asked_at [] fs name rank f e k first = absurd (none-some (Some name) e)
asked_at (o ∷ os) [] name rank f e k first = absurd (none-some f k)
asked_at (o ∷ os) (g ∷ gs) name zero f e k first =
    chosen (cases_asked o name) (form_arity g.form) (found_asked os gs name) (same_Some o (Some name) e) ∙
    ap (λ (z : PlacedField). form_arity z.form) (same_Some g f k)
asked_at (o ∷ os) (g ∷ gs) name (suc rank) f e k first =
    passed (cases_asked o name) (form_arity g.form) (found_asked os gs name) (λ same. first 0 g (omega arith) (ap (λ z. Some z) same) refl) ∙
    asked_at os gs name rank f e k (λ r h less at there. first (suc r) h (omega arith) at there)

form_is : (form : WrittenForm) (ps : List (Item ParamTree)) (r : ResultTree) → form ≡ OfSignature ps r → form_arity form ≡ asked_arity ps r
unfolding form_arity
form_is form ps r e = ap form_arity e

-- of two functions the later one is behind as many `init`

more_with : (b : Bool) (k : ℕ) → k ≤ (if b then k + 1 else k)
more_with true k = omega arith
more_with false k = omega arith

module _ (path : List ℕ) (files : List SourceFile) where
  abbrev IsBehind : ℕ → List PlacedFunction → ℕ → ℕ → PlacedFunction → Type 0
  IsBehind k fs rank j f = slice_get (functions_behind path files k fs) rank ≡ Some (function_behind path files j f)

  behind_later : (k : ℕ) (fs : List PlacedFunction) (rank : ℕ) (f : PlacedFunction) → slice_get fs rank ≡ Some f →
      (j : ℕ) × ((k ≤ j) × IsBehind k fs rank j f)
  behind_later k [] rank f e = absurd (none-some f e)
  behind_later k (g ∷ gs) zero f e =
      (k, ((let le : k ≤ k = omega arith in le), ap (λ (y : PlacedFunction). Some (function_behind path files k y)) (same_Some g f e)))
  behind_later k (g ∷ gs) (suc rank) f e =
      let r = behind_later (initializers_with files k g) gs rank f e in
      let more : k ≤ initializers_with files k g = more_with (is_initializer files g) k in
      let le : initializers_with files k g ≤ r.0 = r.1.0 in
      (r.0, (omega arith, r.1.1))

  both_behind : (k : ℕ) (fs : List PlacedFunction) (a b : ℕ) (f g : PlacedFunction) → a < b → slice_get fs a ≡ Some f → slice_get fs b ≡ Some g →
      (i : ℕ) × ((j : ℕ) × ((initializers_with files i f ≤ j) × (IsBehind k fs a i f × IsBehind k fs b j g)))
  both_behind k [] a b f g less e h = absurd (none-some f e)
  both_behind k (x ∷ xs) a zero f g less e h = absurd (omega arith)
  both_behind k (x ∷ xs) zero (suc b) f g less e h =
      let r = behind_later (initializers_with files k x) xs b g h in
      let same : x ≡ f = same_Some x f e in (
        k,
        (
          r.0,
          (
            subst (λ (y : PlacedFunction). initializers_with files k y ≤ r.0) same r.1.0,
            (ap (λ (y : PlacedFunction). Some (function_behind path files k y)) same, r.1.1),
          ),
        ),
      )
  both_behind k (x ∷ xs) (suc a) (suc b) f g less e h = both_behind (initializers_with files k x) xs a b f g (omega arith) e h

  -- when two functions would be called alike

  split : (b c : Bool) (i j : ℕ) (x y : FunctionName) → (if b then Initializer path i else x) ≡ (if c then Initializer path j else y) →
      ((k : ℕ) → x ≡ Initializer path k → ⊥) → ((k : ℕ) → y ≡ Initializer path k → ⊥) → (if b then i + 1 else i) ≤ j →
      (b ≡ false) × (c ≡ false) × (x ≡ y)
  split true true i j x y e p q le = let same : i ≡ j = cc in let more : i + 1 ≤ j = le in absurd (omega arith)
  split true false i j x y e p q le = absurd (q i (sym e))
  split false true i j x y e p q le = absurd (p j e)
  split false false i j x y e p q le = (refl, refl, e)

  no_init : (file : ℕ) (r : Option ReceiverTree) (name : List ℕ) (k : ℕ) → function_named path files file r name ≡ Initializer path k → ⊥
  no_init file None name k e = cc
  no_init file (Some r) name k e = cc

  -- by receivers
  by_receivers : (A : Type 0) (ff fg : ℕ) (r t : Option ReceiverTree) (n m : List ℕ) → function_named path files ff r n ≡ function_named path files fg t m →
      (r ≡ None → t ≡ None → n ≡ m → A) →
      ((x y : ReceiverTree) → r ≡ Some x → t ≡ Some y → spelled_in files ff x.type_name ≡ spelled_in files fg y.type_name → n ≡ m → A) → A
  by_receivers A ff fg None None n m e p q =
      let g : GlobalName = record { path = path; name = n } in
      let h : GlobalName = record { path = path; name = m } in
      let z : Plain g ≡ Plain h = e in
      let same : g ≡ h = cc in p refl refl (ap (λ (x : GlobalName). x.name) same)
  by_receivers A ff fg None (Some t) n m e p q = let z : ⊥ = cc in absurd z
  by_receivers A ff fg (Some r) None n m e p q = let z : ⊥ = cc in absurd z
  by_receivers A ff fg (Some r) (Some t) n m e p q =
      let z : Method (name_of_receiver path files ff r) n ≡ Method (name_of_receiver path files fg t) m = e in
      let owner : name_of_receiver path files ff r ≡ name_of_receiver path files fg t = cc in
      let name : n ≡ m = cc in q r t refl refl (ap (λ (x : GlobalName). x.name) owner) name

  -- a method's name tells its receiver
  as_method : (A : Type 0) (b : Bool) (j file : ℕ) (r : Option ReceiverTree) (n : List ℕ) (owner : GlobalName) (m : List ℕ) →
      (if b then Initializer path j else function_named path files file r n) ≡ Method owner m →
      ((x : ReceiverTree) → r ≡ Some x → spelled_in files file x.type_name ≡ owner.name → A) → A
  as_method A true j file r n owner m e k = let z : ⊥ = cc in absurd z
  as_method A false j file None n owner m e k =
      let g : GlobalName = record { path = path; name = n } in let z : Plain g ≡ Method owner m = e in let never : ⊥ = cc in absurd never
  as_method A false j file (Some r) n owner m e k =
      let z : Method (name_of_receiver path files file r) n ≡ Method owner m = e in
      let same : name_of_receiver path files file r ≡ owner = cc in k r refl (ap (λ (x : GlobalName). x.name) same)

-- in a workspace without faults
module _ (w : Workspace) (sound : ListsFaults w []) (known : Verdicts) (right : AreVerdicts w known) where
  module _ (p : Package) (is : IsCheckedPackage w known p) (a b : ℕ) (f g : PlacedFunction) (less : a < b) (has : slice_get (package_functions p) a ≡ Some f)
      (also : slice_get (package_functions p) b ≡ Some g) where
    abbrev here : IsInFile p f
    here = in_file_of p a f has

    abbrev other : IsInFile p g
    other = in_file_of p b g also

    spelled_here : (n : ℕ) → spelled_in p.files f.file n ≡ spelling_of here.source n
    spelled_here n = ap (λ (o : Option SourceFile). spelled_at o n) here.in_file

    spelled_other : (n : ℕ) → spelled_in p.files g.file n ≡ spelling_of other.source n
    spelled_other n = ap (λ (o : Option SourceFile). spelled_at o n) other.in_file

    abbrev nf : List ℕ
    nf = spelled_in p.files f.file f.function.name

    abbrev ng : List ℕ
    ng = spelled_in p.files g.file g.function.name

    plain_test : (r : Option ReceiverTree) (name : List ℕ) → r ≡ None → is_named_init r name ≡ false → bytes_eq name (codes "init") ≡ false
    plain_test r name none e = let T : Option ReceiverTree → Type 0 = λ z. is_named_init z name ≡ false in subst T none e

    apart_by : (i j : ℕ) → called_as p.path p.files f.file f.function.receiver nf i ≡ called_as p.path p.files g.file g.function.receiver ng j →
        initializers_with p.files i f ≤ j → ⊥
    apart_by i j e le =
        let x = split p.path p.files (is_named_init f.function.receiver nf) (is_named_init g.function.receiver ng) i j
        (function_named p.path p.files f.file f.function.receiver nf) (function_named p.path p.files g.file g.function.receiver ng) e
        (no_init p.path p.files f.file f.function.receiver nf) (no_init p.path p.files g.file g.function.receiver ng) le in
        by_receivers p.path p.files ⊥ f.file g.file f.function.receiver g.function.receiver nf ng x.2
        (λ none none_too same.
        let one = plain_test f.function.receiver nf none x.0 in
        let two = plain_test g.function.receiver ng none_too x.1 in
        plain_apart w sound known right p is a b f g less has also none none_too
        (subst (λ n. bytes_eq n (codes "init") ≡ false) (spelled_here f.function.name) one)
        (subst (λ n. bytes_eq n (codes "init") ≡ false) (spelled_other g.function.name) two)
        (sym (spelled_here f.function.name) ∙ same ∙ spelled_other g.function.name))
        (λ r t k l same name.
        methods_apart w sound known right p is a b f g less has also r t k l (sym (spelled_here r.type_name) ∙ same ∙ spelled_other t.type_name) name)

    pub apart : (name : FunctionName) → slice_get (function_names p.path p.files) a ≡ Some name → slice_get (function_names p.path p.files) b ≡ Some name → ⊥
    apart name e k =
        let x = both_behind p.path p.files 0 (package_functions p) a b f g less has also in
        let same = same_Some (function_behind p.path p.files x.0 f) (function_behind p.path p.files x.1.0 g) (sym x.1.1.1.0 ∙ e ∙ sym k ∙ x.1.1.1.1) in
        apart_by x.0 x.1.0 same x.1.1.0

  -- a name tells the package
  path_of : FunctionName → List ℕ
  path_of (Plain g) = g.path
  path_of (Method g m) = g.path
  path_of (Initializer path k) = path

  path_named : (path : List ℕ) (files : List SourceFile) (file : ℕ) (r : Option ReceiverTree) (name : List ℕ) →
      path_of (function_named path files file r name) ≡ path
  unfolding path_of
  path_named path files file None name = refl
  path_named path files file (Some r) name = refl

  path_if : (path : List ℕ) (b : Bool) (k : ℕ) (x : FunctionName) → path_of x ≡ path → path_of (if b then Initializer path k else x) ≡ path
  unfolding path_of
  path_if path true k x e = refl
  path_if path false k x e = e

  path_is : (p : Package) (rank : ℕ) (name : FunctionName) (f : PlacedFunction) → slice_get (function_names p.path p.files) rank ≡ Some name →
      slice_get (package_functions p) rank ≡ Some f → path_of name ≡ p.path
  path_is p rank name f e k =
      let b = behind_at p.path p.files 0 (package_functions p) rank f k in
      let given = spelled_in p.files f.file f.function.name in
      let same : called_as p.path p.files f.file f.function.receiver given b.0 ≡ name =
      same_Some (function_behind p.path p.files b.0 f) name (sym b.1 ∙ e) in
      ap path_of (sym same) ∙
      path_if p.path (is_named_init f.function.receiver given) b.0 (function_named p.path p.files f.file f.function.receiver given)
      (path_named p.path p.files f.file f.function.receiver given)

  asked_path : (p : Package) (f : PlacedField) (name : FunctionName) → IsAskedBy p.path p.files (package_types p) f name → path_of name ≡ p.path
  unfolding path_of
  asked_path p f name x = ap path_of x.called

  -- no function is called as a method that an interface asks for
  no_function : (p : Package) → IsCheckedPackage w known p → (rank : ℕ) (g : PlacedFunction) → slice_get (package_functions p) rank ≡ Some g →
      (f : PlacedField) (name : FunctionName) → IsAskedBy p.path p.files (package_types p) f name →
      slice_get (function_names p.path p.files) rank ≡ Some name → ⊥
  no_function p is rank g has f name x e =
      let b = behind_at p.path p.files 0 (package_functions p) rank g has in
      let given = spelled_in p.files g.file g.function.name in
      let same : called_as p.path p.files g.file g.function.receiver given b.0 ≡ name =
      same_Some (function_behind p.path p.files b.0 g) name (sym b.1 ∙ e) in
      as_method p.path p.files ⊥ (is_named_init g.function.receiver given) b.0 g.file g.function.receiver given
      (name_of_type p.path p.files x.definition) (spelled_in p.files f.file f.name) (same ∙ x.called)
      (λ r received owned.
      receives_no_interface w sound known right p is rank g has r received f.definition x.definition x.is_definition owned x.of_interface.0
      x.of_interface.1.0 x.of_interface.1.1.0 x.of_interface.1.1.1.0 x.of_interface.1.1.1.1)

  in_package : (q : List ℕ) → Contains (package_paths w) q ⊎ (Contains (package_paths w) q → ⊥) → FunctionName → Arity
  in_package q (inl has) name =
      let c = (checked_package w sound q has).checked in
      found (function_names c.path c.files) (package_functions c) name (found_asked (all_asked_names c.path c.files) (package_fields c) name)
  in_package q (inr none) name = no_arity

  arity_of : FunctionName → Arity
  arity_of name = in_package (path_of name) (cases_contains (package_paths w) (path_of name)) name

  in_own : (p : Package) → IsCheckedPackage w known p → (q : List ℕ) → q ≡ p.path →
      (d : Contains (package_paths w) q ⊎ (Contains (package_paths w) q → ⊥)) → (name : FunctionName) →
      in_package q d name ≡ found (function_names p.path p.files) (package_functions p) name
      (found_asked (all_asked_names p.path p.files) (package_fields p) name)
  unfolding in_package
  in_own p is q e (inl has) name =
      let x = checked_package w sound q has in
      let mine = own_package w sound known right p is in
      let same : x.checked ≡ p = one_checked w sound.known q x.checked p x.is_package (subst (λ z. IsPackageIn w sound.known z p) (sym e) mine.is_checked) in
      ap (λ (c : Package). found (function_names c.path c.files) (package_functions c) name
      (found_asked (all_asked_names c.path c.files) (package_fields c) name)) same
  in_own p is q e (inr none) name = absurd (none (subst (Contains (package_paths w)) (sym e) is.of_workspace))

  pub arities_are : (arity : FunctionName → Arity) × AreArities w known arity
  unfolding arity_of
  arities_are = (
    arity_of,
    record {
      functions = λ p is rank name f e k.
          in_own p is (path_of name) (path_is p rank name f e k) (cases_contains (package_paths w) (path_of name)) name ∙
          found_at (found_asked (all_asked_names p.path p.files) (package_fields p) name) (function_names p.path p.files) (package_functions p) name rank f e k
          (λ r g less at there. apart p is r rank g f less there k name at e);
      asked = λ p is rank name f ps r e k form.
          let x = asked_is p rank name f e k in
          in_own p is (path_of name) (asked_path p f name x) (cases_contains (package_paths w) (path_of name)) name ∙
          (none_found (found_asked (all_asked_names p.path p.files) (package_fields p) name) (function_names p.path p.files) (package_functions p) name
          (λ n g at there. no_function p is n g there f name x at) ∙
          (asked_at (all_asked_names p.path p.files) (package_fields p) name rank f e k
          (λ n g less at there. asked_apart w sound known right p is n rank g f name less there k (asked_is p n name g at there) x) ∙
          form_is f.form ps r form));
    },
  )
