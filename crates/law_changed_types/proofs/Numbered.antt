-- The two packages of new numbers correspond, both ways.
use Rattle.std.proofs.Common.{ℕ, suc, ◌≡◌, ◌<◌, inl, inr, List, [], ◌∷◌, ◌++◌, map, Option, Some, None, is_some, option_map, refl, sym, ap, ◌∙◌}
use Rattle.std.proofs.Common.{subst, arith}
use Rattle.std.specs.Prelude.{All, slice_get, length}
use Rattle.std.proofs.lemmas.Bool.{cases_order}
use Rattle.std.proofs.lemmas.Option.{none-some, same_Some, slice_get-map}
use Rattle.std.proofs.lemmas.List.Elements.{All-nil, All-head, All-tail, All-append, All-map, recursion_from_All}
use Rattle.law_tokens.proofs.Elements.{all_got}
use Rattle.go_ast.specs.Tree.{Item, FieldTree, TypeTree, Local, Imported, Pointer, Slice, BodyTree, Other, ReceiverTree, MethodTree, ParamTree, ResultTree}
use Rattle.go_ast.specs.Tree as tree
use Rattle.go_scope.specs.declared.model.Position.{Position}
use Rattle.go_scope.specs.declared.model.Block.{Block}
use Rattle.go_scope.specs.declared.model.Block.TheVariants.{Universe, File, Inner}
use Rattle.go_scope.specs.declared.model.Block.TheVariants.{Package as PackageBlock}
use Rattle.go_scope.specs.declared.model.Role.{Role}
use Rattle.go_scope.specs.declared.model.Role.TheVariants.{Use, Declaring, LeftName, Implied, NotLexical}
use Rattle.go_scope.specs.declared.model.Purpose.{Purpose}
use Rattle.go_scope.specs.declared.model.Purpose.TheVariants as purpose
use Rattle.go_scope.specs.Bindings.{Layout, IsBoundTo, use_bound, own, block_of, start_of, is_implied, MayDeclare}
use Rattle.go_scope.specs.Scopes.{scope_for, Holds}
use Rattle.go_scope.specs.Moves.{moved_place, moved_block, moved_role}
use Rattle.go_scope.specs.Table.{IsFoundAt, LiesAt}
use Rattle.go_scope.specs.FileSites.{package_sites}
use Rattle.go_scope.specs.Named.{named_sites}
use Rattle.go_scope.specs.Packages.{layout_in}
use Rattle.go_scope.specs.Site.{sites_layout}
use Rattle.go_scope.specs.SpelledFiles.{spelled_file}
use Rattle.go_scope.specs.WellFormed.{IsLaidOut}
use Rattle.go_scope.proofs.NamedSites.{package_level, named_laid_out}
use Rattle.go_scope.proofs.PackageRegions.{package_well_formed, package_follows_blocks}
use Rattle.go_scope.proofs.PackagePlaces.{package_apart, package_follows_places}
use Rattle.law_tokens.proofs.HeldBytes.{numbered_files}
use Rattle.types_declared.specs.Package.{Package, PlacedVariable, PlacedType, PlacedFunction, package_variables, package_types, package_functions, spelled}
use Rattle.types_declared.specs.Written.{BindsToken, DeclaresImport, written_types, signature_types, asked_types}
use Rattle.types_declared.specs.MeaningOf.{parameter_types, result_types}
use Rattle.types_declared.specs.Definitions.{PlacedField, body_fields, fields_from, package_fields, WrittenForm, OfType, OfSignature, OfForm}
use Rattle.law_rename.specs.Renumbered.{type_by, body_by, receiver_by, field_by, item_by, items_by, param_by, result_by, method_by}
use Rattle.law_changed_types.specs.SameBindings.{IsSelectedAt, IsDotted, IsParsedPackage, AreTypesDotted}
use Rattle.law_changed_types.proofs.Dotted.{types_dotted}
use Rattle.law_changed_types.proofs.Parts.{all_given, all_alike, of_mapped, of_asked, all_of_left, all_of_right, of_parameters}
use Rattle.law_changed_types.specs.RenumberedPackage.{NewNumbers, IsRenumberedPackage}
use Rattle.law_changed_types.proofs.RenumberedTypesAlike.{Half, SameTree, SameTrees, SameBody, SameReceiver, SameVariable, SameType, SameFunction, SameField}
use Rattle.law_changed_types.proofs.RenumberedTypesAlike.{Follows, Turned, TurnedIdentifiers, SameForm}
use Rattle.law_changed_types.proofs.RenumberedTypesWritten.{turned_tree, turned_form, turned_trees}
use Rattle.law_changed_types.proofs.Names.{LocalsFollow}
use Rattle.law_changed_types.proofs.RenumberedTypesListed.{map_by, new_variable, new_type, new_function}
use Rattle.law_changed_types.proofs.RenumberedTypesListed.{new_field, variables_by, types_by, functions_by, fields_by}
use Rattle.law_changed_types.proofs.RenumberedTypesListed.{parameters_by, results_by, form_by, flat_by}
use Rattle.std.proofs.lemmas.List.{map-append}
use Rattle.law_changed_types.proofs.Moving.{ap2}

-- options

some_back : {A B : Type 0} (f : A → B) (x : Option A) (y : B) → option_map f x ≡ Some y → (a : A) × ((x ≡ Some a) × (y ≡ f a))
some_back f None y e = absurd (none-some y e)
some_back f (Some a) y e = (a, (refl, same_Some y (f a) (sym e)))

-- roles, but for the ends of blocks

block_moves : (m : ℕ → ℕ → ℕ) (r : Role) → block_of (moved_role m r) ≡ moved_block m (block_of r)
block_moves m Use = refl
block_moves m (NotLexical p) = refl
block_moves m (Declaring b s) = refl
block_moves m (LeftName b s) = refl
block_moves m (Implied b s) = refl

implied_stays : (m : ℕ → ℕ → ℕ) (r : Role) → is_implied (moved_role m r) ≡ is_implied r
implied_stays m Use = refl
implied_stays m (NotLexical p) = refl
implied_stays m (Declaring b s) = refl
implied_stays m (LeftName b s) = refl
implied_stays m (Implied b s) = refl

-- a number for each kind of block, and the file of a block in one
kind_of : Block → ℕ
kind_of Universe = 0
kind_of PackageBlock = 1
kind_of (File f) = 2
kind_of (Inner f a b) = 3

file_in : Block → ℕ
file_in Universe = 0
file_in PackageBlock = 0
file_in (File f) = f
file_in (Inner f a b) = f

universe_back : (m : ℕ → ℕ → ℕ) (b : Block) → moved_block m b ≡ Universe → b ≡ Universe
unfolding kind_of
universe_back m Universe e = refl
universe_back m PackageBlock e = absurd (let n : 1 ≡ 0 = ap kind_of e in omega arith)
universe_back m (File f) e = absurd (let n : 2 ≡ 0 = ap kind_of e in omega arith)
universe_back m (Inner f a b) e = absurd (let n : 3 ≡ 0 = ap kind_of e in omega arith)

package_back : (m : ℕ → ℕ → ℕ) (b : Block) → moved_block m b ≡ PackageBlock → b ≡ PackageBlock
unfolding kind_of
package_back m Universe e = absurd (let n : 0 ≡ 1 = ap kind_of e in omega arith)
package_back m PackageBlock e = refl
package_back m (File f) e = absurd (let n : 2 ≡ 1 = ap kind_of e in omega arith)
package_back m (Inner f a b) e = absurd (let n : 3 ≡ 1 = ap kind_of e in omega arith)

inner_back : (m : ℕ → ℕ → ℕ) (b : Block) (f x y : ℕ) → moved_block m b ≡ Inner f x y → (v : ℕ) × ((w : ℕ) × (b ≡ Inner f v w))
unfolding kind_of file_in
inner_back m Universe f x y e = absurd (let n : 0 ≡ 3 = ap kind_of e in omega arith)
inner_back m PackageBlock f x y e = absurd (let n : 1 ≡ 3 = ap kind_of e in omega arith)
inner_back m (File g) f x y e = absurd (let n : 2 ≡ 3 = ap kind_of e in omega arith)
inner_back m (Inner g a b) f x y e = let same : g ≡ f = ap file_in e in (a, (b, ap (λ i. Inner i a b) same))

purpose_in : Role → Option Purpose
purpose_in (NotLexical p) = Some p
purpose_in r = None

selected_back : (m : ℕ → ℕ → ℕ) (r : Role) (p : Purpose) → moved_role m r ≡ NotLexical p → r ≡ NotLexical p
unfolding purpose_in
selected_back m Use p e = absurd (none-some p (ap purpose_in e))
selected_back m (NotLexical o) p e = ap NotLexical (same_Some o p (ap purpose_in e))
selected_back m (Declaring b s) p e = absurd (none-some p (ap purpose_in e))
selected_back m (LeftName b s) p e = absurd (none-some p (ap purpose_in e))
selected_back m (Implied b s) p e = absurd (none-some p (ap purpose_in e))

-- locals are in the file of their block

laid_out : (p : Package) → IsParsedPackage p → (size : ℕ) × IsLaidOut p.layout size
laid_out p h =
    let laid = h.is_package.is_laid in
    let files = map spelled_file h.files in
    let numbered = numbered_files h.files h.sources in
    let is : p.layout ≡ sites_layout (named_sites laid.names (package_sites files)) =
    ap (λ (x : Package). x.layout) h.is_package.is_package ∙ ap layout_in laid.is_named in (
      length (named_sites laid.names (package_sites files)),
      subst (λ (l : Layout). IsLaidOut l (length (named_sites laid.names (package_sites files)))) (sym is) (named_laid_out laid.names (package_sites files)
          (record {
            well_formed = package_well_formed files numbered;
            imports = package_level files numbered;
            ordered = package_follows_blocks files numbered;
            placed = package_follows_places files numbered;
            apart = package_apart files numbered;
          })),
    )

local_file : (p : Package) → IsParsedPackage p → (file token d f x y : ℕ) → BindsToken p file token d → block_of (p.layout.role d) ≡ Inner f x y →
    (p.layout.place d).file ≡ file
local_file p parsed file token d f x y b block = by_bound b.identifier b.found.holds.1 b.bound where
  in_block : MayDeclare p.layout d → (p.layout.place d).file ≡ f
  in_block may = ((laid_out p parsed).1.placed.before_scope d f x y may block).0

  by_bound : (u : ℕ) → (p.layout.place u).file ≡ file → IsBoundTo p.layout p.names u d → (p.layout.place d).file ≡ file
  by_bound u at (use_bound is binds) =
      let inside : Holds (scope_for (Inner f x y) (start_of (p.layout.role d))) (p.layout.place u) =
      subst (λ z. Holds (scope_for z (start_of (p.layout.role d))) (p.layout.place u)) block binds.in_scope in
      in_block binds.counts.declares.may ∙ sym inside.0 ∙ at
  by_bound u at (own e counts) = ap (λ i. (p.layout.place i).file) (sym e) ∙ at

-- fields: their types follow dots, where they are qualified

field_types_dotted : (p : Package) (rank file : ℕ) (b : BodyTree) → All (IsDotted p file) (written_types b) →
    All (λ (f : PlacedField). OfForm (IsDotted p f.file) f.form) (body_fields rank file b)
field_types_dotted p rank file (Other t) h = All-nil (λ (f : PlacedField). OfForm (IsDotted p f.file) f.form)
field_types_dotted p rank file (tree.Interface k o ms c) h =
    All-map (λ (f : PlacedField). OfForm (IsDotted p f.file) f.form) (λ (i : Item MethodTree). record {
      definition = rank;
      file = file;
      name = i.value.name;
      form = OfSignature i.value.params i.value.result;
    }) ms (of_asked (IsDotted p file) ms h)
field_types_dotted p rank file (tree.Struct k o fs c) h =
    let P : PlacedField → Type 0 = λ f. OfForm (IsDotted p f.file) f.form in
    let Q : Item FieldTree → Type 0 = λ i. IsDotted p file i.value.type_use in
    let placed : Item FieldTree → Item ℕ → PlacedField = λ i m.
    record { definition = rank; file = file; name = m.value; form = OfType i.value.type_use } in
    all_given P Q (λ i. map (placed i) i.value.names)
    (λ i d. All-map P (placed i) i.value.names (all_alike (Q i) d i.value.names)) fs
    (of_mapped (IsDotted p file) (λ (i : Item FieldTree). i.value.type_use) fs h)

all_fields_dotted : (p : Package) (rank : ℕ) (ds : List PlacedType) → All (λ d. All (IsDotted p d.file) (written_types d.spec.body)) ds →
    All (λ (f : PlacedField). OfForm (IsDotted p f.file) f.form) (fields_from rank ds)
all_fields_dotted p rank [] h = All-nil (λ (f : PlacedField). OfForm (IsDotted p f.file) f.form)
all_fields_dotted p rank (d ∷ ds) h =
    let P : PlacedType → Type 0 = λ d. All (IsDotted p d.file) (written_types d.spec.body) in
    All-append (λ (f : PlacedField). OfForm (IsDotted p f.file) f.form) (body_fields rank d.file d.spec.body) (fields_from (suc rank) ds)
    (field_types_dotted p rank d.file d.spec.body (All-head P d ds h)) (all_fields_dotted p (suc rank) ds (All-tail P d ds h))

-- a token follows to its new number, and an identifier

abbrev pub FollowsToken : NewNumbers → ℕ → ℕ → ℕ → Type 0
FollowsToken n file x y = y ≡ n.token file x

abbrev pub FollowsIdentifier : NewNumbers → ℕ → ℕ → Type 0
FollowsIdentifier n u v = v ≡ n.identifier u

star_stays : (g : ℕ → ℕ) (o : Option ℕ) → is_some (option_map g o) ≡ is_some o
star_stays g None = refl
star_stays g (Some x) = refl

module _ (n : NewNumbers) (p q : Package) (a : IsRenumberedPackage n p q) where
  -- identifiers and their places

  implied_at : (u : ℕ) → is_implied (q.layout.role (n.identifier u)) ≡ is_implied (p.layout.role u)
  implied_at u = ap is_implied (a.roles u) ∙ implied_stays a.ends (p.layout.role u)

  block_at : (u : ℕ) → block_of (q.layout.role (n.identifier u)) ≡ moved_block a.ends (block_of (p.layout.role u))
  block_at u = ap block_of (a.roles u) ∙ block_moves a.ends (p.layout.role u)

  block_by : (u v : ℕ) → v ≡ n.identifier u → block_of (q.layout.role v) ≡ moved_block a.ends (block_of (p.layout.role u))
  block_by u v e = ap (λ i. block_of (q.layout.role i)) e ∙ block_at u

  lies_at : (at : Position) (u : ℕ) → LiesAt p.layout at u → LiesAt q.layout (moved_place n.token at) (n.identifier u)
  lies_at at u h = (
    implied_at u ∙ h.0,
    ap (λ (z : Position). z.file) (a.places u) ∙ h.1,
    ap (λ (z : Position). z.index) (a.places u) ∙ ap (λ f. n.token f (p.layout.place u).index) h.1 ∙ ap (n.token at.file) h.2,
  )

  lies_back : (at : Position) (u : ℕ) → LiesAt q.layout (moved_place n.token at) (n.identifier u) → LiesAt p.layout at u
  lies_back at u h =
      let file : (p.layout.place u).file ≡ at.file = sym (ap (λ (z : Position). z.file) (a.places u)) ∙ h.1 in (
        sym (implied_at u) ∙ h.0,
        file,
        (a.apart at.file).injective (p.layout.place u).index at.index
            (ap (λ f. n.token f (p.layout.place u).index) (sym file) ∙ sym (ap (λ (z : Position). z.index) (a.places u)) ∙ h.2),
      )

  reflects : (d u : ℕ) → n.identifier d < n.identifier u → d < u
  reflects d u lt = elim (cases_order d u) [
    | inl e ↦ absurd (let same : n.identifier d ≡ n.identifier u = ap n.identifier e in omega arith)
    | inr o ↦ elim o [ inl less ↦ less | inr more ↦ absurd (let other : n.identifier u < n.identifier d = a.rising u d more in omega arith) ]
  ]

  found_at : (at : Position) (u : ℕ) → IsFoundAt p.layout p.size at u → IsFoundAt q.layout q.size (moved_place n.token at) (n.identifier u)
  found_at at u f =
      let within : n.identifier u < q.size = a.within u f.within in
      record {
        within = within;
        holds = lies_at at u f.holds;
        first = λ v lt lies. elim (a.old_or_new v (let less : v < n.identifier u = lt in omega arith)) [
          | inl o ↦ f.first o.0 (reflects o.0 u (subst (λ i. i < n.identifier u) o.1.0 lt))
              (lies_back at o.0 (subst (LiesAt q.layout (moved_place n.token at)) o.1.0 lies))
          | inr apart ↦ apart at.file at.index lies
        ];
      }

  found_back : (at : Position) (v : ℕ) → IsFoundAt q.layout q.size (moved_place n.token at) v →
      (u : ℕ) × ((v ≡ n.identifier u) × IsFoundAt p.layout p.size at u)
  found_back at v f = elim (a.old_or_new v f.within) [
    | inl o ↦ (
      o.0,
      (
        o.1.0,
        record {
          within = o.1.1;
          holds = lies_back at o.0 (subst (LiesAt q.layout (moved_place n.token at)) o.1.0 f.holds);
          first = λ w lt lies. f.first (n.identifier w) (subst (λ i. n.identifier w < i) (sym o.1.0) (a.rising w o.0 lt)) (lies_at at w lies);
        },
      ),
    )
    | inr apart ↦ absurd (apart at.file at.index f.holds)
  ]

  selected_in : (file x y : ℕ) → y ≡ n.token file x → IsSelectedAt q file y → IsSelectedAt p file x
  selected_in file x y t s =
      let at : Position = record { file = file; index = x } in
      let u = found_back at s.identifier
      (subst (λ i. IsFoundAt q.layout q.size (record { file = file; index = i }) s.identifier) t s.found) in
      record {
        identifier = u.0;
        found = u.1.1;
        selected = selected_back a.ends (p.layout.role u.0) purpose.Selected
            (sym (a.roles u.0) ∙ ap q.layout.role (sym u.1.0) ∙ s.selected);
      }

  -- declarations

  dotted : AreTypesDotted p
  dotted = types_dotted p a.parsed

  pub tree_follows : (file : ℕ) (t : TypeTree) → IsDotted p file t → SameTree (FollowsToken n) p q file t (type_by (n.token file) t)
  unfolding type_by
  tree_follows file (Local m) h = refl
  tree_follows file (Imported u d m) h = (refl, a.selectors file m h.1)
  tree_follows file (Pointer s t) h = tree_follows file t h
  tree_follows file (Slice o c t) h = tree_follows file t h

  trees_follow : (file : ℕ) (ts : List TypeTree) → All (IsDotted p file) ts → SameTrees (FollowsToken n) p q file ts (map (type_by (n.token file)) ts)
  trees_follow file [] h = tt
  trees_follow file (t ∷ ts) h =
      (tree_follows file t (All-head (IsDotted p file) t ts h), trees_follow file ts (All-tail (IsDotted p file) t ts h))

  -- parameters and results, the types of parameters once for each name
  params_follow : (file : ℕ) (ps : List (Item ParamTree)) → All (IsDotted p file) (parameter_types ps) →
      SameTrees (FollowsToken n) p q file (parameter_types ps) (parameter_types (items_by (n.token file) (param_by (n.token file)) ps))
  params_follow file ps h =
      subst (SameTrees (FollowsToken n) p q file (parameter_types ps)) (sym (parameters_by (n.token file) ps)) (trees_follow file (parameter_types ps) h)

  results_follow : (file : ℕ) (r : ResultTree) → All (IsDotted p file) (result_types r) →
      SameTrees (FollowsToken n) p q file (result_types r) (result_types (result_by (n.token file) r))
  results_follow file r h =
      subst (SameTrees (FollowsToken n) p q file (result_types r)) (sym (results_by (n.token file) r)) (trees_follow file (result_types r) h)

  form_follows : (file : ℕ) (f : WrittenForm) → OfForm (IsDotted p file) f → SameForm (FollowsToken n) p q file f (form_by (n.token file) f)
  form_follows file (OfType t) h = tree_follows file t h
  form_follows file (OfSignature ps r) h =
      let D : TypeTree → Type 0 = IsDotted p file in
      let types : List TypeTree = map (λ (i : Item ParamTree). i.value.type_use) ps in (
        params_follow file ps (of_parameters D ps (all_of_left D types (result_types r) h)),
        results_follow file r (all_of_right D types (result_types r) h),
      )

  -- the types of the methods that an interface asks for
  signature_by : (g : ℕ → ℕ) (ps : List (Item ParamTree)) (r : ResultTree) →
      signature_types (items_by g (param_by g) ps) (result_by g r) ≡ map (type_by g) (signature_types ps r)
  signature_by g ps r =
      let types : List TypeTree = map (λ (i : Item ParamTree). i.value.type_use) ps in
      ap2 (λ (x y : List TypeTree). x ++ y)
      (map_by (λ (i : Item ParamTree). i.value.type_use) (λ i. i.value.type_use) (item_by g (param_by g)) (type_by g) (λ i. refl) ps) (results_by g r)
      ∙ sym (map-append (type_by g) types (result_types r))

  asked_by : (g : ℕ → ℕ) (ms : List (Item MethodTree)) → asked_types (items_by g (method_by g) ms) ≡ map (type_by g) (asked_types ms)
  asked_by g ms =
      flat_by (λ (i : Item MethodTree). signature_types i.value.params i.value.result) (λ i. signature_types i.value.params i.value.result)
      (item_by g (method_by g)) (type_by g) (λ i. signature_by g i.value.params i.value.result) ms

  body_follows : (file : ℕ) (b : BodyTree) → All (IsDotted p file) (written_types b) → SameBody (FollowsToken n) p q file b (body_by (n.token file) b)
  body_follows file (Other t) h = tree_follows file t (All-head (IsDotted p file) t [] h)
  body_follows file (tree.Interface k o ms c) h =
      subst (SameTrees (FollowsToken n) p q file (asked_types ms)) (sym (asked_by (n.token file) ms)) (trees_follow file (asked_types ms) h)
  body_follows file (tree.Struct k o fs c) h =
      let types : List TypeTree = map (λ (i : Item FieldTree). i.value.type_use) fs in
      subst (SameTrees (FollowsToken n) p q file types)
      (sym (map_by (λ (i : Item FieldTree). i.value.type_use) (λ i. i.value.type_use) (item_by (n.token file) (field_by (n.token file)))
      (type_by (n.token file)) (λ i. refl) fs)) (trees_follow file types h)

  turned_body : (file : ℕ) (b c : BodyTree) → SameBody (FollowsToken n) p q file b c → SameBody (Turned (FollowsToken n)) q p file c b
  turned_body file (Other t) (Other x) h = turned_tree (FollowsToken n) p q file t x h
  turned_body file (tree.Struct k o fs c) (tree.Struct i j gs e) h =
      turned_trees (FollowsToken n) p q file (map (λ f. f.value.type_use) fs) (map (λ f. f.value.type_use) gs) h
  turned_body file (Other t) (tree.Struct i j gs e) h = absurd h
  turned_body file (tree.Struct k o fs c) (Other x) h = absurd h
  turned_body file (tree.Interface k o ms c) (tree.Interface i j ns e) h = turned_trees (FollowsToken n) p q file (asked_types ms) (asked_types ns) h
  turned_body file (Other t) (tree.Interface i j ns e) h = absurd h
  turned_body file (tree.Struct k o fs c) (tree.Interface i j ns e) h = absurd h
  turned_body file (tree.Interface k o ms c) (Other x) h = absurd h
  turned_body file (tree.Interface k o ms c) (tree.Struct i j gs e) h = absurd h

  receiver_follows : (file : ℕ) (r : Option ReceiverTree) → SameReceiver (FollowsToken n) p q file r (option_map (receiver_by (n.token file)) r)
  receiver_follows file None = tt
  receiver_follows file (Some r) = (refl, star_stays (n.token file) r.star)

  receiver_back : (file : ℕ) (r : Option ReceiverTree) → SameReceiver (Turned (FollowsToken n)) q p file (option_map (receiver_by (n.token file)) r) r
  receiver_back file None = tt
  receiver_back file (Some r) = (refl, sym (star_stays (n.token file) r.star))

  variable_dotted : (rank : ℕ) (v : PlacedVariable) → slice_get (package_variables p) rank ≡ Some v → IsDotted p v.file v.type_use
  variable_dotted rank v at =
      let P : PlacedVariable → Type 0 = λ x. IsDotted p x.file x.type_use in
      all_got P (package_variables p) rank v (recursion_from_All P (package_variables p) dotted.variables) at

  type_dotted : (rank : ℕ) (d : PlacedType) → slice_get (package_types p) rank ≡ Some d → All (IsDotted p d.file) (written_types d.spec.body)
  type_dotted rank d at =
      let P : PlacedType → Type 0 = λ x. All (IsDotted p x.file) (written_types x.spec.body) in
      all_got P (package_types p) rank d (recursion_from_All P (package_types p) dotted.definitions) at

  parameters_dotted : (rank : ℕ) (f : PlacedFunction) → slice_get (package_functions p) rank ≡ Some f →
      All (IsDotted p f.file) (parameter_types f.function.params)
  parameters_dotted rank f at =
      let P : PlacedFunction → Type 0 = λ x. All (IsDotted p x.file) (parameter_types x.function.params) in
      all_got P (package_functions p) rank f (recursion_from_All P (package_functions p) dotted.parameters) at

  results_dotted : (rank : ℕ) (f : PlacedFunction) → slice_get (package_functions p) rank ≡ Some f → All (IsDotted p f.file) (result_types f.function.result)
  results_dotted rank f at =
      let R : PlacedFunction → Type 0 = λ x. All (IsDotted p x.file) (result_types x.function.result) in
      all_got R (package_functions p) rank f (recursion_from_All R (package_functions p) dotted.results) at

  field_dotted : (rank : ℕ) (f : PlacedField) → slice_get (package_fields p) rank ≡ Some f → OfForm (IsDotted p f.file) f.form
  field_dotted rank f at =
      let P : PlacedField → Type 0 = λ f. OfForm (IsDotted p f.file) f.form in
      all_got P (package_fields p) rank f (recursion_from_All P (package_fields p) (all_fields_dotted p 0 (package_types p) dotted.definitions)) at

  -- an element of a list, and its new one

  goes : {X : Type 0} (k : X → X) (xs ys : List X) → ys ≡ map k xs → (rank : ℕ) (x : X) → slice_get xs rank ≡ Some x → slice_get ys rank ≡ Some (k x)
  goes k xs ys e rank x at = ap (λ zs. slice_get zs rank) e ∙ slice_get-map k xs rank ∙ ap (option_map k) at

  came : {X : Type 0} (k : X → X) (xs ys : List X) → ys ≡ map k xs → (rank : ℕ) (y : X) → slice_get ys rank ≡ Some y →
      (x : X) × ((slice_get xs rank ≡ Some x) × (y ≡ k x))
  came k xs ys e rank y at = some_back k (slice_get xs rank) y (sym (slice_get-map k xs rank) ∙ ap (λ zs. slice_get zs rank) (sym e) ∙ at)

  same_variables : package_variables q ≡ map (new_variable n.token) (package_variables p)
  same_variables = variables_by n.token p.files q.files a.files

  same_types : package_types q ≡ map (new_type n.token) (package_types p)
  same_types = types_by n.token p.files q.files a.files

  same_functions : package_functions q ≡ map (new_function n.token) (package_functions p)
  same_functions = functions_by n.token p.files q.files a.files

  same_fields : package_fields q ≡ map (new_field n.token) (package_fields p)
  same_fields = ap (fields_from 0) same_types ∙ fields_by n.token 0 (package_types p)

  trees_by : (file : ℕ) (ts us : List TypeTree) → us ≡ map (type_by (n.token file)) ts → All (IsDotted p file) ts →
      SameTrees (FollowsToken n) p q file ts us
  trees_by file ts us e h = subst (SameTrees (FollowsToken n) p q file ts) (sym e) (trees_follow file ts h)

  variables_follow : Follows (SameVariable (FollowsToken n) p q) (package_variables p) (package_variables q)
  variables_follow rank v at = (
    new_variable n.token v,
    (
      goes (new_variable n.token) (package_variables p) (package_variables q) same_variables rank v at,
      record { file = refl; place = record { file = refl; index = refl }; type_use = tree_follows v.file v.type_use (variable_dotted rank v at) },
    ),
  )

  variables_back : Follows (SameVariable (Turned (FollowsToken n)) q p) (package_variables q) (package_variables p)
  variables_back rank w at =
      let v = came (new_variable n.token) (package_variables p) (package_variables q) same_variables rank w at in
      let x = v.0 in (
        x,
        (
          v.1.0,
          subst (λ y. SameVariable (Turned (FollowsToken n)) q p y x) (sym v.1.1) (record {
            file = refl;
            place = record { file = refl; index = refl };
            type_use = turned_tree (FollowsToken n) p q x.file x.type_use (type_by (n.token x.file) x.type_use)
                (tree_follows x.file x.type_use (variable_dotted rank x v.1.0));
          }),
        ),
      )

  types_follow : Follows (SameType (FollowsToken n) p q) (package_types p) (package_types q)
  types_follow rank d at = (
    new_type n.token d,
    (
      goes (new_type n.token) (package_types p) (package_types q) same_types rank d at,
      record { file = refl; place = record { file = refl; index = refl }; body = body_follows d.file d.spec.body (type_dotted rank d at) },
    ),
  )

  types_back : Follows (SameType (Turned (FollowsToken n)) q p) (package_types q) (package_types p)
  types_back rank e at =
      let d = came (new_type n.token) (package_types p) (package_types q) same_types rank e at in
      let x = d.0 in (
        x,
        (
          d.1.0,
          subst (λ y. SameType (Turned (FollowsToken n)) q p y x) (sym d.1.1) (record {
            file = refl;
            place = record { file = refl; index = refl };
            body = turned_body x.file x.spec.body (body_by (n.token x.file) x.spec.body) (body_follows x.file x.spec.body (type_dotted rank x d.1.0));
          }),
        ),
      )

  functions_follow : Follows (SameFunction (FollowsToken n) p q) (package_functions p) (package_functions q)
  functions_follow rank f at = (
    new_function n.token f,
    (
      goes (new_function n.token) (package_functions p) (package_functions q) same_functions rank f at,
      record {
        file = refl;
        place = record { file = refl; index = refl };
        name = a.functions rank f at;
        receiver = receiver_follows f.file f.function.receiver;
        parameters = trees_by f.file (parameter_types f.function.params) _ (parameters_by (n.token f.file) f.function.params) (parameters_dotted rank f at);
        results = trees_by f.file (result_types f.function.result) _ (results_by (n.token f.file) f.function.result) (results_dotted rank f at);
      },
    ),
  )

  functions_back : Follows (SameFunction (Turned (FollowsToken n)) q p) (package_functions q) (package_functions p)
  functions_back rank g at =
      let d = came (new_function n.token) (package_functions p) (package_functions q) same_functions rank g at in
      let f = d.0 in
      let now = new_function n.token f in (
        f,
        (
          d.1.0,
          subst (λ y. SameFunction (Turned (FollowsToken n)) q p y f) (sym d.1.1) (record {
            file = refl;
            place = record { file = refl; index = refl };
            name = sym (a.functions rank f d.1.0);
            receiver = receiver_back f.file f.function.receiver;
            parameters = turned_trees (FollowsToken n) p q f.file (parameter_types f.function.params) (parameter_types now.function.params)
                (trees_by f.file (parameter_types f.function.params) _ (parameters_by (n.token f.file) f.function.params) (parameters_dotted rank f d.1.0));
            results = turned_trees (FollowsToken n) p q f.file (result_types f.function.result) (result_types now.function.result)
                (trees_by f.file (result_types f.function.result) _ (results_by (n.token f.file) f.function.result) (results_dotted rank f d.1.0));
          }),
        ),
      )

  fields_follow : Follows (SameField (FollowsToken n) p q) (package_fields p) (package_fields q)
  fields_follow rank f at = (
    new_field n.token f,
    (
      goes (new_field n.token) (package_fields p) (package_fields q) same_fields rank f at,
      record { definition = refl; file = refl; name = a.fields rank f at; form = form_follows f.file f.form (field_dotted rank f at) },
    ),
  )

  fields_back : Follows (SameField (Turned (FollowsToken n)) q p) (package_fields q) (package_fields p)
  fields_back rank g at =
      let d = came (new_field n.token) (package_fields p) (package_fields q) same_fields rank g at in
      let f = d.0 in (
        f,
        (
          d.1.0,
          subst (λ y. SameField (Turned (FollowsToken n)) q p y f) (sym d.1.1) (record {
            definition = refl;
            file = refl;
            name = sym (a.fields rank f d.1.0);
            form = turned_form (FollowsToken n) p q f.file f.form (form_by (n.token f.file) f.form)
                (form_follows f.file f.form (field_dotted rank f d.1.0));
          }),
        ),
      )

  -- both halves

  pub there : Half (FollowsToken n) (FollowsIdentifier n) p q
  there = record {
    path = a.path;
    found = λ file x y u t f. (
      n.identifier u,
      (
        refl,
        subst (λ i. IsFoundAt q.layout q.size (record { file = file; index = i }) (n.identifier u)) (sym t)
            (found_at (record { file = file; index = x }) u f),
      ),
    );
    lies = λ x y u v s i h.
        let now = lies_at x u h in
        subst (LiesAt q.layout y) (sym i) (now.0, now.1 ∙ sym s.file, now.2 ∙ sym s.index);
    bound = λ u v d i b. (
      n.identifier d,
      (refl, subst (λ z. IsBoundTo q.layout q.names z (n.identifier d)) (sym i) ((a.bound u d).0 b)),
    );
    implied = λ d e i h. ap (λ z. is_implied (q.layout.role z)) i ∙ implied_at d ∙ h;
    universe = λ d e i h. block_by d e i ∙ ap (moved_block a.ends) h;
    level = λ d e i h. block_by d e i ∙ ap (moved_block a.ends) h;
    inner = λ d e f x y i h. (a.ends f x, (a.ends f y, block_by d e i ∙ ap (moved_block a.ends) h));
    selected = λ d e i h. ap q.layout.role i ∙ a.roles d ∙ ap (moved_role a.ends) h;
    names = λ d e i h. ap q.names i ∙ a.predeclared d h;
    variables = variables_follow;
    types = types_follow;
    functions = functions_follow;
    fields = fields_follow;
    imports = λ d e path i h. subst (λ z. DeclaresImport q z path) (sym i) ((a.imports d path).0 h);
    dots = λ file x y t s.
        let dot = a.dots file x s in
        record {
          was = dot.before;
          is = n.token file dot.before;
          was_behind = dot.is_behind;
          is_behind = t ∙ dot.stays_behind;
          follows = refl;
        };
    selectors = λ file x y t s. ap (spelled q file) t ∙ a.selectors file x s;
    exports = a.exports;
  }

  pub back : Half (Turned (FollowsToken n)) (TurnedIdentifiers (FollowsIdentifier n)) q p
  back = record {
    path = sym a.path;
    found = λ file y x v t f.
        found_back (record { file = file; index = x }) v
        (subst (λ i. IsFoundAt q.layout q.size (record { file = file; index = i }) v) t f);
    lies = λ y x v u s i h.
        let now = subst (LiesAt q.layout y) i h in
        lies_back x u (now.0, now.1 ∙ sym s.file, now.2 ∙ s.index ∙ ap (λ f. n.token f x.index) (sym s.file));
    bound = λ v u e i b.
        let here = subst (λ z. IsBoundTo q.layout q.names z e) i b in
        let d = a.bound_to_old u e here in
        (d.0, (d.1, (a.bound u d.0).1 (subst (λ z. IsBoundTo q.layout q.names (n.identifier u) z) d.1 here)));
    implied = λ e d i h. sym (implied_at d) ∙ ap (λ z. is_implied (q.layout.role z)) (sym i) ∙ h;
    universe = λ e d i h. universe_back a.ends (block_of (p.layout.role d)) (sym (block_by d e i) ∙ h);
    level = λ e d i h. package_back a.ends (block_of (p.layout.role d)) (sym (block_by d e i) ∙ h);
    inner = λ e d f x y i h. inner_back a.ends (block_of (p.layout.role d)) f x y (sym (block_by d e i) ∙ h);
    selected = λ e d i h. selected_back a.ends (p.layout.role d) purpose.Selected (sym (a.roles d) ∙ ap q.layout.role (sym i) ∙ h);
    names = λ e d i h.
        sym (a.predeclared d (sym (implied_at d) ∙ ap (λ z. is_implied (q.layout.role z)) (sym i) ∙ h)) ∙ ap q.names (sym i);
    variables = variables_back;
    types = types_back;
    functions = functions_back;
    fields = fields_back;
    imports = λ e d path i h. (a.imports d path).1 (subst (λ z. DeclaresImport q z path) i h);
    dots = λ file y x t s.
        let dot = a.dots file x (selected_in file x y t s) in
        record {
          was = n.token file dot.before;
          is = dot.before;
          was_behind = t ∙ dot.stays_behind;
          is_behind = dot.is_behind;
          follows = refl;
        };
    selectors = λ file y x t s. sym (ap (spelled q file) t ∙ a.selectors file x (selected_in file x y t s));
    exports = λ path. sym (a.exports path);
  }

  pub locals_follow : LocalsFollow (FollowsToken n) (FollowsIdentifier n) p q
  locals_follow file token d e f x y b i block =
      ap (λ z. (q.layout.place z).index) i
      ∙ ap (λ (z : Position). z.index) (a.places d)
      ∙ ap (λ z. n.token z (p.layout.place d).index) (local_file p a.parsed file token d f x y b block)

  pub locals_back : LocalsFollow (Turned (FollowsToken n)) (TurnedIdentifiers (FollowsIdentifier n)) q p
  locals_back file token e d f x y b i block =
      ap (λ z. (q.layout.place z).index) i
      ∙ ap (λ (z : Position). z.index) (a.places d)
      ∙ ap (λ z. n.token z (p.layout.place d).index)
      (ap (λ (z : Position). z.file) (sym (a.places d)) ∙ ap (λ z. (q.layout.place z).file) (sym i)
      ∙ local_file q a.parsed_too file token e f x y b block)
