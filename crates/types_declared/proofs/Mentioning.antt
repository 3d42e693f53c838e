-- The targets of type expressions, one by one.
use Rattle.std.proofs.Common.{ℕ, suc, ◌≡◌, ◌+◌, ◌<◌, ◌≤◌, ◌⊎◌, inl, inr, List, [], ◌∷◌, ◌++◌, length, get_or, take, ap, sym, subst, refl, ◌∙◌, arith}
use Rattle.std.proofs.Common.{append_assoc, append-nil}
use Rattle.std.specs.Prelude.{Option, Some, None, slice_get}
use Rattle.std.specs.Global.{Vec}
use Rattle.std.proofs.Math.Seq.{take-suc}
use Rattle.std.proofs.Math.ListN.{set}
use Rattle.std.specs.Prelude.{map, Contains}
use Rattle.std.proofs.lemmas.Bool.{cases_eq, cases_lt}
use Rattle.std.proofs.lemmas.List.{get_or-set_same, get_or-set_other, length-set, map-append}
use Rattle.std.proofs.lemmas.List.Elements.{Contains-append_left, Contains-append_right, Contains-append_cases, Contains-push, Contains-push_cases}
use Rattle.std.proofs.lemmas.Option.{slice_get_within, slice_get-get_or, slice_get_past}
use Rattle.go_ast.specs.declared.tree.Item.{Item}
use Rattle.go_ast.specs.declared.tree.FieldDecl.{FieldDecl}
use Rattle.go_ast.specs.declared.tree.MethodSpec.{MethodSpec}
use Rattle.go_ast.specs.declared.tree.Param.{Param}
use Rattle.go_ast.specs.declared.tree.TypeExpr.{TypeExpr}
use Rattle.go_ast.specs.View.{item_view, list_view, type_view}
use Rattle.go_ast.specs.FileView.{field_view, method_view, param_view}
use Rattle.go_ast.specs.Tree.{TypeTree}
use Rattle.types_expr.specs.Types.{PlainType}
use Rattle.types_declared.specs.Package.{Package, package_types}
use Rattle.types_declared.specs.Written.{DenotesType, Mentions, by_name, by_pointer, by_slice, defined, pointer, slice, signature_types, asked_types}
use Rattle.types_declared.specs.WrittenView.{IsMentionedBy}
use Rattle.types_declared.specs.Reachability.{LinksTo, links_from}
use Rattle.types_declared.specs.Broken.{AddsLinks, IsTarget, nothing, definition, IsOneTarget, IsTargetOfSome}

pub mention_within : (p : Package) (file : ℕ) (tree : TypeTree) (r : ℕ) → Mentions p file tree r → r < length (package_types p)
mention_within p file _ r (by_name binds declares) = slice_get_within (package_types p) r declares.item declares.has_rank
mention_within p file _ r (by_pointer {t = t} m) = mention_within p file t r m
mention_within p file _ r (by_slice {t = t} m) = mention_within p file t r m

-- a type expression that mentions a definition names a type
mention_names : (p : Package) (file : ℕ) (tree : TypeTree) (r : ℕ) → Mentions p file tree r → (u : PlainType) × DenotesType p file tree u
mention_names p file _ r (by_name {d = d} binds declares) = (_, defined {d = d} {rank = r} binds declares)
mention_names p file _ r (by_pointer {t = t} m) = let n = mention_names p file t r m in (_, pointer n.1)
mention_names p file _ r (by_slice {t = t} m) = let n = mention_names p file t r m in (_, slice n.1)

-- the only target of a type expression that names no type is the number behind the last rank
nothing_only : (p : Package) (file : ℕ) (tree : TypeTree) → ((u : PlainType) → DenotesType p file tree u → ⊥) → (b : ℕ) → IsTarget p file tree b →
    b ≡ length (package_types p)
nothing_only p file tree none _ (nothing n) = refl
nothing_only p file tree none b (definition m) = let n = mention_names p file tree b m in absurd (none n.0 n.1)

pub target_nothing : (p : Package) (file : ℕ) (tree : TypeTree) (n : ℕ) → n ≡ length (package_types p) → ((u : PlainType) → DenotesType p file tree u → ⊥) →
    IsOneTarget p file tree (Some n)
target_nothing p file tree n e none =
    subst (λ k. (k ≤ length (package_types p)) × (IsTarget p file tree k × ((b : ℕ) → IsTarget p file tree b → b ≡ k))) (sym e)
    (omega arith, (nothing none, nothing_only p file tree none))

-- a target of a type expression that names a type is a definition that it mentions
rank_target : (p : Package) (file : ℕ) (tree : TypeTree) (u : PlainType) → DenotesType p file tree u → (b : ℕ) → IsTarget p file tree b → Mentions p file tree b
rank_target p file tree u names _ (nothing none) = absurd (none u names)
rank_target p file tree u names b (definition m) = m

pub target_named : (p : Package) (file : ℕ) (tree : TypeTree) (u : PlainType) (o : Option ℕ) → DenotesType p file tree u → IsMentionedBy p file tree o →
    IsOneTarget p file tree o
target_named p file tree u None names h = λ a t. h a (rank_target p file tree u names a t)
target_named p file tree u (Some r) names h = (
  let lt : r < length (package_types p) = mention_within p file tree r h.0 in
      omega arith,
  (definition h.0, λ b t. h.1 b (rank_target p file tree u names b t)),
)

-- Added links

pub adds_nothing : (old : List (Vec ℕ)) (to : ℕ) (T : ℕ → Type 0) → ((a : ℕ) → T a → ⊥) → AddsLinks old old to T
adds_nothing old to T none = record { size = refl; keeps = λ a b l. l; holds = λ a t. absurd (none a t); only = λ a b l. inl l }

-- none of no type expressions has a target
pub no_target : (p : Package) (file a : ℕ) → IsTargetOfSome p file [] a → ⊥
no_target p file a h = let lt : h.1.0.0 < 0 = h.1.0.1 in absurd (omega arith)

pub adds_as : (old new : List (Vec ℕ)) (to : ℕ) (T U : ℕ → Type 0) → ((a : ℕ) → T a → U a) → ((a : ℕ) → U a → T a) → AddsLinks old new to T →
    AddsLinks old new to U
adds_as old new to T U from back h = record {
  size = h.size;
  keeps = h.keeps;
  holds = λ a u. h.holds a (back a u);
  only = λ a b l. elim (h.only a b l) [ inl k ↦ inl k | inr k ↦ inr (k.0, from a k.1) ];
}

pub adds_then : (f g h : List (Vec ℕ)) (to : ℕ) (T U V : ℕ → Type 0) → AddsLinks f g to T → AddsLinks g h to U → ((a : ℕ) → T a ⊎ U a → V a) →
    ((a : ℕ) → V a → T a ⊎ U a) → AddsLinks f h to V
adds_then f g h to T U V k l from back = record {
  size = l.size ∙ k.size;
  keeps = λ a b x. l.keeps a b (k.keeps a b x);
  holds = λ a v. elim (back a v) [ inl t ↦ l.keeps a to (k.holds a t) | inr u ↦ l.holds a u ];
  only = λ a b x. elim (l.only a b x) [
    | inl y ↦ elim (k.only a b y) [ inl z ↦ inl z | inr z ↦ inr (z.0, from a (inl z.1)) ]
    | inr y ↦ inr
        (y.0, from a (inr y.1))
  ];
}

-- A link added to a row

pub get_set_same : {X : Type 0} (xs : List X) (i : ℕ) (x : X) → i < length xs → slice_get (set xs i x) i ≡ Some x
get_set_same xs i x lt = slice_get-get_or (set xs i x) i x (subst (λ n. i < n) (sym (length-set xs i x)) lt) ∙ ap Some (get_or-set_same xs i x x lt)

pub get_set_other : {X : Type 0} (xs : List X) (i j : ℕ) (x : X) → (j ≡ i → ⊥) → slice_get (set xs i x) j ≡ slice_get xs j
get_set_other xs i j x ne = elim (cases_lt j (length xs)) [
  | inl lt ↦ slice_get-get_or (set xs i x) j x (subst (λ n. j < n) (sym (length-set xs i x)) lt) ∙ ap Some (get_or-set_other xs i j x x ne) ∙
      sym (slice_get-get_or xs j x lt)
  | inr ge ↦ slice_get_past (set xs i x) j (subst (λ n. n ≤ j) (sym (length-set xs i x)) ge) ∙ sym (slice_get_past xs j ge)
]

pub adds_one : (links : List (Vec ℕ)) (to rank : ℕ) (row new : Vec ℕ) → to < length links → row ≡ get_or links to row →
    new.items ≡ row.items ++ (rank ∷ []) → AddsLinks links (set links to new) rank (λ a. a ≡ to)
adds_one links to rank row new lt is e =
    let before : slice_get links to ≡ Some row = slice_get-get_or links to row lt ∙ ap Some (sym is) in
    let after : slice_get (set links to new) to ≡ Some new = get_set_same links to new lt in
    let at : (a b : ℕ) → a ≡ to → Contains new.items b → LinksTo (set links to new) a b = λ a b same c.
    subst (λ z. Contains (links_from (slice_get (set links to new) z)) b) (sym same) (subst (λ o. Contains (links_from o) b) (sym after) c) in
    record {
      size = length-set links to new;
      keeps = λ a b l. elim (cases_eq a to) [
        | inl same ↦ at a b same (subst (λ xs. Contains xs b) (sym e)
            (Contains-append_left row.items (rank ∷ []) b (subst (λ o. Contains (links_from o) b) before (subst (λ z. LinksTo links z b) same l))))
        | inr ne ↦ subst (λ o. Contains (links_from o) b) (sym (get_set_other links to a new ne)) l
      ];
      holds = λ a same. at a rank same (subst (λ xs. Contains xs rank) (sym e) (Contains-push row.items rank));
      only = λ a b l. elim (cases_eq a to) [
        | inl same ↦ (let c : Contains (row.items ++ (rank ∷ [])) b =
            subst (λ xs. Contains xs b) e (subst (λ o. Contains (links_from o) b) after (subst (λ z. LinksTo (set links to new) z b) same l)) in
            elim (Contains-push_cases row.items rank b c) [
              | inl old ↦ inl (subst (λ z. LinksTo links z b) (sym same) (subst (λ o. Contains (links_from o) b) (sym before) old))
              | inr eq ↦ inr (sym eq, same)
            ])
        | inr ne ↦ inl (subst (λ o. Contains (links_from o) b) (get_set_other links to a new ne) l)
      ];
    }

-- The target of one type expression, linked

pub note_one : (p : Package) (file : ℕ) (tree : TypeTree) (to : ℕ) (a : ℕ) → IsTarget p file tree to → ((b : ℕ) → IsTarget p file tree b → b ≡ to) →
    a ≡ to → IsTarget p file tree a
note_one p file tree to a is only e = subst (IsTarget p file tree) (sym e) is

-- The targets of several type expressions, linked one by one

abbrev pub field_types : List (Item FieldDecl) → List TypeTree
field_types fields = map (λ f. f.value.type_use) (list_view field_view fields)

pub fields_next : (fields : List (Item FieldDecl)) (i : ℕ) (x : Item FieldDecl) → i < length fields → x ≡ get_or fields i x →
    field_types (take (i + 1) fields) ≡ field_types (take i fields) ++ (type_view x.value.field_type ∷ [])
unfolding field_view
fields_next fields i x lt e =
    ap (λ k. field_types (take k fields)) (let z : i + 1 ≡ suc i = omega arith in z) ∙
    ap field_types (take-suc fields i x lt ∙ ap (λ y. take i fields ++ (y ∷ [])) (sym e)) ∙
    (ap (map (λ f. f.value.type_use)) (map-append (item_view field_view) (take i fields) (x ∷ [])) ∙
    map-append (λ f. f.value.type_use) (list_view field_view (take i fields)) (item_view field_view x ∷ []))

pub some_push : (p : Package) (file : ℕ) (ts us : List TypeTree) (t : TypeTree) (a : ℕ) → us ≡ ts ++ (t ∷ []) → IsTargetOfSome p file ts a ⊎
    IsTarget p file t a → IsTargetOfSome p file us a
some_push p file ts us t a e h = elim h [
  | inl s ↦ (s.0, (subst (λ xs. Contains xs s.0) (sym e) (Contains-append_left ts (t ∷ []) s.0 s.1.0), s.1.1))
  | inr is ↦ (t, (subst (λ xs. Contains xs t) (sym e) (Contains-push ts t), is))
]

pub some_cases : (p : Package) (file : ℕ) (ts us : List TypeTree) (t : TypeTree) (a : ℕ) → us ≡ ts ++ (t ∷ []) → IsTargetOfSome p file us a →
    IsTargetOfSome p file ts a ⊎ IsTarget p file t a
some_cases p file ts us t a e s = elim (Contains-push_cases ts t s.0 (subst (λ xs. Contains xs s.0) e s.1.0)) [
  | inl old ↦ inl (s.0, (old, s.1.1))
  | inr same ↦ inr (subst (λ x. IsTarget p file x a) (sym same) s.1.1)
]

pub some_one : (p : Package) (file : ℕ) (t : TypeTree) (a : ℕ) → IsTargetOfSome p file (t ∷ []) a → IsTarget p file t a
some_one p file t a s = elim (some_cases p file [] (t ∷ []) t a refl s)
    [ inl none ↦ (let lt : none.1.0.0 < 0 = none.1.0.1 in absurd (omega arith)) | inr is ↦ is ]

pub one_some : (p : Package) (file : ℕ) (t : TypeTree) (a : ℕ) → IsTarget p file t a → IsTargetOfSome p file (t ∷ []) a
one_some p file t a is = some_push p file [] (t ∷ []) t a refl (inr is)

-- lists after one another

pub some_joined : (p : Package) (file : ℕ) (ts us vs : List TypeTree) (a : ℕ) → vs ≡ ts ++ us → IsTargetOfSome p file ts a ⊎ IsTargetOfSome p file us a →
    IsTargetOfSome p file vs a
some_joined p file ts us vs a e h = elim h [
  | inl s ↦ (s.0, (subst (λ xs. Contains xs s.0) (sym e) (Contains-append_left ts us s.0 s.1.0), s.1.1))
  | inr s ↦ (s.0, (subst (λ xs. Contains xs s.0) (sym e) (Contains-append_right ts us s.0 s.1.0), s.1.1))
]

pub some_parted : (p : Package) (file : ℕ) (ts us vs : List TypeTree) (a : ℕ) → vs ≡ ts ++ us → IsTargetOfSome p file vs a →
    IsTargetOfSome p file ts a ⊎ IsTargetOfSome p file us a
some_parted p file ts us vs a e s = elim (Contains-append_cases ts us s.0 (subst (λ xs. Contains xs s.0) e s.1.0)) [
  | inl one ↦ inl (s.0, (one, s.1.1))
  | inr other ↦ inr (s.0, (other, s.1.1))
]

-- the items of a list of the program, one by one

abbrev pub param_list : List (Item Param) → List TypeTree
param_list params = map (λ p. p.value.type_use) (list_view param_view params)

abbrev pub type_list : List (Item TypeExpr) → List TypeTree
type_list types = map (λ t. t.value) (list_view type_view types)

abbrev pub method_list : List (Item MethodSpec) → List TypeTree
method_list methods = asked_types (list_view method_view methods)

pub params_next : (params : List (Item Param)) (i : ℕ) (x : Item Param) → i < length params → x ≡ get_or params i x →
    param_list (take (i + 1) params) ≡ param_list (take i params) ++ (type_view x.value.param_type ∷ [])
unfolding param_view
params_next params i x lt e =
    ap (λ k. param_list (take k params)) (let z : i + 1 ≡ suc i = omega arith in z) ∙
    ap param_list (take-suc params i x lt ∙ ap (λ y. take i params ++ (y ∷ [])) (sym e)) ∙
    (ap (map (λ p. p.value.type_use)) (map-append (item_view param_view) (take i params) (x ∷ [])) ∙
    map-append (λ p. p.value.type_use) (list_view param_view (take i params)) (item_view param_view x ∷ []))

pub types_next : (types : List (Item TypeExpr)) (i : ℕ) (x : Item TypeExpr) → i < length types → x ≡ get_or types i x →
    type_list (take (i + 1) types) ≡ type_list (take i types) ++ (type_view x.value ∷ [])
types_next types i x lt e =
    ap (λ k. type_list (take k types)) (let z : i + 1 ≡ suc i = omega arith in z) ∙
    ap type_list (take-suc types i x lt ∙ ap (λ y. take i types ++ (y ∷ [])) (sym e)) ∙
    (ap (map (λ t. t.value)) (map-append (item_view type_view) (take i types) (x ∷ [])) ∙
    map-append (λ t. t.value) (list_view type_view (take i types)) (item_view type_view x ∷ []))

abbrev pub method_types : MethodSpec → List TypeTree
method_types m = signature_types (method_view m).params (method_view m).result

methods_joined : (ms : List (Item MethodSpec)) (x : Item MethodSpec) → method_list (ms ++ (x ∷ [])) ≡ method_list ms ++ method_types x.value
methods_joined [] x = append-nil (method_types x.value)
methods_joined (m ∷ ms) x = ap (λ ts. method_types m.value ++ ts) (methods_joined ms x)
    ∙ sym (append_assoc (method_types m.value) (method_list ms) (method_types x.value))

pub methods_next : (methods : List (Item MethodSpec)) (i : ℕ) (x : Item MethodSpec) → i < length methods → x ≡ get_or methods i x →
    method_list (take (i + 1) methods) ≡ method_list (take i methods) ++ method_types x.value
methods_next methods i x lt e =
    ap (λ k. method_list (take k methods)) (let z : i + 1 ≡ suc i = omega arith in z) ∙
    ap method_list (take-suc methods i x lt ∙ ap (λ y. take i methods ++ (y ∷ [])) (sym e)) ∙ methods_joined (take i methods) x
