-- What a tree declares in the package's block is among the variables, functions or types of the package.
use Rattle.std.proofs.Common.{ℕ, zero, suc, ◌≡◌, ◌+◌, ◌⊎◌, inl, inr, List, [], ◌∷◌, ap, subst, refl, arith}
use Rattle.std.specs.Prelude.{Some, slice_get}
use Rattle.std.specs.List.{enumerate_from}
use Rattle.std.proofs.lemmas.Option.{none-some, same_Some}
use Rattle.go_ast.specs.SourceFile.{SourceFile}
use Rattle.go_ast.specs.Tree.{Item, DeclTree, VarDecl, TypeDecl, FuncDecl}
use Rattle.go_scope.specs.declared.model.Position.{Position}
use Rattle.types_declared.specs.Files.{RankedSource, ranked_files, group_items}
use Rattle.types_declared.specs.Package.{Package, PlacedVariable, PlacedType, PlacedFunction, variables_of, placed_type, decl_variables, decl_types}
use Rattle.types_declared.specs.Package.{decl_functions, variables_in, types_in, functions_in, package_variables, package_types, package_functions}
use Rattle.types_declared.specs.Package.{variable_place, function_place, type_place}
use Rattle.types_info.proofs.DeclKinds.{Holds, held_flat, held_map}
use Rattle.law_faultless.proofs.DeclaringNames.{IsNameIn}
use Rattle.law_faultless.proofs.FilesDecided.{IsGlobal}

pub held_ranked : {X : Type 0} (n : ℕ) (xs : List X) (i : ℕ) (x : X) → slice_get xs i ≡ Some x → (k : ℕ) × ((k ≡ n + i) × Holds (enumerate_from n xs) (k, x))
held_ranked n [] i x e = absurd (none-some x e)
held_ranked n (y ∷ ys) zero x e = (n, ((let z : n ≡ n + 0 = omega arith in z), inl (ap (λ q. (n, q)) (same_Some y x e))))
held_ranked n (y ∷ ys) (suc i) x e =
    let r = held_ranked (n + 1) ys i x e in
    (r.0, ((let z : r.0 ≡ n + 1 + i = r.1.0 in omega arith), inr r.1.1))

pub held_number : {X : Type 0} (xs : List X) (x : X) → Holds xs x → (k : ℕ) × (slice_get xs k ≡ Some x)
held_number [] x h = absurd h
held_number (y ∷ ys) x h = elim h [ inl e ↦ (0, ap (λ z. Some z) e) | inr r ↦ (let k = held_number ys x r in (suc k.0, k.1)) ]

-- one of the items is declared at that place
abbrev pub IsPlacedIn : {X : Type 0} → (X → Position) → List X → Position → Type 0
IsPlacedIn f xs at = (r : ℕ) × ((x : _) × ((slice_get xs r ≡ Some x) × (f x ≡ at)))

-- one of these of a declaration
abbrev InDecl : ℕ → DeclTree → ℕ → Type 0
InDecl file d i =
    ((v : PlacedVariable) × (Holds (decl_variables file d) v × (variable_place v ≡ record { file = file; index = i })))
    ⊎ (((f : PlacedFunction) × (Holds (decl_functions file d) f × (function_place f ≡ record { file = file; index = i })))
    ⊎ ((t : PlacedType) × (Holds (decl_types file d) t × (type_place t ≡ record { file = file; index = i }))))

in_decl : (file : ℕ) (d : DeclTree) (i : ℕ) → IsNameIn d i → InDecl file d i
in_decl file (VarDecl k g s) i h =
    let x = h.0 in
    let n = h.1.1.0 in
    let one : Item ℕ → PlacedVariable = λ z. record { file = file; name = z.value; type_use = x.type_use } in
    inl (
      one n,
      (
        held_flat (variables_of file) (group_items g) x (one n) h.1.0 (held_map one x.names n h.1.1.1.0),
        ap (λ z. record { file = file; index = z }) h.1.1.1.1,
      ),
    )
in_decl file (TypeDecl k g s) i h =
    inr (inr (placed_type file h.0, (held_map (placed_type file) (group_items g) h.0 h.1.0, ap (λ z. record { file = file; index = z }) h.1.1)))
in_decl file (FuncDecl k f s) i h = inr (inl (record { file = file; function = f }, (inl refl, ap (λ z. record { file = file; index = z }) h)))

pub declared_in : (p : Package) (file i : ℕ) (s : SourceFile) → slice_get p.files file ≡ Some s → IsGlobal s.tree.decls i →
    IsPlacedIn variable_place (package_variables p) (record { file = file; index = i })
    ⊎ (IsPlacedIn function_place (package_functions p) (record { file = file; index = i }) ⊎ IsPlacedIn type_place (package_types p)
    (record { file = file; index = i }))
declared_in p file i s at g =
    let k = held_ranked 0 p.files file s at in
    let same : k.0 ≡ file = let z : k.0 ≡ 0 + file = k.1.0 in omega arith in
    let r : RankedSource = (file, s) in
    let there : Holds (ranked_files p.files) r = subst (λ n. Holds (ranked_files p.files) (n, s)) same k.1.1 in
    elim (in_decl file g.0 i g.1.1) [
      | inl v ↦ (let n = held_number (package_variables p) v.0
          (held_flat variables_in (ranked_files p.files) r v.0 there (held_flat (decl_variables file) s.tree.decls g.0 v.0 g.1.0 v.1.0)) in
          inl (n.0, (v.0, (n.1, v.1.1))))
      | inr o ↦ elim o [
        | inl v ↦ (let n = held_number (package_functions p) v.0
            (held_flat functions_in (ranked_files p.files) r v.0 there (held_flat (decl_functions file) s.tree.decls g.0 v.0 g.1.0 v.1.0)) in
            inr (inl (n.0, (v.0, (n.1, v.1.1)))))
        | inr v ↦ (let n = held_number (package_types p) v.0
            (held_flat types_in (ranked_files p.files) r v.0 there (held_flat (decl_types file) s.tree.decls g.0 v.0 g.1.0 v.1.0)) in
            inr (inr (n.0, (v.0, (n.1, v.1.1)))))
      ]
    ]
