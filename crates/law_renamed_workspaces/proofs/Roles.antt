-- A plain rename turns no function into an `init`, and no `init` into another function.
use Rattle.std.proofs.Common.{ℕ, ◌≡◌, inl, inr, Bool, true, false, if◌then◌else◌, List, [], ◌∷◌, Option, Some, None, ap, sym, refl, ◌∙◌}
use Rattle.std.specs.Prelude.{slice_get, bytes_eq, codes}
use Rattle.std.specs.Cmp.Lexicographic.{bytes_decides}
use Rattle.std.specs.List.{AllByRecursion}
use Rattle.std.proofs.lemmas.Bool.{cases_Bool}
use Rattle.std.proofs.lemmas.List.Elements.{All-from_recursion}
use Rattle.base_files.specs.Workspace.{Workspace}
use Rattle.base_edits.specs.EditSet.{FileChanges}
use Rattle.go_ast.specs.SourceFile.{SourceFile, spelling_of}
use Rattle.go_ast.specs.Tree.{ReceiverTree, FuncTree, DeclTree, VarDecl, TypeDecl, FuncDecl}
use Rattle.go_scope.specs.declared.model.Block.TheVariants.{Package as PackageBlock}
use Rattle.go_scope.specs.declared.model.Position.{Position}
use Rattle.go_scope.specs.declared.model.Purpose.TheVariants as purpose
use Rattle.go_scope.specs.declared.model.Role.TheVariants.{Declaring, NotLexical}
use Rattle.go_scope.specs.FileSites.{func_role}
use Rattle.go_scope.specs.Site.{TokenSpellings}
use Rattle.law_tokens.proofs.Ordered.{one_stands}
use Rattle.law_rename.specs.Respelled.{KeepsRole, KeepsRoles}
use Rattle.go_respelled.specs.Trees.{renamed_file}
use Rattle.types_declared.specs.Package.{Package}
use Rattle.types_info.proofs.DeclKinds.{Holds}
use Rattle.workspace_check.specs.Verdicts.{Verdicts}
use Rattle.refs_binding.specs.declared.declaration.Declaration.{Declaration}
use Rattle.refs_binding.specs.Uses.{IsCheckedPackage}
use Rattle.law_faultless.proofs.FunctionsSettled.{function_kept, function_name_kept, no_import_role}
use Rattle.law_faultless.proofs.Scoped.{in_order}
use Rattle.law_faultless.proofs.TypesBound.{Kept, all_kept}
use Rattle.law_renamed_workspaces.specs.Renames.{IsPlainRename}
use Rattle.law_renamed_workspaces.proofs.Bound.{init_unbound, level_bound}
use Rattle.law_renamed_workspaces.proofs.RenamedSets.{reserved_among}
use Rattle.law_renamed_workspaces.proofs.NameEdits.{IsBoundToken}
use Rattle.law_renamed_workspaces.proofs.Replaced.{edits, replaced_or_not, new_spelled, old_spelled, token_bound}

-- the role of a function without a receiver, by whether it is called `init`
plain_role : (name : List ℕ) (b : Bool) → bytes_eq name (codes "init") ≡ b → func_role None name ≡ (if b then NotLexical purpose.InitFunction else Declaring
    PackageBlock 0)
plain_role name b e = ap (λ t. if t then NotLexical purpose.InitFunction else Declaring PackageBlock 0) e

by_receiver : (o : Option ReceiverTree) (old new : List ℕ) → (o ≡ None → func_role None new ≡ func_role None old) → func_role o new ≡ func_role o old
by_receiver None old new f = f refl
by_receiver (Some r) old new f = refl

module _ (w : Workspace) (known : Verdicts) (d : Declaration) (name : List ℕ) (s : FileChanges) (h : IsPlainRename w known d name s) (p : Package)
    (is : IsCheckedPackage w known p) (rank : ℕ) (f : SourceFile) (at : slice_get p.files rank ≡ Some f) where
  abbrev old : ℕ → List ℕ
  old = spelling_of f

  abbrev new : ℕ → List ℕ
  new = spelling_of (renamed_file (edits w known d name s h p is rank f at) f)

  module _ (k : ℕ) (g : FuncTree) (c : ℕ) (held : Holds f.tree.decls (FuncDecl k g c)) (none : g.receiver ≡ None) where
    abbrev token : ℕ
    token = g.name

    -- the identifier of the function's name, and its role
    role_of : (u : ℕ) × ((p.layout.role u ≡ func_role None (old token)) × ((b : IsBoundToken w known h.rename.set p rank token) → u ≡ b.identifier))
    role_of =
        let from : TokenSpellings = record { rank = rank; spell = old } in
        let position : Position = record { file = rank; index = token } in
        let all = function_kept (Kept p rank) from f.tree k g c (all_kept w known p.path p is.is_checked rank f at) held in
        let u = function_name_kept (Kept p rank) from g all (no_import_role g.receiver (old token)) in (
          u.0,
          (
            u.1.1.1 ∙ ap (λ o. func_role o (old token)) none,
            λ b. one_stands p.layout p.size (in_order w known p.path p is.is_checked) position u.0 b.identifier u.1.0 b.inside.0 u.1.1.0 b.stands,
          ),
        )

    -- where it is replaced
    bound_role : IsBoundToken w known h.rename.set p rank token → new token ≡ name → func_role None (new token) ≡ func_role None (old token)
    bound_role b spelled =
        let r = role_of in
        let role : p.layout.role b.identifier ≡ func_role None (old token) = ap p.layout.role (sym (r.1.1 b)) ∙ r.1.0 in
        elim (cases_Bool (bytes_eq (old token) (codes "init"))) [
          | inl init ↦ absurd (init_unbound w h.rename.sound known h.rename.right p is b.identifier b.declaration b.inside b.bound
              (role ∙ plain_role (old token) true init))
          | inr plain ↦
              let level : p.layout.role b.identifier ≡ Declaring PackageBlock 0 = role ∙ plain_role (old token) false plain in
              elim (cases_Bool (bytes_eq name (codes "init"))) [
                | inl init ↦ absurd (h.rename.allowed (reserved_among (IsCheckedPackage w known) d h.rename.set h.rename.is_set name b.declaration b.among (
                  level_bound w h.rename.sound known h.rename.right p is b.identifier b.declaration b.inside b.bound level,
                  inl ((bytes_decides name (codes "init")).0 init),
                )))
                | inr other ↦ ap (func_role None) spelled ∙ plain_role name false other ∙ sym (plain_role (old token) false plain)
              ]
        ]

    plain_kept : func_role None (new token) ≡ func_role None (old token)
    plain_kept = elim (replaced_or_not w known d name s h p is rank f at token) [
      | inl r ↦ bound_role (token_bound w known d name s h p is rank f at token r) (new_spelled w known d name s h p is rank f at token r)
      | inr not ↦ ap (func_role None) (old_spelled w known d name s h p is rank f at token not)
    ]

  role_kept : (x : DeclTree) → Holds f.tree.decls x → KeepsRole old new x
  role_kept (VarDecl k g c) held = tt
  role_kept (TypeDecl k g c) held = tt
  role_kept (FuncDecl k g c) held = by_receiver g.receiver (old g.name) (new g.name) (plain_kept k g c held)

  all_roles : (xs : List DeclTree) → ((x : DeclTree) → Holds xs x → Holds f.tree.decls x) → AllByRecursion (KeepsRole old new) xs
  all_roles [] within = tt
  all_roles (x ∷ xs) within = (role_kept x (within x (inl refl)), all_roles xs (λ y held. within y (inr held)))

  pub roles_kept : KeepsRoles old new f.tree
  roles_kept = All-from_recursion (KeepsRole old new) f.tree.decls (all_roles f.tree.decls (λ x held. held))
