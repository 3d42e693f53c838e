-- The declarations of files are those of the files' trees.
use Rattle.std.proofs.Common.{ℕ, ◌≡◌, ◌+◌, List, [], ◌∷◌, ◌++◌, ap, sym, ◌∙◌, refl}
use Rattle.std.specs.List.{flat_map, enumerate_from}
use Rattle.go_ast.specs.SourceFile.{SourceFile}
use Rattle.go_ast.specs.Tree.{FileTree}
use Rattle.types_declared.specs.Files.{RankedSource}
use Rattle.types_declared.specs.Package.{decl_variables, decl_types, decl_functions, declared_variables, declared_types, declared_functions}
use Rattle.law_changed_types.specs.SameBindings.{trees_of}

-- what is listed of each file's rank and tree
by_trees : {X : Type 0} (list : ℕ → FileTree → List X) (n : ℕ) (files : List SourceFile) →
    flat_map (λ (r : RankedSource). list r.0 r.1.tree) (enumerate_from n files) ≡
    flat_map (λ (r : ℕ × FileTree). list r.0 r.1) (enumerate_from n (trees_of files))
by_trees list n [] = refl
by_trees list n (f ∷ fs) = ap (λ xs. list n f.tree ++ xs) (by_trees list (n + 1) fs)

same_list : {X : Type 0} (list : ℕ → FileTree → List X) (fs gs : List SourceFile) → trees_of gs ≡ trees_of fs →
    flat_map (λ (r : RankedSource). list r.0 r.1.tree) (enumerate_from 0 gs) ≡ flat_map (λ (r : RankedSource). list r.0 r.1.tree) (enumerate_from 0 fs)
same_list list fs gs trees =
    by_trees list 0 gs ∙ ap (λ ts. flat_map (λ (r : ℕ × FileTree). list r.0 r.1) (enumerate_from 0 ts)) trees ∙ sym (by_trees list 0 fs)

pub same_variables : (fs gs : List SourceFile) → trees_of gs ≡ trees_of fs → declared_variables gs ≡ declared_variables fs
same_variables fs gs trees = same_list (λ n t. flat_map (decl_variables n) t.decls) fs gs trees

pub same_types : (fs gs : List SourceFile) → trees_of gs ≡ trees_of fs → declared_types gs ≡ declared_types fs
same_types fs gs trees = same_list (λ n t. flat_map (decl_types n) t.decls) fs gs trees

pub same_functions : (fs gs : List SourceFile) → trees_of gs ≡ trees_of fs → declared_functions gs ≡ declared_functions fs
same_functions fs gs trees = same_list (λ n t. flat_map (decl_functions n) t.decls) fs gs trees
