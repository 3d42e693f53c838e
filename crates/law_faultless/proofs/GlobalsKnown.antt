-- What the variables and functions of packages are called is known.
use Rattle.std.proofs.Common.{ℕ, ◌≡◌, List, Option, Some, None, refl, subst}
use Rattle.go_ast.specs.SourceFile.{SourceFile}
use Rattle.go_scope.specs.Bindings.{IsPackageLevel}
use Rattle.types_expr.specs.Types.{Meaning, Package as PackageName, Broken}
use Rattle.types_expr.specs.World.{Bound, Means}
use Rattle.types_declared.specs.Package.{Package, spelled}
use Rattle.types_declared.specs.MeaningOf.{PredeclaredMeans, a_type, a_truth, an_untruth, a_nil}
use Rattle.types_declared.specs.MeaningOf.{a_function, IsMeaningOf, predeclared, import_name, local, variable}
use Rattle.types_declared.specs.MeaningOf.{broken_variable, function, broken_function, definition, broken_definition}
use Rattle.types_info.specs.Worlds.{IsBoundAt, by_scope, by_package, IsName, is_bound, is_unbound}
use Rattle.build_object.specs.Lines.{GlobalName}
use Rattle.build_object.specs.Source.{Source}
use Rattle.build_object.specs.Sources.{IsGlobalAt, own, imported, DenotesGlobal, IsSourceOf}
use Rattle.law_faultless.specs.QuestionAnswers.{IsKnown}
use Rattle.law_faultless.specs.GlobalMeanings.{MeansGlobal}

-- a predeclared name is none of them
predeclared_not : {name : List ℕ} {m : Meaning} → PredeclaredMeans name m → MeansGlobal m → ⊥
predeclared_not (a_type b) h = h
predeclared_not a_truth h = h
predeclared_not an_untruth h = h
predeclared_not a_nil h = h
predeclared_not (a_function b) h = h

package_level : (p : Package) (d : ℕ) {b : Bound} → IsMeaningOf p d b → (m : Meaning) → b ≡ Means m → MeansGlobal m → IsPackageLevel p.layout d
package_level p d (predeclared {m = n} i h) m e c = let same : m ≡ n = cc in absurd (predeclared_not h (subst (λ z. MeansGlobal z) same c))
package_level p d (import_name i) m e c = let same : m ≡ PackageName = cc in absurd (subst (λ z. MeansGlobal z) same c)
package_level p d (local i) m e c = cc
package_level p d (variable v i) m e c = v.0
package_level p d (broken_variable v i) m e c = cc
package_level p d (function f h) m e c = f.0
package_level p d (broken_function f h) m e c = cc
package_level p d (definition l i n) m e c = l
package_level p d (broken_definition l i n) m e c = cc

global_at : (p : Package) (file n : ℕ) {b : Bound} → IsBoundAt p file n b → (m : Meaning) → b ≡ Means m → MeansGlobal m →
    (g : GlobalName) × IsGlobalAt p file n g
global_at p file n (by_scope {declaration} binds meant) m e c =
    (record { path = p.path; name = spelled p file n }, own binds (package_level p declaration meant m e c))
global_at p file n (by_package h) m e c =
    let import = h.exported in (
      record { path = import.of_import.path; name = spelled p file n },
      imported (record {
        before = h.before;
        behind_dot = h.behind_dot;
        identifier = h.identifier;
        found = h.found;
        selected = h.selected;
        import = import.import;
        binds = import.binds;
        of_path = import.of_import.imports;
      }),
    )

name_at : (p : Package) (file n : ℕ) {b : Bound} → IsName p file n b → (m : Meaning) → b ≡ Means m → MeansGlobal m → (g : GlobalName) × IsGlobalAt p file n g
name_at p file n (is_bound h) m e c = global_at p file n h m e c
name_at p file n (is_unbound h) m e c = let same : m ≡ Broken = cc in absurd (subst (λ z. MeansGlobal z) same c)

known_global : (p : Package) (file n : ℕ) (o : Option GlobalName) → DenotesGlobal p file n o → (g : GlobalName) × IsGlobalAt p file n g → IsKnown o
known_global p file n None h g = absurd (h g.0 g.1)
known_global p file n (Some x) h g = (x, refl)

pub global_known : (p : Package) (files_of : List ℕ → List SourceFile) (file : ℕ) (f : SourceFile) (s : Source) → IsSourceOf p files_of file f s →
    (n : ℕ) (m : Meaning) → s.world.bound n ≡ Means m → MeansGlobal m → IsKnown (s.global n)
global_known p files_of file f s is n m e c = known_global p file n (s.global n) (is.global n) (name_at p file n (is.world.names n) m e c)
