-- The tables of a file's tokens from which its code is made.
use Rattle.std.specs.Prelude.{ℕ, ◌≡◌, ◌↔◌, true, List, Option, Some, None, option_map, slice_get, slice_index_or, map}
use Rattle.std.specs.Global.{Vec}
use Rattle.go_ast.specs.SourceFile.{SourceFile}
use Rattle.types_expr.specs.declared.world.World.{World}
use Rattle.types_expr.specs.declared.found.Entering.{Entering}
use Rattle.types_expr.specs.declared.found.MemberUse.{MemberUse}
use Rattle.types_declared.specs.Package.{Package}
use Rattle.build_object.specs.declared.object_names.ObjectNames.{ObjectNames}
use Rattle.build_object.specs.declared.source.NamedMethod.{NamedMethod}
use Rattle.build_object.specs.declared.source.Mark.{Mark}
use Rattle.build_object.specs.declared.source.Source.{Source}
use Rattle.build_object.specs.Names.{asked_in_file}
use Rattle.build_object.specs.Sources.{DenotesGlobal, IsTextAt, IsTrueAt}
use Rattle.build_object.specs.SourceView.{asked_of, global_in, truth_in}

-- `m` is the mark of the name at a token: its package-level declaration, and whether it is the predeclared `true`.
pub record IsMarkAt (p : Package) (file token : ℕ) (m : Option Mark) : Type 0 where
  pub global : DenotesGlobal p file token (global_in m)
  pub truth : (truth_in m ≡ true) ↔ IsTrueAt p file token

-- `marks` are the marks of the names of a file, by their tokens. Behind the last one no token has a mark.
abbrev pub AreNameMarks : Package → (file : ℕ) → List Mark → Type 0
AreNameMarks p file marks = (token : ℕ) → IsMarkAt p file token (slice_get marks token)

-- `texts` are the values of the string literals of a file, by their tokens.
abbrev pub AreTexts : SourceFile → List (Option (Vec ℕ)) → Type 0
AreTexts f texts = (token : ℕ) → IsTextAt f token (option_map (λ v. v.items) (slice_index_or texts token None))

-- `s` is the source of the code of a file, by its world, its uses of members, its entries and the names of packages.
pub record IsTabledSource (p : Package) (file : ℕ) (judged_by : World) (found : List MemberUse) (entries : List Entering) (known : ObjectNames) (s : Source) :
    Type 0 where
  pub world : s.world ≡ judged_by
  pub uses : s.uses.now ≡ found
  pub used : s.used.places.items ≡ map (λ u. u.place) found
  pub enterings : s.enterings.now ≡ entries
  pub entered : s.entered.places.items ≡ map (λ e. e.place) entries
  pub asked : map asked_of s.asked.items ≡ asked_in_file p.path p.files file
  pub asked_at : s.asked_at.places.items ≡ map (λ (a : NamedMethod). a.place) s.asked.items
  pub marks : AreNameMarks p file s.marks.items
  pub texts : (f : SourceFile) → slice_get p.files file ≡ Some f → AreTexts f s.texts.items
  pub packages : s.packages.now ≡ known
