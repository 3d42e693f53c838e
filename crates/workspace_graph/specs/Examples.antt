-- Small examples. Packages 0 and 1 import each other, and package 2 imports package 0.
use Rattle.std.specs.Prelude.{◌≡◌, true, false, [], ◌∷◌, refl}
use Rattle.std.proofs.Common.{lit<}
use Rattle.base_files.specs.Packages.{is_go}
use Rattle.base_files.specs.Packages.{files_in}
use Rattle.workspace_graph.specs.Imports.{LinkTable, Imports, Reaches, itself, through}

abbrev two_and_one : LinkTable
two_and_one = (1 ∷ []) ∷ (0 ∷ []) ∷ (0 ∷ []) ∷ []

first_imports_second : Imports two_and_one 0 1
first_imports_second = (0, lit< tt, refl)

second_imports_first : Imports two_and_one 1 0
second_imports_first = (0, lit< tt, refl)

third_imports_first : Imports two_and_one 2 0
third_imports_first = (0, lit< tt, refl)

third_reaches_second : Reaches two_and_one 2 1
third_reaches_second = through third_imports_first (through first_imports_second (itself (lit< tt)))

-- The Go files of package `a` among `a/a.go`, `a/b.go`, `a/c.txt` and `b/a.go`.
go_files_of_a : files_in (97 ∷ []) ((97 ∷ 47 ∷ 97 ∷ 46 ∷ 103 ∷ 111 ∷ [], []) ∷ (97 ∷ 47 ∷ 98 ∷ 46 ∷ 103 ∷ 111 ∷ [], []) ∷
    (97 ∷ 47 ∷ 99 ∷ 46 ∷ 116 ∷ 120 ∷ 116 ∷ [], []) ∷ (98 ∷ 47 ∷ 97 ∷ 46 ∷ 103 ∷ 111 ∷ [], []) ∷ [])
    ≡ (97 ∷ 47 ∷ 97 ∷ 46 ∷ 103 ∷ 111 ∷ [], []) ∷ (97 ∷ 47 ∷ 98 ∷ 46 ∷ 103 ∷ 111 ∷ [], []) ∷ []
go_files_of_a = refl

-- `a/a.gox` is no Go file.
not_go : is_go (97 ∷ 47 ∷ 97 ∷ 46 ∷ 103 ∷ 111 ∷ 120 ∷ []) ≡ false
not_go = refl

-- `a/.go` is a Go file.
only_go : is_go (97 ∷ 47 ∷ 46 ∷ 103 ∷ 111 ∷ []) ≡ true
only_go = refl
