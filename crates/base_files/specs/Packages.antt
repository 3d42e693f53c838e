-- The packages of a workspace: the folders of its Go files.
use Rattle.std.specs.Prelude.{ℕ, ◌&&◌, ◌==◌, nat_eq, Bool, List, [], ◌∷◌, filter, map}
use Rattle.std.specs.List.{ends_with}
use Rattle.std.specs.FinMap as files
use Rattle.std.specs.Cmp.Lexicographic.{pointwise}
use Rattle.base_files.specs.Path.{folder}
use Rattle.base_files.specs.Workspace.{Workspace, path_cmp}

-- Whether the path ends in `.go`.
abbrev pub is_go : List ℕ → Bool
is_go path = ends_with nat_eq path (46 ∷ 103 ∷ 111 ∷ [])

-- The folders of the Go files.
abbrev pub folders : Workspace → files.FinMap path_cmp (Unit {0})
folders w = files.from_entries (map (λ path. (folder path, tt)) (filter is_go (files.keys w)))

-- The paths of the packages, in the order of their bytes. The number of a package is its place in this list.
abbrev pub package_paths : Workspace → List (List ℕ)
package_paths w = files.keys (folders w)

-- Whether the path is that of a Go file directly in the folder `p`.
abbrev pub is_of_package : List ℕ → List ℕ → Bool
is_of_package p path = is_go path && pointwise ◌==◌ (folder path) p

-- The files, as pairs of path and text, that are Go files directly in the folder `p`.
abbrev pub files_in : List ℕ → List (List ℕ × List ℕ) → List (List ℕ × List ℕ)
files_in p files = filter (λ e. is_of_package p e.0) files

-- The Go files of the package at `p` with their texts, in the order of the bytes of their paths.
abbrev pub package_files : Workspace → List ℕ → List (List ℕ × List ℕ)
package_files w p = files_in p (files.entries w)
