-- What the files of a package have in common.
use Rattle.std.proofs.Common.{◌≡◌, ℕ, List, true, ◌==◌}
use Rattle.std.specs.Cmp.Lexicographic.{pointwise, bytes_decides}
use Rattle.std.proofs.lemmas.Bool.{and_parts}
use Rattle.base_files.specs.Path.{folder}
use Rattle.base_files.specs.Packages.{is_go, is_of_package}

pub of_folder : (p path : List ℕ) → is_of_package p path ≡ true → folder path ≡ p
of_folder p path h = (bytes_decides _ _).0 (and_parts (is_go path) (pointwise ◌==◌ (folder path) p) h).1
