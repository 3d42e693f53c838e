-- Files whose tokens have other spellings, under the trees that they had.
use Rattle.std.specs.Prelude.{ℕ, suc, ◌≡◌, List, [], ◌∷◌, ◌++◌, Option, map}
use Rattle.std.specs.List.{All}
use Rattle.go_scope.specs.FileSites.{SpelledFile, file_sites, files_sites, package_sites, func_role, universe, universe_site}
use Rattle.go_scope.specs.Named.{named_sites}
use Rattle.go_scope.specs.Site.{Site, sites_layout}
use Rattle.go_ast.specs.Tree.{DeclTree, VarDecl, TypeDecl, FuncDecl, FileTree}

-- The bytes of each token of each file, by the file's rank and the token's index.
abbrev pub Spelling : Type 0
Spelling = ℕ → ℕ → List ℕ

-- An identifier with the spelling of its token as its name.
abbrev pub respelled : Spelling → Site → Site
respelled spell x = record { place = x.place; name = spell x.place.file x.place.index; role = x.role }

-- A function declaration without a receiver is an `init` under both spellings, or under neither. Other declarations may get any names, and
-- so may methods.
--
--   // renaming f to init turns the declaration into an init function, which declares no name
--   func f() {}
abbrev pub KeepsRole : (old new : ℕ → List ℕ) → DeclTree → Type 0
KeepsRole old new (VarDecl k g s) = Unit {0}
KeepsRole old new (TypeDecl k g s) = Unit {0}
KeepsRole old new (FuncDecl k f s) = func_role f.receiver (new f.name) ≡ func_role f.receiver (old f.name)

-- Each declaration of a file keeps its role.
abbrev pub KeepsRoles : (old new : ℕ → List ℕ) → FileTree → Type 0
KeepsRoles old new f = All (KeepsRole old new) f.decls

-- Files from a rank on, with the spellings of `spell`.
unfoldable pub respelled_files : Spelling → ℕ → List SpelledFile → List SpelledFile
respelled_files spell rank [] = []
respelled_files spell rank (f ∷ fs) = record { tree = f.tree; spell = spell rank } ∷ respelled_files spell (suc rank) fs

-- Each declaration of the files from a rank on keeps its role.
unfoldable pub KeepAllRoles : Spelling → ℕ → List SpelledFile → Type 0
KeepAllRoles spell rank [] = Unit {0}
KeepAllRoles spell rank (f ∷ fs) = KeepsRoles f.spell (spell rank) f.tree × KeepAllRoles spell (suc rank) fs

-- A file that keeps its roles keeps its identifiers, but for their names.
abbrev pub FileIsRespelled : Type 0
FileIsRespelled = (rank : ℕ) (old : ℕ → List ℕ) (spell : Spelling) (f : FileTree) → KeepsRoles old (spell rank) f →
    file_sites (record { rank = rank; spell = spell rank }) f ≡ map (respelled spell) (file_sites (record { rank = rank; spell = old }) f)

-- A package whose files keep their roles keeps its identifiers, but for their names, and its predeclared names.
abbrev pub PackageIsRespelled : Type 0
PackageIsRespelled = (spell : Spelling) (files : List SpelledFile) → KeepAllRoles spell 0 files →
    package_sites (respelled_files spell 0 files) ≡ map universe_site universe ++ map (respelled spell) (files_sites 0 files)

-- A package whose files keep their roles keeps its layout, also where imports without a name declare the names of their packages.
abbrev pub LayoutStays : Type 0
LayoutStays = (spell : Spelling) (files : List SpelledFile) (names : ℕ → Option (List ℕ)) → KeepAllRoles spell 0 files →
    sites_layout (named_sites names (package_sites (respelled_files spell 0 files))) ≡ sites_layout (named_sites names (package_sites files))
