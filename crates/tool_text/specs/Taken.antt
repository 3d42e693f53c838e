-- Which folders and files Go takes, and which files have build constraints.
use Rattle.std.specs.Prelude.{◌==◌, ◌||◌, ◌&&◌, ℕ, Bool, true, false, List, [], ◌∷◌, Option, None, Some, codes, drop, if◌then◌else◌, length, nat_eq, not}
use Rattle.std.specs.List.{before_first, ends_with, list_any, slice_index_or, starts_with}
use Rattle.std.specs.Cmp.Lexicographic.{pointwise}
use Rattle.tool_text.specs.GoMod.{is_padding, trimmed}
use Rattle.tool_text.specs.Parts.{parts}

-- Whether Go leaves out a folder or file of this name because it begins with `.` or `_`.
abbrev pub is_hidden : List ℕ → Bool
is_hidden name = starts_with nat_eq name (codes ".") || starts_with nat_eq name (codes "_")

-- Whether Go looks for packages in a folder of this name.
abbrev pub takes_folder : List ℕ → Bool
takes_folder name = not (is_hidden name || (pointwise ◌==◌ name (codes "vendor") || pointwise ◌==◌ name (codes "testdata")))

-- Whether Go takes a file of this name as a file of a package, where no build constraint excludes it.
abbrev pub takes_file : List ℕ → Bool
takes_file name = not (is_hidden name) && ends_with nat_eq name (codes ".go")

-- Whether nothing or a blank follows a word.
abbrev pub ends_word : List ℕ → Bool
ends_word rest = length rest == 0 || is_padding (slice_index_or rest 0 0)

-- Whether the text begins with the word, with nothing or a blank behind it.
abbrev pub begins_with_word : (text word : List ℕ) → Bool
begins_with_word text word = if starts_with nat_eq text word then ends_word (drop (length word) text) else false

-- Whether the text is a comment that begins with `+build`.
abbrev pub is_build_comment : List ℕ → Bool
is_build_comment text = if starts_with nat_eq text (codes "//") then begins_with_word (trimmed (drop 2 text)) (codes "+build") else false

-- Whether a line is a build constraint `//go:build`.
abbrev pub is_go_build : List ℕ → Bool
is_go_build line = begins_with_word (trimmed line) (codes "//go:build")

-- The mark that ends the block comment in which a byte stands, or that begins one where it stands in none.
abbrev pub comment_mark : (inside : Bool) → List ℕ
comment_mark true = codes "*/"
comment_mark false = codes "/*"

-- Whether a line that begins inside or outside a block comment ends inside one. There is no answer where it has text that is no comment.
-- `mark_left` says that the first byte still belongs to the mark that begins or ends a block comment.
abbrev pub ends_inside_from : (mark_left inside : Bool) → List ℕ → Option Bool
ends_inside_from mark_left inside [] = Some inside
ends_inside_from true inside (byte ∷ line) = ends_inside_from false inside line
ends_inside_from false inside (byte ∷ line) =
    if starts_with nat_eq (byte ∷ line) (comment_mark inside) then ends_inside_from true (not inside) line
    else (if inside || is_padding byte then ends_inside_from false inside line
    else (if starts_with nat_eq (byte ∷ line) (codes "//") then Some false else None))

-- Whether a line that begins inside or outside a block comment ends inside one. There is no answer where it has text that is no comment.
abbrev pub ends_inside : (inside : Bool) → List ℕ → Option Bool
ends_inside = ends_inside_from false

-- Whether one of these lines is a build constraint `//go:build`: it stands outside block comments, and no text that is no comment stands
-- before it. The first argument says whether the first line begins inside a block comment; none where such text stands before the lines.
abbrev pub has_go_build : (inside : Option Bool) → List (List ℕ) → Bool
has_go_build None lines = false
has_go_build (Some inside) [] = false
has_go_build (Some inside) (line ∷ lines) =
    if not inside && is_go_build line then true else has_go_build (ends_inside inside line) lines

-- Whether a comment `+build` among these lines is a build constraint: only comments `//` and empty lines stand before it, and an empty line
-- is one of those that follow. `seen` says that one stands before these lines already.
abbrev pub has_plus_build : (seen : Bool) → List (List ℕ) → Bool
has_plus_build seen [] = false
has_plus_build seen (line ∷ lines) =
    if length (trimmed line) == 0 && seen then true
    else (if not (length (trimmed line) == 0) && not (starts_with nat_eq (trimmed line) (codes "//")) then false
    else has_plus_build (seen || is_build_comment (trimmed line)) lines)

-- A byte order mark in UTF-8.
abbrev pub order_mark : List ℕ
order_mark = 239 ∷ 187 ∷ 191 ∷ []

-- The text without a byte order mark at its begin, which Go skips.
abbrev pub without_order_mark : List ℕ → List ℕ
without_order_mark text = if starts_with nat_eq text order_mark then drop 3 text else text

-- Whether one of these lines is a build constraint.
abbrev pub is_constrained : List (List ℕ) → Bool
is_constrained lines = has_go_build (Some false) lines || has_plus_build false lines

-- Whether a Go file has a build constraint.
abbrev pub has_build_line : List ℕ → Bool
has_build_line text = is_constrained (parts 10 (without_order_mark text))

-- Whether the word is one of the words between blanks.
abbrev pub is_among : List ℕ → List ℕ → Bool
is_among word words = list_any (λ other. pointwise ◌==◌ other word) (parts 32 words)

-- The names of operating systems and architectures that Go knows in names of files.
abbrev pub platforms : List ℕ
platforms = codes "aix android darwin dragonfly freebsd hurd illumos ios js linux nacl netbsd openbsd plan9 solaris wasip1 windows zos 386 amd64 amd64p32 arm armbe arm64 arm64be loong64 mips mipsle mips64 mips64le mips64p32 mips64p32le ppc ppc64 ppc64le riscv riscv64 s390 s390x sparc sparc64 wasm"

-- Whether the word is the name of an operating system or an architecture.
unfoldable pub is_platform : List ℕ → Bool
is_platform word = is_among word platforms

-- Of these parts behind two others, the last, or the one before it where the last is `test`.
abbrev pub platform_word : (before last : List ℕ) → List (List ℕ) → List ℕ
platform_word before last [] = if pointwise ◌==◌ last (codes "test") then before else last
platform_word before last (part ∷ others) = platform_word last part others

-- Whether the name of a file restricts it to an operating system or an architecture: the last part of its stem behind an `_`, or the one
-- before `test`, is the name of one.
abbrev pub names_platform : List ℕ → Bool
names_platform name = is_platform (platform_word [] [] (drop 1 (parts 95 (before_first (λ byte. byte == 46) name))))
