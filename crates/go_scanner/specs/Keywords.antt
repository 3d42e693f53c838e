-- The keywords of Go and their spellings.
use Rattle.std.specs.Prelude.{ℕ, Bool, false, List, [], ◌∷◌, filter, slice_index, ◌==◌, ◌||◌, if◌then◌else◌}
use Rattle.go_scanner.specs.declared.keywords.Keyword.{Keyword}
use Rattle.go_scanner.specs.declared.keywords.Keyword.TheVariants.{Break, Case, Chan, Const, Continue, Default, Defer, Else, Fallthrough, For, Func, Go, Goto}
use Rattle.go_scanner.specs.declared.keywords.Keyword.TheVariants.{If, Import, Interface, Map, Package, Range, Return, Select, Struct, Switch, «Type», Var}

-- the bytes of a keyword
abbrev pub keyword_spelling : Keyword → List ℕ
keyword_spelling Break = 98 ∷ 114 ∷ 101 ∷ 97 ∷ 107 ∷ []  -- break
keyword_spelling Case = 99 ∷ 97 ∷ 115 ∷ 101 ∷ []  -- case
keyword_spelling Chan = 99 ∷ 104 ∷ 97 ∷ 110 ∷ []  -- chan
keyword_spelling Const = 99 ∷ 111 ∷ 110 ∷ 115 ∷ 116 ∷ []  -- const
keyword_spelling Continue = 99 ∷ 111 ∷ 110 ∷ 116 ∷ 105 ∷ 110 ∷ 117 ∷ 101 ∷ []  -- continue
keyword_spelling Default = 100 ∷ 101 ∷ 102 ∷ 97 ∷ 117 ∷ 108 ∷ 116 ∷ []  -- default
keyword_spelling Defer = 100 ∷ 101 ∷ 102 ∷ 101 ∷ 114 ∷ []  -- defer
keyword_spelling Else = 101 ∷ 108 ∷ 115 ∷ 101 ∷ []  -- else
keyword_spelling Fallthrough = 102 ∷ 97 ∷ 108 ∷ 108 ∷ 116 ∷ 104 ∷ 114 ∷ 111 ∷ 117 ∷ 103 ∷ 104 ∷ []  -- fallthrough
keyword_spelling For = 102 ∷ 111 ∷ 114 ∷ []  -- for
keyword_spelling Func = 102 ∷ 117 ∷ 110 ∷ 99 ∷ []  -- func
keyword_spelling Go = 103 ∷ 111 ∷ []  -- go
keyword_spelling Goto = 103 ∷ 111 ∷ 116 ∷ 111 ∷ []  -- goto
keyword_spelling If = 105 ∷ 102 ∷ []  -- if
keyword_spelling Import = 105 ∷ 109 ∷ 112 ∷ 111 ∷ 114 ∷ 116 ∷ []  -- import
keyword_spelling Interface = 105 ∷ 110 ∷ 116 ∷ 101 ∷ 114 ∷ 102 ∷ 97 ∷ 99 ∷ 101 ∷ []  -- interface
keyword_spelling Map = 109 ∷ 97 ∷ 112 ∷ []  -- map
keyword_spelling Package = 112 ∷ 97 ∷ 99 ∷ 107 ∷ 97 ∷ 103 ∷ 101 ∷ []  -- package
keyword_spelling Range = 114 ∷ 97 ∷ 110 ∷ 103 ∷ 101 ∷ []  -- range
keyword_spelling Return = 114 ∷ 101 ∷ 116 ∷ 117 ∷ 114 ∷ 110 ∷ []  -- return
keyword_spelling Select = 115 ∷ 101 ∷ 108 ∷ 101 ∷ 99 ∷ 116 ∷ []  -- select
keyword_spelling Struct = 115 ∷ 116 ∷ 114 ∷ 117 ∷ 99 ∷ 116 ∷ []  -- struct
keyword_spelling Switch = 115 ∷ 119 ∷ 105 ∷ 116 ∷ 99 ∷ 104 ∷ []  -- switch
keyword_spelling «Type» = 116 ∷ 121 ∷ 112 ∷ 101 ∷ []  -- type
keyword_spelling Var = 118 ∷ 97 ∷ 114 ∷ []  -- var

-- all keywords, by alphabet
abbrev pub all_keywords : List Keyword
all_keywords = Break ∷ Case ∷ Chan ∷ Const ∷ Continue ∷ Default ∷ Defer ∷ Else ∷ Fallthrough ∷ For ∷ Func ∷ Go ∷ Goto ∷ If ∷ Import ∷ Interface ∷ Map ∷
    Package ∷ Range ∷ Return ∷ Select ∷ Struct ∷ Switch ∷ «Type» ∷ Var ∷ []

-- the keywords among `ks` that begin with the byte `first`
abbrev pub keywords_with : ℕ → List Keyword → List Keyword
keywords_with first ks = filter (λ k. slice_index (keyword_spelling k) 0 == first) ks

-- some keyword begins with these two bytes
abbrev pub may_begin : ℕ → ℕ → Bool
may_begin first second = if first == 98 then second == 114 else (if first == 99 then second == 97 || (second == 104 || second == 111) else
    (if first == 100 then second == 101 else (if first == 101 then second == 108 else
    (if first == 102 then second == 97 || (second == 111 || second == 117) else (if first == 103 then second == 111 else
    (if first == 105 then second == 102 || (second == 109 || second == 110) else (if first == 109 then second == 97 else
    (if first == 112 then second == 97 else (if first == 114 then second == 97 || second == 101 else
    (if first == 115 then second == 101 || (second == 116 || second == 119) else (if first == 116 then second == 121 else
    (if first == 118 then second == 97 else false))))))))))))
