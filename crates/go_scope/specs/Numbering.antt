-- Numbers for the names of identifiers.
use Rattle.std.specs.Prelude.{ℕ, ◌≡◌, ◌<◌, ◌↔◌, Bool, true, false, List, [], ◌∷◌, slice_index_or}
use Rattle.indexmap.specs.IndexMap.{IndexMap, get}
use Rattle.go_scope.specs.declared.model.Role.{Role}
use Rattle.go_scope.specs.declared.model.Role.TheVariants.{Use, Declaring, LeftName, Implied, NotLexical}
use Rattle.go_scope.specs.declared.numbering.NameBytes.{NameBytes}
use Rattle.go_scope.specs.contracts.numbering.NameBytesPartialEq.TheImpl as equal
use Rattle.go_scope.specs.Bindings.{Layout, Names}
use Rattle.go_scope.specs.ByToken.{IsFirstBelow}

-- the name of an identifier of this role is looked up: the identifier is a use, or it may declare
abbrev pub is_lexical : Role → Bool
is_lexical Use = true
is_lexical (Declaring block start) = true
is_lexical (LeftName block start) = true
is_lexical (Implied block start) = true
is_lexical (NotLexical p) = false

-- the name of d is looked up
abbrev pub IsLexical : Layout → ℕ → Type 0
IsLexical l d = is_lexical (l.role d) ≡ true

-- d's name is looked up, and is this name
abbrev pub HasName : Layout → Names → List ℕ → ℕ → Type 0
HasName l names name d = IsLexical l d × (names d ≡ name)

-- `firsts` gives for each name the first of n identifiers whose name is looked up and is this name
abbrev pub AreFirsts : {S : Type 0} → Layout → Names → ℕ → IndexMap NameBytes ℕ S → Type 0
AreFirsts l names n firsts = (name : NameBytes) → IsFirstBelow (HasName l names name.bytes.now) n (get equal.ghosts.eq firsts name)

-- the number of d's name, 0 beyond the list
abbrev pub number_at : List ℕ → ℕ → ℕ
number_at numbers d = slice_index_or numbers d 0

-- names given by numbers: each is written as its number alone
abbrev pub numerals : List ℕ → Names
numerals numbers d = number_at numbers d ∷ []

-- of n identifiers, two names that are looked up have the same number exactly if they are equal
abbrev pub Distinguish : Layout → Names → ℕ → List ℕ → Type 0
Distinguish l names n numbers = (d e : ℕ) → d < n → e < n → IsLexical l d → IsLexical l e → (number_at numbers d ≡ number_at numbers e) ↔ (names d ≡ names e)

-- the numbers of the names of n identifiers are below n
abbrev pub AreBelow : ℕ → List ℕ → Type 0
AreBelow n numbers = (d : ℕ) → d < n → number_at numbers d < n
