-- The tree of a file in which an import gains a name.
use Rattle.std.proofs.Common.{ℕ, ◌≡◌, ◌+◌, ◌<◌, ◌≤◌, List, [], ◌∷◌, ◌++◌, Option, Some, length, map, refl, sym, ap, ◌∙◌, subst, arith, append_assoc, append-nil}
use Rattle.std.specs.Prelude.{slice_get}
use Rattle.std.specs.List.{AllByRecursion}
use Rattle.std.proofs.lemmas.Bool.Decides.{nat_tests}
use Rattle.std.proofs.lemmas.List.{map-append}
use Rattle.std.proofs.lemmas.List.Elements.{All-from_recursion, recursion_from_All}
use Rattle.go_scanner.specs.declared.piece.Piece.{Piece}
use Rattle.go_scanner.specs.CutText.{tokens_in}
use Rattle.go_ast.specs.declared.syntax.Kind.TheVariants as kind
use Rattle.go_ast.specs.declared.syntax.Token.{Token}
use Rattle.go_ast.specs.Flatten.{sign, sign_if, all_tokens, decl_tokens, flatten, group_tokens, import_tokens, imports_tokens, item_tokens, list_tokens}
use Rattle.go_ast.specs.Kinds.{kind_of_name, kinds_from, kinds_of}
use Rattle.go_ast.specs.Tree.{ImportTree, ImportsTree, Item, several}
use Rattle.go_ast.specs.WellFormed.{Any, IsFile, IsGroup, IsImports, IsSeparated, IsTreeOf}
use Rattle.law_rename.specs.Around.{AroundImport, AroundItem, alone, among, around_by, bare_import, file_with, from_on, group_with, imports_with}
use Rattle.law_rename.specs.Around.{item_around_by, import_with_name}
use Rattle.law_rename.specs.Named.{MayPut, NamePut, after_put, before_put, later, literal_piece, name_token, with_one_at}
use Rattle.law_rename.specs.Renumbered.{decl_by, import_by, imports_by, item_by, numbered}
use Rattle.law_rename.proofs.Gaining.{gained_kinds, one_put}
use Rattle.law_rename.proofs.KeptTrees.{file_kept}
use Rattle.law_rename.proofs.Renumbering.{all_same, both, decl_same, import_same, imports_same, list_same, sign_same}

-- what a file writes out before an import, and behind it

abbrev pub left_item : AroundItem → List Token
left_item alone = []
left_item (among o before separator after c) = sign kind.LeftParen o ∷ list_tokens kind.Semicolon import_tokens before

abbrev pub right_item : AroundItem → List Token
right_item alone = []
right_item (among o before separator after c) =
    sign_if kind.Semicolon separator ++ (list_tokens kind.Semicolon import_tokens after ++ (sign kind.RightParen c ∷ []))

abbrev pub left : AroundImport → List Token
left a = sign kind.Package a.keyword ∷ sign kind.Name a.name ∷ sign kind.Semicolon a.semicolon ∷
    (all_tokens imports_tokens a.before ++ (sign kind.Import a.import_keyword ∷ left_item a.item))

abbrev pub right : AroundImport → List Token
right a = right_item a.item ++ (sign kind.Semicolon a.import_semicolon ∷ (all_tokens imports_tokens a.after ++ all_tokens decl_tokens a.decls))

all_of : {X : Type 0} (f : X → List Token) (xs : List X) (y : X) (ys : List X) →
    all_tokens f (xs ++ y ∷ ys) ≡ all_tokens f xs ++ (f y ++ all_tokens f ys)
unfolding all_tokens
all_of f [] y ys = refl
all_of f (x ∷ xs) y ys = ap (λ l. f x ++ l) (all_of f xs y ys) ∙ sym (append_assoc (f x) (all_tokens f xs) (f y ++ all_tokens f ys))

group_split : (i : ImportTree) (x : AroundItem) → group_tokens import_tokens (group_with i x) ≡ left_item x ++ (import_tokens i ++ right_item x)
unfolding group_tokens
group_split i alone = sym (append-nil (import_tokens i))
group_split i (among o before separator after c) =
    let item : Item ImportTree = record { value = i; separator = separator } in
    let front : List Token = list_tokens kind.Semicolon import_tokens before in
    let behind : List Token = list_tokens kind.Semicolon import_tokens after in
    let mark : List Token = sign_if kind.Semicolon separator in
    let close : List Token = sign kind.RightParen c ∷ [] in
    ap (λ l. sign kind.LeftParen o ∷ l) (ap (λ l. l ++ close) (all_of (item_tokens kind.Semicolon import_tokens) before item after)
    ∙ append_assoc front ((import_tokens i ++ mark) ++ behind) close
    ∙ ap (λ l. front ++ l) (append_assoc (import_tokens i ++ mark) behind close ∙ append_assoc (import_tokens i) mark (behind ++ close)))

imports_split : (i : ImportTree) (a : AroundImport) (rest : List Token) →
    imports_tokens (imports_with i a) ++ rest ≡ sign kind.Import a.import_keyword ∷ (left_item a.item ++
    (import_tokens i ++ (right_item a.item ++ (sign kind.Semicolon a.import_semicolon ∷ rest))))
unfolding imports_tokens
imports_split i a rest =
    let end : List Token = sign kind.Semicolon a.import_semicolon ∷ [] in
    let more : List Token = sign kind.Semicolon a.import_semicolon ∷ rest in
    ap (λ l. sign kind.Import a.import_keyword ∷ l) (append_assoc (group_tokens import_tokens (group_with i a.item)) end rest
    ∙ ap (λ l. l ++ more) (group_split i a.item) ∙ append_assoc (left_item a.item) (import_tokens i ++ right_item a.item) more
    ∙ ap (λ l. left_item a.item ++ l) (append_assoc (import_tokens i) (right_item a.item) more))

pub file_split : (i : ImportTree) (a : AroundImport) → flatten (file_with i a) ≡ left a ++ (import_tokens i ++ right a)
unfolding flatten
file_split i a =
    let front : List Token = all_tokens imports_tokens a.before in
    let after : List Token = all_tokens imports_tokens a.after in
    let decls : List Token = all_tokens decl_tokens a.decls in
    let here : List Token = imports_tokens (imports_with i a) in
    let lead : List Token = sign kind.Import a.import_keyword ∷ left_item a.item in
    ap (λ l. sign kind.Package a.keyword ∷ sign kind.Name a.name ∷ sign kind.Semicolon a.semicolon ∷ l)
    (ap (λ l. l ++ decls) (all_of imports_tokens a.before (imports_with i a) a.after) ∙ append_assoc front (here ++ after) decls
    ∙ ap (λ l. front ++ l) (append_assoc here after decls ∙ imports_split i a (after ++ decls))
    ∙ sym (append_assoc front lead (import_tokens i ++ right a)))

-- the same with other numbers

module _ (g : ℕ → ℕ) where
  left_item_by : (x : AroundItem) → left_item (item_around_by g x) ≡ map (numbered g) (left_item x)
  left_item_by alone = refl
  left_item_by (among o before separator after c) =
      ap (λ l. sign kind.LeftParen (g o) ∷ l) (list_same g kind.Semicolon import_tokens (import_by g) (import_same g) before)

  right_item_by : (x : AroundItem) → right_item (item_around_by g x) ≡ map (numbered g) (right_item x)
  right_item_by alone = refl
  right_item_by (among o before separator after c) =
      both g (sign_if kind.Semicolon separator) (list_tokens kind.Semicolon import_tokens after ++ (sign kind.RightParen c ∷ []))
      (sign_same g kind.Semicolon separator)
      (both g (list_tokens kind.Semicolon import_tokens after) (sign kind.RightParen c ∷ [])
      (list_same g kind.Semicolon import_tokens (import_by g) (import_same g) after) refl)

  left_by : (a : AroundImport) → left (around_by g a) ≡ map (numbered g) (left a)
  left_by a = ap (λ l. sign kind.Package (g a.keyword) ∷ sign kind.Name (g a.name) ∷ sign kind.Semicolon (g a.semicolon) ∷ l)
      (both g (all_tokens imports_tokens a.before) (sign kind.Import a.import_keyword ∷ left_item a.item)
      (all_same g imports_tokens (imports_by g) (imports_same g) a.before)
      (ap (λ l. sign kind.Import (g a.import_keyword) ∷ l) (left_item_by a.item)))

  right_by : (a : AroundImport) → right (around_by g a) ≡ map (numbered g) (right a)
  right_by a =
      let after : List Token = all_tokens imports_tokens a.after in
      let decls : List Token = all_tokens decl_tokens a.decls in
      both g (right_item a.item) (sign kind.Semicolon a.import_semicolon ∷ (after ++ decls)) (right_item_by a.item)
      (ap (λ l. sign kind.Semicolon (g a.import_semicolon) ∷ l) (both g after decls
      (all_same g imports_tokens (imports_by g) (imports_same g) a.after) (all_same g decl_tokens (decl_by g) (decl_same g) a.decls)))

-- the tokens of a file are numbered in their order

abbrev pub NumberedFrom : ℕ → List Token → Type 0
NumberedFrom n [] = Unit {0}
NumberedFrom n (t ∷ ts) = (t.place ≡ n) × NumberedFrom (n + 1) ts

pub kinds_numbered : (n : ℕ) (text : List ℕ) (ts : List Piece) → NumberedFrom n (kinds_from n text ts)
unfolding kinds_from
kinds_numbered n text [] = tt
kinds_numbered n text (t ∷ ts) = (refl, kinds_numbered (n + 1) text ts)

numbered_front : (n : ℕ) (us vs : List Token) → NumberedFrom n (us ++ vs) → NumberedFrom n us
numbered_front n [] vs all = tt
numbered_front n (u ∷ us) vs all = (all.0, numbered_front (n + 1) us vs all.1)

pub numbered_behind : (n : ℕ) (us vs : List Token) → NumberedFrom n (us ++ vs) → NumberedFrom (n + length us) vs
numbered_behind n [] vs all = let same : n ≡ n + 0 = omega arith in subst (λ (k : ℕ). NumberedFrom k vs) same all
numbered_behind n (u ∷ us) vs all =
    let same : n + 1 + length us ≡ n + length (u ∷ us) = omega arith in
    subst (λ (k : ℕ). NumberedFrom k vs) same (numbered_behind (n + 1) us vs all.1)

number_before : (number n : ℕ) → n < number → from_on number n ≡ n
number_before number n less = grind (arith, nat_tests)

number_behind : (number n : ℕ) → number ≤ n → from_on number n ≡ n + 1
number_behind number n le = grind (arith, nat_tests)

before_same : (number n : ℕ) (ts : List Token) → NumberedFrom n ts → n + length ts ≤ number → map (numbered (from_on number)) ts ≡ ts
before_same number n [] all le = refl
before_same number n (t ∷ ts) all le =
    let less : t.place < number = omega (arith, all.0) in
    let first : from_on number t.place ≡ t.place = number_before number t.place less in
    let rest = before_same number (n + 1) ts all.1 (omega arith) in
    λ i. record { kind = t.kind; place = first i } ∷ rest i

behind_later : (number n : ℕ) (ts : List Token) → NumberedFrom n ts → number ≤ n → map (numbered (from_on number)) ts ≡ map later ts
behind_later number n [] all le = refl
behind_later number n (t ∷ ts) all le =
    let behind : number ≤ t.place = omega (arith, all.0) in
    let first : from_on number t.place ≡ t.place + 1 = number_behind number t.place behind in
    let rest = behind_later number (n + 1) ts all.1 (omega arith) in
    λ i. record { kind = t.kind; place = first i } ∷ rest i

-- the file with the name is as the grammar has it

replace_one : {X : Type 0} (P : X → Type 0) (xs ys : List X) (y z : X) → (P y → P z) → AllByRecursion P (xs ++ y ∷ ys) → AllByRecursion P (xs ++ z ∷ ys)
replace_one P [] ys y z to all = (to all.0, all.1)
replace_one P (x ∷ xs) ys y z to all = (all.0, replace_one P xs ys y z to all.1)

not_empty : {X : Type 0} (xs ys : List X) (y : X) → xs ++ y ∷ ys ≡ [] → ⊥
not_empty [] ys y is = cc
not_empty (x ∷ xs) ys y is = cc

separated_one : {X : Type 0} (xs ys : List (Item X)) (i j : X) (s : Option ℕ) → IsSeparated (xs ++ record { value = i; separator = s } ∷ ys) →
    IsSeparated (xs ++ record { value = j; separator = s } ∷ ys)
separated_one [] ys i j s w = w
separated_one (x ∷ xs) ys i j s w =
    ((λ none. absurd (not_empty xs ys (record { value = i; separator = s }) (w.0 none))), separated_one xs ys i j s w.1)

group_named : (g : ℕ → ℕ) (i j : ImportTree) (x : AroundItem) → IsGroup Any (group_with i x) → IsGroup Any (group_with j x)
group_named g i j alone w = tt
group_named g i j (among o before separator after c) w =
    record { separated = separated_one before after i j separator w.separated; each = λ k d lt. tt }

groups_by : (g : ℕ → ℕ) (i : ImportTree) (a : AroundImport) → imports_by g (imports_with i a) ≡ imports_with (import_by g i) (around_by g a)
groups_by g i a = by_item a.item
  where
    by_item : (x : AroundItem) → ◌≡◌ {A = ImportsTree}
        (imports_by g (record { keyword = a.import_keyword; imports = group_with i x; semicolon = a.import_semicolon }))
        (record { keyword = g a.import_keyword; imports = group_with (import_by g i) (item_around_by g x); semicolon = g a.import_semicolon })
    by_item alone = refl
    by_item (among o before separator after c) =
        ap (λ (l : List (Item ImportTree)). record { keyword = g a.import_keyword; imports = several (g o) l (g c); semicolon = g a.import_semicolon })
        (map-append (item_by g (import_by g)) before (record { value = i; separator = separator } ∷ after))

named_well : (g : ℕ → ℕ) (i j : ImportTree) (a : AroundImport) → IsFile (file_with i a) → IsFile (file_with j (around_by g a))
named_well g i j a w =
    let kept = file_kept g (file_with i a) w in
    let split = map-append (imports_by g) a.before (imports_with i a ∷ a.after) in
    let imports = subst (AllByRecursion IsImports) split
    (recursion_from_All IsImports (map (imports_by g) (a.before ++ imports_with i a ∷ a.after)) kept.imports) in
    let before : List ImportsTree = map (imports_by g) a.before in
    let after : List ImportsTree = map (imports_by g) a.after in
    let named = replace_one IsImports before after (imports_by g (imports_with i a)) (imports_with j (around_by g a))
    (λ is. group_named g (import_by g i) j (item_around_by g a.item) (subst IsImports (groups_by g i a) is)) imports in
    record { imports = All-from_recursion IsImports (before ++ imports_with j (around_by g a) ∷ after) named; decls = kept.decls }

-- both

pub bare_tokens : (number : ℕ) → import_tokens (bare_import number) ≡ sign kind.Text number ∷ []
unfolding import_tokens
bare_tokens number = refl

named_tokens : (number : ℕ) → import_tokens (import_with_name number) ≡ sign kind.Name number ∷ sign kind.Text (number + 1) ∷ []
unfolding import_tokens
named_tokens number = refl

-- the kinds of both texts, by what the tree writes out before the import and behind it
pub record BothKinds (p : NamePut) (number : ℕ) (a : AroundImport) : Type 0 where
  pub old : kinds_of (before_put p) ≡ left a ++ sign kind.Text number ∷ right a
  pub new : kinds_of (after_put p) ≡ left a ++ sign kind.Name number ∷ map later (sign kind.Text number ∷ right a)
  pub written : flatten (file_with (import_with_name number) (around_by (from_on number) a)) ≡ left a ++ sign kind.Name number ∷ map later
      (sign kind.Text number ∷ right a)

pub both_kinds : (p : NamePut) (number : ℕ) (a : AroundImport) → MayPut p → slice_get (tokens_in (before_put p)) number ≡ Some (literal_piece p) →
    kind_of_name p.name ≡ kind.Name → IsTreeOf (file_with (bare_import number) a) (kinds_of (before_put p)) → BothKinds p number a
both_kinds p number a may at name tree =
    let g : ℕ → ℕ = from_on number in
    let there : List Token = sign kind.Text number ∷ right a in
    let old : kinds_of (before_put p) ≡ left a ++ there =
    sym tree.written ∙ file_split (bare_import number) a ∙ ap (λ l. left a ++ (l ++ right a)) (bare_tokens number) in
    let order : NumberedFrom 0 (left a ++ there) = subst (NumberedFrom 0) old (kinds_numbered 0 (before_put p).text (tokens_in (before_put p))) in
    let behind = numbered_behind 0 (left a) there order in
    let is : number ≡ 0 + length (left a) = behind.0 in
    let size : number ≡ length (left a) = omega (arith, is) in
    let front_same : map (numbered g) (left a) ≡ left a = before_same number 0 (left a) (numbered_front 0 (left a) there order) (omega (arith, is)) in
    let behind_same : map (numbered g) (right a) ≡ map later (right a) =
    behind_later number (0 + length (left a) + 1) (right a) behind.1 (omega (arith, is)) in
    let new_kinds : kinds_of (after_put p) ≡ left a ++ name_token p.name number ∷ map later there =
    gained_kinds p number may at ∙ ap (with_one_at number (name_token p.name number) later) old
    ∙ one_put (left a) there number (name_token p.name number) later size in
    let name_is : name_token p.name number ≡ sign kind.Name number = λ i. record { kind = name i; place = number } in
    let written : flatten (file_with (import_with_name number) (around_by g a)) ≡ left a ++ sign kind.Name number ∷ map later there =
    file_split (import_with_name number) (around_by g a) ∙ ap (λ l. left (around_by g a) ++ (l ++ right (around_by g a))) (named_tokens number)
    ∙ ap (λ l. l ++ sign kind.Name number ∷ sign kind.Text (number + 1) ∷ right (around_by g a)) (left_by g a ∙ front_same)
    ∙ ap (λ l. left a ++ sign kind.Name number ∷ sign kind.Text (number + 1) ∷ l) (right_by g a ∙ behind_same) in
    record { old = old; new = new_kinds ∙ ap (λ t. left a ++ t ∷ map later there) name_is; written = written }

pub gained_tree : (p : NamePut) (number : ℕ) (a : AroundImport) → MayPut p → slice_get (tokens_in (before_put p)) number ≡ Some (literal_piece p) →
    kind_of_name p.name ≡ kind.Name → IsTreeOf (file_with (bare_import number) a) (kinds_of (before_put p)) →
    IsTreeOf (file_with (import_with_name number) (around_by (from_on number) a)) (kinds_of (after_put p))
gained_tree p number a may at name tree =
    let kinds = both_kinds p number a may at name tree in
    record {
      written = kinds.written ∙ sym kinds.new;
      well_formed = named_well (from_on number) (bare_import number) (import_with_name number) a tree.well_formed;
    }
