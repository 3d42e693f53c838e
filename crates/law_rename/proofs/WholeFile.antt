-- Where an import gains a name, the tokens are still a file within the limit of nesting.
use Rattle.std.proofs.Common.{ℕ, suc, ◌≡◌, ◌+◌, ◌-◌, ◌≤◌, Bool, true, false, List, [], ◌∷◌, ◌++◌, Option, None, Some, map, refl, sym, ap, ◌∙◌, subst}
use Rattle.std.proofs.Common.{append_assoc}
use Rattle.std.specs.Prelude.{slice_get}
use Rattle.std.specs.List.{AllByRecursion}
use Rattle.go_scanner.specs.CutText.{tokens_in}
use Rattle.std.proofs.lemmas.Bool.{false≢true}
use Rattle.std.proofs.lemmas.List.Elements.{All-from_recursion, recursion_from_All}
use Rattle.go_ast.specs.declared.syntax.Kind.{Kind}
use Rattle.go_ast.specs.declared.syntax.Kind.TheVariants as kind
use Rattle.go_ast.specs.declared.syntax.Token.{Token}
use Rattle.go_ast.specs.Flatten.{sign, sign_if, all_tokens, group_tokens, import_tokens, imports_tokens, list_tokens}
use Rattle.go_ast.specs.Grammar.{A, Begins, Close, File, GroupOf, ImportItem, Imports, Items}
use Rattle.go_ast.specs.Grammar.{MoreItems, One, Opening, Otherwise, Part, Rule, Single, GrammarSymbol}
use Rattle.go_ast.specs.Grammar.{Tops, is, rules}
use Rattle.go_ast.specs.Language.{Among, Derives, below, by_rule, closing, ends, levels, opening, tested, token, untested}
use Rattle.go_ast.specs.Kinds.{kind_of_name, kinds_of}
use Rattle.go_ast.specs.SourceFile.{IsSourceFile}
use Rattle.go_ast.specs.Tree.{Group, ImportTree, ImportsTree, Item, several, single}
use Rattle.go_ast.specs.Verdict.{IsWhole}
use Rattle.law_rename.specs.Around.{AroundImport, AroundItem, alone, among, around_by, bare_import, file_with, from_on, import_with_name}
use Rattle.law_rename.specs.Named.{MayPut, NamePut, after_put, before_put, later, literal_piece}
use Rattle.law_rename.proofs.Gaining.{put_cut}
use Rattle.law_rename.proofs.NamedTree.{both_kinds, gained_tree, left, left_item, right}

abbrev Bound : List ℕ → Type 0
Bound ls = AllByRecursion (λ l. l ≤ 200) ls

record Back (d : ℕ) (ss : List GrammarSymbol) (ts : List Token) (ls : List ℕ) : Type 0 where
  old : Derives ss ts
  bounds : Bound (levels d old) → Bound ls

-- what derives the one list derives the other, and opens no more levels there
record Alike (d : ℕ) (ss : List GrammarSymbol) (ts us : List Token) : Type 0 where
  forth : Derives ss ts → Derives ss us
  back : (x : Derives ss us) → Back d ss ts (levels d x)

-- one token

one_forth : {c : Kind → Bool} {t u : Token} {ss : List GrammarSymbol} {ts us : List Token} → t.kind ≡ u.kind → (Derives ss ts → Derives ss us) →
    Derives (One c ∷ ss) (t ∷ ts) → Derives (One c ∷ ss) (u ∷ us)
one_forth same go (token e x) = token (cc) (go x)

one_back : {c : Kind → Bool} {d : ℕ} {t u : Token} {ss : List GrammarSymbol} {ts us : List Token} → t.kind ≡ u.kind →
    ((x : Derives ss us) → Back d ss ts (levels d x)) → (x : Derives (One c ∷ ss) (u ∷ us)) → Back d (One c ∷ ss) (t ∷ ts) (levels d x)
one_back same go (token e x) = let b = go x in record { old = token (cc) b.old; bounds = λ all. (all.0, b.bounds all.1) }

one : {c : Kind → Bool} {d : ℕ} {t u : Token} {ss : List GrammarSymbol} {ts us : List Token} → t.kind ≡ u.kind → Alike d ss ts us →
    Alike d (One c ∷ ss) (t ∷ ts) (u ∷ us)
one same a = record { forth = one_forth same a.forth; back = one_back same a.back }

opens_forth : {c : Kind → Bool} {t : Token} {ss : List GrammarSymbol} {ts us : List Token} → (Derives ss ts → Derives ss us) →
    Derives (Opening c ∷ ss) (t ∷ ts) → Derives (Opening c ∷ ss) (t ∷ us)
opens_forth go (opening e x) = opening e (go x)

opens_back : {c : Kind → Bool} {d : ℕ} {t : Token} {ss : List GrammarSymbol} {ts us : List Token} →
    ((x : Derives ss us) → Back (suc d) ss ts (levels (suc d) x)) → (x : Derives (Opening c ∷ ss) (t ∷ us)) →
    Back d (Opening c ∷ ss) (t ∷ ts) (levels d x)
opens_back go (opening e x) = let b = go x in record { old = opening e b.old; bounds = λ all. (all.0, b.bounds all.1) }

opens : {c : Kind → Bool} {d : ℕ} {t : Token} {ss : List GrammarSymbol} {ts us : List Token} → Alike (suc d) ss ts us →
    Alike d (Opening c ∷ ss) (t ∷ ts) (t ∷ us)
opens a = record { forth = opens_forth a.forth; back = opens_back a.back }

closes_forth : {ss : List GrammarSymbol} {ts us : List Token} → (Derives ss ts → Derives ss us) → Derives (Close ∷ ss) ts → Derives (Close ∷ ss) us
closes_forth go (closing x) = closing (go x)

closes_back : {ss : List GrammarSymbol} {ts us : List Token} → ((x : Derives ss us) → Back 0 ss ts (levels 0 x)) → (x : Derives (Close ∷ ss) us) →
    Back 1 (Close ∷ ss) ts (levels 1 x)
closes_back go (closing x) = let b = go x in record { old = closing b.old; bounds = b.bounds }

closes : {ss : List GrammarSymbol} {ts us : List Token} → Alike 0 ss ts us → Alike 1 (Close ∷ ss) ts us
closes a = record { forth = closes_forth a.forth; back = closes_back a.back }

-- a token that does not fit

no_token : {c : Kind → Bool} {t : Token} {ss : List GrammarSymbol} {ts : List Token} → c t.kind ≡ false → Derives (One c ∷ ss) (t ∷ ts) → ⊥
no_token unfit (token e x) = false≢true (sym unfit ∙ e)

no_opening : {c : Kind → Bool} {t : Token} {ss : List GrammarSymbol} {ts : List Token} → c t.kind ≡ false → Derives (Opening c ∷ ss) (t ∷ ts) → ⊥
no_opening unfit (opening e x) = false≢true (sym unfit ∙ e)

no_end : {t : Token} {ts : List Token} → Derives [] (t ∷ ts) → ⊥
no_end x = elim x [ ]

refused : {c : Kind → Bool} {d : ℕ} {t u : Token} {ss : List GrammarSymbol} {ts us : List Token} → c t.kind ≡ false → c u.kind ≡ false →
    Alike d (One c ∷ ss) (t ∷ ts) (u ∷ us)
refused unfit also = record { forth = λ x. absurd (no_token unfit x); back = λ x. absurd (no_token also x) }

refused_opening : {c : Kind → Bool} {d : ℕ} {t u : Token} {ss : List GrammarSymbol} {ts us : List Token} → c t.kind ≡ false → c u.kind ≡ false →
    Alike d (Opening c ∷ ss) (t ∷ ts) (u ∷ us)
refused_opening unfit also = record { forth = λ x. absurd (no_opening unfit x); back = λ x. absurd (no_opening also x) }

-- rules

rule_forth : {p : Part} {d : ℕ} {ss : List GrammarSymbol} {ts us : List Token} → ((then : List GrammarSymbol) → Among (rules p) then →
    Alike d (then ++ ss) ts us) →
    Derives (A p ∷ ss) ts → Derives (A p ∷ ss) us
rule_forth go (by_rule a x) = by_rule a ((go _ a).forth x)

rule_back : {p : Part} {d : ℕ} {ss : List GrammarSymbol} {ts us : List Token} → ((then : List GrammarSymbol) → Among (rules p) then →
    Alike d (then ++ ss) ts us) →
    (x : Derives (A p ∷ ss) us) → Back d (A p ∷ ss) ts (levels d x)
rule_back go (by_rule a x) = let b = (go _ a).back x in record { old = by_rule a b.old; bounds = b.bounds }

by_rules : {p : Part} {d : ℕ} {ss : List GrammarSymbol} {ts us : List Token} → ((then : List GrammarSymbol) → Among (rules p) then →
    Alike d (then ++ ss) ts us) →
    Alike d (A p ∷ ss) ts us
by_rules go = record { forth = rule_forth go; back = rule_back go }

first_rule : {s : List GrammarSymbol} {d : ℕ} (ss : List GrammarSymbol) {ts us : List Token} → Alike d (s ++ ss) ts us → (then : List GrammarSymbol) →
    Among (Otherwise s ∷ []) then → Alike d (then ++ ss) ts us
first_rule ss a then untested = a
first_rule ss a then (below x) = elim x [ ]

first_rules : {p : Part} {s : List GrammarSymbol} {d : ℕ} {ss : List GrammarSymbol} {ts us : List Token} → rules p ≡ Otherwise s ∷ [] →
    Alike d (s ++ ss) ts us →
    Alike d (A p ∷ ss) ts us
first_rules {ss = ss} is a = by_rules (λ then among. first_rule ss a then (subst (λ (rs : List Rule). Among rs then) is among))

two : {c : Kind → Bool} {s r : List GrammarSymbol} {d : ℕ} (ss : List GrammarSymbol) {ts us : List Token} → Alike d (s ++ ss) ts us → Alike d (r ++ ss) ts us →
    (then : List GrammarSymbol) → Among (Begins c s ∷ Otherwise r ∷ []) then → Alike d (then ++ ss) ts us
two ss a b then tested = a
two ss a b then (below untested) = b
two ss a b then (below (below x)) = elim x [ ]

two_rules : {p : Part} {c : Kind → Bool} {s r : List GrammarSymbol} {d : ℕ} {ss : List GrammarSymbol} {ts us : List Token} →
    rules p ≡ Begins c s ∷ Otherwise r ∷ [] → Alike d (s ++ ss) ts us → Alike d (r ++ ss) ts us → Alike d (A p ∷ ss) ts us
two_rules {ss = ss} is a b = by_rules (λ then among. two ss a b then (subst (λ (rs : List Rule). Among rs then) is among))

along : {d : ℕ} {ss : List GrammarSymbol} {ts us vs ws : List Token} → ts ≡ vs → us ≡ ws → Alike d ss vs ws → Alike d ss ts us
along {d = d} {ss = ss} {us = us} {vs = vs} p q a = subst (λ l. Alike d ss l us) (sym p) (subst (λ l. Alike d ss vs l) (sym q) a)

-- the same kinds

abbrev SameKinds : List Token → List Token → Type 0
SameKinds [] [] = Unit {0}
SameKinds [] (u ∷ us) = ⊥
SameKinds (t ∷ ts) [] = ⊥
SameKinds (t ∷ ts) (u ∷ us) = (t.kind ≡ u.kind) × SameKinds ts us

kinds_back : {ss : List GrammarSymbol} {us : List Token} (d : ℕ) (ts : List Token) → SameKinds ts us → (x : Derives ss us) → Back d ss ts (levels d x)
kinds_back d [] k ends = record { old = ends; bounds = λ all. all }
kinds_back d (t ∷ ts) k ends = absurd k
kinds_back d [] k (token e x) = absurd k
kinds_back d (t ∷ ts) k (token e x) =
    let same = k.0 in let b = kinds_back d ts k.1 x in record { old = token (cc) b.old; bounds = λ all. (all.0, b.bounds all.1) }
kinds_back d [] k (opening e x) = absurd k
kinds_back d (t ∷ ts) k (opening e x) =
    let same = k.0 in let b = kinds_back (suc d) ts k.1 x in record { old = opening (cc) b.old; bounds = λ all. (all.0, b.bounds all.1) }
kinds_back d ts k (closing x) = let b = kinds_back (d - 1) ts k x in record { old = closing b.old; bounds = b.bounds }
kinds_back d ts k (by_rule a x) = let b = kinds_back d ts k x in record { old = by_rule a b.old; bounds = b.bounds }

turned : (ts us : List Token) → SameKinds ts us → SameKinds us ts
turned [] [] k = tt
turned [] (u ∷ us) k = k
turned (t ∷ ts) [] k = k
turned (t ∷ ts) (u ∷ us) k = (sym k.0, turned ts us k.1)

later_kinds : (ts : List Token) → SameKinds ts (map later ts)
later_kinds [] = tt
later_kinds (t ∷ ts) = (refl, later_kinds ts)

renamed : {d : ℕ} {ss : List GrammarSymbol} (ts : List Token) → Alike d ss ts (map later ts)
renamed {d = d} ts = record {
  forth = λ x. (kinds_back 0 (map later ts) (turned ts (map later ts) (later_kinds ts)) x).old;
  back = λ x. kinds_back d ts (later_kinds ts) x;
}

-- imports that stay

no_import : {c : Kind → Bool} {d : ℕ} {ss : List GrammarSymbol} (i : ImportTree) (ts us : List Token) → c kind.Name ≡ false → c kind.Text ≡ false →
    Alike d (One c ∷ ss) (import_tokens i ++ ts) (import_tokens i ++ us)
unfolding import_tokens
no_import {c = c} {d = d} {ss = ss} i ts us name text = by_name i.name
  where
    by_name : (o : Option ℕ) → Alike d (One c ∷ ss) ((sign_if kind.Name o ++ (sign kind.Text i.path ∷ [])) ++ ts)
        ((sign_if kind.Name o ++ (sign kind.Text i.path ∷ [])) ++ us)
    by_name None = refused text text
    by_name (Some n) = refused name name

single_kept : {d : ℕ} {ss : List GrammarSymbol} {ts us : List Token} (i : ImportTree) → Alike d ss ts us →
    Alike d (A (Single ImportItem) ∷ ss) (import_tokens i ++ ts) (import_tokens i ++ us)
unfolding import_tokens
single_kept {d = d} {ss = ss} {ts = ts} {us = us} i a = by_name i.name
  where
    by_name : (o : Option ℕ) → Alike d (A (Single ImportItem) ∷ ss) ((sign_if kind.Name o ++ (sign kind.Text i.path ∷ [])) ++ ts)
        ((sign_if kind.Name o ++ (sign kind.Text i.path ∷ [])) ++ us)
    by_name None = two_rules refl (refused refl refl) (one refl a)
    by_name (Some n) = two_rules refl (one refl (one refl a)) (refused refl refl)

no_group : {d : ℕ} {ss : List GrammarSymbol} {ts us : List Token} (i : ImportTree) → Alike d ss ts us →
    Alike d (A (GroupOf ImportItem) ∷ ss) (import_tokens i ++ ts) (import_tokens i ++ us)
unfolding import_tokens
no_group {d = d} {ss = ss} {ts = ts} {us = us} i a = two_rules refl (by_name i.name) (single_kept i a)
  where
    by_name : (o : Option ℕ) → Alike d (Opening (is kind.LeftParen) ∷ A (Items ImportItem) ∷ Close ∷ ss)
        ((sign_if kind.Name o ++ (sign kind.Text i.path ∷ [])) ++ ts)
        ((sign_if kind.Name o ++ (sign kind.Text i.path ∷ [])) ++ us)
    by_name None = refused_opening refl refl
    by_name (Some n) = refused_opening refl refl

abbrev list : List (Item ImportTree) → List Token
list xs = list_tokens kind.Semicolon import_tokens xs

list_more : (y : Item ImportTree) (ys : List (Item ImportTree)) (ts : List Token) →
    list (y ∷ ys) ++ ts ≡ import_tokens y.value ++ (sign_if kind.Semicolon y.separator ++ (list ys ++ ts))
unfolding all_tokens
list_more y ys ts = append_assoc (import_tokens y.value ++ sign_if kind.Semicolon y.separator) (list ys) ts
    ∙ append_assoc (import_tokens y.value) (sign_if kind.Semicolon y.separator) (list ys ++ ts)

behind : {d : ℕ} {ss : List GrammarSymbol} {ts us : List Token} (o : Option ℕ) (ys : List (Item ImportTree)) →
    Alike d (A (Items ImportItem) ∷ ss) (list ys ++ ts) (list ys ++ us) → Alike d (A (MoreItems ImportItem) ∷ ss) ts us →
    Alike d (A (MoreItems ImportItem) ∷ ss) (sign_if kind.Semicolon o ++ (list ys ++ ts)) (sign_if kind.Semicolon o ++ (list ys ++ us))
unfolding all_tokens
behind (Some p) ys rest next = two_rules refl (one refl rest) (refused refl refl)
behind None [] rest next = next
behind {ts = ts} {us = us} None (y ∷ ys) rest next =
    let mark : List Token = sign_if kind.Semicolon y.separator in
    along (list_more y ys ts) (list_more y ys us)
    (two_rules refl (no_import y.value (mark ++ (list ys ++ ts)) (mark ++ (list ys ++ us)) refl refl)
    (no_import y.value (mark ++ (list ys ++ ts)) (mark ++ (list ys ++ us)) refl refl))

items : {d : ℕ} {ss : List GrammarSymbol} {ts us : List Token} (ys : List (Item ImportTree)) → Alike d (A (Items ImportItem) ∷ ss) ts us →
    Alike d (A (MoreItems ImportItem) ∷ ss) ts us → Alike d (A (Items ImportItem) ∷ ss) (list ys ++ ts) (list ys ++ us)
unfolding all_tokens
items [] first next = first
items {ts = ts} {us = us} (y ∷ ys) first next =
    let mark : List Token = sign_if kind.Semicolon y.separator in
    along (list_more y ys ts) (list_more y ys us)
    (two_rules refl (no_import y.value (mark ++ (list ys ++ ts)) (mark ++ (list ys ++ us)) refl refl)
    (single_kept y.value (behind y.separator ys (items ys first next) next)))

group_kept : {ss : List GrammarSymbol} {ts us : List Token} (x : Group ImportTree) → Alike 0 ss ts us →
    Alike 0 (A (GroupOf ImportItem) ∷ ss) (group_tokens import_tokens x ++ ts) (group_tokens import_tokens x ++ us)
unfolding group_tokens
group_kept (single i) a = no_group i a
group_kept {ts = ts} {us = us} (several o xs c) a =
    along (ap (λ l. sign kind.LeftParen o ∷ l) (append_assoc (list xs) (sign kind.RightParen c ∷ []) ts))
    (ap (λ l. sign kind.LeftParen o ∷ l) (append_assoc (list xs) (sign kind.RightParen c ∷ []) us))
    (two_rules refl (opens (items xs
    (two_rules refl (one refl (closes a)) (two_rules refl (refused refl refl) (refused refl refl)))
    (two_rules refl (refused refl refl) (one refl (closes a)))))
    (two_rules refl (refused refl refl) (refused refl refl)))

nothing : {t u : Token} {ts us : List Token} → Alike 0 [] (t ∷ ts) (u ∷ us)
nothing = record { forth = λ x. absurd (no_end x); back = λ x. absurd (no_end x) }

tops : (n : ℕ) (ts us : List Token) (then : List GrammarSymbol) → Among (rules Tops) then →
    Alike 0 (then ++ []) (sign kind.Import n ∷ ts) (sign kind.Import n ∷ us)
tops n ts us then tested = refused refl refl
tops n ts us then (below tested) = refused refl refl
tops n ts us then (below (below tested)) = refused refl refl
tops n ts us then (below (below (below untested))) = nothing
tops n ts us then (below (below (below (below x)))) = elim x [ ]

no_tops : {n : ℕ} {ts us : List Token} → Alike 0 (A Tops ∷ []) (sign kind.Import n ∷ ts) (sign kind.Import n ∷ us)
no_tops {n = n} {ts = ts} {us = us} = by_rules (tops n ts us)

imports_kept : {ts us : List Token} (xs : List ImportsTree) → Alike 0 (A Imports ∷ []) ts us →
    Alike 0 (A Imports ∷ []) (all_tokens imports_tokens xs ++ ts) (all_tokens imports_tokens xs ++ us)
unfolding all_tokens imports_tokens
imports_kept [] a = a
imports_kept {ts = ts} {us = us} (x ∷ xs) a =
    let rest : List Token = all_tokens imports_tokens xs in
    let end : List Token = sign kind.Semicolon x.semicolon ∷ [] in
    let group : List Token = group_tokens import_tokens x.imports in
    let split = λ (l : List Token). append_assoc (imports_tokens x) rest l
    ∙ ap (λ m. sign kind.Import x.keyword ∷ m) (append_assoc group end (rest ++ l)) in
    along (split ts) (split us) (two_rules refl (one refl (group_kept x.imports (one refl (imports_kept xs a)))) no_tops)

-- the import that gains the name

after_one : {c : Kind → Bool} {t : Token} {ss : List GrammarSymbol} {ts : List Token} → Derives (One c ∷ ss) (t ∷ ts) → Derives ss ts
after_one (token e x) = x

bare_rest : {then ss : List GrammarSymbol} {n : ℕ} {ts : List Token} → Among (rules (Single ImportItem)) then → Derives (then ++ ss) (sign kind.Text n ∷ ts) →
    Derives ss ts
bare_rest tested x = absurd (no_token refl x)
bare_rest (below untested) x = after_one x
bare_rest (below (below q)) x = elim q [ ]

named_forth : {ss : List GrammarSymbol} {n m : ℕ} {ts us : List Token} → (Derives ss ts → Derives ss us) →
    Derives (A (Single ImportItem) ∷ ss) (sign kind.Text n ∷ ts) → Derives (A (Single ImportItem) ∷ ss) (sign kind.Name n ∷ sign kind.Text m ∷ us)
named_forth go (by_rule a x) = by_rule tested (token refl (token refl (go (bare_rest a x))))

both_back : {c b : Kind → Bool} {d : ℕ} {t u v : Token} {ss : List GrammarSymbol} {ts us : List Token} → b t.kind ≡ true →
    ((x : Derives ss us) → Back d ss ts (levels d x)) → (x : Derives (One c ∷ One b ∷ ss) (u ∷ v ∷ us)) → Back d (One b ∷ ss) (t ∷ ts) (levels d x)
both_back fits go (token e (token f x)) = let k = go x in record { old = token fits k.old; bounds = λ all. (all.0, (all.0, k.bounds all.1)) }

named_rest : {d : ℕ} {then ss : List GrammarSymbol} {n m : ℕ} {ts us : List Token} → ((x : Derives ss us) → Back d ss ts (levels d x)) →
    Among (rules (Single ImportItem)) then → (x : Derives (then ++ ss) (sign kind.Name n ∷ sign kind.Text m ∷ us)) →
    Back d (A (Single ImportItem) ∷ ss) (sign kind.Text n ∷ ts) (levels d x)
named_rest go tested x = let k = both_back refl go x in record { old = by_rule (below untested) k.old; bounds = k.bounds }
named_rest go (below untested) x = absurd (no_token refl x)
named_rest go (below (below q)) x = elim q [ ]

named_back : {d : ℕ} {ss : List GrammarSymbol} {n m : ℕ} {ts us : List Token} → ((x : Derives ss us) → Back d ss ts (levels d x)) →
    (x : Derives (A (Single ImportItem) ∷ ss) (sign kind.Name n ∷ sign kind.Text m ∷ us)) →
    Back d (A (Single ImportItem) ∷ ss) (sign kind.Text n ∷ ts) (levels d x)
named_back go (by_rule a x) = named_rest go a x

single_named : {d : ℕ} {ss : List GrammarSymbol} {n m : ℕ} {ts us : List Token} → Alike d ss ts us →
    Alike d (A (Single ImportItem) ∷ ss) (sign kind.Text n ∷ ts) (sign kind.Name n ∷ sign kind.Text m ∷ us)
single_named a = record { forth = named_forth a.forth; back = named_back a.back }

group_named : {ss : List GrammarSymbol} (n m : ℕ) (rest : List Token) (x : AroundItem) →
    Alike 0 (A (GroupOf ImportItem) ∷ ss) (left_item x ++ (sign kind.Text n ∷ rest)) (left_item x ++ (sign kind.Name n ∷ sign kind.Text m ∷ map later rest))
group_named n m rest alone = two_rules refl (refused_opening refl refl) (single_named (renamed rest))
group_named n m rest (among o before separator after c) =
    two_rules refl (opens (items before
    (two_rules refl (refused refl refl) (single_named (renamed rest)))
    (two_rules refl (refused refl refl) (refused refl refl))))
    (two_rules refl (refused refl refl) (refused refl refl))

file_alike : (a : AroundImport) (n m : ℕ) (rest : List Token) →
    Alike 0 (A File ∷ []) (left a ++ (sign kind.Text n ∷ rest)) (left a ++ (sign kind.Name n ∷ sign kind.Text m ∷ map later rest))
file_alike a n m rest =
    let front : List Token = all_tokens imports_tokens a.before in
    let lead : List Token = sign kind.Import a.import_keyword ∷ left_item a.item in
    let split = λ (l : List Token). ap (λ k. sign kind.Package a.keyword ∷ sign kind.Name a.name ∷ sign kind.Semicolon a.semicolon ∷ k)
    (append_assoc front lead l) in
    along (split (sign kind.Text n ∷ rest)) (split (sign kind.Name n ∷ sign kind.Text m ∷ map later rest))
    (first_rules refl (one refl (one refl (one refl (imports_kept a.before
    (two_rules refl (one refl (group_named n m rest a.item)) no_tops))))))

pub whole_kept : (a : AroundImport) (n m : ℕ) (rest old new : List Token) → old ≡ left a ++ (sign kind.Text n ∷ rest) →
    new ≡ left a ++ (sign kind.Name n ∷ sign kind.Text m ∷ map later rest) → IsWhole old → IsWhole new
whole_kept a n m rest old new was is whole =
    let alike = along was is (file_alike a n m rest) in
    record {
      derived = alike.forth whole.derived;
      shallow = λ x. let b = alike.back x in All-from_recursion (λ (l : ℕ). l ≤ 200) (levels 0 x)
          (b.bounds (recursion_from_All (λ (l : ℕ). l ≤ 200) (levels 0 b.old) (whole.shallow b.old)));
    }

pub source_kept : (path : List ℕ) (p : NamePut) (number : ℕ) (a : AroundImport) → MayPut p →
    slice_get (tokens_in (before_put p)) number ≡ Some (literal_piece p) → kind_of_name p.name ≡ kind.Name →
    IsSourceFile (record { path = path; cut = before_put p; tree = file_with (bare_import number) a }) →
    IsSourceFile (record { path = path; cut = after_put p; tree = file_with (import_with_name number) (around_by (from_on number) a) })
source_kept path p number a may at name is =
    let kinds = both_kinds p number a may at name is.is_tree in
    record {
      is_cut = put_cut p may;
      is_tree = gained_tree p number a may at name is.is_tree;
      whole = whole_kept a number (number + 1) (right a) (kinds_of (before_put p)) (kinds_of (after_put p)) kinds.old kinds.new is.whole;
    }
