-- The meanings of a file's names, part by part.
use Rattle.std.proofs.Common.{ℕ, ◌≡◌, ◌+◌, ◌<◌, ◌≤◌, inl, inr, suc, List, [], ◌∷◌, ◌++◌, length, ap, sym, subst, refl, ◌∙◌, arith, MatchOption, length-append}
use Rattle.std.specs.Prelude.{Option, Some, None, option_map, slice_get}
use Rattle.std.specs.Borrow.{Bor}
use Rattle.std.proofs.lemmas.Bool.{cases_lt}
use Rattle.std.proofs.lemmas.Option.{slice_get_within, slice_get_past, same_Some, none-some}
use Rattle.go_scanner.specs.CutText.{tokens_in}
use Rattle.go_ast.specs.SourceFile.{SourceFile, spelling_at}
use Rattle.go_scope.specs.declared.model.Role.TheVariants.{NotLexical}
use Rattle.go_scope.specs.declared.model.Purpose.TheVariants as purpose
use Rattle.go_scope.specs.Table.{LiesAt, IsFoundAt}
use Rattle.types_expr.specs.declared.world.Bound.{Bound}
use Rattle.types_expr.specs.declared.world.Name.{Name}
use Rattle.types_expr.specs.World as plain
use Rattle.types_expr.specs.World.{Means as Stands}
use Rattle.types_expr.specs.WorldView.{bound_of, bound_at, bound_or_broken, bound_index, token_spelling}
use Rattle.types_expr.specs.declared.exports.Export.{Export}
use Rattle.types_declared.specs.Package.{Package, spelled, spelled_at}
use Rattle.types_declared.specs.Package as seen
use Rattle.types_declared.specs.Written.{BindsToken, IsExportAt}
use Rattle.types_declared.specs.WrittenView.{IsOneExport}
use Rattle.types_declared.specs.MeaningOf.{IsMeaningOf}
use Rattle.go_scope.specs.ByToken.{IsFirstBelow}
use Rattle.types_info.specs.MeaningsView.{Extends}
use Rattle.types_info.specs.Worlds.{DenotesExport, IsBoundAt, by_scope, by_package, IsName, is_bound, is_unbound}
use Rattle.types_info.specs.NamesView.{tokens_at, bound_by, IsNameAfterDot, IsBoundInScope, IsScopeFound, IsPlaced, IsNameAt, AreNames}
use Rattle.types_declared.proofs.Binding.{one_first}
use Rattle.types_info.proofs.MeaningLists.{bound_stays, slice_get_some}
use Rattle.types_declared.proofs.DeclaredPaths.{get_before, get_last}

-- the names are those at the tokens below n
pub record AreNamesBelow (p : Package) (file n : ℕ) (list : List Bound) (names : List Name) : Type 0 where
  pub all : length names ≡ n
  pub each : (token : ℕ) (name : Name) → slice_get names token ≡ Some name → IsNameAt p file token list name

-- Names after dots

pub no_dot : (p : Package) (file token : ℕ) (o : Option ℕ) → o ≡ None → IsFirstBelow (LiesAt p.layout (record { file = file; index = token })) p.size o →
    IsNameAfterDot p file token → ⊥
no_dot p file token o e h b =
    let none : (u : ℕ) → u < p.size → LiesAt p.layout (record { file = file; index = token }) u → ⊥ =
    subst (IsFirstBelow (LiesAt p.layout (record { file = file; index = token })) p.size) e h in
    none b.identifier b.found.within b.found.holds

pub role_behind : (p : Package) (file token u : ℕ) → IsFoundAt p.layout p.size (record { file = file; index = token }) u → IsNameAfterDot p file token →
    p.layout.role u ≡ NotLexical purpose.Selected
role_behind p file token u found b =
    ap p.layout.role (one_first (LiesAt p.layout (record { file = file; index = token })) p.size u b.identifier found b.found) ∙ b.selected

pub selected_behind : (p : Package) (file token : ℕ) (e : seen.Export) → DenotesExport p file token e → IsNameAfterDot p file token
selected_behind p file token e s = record { identifier = s.identifier; found = s.found; selected = s.selected }

pub exported_before : (p : Package) (file token before : ℕ) (e : seen.Export) → token ≡ suc (suc before) → DenotesExport p file token e →
    IsExportAt p file before token e
exported_before p file token before e is s =
    let same : s.before ≡ before = let h : token ≡ suc (suc s.before) = s.behind_dot in omega arith in
    subst (λ b. IsExportAt p file b token e) same s.exported

pub selected_by : (p : Package) (file token before : ℕ) (o : Option (Bor Export)) → token ≡ suc (suc before) → IsNameAfterDot p file token →
    IsOneExport (IsExportAt p file before token) o →
    IsOneExport (DenotesExport p file token) o
selected_by p file token before None is b h = λ e s. h e (exported_before p file token before e is s)
selected_by p file token before (Some x) is b h = (
  record { before = before; behind_dot = is; identifier = b.identifier; found = b.found; selected = b.selected; exported = h.0 },
  λ other s. h.1 other (exported_before p file token before other is s),
)

pub selected_late : (p : Package) (file token : ℕ) (e : seen.Export) → DenotesExport p file token e → 2 ≤ token
selected_late p file token e s = let h : token ≡ suc (suc s.before) = s.behind_dot in omega arith

pub not_selected : (p : Package) (file token : ℕ) → (IsNameAfterDot p file token → ⊥) → (e : seen.Export) → DenotesExport p file token e → ⊥
not_selected p file token none e s = none (selected_behind p file token e s)

-- Names bound by scopes

pub no_scope : (p : Package) (file token : ℕ) → ((d : ℕ) → BindsToken p file token d → ⊥) → (b : plain.Bound) → IsBoundInScope p file token b → ⊥
no_scope p file token none b s = none s.declaration s.binds

pub scope_found : (p : Package) (file token d : ℕ) (o : Option Bound) → BindsToken p file token d → ((e : ℕ) → BindsToken p file token e → e ≡ d) →
    MatchOption o ((b : plain.Bound) → IsMeaningOf p d b → ⊥) (λ b. IsMeaningOf p d (bound_of b)) → IsScopeFound p file token (option_map bound_of o)
scope_found p file token d None binds only h = λ b s. h b (subst (λ e. IsMeaningOf p e b) (only s.declaration s.binds) s.means)
scope_found p file token d (Some b) binds only h = record { declaration = d; binds = binds; means = h }

-- The meaning of the name at a token

pub neither : (p : Package) (file token : ℕ) → ((b : plain.Bound) → IsBoundInScope p file token b → ⊥) → ((e : seen.Export) → DenotesExport p file token e →
    ⊥) →
    (b : plain.Bound) → IsBoundAt p file token b → ⊥
neither p file token scope selected b (by_scope {declaration = d} binds means) = scope b (record { declaration = d; binds = binds; means = means })
neither p file token scope selected _ (by_package {e = e} s) = selected e s

name_in_scope : (p : Package) (file token : ℕ) (o : Option Bound) → IsScopeFound p file token (option_map bound_of o) →
    ((e : seen.Export) → DenotesExport p file token e → ⊥) →
    IsName p file token (bound_or_broken o)
name_in_scope p file token None h selected = is_unbound (neither p file token h selected)
name_in_scope p file token (Some b) h selected = is_bound (by_scope h.binds h.means)

pub placed_in_scope : (p : Package) (file token : ℕ) (list : List Bound) (place : Option ℕ) →
    IsScopeFound p file token (option_map bound_of (bound_at list place)) →
    ((i : ℕ) → place ≡ Some i → i < length list) → ((e : seen.Export) → DenotesExport p file token e → ⊥) → IsPlaced p file token list place
placed_in_scope p file token list place h within selected = record { bound = name_in_scope p file token (bound_at list place) h selected; within = within }

-- where a name has no meaning, it has no place in the list
pub placed_nowhere : (p : Package) (file token : ℕ) (list : List Bound) → ((b : plain.Bound) → IsBoundAt p file token b → ⊥) → IsPlaced p file token list None
placed_nowhere p file token list none = record { bound = is_unbound none; within = λ i e. absurd (none-some i e) }

pub placed_behind : (p : Package) (file token : ℕ) (list : List Bound) (i : ℕ) (b : Bound) (e : seen.Export) → slice_get list i ≡ Some b →
    bound_of b ≡ Stands e.meaning → DenotesExport p file token e →
    IsPlaced p file token list (Some i)
placed_behind p file token list i b e at is s = record {
  bound = is_bound (subst (IsBoundAt p file token) (sym (ap bound_or_broken at ∙ is)) (by_package s));
  within = λ j same. subst (λ k. k < length list) (same_Some i j same) (slice_get_within list i b at);
}

-- All names of a file

placed_stays : (p : Package) (file token : ℕ) (old new : List Bound) (place : Option ℕ) → Extends old new → IsPlaced p file token old place →
    IsPlaced p file token new place
placed_stays p file token old new place x h = record {
  bound = subst (λ o. IsName p file token (bound_or_broken o)) (sym (bound_stays old new place x h.within)) h.bound;
  within = λ i e. let l : i < length old = h.within i e in omega (arith, l, x.longer);
}

name_stays : (p : Package) (file token : ℕ) (old new : List Bound) (name : Name) → Extends old new → IsNameAt p file token old name →
    IsNameAt p file token new name
name_stays p file token old new name x h = record { placed = placed_stays p file token old new name.bound x h.placed; spelling = h.spelling }

pub next_name : (p : Package) (file n : ℕ) (list new_list : List Bound) (names new_names : List Name) (name : Name) → Extends list new_list →
    new_names ≡ names ++ (name ∷ []) →
    IsNameAt p file n new_list name → AreNamesBelow p file n list names → AreNamesBelow p file (n + 1) new_list new_names
next_name p file n list new_list names new_names name x e is h =
    let size : length new_names ≡ n + 1 = ap length e ∙ length-append names (name ∷ []) ∙ ap (λ m. m + 1) h.all in
    record {
      all = size;
      each = λ token other at. elim (cases_lt token n) [
        | inl lt ↦ name_stays p file token list new_list other x
            (h.each token other (sym (ap (λ z. slice_get z token) e ∙ get_before names name token (subst (λ m. token < m) (sym h.all) lt)) ∙ at))
        | inr ge ↦
            let lt : token < n + 1 = subst (λ m. token < m) size (slice_get_within new_names token other at) in
            let same : token ≡ n = omega arith in
            let last : slice_get new_names n ≡ Some name = ap (λ z. slice_get z n) e ∙ ap (slice_get (names ++ (name ∷ []))) (sym h.all) ∙
            get_last names name in
            let equal : name ≡ other = same_Some name other (sym last ∙ ap (slice_get new_names) (sym same) ∙ at) in
            subst (λ t. IsNameAt p file t new_list other) (sym same) (subst (IsNameAt p file n new_list) equal is)
      ];
    }

pub no_names : (p : Package) (file : ℕ) (list : List Bound) (names : List Name) → names ≡ [] → AreNamesBelow p file 0 list names
no_names p file list names e = record { all = ap length e; each = λ token name at. absurd (none-some name (ap (λ z. slice_get z token) (sym e) ∙ at)) }

-- a token without an identifier has no name
pub nothing_past : (p : Package) (file token : ℕ) (o : Option ℕ) → o ≡ None →
    IsFirstBelow (LiesAt p.layout (record { file = file; index = token })) p.size o → (b : plain.Bound) →
    IsBoundAt p file token b → ⊥
nothing_past p file token o e h b (by_scope {declaration = d} binds means) =
    let none : (u : ℕ) → u < p.size → LiesAt p.layout (record { file = file; index = token }) u → ⊥ =
    subst (IsFirstBelow (LiesAt p.layout (record { file = file; index = token })) p.size) e h in
    none binds.identifier binds.found.within binds.found.holds
nothing_past p file token o e h _ (by_package {e = x} s) = no_dot p file token o e h (selected_behind p file token x s)

pub all_names : (p : Package) (file n : ℕ) (list : List Bound) (names : List Name) → ((token : ℕ) → n ≤ token → spelled p file token ≡ []) →
    ((token : ℕ) → n ≤ token → (b : plain.Bound) → IsBoundAt p file token b → ⊥) → AreNamesBelow p file n list names → AreNames p file list names
all_names p file n list names unspelled none h = record {
  bound = λ token. elim (cases_lt token n) [
    | inl lt ↦ let x = slice_get_some names token (subst (λ m. token < m) (sym h.all) lt) in
        subst (λ o. IsName p file token (bound_by list (bound_index o))) (sym x.1) (h.each token x.0 x.1).placed.bound
    | inr ge ↦ subst (λ o. IsName p file token (bound_by list (bound_index o))) (sym (slice_get_past names token (subst (λ m. m ≤ token) (sym h.all) ge)))
        (is_unbound (none token ge))
  ];
  spelling = λ token. elim (cases_lt token n) [
    | inl lt ↦ let x = slice_get_some names token (subst (λ m. token < m) (sym h.all) lt) in ap token_spelling x.1 ∙ (h.each token x.0 x.1).spelling
    | inr ge ↦ ap token_spelling (slice_get_past names token (subst (λ m. m ≤ token) (sym h.all) ge)) ∙ sym (unspelled token ge)
  ];
}

pub unspelled : (o : Option SourceFile) (token : ℕ) → length (tokens_at o) ≤ token → spelled_at o token ≡ []
unspelled None token le = refl
unspelled (Some s) token le = ap (spelling_at s.cut.text) (slice_get_past (tokens_in s.cut) token le)
