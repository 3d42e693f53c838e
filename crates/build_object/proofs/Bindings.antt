-- What names are bound to: declarations of a package's block, imports, and the predeclared `true`.
use Rattle.std.proofs.Common.{ℕ, ◌≡◌, ◌≤◌, suc, inl, inr, List, length, sym, subst, arith, true, false, ◌↔◌, MatchOption}
use Rattle.std.specs.Prelude.{Option, Some, None, option_map}
use Rattle.std.specs.Borrow.{Bor}
use Rattle.std.specs.declared.vec.Vec.{Vec}
use Rattle.std.specs.declared.alloc.Global.{Global}
use Rattle.std.proofs.lemmas.Bool.{false≢true}
use Rattle.std.proofs.lemmas.List.{get_or_past}
use Rattle.go_scanner.specs.Cuts.{bytes_of}
use Rattle.go_scanner.specs.CutText.{CutText, token_at, tokens_in}
use Rattle.go_scanner.specs.Tokens.{semicolon}
use Rattle.go_scanner.specs.TokenValues.{HasTokenValue, IsStringClass}
use Rattle.go_ast.specs.SourceFile.{SourceFile}
use Rattle.go_scope.specs.Bindings.{IsPackageLevel}
use Rattle.go_scope.specs.Table.{LiesAt}
use Rattle.types_declared.specs.Files.{HasLiteral}
use Rattle.go_scope.specs.ByToken.{IsFirstBelow}
use Rattle.types_info.specs.NamesView.{IsNameAfterDot}
use Rattle.types_declared.specs.Package.{Package}
use Rattle.types_declared.specs.Written.{BindsToken}
use Rattle.types_declared.specs.Written.{DeclaresImport}
use Rattle.types_declared.proofs.Binding.{bound_nowhere}
use Rattle.types_info.proofs.NameParts.{no_dot}
use Rattle.build_object.specs.Lines.{GlobalName}
use Rattle.build_object.specs.Sources.{HasQualifier, IsGlobalAt, own, imported, IsTextAt, IsTrueAt}

-- string literals

-- the value of a string literal, as a row of the table of texts
pub as_text : (s : SourceFile) (token : ℕ) (o : Option (Vec ℕ Global)) → MatchOption o ((v : List ℕ) → HasLiteral s token v →
    ⊥) (λ v. HasLiteral s token v.items) →
    IsTextAt s token (option_map (λ v. v.items) o)
as_text s token None h = h
as_text s token (Some v) h = h

no_string : IsStringClass (semicolon 0).class → ⊥
no_string (inl e) = cc
no_string (inr e) = cc

-- none behind the last token
pub no_text : (s : SourceFile) (token : ℕ) → length (tokens_in s.cut) ≤ token → (v : List ℕ) → HasLiteral s token v → ⊥
no_text s token past v l = no_string (subst (λ p. IsStringClass p.class) (get_or_past (tokens_in s.cut) token (semicolon 0) past) l.is_string)

-- imports

pub import_by : (p : Package) (file token d : ℕ) (o : Option (Bor (List ℕ))) → BindsToken p file token d → ((e : ℕ) → BindsToken p file token e → e ≡ d) →
    MatchOption o ((v : List ℕ) → DeclaresImport p d v → ⊥) (λ v. DeclaresImport p d v.now × ((other : List ℕ) → DeclaresImport p d other → other ≡ v.now)) →
    MatchOption o ((e : ℕ) (path : List ℕ) → BindsToken p file token e → DeclaresImport p e path → ⊥)
    (λ path. (e : ℕ) × (BindsToken p file token e × DeclaresImport p e path.now))
import_by p file token d None binds only h = λ e path b i. h path (subst (λ x. DeclaresImport p x path) (only e b) i)
import_by p file token d (Some v) binds only h = (d, (binds, h.0))

pub dot_before : (p : Package) (file token : ℕ) (path : List ℕ) → HasQualifier p file token path → IsNameAfterDot p file token
dot_before p file token path b = record { identifier = b.identifier; found = b.found; selected = b.selected }

pub late : (p : Package) (file token : ℕ) (path : List ℕ) → HasQualifier p file token path → 2 ≤ token
late p file token path b = let h : token ≡ suc (suc b.before) = b.behind_dot in omega arith

pub behind_by : (p : Package) (file token before : ℕ) (o : Option (Bor (List ℕ))) → token ≡ suc (suc before) → IsNameAfterDot p file token →
    MatchOption o ((d : ℕ) (path : List ℕ) → BindsToken p file before d → DeclaresImport p d path → ⊥)
    (λ path. (d : ℕ) × (BindsToken p file before d × DeclaresImport p d path.now)) →
    MatchOption o ((path : List ℕ) → HasQualifier p file token path → ⊥) (λ path. HasQualifier p file token path.now)
behind_by p file token before None is dot h = λ path b.
    let same : b.before ≡ before = let k : token ≡ suc (suc b.before) = b.behind_dot in omega arith in
    h b.import path (subst (λ t. BindsToken p file t b.import) same b.binds) b.of_path
behind_by p file token before (Some v) is dot h =
    record {
      before = before;
      behind_dot = is;
      identifier = dot.identifier;
      found = dot.found;
      selected = dot.selected;
      import = h.0;
      binds =
          h.1.0;
      of_path = h.1.1;
    }

-- declarations of packages' blocks

pub no_global : (p : Package) (file token : ℕ) → ((d : ℕ) → BindsToken p file token d → IsPackageLevel p.layout d → ⊥) →
    ((path : List ℕ) → HasQualifier p file token path → ⊥) →
    (g : GlobalName) → IsGlobalAt p file token g → ⊥
no_global p file token none outside _ (own {d = d} binds level) = none d binds level
no_global p file token none outside _ (imported {path = path} behind) = outside path behind

pub global_as : (p : Package) (file token : ℕ) (a b n m : List ℕ) → a ≡ b → n ≡ m → IsGlobalAt p file token (record { path = b; name = m }) →
    IsGlobalAt p file token (record { path = a; name = n })
global_as p file token a b n m e f g = subst (λ x. IsGlobalAt p file token (record { path = x; name = n })) (sym e)
    (subst (λ x. IsGlobalAt p file token (record { path = b; name = x })) (sym f) g)

-- no name stands where no identifier does

pub no_global_past : (p : Package) (file token : ℕ) (o : Option ℕ) → o ≡ None →
    IsFirstBelow (LiesAt p.layout (record { file = file; index = token })) p.size o →
    (g : GlobalName) → IsGlobalAt p file token g → ⊥
no_global_past p file token o e h = no_global p file token (λ d binds level. bound_nowhere p file token o e h d binds)
    (λ path behind. no_dot p file token o e h (dot_before p file token path behind))

pub no_truth_past : (p : Package) (file token : ℕ) (o : Option ℕ) → o ≡ None →
    IsFirstBelow (LiesAt p.layout (record { file = file; index = token })) p.size o → (false ≡ true) ↔ IsTrueAt p file token
no_truth_past p file token o e h = (λ t. absurd (false≢true t), λ w. absurd (bound_nowhere p file token o e h w.declaration w.binds))
