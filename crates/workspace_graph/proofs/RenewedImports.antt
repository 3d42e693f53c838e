-- The paths that files import after one file was set or removed.
use Rattle.std.proofs.Common.{None, Some, ℕ, ◌≡◌, ◌∷◌, [], List, inl, inr, ⊎_elim, sym, subst, ◌∙◌, Option}
use Rattle.std.specs.Prelude.{IfSome, Vec}
use Rattle.std.specs.List.{Contains}
use Rattle.std.proofs.lemmas.Option.{same_Some}
use Rattle.base_lemmas.proofs.Elements.{nothing_in, first_in, first_or_later}
use Rattle.go_ast.specs.SourceFile.{FileParts, source_of}
use Rattle.workspace_graph.specs.Drafts.{Survive, GoneImports, WasTaken, WereImports}
use Rattle.workspace_graph.specs.InFolder.{tree_path}
use Rattle.workspace_graph.specs.ImportPaths.{ListsPaths, AnyImports, AnyIsOfPath, bytes_of_paths}
use Rattle.workspace_graph.specs.Packages.{ImportsPath}
use Rattle.workspace_graph.specs.SameImports.{HasTreeAlike, ImportSamePaths}
use Rattle.workspace_graph.specs.Updated.{SetsIn, Removes}
use Rattle.workspace_graph.specs.declared.file_imports.FileImport.{FileImport}
use Rattle.workspace_graph.proofs.ChangedFiles.{is_among}

-- a path is another one or it is not
pub is_path : {P : Type 0} (q path : List ℕ) → (q ≡ path → P) → ((q ≡ path → ⊥) → P) → P
is_path q path same apart = is_among q (path ∷ [])
    (λ has. ⊎_elim (λ (e : path ≡ q). same (sym e)) (λ (rest : Contains [] q). absurd (nothing_in q rest)) (first_or_later path [] q has))
    (λ never. apart (λ e. never (subst (Contains (path ∷ [])) (sym e) (first_in path []))))

-- a tree that was taken out or not
gone_imports : (path : List ℕ) (trees : List FileParts) (taken : Option FileParts) (f : FileParts) (q : List ℕ) → WasTaken path trees taken → Contains trees f →
    f.path ≡ path → ImportsPath (source_of f) q → GoneImports taken q
gone_imports path trees taken f q is has same imports = subst (λ o. GoneImports o q) (sym (is f has same)) imports

module _ {Z : Type 0} (keys : List (Vec ℕ Z)) (old new : List FileParts) (gone : Option FileParts) (come : List FileImport)
    (held : ListsPaths (AnyImports old) keys) where
  -- a tree was put in the place of what was there
  pub renewed_put : (t : FileParts) → SetsIn tree_path t old new → WasTaken t.path old gone →
      ((q : List ℕ) → ImportsPath (source_of t) q → AnyIsOfPath come q) → ((q : List ℕ) → AnyIsOfPath come q → ImportsPath (source_of t) q) →
      WereImports keys gone come new
  renewed_put t put is forth back = record {
    before = λ q has.
        let some = (held.each q).0 has in
        is_path some.0.path t.path
        (λ same. inr (gone_imports t.path old gone some.0 q is some.1.0 same some.1.1))
        (λ apart. inl (some.0, (put.kept some.0 some.1.0 apart, some.1.1)));
    now = λ q some. ⊎_elim
        (λ (own : some.0 ≡ t). inr (forth q (subst (λ (f : FileParts). ImportsPath (source_of f) q) own some.1.1)))
        (λ (was : Contains old some.0 × (some.0.path ≡ t.path → ⊥)). inl ((held.each q).1 (some.0, (was.0, some.1.1))))
        (put.each some.0 some.1.0);
    came = λ q stands. (t, (put.own, back q stands));
  }

  -- what was there was taken out
  pub renewed_out : (path : List ℕ) (place : ℕ) → Removes tree_path path old new place → WasTaken path old gone → come ≡ [] → WereImports keys gone come new
  renewed_out path place out is none = record {
    before = λ q has.
        let some = (held.each q).0 has in
        is_path some.0.path path
        (λ same. inr (gone_imports path old gone some.0 q is some.1.0 same some.1.1))
        (λ apart. inl (some.0, (out.kept some.0 some.1.0 apart, some.1.1)));
    now = λ q some. inl ((held.each q).1 (some.0, (out.from some.0 some.1.0, some.1.1)));
    came = λ q stands. absurd (nothing_in stands.0 (subst (λ (l : List FileImport). Contains l stands.0) none stands.1.0));
  }

-- a tree was put in the place of one that imports the same paths
pub alike_put : {Z : Type 0} (keys : List (Vec ℕ Z)) (old new : List FileParts) (gone : Option FileParts) (t : FileParts) →
    ListsPaths (AnyImports old) keys → SetsIn tree_path t old new → WasTaken t.path old gone → HasTreeAlike old t → ListsPaths (AnyImports new) keys
alike_put keys old new gone t held put is like =
    let before = like.0 in
    let same_paths : ImportSamePaths (source_of before) (source_of t) = like.3 in
    record {
      each = λ q. (
        λ has.
            let some = (held.each q).0 has in
            is_path some.0.path t.path
            (λ same.
            let one : some.0 ≡ before = same_Some some.0 before (sym (is some.0 some.1.0 same) ∙ is before like.1 like.2) in
            (t, (put.own, (same_paths q).0 (subst (λ (f : FileParts). ImportsPath (source_of f) q) one some.1.1))))
            (λ apart. (some.0, (put.kept some.0 some.1.0 apart, some.1.1))),
        λ some. ⊎_elim
            (λ (own : some.0 ≡ t).
            (held.each q).1 (before, (like.1, (same_paths q).1 (subst (λ (f : FileParts). ImportsPath (source_of f) q) own some.1.1))))
            (λ (was : Contains old some.0 × (some.0.path ≡ t.path → ⊥)). (held.each q).1 (some.0, (was.0, some.1.1)))
            (put.each some.0 some.1.0),
      );
    }

-- all that was imported stays, and no more came
pub stay_imported : {Z : Type 0} (keys : List (Vec ℕ Z)) (gone : Option FileParts) (come : List FileImport) (trees : List FileParts) →
    WereImports keys gone come trees → ((q : List ℕ) → AnyIsOfPath come q → Contains (bytes_of_paths keys) q) → Survive (GoneImports gone) come trees →
    ListsPaths (AnyImports trees) keys
stay_imported keys gone come trees renewed among kept = record {
  each = λ q. (
    λ has. ⊎_elim
        (λ (some : AnyImports trees q). some)
        (λ (lost : GoneImports gone q). ⊎_elim
        (λ (stands : AnyIsOfPath come q). renewed.came q stands)
        (λ (some : AnyImports trees q). some)
        (kept q lost))
        (renewed.before q has),
    λ some. ⊎_elim
        (λ (has : Contains (bytes_of_paths keys) q). has)
        (λ (stands : AnyIsOfPath come q). among q stands)
        (renewed.now q some),
  );
}

-- If `P` holds for the value of an option, so does a weaker `Q`.
pub some_weaker : {X : Type 0} {P Q : X → Type 0} (o : Option X) → ((x : X) → P x → Q x) → IfSome o P → IfSome o Q
some_weaker None gives has = tt
some_weaker (Some x) gives has = gives x has
