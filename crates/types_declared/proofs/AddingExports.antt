-- The table of export data while entries are set.
use Rattle.std.proofs.Common.{ℕ, ◌≡◌, List, [], ◌∷◌, ◌++◌, None, refl, sym, ap, subst, ◌∙◌}
use Rattle.std.specs.Prelude.{Option, Some}
use Rattle.std.specs.Option.{option_flatten}
use Rattle.std.specs.Global.{Global}
use Rattle.std.specs.FinMap.{find, put}
use Rattle.std.specs.declared.sync.Arc.{Arc}
use Rattle.base_files.specs.Workspace.{path_cmp}
use Rattle.base_files.specs.Entries.{IsAfterAllPaths}
use Rattle.base_files.proofs.Putting.{found_put, others_put}
use Rattle.base_files.proofs.Pushing.{none_behind, put_behind, behind_all, behind_pushed}
use Rattle.types_expr.specs.declared.exports.ExportData.{ExportData}
use Rattle.types_expr.specs.WorldView.{shared_export_data, known_at}
use Rattle.types_declared.specs.States.{state_in}
use Rattle.types_declared.specs.declared.export_tables.ExportTable.{ExportTable}
use Rattle.types_declared.specs.ExportTablesView.{known_scope, scope_name, export_data_in, export_data_known}
use Rattle.types_declared.specs.ExportTablesView.{no_export_data, HasSameEntry, SetsKnown, CopiesEntry}
use Rattle.types_declared.specs.ExportTablesView.{ComesAfterAll, EndsAt}

abbrev known : List ℕ → List (List ℕ × Option (Arc ExportData Global)) → Option ExportData
known path es = shared_export_data (option_flatten (find path_cmp path es))

-- a table without entries knows no package
pub nothing_known : (i : ExportTable) → i.definitions.packages ≡ [] → (path : List ℕ) → export_data_in i path ≡ no_export_data path
nothing_known i none path = ap (λ es. export_data_known path (known path es)) none

-- two tables with equal entries for a path have the same name and export data for it
pub same_known : (old new : ExportTable) (path : List ℕ) → known_at new.definitions path ≡ known_at old.definitions path → new.states ≡ old.states →
    HasSameEntry old new path
same_known old new path same states = record {
  export_data = ap (export_data_known path) same;
  name = ap (λ k. scope_name (known_scope k)) same;
  state = ap (λ s. state_in s path) states;
}

-- setting an entry of the map sets what the table knows of the path
pub is_set : (old new : ExportTable) (path : List ℕ) (held : Option (Arc ExportData Global)) →
    new.definitions.packages ≡ put path_cmp path held old.definitions.packages → new.states ≡ old.states → SetsKnown old new path (shared_export_data held)
is_set old new path held set noted =
    let es = old.definitions.packages in
    let here : known_at new.definitions path ≡ shared_export_data held =
    ap (known path) set ∙ ap (λ o. shared_export_data (option_flatten o)) (found_put path held es) in
    record {
      has_export_data = ap (export_data_known path) here;
      has_name = ap (λ k. scope_name (known_scope k)) here;
      states = λ p. ap (λ s. state_in s p) noted;
      elsewhere = λ p ne. same_known old new p
          (ap (known p) set ∙ ap (λ o. shared_export_data (option_flatten o)) (others_put path held es p ne)) noted;
    }

-- Paths after all paths of a table

-- in an empty table each path comes after all
pub behind_none : (i : ExportTable) → i.definitions.packages ≡ [] → (path : List ℕ) → ComesAfterAll i path
behind_none i none path = subst (IsAfterAllPaths path) (sym none) tt

-- an entry appended after all others is set
pub is_pushed : (old new : ExportTable) (path : List ℕ) (held : Option (Arc ExportData Global)) → ComesAfterAll old path →
    new.definitions.packages ≡ old.definitions.packages ++ (path, held) ∷ [] → new.states ≡ old.states → SetsKnown old new path (shared_export_data held)
is_pushed old new path held behind pushed noted =
    is_set old new path held (pushed ∙ sym (put_behind path held old.definitions.packages behind)) noted

pub ends_pushed : (old new : ExportTable) (path : List ℕ) (held : Option (Arc ExportData Global)) → ComesAfterAll old path →
    new.definitions.packages ≡ old.definitions.packages ++ (path, held) ∷ [] → EndsAt new path
ends_pushed old new path held behind pushed p above =
    subst (IsAfterAllPaths p) (sym pushed) (behind_pushed p path held old.definitions.packages above behind)

-- a path after one that comes after all paths of a table comes after all, too
pub ends_behind : (i : ExportTable) (path : List ℕ) → ComesAfterAll i path → EndsAt i path
ends_behind i path behind p above = behind_all p path i.definitions.packages above behind

-- a path that neither table has is unknown in both
pub none_shared : (others i : ExportTable) (path : List ℕ) → ComesAfterAll i path → find path_cmp path others.definitions.packages ≡ None →
    CopiesEntry others i i path
none_shared others i path behind none =
    let same : known_at i.definitions path ≡ known_at others.definitions path =
    ap (λ o. shared_export_data (option_flatten o)) (none_behind path i.definitions.packages behind ∙ sym none) in
    record {
      has_export_data = ap (export_data_known path) same;
      has_name = ap (λ k. scope_name (known_scope k)) same;
      states = λ p. refl;
      elsewhere = λ p ne. same_known i i p refl refl;
    }

-- an entry of the other table is appended
pub entry_shared : (others old new : ExportTable) (path : List ℕ) (held : Option (Arc ExportData Global)) →
    find path_cmp path others.definitions.packages ≡ Some held → SetsKnown old new path (shared_export_data held) → CopiesEntry others old new path
entry_shared others old new path held there set =
    let same : shared_export_data held ≡ known_at others.definitions path = ap (λ o. shared_export_data (option_flatten o)) (sym there) in
    record {
      has_export_data = set.has_export_data ∙ ap (export_data_known path) same;
      has_name = set.has_name ∙ ap (λ k. scope_name (known_scope k)) same;
      states = set.states;
      elsewhere = set.elsewhere;
    }
