-- Why requests fail.
use Rattle.std.proofs.Common.{ℕ, ◌≡◌, List, Option, None, Some, sym, subst}
use Rattle.std.specs.Prelude.{Result, Ok, Err}
use Rattle.std.specs.FinMap as files
use Rattle.base_files.specs.Path.{IsPath}
use Rattle.base_files.specs.PathRead.{ReadsPath}
use Rattle.base_files.specs.Workspace.{Workspace}
use Rattle.base_files.specs.declared.refusal.Refusal.{Refusal}
use Rattle.base_files.specs.declared.refusal.Refusal.TheVariants as refusal
use Rattle.lsp_edits.specs.Naming.{NamesFile}
use Rattle.lsp_edits.specs.declared.telling.Telling.{Telling}
use Rattle.lsp_params.specs.Asked.{PlaceView}
use Rattle.lsp_told.specs.Asking.{FindsByte, FindsByteIn, FindsPath, HasNoFile, IsNoPath, ReadsName, unnamed_fault}
use Rattle.lsp_told.specs.declared.asked_byte.AskedByte.{AskedByte}
use Rattle.lsp_told.specs.declared.fault.AskFault.{AskFault}
use Rattle.lsp_told.specs.declared.fault.AskFault.TheVariants as fault

-- a name that was refused is no path
pub name_refused : (name : List ℕ) (why : Refusal) → ReadsPath 2 name (Err why) → ReadsName name (Err (unnamed_fault why))
name_refused name refusal.Memory h = tt
name_refused name refusal.BadPath h = h
name_refused name why h = absurd h

-- the path of a name that a URI names
pub named_path : (telling : Telling) (uri name : List ℕ) → NamesFile telling.naming.now uri (Some name) → (came : Result (List ℕ) AskFault)
    → ReadsName name came → FindsPath telling uri came
named_path telling uri name named (Ok path) h = (subst (λ p. NamesFile telling.naming.now uri (Some p)) (sym h.0) named, subst (IsPath 2) (sym h.0) h.1)
named_path telling uri name named (Err fault.Memory) h = tt
named_path telling uri name named (Err fault.Method) h = absurd h
named_path telling uri name named (Err fault.Params) h = absurd h
named_path telling uri name named (Err (fault.Refused refusal.NoFile)) h = (Some name, named, h)
named_path telling uri name named (Err (fault.Refused why)) h = absurd h

no_file : (w : Workspace) (name : Option (List ℕ)) → IsNoPath name → HasNoFile w name
no_file w None h = tt
no_file w (Some name) h = λ is. absurd (h is)

-- where a URI names no path, there is no byte
pub path_failed : (telling : Telling) (w : Workspace) (at : PlaceView) (failed : AskFault) → FindsPath telling at.0 (Err failed)
    → FindsByte telling w at (Err failed)
path_failed telling w at fault.Memory h = tt
path_failed telling w at fault.Method h = absurd h
path_failed telling w at fault.Params h = absurd h
path_failed telling w at (fault.Refused refusal.NoFile) h = (h.0, h.1, no_file w h.0 h.2)
path_failed telling w at (fault.Refused why) h = absurd h

-- the byte of a file whose path was found
pub byte_found : (telling : Telling) (w : Workspace) (at : PlaceView) (path : List ℕ) → FindsPath telling at.0 (Ok path)
    → (came : Result AskedByte AskFault) → FindsByteIn telling.abilities.encoding w path at.1 came → FindsByte telling w at came
byte_found telling w at path found (Ok byte) h = record {
  named = subst (λ p. NamesFile telling.naming.now at.0 (Some p)) (sym h.0) found.0;
  text = h.1.0;
  found = subst (λ p. files.get w p ≡ Some h.1.0) (sym h.0) h.1.1;
  offset_is = h.1.2;
}
byte_found telling w at path found (Err failed) h =
    subst (λ f. FindsByte telling w at (Err f)) (sym h.0) (Some path, found.0, λ is. h.1)
