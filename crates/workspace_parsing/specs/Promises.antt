-- What threads promise that parse the shares of a workspace.
use Rattle.std.specs.Prelude.{◌≡◌, ℕ, ◌+◌, List, Some, slice_get}
use Rattle.std.specs.declared.thread.PromisedHandle.{PromisedHandle}
use Rattle.base_files.specs.Workspace.{Workspace}
use Rattle.workspace_parsing.specs.Shares.{IsPartBetween}
use Rattle.workspace_parsing.specs.declared.task.GraphPromised.{GraphPromised}

-- Each thread promises the graph of a share, in order from the first share on.
abbrev pub PromiseShares : {T : Type 0} → Workspace → List (PromisedHandle T GraphPromised) → Type 0
PromiseShares {T} w threads = (i : ℕ) (thread : PromisedHandle T GraphPromised) → slice_get threads i ≡ Some thread →
    IsPartBetween w i (i + 1) thread.promise.files.value
