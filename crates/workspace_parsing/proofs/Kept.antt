-- What threads give that promise the shares of a workspace.
use Rattle.std.proofs.Common.{◌≡◌, ℕ, ◌+◌, ◌<◌, ◌∙◌, ◌⊎◌, List, [], ◌∷◌, ◌++◌, Result}
use Rattle.std.proofs.Common.{Ok, Err, Some, Vec, arith, length, slice_get, slice_index_or, subst, sym, vec_len, ⊎_elim}
use Rattle.std.specs.Prelude.{IfOk}
use Rattle.std.proofs.lemmas.Option.{slice_get_read, slice_get_within}
use Rattle.std.specs.PromisedHandle.{KeepsEach}
use Rattle.std.specs.declared.thread.PromisedHandle.{PromisedHandle}
use Rattle.std.specs.declared.thread.Promise as Promise
use Rattle.base_edits.proofs.Ending.{pushed_get}
use Rattle.base_files.specs.Workspace.{Workspace}
use Rattle.workspace_parsing.specs.Promises.{PromiseShares}
use Rattle.workspace_parsing.specs.Shares.{GiveShares, GivesGraph, GivesShare, IsPartBetween}
use Rattle.workspace_parsing.specs.declared.task.GraphPromised.{GraphPromised}

-- no thread was begun yet
pub none_begun : {T : Type 0} (w : Workspace) (threads : List (PromisedHandle T GraphPromised)) → threads ≡ [] → PromiseShares w threads
none_begun {T} w threads none i thread at =
    let within : i < length threads = slice_get_within threads i thread at in
    absurd (omega (arith, subst (λ (l : List (PromisedHandle T GraphPromised)). i < length l) none within))

-- a thread of the next share was begun
pub one_begun : {T : Type 0} (w : Workspace) (threads : List (PromisedHandle T GraphPromised)) (one : PromisedHandle T GraphPromised) (number : ℕ) →
    number ≡ length threads → PromiseShares w threads → IsPartBetween w number (number + 1) one.promise.files.value → PromiseShares w (threads ++ one ∷ [])
one_begun {T} w threads one number size before is i thread at = ⊎_elim
    (λ (old : slice_get threads i ≡ Some thread). before i thread old)
    (λ (new : (i ≡ length threads) × (one ≡ thread)).
    subst (λ (n : ℕ). IsPartBetween w n (n + 1) thread.promise.files.value) (size ∙ sym new.0)
    (subst (λ (t : PromisedHandle T GraphPromised). IsPartBetween w number (number + 1) t.promise.files.value) new.1 is))
    (pushed_get threads one thread i at)

-- what is given of a part's files is the part
pub part_given : {E : Type 0} (w part : Workspace) (low high : ℕ) (given : Result Workspace E) → IsPartBetween w low high part →
    GivesGraph part given → IfOk given (IsPartBetween w low high)
part_given w part low high (Ok graph) is same = subst (IsPartBetween w low high) (sym same) is
part_given w part low high (Err fault) is same = tt

-- Where all threads keep their promises, all shares are given.
pub shares_kept : {E Y Z : Type 0} {g : Promise.Ghosts GraphPromised (Result Workspace E)} (w : Workspace)
    (threads : Vec (PromisedHandle (Result Workspace E) GraphPromised) Y) (given : Vec (Result Workspace E) Z) → vec_len given ≡ vec_len threads
    → PromiseShares w threads.items → KeepsEach g (vec_len threads) threads.items given.items
    → ((p : GraphPromised) (r : Result Workspace E) → g.kept_by p r → GivesGraph p.files.value r) → GiveShares w given.items
shares_kept {E} w threads given long named each rightly = λ i d below.
    let among : i < vec_len threads = omega (arith, below, given.ok.0, long) in
    let kept = (each i d among).1 in
    let at = slice_get_read threads.items (vec_len threads) i kept.handle threads.ok.0 among kept.handle_is in
    part_given w kept.handle.promise.files.value i (i + 1) (slice_index_or given.items i d) (named i kept.handle at)
    (rightly kept.handle.promise (slice_index_or given.items i d) kept.kept)
