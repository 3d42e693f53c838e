-- Tasks that are acted on, one after another.
use Rattle.std.proofs.Common.{ℕ, ◌≡◌, ◌∙◌, ◌<◌, ◌≤◌, ◌+◌, Bool, true, false, ◌||◌, Some, inl}
use Rattle.std.proofs.Common.{inr, List, [], ◌∷◌, ◌++◌, drop, get_or, length, take, refl, sym, ap, subst}
use Rattle.std.specs.Prelude.{Ok, Err}
use Rattle.std.proofs.lemmas.List.{take-append-drop, take_all}
use Rattle.base_edits.proofs.Steps.{drop_next}
use Rattle.base_files.specs.declared.refusal.Refusal.{Refusal}
use Rattle.history_machine.specs.declared.event.Event.{Event}
use Rattle.history_machine.specs.declared.event.Reply.{Reply}
use Rattle.lsp_edits.proofs.Collecting.{take_next}
use Rattle.lsp_requests.specs.Texts.{RunTexts, RunsTask, RunsText, RunsUpTo, command_with}
use Rattle.lsp_told.specs.declared.text_tasks.TextTask.{TextTask}
use Rattle.server_commands.specs.Act.{LooksFirst}
use Rattle.server_commands.specs.declared.response.Response.{Response}

or_nothing : (a : Bool) → a || false ≡ a
or_nothing true = refl
or_nothing false = refl

or_of_three : (a b c : Bool) → (a || b) || c ≡ a || (b || c)
or_of_three true b c = refl
or_of_three false b c = refl

module _ {D : Type 0} (steps : D → Event → Reply → D → Type 0) where
  -- a put of the same text at the same path
  pub put_as : (old new : D) (basis : ℕ) (answer : Response) (path named text given : List ℕ) → path ≡ named → text ≡ given
      → LooksFirst steps old (command_with basis path (Some text)) answer new → LooksFirst steps old (command_with basis named (Some given)) answer new
  put_as old new basis answer path named text given there same h =
      subst (λ p. LooksFirst steps old (command_with basis p (Some given)) answer new) there
      (subst (λ t. LooksFirst steps old (command_with basis path (Some t)) answer new) same h)

  -- a task that did not fail was acted on
  acted : (old new : D) (task : TextTask) (changed : Bool) → RunsTask steps old task (Ok changed) new → RunsText steps old task (Ok changed) new
  acted old new task changed h = elim h [
    | inl runs ↦ runs
    | inr memory ↦ let bad = memory.0 in absurd cc
  ]

  run_push : (tasks : List TextTask) (old mid new : D) (task : TextTask) (changes changed : Bool) → RunTexts steps old tasks changes mid
      → RunsText steps mid task (Ok changed) new → RunTexts steps old (tasks ++ task ∷ []) (changes || changed) new
  run_push [] old mid new task changes changed h k = (
    changed,
    false,
    new,
    subst (λ d. RunsText steps d task (Ok changed) new) h.1 k,
    (refl, refl),
    ap (λ b. b || changed) h.0 ∙ sym (or_nothing changed),
  )
  run_push (first ∷ tasks) old mid new task changes changed h k = (
    h.0,
    h.1 || changed,
    h.2,
    h.3,
    run_push tasks h.2 mid new task h.1 changed h.4 k,
    ap (λ b. b || changed) h.5 ∙ or_of_three h.0 h.1 changed,
  )

  -- one task more
  pub run_next : (tasks : List TextTask) (i : ℕ) (old mid new : D) (task : TextTask) (changes changed : Bool) → i < length tasks
      → task ≡ get_or tasks i task → RunsTask steps mid task (Ok changed) new → RunTexts steps old (take i tasks) changes mid
      → RunTexts steps old (take (i + 1) tasks) (changes || changed) new
  run_next tasks i old mid new task changes changed below is runs h =
      subst (λ l. RunTexts steps old l (changes || changed) new) (sym (take_next tasks i task below is))
      (run_push (take i tasks) old mid new task changes changed h (acted mid new task changed runs))

  -- all tasks were acted on
  pub run_all : (tasks : List TextTask) (i : ℕ) (old new : D) (changes : Bool) → length tasks ≤ i → RunTexts steps old (take i tasks) changes new
      → RunsUpTo steps old tasks (Ok changes) new
  run_all tasks i old new changes over h = subst (λ l. RunTexts steps old l changes new) (take_all i tasks over) h

  -- a task failed
  pub run_failed : (tasks : List TextTask) (i : ℕ) (old mid new : D) (task : TextTask) (changes : Bool) (why : Refusal) → i < length tasks
      → task ≡ get_or tasks i task → RunsTask steps mid task (Err why) new → RunTexts steps old (take i tasks) changes mid
      → RunsUpTo steps old tasks (Err why) new
  run_failed tasks i old mid new task changes why below is runs h = (
    take i tasks,
    task,
    drop (i + 1) tasks,
    changes,
    mid,
    sym (take-append-drop i tasks) ∙ ap (λ l. take i tasks ++ l) (drop_next tasks i task below is),
    h,
    runs,
  )
