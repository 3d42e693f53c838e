-- The entry of an answered event tells what the event makes of the content.
use Rattle.std.proofs.Common.{◌≡◌, ℕ, List, [], ◌∷◌, ◌++◌, Some, refl, sym, ap, subst, ◌∙◌}
use Rattle.std.proofs.lemmas.Option.{same_Some}
use Rattle.base_edits.specs.EditSet.{edited}
use Rattle.base_files.specs.Workspace.{Workspace}
use Rattle.base_files.specs.declared.refusal.Refusal.TheVariants.{Moved, NothingToUndo, NothingToRedo, Stale, Already, NoJob}
use Rattle.build_carry.specs.Carried.{IsCarried}
use Rattle.build_unit.specs.Jobs.{label_of}
use Rattle.history_machine.specs.declared.entry.Entry.{Entry}
use Rattle.history_machine.specs.declared.entry.Told.{Told}
use Rattle.history_machine.specs.declared.event.Event.{Event}
use Rattle.history_machine.specs.declared.event.Event.TheVariants.{Look, Log, Commit, Undo, Redo, Take, Deliver, GiveBack}
use Rattle.history_machine.specs.declared.event.Reply.{Reply}
use Rattle.history_machine.specs.declared.event.Reply.TheVariants.{Looked, Logged, Done, Taken, Refused, Back}
use Rattle.history_machine.specs.Journal.{entry_of, told_of}
use Rattle.history_machine.specs.Machine.{Content, changed}
use Rattle.history_machine.specs.Step.{Answers}
use Rattle.law_history.specs.Replays.{Replays, EntriesTellSteps}

-- The outcome that the entry keeps, and what the entry with it makes of the content.
record ToldEffect (old : Content) (event : Event) (reply : Reply) (new : Content) : Type 0 where
  out : Told
  tells : told_of reply ≡ Some out
  effect : Replays old (entry_of old.current.number event reply out) new

told_effect : (old : Content) (event : Event) (reply : Reply) (new : Content) → Answers old event reply new → ToldEffect old event reply new
told_effect old Look (Looked view) new a = record { out = _; tells = refl; effect = a.1 }
told_effect old (Log asked) (Logged number line) new a = record { out = _; tells = refl; effect = a.1 }
told_effect old (Commit basis change) (Done number) new a =
    let files : change.files ≡ edited change.edits old.current.files = a.0.1.files ∙ ap (edited change.edits) a.0.0.1 in
    record {
      out = _;
      tells = refl;
      effect = record {
        edits = change.edits;
        has_edits = refl;
        finished = a.2.0;
        carried = subst (λ (w : Workspace). IsCarried old.current.files old.current.finished w a.2.0) files a.2.1;
        is_changed = a.2.2 ∙ ap (λ (w : Workspace). changed old w a.2.0) files;
      };
    }
told_effect old (Commit basis change) (Refused (Moved current)) new a = record { out = _; tells = refl; effect = a.2 }
told_effect old (Undo basis) (Done number) new a = record { out = _; tells = refl; effect = (a.2, a.3) }
told_effect old (Undo basis) (Refused (Moved current)) new a = record { out = _; tells = refl; effect = a.2 }
told_effect old (Undo basis) (Refused NothingToUndo) new a = record { out = _; tells = refl; effect = a.2 }
told_effect old (Redo basis) (Done number) new a = record { out = _; tells = refl; effect = (a.2, a.3) }
told_effect old (Redo basis) (Refused (Moved current)) new a = record { out = _; tells = refl; effect = a.2 }
told_effect old (Redo basis) (Refused NothingToRedo) new a = record { out = _; tells = refl; effect = a.2 }
told_effect old Take (Taken job) new a = record {
  out = _;
  tells = refl;
  effect = record {
    label = label_of job;
    ticket = a.0.ticket;
    number = a.0.number;
    visit = a.0.visit;
    first = a.0.first;
    is_out = a.1;
  };
}
told_effect old Take (Refused NoJob) new a = record { out = _; tells = refl; effect = a.1 }
told_effect old (Deliver job built) (Back NoJob back unit) new a = record { out = _; tells = refl; effect = a.2 }
told_effect old (Deliver job built) (Refused (Stale current)) new a = record {
  out = _;
  tells = refl;
  effect = record { label = label_of job; out = a.2.0; returns = record { has_ticket = refl; removes = a.2.1 }; is_lost = a.2.2 };
}
told_effect old (Deliver job built) (Refused Already) new a = record {
  out = _;
  tells = refl;
  effect = record { label = label_of job; out = a.2.0; returns = record { has_ticket = refl; removes = a.2.1 }; is_lost = a.2.2 };
}
told_effect old (Deliver job built) (Done number) new a = record {
  out = _;
  tells = refl;
  effect = record {
    label = label_of job;
    out = a.3.0;
    returns = record { has_ticket = refl; removes = a.3.2 };
    unit = built.unit;
    finished = a.3.1;
    gains = a.3.3;
    is_finished = a.3.4;
  };
}
told_effect old (GiveBack job) (Back NoJob back unit) new a = record { out = _; tells = refl; effect = a.2 }
told_effect old (GiveBack job) (Done number) new a = record {
  out = _;
  tells = refl;
  effect = record { label = label_of job; out = a.1.0; returns = record { has_ticket = refl; removes = a.1.1 }; is_lost = a.1.2 };
}
told_effect old event reply new a = absurd a

pub entries_tell_steps : EntriesTellSteps
entries_tell_steps old new event reply journal longer a r =
    let told = told_effect old event reply new a in
    let same : told.out ≡ r.out = same_Some told.out r.out (sym told.tells ∙ r.tells) in (
      entry_of old.current.number event reply r.out,
      r.journal,
      subst (λ (out : Told). Replays old (entry_of old.current.number event reply out) new) same told.effect,
    )
