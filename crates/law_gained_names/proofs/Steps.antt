-- The edit set is a first step.
use Rattle.std.proofs.Common.{ℕ, List, []}
use Rattle.base_files.specs.Workspace.{Workspace}
use Rattle.base_edits.specs.EditSet.{FileChanges, edited}
use Rattle.base_edits.specs.RevisionsOfEdits.{revision_of}
use Rattle.go_ast.specs.SourceFile.{SourceFile}
use Rattle.types_declared.specs.Package.{Package}
use Rattle.workspace_check.specs.FaultLists.{ListsFaults}
use Rattle.workspace_check.specs.Verdicts.{AreVerdicts}
use Rattle.law_gained_names.specs.NamedPackage.{numbers_of}
use Rattle.law_gained_names.specs.GainedName.{GainedNamesAreJudged, GainedNamesRenumber, IsGainedAt}
use Rattle.law_gained_names.specs.NamedWorkspace.{GainedNamesKeepVerdicts, GainedNamesListNoFault}
use Rattle.law_gained_names.proofs.Judged.{gained_names_are_judged}
use Rattle.law_gained_names.proofs.NamedWorkspacesLaws.{gained_names_renumber}
use Rattle.law_gained_names.proofs.Verdicts.{gained_names_keep_verdicts, gained_names_list_no_fault}
use Rattle.law_renumbered.specs.RenumberedWorkspace.{IsRenumberedBy, RenumberedWorkspacesAreSteps}
use Rattle.law_renumbered.proofs.Keeping.{renumbered_workspaces_are_steps}
use Rattle.law_renumbered.specs.TwoRevisions.{IsFirstStep}
use Rattle.law_gained_names.specs.OwnName.{HasGainedBy, OwnNamesAreGained}
use Rattle.law_gained_names.proofs.OwnNamesLaws.{own_names_are_gained}
use Rattle.law_gained_names.specs.GainedStep.{GainedNamesAreSteps, OwnNamesAreSteps}
use Rattle.law_gained_names.proofs.GainedStepsTokens.{i, unmoved}
use Rattle.law_gained_names.proofs.Becoming.{become, begins, now, others}
use Rattle.law_gained_names.proofs.GainedStepsDecided.{AreDecided, are_decided}
use Rattle.law_gained_names.proofs.Declared.{places}
use Rattle.law_gained_names.proofs.GainedStepsJudged.{firsts, firsts_too, judged, no_round, own_stays, predeclared}

module _ (judge : GainedNamesAreJudged) (steps : RenumberedWorkspacesAreSteps) (w : Workspace) (sound : ListsFaults w []) (s : FileChanges) (f : SourceFile)
    (number : ℕ) (put : List ℕ) (p q : Package) (h : HasGainedBy w sound.known s f number put p q) (at : ℕ)
    (is : IsGainedAt (i w sound.known s f number put p q h) at p q) (right : AreVerdicts (edited s w) sound.known) (none : ListsFaults (edited s w) [])
    (decided : AreDecided w sound.known s) where
  renumbered : IsRenumberedBy w sound.known (revision_of w s) (numbers_of (i w sound.known s f number put p q h) at) p q
  renumbered = record {
    renumbered = is.renumbered;
    keeps = is.keeps;
    was = h.gained.was;
    is = now w sound.known s f number put p q h at is;
    predeclared = predeclared judge w sound s f number put p q h at is right none;
    own = own_stays judge w sound s f number put p q h at is right none;
    firsts = firsts judge w sound s f number put p q h at is right none;
    firsts_too = firsts_too judge w sound s f number put p q h at is right none;
    judged = judged judge w sound s f number put p q h at is right none;
    no_round = no_round judge w sound s f number put p q h at is right none;
    others = others w sound.known s f number put p q h at is;
    unmoved = unmoved w sound.known s f number put p q h;
    begins = begins w sound.known s f number put p q h at is;
    become = become w sound.known s f number put p q h at is (own_stays judge w sound s f number put p q h at is right none);
    places = places w sound;
    bound_or_not = decided;
  }

  first_step : IsFirstStep w sound.known (revision_of w s) sound.known
  first_step = steps w sound.known (revision_of w s) (numbers_of (i w sound.known s f number put p q h) at) p q renumbered sound.right right

by_laws : GainedNamesRenumber → GainedNamesAreJudged → GainedNamesKeepVerdicts → GainedNamesListNoFault → RenumberedWorkspacesAreSteps → GainedNamesAreSteps
by_laws renumber judge keep none steps w sound s f number put p q h =
    let x = renumber number p q h.gained.gains in
    first_step judge steps w sound s f number put p q h x.0 x.1 (keep w (edited s w) sound number p q h.gained)
    (none w (edited s w) sound number p q h.gained) (are_decided w sound s f number put p q h x.0 x.1)

pub gained_names_are_steps : GainedNamesAreSteps
gained_names_are_steps =
    by_laws gained_names_renumber gained_names_are_judged gained_names_keep_verdicts gained_names_list_no_fault renumbered_workspaces_are_steps

own_by_law : OwnNamesAreGained → GainedNamesAreSteps → OwnNamesAreSteps
own_by_law gain steps w sound p is d f put own s edits =
    let x = gain w sound p is d f put own s edits in steps w sound s f (p.layout.place d).index put p x.0 x.1

pub own_names_are_steps : OwnNamesAreSteps
own_names_are_steps = own_by_law own_names_are_gained gained_names_are_steps
