-- The answers to the goals of `checked_text::with_text`.
use Rattle.std.proofs.Common.{subst}
use Rattle.std.proofs.lemmas.Option.{none-some, same_Some}
use Rattle.types_declared.specs.PackageView.{package_of}
use Rattle.build_unit.specs.Compiling.{IsPrintedAs}
use Rattle.build_unit.proofs.CheckedText.{own_found}
use Rattle.build_unit.proofs.checked_text.with_text.Goals as goal

pub returns-in_default : goal.returns-in_default
returns-in_default c = record { checked = c.requires.checked; text = λ p at text is. absurd (none-some text is) }

pub names_below-requires : goal.names_below-requires
names_below-requires c = record { number = c.requires.number; at = c.requires.at }

pub printed-requires : goal.printed-requires
printed-requires c =
    let checked = c.args.found.checked in
    let kept = c.requires.bounds c.in-Some.meant c.in-Some.is in
    record {
      index = c.requires.index;
      bounds = kept.bounds;
      definitions = own_found (package_of c.args.unit) checked.faults.items checked.export_data kept.faultless c.requires.checked.export_data;
    }

pub returns : goal.returns
returns c =
    let kept = c.requires.bounds c.in-Some.meant c.in-Some.is in
    record {
      checked = c.requires.checked;
      text = λ p at text is. (
          let names = c.in_ok-packages.ensures p at in
          subst (IsPrintedAs c.args.at.graph.now p (package_of c.args.unit)) (same_Some c.in_ok-text.text text is) (record {
            files_of = names.files_of;
            are_files = names.are_files;
            is_object = c.in_ok-text.ensures names.files_of (c.requires.checked.members kept.faultless) (c.requires.checked.enterings kept.faultless)
                names.have_names;
          }));
    }
