-- The file is counted with those of its package, and its bytes with those of all files.
use Rattle.std.proofs.Common.{◌≡◌, ◌++◌, ◌∷◌, ◌+◌, ◌≤◌, [], arith, cond, length, refl, sym, subst, ap, ◌∙◌}
use Rattle.std.specs.FinMap.{get, insert}
use Rattle.std.specs.List.{list_any}
use Rattle.std.specs.Ordering.{eq_by_cmp}
use Rattle.std.proofs.lemmas.Bool.{false≢true}
use Rattle.base_files.specs.Packages.{package_paths}
use Rattle.base_files.specs.Workspace.{Workspace, path_cmp}
use Rattle.workspace_snapshot.specs.Fits.{FilesFit, FitsLimits, total_bytes}
use Rattle.workspace_snapshot.specs.Plan.{put_changes}
use Rattle.workspace_snapshot.specs.declared.change.ChangeKind.TheVariants.{Put}
use Rattle.tool_disk.specs.Puts.{folder_snapshot, is_folder_of}
use Rattle.tool_disk.proofs.FolderPackages.{count_kept, fits_after, in_packages_kept, kept_after}
use Rattle.tool_disk.proofs.FolderSizes.{bytes_then}
use Rattle.tool_disk.proofs.folder.FolderFiles.put.Goals as goal

pub overflow_sub-left : goal.overflow_sub-left
overflow_sub-left c =
    let fit = (c.fit.ensures.0 c.if-not-fit.false).0 in
    omega (arith, bytes_then c.args.self.now.files c.in_ok-path.path c.args.text, fit.total, c.room_at.ensures.room, c.len.ensures)

pub returns-then-not-fit : goal.returns-then-not-fit
returns-then-not-fit c =
    let was = c.args.self.now in
    let w = was.files in
    let text = c.args.text in
    let path = c.in_ok-path.path in
    let read = c.in_ok-path.ensures in
    let fits = fits_after w was.packages.items path text was.counted was.in_packages was.limits (insert w path text) c.is_first-is_new.result
    refl c.is_first-is_new.ensures in
    let files : insert w path text ≡ insert w c.args.path.now text = ap (λ p. insert w p text) read.0 in (
      (
        read.1,
        λ same. false≢true (sym c.if-has_text.false ∙ c.has_text.ensures.1 (ap (get w) read.0 ∙ same)),
        λ h. false≢true (sym c.if-not-fit.true ∙ c.fit.ensures.1 (fits.0 (subst (FitsLimits was.limits) (sym files) h))),
      ),
      refl,
    )

pub invariant_of-self-2 : goal.invariant_of-self-2
invariant_of-self-2 c =
    let was = c.args.self.now in
    let w = was.files in
    let text = c.args.text in
    let kept = was.packages.items in
    let path = c.in_ok-path.path in
    let added = c.in_ok-add.ensures in
    let fit = (c.fit.ensures.0 c.if-not-fit.false).0 in
    let packages : c.add.new.packages.items ≡ kept_after kept path =
    added.packages ∙ ap (λ b. cond b (kept ++ path ∷ []) kept) c.is_first-is_new.ensures in
    record {
      fitting = subst (FilesFit was.limits) (sym added.files) fit;
      summed = omega (arith, ap total_bytes added.files, bytes_then w path text, c.room_at.ensures.room, c.room_at.ensures.within, fit.total, c.len.ensures);
      counted = ap length packages ∙ count_kept w kept path text was.counted was.in_packages ∙
          sym (ap (λ (f : Workspace). length (package_paths f)) added.files);
      in_packages = λ q. ap (λ l. is_folder_of l q) packages ∙ in_packages_kept w kept path text was.counted was.in_packages q ∙
          sym (ap (λ (f : Workspace). list_any (eq_by_cmp path_cmp q) (package_paths f)) added.files);
    }

pub returns : goal.returns
returns c =
    let was = c.args.self.now in
    let w = was.files in
    let text = c.args.text in
    let path = c.args.path.now in
    let own = c.in_ok-path.path in
    let read = c.in_ok-path.ensures in
    let fits = fits_after w was.packages.items own text was.counted was.in_packages was.limits (insert w own text) c.is_first-is_new.result
    refl c.is_first-is_new.ensures in
    let files : insert w own text ≡ insert w path text = ap (λ p. insert w p text) read.0 in (
      record { base = w; kind = Put; edits = put_changes w path text; files = insert w path text },
      (
        read.1,
        λ same. false≢true (sym c.if-has_text.false ∙ c.has_text.ensures.1 (ap (get w) read.0 ∙ same)),
        subst (FitsLimits was.limits) files (fits.1 (c.fit.ensures.0 c.if-not-fit.false)),
        refl,
      ),
      ap (λ (f : Workspace). folder_snapshot was.limits f) (c.in_ok-add.ensures.files ∙ files),
    )
