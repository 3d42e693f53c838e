-- Faults that compare as equal are equal.
use Rattle.std.proofs.Common.{ℕ, ◌≡◌, true, if◌then◌else◌, List, refl, sym, ap, ◌∙◌}
use Rattle.std.specs.Prelude.{codes, bytes_eq}
use Rattle.std.specs.FinMap.{IsAntisymmetric, nat_cmp-IsAntisymmetric, slice_cmp-IsAntisymmetric}
use Rattle.std.specs.Ordering.{nat_cmp, is_lt, is_gt, eq_by_cmp, ordering_then}
use Rattle.std.specs.Cmp.{Equal-is}
use Rattle.std.specs.Cmp.Lexicographic.{slice_cmp}
use Rattle.std.specs.declared.cmp.Ordering.{Ordering}
use Rattle.std.specs.declared.cmp.Ordering.TheVariants.{Less, Equal, Greater}
use Rattle.std.proofs.lemmas.Bool.{true≢false}
use Rattle.base_files.specs.FaultNames.{fault_word}
use Rattle.base_files.specs.Path.{folder}
use Rattle.base_files.specs.Workspace.{path_cmp}
use Rattle.base_files.specs.declared.fault_kind.FaultKind.{FaultKind}
use Rattle.base_files.specs.declared.fault_kind.FaultKind.TheVariants as kind
use Rattle.workspace_check.specs.Faults.{fault_cmp}
use Rattle.workspace_check.specs.declared.fault.FileFault.{FileFault}

-- a kind has its name alone

kind_named : List ℕ → FaultKind
kind_named n =
    if bytes_eq n (codes "encoding") then kind.Encoding else
    if bytes_eq n (codes "number") then kind.Number else
    if bytes_eq n (codes "string") then kind.String else
    if bytes_eq n (codes "comment") then kind.Comment else
    if bytes_eq n (codes "character") then kind.Character else
    if bytes_eq n (codes "syntax") then kind.Syntax else
    if bytes_eq n (codes "nesting") then kind.Nesting else
    if bytes_eq n (codes "package") then kind.Package else
    if bytes_eq n (codes "missing") then kind.Missing else
    if bytes_eq n (codes "cycle") then kind.Cycle else
    if bytes_eq n (codes "import") then kind.Import else
    if bytes_eq n (codes "undeclared") then kind.Undeclared else
    if bytes_eq n (codes "unexported") then kind.Unexported else
    if bytes_eq n (codes "repeated") then kind.Repeated else
    if bytes_eq n (codes "unused") then kind.Unused else
    if bytes_eq n (codes "nonew") then kind.NoNew else
    if bytes_eq n (codes "loop") then kind.Loop else
    if bytes_eq n (codes "recursive") then kind.Recursive else kind.«Type»

named_kind : (k : FaultKind) → kind_named (fault_word k) ≡ k
unfolding kind_named
named_kind kind.Encoding = refl
named_kind kind.Number = refl
named_kind kind.String = refl
named_kind kind.Comment = refl
named_kind kind.Character = refl
named_kind kind.Syntax = refl
named_kind kind.Nesting = refl
named_kind kind.Package = refl
named_kind kind.Missing = refl
named_kind kind.Cycle = refl
named_kind kind.Import = refl
named_kind kind.Undeclared = refl
named_kind kind.Unexported = refl
named_kind kind.Repeated = refl
named_kind kind.Unused = refl
named_kind kind.NoNew = refl
named_kind kind.Loop = refl
named_kind kind.Recursive = refl
named_kind kind.«Type» = refl

one_kind : (j k : FaultKind) → fault_word j ≡ fault_word k → j ≡ k
one_kind j k e = sym (named_kind j) ∙ ap kind_named e ∙ named_kind k

-- the parts of a comparison

pub both_equal : (a b : Ordering) → ordering_then a b ≡ Equal → (a ≡ Equal) × (b ≡ Equal)
both_equal Less b e = absurd (true≢false (ap is_lt e))
both_equal Equal b e = (refl, e)
both_equal Greater b e = absurd (true≢false (ap is_gt e))

bytes_exact : IsAntisymmetric (slice_cmp nat_cmp)
bytes_exact = slice_cmp-IsAntisymmetric nat_cmp-IsAntisymmetric

make : List ℕ → ℕ → FaultKind → FileFault
make path offset k = record { place = record { path = path; offset = offset }; kind = k }

same_parts : (f g : FileFault) → f.place.path ≡ g.place.path → f.place.offset ≡ g.place.offset → f.kind ≡ g.kind → f ≡ g
unfolding make
same_parts f g path offset k =
    ap (λ v. make v f.place.offset f.kind) path ∙ ap (λ n. make g.place.path n f.kind) offset ∙ ap (make g.place.path g.place.offset) k

pub fault_cmp_exact : (f g : FileFault) → fault_cmp f g ≡ Equal → f ≡ g
fault_cmp_exact f g e =
    let a = both_equal (path_cmp (folder f.place.path) (folder g.place.path)) _ e in
    let b = both_equal (path_cmp f.place.path g.place.path) _ a.1 in
    let c = both_equal (nat_cmp f.place.offset g.place.offset) (slice_cmp nat_cmp (fault_word f.kind) (fault_word g.kind)) b.1 in
    same_parts f g (bytes_exact f.place.path g.place.path b.0) (nat_cmp-IsAntisymmetric f.place.offset g.place.offset c.0)
    (one_kind f.kind g.kind (bytes_exact (fault_word f.kind) (fault_word g.kind) c.1))

pub same_fault : (f g : FileFault) → eq_by_cmp fault_cmp f g ≡ true → f ≡ g
same_fault f g e = fault_cmp_exact f g ((Equal-is (fault_cmp f g)).0 e)
