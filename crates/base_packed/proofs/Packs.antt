-- Lists of packed changes: what stays when more is appended, and how two parts join.
use Rattle.std.proofs.Common.{◌≡◌, ℕ, ◌+◌, ◌-◌, ◌<◌, ◌≤◌, List, [], ◌∷◌, ◌++◌, length, take, drop, map, get_or, refl, sym, ap, subst, ◌∙◌, arith}
use Rattle.std.specs.List.{All}
use Rattle.std.proofs.lemmas.List.{append_assoc, append-nil, length-append, length-drop, length-map}
use Rattle.std.proofs.lemmas.List.{map-append, get_or_append_left, take-append-le, drop-append-le, take_all}
use Rattle.std.proofs.lemmas.List.Elements.{All-nil, All-cons, All-head, All-tail, All-append, All-take, All-drop}
use Rattle.base_edits.specs.Edits.{AreInOrder}
use Rattle.base_edits.specs.declared.edit.Edit.{Edit}
use Rattle.base_edits.specs.declared.change.FileChange.{FileChange}
use Rattle.base_packed.specs.declared.packed.EditKind.{EditKind}
use Rattle.base_packed.specs.declared.packed.PackedEdit.{PackedEdit}
use Rattle.base_packed.specs.declared.packed.PackedFile.{PackedFile}
use Rattle.base_packed.specs.declared.packing.Packing.{Packing}
use Rattle.base_packed.specs.Packed.{edit_of_kind, edits_counted, idle_kind, packed_changes, unpacked_edit}
use Rattle.base_packed.specs.Packing.{AddsChanges, PacksEdits, AddsKind, AreForward}

-- the edit has one of the kinds
abbrev pub HasKind : List EditKind → PackedEdit → Type 0
HasKind kinds e = e.kind < length kinds

-- edits in order don't end before their own start
pub forward : (at : ℕ) (edits : List Edit) → AreInOrder at edits → AreForward edits
forward at [] order = All-nil (λ (e : Edit). e.span.start ≤ e.span.end)
forward at (e ∷ edits) order =
    All-cons (λ (x : Edit). x.span.start ≤ x.span.end) e edits order.1 (forward e.span.end edits order.2)

-- the edits have kinds among more kinds as well
pub kinded_more : (kinds more : List EditKind) (edits : List PackedEdit) → All (HasKind kinds) edits → All (HasKind (kinds ++ more)) edits
kinded_more kinds more edits kinded = λ k d lt.
    let low = kinded k d lt in
    let size = length-append kinds more in
    omega (arith, low, size)

-- the edits stand for the same among more kinds
pub edits_more : (kinds more : List EditKind) (edits : List PackedEdit) → All (HasKind kinds) edits →
    map (unpacked_edit (kinds ++ more)) edits ≡ map (unpacked_edit kinds) edits
edits_more kinds more [] kinded = refl
edits_more kinds more (e ∷ edits) kinded =
    ap (λ (k : EditKind). edit_of_kind e.start k ∷ map (unpacked_edit (kinds ++ more)) edits)
    (get_or_append_left kinds more idle_kind e.kind (All-head (HasKind kinds) e edits kinded))
    ∙ ap (λ (es : List Edit). unpacked_edit kinds e ∷ es) (edits_more kinds more edits (All-tail (HasKind kinds) e edits kinded))

-- the changes are the same among more kinds
pub changes_more : (kinds more : List EditKind) (files : List PackedFile) (edits : List PackedEdit) → All (HasKind kinds) edits →
    packed_changes (kinds ++ more) files edits ≡ packed_changes kinds files edits
changes_more kinds more [] edits kinded = refl
changes_more kinds more (f ∷ files) edits kinded =
    ap (λ (es : List Edit). record { path = f.path; edits = es; fate = f.fate } ∷ packed_changes (kinds ++ more) files (drop f.count edits))
    (edits_more kinds more (take f.count edits) (All-take (HasKind kinds) f.count edits kinded))
    ∙ ap (λ (cs : List FileChange). record { path = f.path; edits = map (unpacked_edit kinds) (take f.count edits); fate = f.fate } ∷ cs)
    (changes_more kinds more files (drop f.count edits) (All-drop (HasKind kinds) f.count edits kinded))

-- the files of both parts have as many edits as the parts have
pub counted_joined : (front back : List PackedFile) → edits_counted (front ++ back) ≡ edits_counted front + edits_counted back
counted_joined [] back = omega arith
counted_joined (f ∷ front) back =
    let rest = counted_joined front back in
    omega (arith, rest)

-- the changes of both parts, where the files of the first have just its edits
pub changes_joined : (kinds : List EditKind) (front back : List PackedFile) (edits more : List PackedEdit) → edits_counted front ≡ length edits →
    packed_changes kinds (front ++ back) (edits ++ more) ≡ packed_changes kinds front edits ++ packed_changes kinds back more
changes_joined kinds [] back [] more counted = refl
changes_joined kinds [] back (e ∷ edits) more counted = absurd (omega (arith, counted))
changes_joined kinds (f ∷ front) back edits more counted =
    let n = f.count in
    let size = length-drop n edits in
    let within : n ≤ length edits = omega (arith, counted) in
    let left : edits_counted front ≡ length (drop n edits) = omega (arith, counted, size) in
    ap (λ (es : List PackedEdit). record { path = f.path; edits = map (unpacked_edit kinds) es; fate = f.fate }
    ∷ packed_changes kinds (front ++ back) (drop n (edits ++ more))) (take-append-le n edits more within)
    ∙ ap (λ (es : List PackedEdit). record { path = f.path; edits = map (unpacked_edit kinds) (take n edits); fate = f.fate }
    ∷ packed_changes kinds (front ++ back) es) (drop-append-le n edits more within)
    ∙ ap (λ (cs : List FileChange). record { path = f.path; edits = map (unpacked_edit kinds) (take n edits); fate = f.fate } ∷ cs)
    (changes_joined kinds front back (drop n edits) more left)

-- one edit of the kind at a number
pub edit_added : (old new : List EditKind) (before after : List PackedEdit) (e : Edit) (start kind size number : ℕ) → e.span.start ≤ e.span.end →
    size ≡ e.span.end - e.span.start → start ≡ e.span.start → kind ≡ number → AddsKind (record { size = size; text = e.text }) old new number →
    after ≡ before ++ record { start = start; kind = kind } ∷ [] → PacksEdits old new before after (e ∷ [])
edit_added old new before after e start kind size number forward is_size is_start is_kind adds pushed =
    let end : e.span.start + size ≡ e.span.end = omega (arith, forward, is_size) in
    record {
      kinds = adds.kinds;
      grown = adds.grown;
      packed = record { start = start; kind = kind } ∷ [];
      appended = pushed;
      kinded = All-cons (HasKind new) (record { start = start; kind = kind }) [] (omega (arith, is_kind, adds.within)) (All-nil (HasKind new));
      same =
          ap (λ (k : EditKind). edit_of_kind start k ∷ []) (ap (λ (n : ℕ). get_or new n idle_kind) is_kind ∙ adds.at idle_kind)
          ∙ ap (λ (at : ℕ). edit_of_kind at (record { size = size; text = e.text }) ∷ []) is_start
          ∙ ap (λ (to : ℕ). record { span = record { start = e.span.start; end = to }; text = e.text } ∷ []) end;
    }

pub edits_none : (kinds : List EditKind) (packed : List PackedEdit) → PacksEdits kinds kinds packed packed []
edits_none kinds packed = record {
  kinds = [];
  grown = sym (append-nil kinds);
  packed = [];
  appended = sym (append-nil packed);
  kinded = All-nil (HasKind kinds);
  same = refl;
}

-- edits, and then more edits
pub edits_both : (k0 k1 k2 : List EditKind) (p0 p1 p2 : List PackedEdit) (edits more : List Edit) → PacksEdits k0 k1 p0 p1 edits →
    PacksEdits k1 k2 p1 p2 more → PacksEdits k0 k2 p0 p2 (edits ++ more)
edits_both k0 k1 k2 p0 p1 p2 edits more one two =
    let kinded : All (HasKind k2) one.packed = subst (λ ks. All (HasKind ks) one.packed) (sym two.grown) (kinded_more k1 two.kinds one.packed one.kinded) in
    let same : map (unpacked_edit k2) one.packed ≡ edits =
    ap (λ ks. map (unpacked_edit ks) one.packed) two.grown ∙ edits_more k1 two.kinds one.packed one.kinded ∙ one.same in
    record {
      kinds = one.kinds ++ two.kinds;
      grown = two.grown ∙ ap (λ ks. ks ++ two.kinds) one.grown ∙ append_assoc k0 one.kinds two.kinds;
      packed = one.packed ++ two.packed;
      appended = two.appended ∙ ap (λ ps. ps ++ two.packed) one.appended ∙ append_assoc p0 one.packed two.packed;
      kinded = All-append (HasKind k2) one.packed two.packed kinded two.kinded;
      same = map-append (unpacked_edit k2) one.packed two.packed ∙ ap (λ es. es ++ map (unpacked_edit k2) two.packed) same
          ∙ ap (λ es. edits ++ es) two.same;
    }

-- a file with its edits
pub change_added : (old new : Packing) (c : FileChange) (count : ℕ) → count ≡ length c.edits →
    PacksEdits old.kinds.items new.kinds.items old.edits.items new.edits.items c.edits →
    new.files.items ≡ old.files.items ++ record { path = c.path; fate = c.fate; count = count } ∷ [] → AddsChanges old new (c ∷ [])
change_added old new c count is_count adds pushed =
    let ks = new.kinds.items in
    let mapped = length-map adds.packed (unpacked_edit ks) in
    let long = ap length adds.same in
    record {
      kinds = adds.kinds;
      grown = adds.grown;
      edits = adds.packed;
      appended = adds.appended;
      files = record { path = c.path; fate = c.fate; count = count } ∷ [];
      listed = pushed;
      packed = record { counted = omega (arith, is_count, mapped, long); kinded = adds.kinded };
      same =
          ap (λ (es : List PackedEdit). record { path = c.path; edits = map (unpacked_edit ks) es; fate = c.fate } ∷ [])
          (take_all count adds.packed (omega (arith, is_count, mapped, long)))
          ∙ ap (λ (es : List Edit). record { path = c.path; edits = es; fate = c.fate } ∷ []) adds.same;
    }

-- changes, and then more changes
pub changes_both : (first mid last : Packing) (changes more : List FileChange) → AddsChanges first mid changes → AddsChanges mid last more →
    AddsChanges first last (changes ++ more)
changes_both first mid last changes more one two =
    let k1 = mid.kinds.items in
    let k2 = last.kinds.items in
    let kinded : All (HasKind k2) one.edits =
    subst (λ ks. All (HasKind ks) one.edits) (sym two.grown) (kinded_more k1 two.kinds one.edits one.packed.kinded) in
    let same : packed_changes k2 one.files one.edits ≡ changes =
    ap (λ ks. packed_changes ks one.files one.edits) two.grown ∙ changes_more k1 two.kinds one.files one.edits one.packed.kinded ∙ one.same in
    let files = counted_joined one.files two.files in
    let size = length-append one.edits two.edits in
    let front = one.packed.counted in
    let back = two.packed.counted in
    record {
      kinds = one.kinds ++ two.kinds;
      grown = two.grown ∙ ap (λ ks. ks ++ two.kinds) one.grown ∙ append_assoc first.kinds.items one.kinds two.kinds;
      edits = one.edits ++ two.edits;
      appended = two.appended ∙ ap (λ ps. ps ++ two.edits) one.appended ∙ append_assoc first.edits.items one.edits two.edits;
      files = one.files ++ two.files;
      listed = two.listed ∙ ap (λ fs. fs ++ two.files) one.listed ∙ append_assoc first.files.items one.files two.files;
      packed = record { counted = omega (arith, files, size, front, back); kinded = All-append (HasKind k2) one.edits two.edits kinded two.packed.kinded };
      same = changes_joined k2 one.files two.files one.edits two.edits front ∙ ap (λ cs. cs ++ packed_changes k2 two.files two.edits) same
          ∙ ap (λ cs. changes ++ cs) two.same;
    }
