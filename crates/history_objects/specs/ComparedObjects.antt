-- How the objects of packages compare with those of another state of the history.
use Rattle.std.specs.Prelude.{◌≡◌, ℕ, ⊤, List, Some, None, Option, Result, Ok, Err, length, slice_get}
use Rattle.std.specs.List.{Contains}
use Rattle.base_files.specs.Packages.{package_paths}
use Rattle.base_files.specs.declared.refusal.Refusal.{Refusal}
use Rattle.base_files.specs.declared.refusal.Refusal.TheVariants.{Memory, Moved}
use Rattle.build_unit.specs.Builds.{unit_result}
use Rattle.build_unit.specs.declared.unit.Unit.{Unit as PackageUnit}
use Rattle.build_carry.specs.Finished.{Table}
use Rattle.history_machine.specs.declared.seen_state.SeenState.{SeenState}
use Rattle.history_machine.specs.declared.view.View.{View}
use Rattle.history_objects.specs.declared.comparing.ComparedObject.{ComparedObject}
use Rattle.history_objects.specs.declared.comparing.ObjectChange.{ObjectChange}
use Rattle.history_objects.specs.declared.comparing.ObjectChange.TheVariants.{Equal, Differs, Missing}

-- the package of this number is finished, and this is the text of its object
abbrev pub HasObjectAt : Table → (number : ℕ) → (text : List ℕ) → Type 0
HasObjectAt table number text = (unit : PackageUnit) × (slice_get table number ≡ Some (Some unit)) × (unit_result unit ≡ Ok text)

-- The package of this path is finished, and this is the text of its object. `paths` are the paths of all packages, by number.
abbrev pub HasObjectIn : (paths : List (List ℕ)) → Table → (path text : List ℕ) → Type 0
HasObjectIn paths table path text = (number : ℕ) × (slice_get paths number ≡ Some path) × HasObjectAt table number text

-- the package of this path has no object: it is not there, it is not finished, or it has faults
abbrev pub HasNoObjectIn : (paths : List (List ℕ)) → Table → (path : List ℕ) → Type 0
HasNoObjectIn paths table path = (text : List ℕ) → HasObjectIn paths table path text → ⊥

-- the text of the object of the package of this number, the only one, or none if it has no object
abbrev pub FindsObjectAt : Table → (number : ℕ) → Option (List ℕ) → Type 0
FindsObjectAt table number None = (text : List ℕ) → HasObjectAt table number text → ⊥
FindsObjectAt table number (Some text) = HasObjectAt table number text × ((other : List ℕ) → HasObjectAt table number other → text ≡ other)

-- the text of the object of the package of this path, the only one, or none if it has no object
abbrev pub FindsObjectIn : (paths : List (List ℕ)) → Table → (path : List ℕ) → Option (List ℕ) → Type 0
FindsObjectIn paths table path None = HasNoObjectIn paths table path
FindsObjectIn paths table path (Some text) = HasObjectIn paths table path text × ((other : List ℕ) → HasObjectIn paths table path other → text ≡ other)

-- the text of the object of the package in the state that the view shows as current
abbrev pub HasObjectNow : View → (path text : List ℕ) → Type 0
HasObjectNow view path text = HasObjectIn (package_paths view.snapshot.files) view.finished path text

-- the text of the object of the package in a state of the history
abbrev pub HadObject : SeenState → (path text : List ℕ) → Type 0
HadObject before path text = HasObjectIn before.packages before.finished path text

-- How the object of the package in the view's current state compares with that in the state `before`. It is equal where both have this
-- text, and differs where the current state has one that `before` has not.
abbrev pub HasChange : (before : SeenState) → View → (path : List ℕ) → ObjectChange → Type 0
HasChange before view path Missing = HasNoObjectIn (package_paths view.snapshot.files) view.finished path
HasChange before view path Equal = (text : List ℕ) × HasObjectNow view path text × HadObject before path text
HasChange before view path Differs = (text : List ℕ) × HasObjectNow view path text × (HadObject before path text → ⊥)

-- the package p of the view's files, and how its object compares with that in the state `before`
abbrev pub IsComparedObject : (before : SeenState) → View → (p : List ℕ) → ComparedObject → Type 0
IsComparedObject before view p one = (one.package ≡ p) × HasChange before view p one.change

-- each of these is the package of its place in the view's files, with how its object compares
abbrev pub AreComparedObjects : (before : SeenState) → View → List ComparedObject → Type 0
AreComparedObjects before view list = (n : ℕ) (p : List ℕ) (one : ComparedObject) → slice_get (package_paths view.snapshot.files) n ≡ Some p →
    slice_get list n ≡ Some one → IsComparedObject before view p one

-- all packages of the view's files in their order, each with how its object compares with that in the state `before`
abbrev pub ComparesObjects : (before : SeenState) → View → List ComparedObject → Type 0
ComparesObjects before view list = (length list ≡ length (package_paths view.snapshot.files)) × AreComparedObjects before view list

-- the state has this number, and is one of these
abbrev pub IsStateNumbered : List SeenState → ℕ → SeenState → Type 0
IsStateNumbered states number s = Contains states s × (s.number ≡ number)

-- The objects of all packages of the view, compared with those of a state of this number. It is refused where none of these states has it,
-- or for want of memory.
abbrev pub ComparesWith : List SeenState → View → (basis : ℕ) → Result (List ComparedObject) Refusal → Type 0
ComparesWith states view basis (Ok list) = (s : SeenState) × IsStateNumbered states basis s × ComparesObjects s view list
ComparesWith states view basis (Err (Moved current)) = ((s : SeenState) → IsStateNumbered states basis s → ⊥) × (current ≡ view.snapshot.number)
ComparesWith states view basis (Err Memory) = ⊤
ComparesWith states view basis (Err refusal) = ⊥
