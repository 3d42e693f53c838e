-- Which call of JSON-RPC a value makes.
use Rattle.std.specs.Prelude.{ℕ, ◌≡◌, ◌&&◌, ◌||◌, ◌==◌, Bool, true, false, not, List}
use Rattle.std.specs.Prelude.{codes, Option, None, Some, is_some, option_and_then, option_map, if◌then◌else◌, unwrap_or, ⊤, IsUtf8}
use Rattle.std.specs.Borrow.{Bor}
use Rattle.std.specs.Cmp.Lexicographic.{pointwise}
use Rattle.serde_json.specs.Data.{Data}
use Rattle.serde_json.specs.Find.{as_array, as_null, as_number, as_object, as_str, get, is_float}
use Rattle.serde_json.specs.Read.{read}
use Rattle.serde_json.specs.View.{view}
use Rattle.serde_json.specs.declared.value.Value.{Value}
use Rattle.lsp_message.specs.declared.calls.BodyFault.{BodyFault}
use Rattle.lsp_message.specs.declared.calls.BodyFault.TheVariants.{Memory, NotJson}
use Rattle.lsp_message.specs.declared.calls.Call.{Call}
use Rattle.lsp_message.specs.declared.calls.Call.TheVariants as calls

-- Why a body gives no value: it is no UTF-8 or no JSON, or memory was wanting.
abbrev pub FailsToRead : List ℕ → BodyFault → Type 0
FailsToRead body NotJson = IsUtf8 body → read body ≡ None
FailsToRead body Memory = ⊤

-- A call as data.
pub data Made : Type 0 where
  request : (id : Data) → (method : List ℕ) → (params : Option Data) → Made
  notification : (method : List ℕ) → (params : Option Data) → Made
  answer : (id result : Option Data) → Made
  malformed : (id : Option Data) → Made

abbrev pub viewed : Option (Bor Value) → Option Data
viewed = option_map (λ (value : Bor Value). view value.now)

abbrev pub call_view : Call → Made
call_view (calls.Request id method params) = request (view id.now) method.now (viewed params)
call_view (calls.Notification method params) = notification method.now (viewed params)
call_view (calls.Answer id result) = answer (viewed id) (viewed result)
call_view (calls.Malformed id) = malformed (viewed id)

abbrev pub named_member : List ℕ → Data → Option Data
named_member name value = get name value

-- An id is a string or an integer.
abbrev pub is_id : Data → Bool
is_id value = is_some (as_str value) || (is_some (as_number value) && not (unwrap_or (option_map is_float (as_number value)) false))

-- The value, if it can be an id.
abbrev pub if_id : Data → Option Data
if_id value = if is_id value then Some value else None

-- The id of a value, where it is a legal one.
abbrev pub legal_id : Data → Option Data
legal_id value = option_and_then if_id (named_member (codes "id") value)

-- Whether the text is the version of JSON-RPC.
abbrev pub is_version : Option (List ℕ) → Bool
is_version (Some text) = pointwise ◌==◌ text (codes "2.0")
is_version None = false

-- Whether the value says that it is of JSON-RPC 2.0.
abbrev pub names_version : Data → Bool
names_version value = is_version (option_and_then as_str (named_member (codes "jsonrpc") value))

-- Parameters are an array or an object; `null` stands for none.
abbrev pub is_legal_params : Data → Bool
is_legal_params value = is_some (as_null value) || is_some (as_array value) || is_some (as_object value)

abbrev legal_or_none : Option Data → Bool
legal_or_none (Some value) = is_legal_params value
legal_or_none None = true

-- Whether the value has legal parameters or none.
abbrev pub has_legal_params : Data → Bool
has_legal_params value = legal_or_none (named_member (codes "params") value)

-- The value, if it is not `null`.
abbrev pub unless_null : Data → Option Data
unless_null value = if is_some (as_null value) then None else Some value

-- The parameters of a call, if it has some.
abbrev pub params_of : Data → Option Data
params_of value = option_and_then unless_null (named_member (codes "params") value)

-- The call with an id, if there is one: a request has a legal one, and a notification none.
abbrev pub asked_with : List ℕ → Data → Option Data → Made
asked_with method value (Some id) = if is_id id then request id method (params_of value) else malformed None
asked_with method value None = notification method (params_of value)

-- The call of a value with this method.
abbrev pub asked : List ℕ → Data → Made
asked method value = asked_with method value (named_member (codes "id") value)

-- The call of a value without a method: an answer has a result or an error.
abbrev pub unasked : Data → Made
unasked value =
    if is_some (named_member (codes "result") value) || is_some (named_member (codes "error") value)
    then answer (legal_id value) (named_member (codes "result") value)
    else malformed (legal_id value)

-- The call of a value whose method is this text, if it is one.
abbrev pub asked_by : Data → Option (List ℕ) → Made
asked_by value (Some method) = asked method value
asked_by value None = malformed (legal_id value)

abbrev pub shape_with : Data → Option Data → Made
shape_with value (Some method) = asked_by value (as_str method)
shape_with value None = unasked value

-- The call of a value whose version and parameters are legal.
abbrev pub shaped_call : Data → Made
shaped_call value = shape_with value (named_member (codes "method") value)

-- Which call a value makes.
abbrev pub call_made : Data → Made
call_made value = if names_version value && has_legal_params value then shaped_call value else malformed (legal_id value)
