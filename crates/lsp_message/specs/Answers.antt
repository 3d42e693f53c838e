-- The values of answers, and of calls that the server makes.
use Rattle.std.specs.Prelude.{ℕ, ℤ, negsuc, List, codes, Option, None, Some}
use Rattle.serde_json.specs.Data.{Data, null, negative, number, string, object, no_members, member, unsigned}
use Rattle.lsp_message.specs.declared.answers.ErrorCode.{ErrorCode}
use Rattle.lsp_message.specs.declared.answers.ErrorCode.TheVariants.{ParseError, InvalidRequest, MethodNotFound}
use Rattle.lsp_message.specs.declared.answers.ErrorCode.TheVariants.{InvalidParams, InternalError, ServerNotInitialized, RequestFailed}

-- The number of an error: one below zero for each of these is `negsuc` of one less.
abbrev pub error_code : ErrorCode → ℤ
error_code ParseError = negsuc 32699
error_code InvalidRequest = negsuc 32599
error_code MethodNotFound = negsuc 32600
error_code InvalidParams = negsuc 32601
error_code InternalError = negsuc 32602
error_code ServerNotInitialized = negsuc 32001
error_code RequestFailed = negsuc 32802

-- The id of an answer: `null` where the request has none.
abbrev pub id_value : Option Data → Data
id_value (Some id) = id
id_value None = null

-- The answer to a request with this id that has this result.
abbrev pub result_answer : (id outcome : Data) → Data
result_answer id outcome =
    object (member (codes "id") id (member (codes "jsonrpc") (string (codes "2.0")) (member (codes "result") outcome no_members)))

-- What an answer says of an error.
abbrev pub error_value : ErrorCode → List ℕ → Data
error_value code message = object (member (codes "code") (number (negative (error_code code))) (member (codes "message") (string message) no_members))

-- The answer to a request that fails.
abbrev pub error_answer : Option Data → ErrorCode → List ℕ → Data
error_answer id code message =
    object (member (codes "error") (error_value code message)
    (member (codes "id") (id_value id) (member (codes "jsonrpc") (string (codes "2.0")) no_members)))

-- A notification of the server.
abbrev pub notification_value : List ℕ → Data → Data
notification_value method params =
    object (member (codes "jsonrpc") (string (codes "2.0")) (member (codes "method") (string method) (member (codes "params") params no_members)))

-- A request of the server.
abbrev pub request_value : ℕ → List ℕ → Data → Data
request_value id method params =
    object (member (codes "id") (number (unsigned id)) (member (codes "jsonrpc") (string (codes "2.0"))
    (member (codes "method") (string method) (member (codes "params") params no_members))))
