-- The data of a message as it stands on UART, RS485 and CSP (document 01, "The two serial links"): what tells the error, then the payload.
use Rattle.std.specs.Prelude.{ℕ, List, [], ◌∷◌, ◌++◌, length, get_or, take, drop, None, Option, Some}
use Rattle.message_rules.specs.Answer.{Answer, given, after}
use Rattle.message_rules.specs.Checks.{data_checks}
use Rattle.message_rules.specs.Kinds.{error_length, error_fields_carried}
use Rattle.message_rules.specs.declared.Kind.{Kind}
use Rattle.message_rules.specs.declared.Message.{Message}

-- The error byte's number. A link that carries it never writes "not told", for which 0 stands here.
abbrev pub error_number : Option ℕ → ℕ
error_number (Some e) = e
error_number None = 0

-- Of the error byte and the index, those that the kind carries.
unfoldable pub error_bytes : Message → List ℕ
error_bytes m = take (error_length m.kind) (error_number m.error ∷ m.index ∷ [])

-- Writing: the data of a message with its payload.
unfoldable pub data_bytes : Message → List ℕ → List ℕ
data_bytes m p = error_bytes m ++ p

-- The message of a kind, an ID, addresses and data.
unfoldable pub data_message : Kind → ℕ → ℕ → ℕ → List ℕ → Message
data_message k id s t d =
    error_fields_carried (record { kind = k; id = id; source = s; destination = t; error = Some (get_or d 0 0); index = get_or d 1 0 })

-- Reading: 5, 6, 7, then the message and its payload.
unfoldable pub data_read : Kind → ℕ → ℕ → ℕ → List ℕ → Answer Message (List ℕ)
data_read k id s t d =
    let m = data_message k id s t d in
    after (data_checks m (length d)) (given m (drop (error_length k) d))
