-- What the code's answer to bytes that arrive says (document 01, "Forms we want to see": "this paper's number and values for each case"), and the unit afterwards.
use Rattle.std.specs.Prelude.{ℕ, List, Option, Some, None, Result, Ok, Err}
use Rattle.message_rules.specs.declared.Refusal.{Refusal}
use Rattle.message_rules.specs.Answer.{Answer, refused, given, refusal_number}
use Rattle.device_rules.specs.declared.Device.{Device}
use Rattle.device_rules.specs.Receive.{Reply, answers, silent}

-- Silence too says what the unit is then: it may have carried out a broadcast (document 02, ticket 2).
unfoldable pub receive_result : Result (Option ℕ) Refusal → Device → Answer Reply ℕ
receive_result (Ok (Some n)) d = given (answers d) n
receive_result (Ok None) d = given (silent d) 0
receive_result (Err r) d = refused (refusal_number r)

-- "The call gives 8, and unit and store stay as before."
unfoldable pub after_receive : Device → Answer Reply (List ℕ) → Device
after_receive d (refused n) = d
after_receive d (given (answers d') b) = d'
after_receive d (given (silent d') b) = d'
