-- What a scan of CAN frames measures (document 01, "CAN and CSP" and "Refusal numbers"): the number, or how many bytes are left of the input
-- after the frames and how many their payload has.
use Rattle.std.specs.Prelude.{ℕ, List, length, Result, Ok, Err}
use Rattle.message_rules.specs.Answer.{Answer, refused, given, refusal_number}
use Rattle.message_rules.specs.declared.Refusal.{Refusal}
use Rattle.can_scan.specs.declared.Whole.{Whole}

unfoldable pub measured : Answer (List ℕ) (List ℕ) → Answer ℕ ℕ
measured (refused n) = refused n
measured (given rest p) = given (length rest) (length p)

unfoldable pub frames_result : Result Whole Refusal → Answer ℕ ℕ
frames_result (Err r) = refused (refusal_number r)
frames_result (Ok w) = given w.rest w.size
