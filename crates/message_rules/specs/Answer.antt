-- The shape of every answer (document 01, "Refusal numbers"): refused with a number and every lent byte as it was, or bytes over
-- the start of the lent output and the rest as it was. One set of definitions for every reader and writer of every link.
use Rattle.std.specs.Prelude.{ℕ, Bool, true, false, List, ◌++◌, leb, length, drop, Result, Ok, Err}
use Rattle.message_rules.specs.declared.Message.{Message}
use Rattle.message_rules.specs.declared.Refusal.{Refusal}
use Rattle.message_rules.specs.declared.Refusal.TheVariants.{Truncated, UnknownStart, BrokenEscape, TrailingBytes, IdOutOfRange, WrongLength, IllegalValue, OutputTooShort, NotWritable, SeriesMismatch, IllegalFileSize, PartialRecord, IllegalMilliseconds, LogTooLong}

-- "Refusal numbers": the table's number of each refusal; from 12 on, those of document 02's requests.
abbrev pub refusal_number : Refusal → ℕ
refusal_number Truncated = 1
refusal_number UnknownStart = 2
refusal_number BrokenEscape = 3
refusal_number TrailingBytes = 4
refusal_number IdOutOfRange = 5
refusal_number WrongLength = 6
refusal_number IllegalValue = 7
refusal_number OutputTooShort = 8
refusal_number NotWritable = 9
refusal_number SeriesMismatch = 10
refusal_number IllegalFileSize = 11
refusal_number PartialRecord = 12
refusal_number IllegalMilliseconds = 13
refusal_number LogTooLong = 14

-- What the checks of an input come to: the first that fails gives its number.
pub data Check : Type 0 where
  passed : Check
  failed : ℕ → Check

-- One check in front of those that follow it.
unfoldable pub require : Bool → ℕ → Check → Check
require true n rest = rest
require false n rest = failed n

-- Refused with a number, or a value together with bytes (or with their count, where B is ℕ).
pub data Answer (A B : Type 0) : Type 0 where
  refused : ℕ → Answer A B
  given : A → B → Answer A B

-- The answer where the checks pass.
unfoldable pub after : {A B : Type 0} → Check → Answer A B → Answer A B
after passed a = a
after (failed n) a = refused n

module _ {A : Type 0} where
  -- 8: the lent output is shorter than the answer. It is looked at last.
  unfoldable pub within : List ℕ → Answer A (List ℕ) → Answer A (List ℕ)
  unfolding require after
  within out (refused n) = refused n
  within out (given a b) = after (require (leb (length b) (length out)) 8 passed) (given a b)

  -- What the caller is told: the number, or the value and how many bytes there are.
  unfoldable pub counted : Answer A (List ℕ) → Answer A ℕ
  counted (refused n) = refused n
  counted (given a b) = given a (length b)

  -- The lent output afterwards: as it came on a refusal; else the bytes, and past them what was there.
  unfoldable pub output_after : Answer A (List ℕ) → List ℕ → List ℕ
  output_after (refused n) out = out
  output_after (given a b) out = b ++ drop (length b) out

-- The value beside a verdict: the one given, or on a refusal the one that stands in for it.
unfoldable pub value_after : {A : Type 0} → A → Answer A Unit → A
value_after none (refused n) = none
value_after none (given a u) = a

-- The same answer about something else: its refusal, or its bytes, stay.
unfoldable pub about : {A A' B : Type 0} → A' → Answer A B → Answer A' B
about a (refused n) = refused n
about a (given a' b) = given a b

-- A writer's answer has no value beside its bytes.
abbrev pub written : List ℕ → Answer Unit (List ℕ)
written b = given tt b

-- The documents' number and values for each case of the code's answers (document 01, "Forms we want to see": "this paper's number and values for
-- each case").
unfoldable pub verdict_result : Result Unit Refusal → Check
verdict_result (Ok u) = passed
verdict_result (Err r) = failed (refusal_number r)

-- A value, or a refusal with no value.
unfoldable pub value_result : {A : Type 0} → Result A Refusal → Answer A Unit
value_result (Ok a) = given a tt
value_result (Err r) = refused (refusal_number r)

-- A message, and the length of its payload.
unfoldable pub read_result : Result (Message × ℕ) Refusal → Answer Message ℕ
read_result (Ok (m, n)) = given m n
read_result (Err r) = refused (refusal_number r)

unfoldable pub write_result : Result ℕ Refusal → Answer Unit ℕ
write_result (Ok n) = given tt n
write_result (Err r) = refused (refusal_number r)
