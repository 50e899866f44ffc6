-- CAN frame records (document 01, "CAN and CSP"): "The driver in our box also takes the series as a lent list of frame records, filled from
-- the same rule with the same refusals, a one-frame message as one record; records past the last one stay unchanged."
use Rattle.std.specs.Prelude.{ℕ, zero, suc, ◌/◌, cond, List, [], ◌∷◌, ◌++◌, leb, length, get_or, take, drop}
use Rattle.little_endian_rules.specs.LittleEndian.{from_bytes}
use Rattle.message_rules.specs.Answer.{Answer, refused, given}
use Rattle.message_rules.specs.declared.Message.{Message}
use Rattle.can_rules.specs.Can.{frame_size, data_size, can_write}
use Rattle.can_rules.specs.declared.CanFrame.{CanFrame}

-- "A CAN frame is kept as 13 bytes: identifier (4), DLC, eight data bytes": the record of the 13 bytes at the start of b.
unfoldable pub record_of : List ℕ → CanFrame
record_of b = record { identifier = from_bytes (take 4 b); dlc = get_or b 4 0; «data» = take data_size (drop 5 b) }

-- The records of so many frames, 13 bytes each.
unfoldable pub records_of : ℕ → List ℕ → List CanFrame
records_of zero b = []
records_of (suc n) b = record_of b ∷ records_of n (drop frame_size b)

-- "Filled from the same rule with the same refusals": what the 13-byte form is, in records.
unfoldable pub in_records : Answer Unit (List ℕ) → Answer Unit (List CanFrame)
in_records (refused n) = refused n
in_records (given a b) = given a (records_of (length b / frame_size) b)

unfoldable pub records_write : Message → List ℕ → Answer Unit (List CanFrame)
records_write m p = in_records (can_write m p)

-- 8: the lent list has fewer records than the answer. It is looked at last.
unfoldable pub fitting : ℕ → Answer Unit (List CanFrame) → Answer Unit (List CanFrame)
fitting room (refused n) = refused n
fitting room (given a r) = cond (leb (length r) room) (given a r) (refused 8)

-- What the caller is told: the number, or how many records there are.
unfoldable pub records_counted : Answer Unit (List CanFrame) → Answer Unit ℕ
records_counted (refused n) = refused n
records_counted (given a r) = given a (length r)

-- The lent list afterwards: as it came on a refusal; else the records, and "records past the last one stay unchanged".
unfoldable pub filled : Answer Unit (List CanFrame) → List CanFrame → List CanFrame
filled (refused n) frames = frames
filled (given a r) frames = r ++ drop (length r) frames
