-- The work step (document 01, "The unit"): the unit afterwards, and the bytes that go after what is stored.
use Rattle.std.specs.Prelude.{ℕ, ◌+◌, ◌%◌, Bool, false, cond, ◌&&◌, List, [], ◌++◌, leb, eqb, length, take, drop, None, Option, Some}
use Rattle.message_rules.specs.Answer.{Answer, refused, given, passed, require, after}
use Rattle.device_rules.specs.Device.{buffered_frame, empty_buffer}
use Rattle.device_rules.specs.declared.Device.{Device}
use Rattle.device_rules.specs.declared.Transfer.{Transfer}
use Rattle.device_rules.specs.declared.Phase.TheVariants.{Finished}

-- The pending frame is the last: "the size is reached" with it.
unfoldable pub is_last_frame : Transfer → Bool
is_last_frame t = eqb (t.stored + length (buffered_frame t)) t.size

-- "Stores a pending frame after what is stored, raises the number by one (after 0xFFFF comes 0, in sixteen bits), empties the buffer, and
-- finishes when the size is reached." Document 02, ticket 5: "and none is open then".
unfoldable pub frame_stored : Transfer → Transfer
frame_stored t =
    record {
      phase = cond (is_last_frame t) Finished t.phase;
      number = (t.number + 1) % 65536;
      buffer = empty_buffer;
      buffered = 0;
      pending = false;
      size = t.size;
      stored = t.stored + length (buffered_frame t);
      job = cond (is_last_frame t) None t.job;
    }

-- "Storing the last frame makes the open job the last finished one" (document 02, ticket 5). With none open the last finished one stays.
unfoldable pub finished_job : Option ℕ → Option ℕ → Option ℕ
finished_job None last = last
finished_job (Some n) last = Some n

-- The unit once its pending frame is stored.
unfoldable pub unit_stored : Device → Device
unit_stored d =
    record {
      link = d.link;
      own = d.own;
      transfer = frame_stored d.transfer;
      finished = cond (is_last_frame d.transfer) (finished_job d.transfer.job d.finished) d.finished;
    }

-- 8: "if a frame is pending and the store is shorter than the size". No call leaves a pending frame that ends past the size; in such a state it
-- is 8 too, so that no byte past the size is written.
unfoldable pub has_room : Transfer → ℕ → Bool
has_room t store = leb t.size store && leb (t.stored + length (buffered_frame t)) t.size

-- "With nothing pending it does nothing." With a store of so many bytes lent.
unfoldable pub work : Device → ℕ → Answer Device (List ℕ)
work d store =
    cond d.transfer.pending
    (after (require (has_room d.transfer store) 8 passed) (given (unit_stored d) (buffered_frame d.transfer)))
    (given d [])

-- "Nothing but storing changes a byte of the store": the bytes go after what was stored.
unfoldable pub store_after : Device → Answer Device (List ℕ) → List ℕ → List ℕ
store_after d (refused n) s = s
store_after d (given d' b) s = take d.transfer.stored s ++ (b ++ drop (d.transfer.stored + length b) s)

-- The unit alone, without the bytes.
unfoldable pub without_bytes : Answer Device (List ℕ) → Answer Device Unit
without_bytes (refused n) = refused n
without_bytes (given d b) = given d tt

-- The unit afterwards. "Nothing moves" where it is refused.
unfoldable pub after_work : Device → Answer Device (List ℕ) → Device
after_work d (refused n) = d
after_work d (given d' b) = d'
