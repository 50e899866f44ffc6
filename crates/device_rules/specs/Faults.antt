-- Why a command is not carried out (document 01, "The unit", its table): error byte and error index of each reason, first that applies.
use Rattle.file_rules.specs.declared.Announcement.{Announcement}
use Rattle.std.specs.Prelude.{ℕ, ◌+◌, ◌-◌, ◌%◌, Bool, true, false, cond, not, ◌&&◌, ◌||◌, List, ltb, eqb, length, None, Option, Some}
use Rattle.little_endian_rules.specs.LittleEndian.{from_bytes}
use Rattle.file_rules.specs.File.{size_legal}
use Rattle.file_rules.specs.Setup.{setup_read, is_job}
use Rattle.device_rules.specs.Device.{is_idle, is_open, is_finished, buffered_frame}
use Rattle.device_rules.specs.declared.Device.{Device}
use Rattle.device_rules.specs.declared.Transfer.{Transfer}
use Rattle.device_rules.specs.declared.Fault.{Fault}
use Rattle.device_rules.specs.declared.Fault.TheVariants.{Repeat, Nack}

-- One reason in front of those that follow it, with its error byte and its error index.
unfoldable pub fault : ℕ → ℕ → Bool → Option Fault → Option Fault
fault e i true rest = Some (Nack e i)
fault e i false rest = rest

-- Document 02, ticket 5: "A setup that repeats the open job's number and size". The record's open job decides, whatever the phase is.
unfoldable pub is_repeat : Transfer → ℕ → ℕ → Bool
is_repeat t size number = is_job t.job number && eqb size t.size

-- Document 02, ticket 5: "setup order becomes 2 length, ack for the repeat, 6 pending, 7 open, 7 finished job again, 3 size"; document 01: "3 size 0, above
-- the store or above 16,776,960". The store is the one lent to the call, of this many bytes.
unfoldable pub setup_fault : Device → ℕ → Option Announcement → Option Fault
setup_fault d store None = Some (Nack 2 0)
setup_fault d store (Some s) =
    cond (is_repeat d.transfer s.size s.number) (Some Repeat)
    (fault 6 0 d.transfer.pending
    (fault 7 0 (is_open d.transfer.phase)
    (fault 7 0 (is_job d.finished s.number)
    (fault 3 0 (not (size_legal s.size) || ltb store s.size)
    None))))

-- Document 02, ticket 1: "the one last stored (in this transfer, never 0xFFFF)". It is the unit's number, which is 0xFFFF until this transfer
-- has stored a frame.
unfoldable pub is_last_stored : Transfer → ℕ → Bool
is_last_stored t number = eqb number t.number && not (eqb number 0xFFFF)

-- "Number 0xFFFF or not the next."
unfoldable pub is_out_of_sequence : Transfer → ℕ → Bool
is_out_of_sequence t number = eqb number 0xFFFF || not (eqb number ((t.number + 1) % 65536))

-- "21 take frame | number, 2 bytes | 2 length; 7 idle; 6 pending; 3 finished, or number 0xFFFF or not the next; 7 buffer empty; 3 buffer
-- above what remains." Document 02, ticket 1: "In a take-frame nack 3 the error index becomes the first that applies: 2, the transfer is
-- finished; 1, the number is the one last stored (in this transfer, never 0xFFFF); 3, the number is 0xFFFF or not the next; 4, the buffered
-- frame is longer than what remains."
unfoldable pub take_fault : Transfer → List ℕ → Option Fault
take_fault t p =
    fault 2 0 (not (eqb (length p) 2))
    (fault 7 0 (is_idle t.phase)
    (fault 6 0 t.pending
    (fault 3 2 (is_finished t.phase)
    (fault 3 1 (is_last_stored t (from_bytes p))
    (fault 3 3 (is_out_of_sequence t (from_bytes p))
    (fault 7 0 (eqb (length (buffered_frame t)) 0)
    (fault 3 4 (ltb (t.size - t.stored) (length (buffered_frame t)))
    None)))))))

-- "22 frame | 1..256 bytes | 2 length; 7 idle or finished; 6 pending."
unfoldable pub frame_fault : Transfer → List ℕ → Option Fault
frame_fault t p =
    fault 2 0 (eqb (length p) 0 || ltb 256 (length p))
    (fault 7 0 (not (is_open t.phase))
    (fault 6 0 t.pending
    None))

-- "23 cancel | none | 2 length."
unfoldable pub cancel_fault : List ℕ → Option Fault
cancel_fault p = fault 2 0 (not (eqb (length p) 0)) None

-- "Any other ID: error 1." "All other nacks keep index 0" (document 02, ticket 1).
unfoldable pub command_fault : Device → ℕ → ℕ → List ℕ → Option Fault
command_fault d store id p =
    cond (eqb id 20) (setup_fault d store (setup_read p))
    (cond (eqb id 21) (take_fault d.transfer p)
    (cond (eqb id 22) (frame_fault d.transfer p)
    (cond (eqb id 23) (cancel_fault p)
    (Some (Nack 1 0)))))
