-- What the unit does with bytes that arrive (document 01, "The unit").
use Rattle.std.specs.Prelude.{ℕ, cond, List, [], ◌∷◌, ◌++◌, eqb, length, Some, None, Option}
use Rattle.message_rules.specs.Answer.{Answer, refused, given, about}
use Rattle.message_rules.specs.declared.Kind.{Kind}
use Rattle.message_rules.specs.declared.Kind.TheVariants as KindOf
use Rattle.message_rules.specs.Kinds.{is_telecommand}
use Rattle.message_rules.specs.declared.Message.{Message}
use Rattle.little_endian_rules.specs.LittleEndian.{to_bytes}
use Rattle.file_rules.specs.Checksum.{checksum}
use Rattle.link_rules.specs.Link.{link_read, link_write}
use Rattle.link_rules.specs.declared.Link.{Link}
use Rattle.link_rules.specs.declared.Link.TheVariants.{Uart, Rs485, Can, Csp}
use Rattle.device_rules.specs.Device.{is_finished, buffered_frame}
use Rattle.device_rules.specs.declared.Addressing.{Addressing}
use Rattle.device_rules.specs.declared.Addressing.TheVariants.{Own, Broadcast, Other}
use Rattle.device_rules.specs.declared.Device.{Device}
use Rattle.device_rules.specs.declared.Transfer.{Transfer}
use Rattle.device_rules.specs.Faults.{command_fault}
use Rattle.device_rules.specs.declared.Fault.{Fault}
use Rattle.device_rules.specs.declared.Fault.TheVariants.{Repeat, Nack}
use Rattle.device_rules.specs.Commands.{after_command}

-- The unit after a call that was not refused: it answers, or it is silent, and either way it may have changed.
pub data Reply : Type 0 where
  answers : Device → Reply
  silent : Device → Reply

-- "On RS485 a message for the unit's own address [..] is taken"; 0 "is reserved for broadcast messages" (document 001, 2.4; document 02, ticket 2,
-- says what becomes of one); "others are passed over". "On CAN and CSP every message is the unit's", and on UART, which has no addresses.
unfoldable pub addressing : Link → ℕ → Message → Addressing
addressing Uart own m = Own
addressing Rs485 own m = cond (eqb m.destination 0) Broadcast (cond (eqb m.destination own) Own Other)
addressing Can own m = Own
addressing Csp own m = Own

-- "Answered from its own address to the request's source"; "a CAN answer has the request's two addresses exchanged". Where the link has no
-- addresses both are 0.
unfoldable pub answer_source : Link → ℕ → Message → ℕ
answer_source Uart own m = m.destination
answer_source Rs485 own m = own
answer_source Can own m = m.destination
answer_source Csp own m = m.destination

-- An answer to a request: of a kind, with an error byte and an index.
unfoldable pub answer_to : Device → Message → Kind → ℕ → ℕ → Message
answer_to d m k e i =
    record { kind = k; id = m.id; source = answer_source d.link d.own m; destination = m.source; error = Some e; index = i }

-- "Frame info answers seven bytes: number, buffered size, checksum, each 2 bytes, then flags: bit 0 set when finished." The checksum "replaces the
-- sum in frame info" (document 02, ticket 6).
unfoldable pub info_bytes : Transfer → List ℕ
info_bytes t =
    to_bytes 2 t.number ++ (to_bytes 2 (length (buffered_frame t)) ++ (to_bytes 2 (checksum (buffered_frame t)) ++ (cond (is_finished t.phase) 1 0 ∷ [])))

-- No answer, and the unit as it is then: no bytes, so it is never refused.
abbrev pub silence : Device → Answer Reply (List ℕ)
silence d = given (silent d) []

-- A nack with the fault, or an ack, which a repeated setup gets too.
unfoldable pub command_answer : Device → Message → Option Fault → Message
command_answer d m None = answer_to d m KindOf.TelecommandAck 0 0
command_answer d m (Some Repeat) = answer_to d m KindOf.TelecommandAck 0 0
command_answer d m (Some (Nack e i)) = answer_to d m KindOf.TelecommandNack e i

-- The answer to a command, with the unit as the command leaves it.
unfoldable pub command_reply : Device → Message → List ℕ → Option Fault → Answer Reply (List ℕ)
command_reply d m p f = about (answers (after_command d m.id p f)) (link_write d.link (command_answer d m f) [])

-- What a telecommand comes to, while a store of so many bytes is lent: its fault is the table's.
abbrev pub telecommand_reply : Device → ℕ → Message → List ℕ → Answer Reply (List ℕ)
telecommand_reply d store m p = command_reply d m p (command_fault d store m.id p)

-- "150 frame info | request | never." "Any other ID: error 1." "All other nacks keep index 0" (document 02, ticket 1).
unfoldable pub telemetry_reply : Device → Message → Answer Reply (List ℕ)
telemetry_reply d m =
    cond (eqb m.id 150)
    (about (answers d) (link_write d.link (answer_to d m KindOf.TelemetryResponse 0 0) (info_bytes d.transfer)))
    (about (answers d) (link_write d.link (answer_to d m KindOf.TelemetryNack 1 0) []))

-- "Kinds other than tc and tlmreq get no answer."
unfoldable pub kind_reply : Kind → Device → ℕ → Message → List ℕ → Answer Reply (List ℕ)
kind_reply KindOf.Telecommand d store m p = telecommand_reply d store m p
kind_reply KindOf.TelecommandAck d store m p = silence d
kind_reply KindOf.TelecommandNack d store m p = silence d
kind_reply KindOf.TelemetryRequest d store m p = telemetry_reply d m
kind_reply KindOf.TelemetryResponse d store m p = silence d
kind_reply KindOf.TelemetryNack d store m p = silence d
kind_reply KindOf.Event d store m p = silence d

-- "A broadcast telecommand is carried out [..], and a broadcast telemetry request is passed over" (document 02, ticket 2), as are the kinds that get
-- no answer anyway. A telecommand with a fault changes nothing, as ever.
unfoldable pub after_broadcast : Device → ℕ → Message → List ℕ → Device
after_broadcast d store m p = cond (is_telecommand m.kind) (after_command d m.id p (command_fault d store m.id p)) d

-- A message that is the unit's is answered by its kind. A broadcast "gets no answer", whatever it did. "Others are passed over in silence."
unfoldable pub addressed_reply : Addressing → Device → ℕ → Message → List ℕ → Answer Reply (List ℕ)
addressed_reply Own d store m p = kind_reply m.kind d store m p
addressed_reply Broadcast d store m p = silence (after_broadcast d store m p)
addressed_reply Other d store m p = silence d

-- "Unreadable bytes get no answer."
unfoldable pub message_reply : Device → ℕ → Answer Message (List ℕ) → Answer Reply (List ℕ)
message_reply d store (refused n) = silence d
message_reply d store (given m p) = addressed_reply (addressing d.link d.own m) d store m p

-- Bytes arrive while a store of so many bytes is lent. The 8 comes with the lent output.
unfoldable pub receive : Device → ℕ → List ℕ → Answer Reply (List ℕ)
receive d store b = message_reply d store (link_read d.link b)
