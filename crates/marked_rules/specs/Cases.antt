-- Document 01, "Marked cases": P1 to P12 as a list, and the one statement that all of them hold.
use Rattle.std.specs.Prelude.{ℕ, ◌+◌, ◌-◌, ◌*◌, true, List, [], ◌∷◌, ◌++◌, ◌≡◌, length, get_or, take, replicate, None, Some}
use Rattle.little_endian_rules.specs.LittleEndian.{from_bytes}
use Rattle.message_rules.specs.Answer.{refused, given, written}
use Rattle.message_rules.specs.declared.Kind.{Kind}
use Rattle.message_rules.specs.declared.Kind.TheVariants.{Telecommand, TelecommandAck, TelecommandNack, TelemetryRequest}
use Rattle.message_rules.specs.declared.Message.{Message}
use Rattle.can_rules.specs.Can.{can_write}
use Rattle.csp_rules.specs.Csp.{csp_read}
use Rattle.serial_rules.specs.Frames.{frame_read, frame_write}
use Rattle.serial_rules.specs.declared.SerialLink.TheVariants.{Uart, Rs485}
use Rattle.link_rules.specs.Link.{link_read, link_write, link_carried}
use Rattle.link_rules.specs.declared.Link.{Link}
use Rattle.file_rules.specs.Setup.{setup_bytes}
use Rattle.device_rules.specs.Device.{new_device}
use Rattle.device_rules.specs.Answers.{after_receive}
use Rattle.device_rules.specs.Receive.{receive}
use Rattle.round_rules.specs.Schedule.{output, scheduled}
use Rattle.round_rules.specs.declared.Fate.{Fate}
use Rattle.round_rules.specs.declared.Fate.TheVariants as FateOf
use Rattle.round_rules.specs.declared.Round.{Round}
use Rattle.sender_rules.specs.Sender.{new_sender, frames_known}
use Rattle.sender_rules.specs.Sending.{sending}
use Rattle.sender_rules.specs.declared.Sender.{Sender}
use Rattle.round_rules.specs.World.{World, works, asks, arrives, does, run, bytes_or}
use Rattle.round_rules.specs.Requester.{shared}
use Rattle.round_rules.specs.declared.State.TheVariants.{Finished}

-- A message of a kind, an ID and addresses whose other fields are 0.
abbrev pub plain : Kind → ℕ → ℕ → ℕ → Message
plain k id source destination = record { kind = k; id = id; source = source; destination = destination; error = Some 0; index = 0 }

-- What CAN writes for a telecommand of n bytes (nothing if it is refused), and the DLC of its last frame.
abbrev pub command_bytes : ℕ → List ℕ
command_bytes n = bytes_or [] (can_write (plain Telecommand 12 16 17) (replicate n 0))

abbrev pub last_dlc : List ℕ → ℕ
last_dlc b = get_or b (length b - 13 + 4) 0

-- P11 and P12: a file of 300 bytes, and a unit with own address 31 that its setup opened, with 303 bytes to store in. Each frame begins with FF FF
-- and zeros, which take the checksum's register to 0 and keep it there: with 256 times 1F the checker comes to its step limit.
abbrev pub file : List ℕ
file = 0xFF ∷ 0xFF ∷ (replicate 252 0 ++ (0x1F ∷ 0x1F ∷ 0xFF ∷ 0xFF ∷ replicate 42 0))

abbrev pub empty_store : List ℕ
empty_store = replicate 303 0xA5

-- The store with the whole file in it.
abbrev pub full_store : List ℕ
full_store = file ++ replicate 3 0xA5

-- The bytes of the setup on a link, for a destination; it is for job 7.
unfoldable pub setup_on : Link → ℕ → List ℕ
setup_on l destination = bytes_or [] (link_write l (plain Telecommand 20 255 destination) (setup_bytes 300 7))

-- Unit and sender after the setup for the unit, which arrives as bytes on the link.
unfoldable pub opened : Link → World Sender
opened l =
    let unit = new_device l 31 in
    record {
      device = after_receive unit (receive unit 303 (setup_on l 31));
      store = empty_store;
      requester = new_sender l 255 31 300 None;
      request = [];
      answer = [];
    }

-- A round with the work step done.
abbrev pub with_work : Fate → Round
with_work f = record { worked = true; fate = f }

-- The world after rounds.
unfoldable pub after_rounds : Link → List Round → World Sender
after_rounds l rs = run (sending file) (opened l) (scheduled (sending file) (opened l) rs)

-- The world of P11 at its end.
unfoldable pub all_delivered : Link → World Sender
all_delivered l = after_rounds l (replicate 8 (with_work FateOf.Delivered))

-- P11: "300 bytes, nothing lost, work always done: 2 frames, 8 rounds, finished."
abbrev pub NothingLost : Link → Type 0
NothingLost l =
    let w = all_delivered l in
    (frames_known w.requester ≡ 2) × (w.requester.rounds ≡ 8) × (w.requester.state ≡ Finished) × (w.store ≡ full_store)

-- P12: "same file, last take-frame answer lost": so far the unit has taken the frame; then the work step, and the sender asks again.
unfoldable pub asked_again : Link → World Sender
asked_again l = run (sending file) (after_rounds l (replicate 6 (with_work FateOf.Delivered) ++ (with_work FateOf.AnswerLost ∷ []))) (works shared ∷ asks shared output ∷ [])

-- "The repeat after the work step gets nack 3, store unchanged." Its index is document 02's, ticket 1: "2, the transfer is finished". On CAN the
-- nack tells neither.
abbrev pub AnswerLost : Link → Type 0
AnswerLost l =
    let w = asked_again l in
    let v = does (sending file) w (arrives w.request shared output) in
    let nack : Message = record { kind = TelecommandNack; id = 21; source = 31; destination = 255; error = Some 3; index = 2 } in
    (link_read l v.answer ≡ given (link_carried l nack) []) × (w.store ≡ full_store) × (v.store ≡ full_store)

abbrev pub cases : List (Type 0)
cases =
    -- P1: UART tc 31 with byte 1F: `1F 7F 1F 1F 1F 1F 1F FF`.
    (frame_write Uart (plain Telecommand 31 0 0) (0x1F ∷ []) ≡ written (0x1F ∷ 0x7F ∷ 0x1F ∷ 0x1F ∷ 0x1F ∷ 0x1F ∷ 0x1F ∷ 0xFF ∷ []))
    -- P2: `1F 7F 80 1F FF`: tlmreq 128.
    ∷ (frame_read Uart (0x1F ∷ 0x7F ∷ 0x80 ∷ 0x1F ∷ 0xFF ∷ []) ≡ given (plain TelemetryRequest 128 0 0) [])
    -- P3: `1F 7F 80 05 1F FF`: 6.
    ∷ (frame_read Uart (0x1F ∷ 0x7F ∷ 0x80 ∷ 0x05 ∷ 0x1F ∷ 0xFF ∷ []) ≡ refused 6)
    -- P4: `1F 0F 15 00 00 1F FF`: 7.
    ∷ (frame_read Uart (0x1F ∷ 0x0F ∷ 0x15 ∷ 0x00 ∷ 0x00 ∷ 0x1F ∷ 0xFF ∷ []) ≡ refused 7)
    -- P5: `1F 7F FF 1F FF`: 5.
    ∷ (frame_read Uart (0x1F ∷ 0x7F ∷ 0xFF ∷ 0x1F ∷ 0xFF ∷ []) ≡ refused 5)
    -- P6: `1F`: 1.
    ∷ (frame_read Uart (0x1F ∷ []) ≡ refused 1)
    -- P7: RS485 tlmreq 128 from 31 to 255: `1F 80 80 1F 1F FF 1F FF`.
    ∷ (frame_write Rs485 (plain TelemetryRequest 128 31 255) [] ≡ written (0x1F ∷ 0x80 ∷ 0x80 ∷ 0x1F ∷ 0x1F ∷ 0xFF ∷ 0x1F ∷ 0xFF ∷ []))
    -- P8: CAN frames and last DLC: 13 bytes 2 and 7; 14 bytes 3 and 1; 18 bytes 3 and 5; 256 bytes 37 and 5.
    ∷ ((length (command_bytes 13) ≡ 13 * 2) × (last_dlc (command_bytes 13) ≡ 7))
    ∷ ((length (command_bytes 14) ≡ 13 * 3) × (last_dlc (command_bytes 14) ≡ 1))
    ∷ ((length (command_bytes 18) ≡ 13 * 3) × (last_dlc (command_bytes 18) ≡ 5))
    ∷ ((length (command_bytes 256) ≡ 13 * 37) × (last_dlc (command_bytes 256) ≡ 5))
    -- P9: tc 12 from 16 to 17: identifier 0x010C1011.
    ∷ (from_bytes (take 4 (command_bytes 0)) ≡ 0x010C1011)
    -- P10: CSP `02 0C 00`: tcack 12; `02 0C 01`: 7.
    ∷ (csp_read (0x02 ∷ 0x0C ∷ 0x00 ∷ []) ≡ given (plain TelecommandAck 12 0 0) [])
    ∷ (csp_read (0x02 ∷ 0x0C ∷ 0x01 ∷ []) ≡ refused 7)
    -- P11 and P12, on every link.
    ∷ ((l : Link) → NothingLost l)
    ∷ ((l : Link) → AnswerLost l)
    ∷ []

-- The statement: every case of a list holds.
abbrev pub AllHold : List (Type 0) → Type 0
AllHold [] = Unit
AllHold (c ∷ cs) = c × AllHold cs
