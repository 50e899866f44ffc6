-- What the unit answers to each kind of request: carried by the definitions of the answers, opened.
use Rattle.std.specs.Prelude.{Some, None}
use Prim.Native.Nat.{ℕ}
use mathlib.Core.List.{List, [], ◌∷◌}
use mathlib.Core.Path.{◌≡◌, refl}
use native.Mathlib.Omega.{arith}
use borrow.Author.Tests.{eq-eqb, ne_eqb}
use lib.ListN.{take, drop}
use Rattle.little_endian_rules.specs.LittleEndian.{from_bytes, to_bytes}
use Rattle.message_rules.specs.Answer.{about}
use Rattle.message_rules.specs.declared.Kind.{Kind}
use Rattle.message_rules.specs.declared.Kind.TheVariants.{Telecommand, TelecommandAck, TelecommandNack, TelemetryRequest, TelemetryResponse, TelemetryNack, Event}
use Rattle.message_rules.specs.declared.Message.{Message}
use Rattle.link_rules.specs.Link.{link_write}
use Rattle.link_rules.specs.declared.Link.{Link}
use Rattle.file_rules.specs.Checksum.{checksum}
use Rattle.file_rules.proofs.Checksum.{checksum_below}
use Rattle.file_rules.proofs.CheckValue.{empty_checksum}
use Rattle.device_rules.specs.Device.{buffered_frame}
use Rattle.device_rules.specs.declared.Device.{Device}
use Rattle.device_rules.specs.declared.Fault.TheVariants.{Repeat, Nack}
use Rattle.device_rules.specs.declared.Transfer.{Transfer}
use Rattle.device_rules.specs.Commands.{command_done, after_command}
use Rattle.device_rules.specs.Faults.{command_fault}
use Rattle.device_rules.specs.Receive.{answers, answer_source, answer_to, info_bytes, silence, command_answer, command_reply, telecommand_reply, telemetry_reply, kind_reply}

-- An answer to a message, with an error byte and an index.
abbrev pub answer_of : Link → ℕ → Message → Kind → ℕ → ℕ → Message
answer_of l own m k e i =
    record { kind = k; id = m.id; source = answer_source l own m; destination = m.source; error = Some e; index = i }

-- "Kinds other than tc and tlmreq get no answer."
pub others_silent : (k : Kind) (d : Device) (store : ℕ) (m : Message) (p : List ℕ) → (k ≡ Telecommand → ⊥) → (k ≡ TelemetryRequest → ⊥) → kind_reply k d store m p ≡ silence d
unfolding kind_reply
others_silent Telecommand d store m p command request = absurd (command refl)
others_silent TelecommandAck d store m p command request = refl
others_silent TelecommandNack d store m p command request = refl
others_silent TelemetryRequest d store m p command request = absurd (request refl)
others_silent TelemetryResponse d store m p command request = refl
others_silent TelemetryNack d store m p command request = refl
others_silent Event d store m p command request = refl

module _ (d : Device) (m : Message) where
  abbrev answer : Kind → ℕ → ℕ → Message
  answer = answer_of d.link d.own m

  -- The unit's own telecommands and telemetry requests are answered, each by its rule.
  pub command-replied : (store : ℕ) (p : List ℕ) → m.kind ≡ Telecommand → kind_reply m.kind d store m p ≡ telecommand_reply d store m p
  unfolding kind_reply
  command-replied store p k = rw k

  pub request-replied : (store : ℕ) (p : List ℕ) → m.kind ≡ TelemetryRequest → kind_reply m.kind d store m p ≡ telemetry_reply d m
  unfolding kind_reply
  request-replied store p k = rw k

  -- A command without a fault is carried out and acked.
  pub command_acked : (store : ℕ) (p : List ℕ) → command_fault d store m.id p ≡ None
      → telecommand_reply d store m p ≡ about (answers (command_done d m.id p)) (link_write d.link (answer TelecommandAck 0 0) [])
  unfolding command_reply after_command command_answer answer_to
  command_acked store p h = rw h

  -- "A setup that repeats the open job's number and size is acked and changes nothing."
  pub repeat_acked : (store : ℕ) (p : List ℕ) → command_fault d store m.id p ≡ Some Repeat
      → telecommand_reply d store m p ≡ about (answers d) (link_write d.link (answer TelecommandAck 0 0) [])
  unfolding command_reply after_command command_answer answer_to
  repeat_acked store p h = rw h

  -- A nack tells error byte and index of the fault, and "a nack changes nothing".
  pub command-nacked : (store : ℕ) (p : List ℕ) (e i : ℕ) → command_fault d store m.id p ≡ Some (Nack e i)
      → telecommand_reply d store m p ≡ about (answers d) (link_write d.link (answer TelecommandNack e i) [])
  unfolding command_reply after_command command_answer answer_to
  command-nacked store p e i h = rw h

  -- "150 frame info | request | never",
  pub info_answered : m.id ≡ 150 → telemetry_reply d m ≡ about (answers d) (link_write d.link (answer TelemetryResponse 0 0) (info_bytes d.transfer))
  unfolding telemetry_reply answer_to
  info_answered h = rw (eq-eqb m.id 150 h)

  -- and "any other ID: error 1", with index 0.
  pub telemetry_nacked : (m.id ≡ 150 → ⊥) → telemetry_reply d m ≡ about (answers d) (link_write d.link (answer TelemetryNack 1 0) [])
  unfolding telemetry_reply answer_to
  telemetry_nacked other = rw (ne_eqb m.id 150 other)

-- Frame info tells the checksum of the buffered bytes, and "the empty buffer's checksum becomes 0xFFFF" (document 02, ticket 6).
module _ (t : Transfer) where
  pub info_checksum_lem : from_bytes (take 2 (drop 4 (info_bytes t))) ≡ checksum (buffered_frame t)
  unfolding info_bytes to_bytes from_bytes
  info_checksum_lem = omega (arith, checksum_below (buffered_frame t))

  pub empty_info : buffered_frame t ≡ [] → take 2 (drop 4 (info_bytes t)) ≡ 0xFF ∷ 0xFF ∷ []
  unfolding info_bytes to_bytes
  empty_info h = rw (h, empty_checksum)
