-- The seven kinds: which IDs, payload lengths and error bytes each has (document 01, "Messages"), and its type (document 01, "CAN and CSP"). Then
-- which fields of a message arrive.
use Rattle.std.specs.Prelude.{ℕ, Bool, true, false, ◌&&◌, cond, leb, eqb, None, Option, Some}
use Rattle.message_rules.specs.declared.Kind.{Kind}
use Rattle.message_rules.specs.declared.Kind.TheVariants.{Telecommand, TelecommandAck, TelecommandNack, TelemetryRequest, TelemetryResponse, TelemetryNack, Event}
use Rattle.message_rules.specs.declared.Message.{Message}
use Rattle.message_rules.specs.declared.Range.{Range}

infix 20 ◌to◌
-- From the first number to the second, both included.
abbrev pub ◌to◌ : ℕ → ℕ → Range
low to high = record { 0 = low; 1 = high }

unfoldable pub inside : Range → ℕ → Bool
inside r n = leb r.0 n && leb n r.1

-- "Messages": telecommand kinds have ID 0..127, telemetry kinds 128..254. An event's ID isn't looked at: any byte.
abbrev pub id_range : Kind → Range
id_range Telecommand = 0 to 127
id_range TelecommandAck = 0 to 127
id_range TelecommandNack = 0 to 127
id_range TelemetryRequest = 128 to 254
id_range TelemetryResponse = 128 to 254
id_range TelemetryNack = 128 to 254
id_range Event = 0 to 255

-- "Messages": tc and tlmrsp carry 0..256 payload bytes, an event 24; "Refusal numbers": the other kinds have no payload.
abbrev pub payload_range : Kind → Range
payload_range Telecommand = 0 to 256
payload_range TelecommandAck = 0 to 0
payload_range TelecommandNack = 0 to 0
payload_range TelemetryRequest = 0 to 0
payload_range TelemetryResponse = 0 to 256
payload_range TelemetryNack = 0 to 0
payload_range Event = 24 to 24

-- "Messages": an ack's error byte is 0, a nack's 1..10. The other kinds carry none, and it isn't looked at: any byte.
abbrev pub error_range : Kind → Range
error_range Telecommand = 0 to 255
error_range TelecommandAck = 0 to 0
error_range TelecommandNack = 1 to 10
error_range TelemetryRequest = 0 to 255
error_range TelemetryResponse = 0 to 255
error_range TelemetryNack = 1 to 10
error_range Event = 0 to 255

-- "The two serial links": of the data, how many bytes tell the error: one for tcack; error byte and index for a nack.
abbrev pub error_length : Kind → ℕ
error_length Telecommand = 0
error_length TelecommandAck = 1
error_length TelecommandNack = 2
error_length TelemetryRequest = 0
error_length TelemetryResponse = 0
error_length TelemetryNack = 2
error_length Event = 0

-- "CAN and CSP": types 1..6 are tc, tcack, tcnack, tlmreq, tlmrsp, tlmnack; 9 an event.
abbrev pub type_number : Kind → ℕ
type_number Telecommand = 1
type_number TelecommandAck = 2
type_number TelecommandNack = 3
type_number TelemetryRequest = 4
type_number TelemetryResponse = 5
type_number TelemetryNack = 6
type_number Event = 9

-- The kind of one of the types 1..6.
unfoldable pub type_kind : ℕ → Option Kind
type_kind t =
    cond (eqb t 1) (Some Telecommand)
    (cond (eqb t 2) (Some TelecommandAck)
    (cond (eqb t 3) (Some TelecommandNack)
    (cond (eqb t 4) (Some TelemetryRequest)
    (cond (eqb t 5) (Some TelemetryResponse)
    (cond (eqb t 6) (Some TelemetryNack)
    None)))))

-- Which kind it is. An ack has an error byte, a nack an error byte and an index.
abbrev pub is_telecommand : Kind → Bool
is_telecommand Telecommand = true
is_telecommand TelecommandAck = false
is_telecommand TelecommandNack = false
is_telecommand TelemetryRequest = false
is_telecommand TelemetryResponse = false
is_telecommand TelemetryNack = false
is_telecommand Event = false

abbrev pub is_ack : Kind → Bool
is_ack Telecommand = false
is_ack TelecommandAck = true
is_ack TelecommandNack = false
is_ack TelemetryRequest = false
is_ack TelemetryResponse = false
is_ack TelemetryNack = false
is_ack Event = false

abbrev pub is_nack : Kind → Bool
is_nack Telecommand = false
is_nack TelecommandAck = false
is_nack TelecommandNack = true
is_nack TelemetryRequest = false
is_nack TelemetryResponse = false
is_nack TelemetryNack = true
is_nack Event = false

-- Whether it is an event, which has neither error byte nor index.
abbrev pub is_event : Kind → Bool
is_event Telecommand = false
is_event TelecommandAck = false
is_event TelecommandNack = false
is_event TelemetryRequest = false
is_event TelemetryResponse = false
is_event TelemetryNack = false
is_event Event = true

-- What tells the error, where the link carries it and where not: an ack has an error byte, a nack an index too. "CAN and CSP": a nack without
-- them "reads as 'not told' with index 0".
unfoldable pub error_carried : Bool → Kind → Option ℕ → Option ℕ
error_carried errors k e = cond errors (cond (leb 1 (error_length k)) e (Some 0)) (cond (is_nack k) None (Some 0))

unfoldable pub index_carried : Bool → Kind → ℕ → ℕ
index_carried errors k i = cond (errors && leb 2 (error_length k)) i 0

-- What tells the error, as the kind carries it; ID and addresses stay as they are.
abbrev pub error_fields_carried : Message → Message
error_fields_carried m =
    record {
      kind = m.kind;
      id = m.id;
      source = m.source;
      destination = m.destination;
      error = error_carried true m.kind m.error;
      index = index_carried true m.kind m.index;
    }

-- "Messages": "Fields that a link or a kind doesn't carry read as 0", and an event's ID "reads as 255". So a message arrives over a link that
-- carries addresses or not, and what tells the error or not.
unfoldable pub carried_on : Bool → Bool → Message → Message
carried_on addresses errors m =
    record {
      kind = m.kind;
      id = cond (is_event m.kind) 255 m.id;
      source = cond addresses m.source 0;
      destination = cond addresses m.destination 0;
      error = error_carried errors m.kind m.error;
      index = index_carried errors m.kind m.index;
    }
