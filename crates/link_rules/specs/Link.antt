-- The four links as one type (document 01, "Messages", "The two serial links", "CAN and CSP"): reading and writing by link, and
-- which field is carried where.
use Rattle.std.specs.Prelude.{ℕ, Bool, true, false, List}
use Rattle.message_rules.specs.Answer.{Answer}
use Rattle.message_rules.specs.Kinds.{carried_on}
use Rattle.message_rules.specs.declared.Message.{Message}
use Rattle.can_rules.specs.Can.{longest_series, can_read, can_write}
use Rattle.csp_rules.specs.Csp.{csp_read, csp_write}
use Rattle.serial_rules.specs.Frames.{frame_read, frame_write}
use Rattle.serial_rules.specs.declared.SerialLink.TheVariants as SerialLinkOf
use Rattle.link_rules.specs.declared.Link.{Link}
use Rattle.link_rules.specs.declared.Link.TheVariants.{Uart, Rs485, Can, Csp}

-- What reading bytes of a link gives, but for the 8, which comes with the lent output.
unfoldable pub link_read : Link → List ℕ → Answer Message (List ℕ)
link_read Uart b = frame_read SerialLinkOf.Uart b
link_read Rs485 b = frame_read SerialLinkOf.Rs485 b
link_read Can b = can_read b
link_read Csp b = csp_read b

-- What writing a message with a payload gives, but for the 8.
unfoldable pub link_write : Link → Message → List ℕ → Answer Unit (List ℕ)
link_write Uart m p = frame_write SerialLinkOf.Uart m p
link_write Rs485 m p = frame_write SerialLinkOf.Rs485 m p
link_write Can m p = can_write m p
link_write Csp m p = csp_write m p

-- Source and destination: "on RS485 source and destination", and in CAN's identifier.
abbrev pub carries_addresses : Link → Bool
carries_addresses Uart = false
carries_addresses Rs485 = true
carries_addresses Can = true
carries_addresses Csp = false

-- Error byte and index: "a CAN nack has no error byte".
abbrev pub carries_error : Link → Bool
carries_error Uart = true
carries_error Rs485 = true
carries_error Can = false
carries_error Csp = true

-- A message as it arrives over the link: what it doesn't carry reads as 0.
unfoldable pub link_carried : Link → Message → Message
link_carried l m = carried_on (carries_addresses l) (carries_error l) m

-- The most bytes that writing gives. A serial frame has head, tail and every other byte doubled (on RS485 three fields, on UART one);
-- CAN has the longest series; CSP type, ID and payload.
abbrev pub most_bytes : Link → ℕ
most_bytes Uart = 518
most_bytes Rs485 = 522
most_bytes Can = longest_series
most_bytes Csp = 258
