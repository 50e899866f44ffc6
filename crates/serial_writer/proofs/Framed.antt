-- The laws of a frame's parts: what stands in front of the payload, by the link and the kind, and what a run of stores leaves, by the law of one put after another.
use Prim.Native.Nat.{ℕ, ◌+◌, ◌-◌}
use mathlib.Core.Bool.{cond}
use mathlib.Core.List.{List, [], ◌∷◌, ◌++◌}
use mathlib.Core.Path.{◌≡◌, refl, ◌∙◌}
use native.Mathlib.Numerals.{add-one}
use native.Mathlib.Omega.{arith}
use lib.ListN.{length, set, take, length-append, length-set}
use lib.Seq.{sets, length-sets}
use Rattle.std.specs.Prelude.{slice_range}
use Rattle.message_rules.specs.Data.{error_number, error_bytes}
use Rattle.message_rules.specs.Kinds.{error_length}
use Rattle.message_rules.specs.declared.Kind.{Kind}
use Rattle.message_rules.specs.declared.Kind.TheVariants.{Telecommand, TelecommandAck, TelecommandNack, TelemetryRequest, TelemetryResponse, TelemetryNack, Event}
use Rattle.message_rules.specs.declared.Message.{Message}
use Rattle.message_rules.proofs.Stores.{Put, put-more, sets-append}
use Rattle.serial_rules.specs.Stuffing.{doubled}
use Rattle.serial_rules.specs.Frames.{row_of, has_id, has_addresses, id_length, address_length, id_bytes, address_bytes, front_fields}
use Rattle.serial_rules.specs.declared.SerialLink.{SerialLink}
use Rattle.serial_rules.specs.declared.SerialLink.TheVariants.{Uart, Rs485}
use Rattle.serial_rules.proofs.Doubling.{doubled-append}
use Rattle.serial_writer.specs.Framed.{framed}

module _ (m : Message) where
  abbrev front : SerialLink → Kind → List ℕ
  front l k = (cond (has_id (row_of k)) (m.id ∷ []) [] ++ cond (has_addresses l) (m.source ∷ m.destination ∷ []) []) ++ take (error_length k) (error_number m.error ∷ m.index ∷ [])

  pub uart-fields : slice_range (m.id ∷ error_number m.error ∷ m.index ∷ 0 ∷ 0 ∷ []) (1 - id_length (row_of m.kind)) (1 + address_length Uart + error_length m.kind) ≡ front_fields Uart (row_of m.kind) m ++ error_bytes m
  unfolding front_fields id_bytes address_bytes error_bytes
  uart-fields = by m.kind
    where
      by : (k : Kind) → slice_range (m.id ∷ error_number m.error ∷ m.index ∷ 0 ∷ 0 ∷ []) (1 - id_length (row_of k)) (1 + address_length Uart + error_length k) ≡ front Uart k
      by Telecommand = refl
      by TelecommandAck = refl
      by TelecommandNack = refl
      by TelemetryRequest = refl
      by TelemetryResponse = refl
      by TelemetryNack = refl
      by Event = refl

  pub rs485-fields : slice_range (m.id ∷ m.source ∷ m.destination ∷ error_number m.error ∷ m.index ∷ []) (1 - id_length (row_of m.kind)) (1 + address_length Rs485 + error_length m.kind) ≡ front_fields Rs485 (row_of m.kind) m ++ error_bytes m
  unfolding front_fields id_bytes address_bytes error_bytes
  rs485-fields = by m.kind
    where
      by : (k : Kind) → slice_range (m.id ∷ m.source ∷ m.destination ∷ error_number m.error ∷ m.index ∷ []) (1 - id_length (row_of k)) (1 + address_length Rs485 + error_length k) ≡ front Rs485 k
      by Telecommand = refl
      by TelecommandAck = refl
      by TelecommandNack = refl
      by TelemetryRequest = refl
      by TelemetryResponse = refl
      by TelemetryNack = refl
      by Event = refl

module _ (start : ℕ) (front payload : List ℕ) where
  pub framed-length : length (framed start (front ++ payload)) ≡ 4 + length (doubled front) + length (doubled payload)
  framed-length =
      rw (doubled-append front payload) (omega (arith, length-append (doubled front ++ doubled payload) (0x1F ∷ 0xFF ∷ []), length-append (doubled front) (doubled payload)))

  -- The start, the front and the payload put after it, and the tail.
  pub framed_stored : (out first left : List ℕ) (i n : ℕ) → Put (set (set out 0 0x1F) 1 start) 2 (doubled front) i first → Put first i (doubled payload) n left
      → (n + 2 ≡ length (framed start (front ++ payload))) × (length left ≡ length out) × (set (set left n 0x1F) (n + 1) 0xFF ≡ sets out 0 (framed start (front ++ payload)))
  framed_stored out first left i n f p =
      let begun = set (set out 0 0x1F) 1 start in
      let put : Put begun 2 (doubled (front ++ payload)) n left = rw (doubled-append front payload) (put-more (doubled front) (doubled payload) begun first left 2 i n f p) in (
        omega (arith, put.0, framed-length, length-append (doubled front) (doubled payload)),
        rw put.1 (length-sets begun 2 (doubled (front ++ payload)) ∙ simp length-set),
        rw (add-one, put.0, put.1) (sets-append begun 2 (doubled (front ++ payload)) (0x1F ∷ 0xFF ∷ [])),
      )
