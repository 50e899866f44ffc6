-- Both round trips of demand 2, over every link: carried by each link's own.
use Prim.Native.Nat.{ℕ, ◌≤◌}
use mathlib.Core.Bool.{false}
use mathlib.Core.List.{List}
use mathlib.Core.Path.{◌≡◌}
use lib.ListN.{length}
use Rattle.message_rules.specs.Answer.{given, written}
use Rattle.message_rules.specs.Kinds.{is_event, carried_on}
use Rattle.message_rules.specs.declared.Message.{Message}
use Rattle.can_rules.proofs.RoundTrip as can
use Rattle.csp_rules.proofs.RoundTrip as csp
use Rattle.serial_rules.specs.declared.SerialLink.TheVariants as SerialLinkOf
use Rattle.serial_rules.proofs.RoundTrip as serial
use Rattle.link_rules.specs.Link.{link_read, link_write, link_carried, most_bytes}
use Rattle.link_rules.specs.RoundTrip.{WrittenReads, ReadWrites}
use Rattle.link_rules.specs.declared.Link.{Link}
use Rattle.link_rules.specs.declared.Link.TheVariants.{Uart, Rs485, Can, Csp}
use Rattle.link_rules.proofs.Laws.{LegalMessage, within-given, bytes_most, payload-most, legal_writes}

-- Whatever the output: bytes that were written read as every field that the link and the kind carry, and the payload.
pub bytes_read : (l : Link) (m : Message) (p b : List ℕ) → link_write l m p ≡ written b → link_read l b ≡ given (link_carried l m) p
unfolding link_write link_read link_carried
bytes_read Uart m p b e = serial.written-reads SerialLinkOf.Uart m p b e
bytes_read Rs485 m p b e = serial.written-reads SerialLinkOf.Rs485 m p b e
bytes_read Can m p b e = can.written-reads m p b e
bytes_read Csp m p b e = csp.written-reads m p b e

-- Reading what was written returns every field that the link and the kind carry, 0 in the others, and the payload.
pub written-reads : WrittenReads
written-reads l m p out b e = bytes_read l m p b (within-given out (link_write l m p) tt b e).0

-- Writing what was read returns the bytes.
pub read_writes : ReadWrites
unfolding link_write link_read
read_writes Uart b m p e = serial.read_writes SerialLinkOf.Uart b m p e
read_writes Rs485 b m p e = serial.read_writes SerialLinkOf.Rs485 b m p e
read_writes Can b m p e = can.read_writes b m p e
read_writes Csp b m p e = csp.read_writes b m p e

-- A written message and what the link carries of it give the same bytes: writing does not look at the other fields.
pub carried_writes : (l : Link) (m : Message) (p b : List ℕ) → link_write l m p ≡ written b → link_write l (link_carried l m) p ≡ written b
carried_writes l m p b e = read_writes l b (link_carried l m) p (bytes_read l m p b e)

-- So what was read has a payload of at most 256 bytes.
pub read-most : (l : Link) (b : List ℕ) (m : Message) (p : List ℕ) → link_read l b ≡ given m p → length p ≤ 256
read-most l b m p e = payload-most l m p b (read_writes l b m p e)

-- Bytes under way: a message and a payload were written as them, within the link's bound, and they read as what the link carries of these.
pub record Underway (l : Link) (m : Message) (p b : List ℕ) : Type 0 where
  pub wrote : link_write l m p ≡ written b
  pub reads : link_read l b ≡ given (link_carried l m) p
  pub most : length b ≤ most_bytes l

-- A legal message is written, and arrives.
abbrev pub Arrives : Link → Message → List ℕ → Type 0
Arrives l m p = (b : List ℕ) × Underway l m p b

pub legal-arrives : (l : Link) (m : Message) (p : List ℕ) → LegalMessage l m p → Arrives l m p
legal-arrives l m p h =
    let w = legal_writes l m p h in
    (w.0, record { wrote = w.1; reads = bytes_read l m p w.0 w.1; most = bytes_most l m p w.0 w.1 })

-- Only an event's ID changes on the way.
pub id-arrives : (l : Link) (m : Message) → is_event m.kind ≡ false → (link_carried l m).id ≡ m.id
unfolding link_carried carried_on
id-arrives l m h = rw h
