-- How long a listing can be: a line is at most ten times as long as its frame, since a refused frame of two bytes has a line of at most
-- twenty, and only a complete one, of four bytes or more, has a longer one.
use Rattle.std.specs.Prelude.{None, Some}
use Prim.Native.Nat.{ℕ, zero, suc, ◌+◌, ◌*◌, ◌≤◌, ◌<◌}
use mathlib.Core.Bool.{Bool, true, false, cond}
use mathlib.Core.List.{List, [], ◌∷◌}
use mathlib.Core.Path.{◌≡◌, refl}
use native.Mathlib.Omega.{arith}
use borrow.Author.Tests.{leb-true, leb-false}
use lib.Dec.{leb, eqb}
use lib.ListN.{length, take, drop, length-append, length-drop}
use Rattle.message_rules.proofs.Tables.{error_length_two}
use Rattle.message_rules.specs.Answer.{Answer, refused, given, counted}
use Rattle.message_rules.specs.Data.{error_number}
use Rattle.message_rules.specs.Kinds.{error_length, is_event}
use Rattle.message_rules.specs.declared.Kind.TheVariants as KindOf
use Rattle.message_rules.specs.declared.Kind.{Kind}
use Rattle.message_rules.specs.declared.Message.{Message}
use Rattle.text_rules.proofs.Printing.{decimal-length}
use Rattle.text_rules.specs.Numbers.{decimal}
use Rattle.serial_rules.specs.Stuffing.{Scan, scan, escaped, frame_scan}
use Rattle.serial_rules.specs.declared.Stop.TheVariants.{Ended, Broken, Cut}
use Rattle.serial_rules.specs.declared.Stop.{Stop}
use Rattle.serial_rules.specs.Frames.{frame_read}
use Rattle.serial_rules.specs.declared.SerialLink.TheVariants.{Uart}
use Rattle.listing_rules.specs.Lines.{kind_text, field_text, id_of, code_of, line, spaced, line_text}
use Rattle.listing_rules.specs.Listing.{Found, no_frame, frame_at, hunt, frame_length, said, frame_line, framed, lines, listing, longest}
use Rattle.listing_rules.proofs.Limit.{listed-within, listed_past}
use Rattle.listing_rules.proofs.Sizes.{line-size}
use Rattle.listing_rules.proofs.Reading.{read-most, read_low}
use Rattle.listing_rules.proofs.Walks.{FoundWithin, hunt-within}

-- A scan passes over bytes that are there, and over the two of the tail where it finds one.
abbrev Inside : List ℕ → Scan → Type 0
Inside s r = (r.consumed ≤ length s) × (r.stop ≡ Ended → 2 ≤ r.consumed)

escaped-inside : (b x : ℕ) (s : List ℕ) → Inside s (scan s) → Inside (b ∷ x ∷ s) (escaped x (scan s))
unfolding escaped
escaped-inside b x s h = by (eqb x 0x1F) refl (eqb x 0xFF) refl
  where
    by : (t : Bool) → eqb x 0x1F ≡ t → (u : Bool) → eqb x 0xFF ≡ u → Inside (b ∷ x ∷ s) (escaped x (scan s))
    by true q u v = rw q (omega arith, λ e. omega arith)
    by false q true v = rw (q, v) (omega arith, λ e. omega arith)
    by false q false v = rw (q, v) (omega arith, λ e. absurd (let z : ◌≡◌ {A = ℕ} 0 1 = cc in omega arith))

pub scan-inside : (s : List ℕ) → Inside s (scan s)
unfolding scan
scan-inside [] = (omega arith, λ e. absurd (let z : ◌≡◌ {A = ℕ} 0 1 = cc in omega arith))
scan-inside (b ∷ []) = by (eqb b 0x1F) refl
  where
    by : (t : Bool) → eqb b 0x1F ≡ t → Inside (b ∷ []) (scan (b ∷ []))
    by true q = rw q (omega arith, λ e. absurd (let z : ◌≡◌ {A = ℕ} 0 1 = cc in omega arith))
    by false q = rw q (omega arith, λ e. absurd (let z : ◌≡◌ {A = ℕ} 0 1 = cc in omega arith))
scan-inside (b ∷ x ∷ s) = by (escaped-inside b x s (scan-inside s)) (scan-inside (x ∷ s)) (eqb b 0x1F) refl
  where
    by : Inside (b ∷ x ∷ s) (escaped x (scan s)) → Inside (x ∷ s) (scan (x ∷ s)) → (t : Bool) → eqb b 0x1F ≡ t → Inside (b ∷ x ∷ s) (scan (b ∷ x ∷ s))
    by pair one true q = rw q pair
    by pair one false q = rw q (omega arith, λ e. omega (arith, one.1 e))

kind_short : (k : Kind) → length (kind_text k) ≤ 7
kind_short KindOf.Telecommand = omega arith
kind_short KindOf.TelecommandAck = omega arith
kind_short KindOf.TelecommandNack = omega arith
kind_short KindOf.TelemetryRequest = omega arith
kind_short KindOf.TelemetryResponse = omega arith
kind_short KindOf.TelemetryNack = omega arith
kind_short KindOf.Event = omega arith

-- A field that is a number below a thousand or none.
field_short : (t : Bool) (n : ℕ) → n < 1000 → (length (field_text (cond t (Some n) None)) ≤ 3) × (length (field_text (cond t None (Some n))) ≤ 3)
field_short true n h = (decimal-length 2 n h, omega arith)
field_short false n h = (omega arith, decimal-length 2 n h)

module _ (at : ℕ) (offset : at < 65536) where
  at_short : length (decimal at) ≤ 5
  at_short = decimal-length 4 at (omega arith)

  refused_short : (n : ℕ) → n < 10 → length (line_text (line at (refused n))) ≤ 20
  unfolding line spaced
  refused_short n h = omega (arith, line-size (line at (refused n)), at_short, decimal-length 0 n h)

  given_short : (m : Message) (n : ℕ) → m.id ≤ 255 → error_number m.error ≤ 255 → n ≤ 256 → length (line_text (line at (given m n))) ≤ 40
  unfolding line spaced id_of code_of
  given_short m n i e h =
      omega (
        arith,
        line-size (line at (given m n)),
        at_short,
        kind_short m.kind,
        (field_short (is_event m.kind) m.id (omega arith)).1,
        decimal-length 2 (error_length m.kind + n) (omega (arith, error_length_two m.kind)),
        (field_short (leb 1 (error_length m.kind)) (error_number m.error) (omega arith)).0,
      )

  read_short : (b : List ℕ) → length (line_text (line at (counted (frame_read Uart b)))) ≤ 40
  unfolding counted
  read_short b = by (frame_read Uart b) refl
    where
      by : (x : Answer Message (List ℕ)) → frame_read Uart b ≡ x → length (line_text (line at (counted (frame_read Uart b)))) ≤ 40
      by (refused n) e = rw e (omega (arith, refused_short n (read_low b n e)))
      by (given m p) e =
          let h = read-most b m p e in
          rw e (given_short m (length p) h.0 h.1 h.2)

  pub frame_short : (f : List ℕ) → length (frame_line at f) ≤ 10 * frame_length f
  unfolding frame_line said counted
  frame_short f = by (frame_scan f).stop refl (scan-inside (drop 2 f)).1
    where
      by : (stop : Stop) → (frame_scan f).stop ≡ stop → (stop ≡ Ended → 2 ≤ (frame_scan f).consumed) → length (frame_line at f) ≤ 10 * frame_length f
      by Broken e h = rw e (omega (arith, refused_short 3 (omega arith)))
      by Cut e h = rw e (omega (arith, refused_short 1 (omega arith)))
      by Ended e h = rw e (omega (arith, h refl, read_short (take (frame_length f) f)))

-- A frame ends where its bytes do, or before.
pub frame-inside : (f : List ℕ) → 2 ≤ length f → frame_length f ≤ length f
frame-inside f h = omega (arith, (scan-inside (drop 2 f)).0, length-drop 2 f)

pub lines_short : (n at : ℕ) (s : List ℕ) → at + length s ≤ 65536 → length (lines n at s) ≤ 10 * length s
unfolding lines framed
lines_short zero at s h = omega arith
lines_short (suc n) at s h = by (lines_short n) (hunt at s) (hunt-within at s)
  where
    by : ((at : ℕ) (s : List ℕ) → at + length s ≤ 65536 → length (lines n at s) ≤ 10 * length s) → (x : Found) → FoundWithin at s x → length (framed x (lines n)) ≤ 10 * length s
    by again no_frame w = omega arith
    by again (frame_at start f) w =
        let rest = drop (frame_length f) f in
        let size = length-drop (frame_length f) f in
        let fits = frame-inside f w.2 in
        let later = again (start + frame_length f) rest (omega (arith, w.1)) in
        rw length-append (omega (arith, frame_short start (omega (arith, w.1, w.2)) f, w.0, w.1))

-- The header, and ten bytes of text for each byte.
pub listing_short : (s : List ℕ) → length (listing s) ≤ 20 + 10 * length s
listing_short s = by (leb (length s) 65536) refl
  where
    by : (t : Bool) → leb (length s) 65536 ≡ t → length (listing s) ≤ 20 + 10 * length s
    by true q = let h = leb-true (length s) 65536 q in rw (listed-within s h, length-append) (omega (arith, lines_short (length s) 0 s (omega arith)))
    by false q = let h = leb-false (length s) 65536 q in rw (listed_past s h) (omega arith)

-- No listing is longer than the longest.
pub listing-longest : (s : List ℕ) → length (listing s) ≤ longest
listing-longest s = by (leb (length s) 65536) refl
  where
    by : (t : Bool) → leb (length s) 65536 ≡ t → length (listing s) ≤ longest
    by true q = omega (arith, leb-true (length s) 65536 q, listing_short s)
    by false q = rw (listed_past s (leb-false (length s) 65536 q)) (omega arith)
