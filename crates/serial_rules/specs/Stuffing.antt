-- Doubling of ESC (document 01, "The two serial links"): ESC is 0x1F, every 0x1F between head and tail is doubled, and a frame ends
-- with ESC 0xFF. One definition for both links.
use Rattle.std.specs.Prelude.{ℕ, ◌+◌, cond, List, [], ◌∷◌, eqb, drop}
use Rattle.serial_rules.specs.declared.Stop.{Stop}
use Rattle.serial_rules.specs.declared.Stop.TheVariants.{Ended, Broken, Cut}

-- "ESC is 0x1F", and a frame ends with "ESC 0xFF".
abbrev pub esc : ℕ
esc = 0x1F

abbrev pub tail_byte : ℕ
tail_byte = 0xFF

-- Writing: every 0x1F twice.
unfoldable pub doubled : List ℕ → List ℕ
doubled [] = []
doubled (b ∷ s) = cond (eqb b esc) (esc ∷ esc ∷ doubled s) (b ∷ doubled s)

-- How a scan from inside a frame stopped, how many bytes it consumed, and the body that they stand for. `Ended`: the tail, which it
-- consumed. `Broken`: before an ESC with any byte but ESC or FF. `Cut`: where the input ends inside the frame, before a last ESC alone.
pub record Scan : Type 0 where
  pub stop : Stop
  pub consumed : ℕ
  pub body : List ℕ

abbrev pub stopped : Stop → ℕ → Scan
stopped how n = record { stop = how; consumed = n; body = [] }

-- A byte of the body in front, which took n bytes.
abbrev pub more : ℕ → ℕ → Scan → Scan
more b n r = record { stop = r.stop; consumed = n + r.consumed; body = b ∷ r.body }

-- ESC and the byte after it, with what the scan gives from there on.
unfoldable pub escaped : ℕ → Scan → Scan
escaped x r = cond (eqb x esc) (more esc 2 r) (cond (eqb x tail_byte) (stopped Ended 2) (stopped Broken 0))

-- From inside a frame to its end, by steps of one byte or of ESC with another.
unfoldable pub scan : List ℕ → Scan
scan [] = stopped Cut 0
scan (b ∷ []) = cond (eqb b esc) (stopped Cut 0) (more b 1 (stopped Cut 0))
scan (b ∷ x ∷ s) = cond (eqb b esc) (escaped x (scan s)) (more b 1 (scan (x ∷ s)))

-- The scan of a frame, after ESC and its start byte.
abbrev pub frame_scan : List ℕ → Scan
frame_scan b = scan (drop 2 b)
