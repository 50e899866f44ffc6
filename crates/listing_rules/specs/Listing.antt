-- The listing of a UART stream (document 01, "The listing"). What a frame is, and what it says, are `frame_scan` and `frame_read` of `serial_rules`.
use Rattle.serial_rules.specs.declared.StartRow.{StartRow}
use Rattle.std.specs.Prelude.{ℕ, zero, suc, ◌+◌, cond, List, [], ◌∷◌, ◌++◌, leb, eqb, length, take, drop, None, Option, Some}
use Rattle.message_rules.specs.Answer.{Answer, refused, counted}
use Rattle.message_rules.specs.declared.Message.{Message}
use Rattle.serial_rules.specs.Stuffing.{esc, frame_scan}
use Rattle.serial_rules.specs.declared.Stop.{Stop}
use Rattle.serial_rules.specs.declared.Stop.TheVariants.{Ended, Broken, Cut}
use Rattle.serial_rules.specs.Frames.{start_row, frame_read}
use Rattle.serial_rules.specs.declared.SerialLink.TheVariants.{Uart}
use Rattle.listing_rules.specs.Lines.{text, line, line_text}

-- What a hunt comes to: a frame's offset and the bytes from its ESC on, or no frame.
pub data Found : Type 0 where
  no_frame : Found
  frame_at : ℕ → List ℕ → Found

-- ESC with a byte after it: a frame begins there where that is a start byte; else the hunt goes on after the pair.
unfoldable pub pair : Option StartRow → Found → Found → Found
pair (Some r) here later = here
pair None here later = later

-- "Outside a frame it hunts for ESC and a start byte, passing over other bytes singly and ESC with any other byte as a pair"; "a last ESC
-- outside a frame gives no line".
unfoldable pub hunt : ℕ → List ℕ → Found
hunt at [] = no_frame
hunt at (b ∷ []) = no_frame
hunt at (b ∷ x ∷ s) =
    cond (eqb b esc) (pair (start_row Uart x) (frame_at at (b ∷ x ∷ s)) (hunt (at + 2) s)) (hunt (at + 1) (x ∷ s))

-- How many bytes a frame has, from its ESC on: to the end of its tail, to the ESC that breaks it off, or to the input's end. An ESC that
-- breaks it off is left to the hunt, for which it begins a new frame or is one of a pair.
abbrev pub frame_length : List ℕ → ℕ
frame_length f = 2 + (frame_scan f).consumed

-- What is said of a frame: "an ESC and start byte break the frame off (3)", "ESC with another wrong byte gives 3", "an unfinished last
-- frame gives 1"; of a complete one, what the reader says of it alone.
unfoldable pub said : Stop → List ℕ → Answer Message (List ℕ)
said Broken f = refused 3
said Cut f = refused 1
said Ended f = frame_read Uart (take (frame_length f) f)

-- The text of the line of a frame that begins at an offset.
unfoldable pub frame_line : ℕ → List ℕ → List ℕ
frame_line at f = line_text (line at (counted (said (frame_scan f).stop f)))

-- The line of a frame, and what is listed after it.
unfoldable pub framed : Found → (ℕ → List ℕ → List ℕ) → List ℕ
framed no_frame later = []
framed (frame_at at f) later = frame_line at f ++ later (at + frame_length f) (drop (frame_length f) f)

-- The lines of what stands from an offset on. A frame takes two bytes or more, so `turns` only ends the recursion: as many as there are
-- bytes are enough.
unfoldable pub lines : ℕ → ℕ → List ℕ → List ℕ
lines zero at s = []
lines (suc turns) at s = framed (hunt at s) (lines turns)

-- Each line ends with LF, and the header is the first.
abbrev pub header : List ℕ
header = text "at kind id len code\n"

-- "Reads at most 65,536 UART bytes"; "beyond that it prints only `input too long`". "Empty input gives the header alone."
unfoldable pub listing : List ℕ → List ℕ
listing s =
    cond (leb (length s) 65536)
    (header ++ lines (length s) 0 s)
    (text "input too long\n")

-- No listing is longer: the header, and ten bytes of text for each byte (`proofs/Bound.antt`).
abbrev pub longest : ℕ
longest = 655380
