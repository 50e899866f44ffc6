-- The two loops of the walk: a hunt keeps the lines that are left, and a frame puts its line in front of them.
use Rattle.std.specs.Prelude.{None, Some}
use Prim.Native.Nat.{ℕ, ◌+◌, ◌≤◌, ◌<◌}
use mathlib.Core.List.{List, ◌++◌}
use mathlib.Core.Path.{◌≡◌, ap, sym, ◌∙◌}
use native.Mathlib.Omega.{arith}
use lib.ListN.{length, get_or, drop, length-append, length-drop}
use lib.Seq.{sets, drop-drop}
use Rattle.message_rules.proofs.Stores.{Put, put-more, sets-append}
use Rattle.serial_rules.specs.Stuffing.{scan, frame_scan}
use Rattle.serial_rules.specs.declared.Stop.{Stop}
use Rattle.serial_rules.specs.Frames.{start_row}
use Rattle.serial_rules.specs.declared.StartRow.{StartRow}
use Rattle.serial_rules.specs.declared.SerialLink.TheVariants.{Uart}
use Rattle.listing_rules.specs.Listing.{frame_length, frame_line, lines, header, listing, longest}
use Rattle.listing_rules.proofs.Bound.{frame-inside, lines_short}
use Rattle.listing_rules.proofs.Limit.{listed-within}
use Rattle.listing_rules.proofs.Walks.{pass_byte, pass_pair, pass_end, pass_frame}

-- The lines of what stands from a place of the bytes on.
abbrev pub rest : List ℕ → ℕ → List ℕ
rest b at = lines (length b) at (drop at b)

-- A hunt that has come from a place to another.
abbrev pub Hunted : List ℕ → ℕ → ℕ → Type 0
Hunted b from at = (from ≤ at) × (at ≤ length b) × (rest b from ≡ rest b at)

-- A walk that has come to `at`: the output with the lines that are left put is what it is with all of them put.
abbrev pub Walked : List ℕ → List ℕ → ℕ → ℕ → List ℕ → ℕ → ℕ → Type 0
Walked b out₀ to₀ at₀ out to at =
    (at ≤ length b) × (length out ≡ length out₀) × (to₀ + length (rest b at₀) ≡ to + length (rest b at)) × (sets out₀ to₀ (rest b at₀) ≡ sets out to (rest b at))

module _ (b : List ℕ) (from at : ℕ) (h : Hunted b from at) (room : at + 2 ≤ length b) where
  pub hunted_byte : (get_or b at 0 ≡ 0x1F → ⊥) → Hunted b from (at + 1)
  hunted_byte ne = (omega arith, omega arith, h.2 ∙ pass_byte b at (length b) (omega arith) ne)

  pub hunted_pair : get_or b at 0 ≡ 0x1F → start_row Uart (get_or b (at + 1) 0) ≡ None → Hunted b from (at + 2)
  hunted_pair e q = (omega arith, omega arith, h.2 ∙ pass_pair b at (length b) (omega arith) e q)

-- A hunt that has found a frame.
pub record Begins (b : List ℕ) (from at : ℕ) : Type 0 where
  pub hunted : Hunted b from at
  pub room : at + 2 ≤ length b
  pub esc : get_or b at 0 ≡ 0x1F
  pub row : StartRow
  pub known : start_row Uart (get_or b (at + 1) 0) ≡ Some row

module _ (b : List ℕ) (from at : ℕ) (g : Begins b from at) where
  pub end-inside : at + frame_length (drop at b) ≤ length b
  end-inside = omega (arith, g.room, frame-inside (drop at b) (rw length-drop (omega (arith, g.room))), length-drop at b)

  found : rest b from ≡ frame_line at (drop at b) ++ rest b (at + frame_length (drop at b))
  found = g.hunted.2 ∙ pass_frame b at (length b) (omega (arith, g.room)) g.esc g.row g.known (omega arith)

  found-size : length (rest b from) ≡ length (frame_line at (drop at b)) + length (rest b (at + frame_length (drop at b)))
  found-size = rw (found, length-append)

  module _ (out₀ : List ℕ) (to₀ : ℕ) (out : List ℕ) (to : ℕ) (w : Walked b out₀ to₀ 0 out to from) where
    pub line-fits : to₀ ≡ 20 → length b ≤ 65536 → to + length (frame_line at (drop at b)) ≤ longest
    line-fits head size = omega (arith, w.2, found-size, lines_short (length b) 0 b (omega arith))

    pub walked-frame : (next : ℕ) (left : List ℕ) → Put out to (frame_line at (drop at b)) next left → length left ≡ length out → Walked b out₀ to₀ 0 left next (at + frame_length (drop at b))
    walked-frame next left p kept = (
      end-inside,
      kept ∙ w.1,
      omega (arith, w.2, found-size, p.0),
      rw (p.1, p.0) (w.3 ∙ rw found (sym (sets-append out to (frame_line at (drop at b)) (rest b (at + frame_length (drop at b)))))),
    )

-- A frame is scanned from the byte after its start byte on.
pub scanned : (b : List ℕ) (at : ℕ) (stop : Stop) (end : ℕ) → stop ≡ (scan (drop (at + 2) b)).stop → end ≡ at + 2 + (scan (drop (at + 2) b)).consumed
    → (stop ≡ (frame_scan (drop at b)).stop) × (end ≡ at + frame_length (drop at b))
scanned b at stop end s p =
    let e : drop 2 (drop at b) ≡ drop (at + 2) b = drop-drop 2 at b in
    rw e (s, omega arith)

-- The walk ends where no two bytes are left.
pub walked_end : (b orig out₀ : List ℕ) (to₀ : ℕ) (out : List ℕ) (to from at : ℕ) → length b ≤ 65536 → Put orig 0 header to₀ out₀ → Walked b out₀ to₀ 0 out to from → Hunted b from at → length b < at + 2
    → (to ≡ length (listing b)) × (out ≡ sets orig 0 (listing b))
walked_end b orig out₀ to₀ out to from at size head w h end =
    let none = h.2 ∙ pass_end b at (length b) end in
    let all = put-more header (rest b 0) orig out₀ out 0 to₀ to head (omega (arith, w.2, ap length none), sym (w.3 ∙ rw none)) in
    rw (listed-within b size) (omega (arith, all.0), all.1)
