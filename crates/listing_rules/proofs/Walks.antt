-- The laws of the walk: what a hunt finds, that as many turns as there are bytes are enough, where a frame without a tail is left, and one
-- step of the walk at a place of the bytes. Carried by the definitions, which compute at one step, and by induction on turns and bytes.
use Rattle.std.specs.Prelude.{None, Option, Some}
use Prim.Native.Nat.{ℕ, zero, suc, ◌+◌, ◌≤◌, ◌<◌}
use mathlib.Core.Bool.{Bool, true, false}
use mathlib.Core.List.{List, [], ◌∷◌, ◌++◌}
use mathlib.Core.Path.{◌≡◌, refl, ap, ◌∙◌}
use native.Mathlib.Nat.{zero-add}
use native.Mathlib.Numerals.{add-one}
use native.Mathlib.Omega.{arith}
use borrow.Author.Tests.{eqb-true, ne_eqb}
use lib.Dec.{eqb}
use lib.ListN.{length, get_or, drop, length-drop}
use lib.Seq.{drop-cons, drop-drop, drop-append_seam}
use Rattle.message_rules.specs.Answer.{counted}
use Rattle.serial_rules.proofs.Scans.{scan-plain}
use Rattle.serial_rules.specs.Stuffing.{doubled, stopped, scan, escaped}
use Rattle.serial_rules.specs.declared.Stop.{Stop}
use Rattle.serial_rules.specs.Frames.{start_row}
use Rattle.serial_rules.specs.declared.StartRow.{StartRow}
use Rattle.serial_rules.specs.declared.SerialLink.TheVariants.{Uart}
use Rattle.listing_rules.specs.Lines.{line, line_text}
use Rattle.listing_rules.specs.Listing.{Found, no_frame, frame_at, pair, hunt, frame_length, said, frame_line, framed, lines}

-- The steps of the walk outside a frame: over a byte, over ESC with a byte that is no start byte, and the end.
module _ (at : ℕ) where
  lines-byte : (n b x : ℕ) (s : List ℕ) → eqb b 0x1F ≡ false → lines n at (b ∷ x ∷ s) ≡ lines n (at + 1) (x ∷ s)
  unfolding lines hunt
  lines-byte zero b x s q = refl
  lines-byte (suc n) b x s q = rw q

  pub lines-pair : (n x : ℕ) (s : List ℕ) → start_row Uart x ≡ None → lines n at (0x1F ∷ x ∷ s) ≡ lines n (at + 2) s
  unfolding lines hunt pair
  lines-pair zero x s q = refl
  lines-pair (suc n) x s q = rw q

  pub lines_end : (n : ℕ) (s : List ℕ) → length s ≤ 1 → lines n at s ≡ []
  unfolding lines framed hunt
  lines_end zero s h = refl
  lines_end (suc n) [] h = refl
  lines_end (suc n) (b ∷ []) h = refl
  lines_end (suc n) (b ∷ x ∷ s) h = absurd (omega arith)

-- A frame that a hunt finds is what is left from a later offset on, and has its ESC and its start byte.
abbrev pub FoundWithin : ℕ → List ℕ → Found → Type 0
FoundWithin at s no_frame = Unit
FoundWithin at s (frame_at start f) = (at ≤ start) × (start + length f ≡ at + length s) × (2 ≤ length f)

further : (at k : ℕ) (s t : List ℕ) (x : Found) → k + length t ≡ length s → FoundWithin (at + k) t x → FoundWithin at s x
further at k s t no_frame e w = tt
further at k s t (frame_at start f) e w = (omega (arith, w.0), omega (arith, w.1), w.2)

pub hunt-within : (at : ℕ) (s : List ℕ) → FoundWithin at s (hunt at s)
unfolding hunt pair
hunt-within at [] = tt
hunt-within at (b ∷ []) = tt
hunt-within at (b ∷ x ∷ s) = by (hunt-within (at + 2) s) (hunt-within (at + 1) (x ∷ s)) (eqb b 0x1F) refl (start_row Uart x) refl
  where
    by : FoundWithin (at + 2) s (hunt (at + 2) s) → FoundWithin (at + 1) (x ∷ s) (hunt (at + 1) (x ∷ s)) → (t : Bool) → eqb b 0x1F ≡ t → (r : Option StartRow) → start_row Uart x ≡ r
        → FoundWithin at (b ∷ x ∷ s) (hunt at (b ∷ x ∷ s))
    by two one false q r v = rw q (further at 1 (b ∷ x ∷ s) (x ∷ s) (hunt (at + 1) (x ∷ s)) (omega arith) one)
    by two one true q None v = rw (q, v) (further at 2 (b ∷ x ∷ s) s (hunt (at + 2) s) (omega arith) two)
    by two one true q (Some row) v = rw (q, v) (omega arith, refl, omega arith)

-- Turns beyond the bytes that are left change nothing.
pub lines_enough : (n m at : ℕ) (s : List ℕ) → length s ≤ n → length s ≤ m → lines n at s ≡ lines m at s
unfolding lines framed hunt
lines_enough zero zero at s h k = refl
lines_enough zero (suc m) at [] h k = refl
lines_enough zero (suc m) at (b ∷ s) h k = absurd (omega arith)
lines_enough (suc n) zero at [] h k = refl
lines_enough (suc n) zero at (b ∷ s) h k = absurd (omega arith)
lines_enough (suc n) (suc m) at s h k = by (lines_enough n m) (hunt at s) (hunt-within at s)
  where
    by : ((at : ℕ) (s : List ℕ) → length s ≤ n → length s ≤ m → lines n at s ≡ lines m at s) → (x : Found) → FoundWithin at s x → framed x (lines n) ≡ framed x (lines m)
    by again no_frame w = refl
    by again (frame_at start f) w =
        let rest = drop (frame_length f) f in
        let size = length-drop (frame_length f) f in
        ap (λ (l : List ℕ). frame_line start f ++ l) (again (start + frame_length f) rest (omega (arith, w.0, w.1)) (omega (arith, w.0, w.1)))

-- The step of the walk over a frame.
module _ (at : ℕ) where
  module _ (f : List ℕ) (x : ℕ) (s : List ℕ) (row : StartRow) (begins : f ≡ 0x1F ∷ x ∷ s) (known : start_row Uart x ≡ Some row) where
    hunt-frame : hunt at f ≡ frame_at at f
    unfolding hunt pair
    hunt-frame = rw (begins, known)

    pub lines-frame : (n : ℕ) → length f ≤ n → lines n at f ≡ frame_line at f ++ lines n (at + frame_length f) (drop (frame_length f) f)
    unfolding lines framed
    lines-frame zero h = absurd (omega (arith, ap length begins))
    lines-frame (suc n) h =
        let rest = drop (frame_length f) f in
        let size : length rest ≤ n = rw length-drop (omega arith) in
        rw hunt-frame (ap (λ (l : List ℕ). frame_line at f ++ l) (lines_enough n (suc n) (at + frame_length f) rest size (omega arith)))

-- A scan over a doubled body comes to what stands after it.
scan-over : (d t : List ℕ) → scan (doubled d ++ t) ≡ record { stop = (scan t).stop; consumed = length (doubled d) + (scan t).consumed; body = d ++ (scan t).body }
unfolding doubled scan escaped
scan-over [] t = rw zero-add
scan-over (b ∷ d) t = by (scan-over d t) (eqb b 0x1F) refl
  where
    by : scan (doubled d ++ t) ≡ record { stop = (scan t).stop; consumed = length (doubled d) + (scan t).consumed; body = d ++ (scan t).body } → (u : Bool) → eqb b 0x1F ≡ u
        → scan (doubled (b ∷ d) ++ t) ≡ record { stop = (scan t).stop; consumed = length (doubled (b ∷ d)) + (scan t).consumed; body = b ∷ (d ++ (scan t).body) }
    by again true q =
        let e : 2 + (length (doubled d) + (scan t).consumed) ≡ suc (suc (length (doubled d))) + (scan t).consumed = omega arith in
        rw (q, again, e, eqb-true b 0x1F q)
    by again false q =
        let e : 1 + (length (doubled d) + (scan t).consumed) ≡ suc (length (doubled d)) + (scan t).consumed = omega arith in
        rw (q, scan-plain b (doubled d ++ t) q, again, e)

-- A frame that does not come to its tail: what stands after its body stops the scan at once.
module _ (start : ℕ) (row : StartRow) (known : start_row Uart start ≡ Some row) (body t : List ℕ) (n at : ℕ) where
  pub stops : (how : Stop) → scan t ≡ stopped how 0 → length (0x1F ∷ start ∷ (doubled body ++ t)) ≤ n
      → lines n at (0x1F ∷ start ∷ (doubled body ++ t)) ≡ line_text (line at (counted (said how (0x1F ∷ start ∷ (doubled body ++ t))))) ++ lines n (at + (2 + length (doubled body))) t
  unfolding frame_line
  stops how e h =
      let size : frame_length (0x1F ∷ start ∷ (doubled body ++ t)) ≡ 2 + length (doubled body) = rw (scan-over body t, e) (omega arith) in
      let next : 2 + length (doubled body) ≡ suc (suc (length (doubled body))) = omega arith in
      lines-frame at (0x1F ∷ start ∷ (doubled body ++ t)) start _ row refl known n h ∙ rw (size, scan-over body t, e, next, drop-append_seam)

-- The same at a place of the bytes `b`.
module _ (b : List ℕ) (at n : ℕ) where
  one_byte : at + 1 < length b → drop (at + 1) b ≡ get_or b (at + 1) 0 ∷ drop (at + 2) b
  one_byte h =
      let one : at + 1 ≡ suc at = omega arith in
      let two : at + 2 ≡ suc (suc at) = omega arith in
      rw (one, two, drop-cons b (suc at) 0 (omega arith))

  two_bytes : at + 1 < length b → drop at b ≡ get_or b at 0 ∷ get_or b (at + 1) 0 ∷ drop (at + 2) b
  two_bytes h = drop-cons b at 0 (omega arith) ∙ rw (← add-one, one_byte h)

  pub pass_byte : at + 1 < length b → (get_or b at 0 ≡ 0x1F → ⊥) → lines n at (drop at b) ≡ lines n (at + 1) (drop (at + 1) b)
  pass_byte h ne = rw (two_bytes h, one_byte h) (lines-byte at n _ _ _ (ne_eqb _ 0x1F ne))

  pub pass_pair : at + 1 < length b → get_or b at 0 ≡ 0x1F → start_row Uart (get_or b (at + 1) 0) ≡ None → lines n at (drop at b) ≡ lines n (at + 2) (drop (at + 2) b)
  pass_pair h e q = rw (two_bytes h, e) (lines-pair at n _ _ q)

  pub pass_end : length b < at + 2 → lines n at (drop at b) ≡ []
  pass_end h = lines_end at n (drop at b) (rw length-drop (omega arith))

  pub pass_frame : at + 1 < length b → get_or b at 0 ≡ 0x1F → (row : StartRow) → start_row Uart (get_or b (at + 1) 0) ≡ Some row → length b ≤ n
      → let f = drop at b in lines n at f ≡ frame_line at f ++ lines n (at + frame_length f) (drop (at + frame_length f) b)
  pass_frame h e row q m =
      let begins : drop at b ≡ 0x1F ∷ get_or b (at + 1) 0 ∷ drop (at + 2) b = two_bytes h ∙ rw e in
      rw (← drop-drop (frame_length (drop at b)) at b) (lines-frame at (drop at b) _ _ row begins q n (rw length-drop (omega arith)))
