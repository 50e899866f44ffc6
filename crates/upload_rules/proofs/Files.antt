-- The file frame by frame: carried by the laws of take and drop at a frame's edge, and by arithmetic for the lengths.
use Prim.Native.Nat.{ℕ, ◌+◌, ◌-◌, ◌*◌, ◌≤◌, ◌<◌, min}
use mathlib.Core.Bool.{Bool, true, false}
use mathlib.Core.List.{List, ◌++◌, append_assoc}
use mathlib.Core.Path.{◌≡◌, refl}
use native.Mathlib.Nat.{zero-min}
use native.Mathlib.Omega.{arith}
use borrow.Author.Tests.{eq-eqb, ne_eqb, eqb-true, eqb-false}
use lib.Dec.{eqb}
use lib.ListN.{length, take, drop, length-append, length-take, length-drop}
use lib.Seq.{take-add, take_all, take_at, drop_at, drop-drop}
use Rattle.file_rules.specs.File.{frame_count, file_frame}
use Rattle.file_rules.proofs.Frames.{frame_length_lem}

module _ (file : List ℕ) where
  module _ (i : ℕ) where
    pub frame-some : i < frame_count (length file) → 1 ≤ length (file_frame file i)
    unfolding frame_count
    frame-some h = rw (frame_length_lem file i) (omega arith)

    -- What counts as stored, with one more frame.
    pub stored_next : min (256 * i) (length file) + length (file_frame file i) ≡ min (256 * (i + 1)) (length file)
    stored_next = rw (frame_length_lem file i) (omega arith)

    -- The file's size is reached with the last frame.
    pub size_reached : i < frame_count (length file) → eqb (min (256 * (i + 1)) (length file)) (length file) ≡ eqb (i + 1) (frame_count (length file))
    unfolding frame_count
    size_reached h = by (eqb (i + 1) (frame_count (length file))) refl where
      by : (b : Bool) → eqb (i + 1) (frame_count (length file)) ≡ b → eqb (min (256 * (i + 1)) (length file)) (length file) ≡ b
      by true e = eq-eqb (min (256 * (i + 1)) (length file)) (length file) (omega (arith, eqb-true (i + 1) (frame_count (length file)) e))
      by false e = ne_eqb (min (256 * (i + 1)) (length file)) (length file) (λ q. eqb-false (i + 1) (frame_count (length file)) e (omega arith))

    -- A frame is no longer than what is not stored yet.
    pub remains : length (file_frame file i) ≤ length file - min (256 * i) (length file)
    remains = rw (frame_length_lem file i) (omega arith)

  -- A store with the file's first i frames over its beginning.
  module _ (store : List ℕ) where
    pub store-first : take (256 * 0) file ++ drop (min (256 * 0) (length file)) store ≡ store
    store-first = rw zero-min

    pub beginning-length : (i : ℕ) → length file ≤ length store → length (take (256 * i) file ++ drop (min (256 * i) (length file)) store) ≡ length store
    beginning-length i fits = simp (length-append, length-take, length-drop) (omega arith)

    -- Frame i written after them.
    pub store-next : (i : ℕ)
        → let s = take (256 * i) file ++ drop (min (256 * i) (length file)) store in
        take (min (256 * i) (length file)) s ++ (file_frame file i ++ drop (min (256 * i) (length file) + length (file_frame file i)) s)
        ≡ take (256 * (i + 1)) file ++ drop (min (256 * (i + 1)) (length file)) store
    unfolding file_frame
    store-next i =
        let m = min (256 * i) (length file) in
        let size = length-take (256 * i) file in
        let more : 256 * (i + 1) ≡ 256 * i + 256 = omega arith in
        rw (take_at (take (256 * i) file) (drop m store) m size, ← drop-drop, drop_at (take (256 * i) file) (drop m store) m size, drop-drop, stored_next i, more, take-add, append_assoc)

    -- With all frames there, the file is the store's beginning.
    pub whole-file : take (length file) (take (256 * frame_count (length file)) file ++ drop (min (256 * frame_count (length file)) (length file)) store) ≡ file
    unfolding frame_count
    whole-file = rw (take_all (256 * frame_count (length file)) file (omega arith), take_at file _ (length file) refl)
