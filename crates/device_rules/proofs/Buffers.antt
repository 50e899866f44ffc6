-- What a transfer's type says of its frame buffer: it has 256 bytes, and a frame no more.
use Prim.Native.Nat.{ℕ, zero, suc, ◌≤◌}
use mathlib.Core.List.{List, [], ◌∷◌}
use mathlib.Core.Path.{◌≡◌, refl}
use native.Mathlib.Omega.{arith}
use lib.ListN.{length, take, length-take}
use mir.Val.{Val}
use denote.Laws.{Is}
use Rattle.device_rules.specs.Device.{buffered_frame}
use Rattle.device_rules.specs.declared.Transfer.{Transfer}
use Rattle.device_rules.specs.contracts.Transfer.{the_row}

take_of_take : (n : ℕ) (l : List ℕ) → take (length (take n l)) l ≡ take n l
take_of_take zero l = refl
take_of_take (suc n) [] = refl
take_of_take (suc n) (x ∷ l) = rw (take_of_take n l)

pub buffer-length : (t : Transfer) {vs : List Val} → Is the_row t vs → length t.buffer ≡ 256
buffer-length t g = g.1.1.1.1.0.1.0.1

-- The frame is of the buffer:
pub frame-within : (t : Transfer) → length (buffered_frame t) ≤ length t.buffer
unfolding buffered_frame
frame-within t = rw length-take (omega arith)

-- as many bytes of it as the frame has.
pub frame_of_buffer : (t : Transfer) → take (length (buffered_frame t)) t.buffer ≡ buffered_frame t
unfolding buffered_frame
frame_of_buffer t = take_of_take t.buffered t.buffer

pub frame-most : (t : Transfer) {vs : List Val} → Is the_row t vs → length (buffered_frame t) ≤ 256
frame-most t g = omega (arith, frame-within t, buffer-length t g)
