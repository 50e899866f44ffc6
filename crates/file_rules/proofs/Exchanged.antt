-- Two exchanged bytes are detected: carried by the difference of the two registers. It would have to come back to itself within a frame, and with
-- it every multiple of it, one of which is x + 1; and that one doesn't, as is computed.
use Prim.Native.Nat.{ℕ, zero, suc, ◌+◌, ◌*◌, ◌/◌, ◌%◌, ◌<◌}
use mathlib.Core.Bool.{cond}
use mathlib.Core.List.{List, [], ◌∷◌, ◌++◌}
use mathlib.Core.Path.{◌≡◌, refl, sym, ap, ap₂, ◌∙◌}
use native.Mathlib.Nat.{le_of_suc-le-suc, not-suc-le-zero, zero-mul, one-mul}
use native.Mathlib.Omega.{arith}
use borrow.Author.Tests.{eq-eqb}
use lib.Bits.{bit_xor, xor_lt, xor_comm, xor_self}
use lib.Dec.{eqb}
use lib.ListN.{length, get_or, length-append}
use Rattle.file_rules.specs.Checksum.{all_ones, bit_step, bit_steps, high_first, byte_step, byte_steps, checksum}
use Rattle.file_rules.specs.Detection.{with_two, ExchangedDetected}
use Rattle.file_rules.proofs.Xor.{bit_cases, xor_zero, xor_pairs, xor_shl}
use Rattle.file_rules.proofs.Linear.{byte_linear, byte_below, bytes_below, byte_injective, bytes_injective}
use Rattle.file_rules.proofs.Listed.{listed, same}
use Rattle.file_rules.proofs.Table.{high_half, frame_byte}
use Rattle.file_rules.proofs.Checksum.{bytes-append}

-- A number of bytes of zeros.
abbrev zero_bytes : ℕ → ℕ → ℕ
zero_bytes zero r = r
zero_bytes (suc n) r = zero_bytes n (byte_step r 0)

-- The difference of two registers goes on as if all bytes were zero.
difference : (r s : ℕ) (bytes : List ℕ) → bit_xor (byte_steps r bytes) (byte_steps s bytes) ≡ zero_bytes (length bytes) (bit_xor r s)
unfolding byte_steps
difference r s [] = refl
difference r s (b ∷ bytes) =
    difference (byte_step r b) (byte_step s b) bytes
    ∙ ap (zero_bytes (length bytes)) (sym (byte_linear r s b b) ∙ ap (byte_step (bit_xor r s)) (xor_self b))

-- Registers are polynomials modulo the checksum's, and a zero bit multiplies by x: r times the polynomial whose coefficients are the n lowest
-- bits of f.
abbrev times : ℕ → ℕ → ℕ → ℕ
times zero f r = 0
times (suc n) f r = bit_xor (f % 2 * r) (bit_step (times n (f / 2) r) 0)

-- Bytes of zeros multiply by a power of x, so it does not matter whether they come before another multiplication or after it.
zeros_linear : (n r s : ℕ) → zero_bytes n (bit_xor r s) ≡ bit_xor (zero_bytes n r) (zero_bytes n s)
zeros_linear zero r s = refl
zeros_linear (suc n) r s = ap (zero_bytes n) (byte_linear r s 0 0) ∙ zeros_linear n (byte_step r 0) (byte_step s 0)

bit_byte : (r : ℕ) → byte_step (bit_step r 0) 0 ≡ bit_step (byte_step r 0) 0
unfolding byte_step bit_steps high_first
bit_byte r = refl

zeros_bit : (n r : ℕ) → zero_bytes n (bit_step r 0) ≡ bit_step (zero_bytes n r) 0
zeros_bit zero r = refl
zeros_bit (suc n) r = ap (zero_bytes n) (bit_byte r) ∙ zeros_bit n (byte_step r 0)

zeros-zero : (n : ℕ) → zero_bytes n 0 ≡ 0
unfolding byte_step bit_steps high_first bit_step
zeros-zero zero = refl
zeros-zero (suc n) = zeros-zero n

zeros_coefficient : (n bit r : ℕ) → bit < 2 → zero_bytes n (bit * r) ≡ bit * zero_bytes n r
zeros_coefficient n bit r h =
    bit_cases (λ bit. zero_bytes n (bit * r) ≡ bit * zero_bytes n r)
    (ap (zero_bytes n) (zero-mul r) ∙ zeros-zero n ∙ sym (zero-mul (zero_bytes n r))) (ap (zero_bytes n) (one-mul r) ∙ sym (one-mul (zero_bytes n r))) bit h

zeros-times : (n k f r : ℕ) → zero_bytes n (times k f r) ≡ times k f (zero_bytes n r)
zeros-times n zero f r = zeros-zero n
zeros-times n (suc k) f r =
    zeros_linear n (f % 2 * r) (bit_step (times k (f / 2) r) 0)
    ∙ ap₂ bit_xor (zeros_coefficient n (f % 2) r (omega arith)) (zeros_bit n (times k (f / 2) r) ∙ ap (λ (x : ℕ). bit_step x 0) (zeros-times n k (f / 2) r))

-- x + 1 in the register's upper half, where a byte's difference begins. 1 would not do: the polynomial is a multiple of x + 1, and so are the
-- bytes with an even number of ones and all their multiples.
unfoldable start : ℕ
start = 0x0300

-- What each byte from 1 to 255 is multiplied by to give x + 1.
cofactors : List ℕ
cofactors =
    0x0003 ∷ 0x8811 ∷ 0x0001 ∷ 0xcc18 ∷ 0x500a ∷ 0x780f ∷ 0xbda0 ∷ 0x660c ∷ 0x6b60 ∷ 0x2805 ∷ 0xeb8b ∷ 0x4408 ∷ 0xe753 ∷ 0x5ed0 ∷ 0x3006 ∷ 0x3306 ∷
    0x1002 ∷ 0x35b0 ∷ 0x7f1c ∷ 0x6c0d ∷ 0x545b ∷ 0xfdd5 ∷ 0x5d31 ∷ 0x2204 ∷ 0x5c84 ∷ 0xfbb9 ∷ 0x76d5 ∷ 0x2f68 ∷ 0x5979 ∷ 0x1803 ∷ 0x84b4 ∷ 0x1983 ∷
    0x7c6c ∷ 0x0801 ∷ 0x211d ∷ 0x1ad8 ∷ 0x61b6 ∷ 0x3f8e ∷ 0x6722 ∷ 0x4e09 ∷ 0xb0b9 ∷ 0xa23d ∷ 0x347c ∷ 0xf6fa ∷ 0x2db3 ∷ 0x5697 ∷ 0x5f2d ∷ 0x1102 ∷
    0x488e ∷ 0x2e42 ∷ 0x0ffe ∷ 0xf5cc ∷ 0x2af4 ∷ 0x4365 ∷ 0xfb10 ∷ 0x17b4 ∷ 0x34ef ∷ 0x54b3 ∷ 0xd9d9 ∷ 0x740e ∷ 0x826c ∷ 0x425a ∷ 0x33c9 ∷ 0x84d1 ∷
    0x1147 ∷ 0x3e36 ∷ 0x1d5c ∷ 0x7c0f ∷ 0x862a ∷ 0x989e ∷ 0x7e24 ∷ 0x0d6c ∷ 0x41f0 ∷ 0x30db ∷ 0x13a5 ∷ 0x1fc7 ∷ 0x48b7 ∷ 0x3391 ∷ 0xc99a ∷ 0x5f0b ∷
    0x80b9 ∷ 0xd04c ∷ 0x387a ∷ 0xd90e ∷ 0x555f ∷ 0x1a3e ∷ 0x3b02 ∷ 0x7b7d ∷ 0x56f0 ∷ 0x6ed6 ∷ 0x267f ∷ 0x5344 ∷ 0x8af1 ∷ 0xa786 ∷ 0x19ac ∷ 0x0881 ∷
    0x5bbf ∷ 0x2447 ∷ 0x7bd1 ∷ 0x1721 ∷ 0x1f0b ∷ 0x07ff ∷ 0xdd99 ∷ 0x7ae6 ∷ 0x72eb ∷ 0x157a ∷ 0x777e ∷ 0x59bd ∷ 0x3cb2 ∷ 0x7d88 ∷ 0x2092 ∷ 0x0bda ∷
    0x351b ∷ 0x6278 ∷ 0x1733 ∷ 0x5256 ∷ 0x90a9 ∷ 0xe4fc ∷ 0x4b64 ∷ 0x3a07 ∷ 0xafc9 ∷ 0x4136 ∷ 0x6f97 ∷ 0x212d ∷ 0x13d4 ∷ 0x61eb ∷ 0xf23b ∷ 0xca78 ∷
    0x51e9 ∷ 0x70ac ∷ 0x6fed ∷ 0x1f1b ∷ 0xf3c6 ∷ 0x0eae ∷ 0x5eb9 ∷ 0x4608 ∷ 0xf1e3 ∷ 0x4315 ∷ 0x6547 ∷ 0x4c4f ∷ 0x7578 ∷ 0x3f12 ∷ 0x1ca7 ∷ 0x06b6 ∷
    0x57df ∷ 0x20f8 ∷ 0x1309 ∷ 0x907d ∷ 0x0d11 ∷ 0x71dd ∷ 0xcef4 ∷ 0x87f3 ∷ 0x6929 ∷ 0x5c54 ∷ 0xc34d ∷ 0x61c7 ∷ 0xd2b4 ∷ 0x64cd ∷ 0x7067 ∷ 0x578a ∷
    0xfe85 ∷ 0xc84c ∷ 0x3695 ∷ 0x6826 ∷ 0x294f ∷ 0x1c3d ∷ 0xf4ad ∷ 0x6c87 ∷ 0x4b77 ∷ 0x52a0 ∷ 0x5f65 ∷ 0x0d1f ∷ 0x547a ∷ 0x1d81 ∷ 0x0af9 ∷ 0xb5ae ∷
    0x1f8e ∷ 0x2b78 ∷ 0x3614 ∷ 0x376b ∷ 0x35c9 ∷ 0x9b2f ∷ 0x146e ∷ 0x29a2 ∷ 0x30ee ∷ 0xcd68 ∷ 0x2e59 ∷ 0x53c3 ∷ 0x2d2a ∷ 0x0cd6 ∷ 0xb689 ∷ 0x7c4f ∷
    0xa75e ∷ 0xa5cf ∷ 0x0f3d ∷ 0x9a33 ∷ 0x0b34 ∷ 0x45e7 ∷ 0xd585 ∷ 0x8380 ∷ 0x2a1c ∷ 0x778a ∷ 0xed84 ∷ 0x7bf0 ∷ 0x74b4 ∷ 0xe6dc ∷ 0x7de6 ∷ 0x3d73 ∷
    0x4776 ∷ 0x417a ∷ 0x5348 ∷ 0x0abd ∷ 0x2e0c ∷ 0x3bbf ∷ 0x386d ∷ 0x54d1 ∷ 0x3b3b ∷ 0x1e59 ∷ 0x3f50 ∷ 0x3ec4 ∷ 0x5e96 ∷ 0x1049 ∷ 0x56e8 ∷ 0x05ed ∷
    0x5891 ∷ 0x6282 ∷ 0xcf99 ∷ 0x313c ∷ 0x5810 ∷ 0x8389 ∷ 0x79af ∷ 0x292b ∷ 0x0ddf ∷ 0xc044 ∷ 0x3250 ∷ 0x727e ∷ 0x1dd5 ∷ 0x25b2 ∷ 0x753e ∷ 0x650c ∷
    0x3c47 ∷ 0xdff4 ∷ 0x7f97 ∷ 0x209b ∷ 0x17d6 ∷ 0x4fc4 ∷ 0xd714 ∷ 0x9886 ∷ 0x16fe ∷ 0x09ea ∷ 0x168a ∷ 0x48fa ∷ 0xac00 ∷ 0xf10d ∷ 0x3335 ∷ []

multiples : listed (λ k. times 16 (get_or cofactors k 0) (suc k * 256)) 0 255 ≡ listed (λ k. start) 0 255
unfolding cofactors start bit_step
multiples = refl

multiple : (k : ℕ) → k < 255 → times 16 (get_or cofactors k 0) (suc k * 256) ≡ start
multiple = same (λ k. times 16 (get_or cofactors k 0) (suc k * 256)) (λ k. start) 255 multiples

-- How often a register comes among n of them, each a byte of zeros after the one before.
abbrev returns : ℕ → ℕ → ℕ → ℕ
returns x zero r = 0
returns x (suc n) r = cond (eqb r x) 1 0 + returns x n (byte_step r 0)

returned : (x n r k : ℕ) → k < n → zero_bytes k r ≡ x → returns x n r ≡ 0 → ⊥
returned x zero r k h e none = absurd (not-suc-le-zero h)
returned x (suc n) r zero h e none = omega (arith, rw (eq-eqb r x e) at none)
returned x (suc n) r (suc k) h e none = returned x n (byte_step r 0) k (le_of_suc-le-suc h) e (omega arith)

-- The places of two bytes of a frame are at most 255 apart, and within that x + 1 does not come back.
unfoldable distance : ℕ
distance = 255

never : returns start distance (byte_step start 0) ≡ 0
unfolding start distance byte_step bit_steps high_first bit_step
never = refl

-- Nor does a byte.
not_back : (byte n : ℕ) → byte < 256 → n < 255 → zero_bytes n (byte_step (byte * 256) 0) ≡ byte * 256 → byte ≡ 0
unfolding distance
not_back zero n h few e = refl
not_back (suc k) n h few e =
    let f = get_or cofactors k 0 in
    let is-start = multiple k (omega arith) in
    let back : zero_bytes (suc n) start ≡ start =
    ap (zero_bytes (suc n)) (sym is-start) ∙ zeros-times (suc n) 16 f (suc k * 256) ∙ ap (times 16 f) e ∙ is-start in
    absurd (returned start distance (byte_step start 0) n few back never)

-- Registers that two bytes, one each, make equal differ by what the bytes differ by, in the upper half,
met : (r s a b : ℕ) → r < 65536 → s < 65536 → a < 256 → b < 256 → byte_step r b ≡ byte_step s a → bit_xor r s ≡ bit_xor a b * 256
met r s a b hr hs ha hb e =
    let x = bit_xor r (b * 256) in
    let y = bit_xor s (a * 256) in
    let added : x ≡ y =
    byte_injective x y 0 (xor_lt 16 r (b * 256) hr (omega arith)) (xor_lt 16 s (a * 256) hs (omega arith)) (sym (frame_byte r b hb) ∙ e ∙ frame_byte s a ha) in
    xor_zero (bit_xor r s) (bit_xor (b * 256) (a * 256)) (sym (xor_pairs r (b * 256) s (a * 256)) ∙ ap (λ (z : ℕ). bit_xor z y) added ∙ xor_self y)
    ∙ xor_comm (b * 256) (a * 256) ∙ sym (xor_shl 8 a b)

-- and so do those that the bytes make of one register, a byte of zeros later.
parted : (r a b : ℕ) → a < 256 → b < 256 → bit_xor (byte_step r a) (byte_step r b) ≡ byte_step (bit_xor a b * 256) 0
parted r a b ha hb =
    sym (byte_linear r r a b) ∙ ap (λ (x : ℕ). byte_step x (bit_xor a b)) (xor_self r) ∙ sym (high_half (bit_xor a b) (xor_lt 8 a b ha hb))

pub exchanged_detected : ExchangedDetected
unfolding checksum byte_steps
exchanged_detected front between back a b ha hb few differ e =
    let apart : length between < 255 = omega (arith, rw (length-append, length-append) at few) in
    let r = byte_steps all_ones front in
    let u = byte_steps (byte_step r a) between in
    let v = byte_steps (byte_step r b) between in
    let hu : u < 65536 = bytes_below (byte_step r a) between (byte_below r a) in
    let hv : v < 65536 = bytes_below (byte_step r b) between (byte_below r b) in
    let ends : (x y : ℕ) → byte_steps all_ones (with_two front x between y back) ≡ byte_steps (byte_step (byte_steps (byte_step r x) between) y) back =
    λ x y. bytes-append all_ones front (x ∷ (between ++ (y ∷ back))) ∙ bytes-append (byte_step r x) between (y ∷ back) in
    let last : byte_step u b ≡ byte_step v a =
    bytes_injective (byte_step u b) (byte_step v a) back (byte_below u b) (byte_below v a) (sym (ends a b) ∙ e ∙ ends b a) in
    let back-again : zero_bytes (length between) (byte_step (bit_xor a b * 256) 0) ≡ bit_xor a b * 256 =
    ap (zero_bytes (length between)) (sym (parted r a b ha hb)) ∙ sym (difference (byte_step r a) (byte_step r b) between) ∙ met u v a b hu hv ha hb last in
    differ (xor_zero a b (not_back (bit_xor a b) (length between) (xor_lt 8 a b ha hb) apart back-again))
