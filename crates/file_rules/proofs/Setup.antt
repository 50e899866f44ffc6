-- Reading and writing a setup's payload undo each other: carried by the laws of little-endian numbers, four bytes at a time.
use Rattle.file_rules.specs.declared.Announcement.{Announcement}
use Rattle.std.specs.Prelude.{Option, Some, None}
use Prim.Native.Nat.{ℕ, zero, suc, ◌<◌}
use mathlib.Core.Bool.{Bool, true, false}
use mathlib.Core.List.{List, [], ◌∷◌, ◌++◌}
use mathlib.Core.Path.{◌≡◌, refl, ap, ◌∙◌}
use native.Mathlib.Omega.{arith}
use borrow.Author.Tests.{eqb-true}
use lib.Dec.{eqb}
use lib.ListN.{length, take, drop, length-append, length-take, length-drop, take-append-drop}
use lib.Seq.{take_at, drop_at}
use Rattle.little_endian_rules.specs.LittleEndian.{Bytes, from_bytes, to_bytes}
use Rattle.little_endian_rules.proofs.Laws.{to-length, from_to_lem, to-from}
use Rattle.file_rules.specs.Setup.{setup_bytes, setup_read, announced}

pub written-length : (size number : ℕ) → length (setup_bytes size number) ≡ 8
unfolding setup_bytes
written-length size number = rw (length-append, to-length 4 size, to-length 4 number)

-- "Reading what was written returns every carried field",
pub written_read : (size number : ℕ) → size < 4294967296 → number < 4294967296 → setup_read (setup_bytes size number) ≡ announced size number
unfolding setup_read setup_bytes
written_read size number small few =
    rw (
      length-append,
      to-length 4 size,
      to-length 4 number,
      take_at (to_bytes 4 size) (to_bytes 4 number) 4 (to-length 4 size),
      drop_at (to_bytes 4 size) (to_bytes 4 number) 4 (to-length 4 size),
      from_to_lem 4 size (omega arith),
      from_to_lem 4 number (omega arith),
    )

take-bytes : (n : ℕ) (p : List ℕ) → Bytes p → Bytes (take n p)
take-bytes zero p h = tt
take-bytes (suc n) [] h = tt
take-bytes (suc n) (b ∷ p) h = (h.0, take-bytes n p h.1)

drop-bytes : (n : ℕ) (p : List ℕ) → Bytes p → Bytes (drop n p)
drop-bytes zero p h = h
drop-bytes (suc n) [] h = tt
drop-bytes (suc n) (b ∷ p) h = drop-bytes n p h.1

-- What an announcement says decides both of its numbers.
abbrev size-said : Option Announcement → ℕ
size-said None = 0
size-said (Some s) = s.size

abbrev number-said : Option Announcement → ℕ
number-said None = 0
number-said (Some s) = s.number

-- and "writing what was read returns the bytes".
pub read-written : (p : List ℕ) (size number : ℕ) → Bytes p → setup_read p ≡ announced size number → setup_bytes size number ≡ p
unfolding setup_read setup_bytes
read-written p size number bytes h = by (eqb (length p) 8) refl
  where
    by : (b : Bool) → eqb (length p) 8 ≡ b → to_bytes 4 size ++ to_bytes 4 number ≡ p
    by false e = absurd (let z : ◌≡◌ {A = ℕ} 0 1 = cc (rw e at h) in omega arith)
    by true e =
        let eight : length p ≡ 8 = eqb-true (length p) 8 e in
        let says : announced (from_bytes (take 4 p)) (from_bytes (drop 4 p)) ≡ announced size number = rw e at h in
        let same_size : from_bytes (take 4 p) ≡ size = ap size-said says in
        let same_number : from_bytes (drop 4 p) ≡ number = ap number-said says in
        let four : length (take 4 p) ≡ 4 = rw length-take (omega (arith, eight)) in
        let rest : length (drop 4 p) ≡ 4 = rw length-drop (omega (arith, eight)) in
        rw (← same_size, ← same_number) (ap (λ (x : List ℕ). x ++ to_bytes 4 (from_bytes (drop 4 p))) (rw four at (to-from (take 4 p) (take-bytes 4 p bytes)))
        ∙ ap (λ (x : List ℕ). take 4 p ++ x) (rw rest at (to-from (drop 4 p) (drop-bytes 4 p bytes)))
        ∙ take-append-drop 4 p)
