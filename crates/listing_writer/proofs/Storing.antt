-- Stores past the end of a list leave it as it is. Carried by induction over the bytes stored.
use Prim.Native.Nat.{ℕ, suc, ◌+◌, ◌-◌, ◌≤◌, min}
use mathlib.Core.Bool.{Bool, true, false}
use mathlib.Core.List.{List, [], ◌∷◌, append_assoc}
use mathlib.Core.Path.{◌≡◌, refl, sym, ◌∙◌, ap}
use native.Mathlib.Omega.{arith}
use lib.ListN.{length, take, drop, take-append-drop}
use lib.Seq.{sets, sets-eq, set_out, length-sets, length-take-le, take-length, drop-drop}
use borrow.Author.Tests.{leb-true, leb-false}
use borrow.Rule.Slice.PartMut.{put_mid}
use lib.Dec.{leb}
use Rattle.message_rules.proofs.Stores.{sets-append}

pub sets_out : (s out : List ℕ) (at : ℕ) → length out ≤ at → sets out at s ≡ out
sets_out [] out at h = refl
sets_out (b ∷ s) out at h = rw (set_out out at b h) (sets_out s out (suc at) (omega arith))

-- So of a text no more need be stored than there is room for.
pub sets-room : (s out : List ℕ) (at n : ℕ) → at + n ≡ length out → n ≤ length s → sets out at (take n s) ≡ sets out at s
sets-room s out at n room short =
    let size : length (take n s) ≡ n = length-take-le n s short in
    let past : length (sets out at (take n s)) ≤ at + length (take n s) = rw (length-sets out at (take n s), size) (omega arith) in
    sym (sets_out (drop n s) (sets out at (take n s)) (at + length (take n s)) past) ∙ sets-append out at (take n s) (drop n s) ∙ ap (sets out at) (take-append-drop n s)

-- A part that is copied over an output's place: as much of a text as there is room for.
pub put_room : (s out : List ℕ) (at n : ℕ) → at ≤ length out → n ≡ min (length s) (length out - at) → put_mid at n out (take n s) ≡ sets out at s
put_room s out at n inside size =
    let whole : length (take n s) ≡ n = length-take-le n s (omega arith) in
    let stored : sets out at (take n s) ≡ put_mid at n out (take n s) = sets-eq (take n s) out at (omega (arith, whole)) ∙ rw (whole, drop-drop n at out, append_assoc) in
    sym stored ∙ by (leb (length s) (length out - at)) refl
  where
    by : (t : Bool) → leb (length s) (length out - at) ≡ t → sets out at (take n s) ≡ sets out at s
    by true q = let all : n ≡ length s = omega (arith, leb-true _ _ q) in rw (all, take-length)
    by false q = sets-room s out at n (omega (arith, leb-false _ _ q)) (omega arith)
