-- Parts of a slice, by the laws of taking and dropping: what `&s[n..]` lends, and what `&mut s[n..]` gives back.
use Prim.Native.Nat.{ℕ, ◌-◌, ◌≤◌}
use mathlib.Core.Path.{◌≡◌}
use mathlib.Core.List.{List, ◌++◌, append-nil}
use borrow.Rule.Slice.PartMut.{put_mid, Post-is}
use native.Mathlib.Nat.{le_refl}
use lib.ListN.{length, take, drop, length-drop}
use lib.Seq.{take_all, drop-length}

-- `&s[n..]` is the list from n on.
pub part-from : (n : ℕ) (l : List ℕ) → take (length l - n) (drop n l) ≡ drop n l
part-from n l = take_all (length l - n) (drop n l) (rw length-drop (le_refl (length l - n)))

-- What was lent as `&mut s[n..]` comes back after the first n.
pub put-from : (n : ℕ) (l new : List ℕ) → n ≤ length l → put_mid n (length l - n) l new ≡ take n l ++ new
put-from n l new h = rw (Post-is n (length l) l h, drop-length, append-nil)
