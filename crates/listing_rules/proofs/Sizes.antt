-- The lengths and digits of a line's text: carried by the sum over its fields, and by a number's tenth.
use Prim.Native.Nat.{ℕ, ◌+◌, ◌/◌, ◌≤◌, ◌<◌}
use mathlib.Core.Path.{◌≡◌}
use borrow.Author.Tests.{lt-ltb}
use lib.ListN.{length, length-append}
use Rattle.text_rules.proofs.Printing.{decimal-more}
use Rattle.text_rules.specs.Digits.{digit_of}
use Rattle.text_rules.specs.Numbers.{decimal}
use Rattle.listing_rules.specs.Lines.{name_text, field_text, spaced, line_text}
use Rattle.listing_rules.specs.declared.Line.{Line}

-- The length of a line, field by field.
pub line-size : (l : Line) → length (line_text l) ≡ length (decimal l.at) + length (spaced (name_text l.name)) + length (spaced (field_text l.id)) + length (spaced (field_text l.len)) + length (spaced (field_text l.code)) + 1
unfolding line_text
line-size l = simp length-append

-- The digits of a number: one, or those of its tenth with one more after them. Each byte is the digit's.
pub digit_byte : (n : ℕ) → n < 10 → 48 + n ≡ digit_of n
unfolding digit_of
digit_byte n h = rw (lt-ltb n 10 h)

pub more-size : (n : ℕ) → 10 ≤ n → length (decimal n) ≡ length (decimal (n / 10)) + 1
more-size n h = rw (decimal-more n h, length-append)
