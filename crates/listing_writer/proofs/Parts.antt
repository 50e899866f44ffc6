-- One text after another is the two as one. Carried by the law of stores that go on where others stopped.
use Rattle.std.proofs.Common.{◌≡◌, ℕ, ◌+◌, ◌/◌, ◌%◌, ◌<◌, ◌≤◌, List, [], ◌∷◌, ◌++◌, length, ◌∙◌, arith}
use Rattle.std.proofs.lemmas.List.{length-append}
use Rattle.text_rules.specs.Numbers.{decimal}
use Rattle.text_rules.proofs.Printing.{decimal_digit, decimal-more}
use Rattle.message_rules.proofs.Stores.{put-more}
use Rattle.listing_rules.specs.Lines.{name_text, field_text, spaced, line_text}
use Rattle.listing_rules.specs.declared.Line.{Line}
use Rattle.listing_rules.proofs.Sizes.{line-size, digit_byte}
use Rattle.listing_writer.specs.Put.{HasRoom, Puts}
use Rattle.listing_writer.specs.declared.put.Text.{Text}

-- Where there is room for both, there is for the first, and behind it for the second.
module _ (a b : List ℕ) {t : Text} where
  pub has_first : HasRoom (a ++ b) t → HasRoom a t
  has_first h = record { room = omega (arith, rw length-append at h.room) }

  pub has_second : {u : Text} → HasRoom (a ++ b) t → Puts a t u → HasRoom b u
  has_second h p = record { room = omega (arith, rw length-append at h.room, p.at) }

  pub puts_more : {u v : Text} → Puts a t u → Puts b u v → Puts (a ++ b) t v
  puts_more {u} {v} p q =
      let both = put-more a b t.out.now u.out.now v.out.now t.at u.at v.at (p.at, p.out) (q.at, q.out) in
      record { at = both.0; out = both.1; same = q.same ∙ p.same }

-- The length of a line, field by field.
pub line_size : (l : Line) → length (line_text l) ≡ length (decimal l.at) + length (spaced (name_text l.name)) + length (spaced (field_text l.id)) + length (spaced (field_text l.len)) + length (spaced (field_text l.code)) + 1
line_size l = line-size l

-- The digits of a number: its last one alone, or after those of its tenth.
pub last_digit : (n : ℕ) → n < 10 → decimal n ≡ (48 + n % 10) ∷ []
last_digit n h =
    let same : n % 10 ≡ n = omega arith in
    rw (same, decimal_digit n h, digit_byte n h)

pub more_digits : (n : ℕ) → 10 ≤ n → decimal n ≡ decimal (n / 10) ++ (48 + n % 10) ∷ []
more_digits n h =
    let last : n % 10 < 10 = omega arith in
    rw (digit_byte (n % 10) last) (decimal-more n h)
