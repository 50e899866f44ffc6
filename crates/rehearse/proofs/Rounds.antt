-- What a rehearsal leaves after each turn, carried by the law of one round more; and its three ends.
use Rattle.std.specs.Prelude.{Err, Ok, Result}
use Prim.Native.Nat.{ℕ, ◌+◌, ◌-◌}
use mathlib.Core.Bool.{Bool, true, false, not, ◌||◌}
use mathlib.Core.List.{List}
use mathlib.Core.Path.{◌≡◌, refl, sym, ◌∙◌}
use native.Mathlib.Numerals.{add-one}
use native.Mathlib.Omega.{arith}
use borrow.Author.Tests.{eq-eqb}
use Rattle.message_rules.specs.Answer.{verdict_result}
use Rattle.message_rules.specs.declared.Refusal.{Refusal}
use Rattle.device_rules.specs.declared.Device.{Device}
use Rattle.round_rules.proofs.Rounds.{rest, made_more, refusal-more}
use Rattle.round_rules.specs.Rounds.{nothing_sent, round_made, round_refusal, rounds_made, rounds_refusal}
use Rattle.round_rules.specs.Requester.{is_running}
use Rattle.round_rules.specs.World.{is_failed}
use Rattle.sender_rules.specs.Sending.{sending}
use Rattle.sender_rules.specs.declared.Sender.{Sender}
use Rattle.rehearse.specs.Course.{round_of, rounds_of}
use Rattle.rehearse.specs.Rounds.{Leaves, run_over}
use Rattle.rehearse.specs.declared.course.Course.{Course}
use Rattle.rehearse.specs.declared.run.Ran.{Ran}

-- Unit and sender after n rounds, and after n of which none was refused.
abbrev pub ran : Device → Sender → Result Unit Refusal → ℕ → Ran
ran d s v n = record { device = d; sender = s; verdict = v; count = n }

abbrev pub after : Device → Sender → ℕ → Ran
after d s n = ran d s (Ok tt) n

module _ (file : List ℕ) (d : Device) (store : List ℕ) (s : Sender) (c : Course) where
  pub none_made : Leaves file d store s c (after d s 0) store
  unfolding verdict_result rounds_of rounds_made rounds_refusal
  none_made = record { unit = refl; asking = refl; kept = refl; refusal = refl; earlier = refl; ran = λ h. absurd (omega arith) }

  -- A round more, passed or refused.
  pub one_more_lem : (d₁ : Device) (s₁ : Sender) (n : ℕ) (store₁ : List ℕ) → is_running s₁.state ≡ true → Leaves file d store s c (after d₁ s₁ n) store₁
      → (d₂ : Device) (s₂ : Sender) (v : Result Unit Refusal) (store₂ : List ℕ)
      → verdict_result v ≡ round_refusal (sending file) (nothing_sent d₁ store₁ s₁) (round_of c n)
      → d₂ ≡ (round_made (sending file) (nothing_sent d₁ store₁ s₁) (round_of c n)).device
      → s₂ ≡ (round_made (sending file) (nothing_sent d₁ store₁ s₁) (round_of c n)).requester
      → store₂ ≡ (round_made (sending file) (nothing_sent d₁ store₁ s₁) (round_of c n)).store
      → Leaves file d store s c (ran d₂ s₂ v (n + 1)) store₂
  unfolding verdict_result rounds_of
  one_more_lem d₁ s₁ n store₁ on l d₂ s₂ v store₂ x y z t =
      let w = nothing_sent d store s in
      let made = sym (made_more (sending file) w (rounds_of c n) (round_of c n)) in
      let says = sym (refusal-more (sending file) w (rounds_of c n) (round_of c n) (sym l.refusal)) in
      let same : nothing_sent d₁ store₁ s₁ ≡ rest (sending file) (rounds_made (sending file) w (rounds_of c n)) = rw (l.unit, l.asking, l.kept) in
      let fewer : n + 1 - 1 ≡ n = omega arith in
      record {
        unit = rw add-one (y ∙ rw (same, made));
        asking = rw add-one (z ∙ rw (same, made));
        kept = rw add-one (t ∙ rw (same, made));
        refusal = rw add-one (x ∙ rw same says);
        earlier = rw fewer (sym l.refusal);
        ran = λ h. rw (fewer, ← l.asking) on;
      }

-- The three ends.
pub over-refused : (r : Ran) (f : Refusal) → r.verdict ≡ Err f → run_over r ≡ true
unfolding run_over verdict_result is_failed
over-refused r f e = rw e

pub over-ended : (d : Device) (s : Sender) (n : ℕ) → is_running s.state ≡ false → run_over (after d s n) ≡ true
unfolding run_over verdict_result is_failed
over-ended d s n e = rw e

pub over_bound : (d : Device) (s : Sender) (n : ℕ) → n ≡ 13107050 → run_over (after d s n) ≡ true
unfolding run_over verdict_result is_failed
over_bound d s n e = rw (eq-eqb n 13107050 e) (by (is_running s.state) refl)
  where
    by : (t : Bool) → is_running s.state ≡ t → (not (is_running s.state) || true) ≡ true
    by true q = rw q
    by false q = rw q
