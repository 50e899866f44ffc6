-- The turns of the scan's loop, by the steps of the definition: what a scan from a place finds is what a scan from the place reached finds,
-- after what was counted.
use Prim.Native.Nat.{ℕ, ◌+◌, ◌-◌, ◌≤◌, ◌<◌}
use mathlib.Core.List.{List}
use mathlib.Core.Path.{◌≡◌, refl, sym, ◌∙◌}
use native.Mathlib.Nat.{add-zero}
use native.Mathlib.Omega.{arith}
use borrow.Author.Tests.{ne_eqb}
use lib.ListN.{length, get_or, take, drop, length-drop}
use lib.Seq.{get_or-drop}
use Rattle.message_rules.proofs.Parts.{part-from}
use Rattle.serial_rules.specs.Stuffing.{Scan, stopped, more, escaped, scan}
use Rattle.serial_rules.specs.declared.Stop.{Stop}
use Rattle.serial_rules.specs.declared.Stop.TheVariants.{Ended, Broken, Cut}
use Rattle.serial_rules.proofs.Scans.{step-plain, step-escaped, step_cut, step_end}
use Rattle.serial_scan.specs.Scan.{found, scan_from}

-- The rest of a scan from `from` that has come to `at` over `count` bytes of the body.
pub record Rest (b : List ℕ) (from at count : ℕ) (rest : Scan) : Type 0 where
  pub stop : (scan (drop from b)).stop ≡ rest.stop
  pub end : from + (scan (drop from b)).consumed ≡ at + rest.consumed
  pub body : length (scan (drop from b)).body ≡ count + length rest.body
  pub reached : count + from ≤ at

module _ {b : List ℕ} {from at count : ℕ} where
  rest_more : {x n : ℕ} {s : Scan} → 1 ≤ n → Rest b from at count (more x n s) → Rest b from (at + n) (count + 1) s
  rest_more h r = record { stop = r.stop; end = omega arith; body = omega arith; reached = omega arith }

  rest_stops : {how : Stop} {n end : ℕ} → end ≡ at + n → Rest b from at count (stopped how n) → found how end count ≡ scan_from b from
  rest_stops e r = rw (r.stop, r.end, r.body, add-zero count, e)

-- Before a turn, with the link's ESC and tail.
pub record Turn (b : List ℕ) (from e t at count : ℕ) : Type 0 where
  pub esc : e ≡ 0x1F
  pub tail : t ≡ 0xFF
  pub rest : Rest b from at count (scan (drop at b))

module _ {b : List ℕ} {from e t at count : ℕ} (h : Turn b from e t at count) where
  next_turn : {x n : ℕ} → 1 ≤ n → scan (drop at b) ≡ more x n (scan (drop (at + n) b)) → Turn b from e t (at + n) (count + 1)
  next_turn l q = record { esc = h.esc; tail = h.tail; rest = rest_more l (rw q at h.rest) }

  stops : {how : Stop} {n end : ℕ} → end ≡ at + n → scan (drop at b) ≡ stopped how n → found how end count ≡ scan_from b from
  stops e q = rest_stops e (rw q at h.rest)

  pub turn_end : length b ≤ at → found Cut at count ≡ scan_from b from
  turn_end l = stops (sym (add-zero at)) (step_end b at l)

  -- What is left of the bytes.
  abbrev left : List ℕ
  left = take (length b - at) (drop at b)

  inside : (n : ℕ) → 1 ≤ n → n ≤ length left → at + n ≤ length b
  inside n one l = omega (arith, length-drop at b, rw part-from at l)

  first : get_or left 0 0 ≡ get_or b at 0
  first = rw (part-from, get_or-drop, add-zero)

  second : get_or left 1 0 ≡ get_or b (at + 1) 0
  second = rw (part-from, get_or-drop)

  pub turn_plain : 1 ≤ length left → (get_or left 0 0 ≡ e → ⊥) → Turn b from e t (at + 1) (count + 1)
  turn_plain l other = next_turn (omega arith) (step-plain b at (omega (arith, inside 1 (omega arith) l)) (λ q. other (first ∙ q ∙ sym h.esc)))

  -- At an ESC.
  module _ (q : get_or left 0 0 ≡ e) where
    escape : get_or b at 0 ≡ 0x1F
    escape = sym first ∙ q ∙ h.esc

    pub turn_cut : at < length b → length left < 2 → found Cut at count ≡ scan_from b from
    turn_cut l short = stops (sym (add-zero at)) (step_cut b at (omega (arith, length-drop at b, rw part-from at short)) escape)

    module _ (l : 2 ≤ length left) where
      pair : scan (drop at b) ≡ escaped (get_or left 1 0) (scan (drop (at + 2) b))
      pair = rw second (step-escaped b at (omega (arith, inside 2 (omega arith) l)) escape)

      pub turn_ended : get_or left 1 0 ≡ t → found Ended (at + 2) count ≡ scan_from b from
      unfolding escaped
      turn_ended n = stops refl (pair ∙ rw (n, h.tail))

      pub turn_doubled : get_or left 1 0 ≡ e → Turn b from e t (at + 2) (count + 1)
      unfolding escaped
      turn_doubled n = next_turn {x = 0x1F} (omega arith) (pair ∙ rw (n, h.esc))

      pub turn_broken : (get_or left 1 0 ≡ t → ⊥) → (get_or left 1 0 ≡ e → ⊥) → found Broken at count ≡ scan_from b from
      unfolding escaped
      turn_broken m n =
          stops (sym (add-zero at)) (pair ∙ rw (ne_eqb _ 0x1F (rw h.esc at n), ne_eqb _ 0xFF (rw h.tail at m)))
