-- The laws of doubling and scanning, by the steps of the scan: a doubled body scans to that body, and what scans to a body is that body
-- doubled.
use Prim.Native.Nat.{ℕ, suc, ◌+◌, ◌≤◌, ◌<◌}
use mathlib.Core.Bool.{Bool, true, false}
use mathlib.Core.List.{List, [], ◌∷◌, ◌++◌}
use mathlib.Core.Path.{◌≡◌, refl, ap}
use native.Mathlib.Numerals.{add-one}
use native.Mathlib.Omega.{arith}
use borrow.Author.Tests.{eqb-true, ne_eqb}
use lib.Dec.{eqb}
use lib.ListN.{length, get_or, drop, drop_of_length-le}
use lib.Seq.{drop-cons}
use Rattle.serial_rules.specs.Stuffing.{doubled, Scan, scan, escaped, stopped, more}
use Rattle.serial_rules.specs.declared.Stop.TheVariants.{Ended, Cut}

-- A plain byte in front.
pub scan-plain : (b : ℕ) (s : List ℕ) → eqb b 0x1F ≡ false → scan (b ∷ s) ≡ more b 1 (scan s)
unfolding scan
scan-plain b [] h = rw h
scan-plain b (x ∷ s) h = rw h

-- ESC with the byte after it in front.
pub scan-escaped : (x : ℕ) (s : List ℕ) → scan (0x1F ∷ x ∷ s) ≡ escaped x (scan s)
unfolding scan
scan-escaped x s = refl

-- The scan of a doubled body with its tail.
pub scan-doubled : (d rest : List ℕ) → scan (doubled d ++ (0x1F ∷ 0xFF ∷ rest)) ≡ record { stop = Ended; consumed = length (doubled d) + 2; body = d }
unfolding doubled scan escaped
scan-doubled [] rest = refl
scan-doubled (b ∷ d) rest = by (scan-doubled d rest) (eqb b 0x1F) refl
  where
    tail : List ℕ
    tail = 0x1F ∷ 0xFF ∷ rest

    by : scan (doubled d ++ tail) ≡ record { stop = Ended; consumed = length (doubled d) + 2; body = d } → (t : Bool) → eqb b 0x1F ≡ t
        → scan (doubled (b ∷ d) ++ tail) ≡ record { stop = Ended; consumed = length (doubled (b ∷ d)) + 2; body = b ∷ d }
    by again true q =
        let e : 2 + (length (doubled d) + 2) ≡ suc (suc (length (doubled d))) + 2 = omega arith in
        rw (q, again, e, eqb-true b 0x1F q)
    by again false q =
        let e : 1 + (length (doubled d) + 2) ≡ suc (length (doubled d)) + 2 = omega arith in
        rw (q, scan-plain b (doubled d ++ tail) q, again, e)

-- What scans to the end is the body doubled, with its tail, and what is left.
abbrev Doubled : List ℕ → Scan → Type 0
Doubled s r = s ≡ doubled r.body ++ (0x1F ∷ 0xFF ∷ drop r.consumed s)

pair-doubled : (x : ℕ) (s : List ℕ) → ((scan s).stop ≡ Ended → Doubled s (scan s)) → (escaped x (scan s)).stop ≡ Ended → Doubled (0x1F ∷ x ∷ s) (escaped x (scan s))
unfolding escaped doubled
pair-doubled x s again e = by (eqb x 0x1F) refl (eqb x 0xFF) refl
  where
    by : (t : Bool) → eqb x 0x1F ≡ t → (u : Bool) → eqb x 0xFF ≡ u → Doubled (0x1F ∷ x ∷ s) (escaped x (scan s))
    by true q u v =
        let two : 2 + (scan s).consumed ≡ suc (suc (scan s).consumed) = omega arith in
        rw (q, eqb-true x 0x1F q, two) (ap (λ (l : List ℕ). 0x1F ∷ 0x1F ∷ l) (again (rw q at e)))
    by false q true v = rw (q, v, eqb-true x 0xFF v)
    by false q false v = absurd (let z : ◌≡◌ {A = ℕ} 0 1 = cc (rw (q, v) at e) in omega arith)

plain-doubled : (b : ℕ) (s : List ℕ) → eqb b 0x1F ≡ false → ((scan s).stop ≡ Ended → Doubled s (scan s)) → (scan s).stop ≡ Ended → Doubled (b ∷ s) (more b 1 (scan s))
unfolding doubled
plain-doubled b s q again e =
    let one : 1 + (scan s).consumed ≡ suc (scan s).consumed = omega arith in
    rw (q, one) (ap (λ (l : List ℕ). b ∷ l) (again e))

pub doubled-scan : (s : List ℕ) → (scan s).stop ≡ Ended → Doubled s (scan s)
unfolding scan
doubled-scan [] e = absurd (let z : ◌≡◌ {A = ℕ} 0 1 = cc in omega arith)
doubled-scan (b ∷ []) e = by (eqb b 0x1F) refl
  where
    by : (t : Bool) → eqb b 0x1F ≡ t → Doubled (b ∷ []) (scan (b ∷ []))
    by true q = absurd (let z : ◌≡◌ {A = ℕ} 0 1 = cc (rw q at e) in omega arith)
    by false q = absurd (let z : ◌≡◌ {A = ℕ} 0 1 = cc (rw q at e) in omega arith)
doubled-scan (b ∷ x ∷ s) e = by (doubled-scan s) (doubled-scan (x ∷ s)) (eqb b 0x1F) refl
  where
    by : ((scan s).stop ≡ Ended → Doubled s (scan s)) → ((scan (x ∷ s)).stop ≡ Ended → Doubled (x ∷ s) (scan (x ∷ s))) → (t : Bool) → eqb b 0x1F ≡ t
        → Doubled (b ∷ x ∷ s) (scan (b ∷ x ∷ s))
    by again next true q = rw (q, eqb-true b 0x1F q) (pair-doubled x s again (rw q at e))
    by again next false q = rw q (plain-doubled b (x ∷ s) q next (rw q at e))

-- One step of a scan from a place of the input on.
module _ (bytes : List ℕ) (at : ℕ) where
  pub step-plain : at < length bytes → (get_or bytes at 0 ≡ 0x1F → ⊥) → scan (drop at bytes) ≡ more (get_or bytes at 0) 1 (scan (drop (at + 1) bytes))
  step-plain h n = rw (add-one, drop-cons bytes at 0 h) (scan-plain _ _ (ne_eqb _ _ n))

  pub step-escaped : at + 1 < length bytes → get_or bytes at 0 ≡ 0x1F → scan (drop at bytes) ≡ escaped (get_or bytes (at + 1) 0) (scan (drop (at + 2) bytes))
  step-escaped h e =
      let one : at + 1 ≡ suc at = omega arith in
      let two : at + 2 ≡ suc (suc at) = omega arith in
      rw (one, two, drop-cons bytes at 0 (omega arith), e, drop-cons bytes (suc at) 0 (omega arith)) (scan-escaped _ _)

  pub step_cut : at + 1 ≡ length bytes → get_or bytes at 0 ≡ 0x1F → scan (drop at bytes) ≡ stopped Cut 0
  unfolding scan
  step_cut h e = rw (drop-cons bytes at 0 (omega arith), e, drop_of_length-le bytes {i = suc at} (omega arith))

  pub step_end : length bytes ≤ at → scan (drop at bytes) ≡ stopped Cut 0
  unfolding scan
  step_end h = rw (drop_of_length-le bytes h)
