-- The steps of a scan at a place of the bytes, by the first two bytes there: a plain byte, a doubled ESC, the tail.
use Prim.Native.Nat.{ℕ, ◌+◌, ◌≤◌, ◌<◌}
use mathlib.Core.Bool.{Bool, true, false}
use mathlib.Core.List.{List, [], ◌∷◌}
use mathlib.Core.Path.{◌≡◌, refl, ap, sym, ◌∙◌}
use native.Mathlib.Nat.{add-zero}
use native.Mathlib.Numerals.{add-one}
use native.Mathlib.Omega.{arith}
use borrow.Author.Tests.{eqb-true, eqb-false, ltb-true, ltb-false}
use lib.Dec.{eqb, ltb}
use lib.ListN.{length, get_or, set, drop, length-drop, length-set}
use lib.Seq.{drop-cons, get_or-drop}
use Rattle.serial_rules.specs.Stuffing.{Scan, scan, escaped, stopped, more}
use Rattle.serial_rules.specs.declared.Stop.{Stop}
use Rattle.serial_rules.specs.declared.Stop.TheVariants.{Ended, Broken, Cut}
use Rattle.serial_rules.proofs.Scans.{step-plain, step-escaped, step_cut, step_end}
use Rattle.serial_reader.specs.Undouble.{Skipped, Storing, AtEscape}

-- Where a scan isn't cut at once there is a byte, and after an ESC another.
module _ (b : List ℕ) (i : ℕ) (not_cut : scan (drop i b) ≡ stopped Cut 0 → ⊥) where
  inside : i < length b
  inside = by (ltb i (length b)) refl
    where
      by : (t : Bool) → ltb i (length b) ≡ t → i < length b
      by true q = ltb-true _ _ q
      by false q = absurd (not_cut (step_end b i (ltb-false _ _ q)))

  escape : get_or b i 0 ≡ 0x1F → (i + 1 < length b) × (scan (drop i b) ≡ escaped (get_or b (i + 1) 0) (scan (drop (i + 2) b)))
  escape e = by (ltb (i + 1) (length b)) refl
    where
      by : (t : Bool) → ltb (i + 1) (length b) ≡ t → (i + 1 < length b) × (scan (drop i b) ≡ escaped (get_or b (i + 1) 0) (scan (drop (i + 2) b)))
      by true q = let h : i + 1 < length b = ltb-true _ _ q in (h, step-escaped b i h e)
      by false q =
          let h : length b ≤ i + 1 = ltb-false _ _ q in
          absurd (not_cut (step_cut b i (omega (arith, inside)) e))

-- The encoded byte at a place takes k bytes, and stands for the first of them.
pub record EncodedAt (b : List ℕ) (i k : ℕ) : Type 0 where
  pub scanned : scan (drop i b) ≡ more (get_or b i 0) k (scan (drop (i + k) b))
  pub fits : i + k ≤ length b

module _ (b : List ℕ) (i : ℕ) where
  pub plain_byte : i < length b → (get_or b i 0 ≡ 0x1F → ⊥) → EncodedAt b i 1
  plain_byte h ne = record { scanned = step-plain b i h ne; fits = omega arith }

  -- An ESC where the scan doesn't stop is doubled.
  doubled-byte : (scan (drop i b) ≡ stopped Cut 0 → ⊥) → (scan (drop i b) ≡ stopped Broken 0 → ⊥) → (get_or b (i + 1) 0 ≡ 0xFF → scan (drop i b) ≡ stopped Ended 2 → ⊥) → get_or b i 0 ≡ 0x1F → EncodedAt b i 2
  unfolding escaped
  doubled-byte cut broken ended e = by (eqb next 0x1F) (eqb next 0xFF) refl refl
    where
      next : ℕ
      next = get_or b (i + 1) 0

      at : (i + 1 < length b) × (scan (drop i b) ≡ escaped next (scan (drop (i + 2) b)))
      at = escape b i cut e

      by : (t u : Bool) → eqb next 0x1F ≡ t → eqb next 0xFF ≡ u → EncodedAt b i 2
      by true u p q = record { scanned = at.1 ∙ rw (p, e); fits = omega (arith, at.0) }
      by false true p q = absurd (ended (eqb-true next 0xFF q) (at.1 ∙ rw (p, q)))
      by false false p q = absurd (broken (at.1 ∙ rw (p, q)))

-- Where a body is left, the scan doesn't stop.
module _ (b : List ℕ) (i : ℕ) (left : 0 < length (scan (drop i b)).body) where
  not_stopped : (how : Stop) (n : ℕ) → scan (drop i b) ≡ stopped how n → ⊥
  not_stopped how n e = omega (arith, ap (λ (r : Scan). length r.body) e)

  pub left-inside : i < length b
  left-inside = inside b i (not_stopped Cut 0)

  pub left-doubled : get_or b i 0 ≡ 0x1F → EncodedAt b i 2
  left-doubled = doubled-byte b i (not_stopped Cut 0) (not_stopped Broken 0) (λ _. not_stopped Ended 2)

  -- Plain or doubled, an encoded byte stands for the first of its bytes.
  pub left-byte : get_or (scan (drop i b)).body 0 0 ≡ get_or b i 0
  left-byte = by (eqb (get_or b i 0) 0x1F) refl
    where
      by : (t : Bool) → eqb (get_or b i 0) 0x1F ≡ t → get_or (scan (drop i b)).body 0 0 ≡ get_or b i 0
      by true q = rw (left-doubled (eqb-true (get_or b i 0) 0x1F q)).scanned
      by false q = rw (plain_byte b i left-inside (eqb-false (get_or b i 0) 0x1F q)).scanned

-- Where a scan finds the tail, an ESC is doubled or is the tail's.
module _ (b : List ℕ) (i : ℕ) (ended : (scan (drop i b)).stop ≡ Ended) where
  not_cut : scan (drop i b) ≡ stopped Cut 0 → ⊥
  not_cut e = let z : ◌≡◌ {A = ℕ} 0 1 = cc (ap (λ (r : Scan). r.stop) e) in omega arith

  not_broken : scan (drop i b) ≡ stopped Broken 0 → ⊥
  not_broken e = let z : ◌≡◌ {A = ℕ} 0 1 = cc (ap (λ (r : Scan). r.stop) e) in omega arith

  pub ended-inside : i < length b
  ended-inside = inside b i not_cut

  module _ (e : get_or b i 0 ≡ 0x1F) where
    pub ended-next : i + 1 < length b
    ended-next = (escape b i not_cut e).0

    pub ended-tail : get_or b (i + 1) 0 ≡ 0xFF → (scan (drop i b)).body ≡ []
    unfolding escaped
    ended-tail q = rw ((escape b i not_cut e).1, q)

    pub ended-doubled : (get_or b (i + 1) 0 ≡ 0xFF → ⊥) → EncodedAt b i 2
    ended-doubled ne = doubled-byte b i not_cut not_broken (λ q _. ne q) e

-- One encoded byte more.
module _ (b : List ℕ) (from i at : ℕ) (h : Skipped b from i at) (l : i < length (scan (drop from b)).body) where
  left : 0 < length (scan (drop at b)).body
  left = rw (h.body, length-drop) (omega arith)

  skip-more : (k : ℕ) → EncodedAt b at k → Skipped b from (i + 1) (at + k)
  skip-more k u =
      let body : (scan (drop at b)).body ≡ get_or b at 0 ∷ (scan (drop (at + k) b)).body = ap (λ (r : Scan). r.body) u.scanned in
      let stop : (scan (drop at b)).stop ≡ (scan (drop (at + k) b)).stop = ap (λ (r : Scan). r.stop) u.scanned in
      let consumed : (scan (drop at b)).consumed ≡ k + (scan (drop (at + k) b)).consumed = ap (λ (r : Scan). r.consumed) u.scanned in
      record { body = rw add-one (cc (drop-cons (scan (drop from b)).body i 0 l)); stop = cc; end = omega arith }

  pub skip-inside : at < length b
  skip-inside = left-inside b at left

  pub skip-byte : get_or b at 0 ≡ get_or (scan (drop from b)).body i 0
  skip-byte = sym (left-byte b at left) ∙ rw (h.body, get_or-drop, add-zero)

  pub skip-plain : (get_or b at 0 ≡ 0x1F → ⊥) → Skipped b from (i + 1) (at + 1)
  skip-plain ne = skip-more 1 (plain_byte b at skip-inside ne)

  pub skip-doubled : get_or b at 0 ≡ 0x1F → (at + 2 ≤ length b) × Skipped b from (i + 1) (at + 2)
  skip-doubled e = let u = left-doubled b at left e in (u.fits, skip-more 2 u)

-- One byte of the body stored.
pub store_byte : (b whole out : List ℕ) (at k to : ℕ) → Storing b whole out at to → EncodedAt b at k → (to < length out) × Storing b whole (set out to (get_or b at 0)) (at + k) (to + 1)
store_byte b whole out at k to h u =
    let body : (scan (drop at b)).body ≡ get_or b at 0 ∷ (scan (drop (at + k) b)).body = ap (λ (r : Scan). r.body) u.scanned in
    let stop : (scan (drop at b)).stop ≡ (scan (drop (at + k) b)).stop = ap (λ (r : Scan). r.stop) u.scanned in
    let size = ap length body in
    (omega arith, record { fits = record { ended = cc; room = rw length-set (omega arith) }; same = rw add-one (rw body at h.same) })

-- At an ESC: a doubled one is stored once, and at the tail all is stored.
module _ (b whole out : List ℕ) (at to : ℕ) (h : AtEscape b whole out at to) where
  pub store-doubled : (v : ℕ) → v ≡ 0x1F → (get_or b (at + 1) 0 ≡ 0xFF → ⊥) → (to < length out) × Storing b whole (set out to v) (at + 2) (to + 1)
  store-doubled v e ne =
      rw (h.escape ∙ sym e) at (store_byte b whole out at 2 to h.left (ended-doubled b at h.left.fits.ended h.escape ne))

  pub store_tail : get_or b (at + 1) 0 ≡ 0xFF → out ≡ whole
  store_tail q = rw (ended-tail b at h.left.fits.ended h.escape q) at h.left.same
