-- Both round trips of CSP (demand 2): those of the data, after the type and the ID.
use Rattle.std.specs.Prelude.{None, Option, Some}
use Prim.Native.Nat.{ℕ, ◌≤◌}
use mathlib.Core.Bool.{true, false}
use mathlib.Core.List.{List, [], ◌∷◌, ◌++◌}
use mathlib.Core.Path.{◌≡◌, refl, ap, sym, ◌∙◌}
use native.Mathlib.Omega.{arith}
use borrow.Author.Tests.{le-leb}
use lib.ListN.{length}
use Rattle.message_rules.specs.Answer.{given, passed, require, after, written}
use Rattle.message_rules.specs.Data.{data_bytes, data_message, data_read}
use Rattle.message_rules.specs.Checks.{writable, write_checks}
use Rattle.message_rules.specs.Kinds.{type_number, type_kind, carried_on}
use Rattle.message_rules.specs.declared.Kind.{Kind}
use Rattle.message_rules.specs.declared.Message.{Message}
use Rattle.message_rules.proofs.Answers.{after-given}
use Rattle.message_rules.proofs.Data.{data-written, data_read_lem}
use Rattle.message_rules.proofs.Checks.{require-passed, plain-writable, writable-plain}
use Rattle.message_rules.proofs.Tables.{kind_of_type_lem, type_of_kind}
use Rattle.csp_rules.specs.Csp.{csp_carries, csp_typed, csp_read, csp_head, csp_write}

-- Reading what was written returns every carried field and the payload. CSP carries no addresses.
pub written-reads : (m : Message) (p b : List ℕ) → csp_write m p ≡ written b → csp_read b ≡ given (carried_on false true m) p
unfolding csp_write csp_read csp_typed csp_head carried_on data_bytes write_checks require after
written-reads m p b e =
    let g = after-given (write_checks csp_carries m (length p)) tt tt (csp_head m ++ p) b e in
    let w = require-passed (writable csp_carries m) 9 _ g.0 in
    let l = plain-writable m w.0 in
    let two : 2 ≤ length (csp_head m ++ p) = omega arith in
    let id : m.id ≡ (carried_on false true m).id = rw l.0 in
    rw (← g.2, le-leb _ _ two, kind_of_type_lem m.kind l.0) (ap (λ (i : ℕ). data_read m.kind i 0 0 (data_bytes m p)) id ∙ data-written false m p w.1 l.1)

-- Writing what was read returns the bytes: first of a known type,
typed_writes : (t id : ℕ) (d : List ℕ) (m : Message) (p : List ℕ) (k : Kind) → type_kind t ≡ Some k → data_read k id 0 0 d ≡ given m p → csp_write m p ≡ written (t ∷ id ∷ d)
unfolding csp_write csp_head data_bytes data_message write_checks require after
typed_writes t id d m p k q e =
    let r = data_read_lem k id 0 0 d m p e in
    let n = type_of_kind t k q in
    let kind : m.kind ≡ k = sym (ap (λ (c : Message). c.kind) r.0) in
    let same : m.id ≡ id = sym (ap (λ (c : Message). c.id) r.0) in
    let type : type_number m.kind ≡ t = rw kind n.0 in
    let passes : write_checks csp_carries m (length p) ≡ passed =
    rw (writable-plain m (rw kind n.1) r.1) r.2 in
    rw passes (ap written (cc (type, same, r.3)))

-- then of any bytes.
pub read_writes : (b : List ℕ) (m : Message) (p : List ℕ) → csp_read b ≡ given m p → csp_write m p ≡ written b
unfolding csp_read csp_typed require after
read_writes [] m p e = absurd (let z : ◌≡◌ {A = ℕ} 0 1 = cc in omega arith)
read_writes (t ∷ []) m p e = absurd (let z : ◌≡◌ {A = ℕ} 0 1 = cc in omega arith)
read_writes (t ∷ id ∷ d) m p e = by (type_kind t) refl
  where
    two : 2 ≤ length (t ∷ id ∷ d)
    two = omega arith

    by : (k : Option Kind) → type_kind t ≡ k → csp_write m p ≡ written (t ∷ id ∷ d)
    by None q = absurd (let z : ◌≡◌ {A = ℕ} 0 1 = cc (rw (le-leb _ _ two, q) at e) in omega arith)
    by (Some k) q = typed_writes t id d m p k q (rw (le-leb _ _ two, q) at e)
